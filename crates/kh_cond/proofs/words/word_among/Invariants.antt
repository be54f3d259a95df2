use Rattle.std.proofs.Common.{◌≡◌, drop}
use Rattle.std.specs.List.{find}
use Rattle.std.specs.Str.{bytes_eq}
use Rattle.kh_cond.specs.Words.{word_text}
use Rattle.kh_cond.proofs.words.word_among.Given as goal

abbrev pub invariant-loop-word : goal.invariant-loop-word
invariant-loop-word l = find (λ w. bytes_eq l.text (word_text w)) (drop l.word-index l.words) ≡ find (λ w. bytes_eq l.text (word_text w)) l.words
