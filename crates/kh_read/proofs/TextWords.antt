-- Reading a word.
use Rattle.std.proofs.Common.{◌≡◌, ◌≤◌, ◌<◌, ℕ, suc, ◌+◌, Bool, true, false, not, ◌&&◌, cond, ltb, List, [], ◌∷◌, ◌++◌, length, refl, sym, ap, subst, ◌∙◌, arith, append_assoc}
use Rattle.std.specs.List.{list_all}
use Rattle.std.proofs.lemmas.Bool.{ltb-true, not_from_false, and_from}
use Rattle.std.proofs.lemmas.List.{length-append, append-nil}
use Rattle.kh_text_defs.specs.Atoms.{is_word_byte}
use Rattle.kh_read.specs.State.{Frame, Place, Word, State, Setting, Halt, Syntax, Step, Stop, Reading, Cut}
use Rattle.kh_read.specs.Steps.{at, fault, step_place, step_word, step_between, word_ended, read_on}
use Rattle.kh_read.proofs.TextCore.{spot, byte_goes, byte_stops, at_the_end}
use Rattle.kh_read.proofs.TextReads.{Reads, whole, part, halted}

abbrev pub no_word : List ℕ → Bool
no_word [] = true
no_word (b ∷ rest) = not (is_word_byte b)

-- word bytes behind those that were read
pub record MoreWord (name text all : List ℕ) : Type 0 where
  pub each : list_all is_word_byte text ≡ true
  pub value : all ≡ name ++ text
  pub short : length all ≤ 255

module _ (σ : Setting) (fs : List Frame) where
  word_goes : (name : List ℕ) (p b : ℕ) → is_word_byte b ≡ true → ltb (length name) 255 ≡ true → step_place σ (Word name) fs p b ≡ at (Word (name ++ b ∷ [])) fs
  unfolding step_place step_word
  word_goes name p b e f = rw (e, f) refl

  word_stops : (name : List ℕ) (p b : ℕ) → is_word_byte b ≡ true → ltb (length name) 255 ≡ false → step_place σ (Word name) fs p b ≡ fault
  unfolding step_place step_word
  word_stops name p b e f = rw (e, f) refl

  pub word_ends : (name : List ℕ) (p b : ℕ) → is_word_byte b ≡ false → step_place σ (Word name) fs p b ≡ step_between σ (word_ended σ.rules fs name) fs p b
  unfolding step_place step_word
  word_ends name p b e = rw e refl

  one_more : (name : List ℕ) (p b : ℕ) (bytes : List ℕ) (start : Reading) → is_word_byte b ≡ true → start ≡ read_on σ (spot (Word (name ++ b ∷ [])) fs) (suc p) bytes
      → Reads σ no_word (MoreWord (name ++ b ∷ [])) (λ n. spot (Word n) fs) (suc p) bytes (read_on σ (spot (Word (name ++ b ∷ [])) fs) (suc p) bytes)
      → Reads σ no_word (MoreWord name) (λ n. spot (Word n) fs) p (b ∷ bytes) start
  one_more name p b bytes start e goes (whole u rest n q parts more good h place) =
      whole (b ∷ u) rest n q (ap (λ (t : List ℕ). b ∷ t) parts) (record { each = and_from _ _ e more.each; value = more.value ∙ append_assoc name (b ∷ []) u; short = more.short }) good (goes ∙ h) (omega (arith, place))
  one_more name p b bytes start e goes (part more n h stands) =
      part more n (goes ∙ h) (record { each = and_from _ _ e stands.each; value = stands.value ∙ append_assoc name (b ∷ []) (bytes ++ more); short = stands.short })
  one_more name p b bytes start e goes (halted halt q h) = halted halt q (goes ∙ h)

  pub word : (text name : List ℕ) (p : ℕ) → length name ≤ 255 → Reads σ no_word (MoreWord name) (λ n. spot (Word n) fs) p text (read_on σ (spot (Word name) fs) p text)
  word [] name p short = whole [] [] name p refl (record { each = refl; value = sym (append-nil name); short = short }) refl refl (omega arith)
  word (b ∷ bytes) name p short = go (is_word_byte b) (ltb (length name) 255) refl refl (λ longer. word bytes (name ++ b ∷ []) (suc p) longer)
    where
      go : (w f : Bool) → is_word_byte b ≡ w → ltb (length name) 255 ≡ f
          → (length (name ++ b ∷ []) ≤ 255 → Reads σ no_word (MoreWord (name ++ b ∷ [])) (λ n. spot (Word n) fs) (suc p) bytes (read_on σ (spot (Word (name ++ b ∷ [])) fs) (suc p) bytes))
          → Reads σ no_word (MoreWord name) (λ n. spot (Word n) fs) p (b ∷ bytes) (read_on σ (spot (Word name) fs) p (b ∷ bytes))
      go true true e h more = one_more name p b bytes _ e (byte_goes σ (Word name) fs p b bytes _ (word_goes name p b e h)) (more (omega (arith, ltb-true _ _ h, length-append name (b ∷ []))))
      go true false e h more = halted Syntax p (byte_stops σ (Word name) fs p b bytes _ (word_stops name p b e h))
      go false f e h more = whole [] (b ∷ bytes) name p refl (record { each = refl; value = sym (append-nil name); short = short }) (not_from_false _ e) refl (omega arith)
