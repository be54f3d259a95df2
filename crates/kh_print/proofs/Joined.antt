-- Writing texts with commas between them, one after another.
use Rattle.std.proofs.Common.{◌≡◌, ℕ, ◌+◌, ◌<◌, Bool, true, false, List, [], ◌∷◌, ◌++◌, length, map, drop, get_or, refl, ap, sym, ◌∙◌, append_assoc, add-one, drop-cons, arith}
use Rattle.std.proofs.lemmas.Grind.{common_steps}
use Rattle.std.specs.List.{flat_map}
use Rattle.kh_text_defs.specs.Shown.{with_commas}
use Rattle.kh_print.specs.Parts.{separator}

-- what is left to write: the parts with commas between them, or a comma before each where one stands already
abbrev pub left_to_write : Bool → List (List ℕ) → List ℕ
left_to_write true texts = with_commas texts
left_to_write false texts = flat_map (λ text. 44 ∷ text) texts

with_commas_first : (text : List ℕ) (texts : List (List ℕ)) → with_commas (text ∷ texts) ≡ text ++ left_to_write false texts
with_commas_first text [] = grind (arith, common_steps)
with_commas_first text (next ∷ texts) = ap (λ rest. text ++ (44 ∷ rest)) (with_commas_first next texts)

-- one more text, with what stands before it
one_more : (first : Bool) (text : List ℕ) (texts : List (List ℕ)) → left_to_write first (text ∷ texts) ≡ separator first ++ (text ++ left_to_write false texts)
one_more true text texts = with_commas_first text texts
one_more false text texts = refl

-- one part is written: what is left is what stood there but for it
pub part_written : {A : Type 0} (text_of : A → List ℕ) (parts : List A) (at : ℕ) (some : A) (first : Bool) (before after whole : List ℕ)
    → at < length parts
    → before ++ left_to_write first (map text_of (drop at parts)) ≡ whole
    → after ≡ (before ++ separator first) ++ text_of (get_or parts at some)
    → after ++ left_to_write false (map text_of (drop (at + 1) parts)) ≡ whole
part_written text_of parts at some first before after whole within so_far written =
    let part = get_or parts at some in
    let rest = map text_of (drop (at + 1) parts) in
    let cut : drop at parts ≡ part ∷ drop (at + 1) parts = rw add-one (drop-cons parts at some within) in
    ap (λ w. w ++ left_to_write false rest) written
    ∙ (append_assoc (before ++ separator first) (text_of part) (left_to_write false rest)
    ∙ (append_assoc before (separator first) (text_of part ++ left_to_write false rest)
    ∙ (ap (λ w. before ++ w) (sym (one_more first (text_of part) rest))
    ∙ (ap (λ ps. before ++ left_to_write first (map text_of ps)) (sym cut) ∙ so_far))))

-- what was written is the text of x, which is y
pub read_as : {A : Type 0} (text_of : A → List ℕ) (before after : List ℕ) (x y : A) → x ≡ y → after ≡ before ++ text_of x → after ≡ before ++ text_of y
read_as text_of before after x y is written = written ∙ ap (λ v. before ++ text_of v) is
