-- Short words are texts of atoms.
use Rattle.std.proofs.Common.{◌≡◌, ◌≤◌, ◌<◌, ℕ, suc, ◌+◌, Bool, true, false, ◌&&◌, ltb, leb, List, [], ◌∷◌, ◌++◌, length, refl, sym, ap, subst, ◌∙◌, arith, IsTrue}
use Rattle.std.specs.List.{list_all}
use Rattle.std.specs.Str.{all_scalars, encode_utf8_all}
use Rattle.std.proofs.lemmas.Bool.{and_parts, and_from, le-leb, leb-true}
use Rattle.std.proofs.lemmas.List.{length-append}
use Rattle.std.proofs.lemmas.Str.{IsUtf8-from_ascii, is_utf8-from_IsUtf8}
use Rattle.kh_term.specs.Text.{is_atom_text}
use Rattle.kh_text_defs.specs.Atoms.{is_word_byte}
use Rattle.kh_read.specs.Bounds.{is_short_word}
use Rattle.kh_read.proofs.Words.{word_ascii}

all_more : (xs : List ℕ) (b : ℕ) → list_all is_word_byte xs ≡ true → is_word_byte b ≡ true → list_all is_word_byte (xs ++ b ∷ []) ≡ true
all_more [] b h is = and_from _ _ is refl
all_more (x ∷ xs) b h is = let parts = and_parts _ _ h in and_from _ _ parts.0 (all_more xs b parts.1 is)

pub short_one : (b : ℕ) → IsTrue (is_word_byte b) → IsTrue (is_short_word (b ∷ []))
short_one b is = and_from _ _ (and_from _ _ is refl) refl

pub short_more : (xs : List ℕ) (b : ℕ) → IsTrue (is_short_word xs) → IsTrue (is_word_byte b) → length xs < 255 → IsTrue (is_short_word (xs ++ b ∷ []))
short_more xs b h is few =
    let parts = and_parts _ _ h in
    and_from _ _ (all_more xs b parts.0 is) (le-leb _ _ (omega (arith, few, length-append xs (b ∷ []))))

pub short_is_atom : (xs : List ℕ) → IsTrue (is_short_word xs) → is_atom_text xs ≡ true
short_is_atom xs h =
    let parts = and_parts _ _ h in
    and_from _ _ parts.1 (is_utf8-from_IsUtf8 xs (IsUtf8-from_ascii xs (word_ascii xs parts.0)))

pub points_atom : (points : List ℕ) → all_scalars points ≡ true → is_atom_text (encode_utf8_all points) ≡ leb (length (encode_utf8_all points)) 255
points_atom points scalars =
    ap (λ (t : Bool). leb (length (encode_utf8_all points)) 255 && t) (is_utf8-from_IsUtf8 (encode_utf8_all points) (points, (scalars, refl))) ∙ both (leb (length (encode_utf8_all points)) 255)
  where
    both : (t : Bool) → (t && true) ≡ t
    both true = refl
    both false = refl

pub ruleset short_words = (short_one, short_more, short_is_atom)
