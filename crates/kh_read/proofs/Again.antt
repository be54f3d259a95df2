-- What is spelled is read.
use Rattle.std.proofs.Common.{◌≡◌, ℕ, zero, suc, ◌≤◌, Bool, true, false, ◌&&◌, not, eqb, leb, List, [], ◌∷◌, ◌++◌, length, map, Ok, Err, cond, inl, inr, refl, sym, ap, ◌∙◌, append_assoc, arith, length-append}
use Rattle.std.specs.Prelude.{ℤ, pos, codes}
use Rattle.std.specs.Char.{is_ascii_digit, is_ascii_lowercase}
use Rattle.std.specs.List.{prefix_len, list_all}
use Rattle.std.specs.Str.{all_ascii_digits}
use Rattle.std.specs.Str.Parse.{digits_value}
use Rattle.std.proofs.lemmas.Bool.{and_parts, le-ltb, leb-true, ne_eqb, not-true}
use Rattle.std.proofs.lemmas.Bool.Decides.{nat_tests}
use Rattle.std.proofs.lemmas.List.{take_at, drop_at}
use Rattle.kh_term.specs.declared.name.Name.{Name}
use Rattle.kh_term.specs.declared.name.Name.TheVariants as name
use Rattle.kh_term.specs.Name.{name_text}
use Rattle.kh_text_defs.specs.Atoms.{is_word_byte, is_plain_word, is_reserved, is_plain}
use Rattle.kh_text_defs.specs.Shown.{with_commas}
use Rattle.kh_read.specs.declared.form.Form.{Form}
use Rattle.kh_read.specs.declared.form.Form.TheVariants as form
use Rattle.kh_read.specs.Form.{is_plain_name, is_plain_path, are_digits, IsInteger, IsForm}
use Rattle.kh_read.specs.Reading.{◌>>=◌, Read, Fault, front_at, word_at, name_at, names_at, digits_at, integer_at, put_at, get_at, form_at}
use Rattle.kh_read.proofs.Digits.{digits_are, all_digits-list_all}
use Rattle.kh_read.proofs.Words.{lowercase_word}
use Rattle.kh_read.proofs.FormRead.{put_text-append, get_text-append}

-- a front ends at a byte that doesn't pass
front_len : (test : ℕ → Bool) (text : List ℕ) (end : ℕ) (rest : List ℕ) → list_all test text ≡ true → test end ≡ false
    → prefix_len test (text ++ end ∷ rest) ≡ length text
front_len test [] end rest each stops = rw stops refl
front_len test (byte ∷ text) end rest each stops =
    let parts = and_parts (test byte) (list_all test text) each in
    let others = front_len test text end rest parts.1 stops in
    rw (parts.0, others) (omega arith)

front_again : (test : ℕ → Bool) (most : ℕ) (text : List ℕ) (end : ℕ) (rest : List ℕ) → list_all test text ≡ true → length text ≤ most
    → test end ≡ false → front_at test most (text ++ end ∷ rest) ≡ Ok (text, end ∷ rest)
front_again test most text end rest each few stops =
    let behind : eqb (length text) (length (text ++ end ∷ rest)) ≡ false = ne_eqb _ _ (λ e. absurd (omega (arith, length-append text (end ∷ rest)))) in
    rw (front_len test text end rest each stops, le-ltb _ _ few, behind, take_at text (end ∷ rest) (length text) refl, drop_at text (end ∷ rest) (length text) refl) refl

-- the byte behind a word is no digit, and a digit is no minus sign
no_digit : (byte : ℕ) → is_word_byte byte ≡ false → is_ascii_digit byte ≡ false
no_digit byte h = grind (arith, nat_tests)

digit_no_minus : (byte : ℕ) → is_ascii_digit byte ≡ true → eqb byte 45 ≡ false
digit_no_minus byte h = grind (arith, nat_tests)

-- a front that is no reserved word, behind a small letter's test
word_step : (small : Bool) (front : Read (List ℕ)) (x : List ℕ × List ℕ) → small ≡ true → front ≡ Ok x → is_reserved x.0 ≡ false
    → cond (not small) (Err Fault) (front >>= λ word. cond (is_reserved word.0) (Err Fault) (Ok word)) ≡ Ok x
word_step true front x is_small is_front free = rw (is_front, free) refl
word_step false front x is_small is_front free = absurd cc

pub word_again : (text : List ℕ) (end : ℕ) (rest : List ℕ) → is_plain text ≡ true → length text ≤ 255 → is_word_byte end ≡ false
    → word_at (text ++ end ∷ rest) ≡ Ok (text, end ∷ rest)
unfolding word_at
word_again [] end rest plain few stops = absurd cc
word_again (first ∷ others) end rest plain few stops =
    let parts = and_parts (is_plain_word (first ∷ others)) (not (is_reserved (first ∷ others))) plain in
    let word = and_parts (is_ascii_lowercase first) (list_all is_word_byte others) parts.0 in
    let each : list_all is_word_byte (first ∷ others) ≡ true = rw (lowercase_word first word.0) word.1 in
    let free : is_reserved (first ∷ others) ≡ false = not-true _ parts.1 in
    word_step (is_ascii_lowercase first) (front_at is_word_byte 255 ((first ∷ others) ++ end ∷ rest)) (first ∷ others, end ∷ rest) word.0
    (front_again is_word_byte 255 (first ∷ others) end rest each few stops) free

name_again : (n : Name) (end : ℕ) (rest : List ℕ) → is_plain_name n ≡ true → is_word_byte end ≡ false
    → name_at (name_text n ++ end ∷ rest) ≡ Ok (n, end ∷ rest)
unfolding name_at
name_again (name.Atom text) end rest plain stops =
    let parts = and_parts (is_plain text) (leb (length text) 255) plain in
    rw (word_again text end rest parts.0 (leb-true _ _ parts.1) stops) refl
name_again (name.Bin bytes) end rest plain stops = absurd cc

names_again : (room : ℕ) (names : List Name) (rest : List ℕ) → 1 ≤ length names → length names ≤ room → list_all is_plain_name names ≡ true
    → names_at room (with_commas (map name_text names) ++ 93 ∷ rest) ≡ Ok (names, rest)
unfolding names_at
names_again zero names rest some few plain = absurd (omega arith)
names_again (suc room) [] rest some few plain = absurd (omega arith)
names_again (suc room) (first ∷ []) rest some few plain =
    let parts = and_parts (is_plain_name first) true plain in
    rw (name_again first 93 rest parts.0 refl) refl
names_again (suc room) (first ∷ second ∷ others) rest some few plain =
    let parts = and_parts (is_plain_name first) (list_all is_plain_name (second ∷ others)) plain in
    let later = with_commas (map name_text (second ∷ others)) ++ 93 ∷ rest in
    rw (
      append_assoc (name_text first) (44 ∷ with_commas (map name_text (second ∷ others))) (93 ∷ rest),
      name_again first 44 later parts.0 refl,
      names_again room (second ∷ others) rest (omega arith) (omega arith) parts.1,
    ) refl

pub digits_again : (digits : List ℕ) (end : ℕ) (rest : List ℕ) → are_digits digits ≡ true → is_word_byte end ≡ false
    → digits_at (digits ++ end ∷ rest) ≡ Ok (digits, end ∷ rest)
unfolding digits_at
digits_again digits end rest are stops =
    let known = digits_are digits are in
    let each : list_all is_ascii_digit digits ≡ true = sym (all_digits-list_all digits) ∙ known.each in
    let some : eqb (length digits) 0 ≡ false = ne_eqb _ _ (λ e. absurd (let some = known.some in omega arith)) in
    rw (front_again is_ascii_digit 18 digits end rest each known.few (no_digit end stops), some) refl

-- digits with no minus before them
positive_again : (digits : List ℕ) (end : ℕ) (rest : List ℕ) → are_digits digits ≡ true → is_word_byte end ≡ false
    → integer_at (digits ++ end ∷ rest) ≡ Ok (pos (digits_value 10 digits), end ∷ rest)
unfolding integer_at
positive_again [] end rest are stops = absurd cc
positive_again (byte ∷ digits) end rest are stops =
    let known = digits_are (byte ∷ digits) are in
    let first = and_parts (is_ascii_digit byte) (all_ascii_digits digits) known.each in
    rw (digit_no_minus byte first.0, digits_again (byte ∷ digits) end rest are stops) refl

pub integer_again : (text : List ℕ) (number : ℤ) (end : ℕ) (rest : List ℕ) → IsInteger text number → is_word_byte end ≡ false
    → integer_at (text ++ end ∷ rest) ≡ Ok (number, end ∷ rest)
unfolding integer_at
integer_again text number end rest (digits, are, inl (is, value)) stops = rw (is, value) (positive_again digits end rest are stops)
integer_again text number end rest (digits, are, inr (is, value)) stops = rw (is, value, digits_again digits end rest are stops) refl

path_parts : (path : List Name) → is_plain_path path ≡ true → (1 ≤ length path) × (length path ≤ 32) × (list_all is_plain_name path ≡ true)
path_parts path plain =
    let outer = and_parts (leb 1 (length path) && leb (length path) 32) (list_all is_plain_name path) plain in
    let inner = and_parts (leb 1 (length path)) (leb (length path) 32) outer.0 in
    (leb-true _ _ inner.0, leb-true _ _ inner.1, outer.1)

put_again : (path : List Name) (integer : List ℕ) (number : ℤ) (rest : List ℕ) → IsInteger integer number → is_plain_path path ≡ true
    → put_at (codes "put,[" ++ (with_commas (map name_text path) ++ (codes "]," ++ (integer ++ (codes "}." ++ rest))))) ≡ Ok (form.Put path number, rest)
unfolding put_at
put_again path integer number rest is_integer plain =
    let are = path_parts path plain in
    let names = names_again 32 path (codes "," ++ (integer ++ (codes "}." ++ rest))) are.0 are.1 are.2 in
    rw (names, integer_again integer number 125 (46 ∷ rest) is_integer refl) refl

get_again : (path : List Name) (rest : List ℕ) → is_plain_path path ≡ true
    → get_at (codes "get,[" ++ (with_commas (map name_text path) ++ (codes "]}." ++ rest))) ≡ Ok (form.Get path, rest)
unfolding get_at
get_again path rest plain =
    let are = path_parts path plain in
    rw (names_again 32 path (codes "}." ++ rest) are.0 are.1 are.2) refl

-- A form is read whole, whatever is behind it.
pub form_again : (text : List ℕ) (f : Form) (rest : List ℕ) → IsForm text f → form_at (text ++ rest) ≡ Ok (f, rest)
unfolding form_at
form_again text (form.Put path number) rest (integer, is_integer, plain, is) =
    ap (λ (t : List ℕ). form_at (t ++ rest)) is ∙ ap form_at (put_text-append path integer rest) ∙ put_again path integer number rest is_integer plain
form_again text (form.Get path) rest (plain, is) =
    ap (λ (t : List ℕ). form_at (t ++ rest)) is ∙ ap form_at (get_text-append path rest) ∙ get_again path rest plain
