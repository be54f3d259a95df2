-- The shown text of an integer and of an atom spells it.
use Rattle.std.proofs.Common.{◌≡◌, ◌<◌, ◌≤◌, ℕ, suc, ◌+◌, ◌*◌, ◌^◌, ◌/◌, ◌%◌, Bool, true, false, not, ◌&&◌, ◌||◌, cond, eqb, ltb, leb, List, [], ◌∷◌, ◌++◌, length, get_or, codes, decimal, Some, inl, inr, refl, sym, ap, subst, ◌∙◌, ℤ, pos, negsuc, arith}
use Rattle.std.specs.Prelude.{neg_ℤ}
use Rattle.std.specs.Char.{IsScalar, encode_utf8, digit_value, is_ascii_digit, is_ascii_hexdigit}
use Rattle.std.specs.Fmt.{signed_decimal, digits, digit_glyph}
use Rattle.std.specs.List.{list_all, flat_map}
use Rattle.std.specs.Str.{encode_utf8_all, all_scalars, IsUtf8, is_utf8}
use Rattle.std.specs.Str.Parse.{AllDigits, digits_value}
use Rattle.std.proofs.lemmas.Bool.{and_parts, and_from, eqb-true, leb-true, ltb-true, le-leb, not_from_false, ne_eqb}
use Rattle.std.proofs.lemmas.Bool.Decides.{nat_tests}
use Rattle.std.proofs.lemmas.Fmt.{decimal_is_IsNumeral_wide}
use Rattle.std.proofs.lemmas.Grind.{flat_map-append}
use Rattle.std.proofs.lemmas.List.{append-nil}
use Rattle.std.specs.Prelude.{◌⊎◌}
use Rattle.std.proofs.lemmas.Str.{encode_ascii, inside_one, IsUtf8-from_is_utf8}
use Rattle.kh_term.specs.Text.{is_atom_text}
use Rattle.kh_term.specs.WellFormed.{fits_128}
use Rattle.kh_text_defs.specs.Atoms.{is_plain, is_plain_word, is_reserved}
use Rattle.kh_text_defs.specs.Shown.{shown_atom, quoted_byte}
use Rattle.kh_text_defs.specs.Tokens.{are_digits, IsInteger, are_code_digits, Character, as_it_is, by_letter, by_code, Characters, no_character, one_character, Quoted, SpellsAtom}
use Rattle.kh_print.proofs.Hex.{one_digit, two_digits}

-- ---- integers

is_digit : (d : ℕ) → digit_value d < 10 → is_ascii_digit d ≡ true
is_digit d small = grind (arith, nat_tests)

pub all_digits : (ds : List ℕ) → AllDigits 10 ds → list_all is_ascii_digit ds ≡ true
all_digits [] each = refl
all_digits (d ∷ ds) each = and_from _ _ (is_digit d each.0) (all_digits ds each.1)

pub decimal_digits : (n : ℕ) → n < 10 ^ 64 → are_digits (decimal n) ≡ true
decimal_digits n small =
    let is = decimal_is_IsNumeral_wide n small in
    and_from _ _ (le-leb 1 (length (decimal n)) is.0.0) (all_digits (decimal n) is.0.1)

pub shown_integer : (z : ℤ) → fits_128 z ≡ true → IsInteger (signed_decimal z) z
shown_integer (pos n) fits =
    let small : n < 10 ^ 64 = omega (arith, ltb-true n (2 ^ 127) fits) in
    (decimal n, decimal_digits n small, inl (refl, ap pos (sym (decimal_is_IsNumeral_wide n small).1)))
shown_integer (negsuc n) fits =
    let small : suc n < 10 ^ 64 = omega (arith, ltb-true n (2 ^ 127) fits) in
    (decimal (suc n), decimal_digits (suc n) small, inr (refl, ap (λ k. neg_ℤ (pos k)) (sym (decimal_is_IsNumeral_wide (suc n) small).1)))

-- ---- a character of an atom in quotes

hex_glyph : (d : ℕ) → d < 16 → is_ascii_hexdigit (digit_glyph false d) ≡ true
hex_glyph d small = grind (arith, nat_tests)

hex_value : (d : ℕ) → d < 16 → digit_value (digit_glyph false d) ≡ d
hex_value d small = grind (arith, nat_tests)

record IsCode (point : ℕ) (text : List ℕ) : Type 0 where
  are : are_code_digits text ≡ true
  value : digits_value 16 text ≡ point

one_code : (c : ℕ) → c < 16 → IsCode c (digit_glyph false c ∷ [])
one_code c small = record { are = rw (hex_glyph c small) refl; value = omega (arith, hex_value c small) }

two_codes : (c : ℕ) → c < 256 → IsCode c (digit_glyph false (c / 16) ∷ digit_glyph false (c % 16) ∷ [])
two_codes c small =
    let high : c / 16 < 16 = omega arith in
    let low : c % 16 < 16 = omega arith in
    record {
      are = rw (hex_glyph (c / 16) high, hex_glyph (c % 16) low) refl;
      value = omega (arith, hex_value (c / 16) high, hex_value (c % 16) low);
    }

code_of : (c : ℕ) → c < 256 → IsCode c (digits 16 false c)
code_of c small = go (ltb c 16) refl
  where
    go : (test : Bool) → ltb c 16 ≡ test → IsCode c (digits 16 false c)
    go true e = let few : c < 16 = ltb-true c 16 e in subst (IsCode c) (sym (one_digit c few)) (one_code c few)
    go false e = let many : 16 ≤ c = grind (arith, nat_tests, e) in subst (IsCode c) (sym (two_digits c many small)) (two_codes c small)

scalar_ascii : (c : ℕ) → c < 128 → IsScalar c
scalar_ascii c small = grind (arith, nat_tests)

by_tests : (c : ℕ) (slash quote newline return_ tab control : Bool) → c < 128 → eqb c 92 ≡ slash → eqb c 39 ≡ quote → eqb c 10 ≡ newline
    → eqb c 13 ≡ return_ → eqb c 9 ≡ tab → (ltb c 32 || eqb c 127) ≡ control
    → Character 39 (cond slash (codes "\\\\") (cond quote (codes "\\'") (cond newline (codes "\\n") (cond return_ (codes "\\r") (cond tab (codes "\\t")
    (cond control (codes "\\x{" ++ digits 16 false c ++ codes "}") (c ∷ []))))))) c
by_tests c true q n r t k small e f g h i j = by_letter _ 92 c (ap Some (sym (eqb-true c 92 e))) refl
by_tests c false true n r t k small e f g h i j = by_letter _ 39 c (ap Some (sym (eqb-true c 39 f))) refl
by_tests c false false true r t k small e f g h i j = by_letter _ 110 c (ap Some (sym (eqb-true c 10 g))) refl
by_tests c false false false true t k small e f g h i j = by_letter _ 114 c (ap Some (sym (eqb-true c 13 h))) refl
by_tests c false false false false true k small e f g h i j = by_letter _ 116 c (ap Some (sym (eqb-true c 9 i))) refl
by_tests c false false false false false true small e f g h i j =
    let code = code_of c (omega arith) in
    by_code _ (digits 16 false c) c code.are code.value (scalar_ascii c small) refl
by_tests c false false false false false false small e f g h i j =
    as_it_is _ c (scalar_ascii c small) (not_from_false _ f) (not_from_false _ e) (sym (encode_ascii c small))

quoted_ascii : (c : ℕ) → c < 128 → Character 39 (quoted_byte c) c
quoted_ascii c small = by_tests c (eqb c 92) (eqb c 39) (eqb c 10) (eqb c 13) (eqb c 9) (ltb c 32 || eqb c 127) small refl refl refl refl refl refl

high_byte : (b : ℕ) → 128 ≤ b → quoted_byte b ≡ b ∷ []
high_byte b high = grind (arith, nat_tests)

high_bytes : (bs : List ℕ) → ((i : ℕ) → i < length bs → 128 ≤ get_or bs i 0) → flat_map quoted_byte bs ≡ bs
high_bytes [] high = refl
high_bytes (b ∷ bs) high =
    let first : 128 ≤ b = high 0 (omega arith) in
    rw (high_byte b first, high_bytes bs (λ i within. high (suc i) (omega arith))) refl

-- the bytes of a code point above 127 are above 127
above_ascii : (c i : ℕ) → 128 ≤ c → i < length (encode_utf8 c) → 128 ≤ get_or (encode_utf8 c) i 0
above_ascii c i high within = go (ltb (get_or (encode_utf8 c) i 0) 128) refl
  where
    go : (test : Bool) → ltb (get_or (encode_utf8 c) i 0) 128 ≡ test → 128 ≤ get_or (encode_utf8 c) i 0
    go true e =
        let low = ltb-true _ _ e in
        absurd (omega (arith, low, inside_one c [] (encode_utf8 c) i (sym (append-nil (encode_utf8 c))) within low))
    go false e = grind (arith, nat_tests, e)

quoted_character : (c : ℕ) → IsScalar c → Character 39 (flat_map quoted_byte (encode_utf8 c)) c
quoted_character c is = go (ltb c 128) refl
  where
    go : (test : Bool) → ltb c 128 ≡ test → Character 39 (flat_map quoted_byte (encode_utf8 c)) c
    go true e =
        let small = ltb-true c 128 e in
        subst (λ (t : List ℕ). Character 39 (flat_map quoted_byte t) c) (sym (encode_ascii c small))
        (subst (λ (t : List ℕ). Character 39 t c) (sym (append-nil (quoted_byte c))) (quoted_ascii c small))
    go false e =
        let high : 128 ≤ c = grind (arith, nat_tests, e) in
        let apart : (k : ℕ) → c ≡ k → k < 128 → ⊥ = λ k same low. omega arith in
        as_it_is _ c is (not_from_false _ (ne_eqb c 39 (λ same. apart 39 same (omega arith)))) (not_from_false _ (ne_eqb c 92 (λ same. apart 92 same (omega arith))))
        (high_bytes (encode_utf8 c) (λ i within. above_ascii c i high within))

quoted_characters : (cs : List ℕ) → all_scalars cs ≡ true → Characters 39 (flat_map quoted_byte (encode_utf8_all cs)) cs
quoted_characters [] are = no_character
quoted_characters (c ∷ cs) are =
    let parts = and_parts _ _ are in
    one_character _ (flat_map quoted_byte (encode_utf8 c)) (flat_map quoted_byte (encode_utf8_all cs)) c cs
    (quoted_character c parts.0) (quoted_characters cs parts.1) (flat_map-append quoted_byte (encode_utf8 c) (encode_utf8_all cs))

-- ---- atoms

pub shown_name : (text : List ℕ) → is_atom_text text ≡ true → SpellsAtom (shown_atom text) text
shown_name text is =
    let parts = and_parts _ _ is in
    (go (is_plain text) refl (IsUtf8-from_is_utf8 text parts.1), leb-true _ _ parts.0)
  where
    go : (plain : Bool) → is_plain text ≡ plain → IsUtf8 text
        → ((cond plain text (39 ∷ (flat_map quoted_byte text ++ 39 ∷ [])) ≡ text) × (is_plain_word text ≡ true))
        ⊎ ((points : List ℕ) × Quoted 39 (cond plain text (39 ∷ (flat_map quoted_byte text ++ 39 ∷ []))) points × (text ≡ encode_utf8_all points))
    go true e utf8 = inl (refl, (and_parts _ _ e).0)
    go false e utf8 =
        inr (
          utf8.0,
          record {
            inside = flat_map quoted_byte text;
            characters = subst (λ (t : List ℕ). Characters 39 (flat_map quoted_byte t) utf8.0) utf8.1.1 (quoted_characters utf8.0 utf8.1.0);
            parts = refl;
          },
          sym utf8.1.1,
        )
