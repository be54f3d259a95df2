-- Code points in quotes: what completes one, and their UTF-8.
use Rattle.std.proofs.Common.{◌≡◌, ◌≤◌, ◌<◌, ℕ, zero, suc, ◌+◌, ◌-◌, ◌*◌, ◌/◌, ◌%◌, Bool, true, false, not, ◌&&◌, ◌||◌, cond, eqb, ltb, leb, List, [], ◌∷◌, ◌++◌, length, Option, Some, None, inl, inr, refl, sym, ap, subst, ◌∙◌, arith, append_assoc, IsTrue}
use Rattle.std.specs.Prelude.{◌⊎◌}
use Rattle.std.specs.Char.{IsScalar, encode_utf8, is_ascii_hexdigit, digit_value, len_utf8}
use Rattle.std.specs.List.{list_all}
use Rattle.std.specs.Str.{encode_utf8_all}
use Rattle.std.specs.Str.Parse.{digits_value, digits_value_after}
use Rattle.std.proofs.lemmas.Bool.{eqb-true, eqb-false, ltb-true, leb-true, lt-ltb, le-ltb, ltb-false, ne_eqb, not_from_false, not_from_true, and_parts, and_from, le-leb, or_cases}
use Rattle.std.proofs.lemmas.Bool.Decides.{nat_tests}
use Rattle.std.proofs.lemmas.Str.{length-encode}
use Rattle.std.proofs.lemmas.List.{length-append}
use Rattle.kh_text_defs.specs.declared.mode.Mode.{Mode}
use Rattle.kh_text_defs.specs.declared.mode.Mode.TheVariants.{Script, Listing}
use Rattle.kh_text_defs.specs.Tokens.{are_code_digits, escaped, Character, as_it_is, by_letter, by_code, Characters, no_character, one_character, Quoted}
use Rattle.kh_read.specs.State.{Use, ForName, ForList, ForSegment, Inner, Plain, Slash, Brace, Code, Follow, Quoting}
use Rattle.kh_read.specs.Steps.{bound, used, quote_of, is_surrogate, is_within, can_be_code}

-- ---- bounds

-- the bound of a name, by what is left
abbrev pub name_bound : Bool → Bool → Bool → Bool → ℕ
name_bound a b c d = cond a 0 (cond b 0x80 (cond c 0x800 (cond d 0x10000 0x110000)))

abbrev IsBound : ℕ → Type 0
IsBound n = (n ≡ 0) ⊎ ((0x80 ≤ n) × (n ≤ 0x110000))

bound_left : (left : ℕ) → IsBound (bound Script (ForName left))
bound_left left = go (eqb left 0) (eqb left 1) (eqb left 2) (eqb left 3)
  where
    go : (a b c d : Bool) → IsBound (name_bound a b c d)
    go true b c d = inl refl
    go false true c d = inr (omega arith, omega arith)
    go false false true d = inr (omega arith, omega arith)
    go false false false true = inr (omega arith, omega arith)
    go false false false false = inr (omega arith, omega arith)

pub bounds : (mode : Mode) (use_ : Use) → (bound mode use_ ≡ 0) ⊎ ((0x80 ≤ bound mode use_) × (bound mode use_ ≤ 0x110000))
bounds mode (ForName left) = bound_left left
bounds mode ForList = inr (omega arith, omega arith)
bounds Script ForSegment = inr (omega arith, omega arith)
bounds Listing ForSegment = inr (omega arith, omega arith)

pub some_bound : (mode : Mode) (use_ : Use) → eqb (bound mode use_) 0 ≡ false → 0x80 ≤ bound mode use_
some_bound mode use_ e = go (bounds mode use_)
  where
    go : (bound mode use_ ≡ 0) ⊎ ((0x80 ≤ bound mode use_) × (bound mode use_ ≤ 0x110000)) → 0x80 ≤ bound mode use_
    go (inl none) = absurd (eqb-false _ _ e none)
    go (inr some) = some.0

pub most_bound : (mode : Mode) (use_ : Use) → bound mode use_ ≤ 0x110000
most_bound mode use_ = go (bounds mode use_)
  where
    go : (bound mode use_ ≡ 0) ⊎ ((0x80 ≤ bound mode use_) × (bound mode use_ ≤ 0x110000)) → bound mode use_ ≤ 0x110000
    go (inl none) = omega (arith, none)
    go (inr some) = some.1

pub quote_small : (use_ : Use) → quote_of use_ < 128
quote_small (ForName left) = omega arith
quote_small ForList = omega arith
quote_small ForSegment = omega arith

pub same_quote : (use_ : Use) (point : ℕ) → quote_of (used use_ point) ≡ quote_of use_
same_quote (ForName left) point = refl
same_quote ForList point = refl
same_quote ForSegment point = refl

-- ---- scalars

pub low_scalar : (c : ℕ) → c < 0xD800 → IsScalar c
low_scalar c small = grind (arith, nat_tests)

pub high_scalar : (c : ℕ) → 0xE000 ≤ c → c < 0x110000 → IsScalar c
high_scalar c large small = grind (arith, nat_tests)

pub no_surrogate : (c : ℕ) → is_surrogate c ≡ false → (c < 0xD800) ⊎ (0xE000 ≤ c)
no_surrogate c e = go (ltb c 0xD800) refl
  where
    go : (t : Bool) → ltb c 0xD800 ≡ t → (c < 0xD800) ⊎ (0xE000 ≤ c)
    go true h = inl (ltb-true _ _ h)
    go false h = inr (grind (arith, nat_tests, e, h))

pub a_surrogate : (c : ℕ) → is_surrogate c ≡ true → (0xD800 ≤ c) × (c ≤ 0xDFFF)
a_surrogate c e = let parts = and_parts _ _ e in (leb-true _ _ parts.0, leb-true _ _ parts.1)

-- ---- UTF-8 of two, three and four bytes

pub encode_2 : (v b : ℕ) → 2 ≤ v → v < 32 → 128 ≤ b → b ≤ 191 → encode_utf8 (v * 64 + (b - 128)) ≡ (192 + v) ∷ b ∷ []
unfolding encode_utf8
encode_2 v b some few low high =
    let c = v * 64 + (b - 128) in
    let one : ltb c 128 ≡ false = le-ltb _ _ (omega arith) in
    let two : ltb c 2048 ≡ true = lt-ltb _ _ (omega arith) in
    let first : 192 + c / 64 ≡ 192 + v = omega arith in
    let second : 128 + c % 64 ≡ b = omega arith in
    rw (one, two) (λ i. first i ∷ second i ∷ [])

pub encode_3 : (v b d : ℕ) → v < 16 → 0x800 ≤ (v * 64 + (b - 128)) * 64 → 128 ≤ b → b ≤ 191 → 128 ≤ d → d ≤ 191
    → encode_utf8 ((v * 64 + (b - 128)) * 64 + (d - 128)) ≡ (224 + v) ∷ b ∷ d ∷ []
unfolding encode_utf8
encode_3 v b d few some low high low2 high2 =
    let c = (v * 64 + (b - 128)) * 64 + (d - 128) in
    let one : ltb c 128 ≡ false = le-ltb _ _ (omega arith) in
    let two : ltb c 2048 ≡ false = le-ltb _ _ (omega arith) in
    let three : ltb c 65536 ≡ true = lt-ltb _ _ (omega arith) in
    let first : 224 + c / 4096 ≡ 224 + v = omega arith in
    let second : 128 + (c / 64) % 64 ≡ b = omega arith in
    let third : 128 + c % 64 ≡ d = omega arith in
    rw (one, two, three) (λ i. first i ∷ second i ∷ third i ∷ [])

pub encode_4 : (v b d e : ℕ) → v < 8 → 0x10000 ≤ (v * 64 + (b - 128)) * 4096 → 128 ≤ b → b ≤ 191 → 128 ≤ d → d ≤ 191 → 128 ≤ e → e ≤ 191
    → encode_utf8 (((v * 64 + (b - 128)) * 64 + (d - 128)) * 64 + (e - 128)) ≡ (240 + v) ∷ b ∷ d ∷ e ∷ []
unfolding encode_utf8
encode_4 v b d e few some low high low2 high2 low3 high3 =
    let c = ((v * 64 + (b - 128)) * 64 + (d - 128)) * 64 + (e - 128) in
    let one : ltb c 128 ≡ false = le-ltb _ _ (omega arith) in
    let two : ltb c 2048 ≡ false = le-ltb _ _ (omega arith) in
    let three : ltb c 65536 ≡ false = le-ltb _ _ (omega arith) in
    let first : 240 + c / 262144 ≡ 240 + v = omega arith in
    let second : 128 + (c / 4096) % 64 ≡ b = omega arith in
    let third : 128 + (c / 64) % 64 ≡ d = omega arith in
    let fourth : 128 + c % 64 ≡ e = omega arith in
    rw (one, two, three) (λ i. first i ∷ second i ∷ third i ∷ fourth i ∷ [])

-- ---- what completes a code point

-- the bytes that come behind a first one
abbrev pub Follows : ℕ → ℕ × ℕ → ℕ → List ℕ → ℕ → Type 0
Follows zero range v text c = (b : ℕ) × (range.0 ≤ b) × (b ≤ range.1) × (text ≡ b ∷ []) × (c ≡ v * 64 + (b - 128))
Follows (suc n) range v text c =
    (b : ℕ) × (rest : List ℕ) × (range.0 ≤ b) × (b ≤ range.1) × (text ≡ b ∷ rest) × Follows n (128, 191) (v * 64 + (b - 128)) rest c

-- the least and the greatest of what they complete
abbrev pub least : ℕ → ℕ → ℕ
least zero x = x
least (suc zero) x = x * 64
least (suc (suc n)) x = x * 4096

abbrev pub most : ℕ → ℕ → ℕ
most zero x = x
most (suc zero) x = x * 64 + 63
most (suc (suc n)) x = x * 4096 + 4095

pub record ValidFollow (below n low high v : ℕ) : Type 0 where
  pub few : n ≤ 2
  pub from : 128 ≤ low
  pub order : low ≤ high
  pub to : high ≤ 191
  pub safe : (most n (v * 64 + (high - 128)) < 0xD800) ⊎ (0xE000 ≤ least n (v * 64 + (low - 128)))
  pub under : most n (v * 64 + (high - 128)) < below

pub valid_next : (below n low high v b : ℕ) → ValidFollow below (suc n) low high v → low ≤ b → b ≤ high → ValidFollow below n 128 191 (v * 64 + (b - 128))
valid_next below zero low high v b valid from to = record {
  few = omega arith;
  from = omega arith;
  order = omega arith;
  to = omega arith;
  safe = go valid.safe;
  under = omega (arith, valid.under);
}
  where
    go : (most 1 (v * 64 + (high - 128)) < 0xD800) ⊎ (0xE000 ≤ least 1 (v * 64 + (low - 128)))
        → (most 0 ((v * 64 + (b - 128)) * 64 + (191 - 128)) < 0xD800) ⊎ (0xE000 ≤ least 0 ((v * 64 + (b - 128)) * 64 + (128 - 128)))
    go (inl h) = inl (omega arith)
    go (inr h) = inr (omega arith)
valid_next below (suc zero) low high v b valid from to = record {
  few = omega arith;
  from = omega arith;
  order = omega arith;
  to = omega arith;
  safe = go valid.safe;
  under = omega (arith, valid.under);
}
  where
    go : (most 2 (v * 64 + (high - 128)) < 0xD800) ⊎ (0xE000 ≤ least 2 (v * 64 + (low - 128)))
        → (most 1 ((v * 64 + (b - 128)) * 64 + (191 - 128)) < 0xD800) ⊎ (0xE000 ≤ least 1 ((v * 64 + (b - 128)) * 64 + (128 - 128)))
    go (inl h) = inl (omega arith)
    go (inr h) = inr (omega arith)
valid_next below (suc (suc n)) low high v b valid from to = absurd (omega (arith, valid.few))

-- one is completed: a scalar below the bound
pub record IsPoint (below c : ℕ) : Type 0 where
  pub scalar : IsScalar c
  pub under : c < below

pub last_point : (below low high v b : ℕ) → below ≤ 0x110000 → ValidFollow below 0 low high v → low ≤ b → b ≤ high → IsPoint below (v * 64 + (b - 128))
last_point below low high v b fits valid from to = record { scalar = go valid.safe; under = omega (arith, valid.under) }
  where
    go : (most 0 (v * 64 + (high - 128)) < 0xD800) ⊎ (0xE000 ≤ least 0 (v * 64 + (low - 128))) → IsScalar (v * 64 + (b - 128))
    go (inl h) = low_scalar (v * 64 + (b - 128)) (omega arith)
    go (inr h) = high_scalar (v * 64 + (b - 128)) (omega arith) (omega (arith, valid.under))

-- the code point of a first byte and those behind it, as its UTF-8
pub two_bytes : (quote b : ℕ) (text : List ℕ) (c : ℕ) → quote < 128 → 0xC2 ≤ b → b ≤ 0xDF → IsScalar c → Follows 0 (0x80, 0xBF) (b - 0xC0) text c → Character quote (b ∷ text) c
two_bytes quote b text c small low high scalar f =
    let is : encode_utf8 c ≡ b ∷ text = ap encode_utf8 f.4 ∙ (encode_2 (b - 0xC0) f.0 (omega arith) (omega arith) f.1 f.2 ∙ (λ i. same i ∷ sym f.3 i)) in
    as_it_is (b ∷ text) c scalar (not_from_false _ (ne_eqb c quote (λ e. absurd (omega (arith, e, f.4, f.1))))) (not_from_false _ (ne_eqb c 92 (λ e. absurd (omega (arith, e, f.4, f.1))))) (sym is)
  where
    same : 192 + (b - 0xC0) ≡ b
    same = omega arith

pub three_bytes : (quote b v low high : ℕ) (text : List ℕ) (c : ℕ) → quote < 128 → b ≡ 224 + v → v < 16 → 128 ≤ low → high ≤ 191 → 0x800 ≤ (v * 64 + (low - 128)) * 64
    → IsScalar c → Follows 1 (low, high) v text c → Character quote (b ∷ text) c
three_bytes quote b v low high text c small first few from to large scalar f =
    let g = f.5 in
    let is : encode_utf8 c ≡ b ∷ text = ap encode_utf8 g.4 ∙ (encode_3 v f.0 g.0 few (omega (arith, f.2)) (omega (arith, f.2)) (omega (arith, f.3)) g.1 g.2
    ∙ (λ i. sym first i ∷ (ap (λ (t : List ℕ). f.0 ∷ t) (sym g.3) ∙ sym f.4) i)) in
    as_it_is (b ∷ text) c scalar (not_from_false _ (ne_eqb c quote (λ e. absurd (omega (arith, e, g.4, f.2))))) (not_from_false _ (ne_eqb c 92 (λ e. absurd (omega (arith, e, g.4, f.2))))) (sym is)

pub four_bytes : (quote b v low high : ℕ) (text : List ℕ) (c : ℕ) → quote < 128 → b ≡ 240 + v → v < 8 → 128 ≤ low → high ≤ 191 → 0x10000 ≤ (v * 64 + (low - 128)) * 4096
    → IsScalar c → Follows 2 (low, high) v text c → Character quote (b ∷ text) c
four_bytes quote b v low high text c small first few from to large scalar f =
    let g = f.5 in
    let h = g.5 in
    let is : encode_utf8 c ≡ b ∷ text = ap encode_utf8 h.4 ∙ (encode_4 v f.0 g.0 h.0 few (omega (arith, f.2)) (omega (arith, f.2)) (omega (arith, f.3)) g.2 g.3 h.1 h.2
    ∙ (λ i. sym first i ∷ (ap (λ (t : List ℕ). f.0 ∷ t) (ap (λ (t : List ℕ). g.0 ∷ t) (sym h.3) ∙ sym g.4) ∙ sym f.4) i)) in
    as_it_is (b ∷ text) c scalar (not_from_false _ (ne_eqb c quote (λ e. absurd (omega (arith, e, h.4, f.2))))) (not_from_false _ (ne_eqb c 92 (λ e. absurd (omega (arith, e, h.4, f.2))))) (sym is)
