-- The fields that hold no terms: what is read is spelled so, and what is spelled so is read.
use Rattle.std.proofs.Common.{◌≡◌, ◌<◌, ◌≤◌, ◌^◌, ◌*◌, ℕ, true, false, cond, ◌&&◌, ltb, leb, eqb, List, [], ◌∷◌, ◌++◌, length, take, drop, Option, Some, None, refl, ap, sym, subst, ◌∙◌, arith, ℤ}
use Rattle.std.specs.Int.{w32, w128, to_be_bytes, from_be_bytes, bytes_high_first, cast_unsigned}
use Rattle.std.proofs.lemmas.Bool.{ltb-false, le-ltb, ne_eqb, eqb-true, eqb-false, and_parts, leb-true}
use Rattle.std.proofs.lemmas.List.{take_at, drop_at, take-append-drop, length-append, length-take, append-nil}
use Rattle.std.proofs.lemmas.Nat.{be_bytes_4, from_be_bytes-to_be_bytes_4, pow_pos}
use Rattle.std.proofs.Math.Nat.{mod-lt}
use Rattle.std.proofs.lemmas.Option.{same_Some}
use borrow.Author.Tests.{eq-eqb}
use Rattle.byteorder.specs.Endian.{big_number, twos_complement, low_bytes}
use Rattle.byteorder.specs.Numbers.{big_from-lt, big_number-reads_back, length-bytes_high_first}
use Rattle.std.specs.Str.{is_utf8}
use Rattle.kh_term.specs.declared.name.Origin.{Origin}
use Rattle.kh_term.specs.Packed.{behind_sign, integer_len, integer_bytes, short_text}
use Rattle.kh_term.specs.Text.{is_atom_text}
use Rattle.kh_term.specs.WellFormed.{fits_128, is_origin}
use Rattle.kh_term.proofs.Integers.{len_holds, bits_of, fits_behind_sign}
use Rattle.kh_pack.specs.Reading.{◌>>=◌, first_at, front_at, count_at, fewest, integer_at, text_at, binary_at, origin_at}
use Rattle.kh_pack.proofs.Numbers.{bytes_back, low_again, low_back}
use Rattle.kh_pack.proofs.Steps.{IsBytes, IsBytes-drop, IsBytes-take, IsBytes-rest, bind_some, passed, allowed, Takes, Takes-then}

-- ---- one byte, and so many

pub first_takes : (bytes : List ℕ) (x : ℕ × List ℕ) → IsBytes bytes → first_at bytes ≡ Some x → Takes bytes (x.0 ∷ []) x.1 × (x.0 < 256)
first_takes [] x fits e = absurd cc
first_takes (byte ∷ bytes) x fits e =
    subst (λ (y : ℕ × List ℕ). Takes (byte ∷ bytes) (y.0 ∷ []) y.1 × (y.0 < 256)) (same_Some (byte, bytes) x e)
    (record { parts = refl; rest_fits = IsBytes-rest byte bytes fits }, fits 0)

pub record IsFront (len : ℕ) (bytes text rest : List ℕ) : Type 0 where
  pub takes : Takes bytes text rest
  pub long : length text ≡ len
  pub text_fits : IsBytes text

pub front_takes : (len : ℕ) (bytes : List ℕ) (x : List ℕ × List ℕ) → IsBytes bytes → front_at len bytes ≡ Some x → IsFront len bytes x.0 x.1
front_takes len bytes x fits e =
    let a = passed (ltb (length bytes) len) (Some (take len bytes, drop len bytes)) x e in
    let long : len ≤ length bytes = ltb-false _ _ a.0 in
    subst (λ (y : List ℕ × List ℕ). IsFront len bytes y.0 y.1) (same_Some (take len bytes, drop len bytes) x a.1)
    (record {
      takes = record { parts = sym (take-append-drop len bytes); rest_fits = IsBytes-drop len bytes fits };
      long = omega (arith, length-take len bytes);
      text_fits = IsBytes-take len bytes fits;
    })

pub front_again : (len : ℕ) (text rest : List ℕ) → length text ≡ len → front_at len (text ++ rest) ≡ Some (text, rest)
front_again len text rest long =
    let enough : ltb (length (text ++ rest)) len ≡ false = le-ltb _ _ (omega (arith, length-append text rest)) in
    rw (enough, take_at text rest len long, drop_at text rest len long) refl

-- ---- counts

pub count_takes : (bytes : List ℕ) (x : ℕ × List ℕ) → IsBytes bytes → count_at bytes ≡ Some x → Takes bytes (to_be_bytes w32 x.0) x.1 × (x.0 < 2 ^ 32)
unfolding count_at
count_takes bytes x fits e =
    let a = bind_some (front_at 4 bytes) (λ y. Some (from_be_bytes w32 y.0, y.1)) x e in
    let front = front_takes 4 bytes a.0 fits a.1 in
    let text = a.0.0 in
    let back : to_be_bytes w32 (from_be_bytes w32 text) ≡ text = be_bytes_4 text _ front.long front.text_fits refl in
    let small : from_be_bytes w32 text < 2 ^ 32 = omega (arith, front.text_fits 0, front.text_fits 1, front.text_fits 2, front.text_fits 3) in
    subst (λ (y : ℕ × List ℕ). Takes bytes (to_be_bytes w32 y.0) y.1 × (y.0 < 2 ^ 32)) (same_Some (from_be_bytes w32 text, a.0.1) x a.2)
    (subst (λ (t : List ℕ). Takes bytes t a.0.1) (sym back) front.takes, small)

pub count_again : (n : ℕ) (rest : List ℕ) → n < 2 ^ 32 → count_at (to_be_bytes w32 n ++ rest) ≡ Some (n, rest)
unfolding count_at
count_again n rest small =
    ap (λ r. r >>= λ y. Some (from_be_bytes w32 y.0, y.1)) (front_again 4 (to_be_bytes w32 n) rest refl)
    ∙ ap (λ m. Some (m, rest)) (from_be_bytes-to_be_bytes_4 n small)

-- ---- texts

pub text_takes : (bytes : List ℕ) (x : List ℕ × List ℕ) → IsBytes bytes → text_at bytes ≡ Some x → Takes bytes (short_text x.0) x.1 × (is_atom_text x.0 ≡ true)
unfolding text_at
text_takes bytes x fits e =
    let a = bind_some (first_at bytes) (λ len. front_at len.0 len.1 >>= λ text. cond (is_atom_text text.0) (Some text) None) x e in
    let b = bind_some (front_at a.0.0 a.0.1) (λ text. cond (is_atom_text text.0) (Some text) None) x a.2 in
    let is = allowed (is_atom_text b.0.0) b.0 x b.2 in
    let first = first_takes bytes a.0 fits a.1 in
    let front = front_takes a.0.0 a.0.1 b.0 first.0.rest_fits b.1 in
    let both = Takes-then bytes (a.0.0 ∷ []) a.0.1 b.0.0 b.0.1 first.0 front.takes in
    subst (λ (y : List ℕ × List ℕ). Takes bytes (short_text y.0) y.1 × (is_atom_text y.0 ≡ true)) is.1
    (subst (λ (n : ℕ). Takes bytes (n ∷ b.0.0) b.0.1) (sym front.long) both, is.0)

pub text_again : (text rest : List ℕ) → is_atom_text text ≡ true → text_at (short_text text ++ rest) ≡ Some (text, rest)
unfolding text_at
text_again text rest is = rw (front_again (length text) text rest refl, is) refl

-- ---- binaries

pub binary_takes : (bytes : List ℕ) (x : List ℕ × List ℕ) → IsBytes bytes → binary_at bytes ≡ Some x → Takes bytes (to_be_bytes w32 (length x.0) ++ x.0) x.1 × (length x.0 < 2 ^ 32)
unfolding binary_at
binary_takes bytes x fits e =
    let a = bind_some (count_at bytes) (λ len. front_at len.0 len.1) x e in
    let count = count_takes bytes a.0 fits a.1 in
    let front = front_takes a.0.0 a.0.1 x count.0.rest_fits a.2 in
    let both = Takes-then bytes (to_be_bytes w32 a.0.0) a.0.1 x.0 x.1 count.0 front.takes in
    (subst (λ (n : ℕ). Takes bytes (to_be_bytes w32 n ++ x.0) x.1) (sym front.long) both, omega (arith, front.long, count.1))

pub binary_again : (text rest : List ℕ) → length text < 2 ^ 32 → binary_at (to_be_bytes w32 (length text) ++ (text ++ rest)) ≡ Some (text, rest)
unfolding binary_at
binary_again text rest small =
    ap (λ r. r >>= λ len. front_at len.0 len.1) (count_again (length text) (text ++ rest) small) ∙ front_again (length text) text rest refl

-- ---- origins

abbrev pub origin_bytes : Origin → List ℕ
origin_bytes origin = short_text origin.module ++ (short_text origin.name ++ (origin.arity ∷ []))

-- the text of an atom has at most 255 bytes
short : (text : List ℕ) → is_atom_text text ≡ true → length text ≤ 255
short text is = leb-true (length text) 255 (and_parts (leb (length text) 255) (is_utf8 text) is).0

-- an origin was read, and its texts are short
pub record IsOrigin (bytes : List ℕ) (origin : Origin) (rest : List ℕ) : Type 0 where
  pub takes : Takes bytes (origin_bytes origin) rest
  pub short_module : length origin.module ≤ 255
  pub short_name : length origin.name ≤ 255

pub origin_takes : (bytes : List ℕ) (x : Origin × List ℕ) → IsBytes bytes → origin_at bytes ≡ Some x → IsOrigin bytes x.0 x.1
unfolding origin_at
origin_takes bytes x fits e =
    let made : (List ℕ × List ℕ) → (List ℕ × List ℕ) → (ℕ × List ℕ) → Origin × List ℕ = λ h n a. (record { «module» = h.0; name = n.0; arity = a.0 }, a.1) in
    let a = bind_some (text_at bytes) (λ h. text_at h.1 >>= λ n. first_at n.1 >>= λ arity. Some (made h n arity)) x e in
    let b = bind_some (text_at a.0.1) (λ n. first_at n.1 >>= λ arity. Some (made a.0 n arity)) x a.2 in
    let c = bind_some (first_at b.0.1) (λ arity. Some (made a.0 b.0 arity)) x b.2 in
    let home = text_takes bytes a.0 fits a.1 in
    let name = text_takes a.0.1 b.0 home.0.rest_fits b.1 in
    let arity = first_takes b.0.1 c.0 name.0.rest_fits c.1 in
    let behind = Takes-then a.0.1 (short_text b.0.0) b.0.1 (c.0.0 ∷ []) c.0.1 name.0 arity.0 in
    let whole = Takes-then bytes (short_text a.0.0) a.0.1 (short_text b.0.0 ++ (c.0.0 ∷ [])) c.0.1 home.0 behind in
    subst (λ (y : Origin × List ℕ). IsOrigin bytes y.0 y.1) (same_Some (made a.0 b.0 c.0) x c.2)
    (record { takes = whole; short_module = short a.0.0 home.1; short_name = short b.0.0 name.1 })

pub origin_again : (origin : Origin) (rest : List ℕ) → is_origin origin ≡ true
    → origin_at (short_text origin.module ++ (short_text origin.name ++ (origin.arity ∷ rest))) ≡ Some (origin, rest)
unfolding origin_at
origin_again origin rest is =
    let outer = and_parts (is_atom_text origin.module && is_atom_text origin.name) (ltb origin.arity 256) is in
    let inner = and_parts (is_atom_text origin.module) (is_atom_text origin.name) outer.0 in
    rw (text_again origin.module (short_text origin.name ++ (origin.arity ∷ rest)) inner.0, text_again origin.name (origin.arity ∷ rest) inner.1) refl

-- ---- integers

-- The low bytes say which integer it is; that it can't do with fewer says how many there are.
integer_is : (len : ℕ) (text : List ℕ) → 1 ≤ len → len ≤ 16 → length text ≡ len → IsBytes text
    → integer_len (twos_complement len (big_number len text)) ≡ len → integer_bytes (twos_complement len (big_number len text)) ≡ text
integer_is len text low high long fits least =
    let small : big_number len text < 256 ^ len = big_from-lt 0 len text fits in
    ap (λ n. bytes_high_first n (low_bytes w128 n (twos_complement len (big_number len text)))) least
    ∙ (ap (bytes_high_first len) (low_back (big_number len text) len low high small)
    ∙ ((λ i. bytes_high_first (sym long i) (big_number (sym long i) text)) ∙ bytes_back text fits))

pub integer_takes : (bytes : List ℕ) (x : ℤ × List ℕ) → IsBytes bytes → integer_at bytes ≡ Some x → Takes bytes (integer_len x.0 ∷ integer_bytes x.0) x.1
unfolding integer_at
integer_takes bytes x fits e =
    let body : ℕ × List ℕ → Option (ℤ × List ℕ) = λ len. front_at len.0 len.1 >>= λ text. fewest len.0 text.0 text.1 in
    let a = bind_some (first_at bytes) (λ len. cond (eqb len.0 0) None (cond (ltb 16 len.0) None (body len))) x e in
    let len = a.0.0 in
    let b = passed (eqb len 0) (cond (ltb 16 len) None (body a.0)) x a.2 in
    let c = passed (ltb 16 len) (body a.0) x b.1 in
    let d = bind_some (front_at len a.0.1) (λ text. fewest len text.0 text.1) x c.1 in
    let text = d.0.0 in
    let z = twos_complement len (big_number len text) in
    let g = allowed (eqb (integer_len z) len) (z, d.0.1) x d.2 in
    let first = first_takes bytes a.0 fits a.1 in
    let front = front_takes len a.0.1 d.0 first.0.rest_fits d.1 in
    let both = Takes-then bytes (len ∷ []) a.0.1 text d.0.1 first.0 front.takes in
    let some = eqb-false len 0 b.0 in
    let most : len ≤ 16 = ltb-false 16 len c.0 in
    let least : integer_len z ≡ len = eqb-true _ _ g.0 in
    let low : 1 ≤ len = omega (arith, some) in
    let is = integer_is len text low most front.long front.text_fits least in
    subst (λ (y : ℤ × List ℕ). Takes bytes (integer_len y.0 ∷ integer_bytes y.0) y.1) g.1
    (subst (λ (t : List ℕ). Takes bytes t d.0.1) (λ i. sym least i ∷ sym is i) both)

fewest_is : (len : ℕ) (text rest : List ℕ) (z : ℤ) → twos_complement len (big_number len text) ≡ z → integer_len z ≡ len → fewest len text rest ≡ Some (z, rest)
fewest_is len text rest z is least =
    ap (λ n. cond (eqb (integer_len n) len) (Some (n, rest)) None) is ∙ ap (λ b. cond b (Some (z, rest)) None) (eq-eqb _ _ least)

pub integer_again : (z : ℤ) (rest : List ℕ) → fits_128 z ≡ true → integer_at ((integer_len z ∷ integer_bytes z) ++ rest) ≡ Some (z, rest)
unfolding integer_at
integer_again z rest fits =
    let len = integer_len z in
    let text = integer_bytes z in
    let x = low_bytes w128 len z in
    let holds = len_holds (behind_sign z) (fits_behind_sign z fits) in
    let some : eqb len 0 ≡ false = ne_eqb _ _ (λ e. absurd (omega (arith, holds.some, e))) in
    let few : ltb 16 len ≡ false = le-ltb _ _ holds.most in
    let small : x < 256 ^ len = subst (λ n. x < n) (sym (bits_of len)) (mod-lt (cast_unsigned w128 z) (pow_pos (8 * len))) in
    let front = front_again len text rest (length-bytes_high_first len x) in
    let number : big_number len text ≡ x = ap (big_number len) (sym (append-nil text)) ∙ big_number-reads_back len x [] small in
    let is : twos_complement len (big_number len text) ≡ z = ap (twos_complement len) number ∙ low_again z len holds in
    (λ i. cond (some i) None (cond (few i) None (front i >>= λ y. fewest len y.0 y.1))) ∙ fewest_is len text rest z is refl
