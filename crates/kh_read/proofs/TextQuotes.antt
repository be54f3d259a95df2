-- Reading a text in quotes.
use Rattle.std.proofs.Common.{◌≡◌, ◌≤◌, ◌<◌, ℕ, zero, suc, ◌+◌, ◌-◌, ◌*◌, Bool, true, false, not, ◌&&◌, ◌||◌, cond, eqb, ltb, leb, List, [], ◌∷◌, ◌++◌, length, Option, Some, None, inl, inr, refl, sym, ap, subst, ◌∙◌, arith, append_assoc, IsTrue}
use Rattle.std.specs.Prelude.{◌⊎◌}
use Rattle.std.specs.Char.{IsScalar, encode_utf8, is_ascii_hexdigit, digit_value, len_utf8}
use Rattle.std.specs.List.{list_all}
use Rattle.std.specs.Str.Parse.{digits_value, digits_value_after}
use Rattle.std.proofs.lemmas.Bool.{eqb-true, eqb-false, ltb-true, leb-true, lt-ltb, le-ltb, ne_eqb, not_from_false, not_from_true, and_parts, and_from, le-leb, or_cases, not-true}
use Rattle.std.proofs.lemmas.Bool.Decides.{nat_tests}
use Rattle.std.proofs.lemmas.Str.{encode_ascii}
use Rattle.std.proofs.lemmas.List.{length-append, append-nil}
use Rattle.kh_text_defs.specs.declared.mode.Mode.{Mode}
use Rattle.kh_text_defs.specs.Tokens.{are_code_digits, escaped, Character, as_it_is, by_letter, by_code, Characters, no_character, one_character}
use Rattle.kh_read.specs.State.{Frame, Use, ForName, ForList, ForSegment, Inner, Plain, Slash, Brace, Code, Follow, Quoting, Place, Quote, State, Setting, Halt, Syntax, Step, Go, Stop, Reading, Cut}
use Rattle.kh_read.specs.Steps.{at, fault, bound, used, with_point, quote_of, quote_ended, is_within, lead, step_plain, named, step_slash, is_surrogate, can_be_code, step_code, followed, step_quote, step_place, read_on}
use Rattle.kh_read.proofs.TextCore.{spot, byte_goes, byte_stops, at_the_end}
use Rattle.kh_read.proofs.TextReads.{Reads, whole, part, halted, any}
use Rattle.kh_read.proofs.TextPoints.{bounds, some_bound, most_bound, quote_small, same_quote, low_scalar, high_scalar, no_surrogate, a_surrogate, Follows, least, most, ValidFollow, valid_next, IsPoint, last_point, two_bytes, three_bytes, four_bytes}

-- a byte in front
pub reads_byte : {A B : Type 0} (σ : Setting) (Good : List ℕ → Bool) (R : List ℕ → A → Type 0) (S : List ℕ → B → Type 0) (next : A → State) (later : B → State) (f : A → B) (p b : ℕ) (bytes : List ℕ) (start on : Reading)
    → ((u : List ℕ) (x : A) → R u x → S (b ∷ u) (f x)) → ((x : A) → next x ≡ later (f x)) → start ≡ on
    → Reads σ Good R next (suc p) bytes on → Reads σ Good S later p (b ∷ bytes) start
reads_byte σ Good R S next later f p b bytes start on stands goes same (whole u rest x q parts r good e place) =
    whole (b ∷ u) rest (f x) q (ap (λ (t : List ℕ). b ∷ t) parts) (stands u x r) good (same ∙ (e ∙ ap (λ (s : State). read_on σ s q rest) (goes x))) (omega (arith, place))
reads_byte σ Good R S next later f p b bytes start on stands goes same (part more x e r) = part more (f x) (same ∙ e) (stands _ x r)
reads_byte σ Good R S next later f p b bytes start on stands goes same (halted halt q e) = halted halt q (same ∙ e)

-- each code point is below what is allowed behind those before it
abbrev pub AreBelow : Mode → Use → List ℕ → Type 0
AreBelow mode use_ [] = Unit {0}
AreBelow mode use_ (c ∷ cs) = (c < bound mode use_) × AreBelow mode (used use_ c) cs

-- further characters and the quote
pub record PlainRest (mode : Mode) (q : Quoting) (text points : List ℕ) : Type 0 where
  pub inside : List ℕ
  pub more : List ℕ
  pub characters : Characters (quote_of q.use_) inside more
  pub below : AreBelow mode q.use_ more
  pub parts : text ≡ inside ++ quote_of q.use_ ∷ []
  pub value : points ≡ q.points ++ more

-- the digits of a code that has begun
pub record CodeRest (count value : ℕ) (text : List ℕ) (c : ℕ) : Type 0 where
  pub digits : List ℕ
  pub each : list_all is_ascii_hexdigit digits ≡ true
  pub some : 1 ≤ count + length digits
  pub few : count + length digits ≤ 6
  pub is : c ≡ digits_value_after 16 value digits
  pub parts : text ≡ digits ++ 125 ∷ []

-- what completes the code point that has begun
abbrev pub Completes : ℕ → Inner → List ℕ → ℕ → Type 0
Completes quote Plain text c = ⊥
Completes quote Slash text c = Character quote (92 ∷ text) c
Completes quote Brace text c = Character quote (92 ∷ 120 ∷ text) c
Completes quote (Code count value) text c = CodeRest count value text c
Completes quote (Follow n low high v) text c = Follows n (low, high) v text c

abbrev pub with_one : Quoting → ℕ → Quoting
with_one q c = record { use_ = used q.use_ c; points = q.points ++ c ∷ [] }

pub record PointRest (mode : Mode) (q : Quoting) (inner : Inner) (text points : List ℕ) : Type 0 where
  pub first : List ℕ
  pub rest : List ℕ
  pub point : ℕ
  pub completes : Completes (quote_of q.use_) inner first point
  pub is : IsPoint (bound mode q.use_) point
  pub more : PlainRest mode (with_one q point) rest points
  pub parts : text ≡ first ++ rest

abbrev pub InnerRest : Mode → Quoting → Inner → List ℕ → List ℕ → Type 0
InnerRest mode q Plain text points = PlainRest mode q text points
InnerRest mode q Slash text points = PointRest mode q Slash text points
InnerRest mode q Brace text points = PointRest mode q Brace text points
InnerRest mode q (Code count value) text points = PointRest mode q (Code count value) text points
InnerRest mode q (Follow n low high v) text points = PointRest mode q (Follow n low high v) text points

-- the digits so far are none, or the first of a code point's
abbrev pub ValidCode : ℕ → ℕ → ℕ → Type 0
ValidCode below count value = ((count ≡ 0) × (value ≡ 0)) ⊎ ((1 ≤ count) × (count ≤ 6) × (can_be_code below count value ≡ true))

abbrev pub Valid : ℕ → Inner → Type 0
Valid below Plain = Unit {0}
Valid below Slash = 0x80 ≤ below
Valid below Brace = 0x80 ≤ below
Valid below (Code count value) = (0x80 ≤ below) × ValidCode below count value
Valid below (Follow n low high v) = ValidFollow below n low high v

-- ---- a character in front

pub character_first : (mode : Mode) (q : Quoting) (first rest : List ℕ) (c : ℕ) (points text : List ℕ) → Character (quote_of q.use_) first c → c < bound mode q.use_
    → PlainRest mode (with_one q c) rest points → text ≡ first ++ rest → PlainRest mode q text points
character_first mode q first rest c points text character below more parts = record {
  inside = first ++ more.inside;
  more = c ∷ more.more;
  characters = one_character _ first more.inside c more.more character (subst (λ (k : ℕ). Characters k more.inside more.more) (same_quote q.use_ c) more.characters) refl;
  below = (below, more.below);
  parts = parts ∙ (ap (λ (t : List ℕ). first ++ t) (more.parts ∙ ap (λ (k : ℕ). more.inside ++ k ∷ []) (same_quote q.use_ c)) ∙ sym (append_assoc first more.inside (quote_of q.use_ ∷ [])));
  value = more.value ∙ append_assoc q.points (c ∷ []) more.more;
}

pub point_first : (mode : Mode) (q : Quoting) (inner : Inner) (front text points : List ℕ) → ((first : List ℕ) (c : ℕ) → Completes (quote_of q.use_) inner first c → IsScalar c → Character (quote_of q.use_) (front ++ first) c)
    → PointRest mode q inner text points → PlainRest mode q (front ++ text) points
point_first mode q inner front text points complete h =
    character_first mode q (front ++ h.first) h.rest h.point points (front ++ text) (complete h.first h.point h.completes h.is.scalar) h.is.under h.more
    (ap (λ (t : List ℕ). front ++ t) h.parts ∙ sym (append_assoc front h.first h.rest))

pub point_step : (mode : Mode) (q : Quoting) (inner next : Inner) (b : ℕ) (text points : List ℕ) → ((first : List ℕ) (c : ℕ) → Completes (quote_of q.use_) next first c → Completes (quote_of q.use_) inner (b ∷ first) c)
    → PointRest mode q next text points → PointRest mode q inner (b ∷ text) points
point_step mode q inner next b text points complete h = record {
  first = b ∷ h.first;
  rest = h.rest;
  point = h.point;
  completes = complete h.first h.point h.completes;
  is = h.is;
  more = h.more;
  parts = ap (λ (t : List ℕ). b ∷ t) h.parts;
}

pub point_last : (mode : Mode) (q : Quoting) (inner : Inner) (first text : List ℕ) (c : ℕ) (points : List ℕ) → Completes (quote_of q.use_) inner first c → IsPoint (bound mode q.use_) c
    → PlainRest mode (with_one q c) text points → PointRest mode q inner (first ++ text) points
point_last mode q inner first text c points completes is more = record { first = first; rest = text; point = c; completes = completes; is = is; more = more; parts = refl }

-- ---- what can come

pub plain_sample : (mode : Mode) (q : Quoting) → PlainRest mode q (quote_of q.use_ ∷ []) q.points
plain_sample mode q = record { inside = []; more = []; characters = no_character; below = tt; parts = refl; value = sym (append-nil q.points) }

-- a text that completes the code point
pub record HasPoint (mode : Mode) (q : Quoting) (inner : Inner) : Type 0 where
  pub first : List ℕ
  pub point : ℕ
  pub completes : Completes (quote_of q.use_) inner first point
  pub is : IsPoint (bound mode q.use_) point

pub then_quote : (mode : Mode) (q : Quoting) (inner : Inner) → (h : HasPoint mode q inner) → PointRest mode q inner (h.first ++ quote_of (used q.use_ h.point) ∷ []) (q.points ++ h.point ∷ [])
then_quote mode q inner h = point_last mode q inner h.first (quote_of (used q.use_ h.point) ∷ []) h.point (q.points ++ h.point ∷ []) h.completes h.is (plain_sample mode (with_one q h.point))

code_0 : (quote : ℕ) → Character quote (92 ∷ 120 ∷ 123 ∷ 48 ∷ 125 ∷ []) 0
code_0 quote = by_code _ (48 ∷ []) 0 refl refl refl refl

pub slash_has : (mode : Mode) (q : Quoting) → 0x80 ≤ bound mode q.use_ → HasPoint mode q Slash
slash_has mode q some = record { first = 110 ∷ []; point = 10; completes = by_letter _ 110 10 refl refl; is = record { scalar = refl; under = omega arith } }

pub brace_has : (mode : Mode) (q : Quoting) → 0x80 ≤ bound mode q.use_ → HasPoint mode q Brace
brace_has mode q some = record { first = 123 ∷ 48 ∷ 125 ∷ []; point = 0; completes = code_0 (quote_of q.use_); is = record { scalar = refl; under = omega arith } }

pub code_has : (mode : Mode) (q : Quoting) (count value : ℕ) → 0x80 ≤ bound mode q.use_ → ValidCode (bound mode q.use_) count value → HasPoint mode q (Code count value)
code_has mode q count value some (inl none) = record {
  first = 48 ∷ 125 ∷ [];
  point = 0;
  completes = record { digits = 48 ∷ []; each = refl; some = omega arith; few = omega (arith, none.0); is = zero_more; parts = refl };
  is = record { scalar = refl; under = omega arith };
}
  where
    zero_more : 0 ≡ digits_value_after 16 value (48 ∷ [])
    zero_more = omega (arith, none.1)
code_has mode q count value some (inr begun) = go (is_surrogate value) refl
  where
    below : ℕ
    below = bound mode q.use_

    parts : (ltb value (bound mode q.use_) ≡ true) × ((not (is_surrogate value) || (ltb count 6 && ltb (value * 16) (bound mode q.use_))) ≡ true)
    parts = and_parts _ _ begun.2

    go : (s : Bool) → is_surrogate value ≡ s → HasPoint mode q (Code count value)
    go false e = record {
      first = 125 ∷ [];
      point = value;
      completes = record { digits = []; each = refl; some = omega (arith, begun.0); few = omega (arith, begun.1); is = refl; parts = refl };
      is = record { scalar = scalar (no_surrogate value e); under = ltb-true _ _ parts.0 };
    }
      where
        scalar : (value < 0xD800) ⊎ (0xE000 ≤ value) → IsScalar value
        scalar (inl h) = low_scalar value h
        scalar (inr h) = high_scalar value h (omega (arith, h, ltb-true _ _ parts.0, most_bound mode q.use_))
    go true e =
        let range = a_surrogate value e in
        let later = rest (or_cases _ _ parts.1) in
        record {
          first = 48 ∷ 125 ∷ [];
          point = value * 16 + 0;
          completes = record { digits = 48 ∷ []; each = refl; some = omega (arith, begun.0); few = omega (arith, later.0); is = refl; parts = refl };
          is = record { scalar = high_scalar (value * 16 + 0) (omega (arith, range.0)) (omega (arith, later.1, most_bound mode q.use_)); under = omega (arith, later.1) };
        }
      where
        rest : (not (is_surrogate value) ≡ true) ⊎ ((ltb count 6 && ltb (value * 16) (bound mode q.use_)) ≡ true) → (count < 6) × (value * 16 < bound mode q.use_)
        rest (inl h) = absurd (let no : is_surrogate value ≡ false = not-true _ h in cc)
        rest (inr h) = let both = and_parts _ _ h in (ltb-true _ _ both.0, ltb-true _ _ both.1)

pub follow_has : (mode : Mode) (q : Quoting) (n low high v : ℕ) → ValidFollow (bound mode q.use_) n low high v → HasPoint mode q (Follow n low high v)
follow_has mode q zero low high v valid = record {
  first = low ∷ [];
  point = v * 64 + (low - 128);
  completes = (low, omega arith, valid.order, refl, refl);
  is = last_point (bound mode q.use_) low high v low (most_bound mode q.use_) valid (omega arith) valid.order;
}
follow_has mode q (suc n) low high v valid =
    let h = follow_has mode q n 128 191 (v * 64 + (low - 128)) (valid_next (bound mode q.use_) n low high v low valid (omega arith) valid.order) in
    record { first = low ∷ h.first; point = h.point; completes = (low, h.first, omega arith, valid.order, refl, h.completes); is = h.is }
