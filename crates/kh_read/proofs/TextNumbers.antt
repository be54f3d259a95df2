-- Where an integer that leaves its range begins.
use Rattle.std.proofs.Common.{◌≡◌, ◌≤◌, ◌<◌, ℕ, zero, suc, ◌+◌, ◌-◌, ◌*◌, Bool, true, false, not, ◌&&◌, ◌||◌, cond, eqb, List, [], ◌∷◌, ◌++◌, length, take, drop, inl, inr, refl, sym, ap, subst, ◌∙◌, arith, append_assoc, IsTrue, ℤ, pos}
use Rattle.std.specs.Prelude.{◌⊎◌, neg_ℤ, slice_range}
use Rattle.std.specs.Char.{is_ascii_digit, digit_value}
use Rattle.std.specs.List.{list_all}
use Rattle.std.specs.Str.Parse.{digits_value, digits_value_after}
use Rattle.std.proofs.Math.Seq.{take-append_seam, drop-append_seam}
use Rattle.std.proofs.lemmas.Bool.{and_parts, and_from, eqb-true, le-leb, or_left}
use Rattle.std.proofs.lemmas.List.{append-nil, length-append, length-drop, drop-append-le}
use Rattle.kh_term.specs.WellFormed.{fits_128}
use Rattle.kh_text_defs.specs.declared.mode.Mode.{Mode}
use Rattle.kh_text_defs.specs.Faults.{IsWholeInteger, NumberFaultAt}
use Rattle.kh_text_defs.specs.Tokens.{are_digits, IsInteger}
use Rattle.kh_read.specs.State.{Frame, Place, Before, After, AfterName, AfterArity, AfterByte, AfterText, AfterSegment, Minus, Digits, Word, Quote, Angle, Sharp, Arrow, Close, Dotted, Point, Fraction, Mark, Signed, Exponent, SizeMark, Size, UtfMark, Utf, Fun, CountMark, Count, State, Setting, Halt, Number, Step, Go, Stop}
use Rattle.kh_read.specs.Steps.{at, signed, digit_of, step, step_place, fresh}
use Rattle.kh_read.proofs.TextDigits.{digit_is, first_value}
use Rattle.kh_read.proofs.TextTrace.{Path}
use Rattle.kh_read.proofs.TextAnswers.{within}
use Rattle.kh_read.proofs.TextFaults.{number_stops, number_begins}
use Rattle.kh_read.proofs.TextMoves.{is_mark, is_calm, Grown, begun, behind_minus, more, Moves, place_moves}

-- ---- what is known of the bytes before a place

-- there is none before, or the last is no part of an integer
abbrev EndsMark : List ℕ → Type 0
EndsMark front = (front ≡ []) ⊎ ((others : List ℕ) × (c : ℕ) × (front ≡ others ++ c ∷ []) × (is_mark c ≡ true))

abbrev sign_of : Bool → List ℕ → List ℕ
sign_of true digits = 45 ∷ digits
sign_of false digits = digits

record MinusAt (front : List ℕ) (first : ℕ) : Type 0 where
  pre : List ℕ
  parts : front ≡ pre ++ 45 ∷ []
  place : length pre ≡ first
  mark : EndsMark pre

record IntegerAt (front : List ℕ) (first : ℕ) (neg : Bool) (m : ℕ) : Type 0 where
  pre : List ℕ
  text : List ℕ
  parts : front ≡ pre ++ sign_of neg text
  place : length pre ≡ first
  mark : EndsMark pre
  are : are_digits text ≡ true
  value : m ≡ digits_value 10 text

record Known (s : State) (front : List ℕ) : Type 0 where
  calm : s.comment ≡ true → is_calm s.place ≡ true
  before : s.place ≡ Before → s.comment ≡ false → EndsMark front
  minus : (first : ℕ) → s.place ≡ Minus first → MinusAt front first
  digits : (first m : ℕ) (neg : Bool) → s.place ≡ Digits first neg m → IntegerAt front first neg m

known_fresh : Known fresh []
known_fresh = record {
  calm = λ e. absurd (let clash : false ≡ true = e in cc);
  before = λ e c. inl refl;
  minus = λ first e. absurd (let clash : Before ≡ Minus first = e in cc);
  digits = λ first m neg e. absurd (let clash : Before ≡ Digits first neg m = e in cc);
}

-- ---- one more digit

value_more : (a : ℕ) (ds : List ℕ) (b : ℕ) → digits_value_after 10 a (ds ++ b ∷ []) ≡ digits_value_after 10 a ds * 10 + digit_value b
value_more a [] b = refl
value_more a (d ∷ ds) b = value_more (a * 10 + digit_value d) ds b

all_digits_more : (ds : List ℕ) (b : ℕ) → list_all is_ascii_digit ds ≡ true → is_ascii_digit b ≡ true → list_all is_ascii_digit (ds ++ b ∷ []) ≡ true
all_digits_more [] b each is = and_from _ _ is refl
all_digits_more (d ∷ ds) b each is = let parts = and_parts _ _ each in and_from _ _ parts.0 (all_digits_more ds b parts.1 is)

digits_more : (ds : List ℕ) (b : ℕ) → are_digits ds ≡ true → is_ascii_digit b ≡ true → are_digits (ds ++ b ∷ []) ≡ true
digits_more ds b are is =
    and_from _ _ (le-leb 1 (length (ds ++ b ∷ [])) (omega (arith, length-append ds (b ∷ [])))) (all_digits_more ds b (and_parts _ _ are).1 is)

sign_more : (neg : Bool) (ds : List ℕ) (b : ℕ) → sign_of neg ds ++ b ∷ [] ≡ sign_of neg (ds ++ b ∷ [])
sign_more true ds b = refl
sign_more false ds b = refl

one_digit : (b : ℕ) → is_ascii_digit b ≡ true → are_digits (b ∷ []) ≡ true
one_digit b is = and_from _ _ refl (and_from _ _ is refl)

grown_at : (s : State) (front : List ℕ) (b first : ℕ) (neg : Bool) (m : ℕ) → Known s front → s.comment ≡ false → Grown s.place (length front) b first neg m → IntegerAt (front ++ b ∷ []) first neg m
grown_at s front b first neg m known c (begun is same sign value digit) =
    subst (λ (x : Bool). IntegerAt (front ++ b ∷ []) first x m) (sym sign) (record {
      pre = front;
      text = b ∷ [];
      parts = refl;
      place = sym same;
      mark = known.before is c;
      are = one_digit b digit;
      value = value ∙ sym (first_value b [] digit);
    })
grown_at s front b first neg m known c (behind_minus is sign value digit) =
    let k = known.minus first is in
    subst (λ (x : Bool). IntegerAt (front ++ b ∷ []) first x m) (sym sign) (record {
      pre = k.pre;
      text = b ∷ [];
      parts = ap (λ (w : List ℕ). w ++ b ∷ []) k.parts ∙ append_assoc k.pre (45 ∷ []) (b ∷ []);
      place = k.place;
      mark = k.mark;
      are = one_digit b digit;
      value = value ∙ sym (first_value b [] digit);
    })
grown_at s front b first neg m known c (more j is value digit) =
    let k = known.digits first j neg is in
    let same : digit_value b ≡ digit_of b = digit_is b digit in
    record {
      pre = k.pre;
      text = k.text ++ b ∷ [];
      parts = ap (λ (w : List ℕ). w ++ b ∷ []) k.parts ∙ (append_assoc k.pre (sign_of neg k.text) (b ∷ []) ∙ ap (λ (w : List ℕ). k.pre ++ w) (sign_more neg k.text b));
      place = k.place;
      mark = k.mark;
      are = digits_more k.text b k.are digit;
      value = value ∙ (ap (λ (n : ℕ). n * 10 + digit_of b) k.value ∙ (ap (λ (n : ℕ). digits_value 10 k.text * 10 + n) (sym same) ∙ sym (value_more 0 k.text b)));
    }

-- ---- step by step

calm_by : (here : Place) → ((first : ℕ) → here ≡ Minus first → ⊥) → ((first m : ℕ) (neg : Bool) → here ≡ Digits first neg m → ⊥) → is_calm here ≡ true
calm_by Before h k = refl
calm_by (After t) h k = refl
calm_by (AfterName x) h k = refl
calm_by (AfterArity z) h k = refl
calm_by (AfterByte x) h k = refl
calm_by (AfterText cs) h k = refl
calm_by AfterSegment h k = refl
calm_by (Minus first) h k = absurd (h first refl)
calm_by (Digits first neg m) h k = absurd (k first m neg refl)
calm_by (Word x) h k = refl
calm_by (Quote q inner) h k = refl
calm_by Angle h k = refl
calm_by (Sharp x) h k = refl
calm_by (Arrow x) h k = refl
calm_by Close h k = refl
calm_by (Dotted t) h k = refl
calm_by (Point z) h k = refl
calm_by Fraction h k = refl
calm_by Mark h k = refl
calm_by Signed h k = refl
calm_by Exponent h k = refl
calm_by SizeMark h k = refl
calm_by Size h k = refl
calm_by UtfMark h k = refl
calm_by (Utf x) h k = refl
calm_by Fun h k = refl
calm_by CountMark h k = refl
calm_by Count h k = refl

same_state : (s n : State) → Go s ≡ Go n → s ≡ n
same_state s n e = cc

calm_minus : (here : Place) (first : ℕ) → is_calm here ≡ true → here ≡ Minus first → ⊥
calm_minus here first calm e = absurd (let clash : false ≡ true = ap is_calm (sym e) ∙ calm in cc)

calm_digits : (here : Place) (first m : ℕ) (neg : Bool) → is_calm here ≡ true → here ≡ Digits first neg m → ⊥
calm_digits here first m neg calm e = absurd (let clash : false ≡ true = ap is_calm (sym e) ∙ calm in cc)

-- behind a newline, and in a comment
known_line : (s n : State) (front : List ℕ) (b : ℕ) → is_calm s.place ≡ true → eqb b 10 ≡ true → at s.place s.frames ≡ Go n → Known n (front ++ b ∷ [])
known_line s n front b calm is e =
    let same : record { comment = false; place = s.place; frames = s.frames } ≡ n = same_state (record { comment = false; place = s.place; frames = s.frames }) n e in
    let here : s.place ≡ n.place = ap (λ (x : State). x.place) same in
    record {
      calm = λ c. ap is_calm (sym here) ∙ calm;
      before = λ f c. inr (front, b, refl, subst (λ (x : ℕ). is_mark x ≡ true) (sym (eqb-true b 10 is)) refl);
      minus = λ first f. absurd (calm_minus s.place first calm (here ∙ f));
      digits = λ first m neg f. absurd (calm_digits s.place first m neg calm (here ∙ f));
    }

known_comment : (s n : State) (front : List ℕ) (b : ℕ) → s.comment ≡ true → is_calm s.place ≡ true → Go s ≡ Go n → Known n (front ++ b ∷ [])
known_comment s n front b inside calm e =
    let same : s ≡ n = same_state s n e in
    let here : s.place ≡ n.place = ap (λ (x : State). x.place) same in
    record {
      calm = λ c. ap is_calm (sym here) ∙ calm;
      before = λ f c. absurd (let clash : true ≡ false = sym inside ∙ (ap (λ (x : State). x.comment) same ∙ c) in cc);
      minus = λ first f. absurd (calm_minus s.place first calm (here ∙ f));
      digits = λ first m neg f. absurd (calm_digits s.place first m neg calm (here ∙ f));
    }

known_place : (s n : State) (front : List ℕ) (b : ℕ) (st : Step) → Known s front → s.comment ≡ false → Moves s.place (length front) b st → st ≡ Go n → Known n (front ++ b ∷ [])
known_place s n front b st known c moves e = record {
  calm = λ inside. calm_by n.place
      (λ first f. absurd (let clash : true ≡ false = sym inside ∙ (moves.minus n first e f).0 in cc))
      (λ first m neg f. absurd (let clash : true ≡ false = sym inside ∙ (moves.digits n first m neg e f).0 in cc));
  before = λ f d. inr (front, b, refl, moves.before n e f d);
  minus = λ first f.
      let k = moves.minus n first e f in
      record { pre = front; parts = ap (λ (x : ℕ). front ++ x ∷ []) k.3; place = sym k.2; mark = known.before k.1 c };
  digits = λ first m neg f. grown_at s front b first neg m known c (moves.digits n first m neg e f).1;
}

known_step : (σ : Setting) (s n : State) (front : List ℕ) (b : ℕ) → Known s front → step σ s (length front) b ≡ Go n → Known n (front ++ b ∷ [])
unfolding step
known_step σ s n front b known e = go s.comment refl e
  where
    line : (t : Bool) → eqb b 10 ≡ t → is_calm s.place ≡ true → s.comment ≡ true → cond t (at s.place s.frames) (Go s) ≡ Go n → Known n (front ++ b ∷ [])
    line true is calm inside f = known_line s n front b calm is f
    line false is calm inside f = known_comment s n front b inside calm f

    go : (c : Bool) → s.comment ≡ c → cond c (cond (eqb b 10) (at s.place s.frames) (Go s)) (step_place σ s.place s.frames (length front) b) ≡ Go n → Known n (front ++ b ∷ [])
    go true c f = line (eqb b 10) refl (known.calm c) c f
    go false c f = known_place s n front b (step_place σ s.place s.frames (length front) b) known c (place_moves (length front) b σ s.place s.frames) f

known_path : (σ : Setting) (text : List ℕ) (s reached : State) (front : List ℕ) → Known s front → Path σ reached s (length front) text → Known reached (front ++ text)
known_path σ [] s reached front known h = subst (λ (w : List ℕ). Known reached w) (sym (append-nil front)) (subst (λ (x : State). Known x front) h known)
known_path σ (b ∷ text) s reached front known h =
    let place : suc (length front) ≡ length (front ++ b ∷ []) = omega (arith, length-append front (b ∷ [])) in
    subst (λ (w : List ℕ). Known reached w) (append_assoc front (b ∷ []) text)
    (known_path σ text h.0 reached (front ++ b ∷ []) (known_step σ s h.0 front b known h.1) (subst (λ (n : ℕ). Path σ reached h.0 n text) place h.2))

-- ---- an integer that leaves its range

record Leaves (front : List ℕ) (b first : ℕ) : Type 0 where
  neg : Bool
  magnitude : ℕ
  stands : IntegerAt (front ++ b ∷ []) first neg magnitude
  misfits : fits_128 (signed neg magnitude) ≡ false

leaves : (σ : Setting) (s : State) (front : List ℕ) (b first : ℕ) → Known s front → step σ s (length front) b ≡ Stop (Number first) → Leaves front b first
unfolding step
leaves σ s front b first known e = go s.comment refl e
  where
    no_stop : (t : Bool) → cond t (at s.place s.frames) (Go s) ≡ Stop (Number first) → Leaves front b first
    no_stop true f = absurd (cc)
    no_stop false f = absurd (cc)

    go : (c : Bool) → s.comment ≡ c → cond c (cond (eqb b 10) (at s.place s.frames) (Go s)) (step_place σ s.place s.frames (length front) b) ≡ Stop (Number first) → Leaves front b first
    go true c f = no_stop (eqb b 10) f
    go false c f =
        let k = (place_moves (length front) b σ s.place s.frames).number first f in
        record { neg = k.0; magnitude = k.1; stands = grown_at s front b first k.0 k.1 known c k.2; misfits = k.3 }

integer_is : (neg : Bool) (m : ℕ) (text : List ℕ) → are_digits text ≡ true → m ≡ digits_value 10 text → IsInteger (sign_of neg text) (signed neg m)
integer_is true m text are value = (text, are, inr (refl, ap (λ (n : ℕ). neg_ℤ (pos n)) value))
integer_is false m text are value = (text, are, inl (refl, ap pos value))

-- every byte of an integer is a digit or a minus sign
abbrev is_number_byte : ℕ → Bool
is_number_byte x = is_ascii_digit x || eqb x 45

digits_number : (ds : List ℕ) → list_all is_ascii_digit ds ≡ true → list_all is_number_byte ds ≡ true
digits_number [] each = refl
digits_number (d ∷ ds) each = let parts = and_parts _ _ each in and_from _ _ (or_left (is_ascii_digit d) (eqb d 45) parts.0) (digits_number ds parts.1)

all_number : (text : List ℕ) (z : ℤ) → IsInteger text z → list_all is_number_byte text ≡ true
all_number text z (digits, are, inl h) = ap (λ (w : List ℕ). list_all is_number_byte w) h.0 ∙ digits_number digits (and_parts _ _ are).1
all_number text z (digits, are, inr h) = ap (λ (w : List ℕ). list_all is_number_byte w) h.0 ∙ and_from _ _ refl (digits_number digits (and_parts _ _ are).1)

among : (xs : List ℕ) (c : ℕ) (ys : List ℕ) → list_all is_number_byte (xs ++ c ∷ ys) ≡ true → is_number_byte c ≡ true
among [] c ys each = (and_parts _ _ each).0
among (x ∷ xs) c ys each = among xs c ys (and_parts _ _ each).1

no_mark : (c : ℕ) → is_mark c ≡ true → is_number_byte c ≡ true → ⊥
no_mark c mark is = absurd (let clash : false ≡ true = ap not (sym is) ∙ mark in cc)

slice_to : (w rest : List ℕ) (a : ℕ) → a ≤ length w → slice_range (w ++ rest) a (length w) ≡ drop a w
slice_to w rest a le =
    ap (λ (u : List ℕ). take (length w - a) u) (drop-append-le a w rest le)
    ∙ (ap (λ (n : ℕ). take n (drop a w ++ rest)) (sym (length-drop a w)) ∙ take-append_seam (drop a w) rest)

-- no integer that ends there begins before
none_longer : (pre text : List ℕ) (before : ℕ) (z : ℤ) → EndsMark pre → before < length pre → IsInteger (drop before (pre ++ text)) z → ⊥
none_longer pre text before z (inl empty) less h = absurd (let n : length pre ≡ 0 = ap length empty in omega (arith, n, less))
none_longer pre text before z (inr h) less is =
    let n : length pre ≡ length h.0 + 1 = ap length h.2 ∙ length-append h.0 (h.1 ∷ []) in
    let front : drop before (pre ++ text) ≡ drop before h.0 ++ h.1 ∷ text =
    ap (λ (w : List ℕ). drop before (w ++ text)) h.2 ∙ (ap (λ (w : List ℕ). drop before w) (append_assoc h.0 (h.1 ∷ []) text) ∙ drop-append-le before h.0 (h.1 ∷ text) (omega (arith, n, less))) in
    no_mark h.1 h.3 (among (drop before h.0) h.1 text (ap (λ (w : List ℕ). list_all is_number_byte w) (sym front) ∙ all_number (drop before (pre ++ text)) z is))

whole_integer : (bytes w behind : List ℕ) (first : ℕ) (neg : Bool) (m end : ℕ) → bytes ≡ w ++ behind → end ≡ length w → IntegerAt w first neg m → IsWholeInteger bytes first end (signed neg m)
whole_integer bytes w behind first neg m end parts place k = (
  omega (arith, k.place, place, long, some),
  subst (λ (u : List ℕ). IsInteger u (signed neg m)) (sym (slice first (omega (arith, k.place, long)) ∙ from_first)) (integer_is neg m k.text k.are k.value),
  λ before other less is.
      none_longer k.pre (sign_of neg k.text) before other k.mark (omega (arith, less, k.place))
      (subst (λ (u : List ℕ). IsInteger u other) (slice before (omega (arith, less, k.place, long)) ∙ ap (λ (u : List ℕ). drop before u) k.parts) is),
)
  where
    long : length w ≡ length k.pre + length (sign_of neg k.text)
    long = ap length k.parts ∙ length-append k.pre (sign_of neg k.text)

    some : 1 ≤ length (sign_of neg k.text)
    some = at_least neg k.text k.are
      where
        at_least : (sign : Bool) (ds : List ℕ) → are_digits ds ≡ true → 1 ≤ length (sign_of sign ds)
        at_least true ds are = omega arith
        at_least false (d ∷ ds) are = omega arith
        at_least false [] are = absurd (let clash : false ≡ true = are in cc)

    slice : (a : ℕ) → a ≤ length w → slice_range bytes a end ≡ drop a w
    slice a le = ap (λ (u : List ℕ). slice_range u a end) parts ∙ (ap (λ (n : ℕ). slice_range (w ++ behind) a n) place ∙ slice_to w behind a le)

    from_first : drop first w ≡ sign_of neg k.text
    from_first =
        ap (λ (n : ℕ). drop n w) (sym k.place) ∙ (ap (λ (u : List ℕ). drop (length k.pre) u) k.parts ∙ drop-append_seam k.pre (sign_of neg k.text))

pub number_fault : (mode : Mode) (reached : State) (front : List ℕ) → Path (within mode) reached fresh 0 front → (b : ℕ) (behind : List ℕ) (first : ℕ) → step (within mode) reached (0 + length front) b ≡ Stop (Number first)
    → NumberFaultAt mode (front ++ b ∷ behind) first
number_fault mode reached front path b behind first stops =
    let known : Known reached ([] ++ front) = known_path (within mode) front fresh reached [] known_fresh path in
    let place : length front ≡ 0 + length front = omega arith in
    let out : Leaves front b first = leaves (within mode) reached front b first known (ap (λ (n : ℕ). step (within mode) reached n b) place ∙ stops) in (
      length front,
      signed out.neg out.magnitude,
      number_stops mode reached 0 front path b behind first stops,
      number_begins mode reached 0 front path b behind first stops,
      whole_integer (front ++ b ∷ behind) (front ++ b ∷ []) behind first out.neg out.magnitude (length front + 1) (sym (append_assoc front (b ∷ []) behind)) (sym (length-append front (b ∷ []))) out.stands,
      out.misfits,
    )
