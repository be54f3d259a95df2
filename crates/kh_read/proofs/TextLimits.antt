-- Which limit a byte passes: one that counts, and a level only where none is left.
use Rattle.std.proofs.Common.{◌≡◌, ◌≤◌, ◌<◌, ℕ, zero, suc, ◌+◌, ◌-◌, ◌*◌, Bool, true, false, not, ◌&&◌, ◌||◌, cond, eqb, ltb, leb, List, [], ◌∷◌, ◌++◌, length, Option, Some, None, refl, sym, ap, subst, ◌∙◌, arith, ℤ}
use Rattle.std.specs.Prelude.{codes}
use Rattle.std.specs.Char.{is_ascii_digit, is_ascii_lowercase, is_ascii_hexdigit, digit_value}
use Rattle.std.specs.Str.{encode_utf8_all, all_scalars}
use Rattle.std.proofs.lemmas.Bool.{ltb-false}
use Rattle.kh_term.specs.declared.tree.TermTree.{TermTree}
use Rattle.kh_term.specs.declared.tree.TermTree.TheVariants as tree
use Rattle.kh_term.specs.Size.{size_of}
use Rattle.kh_term.specs.WellFormed.{fits_128}
use Rattle.kh_text_defs.specs.declared.mode.Mode.{Mode}
use Rattle.kh_text_defs.specs.Atoms.{is_word_byte}
use Rattle.kh_text_defs.specs.Blanks.{is_space, may_follow}
use Rattle.kh_text_defs.specs.Faults.{max_size}
use Rattle.kh_text_defs.specs.Spelled.{Rules, is_exponent_mark, is_sign, is_arity, unsupported}
use Rattle.kh_text_defs.specs.Tokens.{escaped}
use Rattle.kh_read.specs.State.{Frame, InList, InTail, InTuple, InKey, InValue, InModule, InName, InArity, InOpening, InCaptured, InClosing, InBinary, InReference, InReferenceName, Quoting, Inner, Plain, Slash, Brace, Code, Follow, Place, Before, After, AfterName, AfterArity, AfterByte, AfterText, AfterSegment, Minus, Digits, Word, Quote, Angle, Sharp, Arrow, Close, Dotted, Point, Fraction, Mark, Signed, Exponent, SizeMark, Size, UtfMark, Utf, Fun, CountMark, Count, State, Setting, Halt, Syntax, Number, Deep, Large, Step, Go, Done, Stop}
use Rattle.kh_read.specs.Steps.{at, signed, is_byte, is_listing, digit_of, takes_segment, takes_fraction, integer_ended, word_ended, with_digit, opened, begin_name, begin_integer, begin_segment, begin_term, close_closure, next_segment, all_latin, step_before, step_after, step_after_name, step_after_arity, step_after_byte, step_after_text, step_after_segment, step_close, step_arrow, step_fun, step_sharp, quote_of, bound, ends_well, is_within, with_point, lead, named, is_surrogate, can_be_code, followed, step_plain, step_slash, step_code, step_quote, step_mark, step_between, step_digits, step_word, step_dotted, step_point, step_utf, step_place, more_digits, step}
use Rattle.kh_read.proofs.TextWider.{make}

-- a fault for a limit is one for a limit that counts
pub record Limits (n levels : ℕ) (bounded sized : Bool) (st : Step) : Type 0 where
  pub deep : st ≡ Stop Deep → levels ≤ n
  pub number : (first : ℕ) → st ≡ Stop (Number first) → bounded ≡ true
  pub large : st ≡ Stop Large → sized ≡ true

module _ (n levels : ℕ) (bounded sized : Bool) where
  on : (s : State) → Limits n levels bounded sized (Go s)
  on s = record { deep = λ e. absurd (cc); number = λ first e. absurd (cc); large = λ e. absurd (cc) }

  bad : Limits n levels bounded sized (Stop Syntax)
  bad = record { deep = λ e. absurd (cc); number = λ first e. absurd (cc); large = λ e. absurd (cc) }

  over : (t : TermTree) → Limits n levels bounded sized (Done t)
  over t = record { deep = λ e. absurd (cc); number = λ first e. absurd (cc); large = λ e. absurd (cc) }

  either : (t : Bool) (a c : Step) → Limits n levels bounded sized a → Limits n levels bounded sized c → Limits n levels bounded sized (cond t a c)
  either true a c h k = h
  either false a c h k = k

  -- at a place, or a fault of syntax
  one_way : (t : Bool) (s : State) → Limits n levels bounded sized (cond t (Go s) (Stop Syntax))
  one_way t s = either t _ _ (on s) bad

  name_limits : (fs : List Frame) (b : ℕ) → Limits n levels bounded sized (begin_name fs b)
  name_limits fs b = either (is_ascii_lowercase b) _ _ (on _) (one_way (eqb b 39) _)

  digit_limits : (mode : Mode) (fs : List Frame) (first : ℕ) (neg : Bool) (m : ℕ) → Limits n levels bounded sized (with_digit (record { mode = mode; bounded = bounded }) fs first neg m)
  digit_limits mode fs first neg m = go (takes_segment fs) (is_byte neg m) (fits_128 (signed neg m)) bounded
    where
      go : (seg byte fits c : Bool) → Limits n levels c sized (cond (cond seg byte (not c || fits)) (at (Digits first neg m) fs) (Stop (cond seg Syntax (Number first))))
      go true true fits c = record { deep = λ e. absurd (cc); number = λ k e. absurd (cc); large = λ e. absurd (cc) }
      go true false fits c = record { deep = λ e. absurd (cc); number = λ k e. absurd (cc); large = λ e. absurd (cc) }
      go false byte true true = record { deep = λ e. absurd (cc); number = λ k e. absurd (cc); large = λ e. absurd (cc) }
      go false byte false true = record { deep = λ e. absurd (cc); number = λ k e. refl; large = λ e. absurd (cc) }
      go false byte fits false = record { deep = λ e. absurd (cc); number = λ k e. absurd (cc); large = λ e. absurd (cc) }

  integer_limits : (mode : Mode) (fs : List Frame) (p b : ℕ) → Limits n levels bounded sized (begin_integer (record { mode = mode; bounded = bounded }) fs p b)
  integer_limits mode fs p b = either (eqb b 45) _ _ (on _) (either (is_ascii_digit b) _ _ (digit_limits mode fs p false (digit_of b)) bad)

  segment_limits : (mode : Mode) (fs : List Frame) (p b : ℕ) → Limits n levels bounded sized (begin_segment (record { mode = mode; bounded = bounded }) fs p b)
  segment_limits mode fs p b = either (eqb b 34) _ _ (on _) (integer_limits mode fs p b)

  closing_limits : (fs : List Frame) (b : ℕ) → Limits n levels bounded sized (close_closure fs b)
  closing_limits (InClosing m f z env ∷ fs) b = either (is_arity z (length env) && eqb b 125) _ _ (on _) (one_way (not (is_arity z (length env)) && eqb b 256) _)
  closing_limits [] b = bad
  closing_limits (InList xs ∷ fs) b = bad
  closing_limits (InTail xs ∷ fs) b = bad
  closing_limits (InTuple xs ∷ fs) b = bad
  closing_limits (InKey ps ∷ fs) b = bad
  closing_limits (InValue ps k ∷ fs) b = bad
  closing_limits (InModule ∷ fs) b = bad
  closing_limits (InName m ∷ fs) b = bad
  closing_limits (InArity m f ∷ fs) b = bad
  closing_limits (InOpening m f z ∷ fs) b = bad
  closing_limits (InCaptured m f z env ∷ fs) b = bad
  closing_limits (InBinary begun bytes counted ∷ fs) b = bad
  closing_limits (InReference ∷ fs) b = bad
  closing_limits (InReferenceName ∷ fs) b = bad

  after_limits : (fs : List Frame) (t : TermTree) (b : ℕ) → Limits n levels bounded sized (step_after sized fs t b)
  unfolding step_after
  after_limits [] t b = either (eqb b 46) _ _ (go sized (ltb max_size (size_of t))) bad
    where
      go : (c big : Bool) → Limits n levels bounded c (cond (c && big) (Stop Large) (at (Dotted t) []))
      go true true = record { deep = λ e. absurd (cc); number = λ k e. absurd (cc); large = λ e. refl }
      go true false = record { deep = λ e. absurd (cc); number = λ k e. absurd (cc); large = λ e. absurd (cc) }
      go false big = record { deep = λ e. absurd (cc); number = λ k e. absurd (cc); large = λ e. absurd (cc) }
  after_limits (InList xs ∷ fs) t b = either (eqb b 44) _ _ (on _) (either (eqb b 124) _ _ (on _) (one_way (eqb b 93) _))
  after_limits (InTail xs ∷ fs) t b = one_way (eqb b 93) _
  after_limits (InTuple xs ∷ fs) t b = either (eqb b 44) _ _ (on _) (one_way (eqb b 125) _)
  after_limits (InKey ps ∷ fs) t b = one_way (eqb b 61) _
  after_limits (InValue ps k ∷ fs) t b = either (eqb b 44) _ _ (on _) (one_way (eqb b 125) _)
  after_limits (InModule ∷ fs) t b = bad
  after_limits (InName m ∷ fs) t b = bad
  after_limits (InArity m f ∷ fs) t b = bad
  after_limits (InOpening m f z ∷ fs) t b = bad
  after_limits (InCaptured m f z env ∷ fs) t b = either (eqb b 44) _ _ (on _) (one_way (eqb b 93) _)
  after_limits (InClosing m f z env ∷ fs) t b = bad
  after_limits (InBinary begun bytes counted ∷ fs) t b = bad
  after_limits (InReference ∷ fs) t b = bad
  after_limits (InReferenceName ∷ fs) t b = bad

  after_name_limits : (fs : List Frame) (name : List ℕ) (b : ℕ) → Limits n levels bounded sized (step_after_name fs name b)
  unfolding step_after_name
  after_name_limits [] name b = bad
  after_name_limits (InModule ∷ fs) name b = one_way (eqb b 44) _
  after_name_limits (InName m ∷ fs) name b = one_way (eqb b 44) _
  after_name_limits (InReference ∷ fs) name b = one_way (eqb b 58) _
  after_name_limits (InReferenceName ∷ fs) name b = one_way (eqb b 47) _
  after_name_limits (InList xs ∷ fs) name b = bad
  after_name_limits (InTail xs ∷ fs) name b = bad
  after_name_limits (InTuple xs ∷ fs) name b = bad
  after_name_limits (InKey ps ∷ fs) name b = bad
  after_name_limits (InValue ps k ∷ fs) name b = bad
  after_name_limits (InArity m f ∷ fs) name b = bad
  after_name_limits (InOpening m f z ∷ fs) name b = bad
  after_name_limits (InCaptured m f z env ∷ fs) name b = bad
  after_name_limits (InClosing m f z env ∷ fs) name b = bad
  after_name_limits (InBinary begun bytes counted ∷ fs) name b = bad

  after_arity_limits : (fs : List Frame) (z : ℤ) (b : ℕ) → Limits n levels bounded sized (step_after_arity fs z b)
  unfolding step_after_arity
  after_arity_limits [] z b = bad
  after_arity_limits (InArity m f ∷ fs) z b = one_way (eqb b 44) _
  after_arity_limits (InModule ∷ fs) z b = bad
  after_arity_limits (InName m ∷ fs) z b = bad
  after_arity_limits (InReference ∷ fs) z b = bad
  after_arity_limits (InReferenceName ∷ fs) z b = bad
  after_arity_limits (InList xs ∷ fs) z b = bad
  after_arity_limits (InTail xs ∷ fs) z b = bad
  after_arity_limits (InTuple xs ∷ fs) z b = bad
  after_arity_limits (InKey ps ∷ fs) z b = bad
  after_arity_limits (InValue ps k ∷ fs) z b = bad
  after_arity_limits (InOpening m f y ∷ fs) z b = bad
  after_arity_limits (InCaptured m f y env ∷ fs) z b = bad
  after_arity_limits (InClosing m f y env ∷ fs) z b = bad
  after_arity_limits (InBinary begun bytes counted ∷ fs) z b = bad

  next_limits : (bytes : List ℕ) (counted : Bool) (fs : List Frame) (b : ℕ) → Limits n levels bounded sized (next_segment bytes counted fs b)
  next_limits bytes counted fs b = either (eqb b 44) _ _ (on _) (one_way (eqb b 62) _)

  after_byte_limits : (mode : Mode) (fs : List Frame) (j : ℕ) (b : ℕ) → Limits n levels bounded sized (step_after_byte mode fs j b)
  unfolding step_after_byte
  after_byte_limits mode [] j b = bad
  after_byte_limits mode (InList xs ∷ fs) j b = bad
  after_byte_limits mode (InTail xs ∷ fs) j b = bad
  after_byte_limits mode (InTuple xs ∷ fs) j b = bad
  after_byte_limits mode (InKey ps ∷ fs) j b = bad
  after_byte_limits mode (InValue ps k ∷ fs) j b = bad
  after_byte_limits mode (InModule ∷ fs) j b = bad
  after_byte_limits mode (InName m ∷ fs) j b = bad
  after_byte_limits mode (InArity m f ∷ fs) j b = bad
  after_byte_limits mode (InOpening m f y ∷ fs) j b = bad
  after_byte_limits mode (InCaptured m f y env ∷ fs) j b = bad
  after_byte_limits mode (InClosing m f y env ∷ fs) j b = bad
  after_byte_limits mode (InBinary begun bytes counted ∷ fs) j b = either (eqb b 58 && is_listing mode) _ _ (on _) (next_limits (bytes ++ j ∷ []) counted fs b)
  after_byte_limits mode (InReference ∷ fs) j b = bad
  after_byte_limits mode (InReferenceName ∷ fs) j b = bad

  after_text_limits : (mode : Mode) (fs : List Frame) (cs : List ℕ) (b : ℕ) → Limits n levels bounded sized (step_after_text mode fs cs b)
  unfolding step_after_text
  after_text_limits mode [] cs b = bad
  after_text_limits mode (InList xs ∷ fs) cs b = bad
  after_text_limits mode (InTail xs ∷ fs) cs b = bad
  after_text_limits mode (InTuple xs ∷ fs) cs b = bad
  after_text_limits mode (InKey ps ∷ fs) cs b = bad
  after_text_limits mode (InValue ps k ∷ fs) cs b = bad
  after_text_limits mode (InModule ∷ fs) cs b = bad
  after_text_limits mode (InName m ∷ fs) cs b = bad
  after_text_limits mode (InArity m f ∷ fs) cs b = bad
  after_text_limits mode (InOpening m f y ∷ fs) cs b = bad
  after_text_limits mode (InCaptured m f y env ∷ fs) cs b = bad
  after_text_limits mode (InClosing m f y env ∷ fs) cs b = bad
  after_text_limits mode (InBinary begun bytes counted ∷ fs) cs b = either (eqb b 47 && is_listing mode) _ _ (one_way (all_scalars cs) _) (either (all_latin cs) _ _ (next_limits (bytes ++ cs) counted fs b) bad)
  after_text_limits mode (InReference ∷ fs) cs b = bad
  after_text_limits mode (InReferenceName ∷ fs) cs b = bad

  after_segment_limits : (fs : List Frame) (b : ℕ) → Limits n levels bounded sized (step_after_segment fs b)
  unfolding step_after_segment
  after_segment_limits [] b = bad
  after_segment_limits (InList xs ∷ fs) b = bad
  after_segment_limits (InTail xs ∷ fs) b = bad
  after_segment_limits (InTuple xs ∷ fs) b = bad
  after_segment_limits (InKey ps ∷ fs) b = bad
  after_segment_limits (InValue ps k ∷ fs) b = bad
  after_segment_limits (InModule ∷ fs) b = bad
  after_segment_limits (InName m ∷ fs) b = bad
  after_segment_limits (InArity m f ∷ fs) b = bad
  after_segment_limits (InOpening m f y ∷ fs) b = bad
  after_segment_limits (InCaptured m f y env ∷ fs) b = bad
  after_segment_limits (InClosing m f y env ∷ fs) b = bad
  after_segment_limits (InBinary begun bytes counted ∷ fs) b = next_limits bytes counted fs b
  after_segment_limits (InReference ∷ fs) b = bad
  after_segment_limits (InReferenceName ∷ fs) b = bad

  close_limits : (fs : List Frame) (b : ℕ) → Limits n levels bounded sized (step_close fs b)
  unfolding step_close
  close_limits [] b = bad
  close_limits (InList xs ∷ fs) b = bad
  close_limits (InTail xs ∷ fs) b = bad
  close_limits (InTuple xs ∷ fs) b = bad
  close_limits (InKey ps ∷ fs) b = bad
  close_limits (InValue ps k ∷ fs) b = bad
  close_limits (InModule ∷ fs) b = bad
  close_limits (InName m ∷ fs) b = bad
  close_limits (InArity m f ∷ fs) b = bad
  close_limits (InOpening m f y ∷ fs) b = bad
  close_limits (InCaptured m f y env ∷ fs) b = bad
  close_limits (InClosing m f y env ∷ fs) b = bad
  close_limits (InBinary begun bytes counted ∷ fs) b = one_way (eqb b 62) _
  close_limits (InReference ∷ fs) b = bad
  close_limits (InReferenceName ∷ fs) b = bad

  arrow_limits : (fs : List Frame) (key : TermTree) (b : ℕ) → Limits n levels bounded sized (step_arrow fs key b)
  unfolding step_arrow
  arrow_limits [] key b = bad
  arrow_limits (InList xs ∷ fs) key b = bad
  arrow_limits (InTail xs ∷ fs) key b = bad
  arrow_limits (InTuple xs ∷ fs) key b = bad
  arrow_limits (InKey ps ∷ fs) key b = one_way (eqb b 62) _
  arrow_limits (InValue ps k ∷ fs) key b = bad
  arrow_limits (InModule ∷ fs) key b = bad
  arrow_limits (InName m ∷ fs) key b = bad
  arrow_limits (InArity m f ∷ fs) key b = bad
  arrow_limits (InOpening m f y ∷ fs) key b = bad
  arrow_limits (InCaptured m f y env ∷ fs) key b = bad
  arrow_limits (InClosing m f y env ∷ fs) key b = bad
  arrow_limits (InBinary begun bytes counted ∷ fs) key b = bad
  arrow_limits (InReference ∷ fs) key b = bad
  arrow_limits (InReferenceName ∷ fs) key b = bad

  -- ---- texts in quotes

  lead_limits : (fs : List Frame) (q : Quoting) (below b : ℕ) → Limits n levels bounded sized (lead fs q below b)
  lead_limits fs q below b =
      either (is_within 0xC2 0xDF b && ltb ((b - 0xC0) * 64) below) _ _ (on _)
      (either (eqb b 0xE0 && ltb 0x800 below) _ _ (on _)
      (either (eqb b 0xED && ltb 0x800 below) _ _ (on _)
      (either (is_within 0xE1 0xEF b && ltb 0x800 below) _ _ (on _)
      (either (eqb b 0xF0 && ltb 0x10000 below) _ _ (on _)
      (either (eqb b 0xF4 && ltb 0x10000 below) _ _ (on _)
      (one_way (is_within 0xF1 0xF3 b && ltb 0x10000 below) _))))))

  plain_limits : (mode : Mode) (fs : List Frame) (q : Quoting) (b : ℕ) → Limits n levels bounded sized (step_plain mode fs q b)
  unfolding step_plain
  plain_limits mode fs q b =
      either (eqb b (quote_of q.use_)) _ _ (one_way (ends_well q.use_ q.points) _)
      (either (eqb (bound mode q.use_) 0) _ _ bad
      (either (eqb b 92) _ _ (on _) (either (ltb b 0x80) _ _ (on _) (lead_limits fs q (bound mode q.use_) b))))

  named_limits : (fs : List Frame) (q : Quoting) (o : Option ℕ) → Limits n levels bounded sized (named fs q o)
  named_limits fs q (Some point) = on _
  named_limits fs q None = bad

  slash_limits : (fs : List Frame) (q : Quoting) (b : ℕ) → Limits n levels bounded sized (step_slash fs q b)
  unfolding step_slash
  slash_limits fs q b = either (eqb b 120) _ _ (on _) (named_limits fs q (escaped b))

  code_limits : (mode : Mode) (fs : List Frame) (q : Quoting) (count value b : ℕ) → Limits n levels bounded sized (step_code mode fs q (count, value) b)
  unfolding step_code
  code_limits mode fs q count value b =
      either (is_ascii_hexdigit b) _ _ (one_way (ltb count 6 && can_be_code (bound mode q.use_) (count + 1) (value * 16 + digit_value b)) _)
      (one_way (eqb b 125 && ltb 0 count && not (is_surrogate value)) _)

  followed_limits : (fs : List Frame) (q : Quoting) (count value : ℕ) → Limits n levels bounded sized (followed fs q count value)
  followed_limits fs q zero value = on _
  followed_limits fs q (suc count) value = on _

  quote_limits : (mode : Mode) (fs : List Frame) (q : Quoting) (inner : Inner) (b : ℕ) → Limits n levels bounded sized (step_quote mode fs q inner b)
  unfolding step_quote
  quote_limits mode fs q Plain b = plain_limits mode fs q b
  quote_limits mode fs q Slash b = slash_limits fs q b
  quote_limits mode fs q Brace b = one_way (eqb b 123) _
  quote_limits mode fs q (Code count value) b = code_limits mode fs q count value b
  quote_limits mode fs q (Follow count low high value) b = either (is_within low high b) _ _ (followed_limits fs q count (value * 64 + (b - 0x80))) bad

  fun_limits : (fs : List Frame) (b : ℕ) → Limits n levels bounded sized (step_fun sized fs b)
  fun_limits fs b = either (is_ascii_lowercase b || eqb b 39) _ _ (name_limits (InReference ∷ fs) b) (after_limits fs (tree.Atom (codes "fun")) b)

  dotted_limits : (t : TermTree) (b : ℕ) → Limits n levels bounded sized (step_dotted t b)
  dotted_limits t b = either (may_follow (b ∷ [])) _ _ (over t) bad

  point_limits : (fs : List Frame) (z : ℤ) (b : ℕ) → Limits n levels bounded sized (step_point fs z b)
  unfolding step_point
  point_limits [] z b = either (is_ascii_digit b) _ _ (on _) (dotted_limits (tree.Int z) b)
  point_limits (f ∷ fs) z b = one_way (is_ascii_digit b) _

  utf_limits : (fs : List Frame) (count b : ℕ) → Limits n levels bounded sized (step_utf fs count b)
  unfolding step_utf
  utf_limits fs zero b = one_way (eqb b 56) _
  utf_limits fs (suc zero) b = one_way (eqb b 116) _
  utf_limits fs (suc (suc zero)) b = one_way (eqb b 102) _
  utf_limits fs (suc (suc (suc count))) b = one_way (eqb b 56) _

-- ---- what opens a level

module _ (mode : Mode) (bounded : Bool) (levels : ℕ) (sized : Bool) where
  deeper_limits : (n : ℕ) (s : State) → Limits n levels bounded sized (cond (ltb n levels) (Go s) (Stop Deep))
  deeper_limits n s = go (ltb n levels) refl
    where
      go : (t : Bool) → ltb n levels ≡ t → Limits n levels bounded sized (cond t (Go s) (Stop Deep))
      go true e = on n levels bounded sized s
      go false e = record { deep = λ f. ltb-false n levels e; number = λ first f. absurd (cc); large = λ f. absurd (cc) }

  module _ (fs : List Frame) where
    abbrev IsLimited : Step → Type 0
    IsLimited st = Limits (length fs) levels bounded sized st

    opened_limits : (F : Frame) → Limits (length fs) levels bounded sized (opened levels F fs)
    opened_limits F = deeper_limits (length fs) _

    term_limits : (p b : ℕ) → Limits (length fs) levels bounded sized (begin_term (make mode bounded levels sized) fs p b)
    unfolding begin_term
    term_limits p b =
        either (length fs) levels bounded sized (eqb b 45 || is_ascii_digit b) _ _ (integer_limits (length fs) levels bounded sized mode fs p b)
        (either (length fs) levels bounded sized (is_ascii_lowercase b || eqb b 39) _ _ (name_limits (length fs) levels bounded sized fs b)
        (either (length fs) levels bounded sized (eqb b 91) _ _ (opened_limits (InList []))
        (either (length fs) levels bounded sized (eqb b 123) _ _ (opened_limits (InTuple []))
        (either (length fs) levels bounded sized (eqb b 34) _ _ (deeper_limits (length fs) _)
        (either (length fs) levels bounded sized (eqb b 60) _ _ (on (length fs) levels bounded sized _) (one_way (length fs) levels bounded sized (eqb b 35) _))))))

    sharp_limits : (count b : ℕ) → Limits (length fs) levels bounded sized (step_sharp (make mode bounded levels sized) fs count b)
    unfolding step_sharp
    sharp_limits zero b =
        either (length fs) levels bounded sized (eqb b 123) _ _ (opened_limits (InKey []))
        (either (length fs) levels bounded sized (eqb b 102) _ _ (on (length fs) levels bounded sized _) (one_way (length fs) levels bounded sized (eqb b 256) _))
    sharp_limits (suc zero) b = either (length fs) levels bounded sized (eqb b 117) _ _ (on (length fs) levels bounded sized _) (one_way (length fs) levels bounded sized (eqb b 256) _)
    sharp_limits (suc (suc zero)) b = either (length fs) levels bounded sized (eqb b 110) _ _ (on (length fs) levels bounded sized _) (one_way (length fs) levels bounded sized (eqb b 256) _)
    sharp_limits (suc (suc (suc count))) b = either (length fs) levels bounded sized (eqb b 123) _ _ (opened_limits InModule) (one_way (length fs) levels bounded sized (eqb b 256) _)

  closes_at_once : (n : ℕ) (t : Bool) (s : State) (c : Step) → Limits n levels bounded sized c → Limits n levels bounded sized (cond t (Go s) c)
  closes_at_once n t s c h = either n levels bounded sized t _ _ (on n levels bounded sized s) h

  before_limits : (fs : List Frame) (p b : ℕ) → Limits (length fs) levels bounded sized (step_before (make mode bounded levels sized) fs p b)
  unfolding step_before
  before_limits [] p b = term_limits [] p b
  before_limits (InList [] ∷ fs) p b = closes_at_once (suc (length fs)) (eqb b 93) _ _ (term_limits (InList [] ∷ fs) p b)
  before_limits (InList (x ∷ xs) ∷ fs) p b = term_limits (InList (x ∷ xs) ∷ fs) p b
  before_limits (InTail xs ∷ fs) p b = term_limits (InTail xs ∷ fs) p b
  before_limits (InTuple [] ∷ fs) p b = closes_at_once (suc (length fs)) (eqb b 125) _ _ (term_limits (InTuple [] ∷ fs) p b)
  before_limits (InTuple (x ∷ xs) ∷ fs) p b = term_limits (InTuple (x ∷ xs) ∷ fs) p b
  before_limits (InKey [] ∷ fs) p b = closes_at_once (suc (length fs)) (eqb b 125) _ _ (term_limits (InKey [] ∷ fs) p b)
  before_limits (InKey (x ∷ xs) ∷ fs) p b = term_limits (InKey (x ∷ xs) ∷ fs) p b
  before_limits (InValue xs k ∷ fs) p b = term_limits (InValue xs k ∷ fs) p b
  before_limits (InModule ∷ fs) p b = name_limits (suc (length fs)) levels bounded sized (InModule ∷ fs) b
  before_limits (InName m ∷ fs) p b = name_limits (suc (length fs)) levels bounded sized (InName m ∷ fs) b
  before_limits (InArity m f ∷ fs) p b = integer_limits (suc (length fs)) levels bounded sized mode (InArity m f ∷ fs) p b
  before_limits (InOpening m f z ∷ fs) p b = one_way (suc (length fs)) levels bounded sized (eqb b 91) _
  before_limits (InCaptured m f z [] ∷ fs) p b = closes_at_once (suc (length fs)) (eqb b 93) _ _ (term_limits (InCaptured m f z [] ∷ fs) p b)
  before_limits (InCaptured m f z (x ∷ xs) ∷ fs) p b = term_limits (InCaptured m f z (x ∷ xs) ∷ fs) p b
  before_limits (InClosing m f z env ∷ fs) p b = closing_limits (suc (length fs)) levels bounded sized (InClosing m f z env ∷ fs) b
  before_limits (InBinary begun bytes counted ∷ fs) p b =
      closes_at_once (suc (length fs)) (not begun && eqb b 62) _ _ (segment_limits (suc (length fs)) levels bounded sized mode (InBinary begun bytes counted ∷ fs) p b)
  before_limits (InReference ∷ fs) p b = name_limits (suc (length fs)) levels bounded sized (InReference ∷ fs) b
  before_limits (InReferenceName ∷ fs) p b = name_limits (suc (length fs)) levels bounded sized (InReferenceName ∷ fs) b

  module _ (fs : List Frame) where
    mark_limits : (here : Place) (p b : ℕ) → Limits (length fs) levels bounded sized (step_mark (make mode bounded levels sized) here fs p b)
    unfolding step_mark
    mark_limits Before p b = before_limits fs p b
    mark_limits (After t) p b = after_limits (length fs) levels bounded sized fs t b
    mark_limits (AfterName k) p b = after_name_limits (length fs) levels bounded sized fs k b
    mark_limits (AfterArity z) p b = after_arity_limits (length fs) levels bounded sized fs z b
    mark_limits (AfterByte k) p b = after_byte_limits (length fs) levels bounded sized mode fs k b
    mark_limits (AfterText cs) p b = after_text_limits (length fs) levels bounded sized mode fs cs b
    mark_limits AfterSegment p b = after_segment_limits (length fs) levels bounded sized fs b
    mark_limits SizeMark p b = one_way (length fs) levels bounded sized (is_ascii_digit b) _
    mark_limits UtfMark p b = one_way (length fs) levels bounded sized (eqb b 117) _
    mark_limits Fun p b = fun_limits (length fs) levels bounded sized fs b
    mark_limits CountMark p b = one_way (length fs) levels bounded sized (is_ascii_digit b) _
    mark_limits (Minus first) p b = bad (length fs) levels bounded sized
    mark_limits (Digits first neg m) p b = bad (length fs) levels bounded sized
    mark_limits (Word k) p b = bad (length fs) levels bounded sized
    mark_limits (Quote q inner) p b = bad (length fs) levels bounded sized
    mark_limits Angle p b = bad (length fs) levels bounded sized
    mark_limits (Sharp k) p b = bad (length fs) levels bounded sized
    mark_limits (Arrow k) p b = bad (length fs) levels bounded sized
    mark_limits Close p b = bad (length fs) levels bounded sized
    mark_limits (Dotted t) p b = bad (length fs) levels bounded sized
    mark_limits (Point z) p b = bad (length fs) levels bounded sized
    mark_limits Fraction p b = bad (length fs) levels bounded sized
    mark_limits Mark p b = bad (length fs) levels bounded sized
    mark_limits Signed p b = bad (length fs) levels bounded sized
    mark_limits Exponent p b = bad (length fs) levels bounded sized
    mark_limits Size p b = bad (length fs) levels bounded sized
    mark_limits (Utf k) p b = bad (length fs) levels bounded sized
    mark_limits Count p b = bad (length fs) levels bounded sized

    between_limits : (here : Place) (p b : ℕ) → Limits (length fs) levels bounded sized (step_between (make mode bounded levels sized) here fs p b)
    unfolding step_between
    between_limits here p b =
        closes_at_once (length fs) (is_space b) _ _ (closes_at_once (length fs) (eqb b 37) _ _ (mark_limits here p b))

    more_limits : (here next : Place) (p b : ℕ) → Limits (length fs) levels bounded sized (more_digits (make mode bounded levels sized) here next fs (p, b))
    more_limits here next p b = closes_at_once (length fs) (is_ascii_digit b) _ _ (between_limits next p b)

    digits_limits : (first : ℕ) (neg : Bool) (m p b : ℕ) → Limits (length fs) levels bounded sized (step_digits (make mode bounded levels sized) fs (first, neg, m) p b)
    unfolding step_digits
    digits_limits first neg m p b =
        either (length fs) levels bounded sized (is_ascii_digit b) _ _ (digit_limits (length fs) levels bounded sized mode fs first neg (m * 10 + digit_of b))
        (closes_at_once (length fs) (eqb b 46 && takes_fraction (record { mode = mode; bounded = bounded }) fs) _ _ (between_limits (integer_ended fs neg m) p b))

    word_limits : (name : List ℕ) (p b : ℕ) → Limits (length fs) levels bounded sized (step_word (make mode bounded levels sized) fs name p b)
    unfolding step_word
    word_limits name p b =
        either (length fs) levels bounded sized (is_word_byte b) _ _ (one_way (length fs) levels bounded sized (ltb (length name) 255) _)
        (between_limits (word_ended (record { mode = mode; bounded = bounded }) fs name) p b)

    place_limits : (here : Place) (p b : ℕ) → Limits (length fs) levels bounded sized (step_place (make mode bounded levels sized) here fs p b)
    unfolding step_place
    place_limits (Minus first) p b = either (length fs) levels bounded sized (is_ascii_digit b) _ _ (digit_limits (length fs) levels bounded sized mode fs first true (digit_of b)) (bad (length fs) levels bounded sized)
    place_limits (Digits first neg m) p b = digits_limits first neg m p b
    place_limits (Word k) p b = word_limits k p b
    place_limits (Quote q inner) p b = quote_limits (length fs) levels bounded sized mode fs q inner b
    place_limits Angle p b = one_way (length fs) levels bounded sized (eqb b 60) _
    place_limits (Sharp k) p b = sharp_limits fs k b
    place_limits (Arrow k) p b = arrow_limits (length fs) levels bounded sized fs k b
    place_limits Close p b = close_limits (length fs) levels bounded sized fs b
    place_limits (Dotted t) p b = dotted_limits (length fs) levels bounded sized t b
    place_limits (Point z) p b = point_limits (length fs) levels bounded sized fs z b
    place_limits Fraction p b = closes_at_once (length fs) (is_exponent_mark b) _ _ (more_limits Fraction (After unsupported) p b)
    place_limits Mark p b = closes_at_once (length fs) (is_sign b) _ _ (one_way (length fs) levels bounded sized (is_ascii_digit b) _)
    place_limits Signed p b = one_way (length fs) levels bounded sized (is_ascii_digit b) _
    place_limits Exponent p b = more_limits Exponent (After unsupported) p b
    place_limits Size p b = more_limits Size AfterSegment p b
    place_limits (Utf k) p b = utf_limits (length fs) levels bounded sized fs k b
    place_limits Count p b = more_limits Count (After unsupported) p b
    place_limits Before p b = between_limits Before p b
    place_limits (After t) p b = between_limits (After t) p b
    place_limits (AfterName k) p b = between_limits (AfterName k) p b
    place_limits (AfterArity z) p b = between_limits (AfterArity z) p b
    place_limits (AfterByte k) p b = between_limits (AfterByte k) p b
    place_limits (AfterText cs) p b = between_limits (AfterText cs) p b
    place_limits AfterSegment p b = between_limits AfterSegment p b
    place_limits SizeMark p b = between_limits SizeMark p b
    place_limits UtfMark p b = between_limits UtfMark p b
    place_limits Fun p b = between_limits Fun p b
    place_limits CountMark p b = between_limits CountMark p b

  pub step_limits : (s : State) (p b : ℕ) → Limits (length s.frames) levels bounded sized (step (make mode bounded levels sized) s p b)
  unfolding step
  step_limits s p b =
      either (length s.frames) levels bounded sized s.comment _ _
      (either (length s.frames) levels bounded sized (eqb b 10) _ _ (on (length s.frames) levels bounded sized _) (on (length s.frames) levels bounded sized s))
      (place_limits s.frames s.place p b)
