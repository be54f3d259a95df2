-- Where integers begin and grow, byte by byte.
use Rattle.std.proofs.Common.{◌≡◌, ◌≤◌, ◌<◌, ℕ, zero, suc, ◌+◌, ◌-◌, ◌*◌, Bool, true, false, not, ◌&&◌, ◌||◌, cond, eqb, ltb, List, [], ◌∷◌, ◌++◌, length, Option, Some, None, refl, sym, ap, subst, ◌∙◌, arith, ℤ}
use Rattle.std.specs.Prelude.{codes}
use Rattle.std.specs.Char.{is_ascii_digit, is_ascii_lowercase, is_ascii_hexdigit, digit_value}
use Rattle.std.specs.Str.{bytes_eq, encode_utf8_all, all_scalars}
use Rattle.std.proofs.lemmas.Bool.{eqb-true}
use Rattle.kh_term.specs.declared.tree.TermTree.{TermTree}
use Rattle.kh_term.specs.declared.tree.TermTree.TheVariants as tree
use Rattle.kh_term.specs.Size.{size_of}
use Rattle.kh_term.specs.WellFormed.{fits_128}
use Rattle.kh_text_defs.specs.declared.mode.Mode.{Mode}
use Rattle.kh_text_defs.specs.Atoms.{is_word_byte}
use Rattle.kh_text_defs.specs.Blanks.{is_space, may_follow}
use Rattle.kh_text_defs.specs.Faults.{max_size}
use Rattle.kh_text_defs.specs.Spelled.{Rules, is_exponent_mark, is_sign, is_arity, unsupported}
use Rattle.kh_text_defs.specs.Tokens.{escaped}
use Rattle.kh_read.specs.State.{Frame, InList, InTail, InTuple, InKey, InValue, InModule, InName, InArity, InOpening, InCaptured, InClosing, InBinary, InReference, InReferenceName, Use, ForName, ForList, ForSegment, Quoting, Inner, Plain, Slash, Brace, Code, Follow, Place, Before, After, AfterName, AfterArity, AfterByte, AfterText, AfterSegment, Minus, Digits, Word, Quote, Angle, Sharp, Arrow, Close, Dotted, Point, Fraction, Mark, Signed, Exponent, SizeMark, Size, UtfMark, Utf, Fun, CountMark, Count, State, Setting, Halt, Syntax, Number, Deep, Large, Step, Go, Done, Stop}
use Rattle.kh_read.specs.Steps.{at, signed, is_byte, byte_of, is_listing, digit_of, takes_name, takes_segment, takes_arity, takes_fraction, name_ended, integer_ended, word_ended, with_digit, opened, begin_name, begin_integer, begin_segment, begin_term, close_closure, next_segment, all_latin, step_before, step_after, step_after_name, step_after_arity, step_after_byte, step_after_text, step_after_segment, step_close, step_arrow, step_fun, step_sharp, quote_of, quote_ended, bound, ends_well, is_within, with_point, lead, named, is_surrogate, can_be_code, followed, step_plain, step_slash, step_code, step_quote, step_mark, step_between, step_digits, step_word, step_dotted, step_point, step_utf, step_place, more_digits, step}
use Rattle.kh_read.proofs.TextWider.{make}

-- neither a digit nor a minus sign
abbrev pub is_mark : ℕ → Bool
is_mark b = not (is_ascii_digit b || eqb b 45)

-- an integer that begins at first has a digit more
pub data Grown (here : Place) (p b first : ℕ) (neg : Bool) (m : ℕ) : Type 0 where
  begun : here ≡ Before → first ≡ p → neg ≡ false → m ≡ digit_of b → is_ascii_digit b ≡ true → Grown here p b first neg m
  behind_minus : here ≡ Minus first → neg ≡ true → m ≡ digit_of b → is_ascii_digit b ≡ true → Grown here p b first neg m
  more : (k : ℕ) → here ≡ Digits first neg k → m ≡ k * 10 + digit_of b → is_ascii_digit b ≡ true → Grown here p b first neg m

-- what a byte has to do with integers
pub record Moves (here : Place) (p b : ℕ) (st : Step) : Type 0 where
  pub before : (n : State) → st ≡ Go n → n.place ≡ Before → n.comment ≡ false → is_mark b ≡ true
  pub minus : (n : State) (first : ℕ) → st ≡ Go n → n.place ≡ Minus first → (n.comment ≡ false) × (here ≡ Before) × (first ≡ p) × (b ≡ 45)
  pub digits : (n : State) (first m : ℕ) (neg : Bool) → st ≡ Go n → n.place ≡ Digits first neg m → (n.comment ≡ false) × Grown here p b first neg m
  pub number : (first : ℕ) → st ≡ Stop (Number first) → (neg : Bool) × (m : ℕ) × Grown here p b first neg m × (fits_128 (signed neg m) ≡ false)

-- ---- places that have nothing to do with integers
abbrev pub is_calm : Place → Bool
is_calm (Minus first) = false
is_calm (Digits first neg m) = false
is_calm here = true

abbrev pub is_quiet : Place → Bool
is_quiet Before = false
is_quiet (Minus first) = false
is_quiet (Digits first neg m) = false
is_quiet here = true

quiet_calm : (here : Place) → is_quiet here ≡ true → is_calm here ≡ true
quiet_calm Before q = refl
quiet_calm (After t) q = refl
quiet_calm (AfterName k) q = refl
quiet_calm (AfterArity z) q = refl
quiet_calm (AfterByte k) q = refl
quiet_calm (AfterText cs) q = refl
quiet_calm AfterSegment q = refl
quiet_calm (Minus first) q = absurd (let clash : false ≡ true = q in cc)
quiet_calm (Digits first neg m) q = absurd (let clash : false ≡ true = q in cc)
quiet_calm (Word k) q = refl
quiet_calm (Quote x inner) q = refl
quiet_calm Angle q = refl
quiet_calm (Sharp k) q = refl
quiet_calm (Arrow k) q = refl
quiet_calm Close q = refl
quiet_calm (Dotted t) q = refl
quiet_calm (Point z) q = refl
quiet_calm Fraction q = refl
quiet_calm Mark q = refl
quiet_calm Signed q = refl
quiet_calm Exponent q = refl
quiet_calm SizeMark q = refl
quiet_calm Size q = refl
quiet_calm UtfMark q = refl
quiet_calm (Utf k) q = refl
quiet_calm Fun q = refl
quiet_calm CountMark q = refl
quiet_calm Count q = refl

name_quiet : (fs : List Frame) (name : List ℕ) → is_quiet (name_ended fs name) ≡ true
name_quiet fs name = go (takes_name fs)
  where
    go : (t : Bool) → is_quiet (cond t (AfterName name) (After (tree.Atom name))) ≡ true
    go true = refl
    go false = refl

word_quiet : (rules : Rules) (fs : List Frame) (name : List ℕ) → is_quiet (word_ended rules fs name) ≡ true
word_quiet rules fs name = go (takes_name fs) (is_listing rules.mode && bytes_eq name (codes "fun"))
  where
    go : (t u : Bool) → is_quiet (cond t (AfterName name) (cond u Fun (After (tree.Atom name)))) ≡ true
    go true u = refl
    go false true = refl
    go false false = refl

integer_quiet : (fs : List Frame) (neg : Bool) (m : ℕ) → is_quiet (integer_ended fs neg m) ≡ true
integer_quiet fs neg m = go (takes_segment fs) (takes_arity fs)
  where
    go : (t u : Bool) → is_quiet (cond t (AfterByte (byte_of m)) (cond u (AfterArity (signed neg m)) (After (tree.Int (signed neg m))))) ≡ true
    go true u = refl
    go false true = refl
    go false false = refl

quote_quiet : (fs : List Frame) (u : Use) (cs : List ℕ) → is_quiet (quote_ended fs u cs) ≡ true
quote_quiet fs (ForName left) cs = name_quiet fs (encode_utf8_all cs)
quote_quiet fs ForList cs = refl
quote_quiet fs ForSegment cs = refl

same_state : (s n : State) → Go s ≡ Go n → s ≡ n
same_state s n e = cc

same_first : (f g m k : ℕ) (neg sign : Bool) → Digits f neg m ≡ Digits g sign k → f ≡ g
same_first f g m k neg sign e = cc

same_sign : (f g m k : ℕ) (neg sign : Bool) → Digits f neg m ≡ Digits g sign k → neg ≡ sign
same_sign f g m k neg sign e = cc

same_magnitude : (f g m k : ℕ) (neg sign : Bool) → Digits f neg m ≡ Digits g sign k → m ≡ k
same_magnitude f g m k neg sign e = cc

same_number : (f g : ℕ) → Stop (Number f) ≡ Stop (Number g) → f ≡ g
same_number f g e = cc

same_minus : (f g : ℕ) → Minus f ≡ Minus g → f ≡ g
same_minus f g e = cc

-- the place of a state that a step goes on to
place_is : (s n : State) (here : Place) → Go s ≡ Go n → n.place ≡ here → s.place ≡ here
place_is s n here e f = ap (λ (x : State). x.place) (same_state s n e) ∙ f

comment_is : (s n : State) (c : Bool) → Go s ≡ Go n → n.comment ≡ c → s.comment ≡ c
comment_is s n c e f = ap (λ (x : State). x.comment) (same_state s n e) ∙ f

not_quiet : (here there : Place) → is_quiet here ≡ true → here ≡ there → is_quiet there ≡ false → ⊥
not_quiet here there q e f = absurd (let clash : false ≡ true = sym f ∙ (ap is_quiet (sym e) ∙ q) in cc)

not_calm : (here there : Place) → is_calm here ≡ true → here ≡ there → is_calm there ≡ false → ⊥
not_calm here there q e f = absurd (let clash : false ≡ true = sym f ∙ (ap is_calm (sym e) ∙ q) in cc)

grown_as : (here : Place) (p b f g m k : ℕ) (neg sign : Bool) → Digits f neg m ≡ Digits g sign k → Grown here p b f neg m → Grown here p b g sign k
grown_as here p b f g m k neg sign e h =
    subst (λ (x : ℕ). Grown here p b x sign k) (same_first f g m k neg sign e)
    (subst (λ (x : Bool). Grown here p b f x k) (same_sign f g m k neg sign e) (subst (λ (x : ℕ). Grown here p b f neg x) (same_magnitude f g m k neg sign e) h))

-- ---- steps

module _ (here : Place) (p b : ℕ) where
  quiet : (s : State) → is_quiet s.place ≡ true → Moves here p b (Go s)
  quiet s q = record {
    before = λ n e f c. absurd (not_quiet s.place Before q (place_is s n Before e f) refl);
    minus = λ n first e f. absurd (not_quiet s.place (Minus first) q (place_is s n (Minus first) e f) refl);
    digits = λ n first m neg e f. absurd (not_quiet s.place (Digits first neg m) q (place_is s n (Digits first neg m) e f) refl);
    number = λ first e. absurd (cc);
  }

  stops : (halt : Halt) → ((first : ℕ) → halt ≡ Number first → ⊥) → Moves here p b (Stop halt)
  stops halt other = record {
    before = λ n e f c. absurd (let clash : Stop halt ≡ Go n = e in cc);
    minus = λ n first e f. absurd (let clash : Stop halt ≡ Go n = e in cc);
    digits = λ n first m neg e f. absurd (let clash : Stop halt ≡ Go n = e in cc);
    number = λ first e. absurd (other first (same_stop halt first e));
  }
    where
      same_stop : (h : Halt) (first : ℕ) → Stop h ≡ Stop (Number first) → h ≡ Number first
      same_stop h first e = cc

  bad : Moves here p b (Stop Syntax)
  bad = stops Syntax (λ first e. absurd (cc))

  deep : Moves here p b (Stop Deep)
  deep = stops Deep (λ first e. absurd (cc))

  large : Moves here p b (Stop Large)
  large = stops Large (λ first e. absurd (cc))

  over : (t : TermTree) → Moves here p b (Done t)
  over t = record {
    before = λ n e f c. absurd (let clash : Done t ≡ Go n = e in cc);
    minus = λ n first e f. absurd (let clash : Done t ≡ Go n = e in cc);
    digits = λ n first m neg e f. absurd (let clash : Done t ≡ Go n = e in cc);
    number = λ first e. absurd (let clash : Done t ≡ Stop (Number first) = e in cc);
  }

  -- a value has to come, behind a byte that is no part of an integer
  opens : (fs : List Frame) → is_mark b ≡ true → Moves here p b (at Before fs)
  opens fs mark = record {
    before = λ n e f c. mark;
    minus = λ n first e f. absurd (let clash : Before ≡ Minus first = place_is (record { comment = false; place = Before; frames = fs }) n (Minus first) e f in cc);
    digits = λ n first m neg e f. absurd (let clash : Before ≡ Digits first neg m = place_is (record { comment = false; place = Before; frames = fs }) n (Digits first neg m) e f in cc);
    number = λ first e. absurd (cc);
  }

  either : (t : Bool) (a c : Step) → (t ≡ true → Moves here p b a) → (t ≡ false → Moves here p b c) → Moves here p b (cond t a c)
  either true a c h k = h refl
  either false a c h k = k refl

  -- a quiet place, or a fault of syntax
  one_way : (t : Bool) (s : State) → is_quiet s.place ≡ true → Moves here p b (cond t (Go s) (Stop Syntax))
  one_way t s q = either t _ _ (λ e. quiet s q) (λ e. bad)

  marked : (k : ℕ) → eqb b k ≡ true → is_mark k ≡ true → is_mark b ≡ true
  marked k e mark = subst (λ (x : ℕ). is_mark x ≡ true) (sym (eqb-true b k e)) mark

  -- by this byte a value has to come
  opens_by : (k : ℕ) (fs : List Frame) (c : Step) → is_mark k ≡ true → Moves here p b c → Moves here p b (cond (eqb b k) (at Before fs) c)
  opens_by k fs c mark h = either (eqb b k) _ _ (λ e. opens fs (marked k e mark)) (λ e. h)

  goes_if : (t : Bool) (s : State) (c : Step) → is_quiet s.place ≡ true → Moves here p b c → Moves here p b (cond t (Go s) c)
  goes_if t s c q h = either t _ _ (λ e. quiet s q) (λ e. h)

  name_moves : (fs : List Frame) → Moves here p b (begin_name fs b)
  name_moves fs = goes_if (is_ascii_lowercase b) _ _ refl (one_way (eqb b 39) _ refl)

  digit_moves : (rules : Rules) (fs : List Frame) (first : ℕ) (neg : Bool) (m : ℕ) → Grown here p b first neg m → Moves here p b (with_digit rules fs first neg m)
  digit_moves rules fs first neg m grown = go (takes_segment fs) (is_byte neg m) (fits_128 (signed neg m)) rules.bounded refl
    where
      goes : Moves here p b (at (Digits first neg m) fs)
      goes = record {
        before = λ n e f c. absurd (let clash : Digits first neg m ≡ Before = place_is (record { comment = false; place = Digits first neg m; frames = fs }) n Before e f in cc);
        minus = λ n other e f. absurd (let clash : Digits first neg m ≡ Minus other = place_is (record { comment = false; place = Digits first neg m; frames = fs }) n (Minus other) e f in cc);
        digits = λ n g k sign e f. (
          ap (λ (x : State). x.comment) (sym (same_state (record { comment = false; place = Digits first neg m; frames = fs }) n e)),
          grown_as here p b first g m k neg sign (place_is (record { comment = false; place = Digits first neg m; frames = fs }) n (Digits g sign k) e f) grown,
        );
        number = λ other e. absurd (cc);
      }

      out : fits_128 (signed neg m) ≡ false → Moves here p b (Stop (Number first))
      out misfits = record {
        before = λ n e f c. absurd (cc);
        minus = λ n other e f. absurd (cc);
        digits = λ n g k sign e f. absurd (cc);
        number = λ other e. (neg, m, subst (λ (x : ℕ). Grown here p b x neg m) (same_number first other e) grown, misfits);
      }

      go : (seg byte fits c : Bool) → fits_128 (signed neg m) ≡ fits → Moves here p b (cond (cond seg byte (not c || fits)) (at (Digits first neg m) fs) (Stop (cond seg Syntax (Number first))))
      go true true fits c e = goes
      go true false fits c e = bad
      go false byte true true e = goes
      go false byte false true e = out e
      go false byte fits false e = goes

  integer_moves : (rules : Rules) (fs : List Frame) → here ≡ Before → Moves here p b (begin_integer rules fs p b)
  integer_moves rules fs is =
      either (eqb b 45) _ _ (λ e. minus_goes e)
      (λ e. either (is_ascii_digit b) _ _ (λ d. digit_moves rules fs p false (digit_of b) (begun is refl refl refl d)) (λ d. bad))
    where
      minus_goes : eqb b 45 ≡ true → Moves here p b (at (Minus p) fs)
      minus_goes e = record {
        before = λ n g f c. absurd (let clash : Minus p ≡ Before = place_is (record { comment = false; place = Minus p; frames = fs }) n Before g f in cc);
        minus = λ n first g f. (
          ap (λ (x : State). x.comment) (sym (same_state (record { comment = false; place = Minus p; frames = fs }) n g)),
          is,
          same_minus first p (sym (place_is (record { comment = false; place = Minus p; frames = fs }) n (Minus first) g f)),
          eqb-true b 45 e,
        );
        digits = λ n first m neg g f. absurd (let clash : Minus p ≡ Digits first neg m = place_is (record { comment = false; place = Minus p; frames = fs }) n (Digits first neg m) g f in cc);
        number = λ first g. absurd (cc);
      }

  opened_moves : (levels : ℕ) (F : Frame) (fs : List Frame) → is_mark b ≡ true → Moves here p b (opened levels F fs)
  opened_moves levels F fs mark = either (ltb (length fs) levels) _ _ (λ e. opens (F ∷ fs) mark) (λ e. deep)

  term_moves : (σ : Setting) (fs : List Frame) → here ≡ Before → Moves here p b (begin_term σ fs p b)
  unfolding begin_term
  term_moves σ fs is =
      either (eqb b 45 || is_ascii_digit b) _ _ (λ e. integer_moves σ.rules fs is)
      (λ e1. either (is_ascii_lowercase b || eqb b 39) _ _ (λ e. name_moves fs)
      (λ e2. either (eqb b 91) _ _ (λ e. opened_moves σ.levels (InList []) fs (marked 91 e refl))
      (λ e3. either (eqb b 123) _ _ (λ e. opened_moves σ.levels (InTuple []) fs (marked 123 e refl))
      (λ e4. either (eqb b 34) _ _ (λ e. either (ltb (length fs) σ.levels) _ _ (λ d. quiet _ refl) (λ d. deep))
      (λ e5. goes_if (eqb b 60) _ _ refl (one_way (eqb b 35) _ refl))))))

  segment_moves : (rules : Rules) (fs : List Frame) → here ≡ Before → Moves here p b (begin_segment rules fs p b)
  segment_moves rules fs is = goes_if (eqb b 34) _ _ refl (integer_moves rules fs is)

  closing_moves : (fs : List Frame) → Moves here p b (close_closure fs b)
  closing_moves [] = bad
  closing_moves (InList xs ∷ fs) = bad
  closing_moves (InTail xs ∷ fs) = bad
  closing_moves (InTuple xs ∷ fs) = bad
  closing_moves (InKey ps ∷ fs) = bad
  closing_moves (InValue ps v ∷ fs) = bad
  closing_moves (InModule ∷ fs) = bad
  closing_moves (InName m ∷ fs) = bad
  closing_moves (InArity m f ∷ fs) = bad
  closing_moves (InOpening m f y ∷ fs) = bad
  closing_moves (InCaptured m f y env ∷ fs) = bad
  closing_moves (InClosing m f y env ∷ fs) = goes_if (is_arity y (length env) && eqb b 125) _ _ refl (one_way (not (is_arity y (length env)) && eqb b 256) _ refl)
  closing_moves (InBinary begun_ bytes counted ∷ fs) = bad
  closing_moves (InReference ∷ fs) = bad
  closing_moves (InReferenceName ∷ fs) = bad

  after_moves : (sized : Bool) (fs : List Frame) (t : TermTree) → Moves here p b (step_after sized fs t b)
  unfolding step_after
  after_moves sized [] t = either (eqb b 46) _ _ (λ e. either (sized && ltb max_size (size_of t)) _ _ (λ d. large) (λ d. quiet _ refl)) (λ e. bad)
  after_moves sized (InList xs ∷ fs) t = opens_by 44 _ _ refl (opens_by 124 _ _ refl (one_way (eqb b 93) _ refl))
  after_moves sized (InTail xs ∷ fs) t = one_way (eqb b 93) _ refl
  after_moves sized (InTuple xs ∷ fs) t = opens_by 44 _ _ refl (one_way (eqb b 125) _ refl)
  after_moves sized (InKey ps ∷ fs) t = one_way (eqb b 61) _ refl
  after_moves sized (InValue ps v ∷ fs) t = opens_by 44 _ _ refl (one_way (eqb b 125) _ refl)
  after_moves sized (InModule ∷ fs) t = bad
  after_moves sized (InName m ∷ fs) t = bad
  after_moves sized (InArity m f ∷ fs) t = bad
  after_moves sized (InOpening m f y ∷ fs) t = bad
  after_moves sized (InCaptured m f y env ∷ fs) t = opens_by 44 _ _ refl (opens_by 93 _ _ refl bad)
  after_moves sized (InClosing m f y env ∷ fs) t = bad
  after_moves sized (InBinary begun_ bytes counted ∷ fs) t = bad
  after_moves sized (InReference ∷ fs) t = bad
  after_moves sized (InReferenceName ∷ fs) t = bad

  after_name_moves : (fs : List Frame) (name : List ℕ) → Moves here p b (step_after_name fs name b)
  unfolding step_after_name
  after_name_moves [] name = bad
  after_name_moves (InList xs ∷ fs) name = bad
  after_name_moves (InTail xs ∷ fs) name = bad
  after_name_moves (InTuple xs ∷ fs) name = bad
  after_name_moves (InKey ps ∷ fs) name = bad
  after_name_moves (InValue ps v ∷ fs) name = bad
  after_name_moves (InModule ∷ fs) name = opens_by 44 _ _ refl bad
  after_name_moves (InName m ∷ fs) name = opens_by 44 _ _ refl bad
  after_name_moves (InArity m f ∷ fs) name = bad
  after_name_moves (InOpening m f y ∷ fs) name = bad
  after_name_moves (InCaptured m f y env ∷ fs) name = bad
  after_name_moves (InClosing m f y env ∷ fs) name = bad
  after_name_moves (InBinary begun_ bytes counted ∷ fs) name = bad
  after_name_moves (InReference ∷ fs) name = opens_by 58 _ _ refl bad
  after_name_moves (InReferenceName ∷ fs) name = one_way (eqb b 47) _ refl

  after_arity_moves : (fs : List Frame) (z : ℤ) → Moves here p b (step_after_arity fs z b)
  unfolding step_after_arity
  after_arity_moves [] z = bad
  after_arity_moves (InList xs ∷ fs) z = bad
  after_arity_moves (InTail xs ∷ fs) z = bad
  after_arity_moves (InTuple xs ∷ fs) z = bad
  after_arity_moves (InKey ps ∷ fs) z = bad
  after_arity_moves (InValue ps v ∷ fs) z = bad
  after_arity_moves (InModule ∷ fs) z = bad
  after_arity_moves (InName m ∷ fs) z = bad
  after_arity_moves (InArity m f ∷ fs) z = opens_by 44 _ _ refl bad
  after_arity_moves (InOpening m f y ∷ fs) z = bad
  after_arity_moves (InCaptured m f y env ∷ fs) z = bad
  after_arity_moves (InClosing m f y env ∷ fs) z = bad
  after_arity_moves (InBinary begun_ bytes counted ∷ fs) z = bad
  after_arity_moves (InReference ∷ fs) z = bad
  after_arity_moves (InReferenceName ∷ fs) z = bad

  next_moves : (bytes : List ℕ) (counted : Bool) (fs : List Frame) → Moves here p b (next_segment bytes counted fs b)
  next_moves bytes counted fs = opens_by 44 _ _ refl (one_way (eqb b 62) _ refl)

  after_byte_moves : (mode : Mode) (fs : List Frame) (j : ℕ) → Moves here p b (step_after_byte mode fs j b)
  unfolding step_after_byte
  after_byte_moves mode [] j = bad
  after_byte_moves mode (InList xs ∷ fs) j = bad
  after_byte_moves mode (InTail xs ∷ fs) j = bad
  after_byte_moves mode (InTuple xs ∷ fs) j = bad
  after_byte_moves mode (InKey ps ∷ fs) j = bad
  after_byte_moves mode (InValue ps v ∷ fs) j = bad
  after_byte_moves mode (InModule ∷ fs) j = bad
  after_byte_moves mode (InName m ∷ fs) j = bad
  after_byte_moves mode (InArity m f ∷ fs) j = bad
  after_byte_moves mode (InOpening m f y ∷ fs) j = bad
  after_byte_moves mode (InCaptured m f y env ∷ fs) j = bad
  after_byte_moves mode (InClosing m f y env ∷ fs) j = bad
  after_byte_moves mode (InBinary begun_ bytes counted ∷ fs) j = goes_if (eqb b 58 && is_listing mode) _ _ refl (next_moves (bytes ++ j ∷ []) counted fs)
  after_byte_moves mode (InReference ∷ fs) j = bad
  after_byte_moves mode (InReferenceName ∷ fs) j = bad

  after_text_moves : (mode : Mode) (fs : List Frame) (cs : List ℕ) → Moves here p b (step_after_text mode fs cs b)
  unfolding step_after_text
  after_text_moves mode [] cs = bad
  after_text_moves mode (InList xs ∷ fs) cs = bad
  after_text_moves mode (InTail xs ∷ fs) cs = bad
  after_text_moves mode (InTuple xs ∷ fs) cs = bad
  after_text_moves mode (InKey ps ∷ fs) cs = bad
  after_text_moves mode (InValue ps v ∷ fs) cs = bad
  after_text_moves mode (InModule ∷ fs) cs = bad
  after_text_moves mode (InName m ∷ fs) cs = bad
  after_text_moves mode (InArity m f ∷ fs) cs = bad
  after_text_moves mode (InOpening m f y ∷ fs) cs = bad
  after_text_moves mode (InCaptured m f y env ∷ fs) cs = bad
  after_text_moves mode (InClosing m f y env ∷ fs) cs = bad
  after_text_moves mode (InBinary begun_ bytes counted ∷ fs) cs = either (eqb b 47 && is_listing mode) _ _ (λ e. one_way (all_scalars cs) _ refl) (λ e. either (all_latin cs) _ _ (λ d. next_moves (bytes ++ cs) counted fs) (λ d. bad))
  after_text_moves mode (InReference ∷ fs) cs = bad
  after_text_moves mode (InReferenceName ∷ fs) cs = bad

  after_segment_moves : (fs : List Frame) → Moves here p b (step_after_segment fs b)
  unfolding step_after_segment
  after_segment_moves [] = bad
  after_segment_moves (InList xs ∷ fs) = bad
  after_segment_moves (InTail xs ∷ fs) = bad
  after_segment_moves (InTuple xs ∷ fs) = bad
  after_segment_moves (InKey ps ∷ fs) = bad
  after_segment_moves (InValue ps v ∷ fs) = bad
  after_segment_moves (InModule ∷ fs) = bad
  after_segment_moves (InName m ∷ fs) = bad
  after_segment_moves (InArity m f ∷ fs) = bad
  after_segment_moves (InOpening m f y ∷ fs) = bad
  after_segment_moves (InCaptured m f y env ∷ fs) = bad
  after_segment_moves (InClosing m f y env ∷ fs) = bad
  after_segment_moves (InBinary begun_ bytes counted ∷ fs) = next_moves bytes counted fs
  after_segment_moves (InReference ∷ fs) = bad
  after_segment_moves (InReferenceName ∷ fs) = bad

  close_moves : (fs : List Frame) → Moves here p b (step_close fs b)
  unfolding step_close
  close_moves [] = bad
  close_moves (InList xs ∷ fs) = bad
  close_moves (InTail xs ∷ fs) = bad
  close_moves (InTuple xs ∷ fs) = bad
  close_moves (InKey ps ∷ fs) = bad
  close_moves (InValue ps v ∷ fs) = bad
  close_moves (InModule ∷ fs) = bad
  close_moves (InName m ∷ fs) = bad
  close_moves (InArity m f ∷ fs) = bad
  close_moves (InOpening m f y ∷ fs) = bad
  close_moves (InCaptured m f y env ∷ fs) = bad
  close_moves (InClosing m f y env ∷ fs) = bad
  close_moves (InBinary begun_ bytes counted ∷ fs) = one_way (eqb b 62) _ refl
  close_moves (InReference ∷ fs) = bad
  close_moves (InReferenceName ∷ fs) = bad

  arrow_moves : (fs : List Frame) (key : TermTree) → Moves here p b (step_arrow fs key b)
  unfolding step_arrow
  arrow_moves [] key = bad
  arrow_moves (InList xs ∷ fs) key = bad
  arrow_moves (InTail xs ∷ fs) key = bad
  arrow_moves (InTuple xs ∷ fs) key = bad
  arrow_moves (InKey ps ∷ fs) key = opens_by 62 _ _ refl bad
  arrow_moves (InValue ps v ∷ fs) key = bad
  arrow_moves (InModule ∷ fs) key = bad
  arrow_moves (InName m ∷ fs) key = bad
  arrow_moves (InArity m f ∷ fs) key = bad
  arrow_moves (InOpening m f y ∷ fs) key = bad
  arrow_moves (InCaptured m f y env ∷ fs) key = bad
  arrow_moves (InClosing m f y env ∷ fs) key = bad
  arrow_moves (InBinary begun_ bytes counted ∷ fs) key = bad
  arrow_moves (InReference ∷ fs) key = bad
  arrow_moves (InReferenceName ∷ fs) key = bad

  sharp_moves : (σ : Setting) (fs : List Frame) (count : ℕ) → Moves here p b (step_sharp σ fs count b)
  unfolding step_sharp
  sharp_moves σ fs zero = either (eqb b 123) _ _ (λ e. opened_moves σ.levels (InKey []) fs (marked 123 e refl)) (λ e. goes_if (eqb b 102) _ _ refl (one_way (eqb b 256) _ refl))
  sharp_moves σ fs (suc zero) = goes_if (eqb b 117) _ _ refl (one_way (eqb b 256) _ refl)
  sharp_moves σ fs (suc (suc zero)) = goes_if (eqb b 110) _ _ refl (one_way (eqb b 256) _ refl)
  sharp_moves σ fs (suc (suc (suc count))) = either (eqb b 123) _ _ (λ e. opened_moves σ.levels InModule fs (marked 123 e refl)) (λ e. one_way (eqb b 256) _ refl)

  -- ---- texts in quotes

  lead_moves : (fs : List Frame) (q : Quoting) (below : ℕ) → Moves here p b (lead fs q below b)
  lead_moves fs q below =
      goes_if (is_within 0xC2 0xDF b && ltb ((b - 0xC0) * 64) below) _ _ refl
      (goes_if (eqb b 0xE0 && ltb 0x800 below) _ _ refl
      (goes_if (eqb b 0xED && ltb 0x800 below) _ _ refl
      (goes_if (is_within 0xE1 0xEF b && ltb 0x800 below) _ _ refl
      (goes_if (eqb b 0xF0 && ltb 0x10000 below) _ _ refl
      (goes_if (eqb b 0xF4 && ltb 0x10000 below) _ _ refl
      (one_way (is_within 0xF1 0xF3 b && ltb 0x10000 below) _ refl))))))

  plain_moves : (mode : Mode) (fs : List Frame) (q : Quoting) → Moves here p b (step_plain mode fs q b)
  unfolding step_plain
  plain_moves mode fs q =
      either (eqb b (quote_of q.use_)) _ _ (λ e. one_way (ends_well q.use_ q.points) _ (quote_quiet fs q.use_ q.points))
      (λ e1. either (eqb (bound mode q.use_) 0) _ _ (λ e. bad)
      (λ e2. goes_if (eqb b 92) _ _ refl (goes_if (ltb b 0x80) _ _ refl (lead_moves fs q (bound mode q.use_)))))

  named_moves : (fs : List Frame) (q : Quoting) (o : Option ℕ) → Moves here p b (named fs q o)
  named_moves fs q (Some point) = quiet _ refl
  named_moves fs q None = bad

  slash_moves : (fs : List Frame) (q : Quoting) → Moves here p b (step_slash fs q b)
  unfolding step_slash
  slash_moves fs q = goes_if (eqb b 120) _ _ refl (named_moves fs q (escaped b))

  code_moves : (mode : Mode) (fs : List Frame) (q : Quoting) (count value : ℕ) → Moves here p b (step_code mode fs q (count, value) b)
  unfolding step_code
  code_moves mode fs q count value =
      either (is_ascii_hexdigit b) _ _ (λ e. one_way (ltb count 6 && can_be_code (bound mode q.use_) (count + 1) (value * 16 + digit_value b)) _ refl)
      (λ e. one_way (eqb b 125 && ltb 0 count && not (is_surrogate value)) _ refl)

  followed_moves : (fs : List Frame) (q : Quoting) (count value : ℕ) → Moves here p b (followed fs q count value)
  followed_moves fs q zero value = quiet _ refl
  followed_moves fs q (suc count) value = quiet _ refl

  quote_moves : (mode : Mode) (fs : List Frame) (q : Quoting) (inner : Inner) → Moves here p b (step_quote mode fs q inner b)
  unfolding step_quote
  quote_moves mode fs q Plain = plain_moves mode fs q
  quote_moves mode fs q Slash = slash_moves fs q
  quote_moves mode fs q Brace = one_way (eqb b 123) _ refl
  quote_moves mode fs q (Code count value) = code_moves mode fs q count value
  quote_moves mode fs q (Follow count low high value) = either (is_within low high b) _ _ (λ e. followed_moves fs q count (value * 64 + (b - 0x80))) (λ e. bad)

  fun_moves : (sized : Bool) (fs : List Frame) → Moves here p b (step_fun sized fs b)
  fun_moves sized fs = either (is_ascii_lowercase b || eqb b 39) _ _ (λ e. name_moves (InReference ∷ fs)) (λ e. after_moves sized fs (tree.Atom (codes "fun")))

  dotted_moves : (t : TermTree) → Moves here p b (step_dotted t b)
  dotted_moves t = either (may_follow (b ∷ [])) _ _ (λ e. over t) (λ e. bad)

  point_moves : (fs : List Frame) (z : ℤ) → Moves here p b (step_point fs z b)
  unfolding step_point
  point_moves [] z = either (is_ascii_digit b) _ _ (λ e. quiet _ refl) (λ e. dotted_moves (tree.Int z))
  point_moves (f ∷ fs) z = one_way (is_ascii_digit b) _ refl

  utf_moves : (fs : List Frame) (count : ℕ) → Moves here p b (step_utf fs count b)
  unfolding step_utf
  utf_moves fs zero = one_way (eqb b 56) _ refl
  utf_moves fs (suc zero) = one_way (eqb b 116) _ refl
  utf_moves fs (suc (suc zero)) = one_way (eqb b 102) _ refl
  utf_moves fs (suc (suc (suc count))) = one_way (eqb b 56) _ refl

  -- ---- where a value has to come

  before_moves : (σ : Setting) (fs : List Frame) → here ≡ Before → Moves here p b (step_before σ fs p b)
  unfolding step_before
  before_moves σ [] is = term_moves σ [] is
  before_moves σ (InList [] ∷ fs) is = goes_if (eqb b 93) _ _ refl (term_moves σ (InList [] ∷ fs) is)
  before_moves σ (InList (x ∷ xs) ∷ fs) is = term_moves σ (InList (x ∷ xs) ∷ fs) is
  before_moves σ (InTail xs ∷ fs) is = term_moves σ (InTail xs ∷ fs) is
  before_moves σ (InTuple [] ∷ fs) is = goes_if (eqb b 125) _ _ refl (term_moves σ (InTuple [] ∷ fs) is)
  before_moves σ (InTuple (x ∷ xs) ∷ fs) is = term_moves σ (InTuple (x ∷ xs) ∷ fs) is
  before_moves σ (InKey [] ∷ fs) is = goes_if (eqb b 125) _ _ refl (term_moves σ (InKey [] ∷ fs) is)
  before_moves σ (InKey (x ∷ xs) ∷ fs) is = term_moves σ (InKey (x ∷ xs) ∷ fs) is
  before_moves σ (InValue xs k ∷ fs) is = term_moves σ (InValue xs k ∷ fs) is
  before_moves σ (InModule ∷ fs) is = name_moves (InModule ∷ fs)
  before_moves σ (InName m ∷ fs) is = name_moves (InName m ∷ fs)
  before_moves σ (InArity m f ∷ fs) is = integer_moves σ.rules (InArity m f ∷ fs) is
  before_moves σ (InOpening m f z ∷ fs) is = opens_by 91 _ _ refl bad
  before_moves σ (InCaptured m f z [] ∷ fs) is = opens_by 93 _ _ refl (term_moves σ (InCaptured m f z [] ∷ fs) is)
  before_moves σ (InCaptured m f z (x ∷ xs) ∷ fs) is = term_moves σ (InCaptured m f z (x ∷ xs) ∷ fs) is
  before_moves σ (InClosing m f z env ∷ fs) is = closing_moves (InClosing m f z env ∷ fs)
  before_moves σ (InBinary begun_ bytes counted ∷ fs) is = goes_if (not begun_ && eqb b 62) _ _ refl (segment_moves σ.rules (InBinary begun_ bytes counted ∷ fs) is)
  before_moves σ (InReference ∷ fs) is = name_moves (InReference ∷ fs)
  before_moves σ (InReferenceName ∷ fs) is = name_moves (InReferenceName ∷ fs)

-- ---- between tokens

module _ (p b : ℕ) where
  mark_moves : (σ : Setting) (here : Place) (fs : List Frame) → Moves here p b (step_mark σ here fs p b)
  unfolding step_mark
  mark_moves σ Before fs = before_moves Before p b σ fs refl
  mark_moves σ (After t) fs = after_moves (After t) p b σ.sized fs t
  mark_moves σ (AfterName k) fs = after_name_moves (AfterName k) p b fs k
  mark_moves σ (AfterArity z) fs = after_arity_moves (AfterArity z) p b fs z
  mark_moves σ (AfterByte k) fs = after_byte_moves (AfterByte k) p b σ.rules.mode fs k
  mark_moves σ (AfterText cs) fs = after_text_moves (AfterText cs) p b σ.rules.mode fs cs
  mark_moves σ AfterSegment fs = after_segment_moves AfterSegment p b fs
  mark_moves σ SizeMark fs = one_way SizeMark p b (is_ascii_digit b) _ refl
  mark_moves σ UtfMark fs = one_way UtfMark p b (eqb b 117) _ refl
  mark_moves σ Fun fs = fun_moves Fun p b σ.sized fs
  mark_moves σ CountMark fs = one_way CountMark p b (is_ascii_digit b) _ refl
  mark_moves σ (Minus first) fs = bad (Minus first) p b
  mark_moves σ (Digits first neg m) fs = bad (Digits first neg m) p b
  mark_moves σ (Word k) fs = bad (Word k) p b
  mark_moves σ (Quote q inner) fs = bad (Quote q inner) p b
  mark_moves σ Angle fs = bad Angle p b
  mark_moves σ (Sharp k) fs = bad (Sharp k) p b
  mark_moves σ (Arrow k) fs = bad (Arrow k) p b
  mark_moves σ Close fs = bad Close p b
  mark_moves σ (Dotted t) fs = bad (Dotted t) p b
  mark_moves σ (Point z) fs = bad (Point z) p b
  mark_moves σ Fraction fs = bad Fraction p b
  mark_moves σ Mark fs = bad Mark p b
  mark_moves σ Signed fs = bad Signed p b
  mark_moves σ Exponent fs = bad Exponent p b
  mark_moves σ Size fs = bad Size p b
  mark_moves σ (Utf k) fs = bad (Utf k) p b
  mark_moves σ Count fs = bad Count p b

  space_mark : is_space b ≡ true → is_mark b ≡ true
  space_mark is = go (eqb b 9) (eqb b 10) (eqb b 13) (eqb b 32) refl refl refl refl is
    where
      go : (t n r s : Bool) → eqb b 9 ≡ t → eqb b 10 ≡ n → eqb b 13 ≡ r → eqb b 32 ≡ s → (((t || n) || r) || s) ≡ true → is_mark b ≡ true
      go true n r s e f g h some = marked Before p b 9 e refl
      go false true r s e f g h some = marked Before p b 10 f refl
      go false false true s e f g h some = marked Before p b 13 g refl
      go false false false true e f g h some = marked Before p b 32 h refl
      go false false false false e f g h some = absurd (let clash : false ≡ true = some in cc)

  -- a blank leaves a place as it is
  stays_by : (here : Place) (s : State) → is_calm here ≡ true → s.place ≡ here → (s.comment ≡ false → is_mark b ≡ true) → Moves here p b (Go s)
  stays_by here s calm same mark = record {
    before = λ n e f c. mark (comment_is s n false e c);
    minus = λ n first e f. absurd (not_calm here (Minus first) calm (sym same ∙ place_is s n (Minus first) e f) refl);
    digits = λ n first m neg e f. absurd (not_calm here (Digits first neg m) calm (sym same ∙ place_is s n (Digits first neg m) e f) refl);
    number = λ first e. absurd (cc);
  }

  between_moves : (σ : Setting) (here : Place) (fs : List Frame) → is_calm here ≡ true → Moves here p b (step_between σ here fs p b)
  unfolding step_between
  between_moves σ here fs calm =
      either here p b (is_space b) _ _ (λ e. stays_by here (record { comment = false; place = here; frames = fs }) calm refl (λ c. space_mark e))
      (λ e. either here p b (eqb b 37) _ _ (λ d. stays_by here (record { comment = true; place = here; frames = fs }) calm refl (λ c. absurd (let clash : true ≡ false = c in cc)))
      (λ d. mark_moves σ here fs))

  -- what goes on from a quiet place goes on so from any
  not_grown : (here : Place) (first m : ℕ) (neg : Bool) → is_quiet here ≡ true → Grown here p b first neg m → ⊥
  not_grown here first m neg q (begun is same sign value digit) = not_quiet here Before q is refl
  not_grown here first m neg q (behind_minus is sign value digit) = not_quiet here (Minus first) q is refl
  not_grown here first m neg q (more k is value digit) = not_quiet here (Digits first neg k) q is refl

  relaxed : (here there : Place) (st : Step) → is_quiet there ≡ true → Moves there p b st → Moves here p b st
  relaxed here there st q h = record {
    before = h.before;
    minus = λ n first e f. absurd (not_quiet there Before q (h.minus n first e f).1 refl);
    digits = λ n first m neg e f. absurd (not_grown there first m neg q (h.digits n first m neg e f).1);
    number = λ first e. let k = h.number first e in absurd (not_grown there first k.1 k.0 q k.2);
  }

  quiet_between : (σ : Setting) (here there : Place) (fs : List Frame) → is_quiet there ≡ true → Moves here p b (step_between σ there fs p b)
  quiet_between σ here there fs q = relaxed here there (step_between σ there fs p b) q (between_moves σ there fs (quiet_calm there q))

  more_moves : (σ : Setting) (here there next : Place) (fs : List Frame) → is_quiet there ≡ true → is_quiet next ≡ true → Moves here p b (more_digits σ there next fs (p, b))
  more_moves σ here there next fs q r = goes_if here p b (is_ascii_digit b) _ _ q (quiet_between σ here next fs r)

  digits_moves : (σ : Setting) (fs : List Frame) (first : ℕ) (neg : Bool) (m : ℕ) → Moves (Digits first neg m) p b (step_digits σ fs (first, neg, m) p b)
  unfolding step_digits
  digits_moves σ fs first neg m =
      either (Digits first neg m) p b (is_ascii_digit b) _ _ (λ e. digit_moves (Digits first neg m) p b σ.rules fs first neg (m * 10 + digit_of b) (more m refl refl e))
      (λ e. goes_if (Digits first neg m) p b (eqb b 46 && takes_fraction σ.rules fs) _ _ refl (quiet_between σ (Digits first neg m) (integer_ended fs neg m) fs (integer_quiet fs neg m)))

  word_moves : (σ : Setting) (fs : List Frame) (name : List ℕ) → Moves (Word name) p b (step_word σ fs name p b)
  unfolding step_word
  word_moves σ fs name =
      either (Word name) p b (is_word_byte b) _ _ (λ e. one_way (Word name) p b (ltb (length name) 255) _ refl)
      (λ e. quiet_between σ (Word name) (word_ended σ.rules fs name) fs (word_quiet σ.rules fs name))

  pub place_moves : (σ : Setting) (here : Place) (fs : List Frame) → Moves here p b (step_place σ here fs p b)
  unfolding step_place
  place_moves σ (Minus first) fs = either (Minus first) p b (is_ascii_digit b) _ _ (λ e. digit_moves (Minus first) p b σ.rules fs first true (digit_of b) (behind_minus refl refl refl e)) (λ e. bad (Minus first) p b)
  place_moves σ (Digits first neg m) fs = digits_moves σ fs first neg m
  place_moves σ (Word k) fs = word_moves σ fs k
  place_moves σ (Quote q inner) fs = quote_moves (Quote q inner) p b σ.rules.mode fs q inner
  place_moves σ Angle fs = opens_by Angle p b 60 _ _ refl (bad Angle p b)
  place_moves σ (Sharp k) fs = sharp_moves (Sharp k) p b σ fs k
  place_moves σ (Arrow k) fs = arrow_moves (Arrow k) p b fs k
  place_moves σ Close fs = close_moves Close p b fs
  place_moves σ (Dotted t) fs = dotted_moves (Dotted t) p b t
  place_moves σ (Point z) fs = point_moves (Point z) p b fs z
  place_moves σ Fraction fs = goes_if Fraction p b (is_exponent_mark b) _ _ refl (more_moves σ Fraction Fraction (After unsupported) fs refl refl)
  place_moves σ Mark fs = goes_if Mark p b (is_sign b) _ _ refl (one_way Mark p b (is_ascii_digit b) _ refl)
  place_moves σ Signed fs = one_way Signed p b (is_ascii_digit b) _ refl
  place_moves σ Exponent fs = more_moves σ Exponent Exponent (After unsupported) fs refl refl
  place_moves σ Size fs = more_moves σ Size Size AfterSegment fs refl refl
  place_moves σ (Utf k) fs = utf_moves (Utf k) p b fs k
  place_moves σ Count fs = more_moves σ Count Count (After unsupported) fs refl refl
  place_moves σ Before fs = between_moves σ Before fs refl
  place_moves σ (After t) fs = between_moves σ (After t) fs refl
  place_moves σ (AfterName k) fs = between_moves σ (AfterName k) fs refl
  place_moves σ (AfterArity z) fs = between_moves σ (AfterArity z) fs refl
  place_moves σ (AfterByte k) fs = between_moves σ (AfterByte k) fs refl
  place_moves σ (AfterText cs) fs = between_moves σ (AfterText cs) fs refl
  place_moves σ AfterSegment fs = between_moves σ AfterSegment fs refl
  place_moves σ SizeMark fs = between_moves σ SizeMark fs refl
  place_moves σ UtfMark fs = between_moves σ UtfMark fs refl
  place_moves σ Fun fs = between_moves σ Fun fs refl
  place_moves σ CountMark fs = between_moves σ CountMark fs refl
