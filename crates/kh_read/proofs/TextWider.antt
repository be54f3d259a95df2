-- Reading with limits and with some of them aside: the same, up to the byte that passes a limit.
use Rattle.std.proofs.Common.{◌≡◌, ◌≤◌, ◌<◌, ℕ, zero, suc, ◌+◌, ◌*◌, Bool, true, false, not, ◌&&◌, ◌||◌, cond, eqb, ltb, List, [], ◌∷◌, ◌++◌, length, inl, inr, refl, sym, ap, subst, ◌∙◌, arith, ℤ}
use Rattle.std.specs.Prelude.{codes, ◌⊎◌}
use Rattle.std.specs.Char.{is_ascii_digit, is_ascii_lowercase}
use Rattle.std.proofs.lemmas.Bool.{ltb-true, lt-ltb}
use Rattle.kh_term.specs.declared.tree.TermTree.{TermTree}
use Rattle.kh_term.specs.declared.tree.TermTree.TheVariants as tree
use Rattle.kh_term.specs.Size.{size_of}
use Rattle.kh_term.specs.WellFormed.{fits_128}
use Rattle.kh_text_defs.specs.declared.mode.Mode.{Mode}
use Rattle.kh_text_defs.specs.Atoms.{is_word_byte}
use Rattle.kh_text_defs.specs.Blanks.{is_space}
use Rattle.kh_text_defs.specs.Faults.{max_size}
use Rattle.kh_text_defs.specs.Spelled.{Rules, is_exponent_mark, is_sign, unsupported}
use Rattle.kh_read.specs.State.{Frame, InList, InTail, InTuple, InKey, InValue, InModule, InName, InArity, InOpening, InCaptured, InClosing, InBinary, InReference, InReferenceName, ForList, Plain, Place, Before, After, AfterName, AfterArity, AfterByte, AfterText, AfterSegment, Minus, Digits, Word, Quote, Angle, Sharp, Arrow, Close, Dotted, Point, Fraction, Mark, Signed, Exponent, SizeMark, Size, UtfMark, Utf, Fun, CountMark, Count, State, Setting, Halt, Syntax, Number, Deep, Large, Step, Go, Done, Stop, Reading, Ended, Cut, Halted}
use Rattle.kh_read.specs.Steps.{at, fault, signed, is_byte, digit_of, takes_segment, takes_fraction, integer_ended, word_ended, fits_here, misfit, with_digit, opened, begin_name, begin_integer, begin_segment, begin_term, close_closure, step_before, step_after, step_fun, step_sharp, step_mark, step_between, step_digits, step_word, step_place, more_digits, step, at_end, continued, read_on}
use Rattle.kh_read.proofs.TextCore.{at_the_end}
use Rattle.kh_read.proofs.TextTrace.{Path, one_step}

abbrev pub make : Mode → Bool → ℕ → Bool → Setting
make mode bounded levels counted = record { rules = record { mode = mode; bounded = bounded }; levels = levels; sized = counted }

-- reading goes on, and nothing has ended there
abbrev pub GoesOn : Step → Type 0
GoesOn st = (next : State) × (st ≡ Go next) × ((p : ℕ) → at_end next.place next.frames p ≡ Cut)

-- Two steps are the same; or the first passes a limit, and where the second hasn't that limit it goes on.
pub data Agrees (unbounded deeper uncounted : Type 0) (one two : Step) : Type 0 where
  same : one ≡ two → Agrees unbounded deeper uncounted one two
  number : (first : ℕ) → one ≡ Stop (Number first) → (unbounded → GoesOn two) → Agrees unbounded deeper uncounted one two
  level : one ≡ Stop Deep → (deeper → GoesOn two) → Agrees unbounded deeper uncounted one two
  large : (t : TermTree) → one ≡ Stop Large → ltb max_size (size_of t) ≡ true → (uncounted → two ≡ at (Dotted t) []) → Agrees unbounded deeper uncounted one two

agrees_cond : {u d s : Type 0} (t : Bool) (a1 a2 c1 c2 : Step) → Agrees u d s a1 a2 → Agrees u d s c1 c2 → Agrees u d s (cond t a1 c1) (cond t a2 c2)
agrees_cond true a1 a2 c1 c2 a c = a
agrees_cond false a1 a2 c1 c2 a c = c

module _ (mode : Mode) (b1 b2 : Bool) (l1 l2 : ℕ) (s1 s2 : Bool) (wb : b2 ≡ true → b1 ≡ true) (wl : l1 ≤ l2) (ws : s2 ≡ true → s1 ≡ true) where
  abbrev Fits : List Frame → Step → Step → Type 0
  Fits fs = Agrees (b2 ≡ false) (length fs < l2) (s2 ≡ false)

  abbrev r1 : Rules
  r1 = record { mode = mode; bounded = b1 }

  abbrev r2 : Rules
  r2 = record { mode = mode; bounded = b2 }

  digit_agrees : (fs gs : List Frame) (first : ℕ) (neg : Bool) (m : ℕ) → Agrees (b2 ≡ false) (length fs < l2) (s2 ≡ false) (with_digit (record { mode = mode; bounded = b1 }) gs first neg m) (with_digit (record { mode = mode; bounded = b2 }) gs first neg m)
  digit_agrees fs gs first neg m = go (takes_segment gs) (is_byte neg m) (fits_128 (signed neg m)) b1 b2 wb
    where
      go : (seg byte fits c1 c2 : Bool) → (c2 ≡ true → c1 ≡ true)
          → Agrees (c2 ≡ false) (length fs < l2) (s2 ≡ false) (cond (cond seg byte (not c1 || fits)) (at (Digits first neg m) gs) (Stop (cond seg Syntax (Number first))))
          (cond (cond seg byte (not c2 || fits)) (at (Digits first neg m) gs) (Stop (cond seg Syntax (Number first))))
      go true byte fits c1 c2 w = same refl
      go false byte fits true true w = same refl
      go false byte true true false w = same refl
      go false byte false true false w = number first refl (λ e. (record { comment = false; place = Digits first neg m; frames = gs }, refl, λ p. refl))
      go false byte fits false true w = absurd (let clash : false ≡ true = w refl in cc)
      go false byte fits false false w = same refl

  deeper_agrees : (fs : List Frame) (next : State) → ((p : ℕ) → at_end next.place next.frames p ≡ Cut) → Agrees (b2 ≡ false) (length fs < l2) (s2 ≡ false) (cond (ltb (length fs) l1) (Go next) (Stop Deep)) (cond (ltb (length fs) l2) (Go next) (Stop Deep))
  deeper_agrees fs next cut = go (ltb (length fs) l1) (ltb (length fs) l2) refl refl
    where
      go : (t u : Bool) → ltb (length fs) l1 ≡ t → ltb (length fs) l2 ≡ u → Agrees (b2 ≡ false) (length fs < l2) (s2 ≡ false) (cond t (Go next) (Stop Deep)) (cond u (Go next) (Stop Deep))
      go true true e f = same refl
      go true false e f = absurd (let yes_ : ltb (length fs) l2 ≡ true = lt-ltb (length fs) l2 (omega (arith, ltb-true (length fs) l1 e, wl)) in let clash : false ≡ true = sym f ∙ yes_ in cc)
      go false true e f = level refl (λ less. (next, refl, cut))
      go false false e f = level refl (λ less. absurd (let yes_ : ltb (length fs) l2 ≡ true = lt-ltb (length fs) l2 less in let clash : false ≡ true = sym f ∙ yes_ in cc))

  opened_agrees : (F : Frame) (fs : List Frame) → Agrees (b2 ≡ false) (length fs < l2) (s2 ≡ false) (opened l1 F fs) (opened l2 F fs)
  opened_agrees F fs = deeper_agrees fs (record { comment = false; place = Before; frames = F ∷ fs }) (λ p. refl)

  integer_agrees : (fs : List Frame) (p b : ℕ) → Agrees (b2 ≡ false) (length fs < l2) (s2 ≡ false) (begin_integer (record { mode = mode; bounded = b1 }) fs p b) (begin_integer (record { mode = mode; bounded = b2 }) fs p b)
  integer_agrees fs p b = agrees_cond (eqb b 45) _ _ _ _ (same refl) (agrees_cond (is_ascii_digit b) _ _ _ _ (digit_agrees fs fs p false (digit_of b)) (same refl))

  term_agrees : (fs : List Frame) (p b : ℕ) → Agrees (b2 ≡ false) (length fs < l2) (s2 ≡ false) (begin_term (make mode b1 l1 s1) fs p b) (begin_term (make mode b2 l2 s2) fs p b)
  unfolding begin_term
  term_agrees fs p b =
      agrees_cond (eqb b 45 || is_ascii_digit b) _ _ _ _ (integer_agrees fs p b)
      (agrees_cond (is_ascii_lowercase b || eqb b 39) _ _ _ _ (same refl)
      (agrees_cond (eqb b 91) _ _ _ _ (opened_agrees (InList []) fs)
      (agrees_cond (eqb b 123) _ _ _ _ (opened_agrees (InTuple []) fs)
      (agrees_cond (eqb b 34) _ _ _ _ (deeper_agrees fs (record { comment = false; place = Quote (record { use_ = ForList; points = [] }) Plain; frames = fs }) (λ q. refl))
      (agrees_cond (eqb b 60) _ _ _ _ (same refl) (agrees_cond (eqb b 35) _ _ _ _ (same refl) (same refl)))))))

  segment_agrees : (fs : List Frame) (p b : ℕ) → Agrees (b2 ≡ false) (length fs < l2) (s2 ≡ false) (begin_segment (record { mode = mode; bounded = b1 }) fs p b) (begin_segment (record { mode = mode; bounded = b2 }) fs p b)
  segment_agrees fs p b = agrees_cond (eqb b 34) _ _ _ _ (same refl) (integer_agrees fs p b)

  before_agrees : (fs : List Frame) (p b : ℕ) → Agrees (b2 ≡ false) (length fs < l2) (s2 ≡ false) (step_before (make mode b1 l1 s1) fs p b) (step_before (make mode b2 l2 s2) fs p b)
  unfolding step_before
  before_agrees [] p b = term_agrees [] p b
  before_agrees (InList [] ∷ fs) p b = agrees_cond (eqb b 93) _ _ _ _ (same refl) (term_agrees (InList [] ∷ fs) p b)
  before_agrees (InList (x ∷ xs) ∷ fs) p b = term_agrees (InList (x ∷ xs) ∷ fs) p b
  before_agrees (InTail xs ∷ fs) p b = term_agrees (InTail xs ∷ fs) p b
  before_agrees (InTuple [] ∷ fs) p b = agrees_cond (eqb b 125) _ _ _ _ (same refl) (term_agrees (InTuple [] ∷ fs) p b)
  before_agrees (InTuple (x ∷ xs) ∷ fs) p b = term_agrees (InTuple (x ∷ xs) ∷ fs) p b
  before_agrees (InKey [] ∷ fs) p b = agrees_cond (eqb b 125) _ _ _ _ (same refl) (term_agrees (InKey [] ∷ fs) p b)
  before_agrees (InKey (x ∷ xs) ∷ fs) p b = term_agrees (InKey (x ∷ xs) ∷ fs) p b
  before_agrees (InValue xs k ∷ fs) p b = term_agrees (InValue xs k ∷ fs) p b
  before_agrees (InModule ∷ fs) p b = same refl
  before_agrees (InName m ∷ fs) p b = same refl
  before_agrees (InArity m f ∷ fs) p b = integer_agrees (InArity m f ∷ fs) p b
  before_agrees (InOpening m f z ∷ fs) p b = same refl
  before_agrees (InCaptured m f z [] ∷ fs) p b = agrees_cond (eqb b 93) _ _ _ _ (same refl) (term_agrees (InCaptured m f z [] ∷ fs) p b)
  before_agrees (InCaptured m f z (x ∷ xs) ∷ fs) p b = term_agrees (InCaptured m f z (x ∷ xs) ∷ fs) p b
  before_agrees (InClosing m f z env ∷ fs) p b = same refl
  before_agrees (InBinary begun bytes counted ∷ fs) p b = agrees_cond (not begun && eqb b 62) _ _ _ _ (same refl) (segment_agrees (InBinary begun bytes counted ∷ fs) p b)
  before_agrees (InReference ∷ fs) p b = same refl
  before_agrees (InReferenceName ∷ fs) p b = same refl

  after_agrees : (fs : List Frame) (t : TermTree) (b : ℕ) → Agrees (b2 ≡ false) (length fs < l2) (s2 ≡ false) (step_after s1 fs t b) (step_after s2 fs t b)
  unfolding step_after
  after_agrees [] t b = agrees_cond (eqb b 46) _ _ _ _ (go s1 s2 (ltb max_size (size_of t)) ws refl) (same refl)
    where
      go : (c1 c2 big : Bool) → (c2 ≡ true → c1 ≡ true) → ltb max_size (size_of t) ≡ big
          → Agrees (b2 ≡ false) (length {A = Frame} [] < l2) (c2 ≡ false) (cond (c1 && big) (Stop Large) (at (Dotted t) [])) (cond (c2 && big) (Stop Large) (at (Dotted t) []))
      go true true big w e = same refl
      go true false true w e = large t refl e (λ f. refl)
      go true false false w e = same refl
      go false true big w e = absurd (let clash : false ≡ true = w refl in cc)
      go false false big w e = same refl
  after_agrees (InList xs ∷ fs) t b = same refl
  after_agrees (InTail xs ∷ fs) t b = same refl
  after_agrees (InTuple xs ∷ fs) t b = same refl
  after_agrees (InKey ps ∷ fs) t b = same refl
  after_agrees (InValue ps k ∷ fs) t b = same refl
  after_agrees (InModule ∷ fs) t b = same refl
  after_agrees (InName m ∷ fs) t b = same refl
  after_agrees (InArity m f ∷ fs) t b = same refl
  after_agrees (InOpening m f z ∷ fs) t b = same refl
  after_agrees (InCaptured m f z env ∷ fs) t b = same refl
  after_agrees (InClosing m f z env ∷ fs) t b = same refl
  after_agrees (InBinary begun bytes counted ∷ fs) t b = same refl
  after_agrees (InReference ∷ fs) t b = same refl
  after_agrees (InReferenceName ∷ fs) t b = same refl

  sharp_agrees : (count : ℕ) (fs : List Frame) (b : ℕ) → Agrees (b2 ≡ false) (length fs < l2) (s2 ≡ false) (step_sharp (make mode b1 l1 s1) fs count b) (step_sharp (make mode b2 l2 s2) fs count b)
  unfolding step_sharp
  sharp_agrees zero fs b = agrees_cond (eqb b 123) _ _ _ _ (opened_agrees (InKey []) fs) (same refl)
  sharp_agrees (suc zero) fs b = same refl
  sharp_agrees (suc (suc zero)) fs b = same refl
  sharp_agrees (suc (suc (suc count))) fs b = agrees_cond (eqb b 123) _ _ _ _ (opened_agrees InModule fs) (same refl)

  mark_agrees : (here : Place) (fs : List Frame) (p b : ℕ) → Agrees (b2 ≡ false) (length fs < l2) (s2 ≡ false) (step_mark (make mode b1 l1 s1) here fs p b) (step_mark (make mode b2 l2 s2) here fs p b)
  unfolding step_mark
  mark_agrees Before fs p b = before_agrees fs p b
  mark_agrees (After t) fs p b = after_agrees fs t b
  mark_agrees (AfterName n) fs p b = same refl
  mark_agrees (AfterArity z) fs p b = same refl
  mark_agrees (AfterByte n) fs p b = same refl
  mark_agrees (AfterText cs) fs p b = same refl
  mark_agrees AfterSegment fs p b = same refl
  mark_agrees (Minus first) fs p b = same refl
  mark_agrees (Digits first neg m) fs p b = same refl
  mark_agrees (Word n) fs p b = same refl
  mark_agrees (Quote q inner) fs p b = same refl
  mark_agrees Angle fs p b = same refl
  mark_agrees (Sharp n) fs p b = same refl
  mark_agrees (Arrow k) fs p b = same refl
  mark_agrees Close fs p b = same refl
  mark_agrees (Dotted t) fs p b = same refl
  mark_agrees (Point z) fs p b = same refl
  mark_agrees Fraction fs p b = same refl
  mark_agrees Mark fs p b = same refl
  mark_agrees Signed fs p b = same refl
  mark_agrees Exponent fs p b = same refl
  mark_agrees SizeMark fs p b = same refl
  mark_agrees Size fs p b = same refl
  mark_agrees UtfMark fs p b = same refl
  mark_agrees (Utf n) fs p b = same refl
  mark_agrees Fun fs p b = agrees_cond (is_ascii_lowercase b || eqb b 39) _ _ _ _ (same refl) (after_agrees fs (tree.Atom (codes "fun")) b)
  mark_agrees CountMark fs p b = same refl
  mark_agrees Count fs p b = same refl

  between_agrees : (here : Place) (fs : List Frame) (p b : ℕ) → Agrees (b2 ≡ false) (length fs < l2) (s2 ≡ false) (step_between (make mode b1 l1 s1) here fs p b) (step_between (make mode b2 l2 s2) here fs p b)
  unfolding step_between
  between_agrees here fs p b = agrees_cond (is_space b) _ _ _ _ (same refl) (agrees_cond (eqb b 37) _ _ _ _ (same refl) (mark_agrees here fs p b))

  digits_agree : (fs : List Frame) (first : ℕ) (neg : Bool) (m p b : ℕ) → Agrees (b2 ≡ false) (length fs < l2) (s2 ≡ false) (step_digits (make mode b1 l1 s1) fs (first, neg, m) p b) (step_digits (make mode b2 l2 s2) fs (first, neg, m) p b)
  unfolding step_digits
  digits_agree fs first neg m p b =
      agrees_cond (is_ascii_digit b) _ _ _ _ (digit_agrees fs fs first neg (m * 10 + digit_of b))
      (agrees_cond (eqb b 46 && takes_fraction (record { mode = mode; bounded = b1 }) fs) _ _ _ _ (same refl) (between_agrees (integer_ended fs neg m) fs p b))

  word_agrees : (fs : List Frame) (name : List ℕ) (p b : ℕ) → Agrees (b2 ≡ false) (length fs < l2) (s2 ≡ false) (step_word (make mode b1 l1 s1) fs name p b) (step_word (make mode b2 l2 s2) fs name p b)
  unfolding step_word
  word_agrees fs name p b = agrees_cond (is_word_byte b) _ _ _ _ (same refl) (between_agrees (word_ended (record { mode = mode; bounded = b1 }) fs name) fs p b)

  more_agrees : (here next : Place) (fs : List Frame) (p b : ℕ) → Agrees (b2 ≡ false) (length fs < l2) (s2 ≡ false) (more_digits (make mode b1 l1 s1) here next fs (p, b)) (more_digits (make mode b2 l2 s2) here next fs (p, b))
  more_agrees here next fs p b = agrees_cond (is_ascii_digit b) _ _ _ _ (same refl) (between_agrees next fs p b)

  place_agrees : (here : Place) (fs : List Frame) (p b : ℕ) → Agrees (b2 ≡ false) (length fs < l2) (s2 ≡ false) (step_place (make mode b1 l1 s1) here fs p b) (step_place (make mode b2 l2 s2) here fs p b)
  unfolding step_place
  place_agrees (Minus first) fs p b = agrees_cond (is_ascii_digit b) _ _ _ _ (digit_agrees fs fs first true (digit_of b)) (same refl)
  place_agrees (Digits first neg m) fs p b = digits_agree fs first neg m p b
  place_agrees (Word n) fs p b = word_agrees fs n p b
  place_agrees (Quote q inner) fs p b = same refl
  place_agrees Angle fs p b = same refl
  place_agrees (Sharp n) fs p b = sharp_agrees n fs b
  place_agrees (Arrow k) fs p b = same refl
  place_agrees Close fs p b = same refl
  place_agrees (Dotted t) fs p b = same refl
  place_agrees (Point z) fs p b = same refl
  place_agrees Fraction fs p b = agrees_cond (is_exponent_mark b) _ _ _ _ (same refl) (more_agrees Fraction (After unsupported) fs p b)
  place_agrees Mark fs p b = same refl
  place_agrees Signed fs p b = same refl
  place_agrees Exponent fs p b = more_agrees Exponent (After unsupported) fs p b
  place_agrees Size fs p b = more_agrees Size AfterSegment fs p b
  place_agrees (Utf n) fs p b = same refl
  place_agrees Count fs p b = more_agrees Count (After unsupported) fs p b
  place_agrees Before fs p b = between_agrees Before fs p b
  place_agrees (After t) fs p b = between_agrees (After t) fs p b
  place_agrees (AfterName n) fs p b = between_agrees (AfterName n) fs p b
  place_agrees (AfterArity z) fs p b = between_agrees (AfterArity z) fs p b
  place_agrees (AfterByte n) fs p b = between_agrees (AfterByte n) fs p b
  place_agrees (AfterText cs) fs p b = between_agrees (AfterText cs) fs p b
  place_agrees AfterSegment fs p b = between_agrees AfterSegment fs p b
  place_agrees SizeMark fs p b = between_agrees SizeMark fs p b
  place_agrees UtfMark fs p b = between_agrees UtfMark fs p b
  place_agrees Fun fs p b = between_agrees Fun fs p b
  place_agrees CountMark fs p b = between_agrees CountMark fs p b

  pub step_agrees : (s : State) (p b : ℕ) → Agrees (b2 ≡ false) (length s.frames < l2) (s2 ≡ false) (step (make mode b1 l1 s1) s p b) (step (make mode b2 l2 s2) s p b)
  unfolding step
  step_agrees s p b = agrees_cond s.comment _ _ _ _ (agrees_cond (eqb b 10) _ _ _ _ (same refl) (same refl)) (place_agrees s.place s.frames p b)

  -- ---- whole readings

  -- the first reading halts at a limit
  abbrev pub AtLimit : Reading → Type 0
  AtLimit r = ((first q : ℕ) × (r ≡ Halted (Number first) q)) ⊎ (((q : ℕ) × (r ≡ Halted Deep q)) ⊎ ((q : ℕ) × (r ≡ Halted Large q)))

  pub reads_agree : (text : List ℕ) (s : State) (p : ℕ) → (read_on (make mode b1 l1 s1) s p text ≡ read_on (make mode b2 l2 s2) s p text) ⊎ AtLimit (read_on (make mode b1 l1 s1) s p text)
  reads_agree [] s p = inl (at_the_end (make mode b1 l1 s1) s p ∙ sym (at_the_end (make mode b2 l2 s2) s p))
  reads_agree (b ∷ text) s p = go (step (make mode b1 l1 s1) s p b) refl (step_agrees s p b) (λ next. reads_agree text next (suc p))
    where
      halts : (halt : Halt) → step (make mode b1 l1 s1) s p b ≡ Stop halt → read_on (make mode b1 l1 s1) s p (b ∷ text) ≡ Halted halt p
      halts halt e = one_step (make mode b1 l1 s1) s p b text (Stop halt) e

      both : (st : Step) → step (make mode b1 l1 s1) s p b ≡ st → step (make mode b2 l2 s2) s p b ≡ st
          → ((next : State) → (read_on (make mode b1 l1 s1) next (suc p) text ≡ read_on (make mode b2 l2 s2) next (suc p) text) ⊎ AtLimit (read_on (make mode b1 l1 s1) next (suc p) text))
          → (read_on (make mode b1 l1 s1) s p (b ∷ text) ≡ read_on (make mode b2 l2 s2) s p (b ∷ text)) ⊎ AtLimit (read_on (make mode b1 l1 s1) s p (b ∷ text))
      both (Go next) e f more = on (more next)
        where
          one : read_on (make mode b1 l1 s1) s p (b ∷ text) ≡ read_on (make mode b1 l1 s1) next (suc p) text
          one = one_step (make mode b1 l1 s1) s p b text (Go next) e

          two : read_on (make mode b2 l2 s2) s p (b ∷ text) ≡ read_on (make mode b2 l2 s2) next (suc p) text
          two = one_step (make mode b2 l2 s2) s p b text (Go next) f

          on : (read_on (make mode b1 l1 s1) next (suc p) text ≡ read_on (make mode b2 l2 s2) next (suc p) text) ⊎ AtLimit (read_on (make mode b1 l1 s1) next (suc p) text)
              → (read_on (make mode b1 l1 s1) s p (b ∷ text) ≡ read_on (make mode b2 l2 s2) s p (b ∷ text)) ⊎ AtLimit (read_on (make mode b1 l1 s1) s p (b ∷ text))
          on (inl h) = inl (one ∙ (h ∙ sym two))
          on (inr h) = inr (subst AtLimit (sym one) h)
      both (Done t) e f more = inl (one_step (make mode b1 l1 s1) s p b text (Done t) e ∙ sym (one_step (make mode b2 l2 s2) s p b text (Done t) f))
      both (Stop halt) e f more = inl (one_step (make mode b1 l1 s1) s p b text (Stop halt) e ∙ sym (one_step (make mode b2 l2 s2) s p b text (Stop halt) f))

      go : (st : Step) → step (make mode b1 l1 s1) s p b ≡ st → Agrees (b2 ≡ false) (length s.frames < l2) (s2 ≡ false) (step (make mode b1 l1 s1) s p b) (step (make mode b2 l2 s2) s p b)
          → ((next : State) → (read_on (make mode b1 l1 s1) next (suc p) text ≡ read_on (make mode b2 l2 s2) next (suc p) text) ⊎ AtLimit (read_on (make mode b1 l1 s1) next (suc p) text))
          → (read_on (make mode b1 l1 s1) s p (b ∷ text) ≡ read_on (make mode b2 l2 s2) s p (b ∷ text)) ⊎ AtLimit (read_on (make mode b1 l1 s1) s p (b ∷ text))
      go st e (same h) more = both st e (sym h ∙ e) more
      go st e (number first h on) more = inr (inl (first, p, halts (Number first) h))
      go st e (level h on) more = inr (inr (inl (p, halts Deep h)))
      go st e (large t h big on) more = inr (inr (inr (p, halts Large h)))

  -- ---- the way to a state

  same_go : (s next : State) (p b : ℕ) → step (make mode b1 l1 s1) s p b ≡ Go next
      → Agrees (b2 ≡ false) (length s.frames < l2) (s2 ≡ false) (step (make mode b1 l1 s1) s p b) (step (make mode b2 l2 s2) s p b) → step (make mode b2 l2 s2) s p b ≡ Go next
  same_go s next p b e (same f) = sym f ∙ e
  same_go s next p b e (number first f on) = absurd (let clash : Go next ≡ Stop (Number first) = sym e ∙ f in cc)
  same_go s next p b e (level f on) = absurd (let clash : Go next ≡ Stop Deep = sym e ∙ f in cc)
  same_go s next p b e (large t f big on) = absurd (let clash : Go next ≡ Stop Large = sym e ∙ f in cc)

  pub wider_path : (reached : State) (text : List ℕ) (s : State) (p : ℕ) → Path (make mode b1 l1 s1) reached s p text → Path (make mode b2 l2 s2) reached s p text
  wider_path reached [] s p h = h
  wider_path reached (b ∷ text) s p h = (h.0, same_go s h.0 p b h.1 (step_agrees s p b), wider_path reached text h.0 (suc p) h.2)
