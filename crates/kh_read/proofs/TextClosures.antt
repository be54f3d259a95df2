-- Reading closures.
use Rattle.std.proofs.Common.{◌≡◌, ◌≤◌, ◌<◌, ℕ, zero, suc, ◌+◌, Bool, true, false, not, ◌&&◌, ◌||◌, cond, eqb, ltb, List, [], ◌∷◌, ◌++◌, length, inl, inr, refl, sym, ap, subst, ◌∙◌, arith, append_assoc, ℤ, pos}
use Rattle.std.specs.Prelude.{◌⊎◌, codes}
use Rattle.std.specs.Char.{is_ascii_digit}
use Rattle.std.proofs.lemmas.Bool.{eqb-true, not-true}
use Rattle.std.proofs.lemmas.List.{append-nil}
use Rattle.kh_term.specs.declared.tree.TermTree.{TermTree}
use Rattle.kh_term.specs.declared.tree.TermTree.TheVariants as tree
use Rattle.kh_term.specs.WellFormed.{fits_128}
use Rattle.kh_text_defs.specs.Blanks.{no_blank, Wide, Commas, Elements, begins_no_blank}
use Rattle.kh_text_defs.specs.Spelled.{Rules, allows, SpellsInteger, SpellsCaptured, is_arity, closure_end, closure_of, SpellsDeep, closure, Spells}
use Rattle.kh_text_defs.specs.Tokens.{IsInteger, SpellsAtom}
use Rattle.kh_read.specs.State.{Frame, InModule, InName, InArity, InOpening, InCaptured, InClosing, Place, Before, After, AfterName, AfterArity, Digits, State, Setting, Halt, Syntax, Step, Go, Stop, Reading, Cut}
use Rattle.kh_read.specs.Steps.{at, fault, is_listing, signed, is_byte, takes_name, takes_arity, takes_segment, takes_fraction, fits_here, integer_ended, begin_name, begin_integer, begin_term, close_closure, step_before, step_after, step_after_name, step_after_arity, step_digits, step_mark, step_between, step_place, read_on}
use Rattle.kh_read.proofs.TextCore.{spot, byte_goes, byte_stops, same_step, IsBetween, is_blank_byte, at_the_end}
use Rattle.kh_read.proofs.TextReads.{Reads, whole, part, halted, any, reads_as, reads_then, wide, Then, Sample, Marked, only_mark, Run, Body, bare, filled}
use Rattle.kh_read.proofs.TextQuotes.{reads_byte}
use Rattle.kh_read.proofs.TextDigits.{no_digit, IntegerOf, in_digits, integer}
use Rattle.kh_read.proofs.TextNames.{named}
use Rattle.kh_read.proofs.TextBrackets.{deep, zero_text, mark_step, between_before, before_step, after_step, before_cut, after_cut, Ready, behind_term, TermReads, Bracket, bracket, Closing, closing_sample, reads_closing}

-- ---- names

pub between_name : (σ : Setting) (name : List ℕ) (fs : List Frame) → IsBetween σ (AfterName name) fs
unfolding step_place
between_name σ name fs = record { steps = λ p b. refl; ends = λ p. refl }

pub name_step : (σ : Setting) (name : List ℕ) (fs : List Frame) (p b : ℕ) → is_blank_byte b ≡ false → step_place σ (AfterName name) fs p b ≡ step_after_name fs name b
unfolding step_mark
name_step σ name fs p b e = mark_step σ (AfterName name) fs p b (between_name σ name fs) e

pub an_atom : SpellsAtom (97 ∷ []) (97 ∷ [])
an_atom = (inl (refl, refl), omega arith)

pub wide_atom : Wide SpellsAtom (97 ∷ []) (97 ∷ [])
wide_atom = record { before = []; inside = 97 ∷ []; behind = []; blank_before = no_blank; stands = an_atom; blank_behind = no_blank; parts = refl }

pub names : (σ : Setting) (fs : List Frame) → takes_name fs ≡ true → ((p b : ℕ) → step_before σ fs p b ≡ begin_name fs b)
    → (p : ℕ) (text : List ℕ) → Reads σ begins_no_blank (Wide SpellsAtom) (λ name. spot (AfterName name) fs) p text (read_on σ (spot Before fs) p text)
names σ fs takes begins =
    wide σ SpellsAtom fs AfterName (λ name. fs) (between_before σ fs) (λ name. between_name σ name fs) (97 ∷ []) (97 ∷ []) an_atom
    (λ b rest q mark. named σ fs takes Before q b rest (before_step σ fs q b mark ∙ begins q b))

-- ---- the arity

pub between_arity : (σ : Setting) (z : ℤ) (fs : List Frame) → IsBetween σ (AfterArity z) fs
unfolding step_place
between_arity σ z fs = record { steps = λ p b. refl; ends = λ p. refl }

pub arity_step : (σ : Setting) (z : ℤ) (fs : List Frame) (p b : ℕ) → is_blank_byte b ≡ false → step_place σ (AfterArity z) fs p b ≡ step_after_arity fs z b
unfolding step_mark
arity_step σ z fs p b e = mark_step σ (AfterArity z) fs p b (between_arity σ z fs) e

allows_zero : (rules : Rules) → allows rules (pos 0) ≡ true
allows_zero rules = go rules.bounded
  where
    go : (b : Bool) → (not b || fits_128 (pos 0)) ≡ true
    go true = refl
    go false = refl

zero_integer : (rules : Rules) → SpellsInteger rules (48 ∷ []) (pos 0)
zero_integer rules = ((48 ∷ [], refl, inl (refl, refl)), allows_zero rules)

module _ (σ : Setting) (m f : List ℕ) (fs : List Frame) where
  abbrev at_arity : List Frame
  at_arity = InArity m f ∷ fs

  no_fraction : (eqb_ : Bool) → (eqb_ && takes_fraction σ.rules (InArity m f ∷ fs)) ≡ false
  no_fraction true = go (is_listing σ.rules.mode)
    where
      go : (b : Bool) → (true && (b && true && false)) ≡ false
      go true = refl
      go false = refl
  no_fraction false = refl

  pub arity_off : (first q b : ℕ) (x : Bool × ℕ) → is_ascii_digit b ≡ false → step_place σ (Digits first x.0 x.1) (InArity m f ∷ fs) q b ≡ step_place σ (AfterArity (signed x.0 x.1)) (InArity m f ∷ fs) q b
  unfolding step_place step_digits
  arity_off first q b x e = rw (e, no_fraction (eqb b 46)) refl

  arity_integer : (u : List ℕ) (x : Bool × ℕ) → IntegerOf σ.rules (InArity m f ∷ fs) u x → SpellsInteger σ.rules u (signed x.0 x.1)
  arity_integer u x h = (h.is, h.fits)

  arity_end : (first p : ℕ) (text : List ℕ) (start : Reading) → Reads σ no_digit (IntegerOf σ.rules (InArity m f ∷ fs)) (in_digits σ (InArity m f ∷ fs) first) p text start
      → Reads σ any (SpellsInteger σ.rules) (λ z. spot (AfterArity z) (InArity m f ∷ fs)) p text start
  arity_end first p text start (whole u [] x q parts is good e place) =
      part [] (signed x.0 x.1) (e ∙ at_the_end σ (spot (Digits first x.0 x.1) (InArity m f ∷ fs)) q)
      (subst (λ (w : List ℕ). SpellsInteger σ.rules w (signed x.0 x.1)) (sym (append-nil text ∙ (parts ∙ append-nil u))) (arity_integer u x is))
  arity_end first p text start (whole u (b ∷ rest) x q parts is good e place) =
      whole u (b ∷ rest) (signed x.0 x.1) q parts (arity_integer u x is) refl
      (e ∙ same_step σ (Digits first x.0 x.1) (AfterArity (signed x.0 x.1)) (InArity m f ∷ fs) (InArity m f ∷ fs) q b rest (arity_off first q b x (not-true _ good))) place
  arity_end first p text start (part more x e is) = part more (signed x.0 x.1) e (arity_integer (text ++ more) x is)
  arity_end first p text start (halted halt q e) = halted halt q e

  pub arity_begin : (p b : ℕ) → step_before σ (InArity m f ∷ fs) p b ≡ begin_integer σ.rules (InArity m f ∷ fs) p b
  unfolding step_before
  arity_begin p b = refl

  pub arities : (p : ℕ) (text : List ℕ) → Reads σ begins_no_blank (Wide (SpellsInteger σ.rules)) (λ z. spot (AfterArity z) (InArity m f ∷ fs)) p text (read_on σ (spot Before (InArity m f ∷ fs)) p text)
  arities =
      wide σ (SpellsInteger σ.rules) (InArity m f ∷ fs) AfterArity (λ z. InArity m f ∷ fs) (between_before σ (InArity m f ∷ fs)) (λ z. between_arity σ z (InArity m f ∷ fs))
      (48 ∷ []) (pos 0) (zero_integer σ.rules)
      (λ b rest q mark. arity_end q q (b ∷ rest) _ (integer σ (InArity m f ∷ fs) q b rest Before (before_step σ (InArity m f ∷ fs) q b mark ∙ arity_begin q b)))

-- ---- captured values, and the end

module _ (σ : Setting) (l : ℕ) (fs : List Frame) (reads : TermReads σ l) (ready : Ready σ fs (suc l)) where
  module _ (m f : List ℕ) (z : ℤ) where
    pub captured_begin : (xs : List TermTree) (x : TermTree) (p b : ℕ) → step_before σ (InCaptured m f z (xs ++ x ∷ []) ∷ fs) p b ≡ begin_term σ (InCaptured m f z (xs ++ x ∷ []) ∷ fs) p b
    unfolding step_before
    captured_begin [] x p b = refl
    captured_begin (y ∷ ys) x p b = refl

    pub captured_first : (p b : ℕ) → eqb b 93 ≡ false → step_before σ (InCaptured m f z [] ∷ fs) p b ≡ begin_term σ (InCaptured m f z [] ∷ fs) p b
    unfolding step_before
    captured_first p b e = rw e refl

    pub captured_empty : (q : ℕ) → step_place σ Before (InCaptured m f z [] ∷ fs) q 93 ≡ at Before (InClosing m f z [] ∷ fs)
    unfolding step_place step_between step_mark step_before
    captured_empty q = refl

    pub captured_comma : (xs : List TermTree) (t : TermTree) (q : ℕ) → step_place σ (After t) (InCaptured m f z xs ∷ fs) q 44 ≡ at Before (InCaptured m f z (xs ++ t ∷ []) ∷ fs)
    unfolding step_place step_between step_mark step_after
    captured_comma xs t q = refl

    pub captured_close : (xs : List TermTree) (t : TermTree) (b : ℕ) → eqb b 44 ≡ false → eqb b 93 ≡ true → step_after σ.sized (InCaptured m f z xs ∷ fs) t b ≡ at Before (InClosing m f z (xs ++ t ∷ []) ∷ fs)
    unfolding step_after
    captured_close xs t b e g = rw (e, g) refl

    pub captured_fault : (xs : List TermTree) (t : TermTree) (b : ℕ) → eqb b 44 ≡ false → eqb b 93 ≡ false → step_after σ.sized (InCaptured m f z xs ∷ fs) t b ≡ fault
    unfolding step_after
    captured_fault xs t b e g = rw (e, g) refl

    abbrev to_end_of : List TermTree → State
    to_end_of env = spot Before (InClosing m f z env ∷ fs)

    pub captured_bracket : Bracket σ l fs reads (InCaptured m f z) (Wide (Spells σ.rules l)) (λ xs t. spot (After t) (InCaptured m f z xs ∷ fs)) (λ xs. Closing 93 xs) 93 [] to_end_of
    captured_bracket = record {
      ready = λ xs. record { room = omega (arith, ready.room); segment = refl; arity = refl; name = refl };
      begin_some = captured_begin;
      begin_none = captured_first;
      close_none = λ q rest. byte_goes σ Before (InCaptured m f z [] ∷ fs) q 93 rest _ (captured_empty q);
      item_from = λ xs p text start h. h;
      comma = λ xs x q rest. byte_goes σ (After x) (InCaptured m f z xs ∷ fs) q 44 rest _ (captured_comma xs x q);
      finish = λ xs x q b rest no_comma mark. reads_closing σ 93 (xs ++ x ∷ []) to_end_of (After x) (InCaptured m f z xs ∷ fs) q b rest _
          (λ e. after_step σ x (InCaptured m f z xs ∷ fs) q b mark ∙ captured_close xs x b no_comma e) refl (λ e. after_step σ x (InCaptured m f z xs ∷ fs) q b mark ∙ captured_fault xs x b no_comma e);
      ends = λ xs x q. after_cut σ x (InCaptured m f z xs ∷ fs) q;
      sample = λ xs. closing_sample 93 xs;
    }

    pub captured_text : (text : List ℕ) (env : List TermTree) → Body (Wide (Spells σ.rules l)) (λ xs. Closing 93 xs) 93 [] text env → SpellsCaptured (Spells σ.rules l) (91 ∷ text) env
    captured_text text env (bare blank blanks parts same) = (blank, inl (blanks, same), ap (λ (w : List ℕ). 91 ∷ w) parts)
    captured_text text env (filled run) = (
      run.inside,
      inr (subst (λ (ts : List TermTree). Commas (Wide (Spells σ.rules l)) run.inside ts) (sym run.ends.same) run.commas),
      ap (λ (w : List ℕ). 91 ∷ w) (run.parts ∙ ap (λ (w : List ℕ). run.inside ++ w) run.ends.is),
    )

    pub opening_goes : (p b : ℕ) → eqb b 91 ≡ true → step_before σ (InOpening m f z ∷ fs) p b ≡ at Before (InCaptured m f z [] ∷ fs)
    unfolding step_before
    opening_goes p b e = rw e refl

    opening_fault : (p b : ℕ) → eqb b 91 ≡ false → step_before σ (InOpening m f z ∷ fs) p b ≡ fault
    unfolding step_before
    opening_fault p b e = rw e refl

    pub captured_from : (b : ℕ) (rest : List ℕ) (q : ℕ) → is_blank_byte b ≡ false → Reads σ any (SpellsCaptured (Spells σ.rules l)) to_end_of q (b ∷ rest) (read_on σ (spot Before (InOpening m f z ∷ fs)) q (b ∷ rest))
    captured_from b rest q mark = go (eqb b 91) refl
      where
        go : (t : Bool) → eqb b 91 ≡ t → Reads σ any (SpellsCaptured (Spells σ.rules l)) to_end_of q (b ∷ rest) (read_on σ (spot Before (InOpening m f z ∷ fs)) q (b ∷ rest))
        go true e =
            reads_byte σ any (Body (Wide (Spells σ.rules l)) (λ xs. Closing 93 xs) 93 []) (SpellsCaptured (Spells σ.rules l)) to_end_of to_end_of (λ env. env) q b rest _ _
            (λ u env r. subst (λ (k : ℕ). SpellsCaptured (Spells σ.rules l) (k ∷ u) env) (sym (eqb-true b 91 e)) (captured_text u env r)) (λ env. refl)
            (byte_goes σ Before (InOpening m f z ∷ fs) q b rest _ (before_step σ (InOpening m f z ∷ fs) q b mark ∙ opening_goes q b e))
            (bracket σ l fs reads (InCaptured m f z) (Wide (Spells σ.rules l)) (λ xs t. spot (After t) (InCaptured m f z xs ∷ fs)) (λ xs. Closing 93 xs) 93 [] to_end_of captured_bracket (suc q) rest)
        go false e = halted Syntax q (byte_stops σ Before (InOpening m f z ∷ fs) q b rest _ (before_step σ (InOpening m f z ∷ fs) q b mark ∙ opening_fault q b e))

    all_captured : (p : ℕ) (text : List ℕ) → Reads σ begins_no_blank (Wide (SpellsCaptured (Spells σ.rules l))) to_end_of p text (read_on σ (spot Before (InOpening m f z ∷ fs)) p text)
    all_captured =
        wide σ (SpellsCaptured (Spells σ.rules l)) (InOpening m f z ∷ fs) (λ env. Before) (λ env. InClosing m f z env ∷ fs) (between_before σ (InOpening m f z ∷ fs)) (λ env. between_before σ (InClosing m f z env ∷ fs))
        (91 ∷ 93 ∷ []) [] ([], inl (no_blank, refl), refl) captured_from

    abbrev EndText : List TermTree → List ℕ → TermTree → Type 0
    EndText env = Closing (closure_end z env) (closure_of m f z env)

    pub close_good : (env : List TermTree) (p b : ℕ) → is_arity z (length env) ≡ true → eqb b 125 ≡ true → step_before σ (InClosing m f z env ∷ fs) p b ≡ at (After (closure_of m f z env)) fs
    unfolding step_before
    close_good env p b e g = rw (e, g) refl

    close_good_fault : (env : List TermTree) (p b : ℕ) → is_arity z (length env) ≡ true → eqb b 125 ≡ false → step_before σ (InClosing m f z env ∷ fs) p b ≡ fault
    unfolding step_before
    close_good_fault env p b e g = rw (e, g) refl

    pub close_bad : (env : List TermTree) (p b : ℕ) → is_arity z (length env) ≡ false → eqb b 256 ≡ true → step_before σ (InClosing m f z env ∷ fs) p b ≡ at (After (closure_of m f z env)) fs
    unfolding step_before
    close_bad env p b e g = rw (e, g) refl

    close_bad_fault : (env : List TermTree) (p b : ℕ) → is_arity z (length env) ≡ false → eqb b 256 ≡ false → step_before σ (InClosing m f z env ∷ fs) p b ≡ fault
    unfolding step_before
    close_bad_fault env p b e g = rw (e, g) refl

    ends_closure : (env : List TermTree) (q b : ℕ) (rest : List ℕ) → is_blank_byte b ≡ false → Reads σ any (EndText env) (behind_term fs) q (b ∷ rest) (read_on σ (to_end_of env) q (b ∷ rest))
    ends_closure env q b rest mark = go (is_arity z (length env)) refl
      where
        go : (a : Bool) → is_arity z (length env) ≡ a → Reads σ any (EndText env) (behind_term fs) q (b ∷ rest) (read_on σ (to_end_of env) q (b ∷ rest))
        go true e =
            subst (λ (k : ℕ). Reads σ any (Closing k (closure_of m f z env)) (behind_term fs) q (b ∷ rest) (read_on σ (spot Before (InClosing m f z env ∷ fs)) q (b ∷ rest))) (sym (ap (λ (a : Bool). cond a 125 256) e))
            (reads_closing σ 125 (closure_of m f z env) (behind_term fs) Before (InClosing m f z env ∷ fs) q b rest _
            (λ g. before_step σ (InClosing m f z env ∷ fs) q b mark ∙ close_good env q b e g) refl (λ g. before_step σ (InClosing m f z env ∷ fs) q b mark ∙ close_good_fault env q b e g))
        go false e =
            subst (λ (k : ℕ). Reads σ any (Closing k (closure_of m f z env)) (behind_term fs) q (b ∷ rest) (read_on σ (spot Before (InClosing m f z env ∷ fs)) q (b ∷ rest))) (sym (ap (λ (a : Bool). cond a 125 256) e))
            (reads_closing σ 256 (closure_of m f z env) (behind_term fs) Before (InClosing m f z env ∷ fs) q b rest _
            (λ g. before_step σ (InClosing m f z env ∷ fs) q b mark ∙ close_bad env q b e g) refl (λ g. before_step σ (InClosing m f z env ∷ fs) q b mark ∙ close_bad_fault env q b e g))

    -- behind the arity's comma
    abbrev CapturedText : List ℕ → TermTree → Type 0
    CapturedText = Then (Wide (SpellsCaptured (Spells σ.rules l))) EndText

    pub captured_then : (p : ℕ) (text : List ℕ) → Reads σ any CapturedText (behind_term fs) p text (read_on σ (spot Before (InOpening m f z ∷ fs)) p text)
    captured_then p text =
        reads_then σ any (Wide (SpellsCaptured (Spells σ.rules l))) EndText to_end_of (behind_term fs) (λ env q. before_cut σ (InClosing m f z env ∷ fs) q)
        (λ env. closing_sample (closure_end z env) (closure_of m f z env)) ends_closure p text _ (all_captured p text)

    pub captured_sample : Sample CapturedText
    captured_sample = record {
      text = 91 ∷ 93 ∷ closure_end z [] ∷ [];
      value = closure_of m f z [];
      stands = record {
        first = 91 ∷ 93 ∷ [];
        value = [];
        second = closure_end z [] ∷ [];
        is_first = record { before = []; inside = 91 ∷ 93 ∷ []; behind = []; blank_before = no_blank; stands = ([], inl (no_blank, refl), refl); blank_behind = no_blank; parts = refl };
        is_second = record { is = refl; same = refl };
        parts = refl;
      };
    }

  -- ---- one after another

  module _ (m f : List ℕ) where
    pub arity_comma : (z : ℤ) (b : ℕ) → eqb b 44 ≡ true → step_after_arity (InArity m f ∷ fs) z b ≡ at Before (InOpening m f z ∷ fs)
    unfolding step_after_arity
    arity_comma z b e = rw e refl

    arity_fault : (z : ℤ) (b : ℕ) → eqb b 44 ≡ false → step_after_arity (InArity m f ∷ fs) z b ≡ fault
    unfolding step_after_arity
    arity_fault z b e = rw e refl

    abbrev ArityText : List ℕ → TermTree → Type 0
    ArityText = Then (Wide (SpellsInteger σ.rules)) (λ z. Marked 44 (CapturedText m f z))

    arity_then : (p : ℕ) (text : List ℕ) → Reads σ any ArityText (behind_term fs) p text (read_on σ (spot Before (InArity m f ∷ fs)) p text)
    arity_then p text =
        reads_then σ any (Wide (SpellsInteger σ.rules)) (λ z. Marked 44 (CapturedText m f z)) (λ z. spot (AfterArity z) (InArity m f ∷ fs)) (behind_term fs)
        (λ z q. at_the_end σ (spot (AfterArity z) (InArity m f ∷ fs)) q)
        (λ z. let s = captured_sample m f z in record { text = 44 ∷ s.text; value = s.value; stands = record { behind = s.text; stands = s.stands; parts = refl } })
        (λ z q b rest mark. only_mark σ any 44 (CapturedText m f z) (behind_term fs) q b rest _ _ Syntax
        (λ e. byte_goes σ (AfterArity z) (InArity m f ∷ fs) q b rest _ (arity_step σ z (InArity m f ∷ fs) q b mark ∙ arity_comma z b e))
        (λ e. byte_stops σ (AfterArity z) (InArity m f ∷ fs) q b rest _ (arity_step σ z (InArity m f ∷ fs) q b mark ∙ arity_fault z b e))
        (captured_then m f z (suc q) rest))
        p text _ (arities σ m f fs p text)

    arity_sample : Sample ArityText
    arity_sample = let s = captured_sample m f (pos 0) in record {
      text = 48 ∷ 44 ∷ s.text;
      value = s.value;
      stands = record {
        first = 48 ∷ [];
        value = pos 0;
        second = 44 ∷ s.text;
        is_first = record { before = []; inside = 48 ∷ []; behind = []; blank_before = no_blank; stands = zero_integer σ.rules; blank_behind = no_blank; parts = refl };
        is_second = record { behind = s.text; stands = s.stands; parts = refl };
        parts = refl;
      };
    }

  module _ (m : List ℕ) where
    pub name_comma : (f : List ℕ) (b : ℕ) → eqb b 44 ≡ true → step_after_name (InName m ∷ fs) f b ≡ at Before (InArity m f ∷ fs)
    unfolding step_after_name
    name_comma f b e = rw e refl

    name_fault : (f : List ℕ) (b : ℕ) → eqb b 44 ≡ false → step_after_name (InName m ∷ fs) f b ≡ fault
    unfolding step_after_name
    name_fault f b e = rw e refl

    pub name_begin : (p b : ℕ) → step_before σ (InName m ∷ fs) p b ≡ begin_name (InName m ∷ fs) b
    unfolding step_before
    name_begin p b = refl

    abbrev NameText : List ℕ → TermTree → Type 0
    NameText = Then (Wide SpellsAtom) (λ f. Marked 44 (ArityText m f))

    name_then : (p : ℕ) (text : List ℕ) → Reads σ any NameText (behind_term fs) p text (read_on σ (spot Before (InName m ∷ fs)) p text)
    name_then p text =
        reads_then σ any (Wide SpellsAtom) (λ f. Marked 44 (ArityText m f)) (λ f. spot (AfterName f) (InName m ∷ fs)) (behind_term fs)
        (λ f q. at_the_end σ (spot (AfterName f) (InName m ∷ fs)) q)
        (λ f. let s = arity_sample m f in record { text = 44 ∷ s.text; value = s.value; stands = record { behind = s.text; stands = s.stands; parts = refl } })
        (λ f q b rest mark. only_mark σ any 44 (ArityText m f) (behind_term fs) q b rest _ _ Syntax
        (λ e. byte_goes σ (AfterName f) (InName m ∷ fs) q b rest _ (name_step σ f (InName m ∷ fs) q b mark ∙ name_comma f b e))
        (λ e. byte_stops σ (AfterName f) (InName m ∷ fs) q b rest _ (name_step σ f (InName m ∷ fs) q b mark ∙ name_fault f b e))
        (arity_then m f (suc q) rest))
        p text _ (names σ (InName m ∷ fs) refl name_begin p text)

    name_sample : Sample NameText
    name_sample = let s = arity_sample m (97 ∷ []) in record {
      text = 97 ∷ 44 ∷ s.text;
      value = s.value;
      stands = record { first = 97 ∷ []; value = 97 ∷ []; second = 44 ∷ s.text; is_first = wide_atom; is_second = record { behind = s.text; stands = s.stands; parts = refl }; parts = refl };
    }

  pub module_comma : (m : List ℕ) (b : ℕ) → eqb b 44 ≡ true → step_after_name (InModule ∷ fs) m b ≡ at Before (InName m ∷ fs)
  unfolding step_after_name
  module_comma m b e = rw e refl

  module_fault : (m : List ℕ) (b : ℕ) → eqb b 44 ≡ false → step_after_name (InModule ∷ fs) m b ≡ fault
  unfolding step_after_name
  module_fault m b e = rw e refl

  pub module_begin : (p b : ℕ) → step_before σ (InModule ∷ fs) p b ≡ begin_name (InModule ∷ fs) b
  unfolding step_before
  module_begin p b = refl

  abbrev ModuleText : List ℕ → TermTree → Type 0
  ModuleText = Then (Wide SpellsAtom) (λ m. Marked 44 (NameText m))

  closure_text : (text : List ℕ) (t : TermTree) → ModuleText text t → Spells σ.rules (suc l) (codes "#fun{" ++ text) t
  closure_text text t h =
      let a = h.is_second in
      let n = a.stands in
      let b = n.is_second in
      let k = b.stands in
      let c = k.is_second in
      let e = c.stands in
      let p1 = c.parts ∙ ap (λ (w : List ℕ). 44 ∷ w) (e.parts ∙ ap (λ (w : List ℕ). e.first ++ w) e.is_second.is) in
      let p2 = b.parts ∙ ap (λ (w : List ℕ). 44 ∷ w) (k.parts ∙ ap (λ (w : List ℕ). k.first ++ w) p1) in
      let p3 = a.parts ∙ ap (λ (w : List ℕ). 44 ∷ w) (n.parts ∙ ap (λ (w : List ℕ). n.first ++ w) p2) in
      let p4 = ap (λ (w : List ℕ). codes "#fun{" ++ w) (h.parts ∙ ap (λ (w : List ℕ). h.first ++ w) p3) in
      subst (λ (u : TermTree). Spells σ.rules (suc l) (codes "#fun{" ++ text) u) (sym e.is_second.same)
      (deep σ.rules l _ _ (closure (codes "#fun{" ++ text) h.first n.first k.first e.first h.value n.value k.value e.value h.is_first n.is_first k.is_first e.is_first p4))

  pub closures : (p : ℕ) (text : List ℕ) → Reads σ any (λ u t. Spells σ.rules (suc l) (35 ∷ 102 ∷ 117 ∷ 110 ∷ 123 ∷ u) t) (behind_term fs) p text (read_on σ (spot Before (InModule ∷ fs)) p text)
  closures p text =
      reads_as σ any ModuleText (λ u t. Spells σ.rules (suc l) (35 ∷ 102 ∷ 117 ∷ 110 ∷ 123 ∷ u) t) (behind_term fs) (behind_term fs) (λ t. t) p text _ _ closure_text (λ t. refl) refl
      (reads_then σ any (Wide SpellsAtom) (λ m. Marked 44 (NameText m)) (λ m. spot (AfterName m) (InModule ∷ fs)) (behind_term fs)
      (λ m q. at_the_end σ (spot (AfterName m) (InModule ∷ fs)) q)
      (λ m. let s = name_sample m in record { text = 44 ∷ s.text; value = s.value; stands = record { behind = s.text; stands = s.stands; parts = refl } })
      (λ m q b rest mark. only_mark σ any 44 (NameText m) (behind_term fs) q b rest _ _ Syntax
      (λ e. byte_goes σ (AfterName m) (InModule ∷ fs) q b rest _ (name_step σ m (InModule ∷ fs) q b mark ∙ module_comma m b e))
      (λ e. byte_stops σ (AfterName m) (InModule ∷ fs) q b rest _ (name_step σ m (InModule ∷ fs) q b mark ∙ module_fault m b e))
      (name_then m (suc q) rest))
      p text _ (names σ (InModule ∷ fs) refl module_begin p text))

  pub closure_sample : Sample (λ u t. Spells σ.rules (suc l) (35 ∷ 102 ∷ 117 ∷ 110 ∷ 123 ∷ u) t)
  closure_sample = let s = name_sample (97 ∷ []) in record {
    text = 97 ∷ 44 ∷ s.text;
    value = s.value;
    stands = closure_text (97 ∷ 44 ∷ s.text) s.value (record { first = 97 ∷ []; value = 97 ∷ []; second = 44 ∷ s.text; is_first = wide_atom; is_second = record { behind = s.text; stands = s.stands; parts = refl }; parts = refl });
  }
