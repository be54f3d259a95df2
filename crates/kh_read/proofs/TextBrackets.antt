-- Reading what stands in brackets.
use Rattle.std.proofs.Common.{◌≡◌, ◌≤◌, ◌<◌, ℕ, zero, suc, ◌+◌, Bool, true, false, not, ◌&&◌, ◌||◌, cond, eqb, ltb, List, [], ◌∷◌, ◌++◌, length, inl, inr, refl, sym, ap, subst, ◌∙◌, arith, append_assoc, ℤ, pos}
use Rattle.std.specs.Prelude.{◌⊎◌}
use Rattle.std.proofs.lemmas.Bool.{eqb-true, lt-ltb, le-ltb, or_parts}
use Rattle.std.proofs.lemmas.List.{length-append, append-nil}
use Rattle.kh_term.specs.declared.tree.TermTree.{TermTree}
use Rattle.kh_term.specs.declared.tree.TermTree.TheVariants as tree
use Rattle.kh_term.specs.WellFormed.{fits_128}
use Rattle.kh_text_defs.specs.Blanks.{is_space, IsBlank, Wide, begins_no_blank}
use Rattle.kh_text_defs.specs.Spelled.{Rules, allows, SpellsFlat, integer, SpellsDeep, Spells}
use Rattle.kh_text_defs.specs.Tokens.{IsInteger}
use Rattle.kh_read.specs.State.{Frame, Place, Before, After, State, Setting, Halt, Syntax, Step, Go, Stop, Reading, Cut}
use Rattle.kh_read.specs.Steps.{at, fault, takes_name, takes_segment, takes_arity, begin_term, step_before, step_after, step_mark, step_between, step_place, read_on}
use Rattle.kh_read.proofs.TextCore.{spot, byte_goes, byte_stops, IsBetween, is_blank_byte, at_the_end}
use Rattle.kh_read.proofs.TextReads.{Reads, whole, part, halted, any, reads_as, wide, leading, Sample, Run, Loop, run_from, Body, body}

-- ---- what is spelled

pub flat : (rules : Rules) (l : ℕ) (text : List ℕ) (t : TermTree) → SpellsFlat rules text t → Spells rules l text t
unfolding Spells
flat rules zero text t h = h
flat rules (suc l) text t h = inl h

pub deep : (rules : Rules) (l : ℕ) (text : List ℕ) (t : TermTree) → SpellsDeep rules (Spells rules l) text t → Spells rules (suc l) text t
unfolding Spells
deep rules l text t h = inr h

allows_zero : (rules : Rules) → allows rules (pos 0) ≡ true
allows_zero rules = go rules.bounded
  where
    go : (b : Bool) → (not b || fits_128 (pos 0)) ≡ true
    go true = refl
    go false = refl

pub zero_text : (rules : Rules) (l : ℕ) → Spells rules l (48 ∷ []) (tree.Int (pos 0))
zero_text rules l = flat rules l (48 ∷ []) (tree.Int (pos 0)) (integer (48 ∷ []) (pos 0) ((48 ∷ [], refl, inl (refl, refl)), allows_zero rules))

-- ---- places between tokens

pub between_before : (σ : Setting) (fs : List Frame) → IsBetween σ Before fs
unfolding step_place
between_before σ fs = record { steps = λ p b. refl; ends = λ p. refl }

pub between_after : (σ : Setting) (t : TermTree) (fs : List Frame) → IsBetween σ (After t) fs
unfolding step_place
between_after σ t fs = record { steps = λ p b. refl; ends = λ p. refl }

pub mark_step : (σ : Setting) (here : Place) (fs : List Frame) (p b : ℕ) → IsBetween σ here fs → is_blank_byte b ≡ false → step_place σ here fs p b ≡ step_mark σ here fs p b
unfolding step_between
mark_step σ here fs p b between e = let parts = or_parts (is_space b) (eqb b 37) e in between.steps p b ∙ rw (parts.0, parts.1) refl

pub before_step : (σ : Setting) (fs : List Frame) (p b : ℕ) → is_blank_byte b ≡ false → step_place σ Before fs p b ≡ step_before σ fs p b
unfolding step_mark
before_step σ fs p b e = mark_step σ Before fs p b (between_before σ fs) e

pub after_step : (σ : Setting) (t : TermTree) (fs : List Frame) (p b : ℕ) → is_blank_byte b ≡ false → step_place σ (After t) fs p b ≡ step_after σ.sized fs t b
unfolding step_mark
after_step σ t fs p b e = mark_step σ (After t) fs p b (between_after σ t fs) e

pub before_cut : (σ : Setting) (fs : List Frame) (p : ℕ) → read_on σ (spot Before fs) p [] ≡ Cut
before_cut σ fs p = at_the_end σ (spot Before fs) p

pub after_cut : (σ : Setting) (t : TermTree) (fs : List Frame) (p : ℕ) → read_on σ (spot (After t) fs) p [] ≡ Cut
after_cut σ t fs p = at_the_end σ (spot (After t) fs) p

-- ---- terms, with so many levels left

pub record Ready (σ : Setting) (fs : List Frame) (l : ℕ) : Type 0 where
  pub room : length fs + l ≡ σ.levels
  pub segment : takes_segment fs ≡ false
  pub arity : takes_arity fs ≡ false
  pub name : takes_name fs ≡ false

abbrev pub behind_term : List Frame → TermTree → State
behind_term fs t = spot (After t) fs

abbrev pub TermReads : Setting → ℕ → Type 0
TermReads σ l = (fs : List Frame) → Ready σ fs l → (p b : ℕ) (rest : List ℕ) → step_place σ Before fs p b ≡ begin_term σ fs p b
    → Reads σ any (Spells σ.rules l) (behind_term fs) p (b ∷ rest) (read_on σ (spot Before fs) p (b ∷ rest))

pub wide_term : (σ : Setting) (l : ℕ) (fs : List Frame) → TermReads σ l → Ready σ fs l → ((p b : ℕ) → step_before σ fs p b ≡ begin_term σ fs p b)
    → (p : ℕ) (text : List ℕ) → Reads σ begins_no_blank (Wide (Spells σ.rules l)) (behind_term fs) p text (read_on σ (spot Before fs) p text)
wide_term σ l fs reads ready begins =
    wide σ (Spells σ.rules l) fs After (λ t. fs) (between_before σ fs) (λ t. between_after σ t fs) (48 ∷ []) (tree.Int (pos 0)) (zero_text σ.rules l)
    (λ b rest q mark. reads fs ready q b rest (before_step σ fs q b mark ∙ begins q b))

-- ---- in brackets

module _ {A B : Type 0} (σ : Setting) (l : ℕ) (fs : List Frame) (reads : TermReads σ l) (F : List A → Frame) (S : List ℕ → A → Type 0) (after : List A → A → State)
    (End : List A → List ℕ → B → Type 0) (c : ℕ) (none : B) (later : B → State) where
  pub record Bracket : Type 0 where
    pub ready : (xs : List A) → Ready σ (F xs ∷ fs) l
    pub begin_some : (xs : List A) (x : A) (p b : ℕ) → step_before σ (F (xs ++ x ∷ []) ∷ fs) p b ≡ begin_term σ (F (xs ++ x ∷ []) ∷ fs) p b
    pub begin_none : (p b : ℕ) → eqb b c ≡ false → step_before σ (F [] ∷ fs) p b ≡ begin_term σ (F [] ∷ fs) p b
    pub close_none : (q : ℕ) (rest : List ℕ) → read_on σ (spot Before (F [] ∷ fs)) q (c ∷ rest) ≡ read_on σ (later none) (suc q) rest
    pub item_from : (xs : List A) (p : ℕ) (text : List ℕ) (start : Reading) → Reads σ begins_no_blank (Wide (Spells σ.rules l)) (behind_term (F xs ∷ fs)) p text start
        → Reads σ begins_no_blank S (after xs) p text start
    pub comma : (xs : List A) (x : A) (q : ℕ) (rest : List ℕ) → read_on σ (after xs x) q (44 ∷ rest) ≡ read_on σ (spot Before (F (xs ++ x ∷ []) ∷ fs)) (suc q) rest
    pub finish : (xs : List A) (x : A) (q b : ℕ) (rest : List ℕ) → eqb b 44 ≡ false → is_blank_byte b ≡ false
        → Reads σ any (End (xs ++ x ∷ [])) later q (b ∷ rest) (read_on σ (after xs x) q (b ∷ rest))
    pub ends : (xs : List A) (x : A) (q : ℕ) → read_on σ (after xs x) q [] ≡ Cut
    pub sample : (xs : List A) → Sample (End xs)

  loop_of : Bracket → Loop σ S End (λ xs. spot Before (F xs ∷ fs)) after later
  loop_of k = record {
    item = λ xs x q rest. k.item_from (xs ++ x ∷ []) q rest _ (wide_term σ l (F (xs ++ x ∷ []) ∷ fs) reads (k.ready (xs ++ x ∷ [])) (k.begin_some xs x) q rest);
    comma = k.comma;
    finish = k.finish;
    ends = k.ends;
    sample = k.sample;
  }

  pub bracket : Bracket → (p : ℕ) (text : List ℕ) → Reads σ any (Body S End c none) later p text (read_on σ (spot Before (F [] ∷ fs)) p text)
  bracket k = body σ S End c none (F [] ∷ fs) later (between_before σ (F [] ∷ fs)) k.close_none
      (λ blank b rest p q text blanks parts mark other place.
      run_from σ S End (λ xs. spot Before (F xs ∷ fs)) after later (loop_of k) p text (read_on σ (spot Before (F [] ∷ fs)) q (b ∷ rest))
      (k.item_from [] p text _
      (leading σ (Spells σ.rules l) (F [] ∷ fs) After (λ t. F [] ∷ fs) blank text rest b p q _ blanks parts refl place (λ t. between_after σ t (F [] ∷ fs))
      (reads (F [] ∷ fs) (k.ready []) q b rest (before_step σ (F [] ∷ fs) q b mark ∙ k.begin_none q b other)))))

-- a closing byte, and a value
pub record Closing {B : Type 0} (c : ℕ) (x : B) (text : List ℕ) (y : B) : Type 0 where
  pub is : text ≡ c ∷ []
  pub same : y ≡ x

pub closing_sample : {B : Type 0} (c : ℕ) (x : B) → Sample (Closing c x)
closing_sample c x = record { text = c ∷ []; value = x; stands = record { is = refl; same = refl } }

pub reads_closing : {B : Type 0} (σ : Setting) (c : ℕ) (x : B) (later : B → State) (here : Place) (fs : List Frame) (q b : ℕ) (rest : List ℕ) (s : State)
    → (eqb b c ≡ true → step_place σ here fs q b ≡ Go s) → s ≡ later x → (eqb b c ≡ false → step_place σ here fs q b ≡ fault)
    → Reads σ any (Closing c x) later q (b ∷ rest) (read_on σ (spot here fs) q (b ∷ rest))
reads_closing σ c x later here fs q b rest s goes same stops = go (eqb b c) refl
  where
    go : (t : Bool) → eqb b c ≡ t → Reads σ any (Closing c x) later q (b ∷ rest) (read_on σ (spot here fs) q (b ∷ rest))
    go true e =
        whole (b ∷ []) rest x (suc q) refl (record { is = ap (λ (k : ℕ). k ∷ []) (eqb-true b c e); same = refl }) refl
        (byte_goes σ here fs q b rest s (goes e) ∙ ap (λ (r : State). read_on σ r (suc q) rest) same) (omega arith)
    go false e = halted Syntax q (byte_stops σ here fs q b rest Syntax (stops e))
