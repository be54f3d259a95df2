-- What is answered of the bytes from a place on, by what reading them byte by byte gives.
use Rattle.std.proofs.Common.{◌≡◌, ◌≤◌, ◌<◌, ℕ, suc, ◌+◌, ◌-◌, true, false, Option, Some, None, List, [], ◌∷◌, ◌++◌, length, take, drop, inl, inr, refl, sym, ap, subst, ◌∙◌, arith}
use Rattle.std.proofs.lemmas.Bool.{not-true}
use Rattle.std.proofs.lemmas.List.{length-append, length-drop, take-append-drop}
use Rattle.kh_term.specs.declared.term.Term.{Term}
use Rattle.kh_term.specs.declared.tree.TermTree.{TermTree}
use Rattle.kh_term.proofs.OneTree.{same_node}
use Rattle.kh_text_defs.specs.declared.mode.Mode.{Mode}
use Rattle.kh_text_defs.specs.Blanks.{IsBlank, IsBlankToEnd, begins_no_blank}
use Rattle.kh_text_defs.specs.Faults.{SyntaxFaultAt, NumberFaultAt, DepthFaultAt, SizeFaultAt, IsUnfinished, max_levels, max_size}
use Rattle.kh_read.specs.Exact.{IsReading, reading, setting}
use Rattle.kh_text_defs.specs.Spelled.{within_limits}
use Rattle.kh_term.specs.Size.{size_of, depth_of}
use Rattle.kh_read.specs.Skipped.{first_mark}
use Rattle.kh_read.specs.State.{Before, State, Setting, Halt, Syntax, Number, Deep, Large, Step, Go, Done, Stop, Reading, Ended, Cut, Halted}
use Rattle.kh_read.specs.Steps.{step, step_place, at_end, continued, read_on, fresh}
use Rattle.std.specs.Prelude.{Result, Ok, Err, IfOk, IfErr, IfSome, ◌↔◌}
use Rattle.kh_read.specs.Text.{Answers, IsRead, IsWhy}
use Rattle.kh_read.specs.Views.{GivesReading, fault_offset, fault_of, answer_offset, answer_of}
use Rattle.kh_read.specs.declared.fault.ReadError.{ReadError}
use Rattle.kh_read.specs.declared.fault.ReadError.TheVariants as faults
use Rattle.kh_read.specs.declared.reader.Reading.{Reading as CodeReading}
use Rattle.kh_read.specs.declared.reader.Reading.TheVariants as code
use Rattle.kh_read.specs.declared.state.Stop.TheVariants as stop
use Rattle.kh_read.proofs.Skipping.{no_mark, marked, blank_to_end}
use Rattle.kh_read.proofs.TextAll.{exact}
use Rattle.kh_read.proofs.TextDepths.{are_bytes, form_depth, bytes_from}
use Rattle.kh_read.proofs.TextCore.{spot, IsBetween, Skips, to_mark, to_end, skips, at_the_end}
use Rattle.kh_read.proofs.TextEnds.{AtEnd, cut_there, ends_there, end_of}
use Rattle.kh_read.proofs.TextExact.{only}
use Rattle.kh_read.proofs.TextTrace.{one_step}

-- ---- places lie within the bytes

abbrev pub Within : ℕ → Reading → Type 0
Within n (Ended t end) = end ≤ n
Within n Cut = 0 ≤ n
Within n (Halted halt place) = place < n

pub within : (σ : Setting) (s : State) (p : ℕ) (bytes : List ℕ) → Within (p + length bytes) (read_on σ s p bytes)
within σ s p [] = subst (λ (r : Reading). Within (p + 0) r) (sym (at_the_end σ s p)) (go (at_end s.place s.frames p) (end_of s.place s.frames p))
  where
    go : (r : Reading) → AtEnd p r → Within (p + 0) r
    go r (cut_there e) = let some : 0 ≤ p + 0 = omega arith in subst (λ (x : Reading). Within (p + 0) x) (sym e) some
    go r (ends_there t e) = let there : p ≤ p + 0 = omega arith in subst (λ (x : Reading). Within (p + 0) x) (sym e) there
within σ s p (b ∷ bytes) = go (step σ s p b) refl (λ next. within σ next (suc p) bytes)
  where
    long : suc p + length bytes ≡ p + length (b ∷ bytes)
    long = omega arith

    is : (st : Step) → step σ s p b ≡ st → Within (p + length (b ∷ bytes)) (continued st (λ next. read_on σ next (suc p) bytes) p) → Within (p + length (b ∷ bytes)) (read_on σ s p (b ∷ bytes))
    is st e h = subst (λ (r : Reading). Within (p + length (b ∷ bytes)) r) (sym (one_step σ s p b bytes st e)) h

    go : (st : Step) → step σ s p b ≡ st → ((next : State) → Within (suc p + length bytes) (read_on σ next (suc p) bytes)) → Within (p + length (b ∷ bytes)) (read_on σ s p (b ∷ bytes))
    go (Go next) e more = is (Go next) e (subst (λ (n : ℕ). Within n (read_on σ next (suc p) bytes)) long (more next))
    go (Done t) e more = let there : p ≤ p + length (b ∷ bytes) = omega arith in is (Done t) e there
    go (Stop halt) e more = let there : p < p + length (b ∷ bytes) = omega arith in is (Stop halt) e there

-- ---- what is read

pub is_reading : (mode : Mode) (bytes : List ℕ) (r : Reading) → reading mode bytes ≡ r → IsReading mode bytes r
is_reading mode bytes r e = subst (λ (x : Reading). IsReading mode bytes x) e (exact mode bytes)

pub is_read : (mode : Mode) (bytes : List ℕ) (at : ℕ) (t : Term) (end : ℕ) → reading mode (drop at bytes) ≡ Ended t.node end → IsRead mode bytes at t (at + end)
unfolding IsReading
is_read mode bytes at t end e =
    let f = is_reading mode (drop at bytes) (Ended t.node end) e in
    record { form = f.form; rest = f.rest; parts = f.parts; readable = f.readable; follows = f.follows; place = ap (λ (n : ℕ). at + n) f.place }

pub reads : (mode : Mode) (bytes : List ℕ) (at : ℕ) (t : Term) (end : ℕ) → IsRead mode bytes at t end → (n : ℕ) × (reading mode (drop at bytes) ≡ Ended t.node n) × (end ≡ at + n)
reads mode bytes at t end r = (
  length r.form,
  ap (λ (w : List ℕ). reading mode w) r.parts ∙ (only mode r.form r.rest t.node 0 r.readable r.follows ∙ ap (λ (n : ℕ). Ended t.node n) (none (length r.form))),
  r.place,
)
  where
    none : (n : ℕ) → 0 + n ≡ n
    none n = omega arith

same_end : (t u : TermTree) (m n : ℕ) → Ended t m ≡ Ended u n → m ≡ n
same_end t u m n e = cc

same_term : (t u : TermTree) (m n : ℕ) → Ended t m ≡ Ended u n → t ≡ u
same_term t u m n e = cc

-- two answers are the same
pub one_answer : (mode : Mode) (bytes : List ℕ) (at : ℕ) (t u : Term) (end n : ℕ) → reading mode (drop at bytes) ≡ Ended u.node n → IsRead mode bytes at t end → ◌≡◌ {A = Option (Term × ℕ)} (Some (u, at + n)) (Some (t, end))
one_answer mode bytes at t u end n e r =
    let k = reads mode bytes at t end r in
    let same = sym e ∙ k.1 in
    let node : u ≡ t = same_node u t (same_term u.node t.node n k.0 same) in
    let place : at + n ≡ end = ap (λ (m : ℕ). at + m) (same_end u.node t.node n k.0 same) ∙ sym k.2 in
    λ i. Some (node i, place i)

pub not_cut : (mode : Mode) (bytes : List ℕ) (at : ℕ) (t : Term) (end : ℕ) → reading mode (drop at bytes) ≡ Cut → IsRead mode bytes at t end → ⊥
not_cut mode bytes at t end e r = let k = reads mode bytes at t end r in absurd (let clash : Cut ≡ Ended t.node k.0 = sym e ∙ k.1 in cc)

pub not_halted : (mode : Mode) (bytes : List ℕ) (at : ℕ) (t : Term) (end : ℕ) (halt : Halt) (place : ℕ) → reading mode (drop at bytes) ≡ Halted halt place → IsRead mode bytes at t end → ⊥
not_halted mode bytes at t end halt place e r = let k = reads mode bytes at t end r in absurd (let clash : Halted halt place ≡ Ended t.node k.0 = sym e ∙ k.1 in cc)

-- ---- blanks

before_between : (mode : Mode) → IsBetween (setting mode) Before []
unfolding step_place
before_between mode = record { steps = λ p b. refl; ends = λ p. refl }

blanks_are_cut : (mode : Mode) (text : List ℕ) → first_mark false 0 text ≡ None → reading mode text ≡ Cut
blanks_are_cut mode text e = go (skips (setting mode) Before [] (before_between mode) false 0 text)
  where
    go : Skips (setting mode) Before [] false 0 text → reading mode text ≡ Cut
    go (to_end more cut blank ends) = cut
    go (to_mark blank b rest q parts blanks mark goes place) =
        absurd (let clash : None ≡ Some (length blank) = sym e ∙ (ap (λ (w : List ℕ). first_mark false 0 w) parts ∙ marked blank b rest blanks mark) in cc)

pub none_read : (mode : Mode) (bytes : List ℕ) (at : ℕ) (t : Term) (end : ℕ) → first_mark false 0 (drop at bytes) ≡ None → IsRead mode bytes at t end → ⊥
none_read mode bytes at t end e r = not_cut mode bytes at t end (blanks_are_cut mode (drop at bytes) e) r

pub none_blank : (text : List ℕ) → first_mark false 0 text ≡ None → IsBlankToEnd text
none_blank text e = blank_to_end false 0 text e

pub not_blank : (text : List ℕ) (first : ℕ) → first_mark false 0 text ≡ Some first → IsBlankToEnd text → ⊥
not_blank text first e h = absurd (let clash : Some first ≡ None = sym e ∙ no_mark text h in cc)

pub unfinished : (mode : Mode) (text : List ℕ) (first : ℕ) → first_mark false 0 text ≡ Some first → reading mode text ≡ Cut → IsUnfinished mode text
unfolding IsReading
unfinished mode text first e cut = let h = is_reading mode text Cut cut in (h.0, not_blank text first e, h.1)

-- ---- places of faults

pub mark_within : (mode : Mode) (text : List ℕ) (first : ℕ) → first_mark false 0 text ≡ Some first → first < length text
mark_within mode text first e = go (skips (setting mode) Before [] (before_between mode) false 0 text)
  where
    go : Skips (setting mode) Before [] false 0 text → first < length text
    go (to_end more cut blank ends) = absurd (not_blank text first e ends)
    go (to_mark blank b rest q parts blanks mark goes place) =
        let here : Some first ≡ Some (length blank) = sym e ∙ (ap (λ (w : List ℕ). first_mark false 0 w) parts ∙ marked blank b rest blanks mark) in
        let same : first ≡ length blank = cc in
        omega (arith, same, ap length parts ∙ length-append blank (b ∷ rest))

pub number_within : (mode : Mode) (text : List ℕ) (first : ℕ) → NumberFaultAt mode text first → first < length text
number_within mode text first h =
    let inside = h.2.inside in
    let whole = h.4.0 in
    omega (arith, inside, whole)

size_place : (text form rest : List ℕ) (first k : ℕ) → first_mark false 0 text ≡ Some first → IsBlank (take k text) → drop k text ≡ form ++ rest → begins_no_blank form ≡ true
    → (inside : List ℕ) → form ≡ inside ++ 46 ∷ [] → k ≡ first
size_place text [] rest first k e blanks parts mark inside is = absurd (let none : 0 ≡ length inside + 1 = ap length is ∙ length-append inside (46 ∷ []) in omega (arith, none))
size_place text (b ∷ form) rest first k e blanks parts mark inside is =
    let whole : text ≡ take k text ++ b ∷ (form ++ rest) = sym (take-append-drop k text) ∙ ap (λ (w : List ℕ). take k text ++ w) parts in
    let found : Some first ≡ Some (length (take k text)) = sym e ∙ (ap (λ (w : List ℕ). first_mark false 0 w) whole ∙ marked (take k text) b (form ++ rest) blanks (not-true _ mark)) in
    let same : first ≡ length (take k text) = cc in
    let all : length text ≡ length (take k text) + length (drop k text) = ap length (sym (take-append-drop k text)) ∙ length-append (take k text) (drop k text) in
    let left : length (drop k text) ≡ length text - k = length-drop k text in
    let some : length (drop k text) ≡ suc (length (form ++ rest)) = ap length parts in
    omega (arith, same, all, left, some)

pub size_there : (mode : Mode) (text : List ℕ) (first place : ℕ) → first_mark false 0 text ≡ Some first → reading mode text ≡ Halted Large place → SizeFaultAt mode text first
unfolding IsReading
size_there mode text first place e r =
    let h = is_reading mode text (Halted Large place) r in
    let f = h.1 in
    subst (λ (n : ℕ). SizeFaultAt mode text n) (size_place text f.0 f.1 first h.0 e f.3 f.4 f.5 f.6.0 f.6.2) f

-- ---- the answer

-- what the reader gave is answered
module _ (mode : Mode) (bytes : List ℕ) (at first : ℕ) (marks : first_mark false 0 (drop at bytes) ≡ Some first) where
  number_there : (k q : ℕ) → reading mode (drop at bytes) ≡ Halted (Number k) q → NumberFaultAt mode (drop at bytes) k
  unfolding IsReading
  number_there k q e = is_reading mode (drop at bytes) (Halted (Number k) q) e

  syntax_there : (k : ℕ) → reading mode (drop at bytes) ≡ Halted Syntax k → SyntaxFaultAt mode (drop at bytes) k
  unfolding IsReading
  syntax_there k e = is_reading mode (drop at bytes) (Halted Syntax k) e

  depth_there : (k : ℕ) → reading mode (drop at bytes) ≡ Halted Deep k → DepthFaultAt mode (drop at bytes) k
  unfolding IsReading
  depth_there k e = is_reading mode (drop at bytes) (Halted Deep k) e

  ended_within : (t : TermTree) (end : ℕ) → reading mode (drop at bytes) ≡ Ended t end → end ≤ 0 + length (drop at bytes)
  ended_within t end e = subst (λ (r : Reading). Within (0 + length (drop at bytes)) r) e (within (setting mode) fresh 0 (drop at bytes))

  halted_within : (halt : Halt) (place : ℕ) → reading mode (drop at bytes) ≡ Halted halt place → place < 0 + length (drop at bytes)
  halted_within halt place e = subst (λ (r : Reading). Within (0 + length (drop at bytes)) r) e (within (setting mode) fresh 0 (drop at bytes))

  pub offset_within : (r : CodeReading) → GivesReading r (reading mode (drop at bytes)) → at ≤ length bytes → at + answer_offset first r ≤ length bytes
  offset_within (code.Ended t end) e le = omega (arith, ended_within t.node end e, length-drop at bytes, le)
  offset_within code.Cut e le = omega (arith, le)
  offset_within (code.Halted stop.Syntax k) e le = omega (arith, halted_within Syntax k e, length-drop at bytes, le)
  offset_within (code.Halted (stop.Number n) k) e le = omega (arith, number_within mode (drop at bytes) n (number_there n k e), length-drop at bytes, le)
  offset_within (code.Halted stop.Deep k) e le = omega (arith, halted_within Deep k e, length-drop at bytes, le)
  offset_within (code.Halted stop.Large k) e le = omega (arith, mark_within mode (drop at bytes) first marks, length-drop at bytes, le)
  offset_within (code.Halted stop.NoMemory k) e le = omega (arith, le)

  some_read : (r : CodeReading) → answer_of at first r ≡ Ok None → ⊥
  some_read (code.Ended t end) e = absurd (cc)
  some_read code.Cut e = absurd (cc)
  some_read (code.Halted halt k) e = absurd (cc)

  pub none_of : (r : CodeReading) → (answer_of at first r ≡ Ok None) ↔ IsBlankToEnd (drop at bytes)
  none_of r = (λ e. absurd (some_read r e), λ blank. absurd (not_blank (drop at bytes) first marks blank))

  pub found_of : (r : CodeReading) → GivesReading r (reading mode (drop at bytes)) → IfOk (answer_of at first r) (λ read. IfSome read (λ x. IsRead mode bytes at x.0 x.1))
  found_of (code.Ended t end) e = is_read mode bytes at t end e
  found_of code.Cut e = tt
  found_of (code.Halted halt k) e = tt

  pub only_of : (r : CodeReading) → GivesReading r (reading mode (drop at bytes)) → (t : Term) (end : ℕ) → IsRead mode bytes at t end → Answers (answer_of at first r) (Some (t, end))
  only_of (code.Ended u n) e t end h = inl (ap Ok (one_answer mode bytes at t u end n e h))
  only_of code.Cut e t end h = absurd (not_cut mode bytes at t end e h)
  only_of (code.Halted stop.Syntax k) e t end h = absurd (not_halted mode bytes at t end Syntax k e h)
  only_of (code.Halted (stop.Number n) k) e t end h = absurd (not_halted mode bytes at t end (Number n) k e h)
  only_of (code.Halted stop.Deep k) e t end h = absurd (not_halted mode bytes at t end Deep k e h)
  only_of (code.Halted stop.Large k) e t end h = absurd (not_halted mode bytes at t end Large k e h)
  only_of (code.Halted stop.NoMemory k) e t end h = inr refl

  pub why_of : (r : CodeReading) → GivesReading r (reading mode (drop at bytes)) → IfErr (answer_of at first r) (λ e. IsWhy mode bytes at e)
  why_of (code.Ended t end) e = tt
  why_of code.Cut e = unfinished mode (drop at bytes) first marks e
  why_of (code.Halted stop.Syntax k) e = (k, refl, syntax_there k e)
  why_of (code.Halted (stop.Number n) k) e = (n, refl, number_there n k e)
  why_of (code.Halted stop.Deep k) e = (k, refl, depth_there k e)
  why_of (code.Halted stop.Large k) e = (first, refl, size_there mode (drop at bytes) first k marks e)
  why_of (code.Halted stop.NoMemory k) e = tt

  pub small_of : (r : CodeReading) → GivesReading r (reading mode (drop at bytes)) → IfOk (answer_of at first r) (λ read. IfSome read (λ x. size_of x.0.node ≤ max_size))
  small_of (code.Ended t end) e = (is_read mode bytes at t end e).readable.1
  small_of code.Cut e = tt
  small_of (code.Halted halt k) e = tt

  pub shallow_of : are_bytes bytes ≡ true → (r : CodeReading) → GivesReading r (reading mode (drop at bytes)) → IfOk (answer_of at first r) (λ read. IfSome read (λ x. depth_of x.0.node ≤ max_levels))
  shallow_of all (code.Ended t end) e =
      let f = is_read mode bytes at t end e in
      form_depth (within_limits mode) max_levels f.form f.rest t.node f.readable.0 (ap are_bytes (sym f.parts) ∙ bytes_from bytes at all)
  shallow_of all code.Cut e = tt
  shallow_of all (code.Halted halt k) e = tt
