-- What a form's reading says of the bytes: which form they are, that they begin one, or which fault is met.
use Rattle.std.proofs.Common.{◌≡◌, ◌≤◌, ◌<◌, ℕ, zero, suc, ◌+◌, Bool, true, false, not, ◌&&◌, cond, ltb, List, [], ◌∷◌, ◌++◌, length, take, drop, inl, inr, refl, sym, ap, subst, ◌∙◌, arith, append_assoc, IsTrue}
use Rattle.std.specs.Prelude.{◌⊎◌}
use Rattle.std.proofs.Math.Seq.{take-append_seam, take-append-add, drop-append_seam}
use Rattle.std.proofs.lemmas.Bool.{ltb-false, ltb-true}
use Rattle.std.proofs.lemmas.List.{append-nil, length-append}
use Rattle.kh_term.specs.declared.tree.TermTree.{TermTree}
use Rattle.kh_term.specs.Size.{size_of}
use Rattle.kh_text_defs.specs.declared.mode.Mode.{Mode}
use Rattle.kh_text_defs.specs.Blanks.{may_follow}
use Rattle.kh_text_defs.specs.Faults.{max_levels, max_size, Begins, BeginsWithin, BeginsAnyhow, StopsAt, SyntaxFaultAt}
use Rattle.kh_text_defs.specs.Spelled.{Rules, IsForm}
use Rattle.kh_read.specs.State.{Frame, Place, Dotted, State, Setting, Halt, Syntax, Number, Deep, Large, Step, Go, Done, Stop, Reading, Ended, Cut, Halted}
use Rattle.kh_read.specs.Steps.{at, step, step_place, step_dotted, at_end, continued, read_on, fresh}
use Rattle.kh_read.proofs.TextCore.{at_the_end}
use Rattle.kh_read.proofs.TextReads.{Reads, whole, part, halted, any}
use Rattle.kh_read.proofs.TextForms.{dotted, forms}
use Rattle.kh_read.proofs.TextLeadsForms.{form_read, large_form}
use Rattle.kh_read.proofs.TextTrace.{Path, one_step, goes}
use Rattle.kh_read.proofs.TextEnds.{AtEnd, cut_there, ends_there, end_of}
use Rattle.kh_read.proofs.TextWider.{make, reads_agree, AtLimit}

-- ---- readings that differ

ended_place : (t u : TermTree) (m n : ℕ) → Ended t m ≡ Ended u n → m ≡ n
ended_place t u m n e = cc

same_halt : (h k : Halt) (m n : ℕ) → Halted h m ≡ Halted k n → h ≡ k
same_halt h k m n e = cc

-- ---- behind the dot

data BehindDot (t : TermTree) (q : ℕ) (r : Reading) : Type 0 where
  ends : r ≡ Ended t q → BehindDot t q r
  faulty : r ≡ Halted Syntax q → BehindDot t q r

behind_dot : (σ : Setting) (t : TermTree) (q b : ℕ) (rest : List ℕ) → BehindDot t q (read_on σ (dotted t) q (b ∷ rest))
unfolding step step_place
behind_dot σ t q b rest = go (may_follow (b ∷ [])) refl
  where
    dot_step : (f : Bool) → may_follow (b ∷ []) ≡ f → step σ (dotted t) q b ≡ cond f (Done t) (Stop Syntax)
    dot_step f e = rw e refl

    go : (f : Bool) → may_follow (b ∷ []) ≡ f → BehindDot t q (read_on σ (dotted t) q (b ∷ rest))
    go true e = ends (one_step σ (dotted t) q b rest (Done t) (dot_step true e))
    go false e = faulty (one_step σ (dotted t) q b rest (Stop Syntax) (dot_step false e))

-- what is read of a form with something behind it
data FormRead (σ : Setting) (text : List ℕ) (t : TermTree) (p : ℕ) (r : Reading) : Type 0 where
  as_it_is : (σ.sized && ltb max_size (size_of t)) ≡ false → r ≡ Ended t (p + length text) → FormRead σ text t p r
  too_large : (q : ℕ) → (σ.sized && ltb max_size (size_of t)) ≡ true → r ≡ Halted Large q → FormRead σ text t p r

module _ (σ : Setting) where
  form_reads : (text rest : List ℕ) (t : TermTree) (p : ℕ) → IsForm σ.rules σ.levels text t → may_follow rest ≡ true → FormRead σ text t p (read_on σ fresh p (text ++ rest))
  form_reads text rest t p h follows = go (σ.sized && ltb max_size (size_of t)) refl
    where
      go : (big : Bool) → (σ.sized && ltb max_size (size_of t)) ≡ big → FormRead σ text t p (read_on σ fresh p (text ++ rest))
      go true e = let k = large_form σ text rest t p h e follows in too_large k.0 e k.1
      go false e = as_it_is e (form_read σ text rest t p h e follows)

  module _ (reached : State) (p : ℕ) (front : List ℕ) (path : Path σ reached fresh p front) where
    front_read : read_on σ fresh p front ≡ at_end reached.place reached.frames (p + length front)
    front_read =
        ap (λ (w : List ℕ). read_on σ fresh p w) (sym (append-nil front)) ∙ (goes σ reached fresh p front [] path ∙ at_the_end σ reached (p + length front))

    pub no_halt : (halt : Halt) (q : ℕ) → AtEnd (p + length front) (at_end reached.place reached.frames (p + length front)) → read_on σ fresh p front ≡ Halted halt q → ⊥
    no_halt halt q (cut_there c) e = absurd (let clash : Cut ≡ Halted halt q = sym c ∙ (sym front_read ∙ e) in cc)
    no_halt halt q (ends_there t c) e = absurd (let clash : Ended t (p + length front) ≡ Halted halt q = sym c ∙ (sym front_read ∙ e) in cc)

    no_early : (t : TermTree) (q : ℕ) → AtEnd (p + length front) (at_end reached.place reached.frames (p + length front)) → read_on σ fresh p front ≡ Ended t q → q ≡ p + length front
    no_early t q (cut_there c) e = absurd (let clash : Cut ≡ Ended t q = sym c ∙ (sym front_read ∙ e) in cc)
    no_early t q (ends_there u c) e = ended_place t u q (p + length front) (sym e ∙ (front_read ∙ c))

    -- bytes with which reading goes on begin a form
    pub begins_of : Begins σ.rules σ.levels front
    begins_of = go (forms σ p front)
      where
        longer : (u rest : List ℕ) (b q : ℕ) → front ≡ u ++ b ∷ rest → q ≡ p + length u → q ≡ p + length front → ⊥
        longer u rest b q parts place end =
            let n : length front ≡ length u + suc (length rest) = ap length parts ∙ length-append u (b ∷ rest) in
            absurd (omega (arith, n, place, end))

        go : Reads σ any (IsForm σ.rules σ.levels) dotted p front (read_on σ fresh p front) → Begins σ.rules σ.levels front
        go (whole u [] t q parts stands good e place) = ([], t, subst (λ (w : List ℕ). IsForm σ.rules σ.levels w t) (sym (append-nil front ∙ (parts ∙ append-nil u))) stands)
        go (whole u (b ∷ rest) t q parts stands good e place) = on (behind_dot σ t q b rest)
          where
            on : BehindDot t q (read_on σ (dotted t) q (b ∷ rest)) → Begins σ.rules σ.levels front
            on (ends f) = absurd (longer u rest b q parts place (no_early t q (end_of reached.place reached.frames (p + length front)) (e ∙ f)))
            on (faulty f) = absurd (no_halt Syntax q (end_of reached.place reached.frames (p + length front)) (e ∙ f))
        go (part more t e stands) = (more, t, stands)
        go (halted halt q e) = absurd (no_halt halt q (end_of reached.place reached.frames (p + length front)) e)

    module _ (b : ℕ) (halt : Halt) (stops : step σ reached (p + length front) b ≡ Stop halt) where
      halts : (behind : List ℕ) → read_on σ fresh p (front ++ b ∷ behind) ≡ Halted halt (p + length front)
      halts behind = goes σ reached fresh p front (b ∷ behind) path ∙ one_step σ reached (p + length front) b behind (Stop halt) stops

      -- with the byte that halts reading they don't, but where a form is too large there
      pub no_form_on : (halt ≡ Large → ⊥) → Begins σ.rules σ.levels (front ++ b ∷ []) → ⊥
      no_form_on other begins = go (form_reads ((front ++ b ∷ []) ++ begins.0) [] begins.1 p begins.2 refl)
        where
          reading : read_on σ fresh p (((front ++ b ∷ []) ++ begins.0) ++ []) ≡ Halted halt (p + length front)
          reading = ap (λ (w : List ℕ). read_on σ fresh p w) (append-nil ((front ++ b ∷ []) ++ begins.0) ∙ append_assoc front (b ∷ []) begins.0) ∙ halts begins.0

          go : FormRead σ ((front ++ b ∷ []) ++ begins.0) begins.1 p (read_on σ fresh p (((front ++ b ∷ []) ++ begins.0) ++ [])) → ⊥
          go (as_it_is small f) = absurd (let clash : Ended begins.1 (p + length ((front ++ b ∷ []) ++ begins.0)) ≡ Halted halt (p + length front) = sym f ∙ reading in cc)
          go (too_large q big f) = other (same_halt halt Large (p + length front) q (sym reading ∙ f))

      -- a form that has ended before it was small enough, and may not be followed by it
      pub ended_small : (t : TermTree) → IsForm σ.rules σ.levels front t → (σ.sized && ltb max_size (size_of t)) ≡ false
      ended_small t h = go (form_reads front [] t p h refl)
        where
          go : FormRead σ front t p (read_on σ fresh p (front ++ [])) → (σ.sized && ltb max_size (size_of t)) ≡ false
          go (as_it_is small f) = small
          go (too_large q big f) =
              absurd (no_halt Large q (end_of reached.place reached.frames (p + length front)) (ap (λ (w : List ℕ). read_on σ fresh p w) (sym (append-nil front)) ∙ f))

      pub ended_apart : (behind : List ℕ) (t : TermTree) → IsForm σ.rules σ.levels front t → may_follow (b ∷ behind) ≡ false
      ended_apart behind t h = go (may_follow (b ∷ behind)) refl
        where
          go : (f : Bool) → may_follow (b ∷ behind) ≡ f → f ≡ false
          go false e = refl
          go true e = absurd (let clash : Ended t (p + length front) ≡ Halted halt (p + length front) = sym (form_read σ front (b ∷ behind) t p h (ended_small t h) e) ∙ halts behind in cc)

-- ---- the reading within all limits

abbrev pub within : Mode → Setting
within mode = make mode true max_levels true

first_of : (front : List ℕ) (b : ℕ) (behind : List ℕ) → take (length front + 1) (front ++ b ∷ behind) ≡ front ++ b ∷ []
first_of front b behind = take-append-add front (b ∷ behind) 1

module _ (mode : Mode) (reached : State) (p : ℕ) (front : List ℕ) (path : Path (within mode) reached fresh p front) (b : ℕ) (behind : List ℕ) where
  small_enough : (t : TermTree) → ltb max_size (size_of t) ≡ false → size_of t ≤ max_size
  small_enough t e = ltb-false max_size (size_of t) e

  pub stops_at : (halt : Halt) → step (within mode) reached (p + length front) b ≡ Stop halt → (halt ≡ Large → ⊥) → StopsAt mode (front ++ b ∷ behind) (length front)
  stops_at halt stops other = record {
    inside = omega (arith, length-append front (b ∷ behind));
    begins = subst (λ (w : List ℕ). BeginsWithin mode w) (sym (take-append_seam front (b ∷ behind))) (begins_of (within mode) reached p front path);
    stops = λ k. no_form_on (within mode) reached p front path b halt stops other (subst (λ (w : List ℕ). BeginsWithin mode w) (first_of front b behind) k);
    ended = λ t h.
        let form : IsForm (within mode).rules max_levels front t = subst (λ (w : List ℕ). IsForm (within mode).rules max_levels w t) (take-append_seam front (b ∷ behind)) h in (
          small_enough t (ended_small (within mode) reached p front path b halt stops t form),
          ap may_follow (drop-append_seam front (b ∷ behind)) ∙ ended_apart (within mode) reached p front path b halt stops behind t form,
        );
  }

  -- ---- which fault

  -- no limit is passed by what is read
  ended_limit : (mode : Mode) (b1 b2 : Bool) (l1 l2 : ℕ) (s1 s2 : Bool) (wb : b2 ≡ true → b1 ≡ true) (wl : l1 ≤ l2) (ws : s2 ≡ true → s1 ≡ true) (r : Reading) (t : TermTree) (n : ℕ)
      → r ≡ Ended t n → AtLimit mode b1 b2 l1 l2 s1 s2 wb wl ws r → ⊥
  ended_limit mode b1 b2 l1 l2 s1 s2 wb wl ws r t n e (inl h) = absurd (let clash : Ended t n ≡ Halted (Number h.0) h.1 = sym e ∙ h.2 in cc)
  ended_limit mode b1 b2 l1 l2 s1 s2 wb wl ws r t n e (inr (inl h)) = absurd (let clash : Ended t n ≡ Halted Deep h.0 = sym e ∙ h.1 in cc)
  ended_limit mode b1 b2 l1 l2 s1 s2 wb wl ws r t n e (inr (inr h)) = absurd (let clash : Ended t n ≡ Halted Large h.0 = sym e ∙ h.1 in cc)

  fault_limit : (mode : Mode) (b1 b2 : Bool) (l1 l2 : ℕ) (s1 s2 : Bool) (wb : b2 ≡ true → b1 ≡ true) (wl : l1 ≤ l2) (ws : s2 ≡ true → s1 ≡ true) (r : Reading) (n : ℕ)
      → r ≡ Halted Syntax n → AtLimit mode b1 b2 l1 l2 s1 s2 wb wl ws r → ⊥
  fault_limit mode b1 b2 l1 l2 s1 s2 wb wl ws r n e (inl h) = absurd (let clash : Halted Syntax n ≡ Halted (Number h.0) h.1 = sym e ∙ h.2 in cc)
  fault_limit mode b1 b2 l1 l2 s1 s2 wb wl ws r n e (inr (inl h)) = absurd (let clash : Halted Syntax n ≡ Halted Deep h.0 = sym e ∙ h.1 in cc)
  fault_limit mode b1 b2 l1 l2 s1 s2 wb wl ws r n e (inr (inr h)) = absurd (let clash : Halted Syntax n ≡ Halted Large h.0 = sym e ∙ h.1 in cc)

  -- with no limit, and with more levels, the fault is the same
  no_form_anyhow : step (within mode) reached (p + length front) b ≡ Stop Syntax → BeginsAnyhow mode (front ++ b ∷ []) → ⊥
  no_form_anyhow stops begins = both more_levels no_limits
    where
      levels : ℕ
      levels = begins.0

      text : List ℕ
      text = (front ++ b ∷ []) ++ begins.1.0

      read : read_on (make mode false levels false) fresh p text ≡ Ended begins.1.1 (p + length text)
      read =
          ap (λ (w : List ℕ). read_on (make mode false levels false) fresh p w) (sym (append-nil text))
          ∙ form_read (make mode false levels false) text [] begins.1.1 p begins.1.2 refl refl

      halted_there : read_on (within mode) fresh p text ≡ Halted Syntax (p + length front)
      halted_there = ap (λ (w : List ℕ). read_on (within mode) fresh p w) (append_assoc front (b ∷ []) begins.1.0) ∙ halts (within mode) reached p front path b Syntax stops begins.1.0

      more_levels : read_on (make mode false (max_levels + levels) false) fresh p text ≡ Ended begins.1.1 (p + length text)
      more_levels = go (reads_agree mode false false levels (max_levels + levels) false false (λ e. e) (omega arith) (λ e. e) text fresh p)
        where
          go : (read_on (make mode false levels false) fresh p text ≡ read_on (make mode false (max_levels + levels) false) fresh p text)
              ⊎ AtLimit mode false false levels (max_levels + levels) false false (λ e. e) (omega arith) (λ e. e) (read_on (make mode false levels false) fresh p text)
              → read_on (make mode false (max_levels + levels) false) fresh p text ≡ Ended begins.1.1 (p + length text)
          go (inl h) = sym h ∙ read
          go (inr h) = absurd (ended_limit mode false false levels (max_levels + levels) false false (λ e. e) (omega arith) (λ e. e) _ begins.1.1 (p + length text) read h)

      no_limits : read_on (make mode false (max_levels + levels) false) fresh p text ≡ Halted Syntax (p + length front)
      no_limits = go (reads_agree mode true false max_levels (max_levels + levels) true false (λ e. refl) (omega arith) (λ e. refl) text fresh p)
        where
          go : (read_on (within mode) fresh p text ≡ read_on (make mode false (max_levels + levels) false) fresh p text)
              ⊎ AtLimit mode true false max_levels (max_levels + levels) true false (λ e. refl) (omega arith) (λ e. refl) (read_on (within mode) fresh p text)
              → read_on (make mode false (max_levels + levels) false) fresh p text ≡ Halted Syntax (p + length front)
          go (inl h) = sym h ∙ halted_there
          go (inr h) = absurd (fault_limit mode true false max_levels (max_levels + levels) true false (λ e. refl) (omega arith) (λ e. refl) _ (p + length front) halted_there h)

      both : read_on (make mode false (max_levels + levels) false) fresh p text ≡ Ended begins.1.1 (p + length text)
          → read_on (make mode false (max_levels + levels) false) fresh p text ≡ Halted Syntax (p + length front) → ⊥
      both e f = absurd (let clash : Ended begins.1.1 (p + length text) ≡ Halted Syntax (p + length front) = sym e ∙ f in cc)

  no_large : (halt : Halt) → (halt ≡ Syntax) ⊎ (halt ≡ Deep) → halt ≡ Large → ⊥
  no_large halt (inl e) f = absurd (let clash : Syntax ≡ Large = sym e ∙ f in cc)
  no_large halt (inr e) f = absurd (let clash : Deep ≡ Large = sym e ∙ f in cc)

  pub syntax_fault : step (within mode) reached (p + length front) b ≡ Stop Syntax → SyntaxFaultAt mode (front ++ b ∷ behind) (length front)
  syntax_fault stops = (
    stops_at Syntax stops (no_large Syntax (inl refl)),
    λ k. no_form_anyhow stops (subst (λ (w : List ℕ). BeginsAnyhow mode w) (first_of front b behind) k),
  )
