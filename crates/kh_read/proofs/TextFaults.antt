-- Which limit a fault has passed: with that limit aside the bytes go on to begin a form.
use Rattle.std.proofs.Common.{◌≡◌, ◌≤◌, ◌<◌, ℕ, zero, suc, ◌+◌, Bool, true, false, not, ◌&&◌, ltb, List, [], ◌∷◌, ◌++◌, length, take, drop, inl, inr, refl, sym, ap, subst, ◌∙◌, arith, append_assoc, IsTrue}
use Rattle.std.specs.Prelude.{◌⊎◌}
use Rattle.std.proofs.Math.Seq.{take-append-add}
use Rattle.kh_term.specs.declared.tree.TermTree.{TermTree}
use Rattle.kh_term.specs.Size.{size_of}
use Rattle.kh_text_defs.specs.declared.mode.Mode.{Mode}
use Rattle.kh_text_defs.specs.Faults.{max_levels, max_size, Begins, BeginsWithAnyNumber, BeginsAtAnyDepth, StopsAt, DepthFaultAt}
use Rattle.kh_text_defs.specs.Spelled.{Rules, IsForm}
use Rattle.kh_read.specs.State.{Frame, Place, Dotted, State, Setting, Halt, Number, Deep, Large, Step, Go, Stop}
use Rattle.kh_read.specs.Steps.{at, step, fresh}
use Rattle.kh_read.proofs.TextTrace.{Path}
use Rattle.kh_read.proofs.TextWider.{make, GoesOn, Agrees, same, number, level, large, step_agrees, wider_path}
use Rattle.kh_read.proofs.TextLimits.{Limits, step_limits}
use Rattle.kh_read.proofs.TextAnswers.{within, stops_at, begins_of}

-- a way with a byte more
pub longer_path : (σ : Setting) (s next from : State) (p : ℕ) (text : List ℕ) (b : ℕ) → Path σ s from p text → step σ s (p + length text) b ≡ Go next → Path σ next from p (text ++ b ∷ [])
longer_path σ s next from p [] b h e = (next, ap (λ (x : State). step σ x p b) h ∙ (ap (λ (n : ℕ). step σ s n b) (place p) ∙ e), refl)
  where
    place : (n : ℕ) → n ≡ n + length {A = ℕ} []
    place n = omega arith
longer_path σ s next from p (c ∷ text) b h e = (h.0, h.1, longer_path σ s next h.0 (suc p) text b h.2 (ap (λ (n : ℕ). step σ s n b) (place p) ∙ e))
  where
    place : (n : ℕ) → suc n + length text ≡ n + length (c ∷ text)
    place n = omega arith

module _ (mode : Mode) (reached : State) (p : ℕ) (front : List ℕ) (path : Path (within mode) reached fresh p front) (b : ℕ) (behind : List ℕ) where
  first_bytes : take (length front + 1) (front ++ b ∷ behind) ≡ front ++ b ∷ []
  first_bytes = take-append-add front (b ∷ behind) 1

  abbrev levels : ℕ
  levels = max_levels + suc (length reached.frames)

  no_large_depth : Deep ≡ Large → ⊥
  no_large_depth e = absurd (cc)

  no_large_number : (first : ℕ) → Number first ≡ Large → ⊥
  no_large_number first e = absurd (cc)

  -- ---- a level too many

  deeper_goes : step (within mode) reached (p + length front) b ≡ Stop Deep → Agrees (true ≡ false) (length reached.frames < levels) (true ≡ false) (step (within mode) reached (p + length front) b) (step (make mode true levels true) reached (p + length front) b)
      → GoesOn (step (make mode true levels true) reached (p + length front) b)
  deeper_goes stops (same f) = absurd (omega (arith, (step_limits mode true levels true reached (p + length front) b).deep (sym f ∙ stops)))
  deeper_goes stops (number first f on) = absurd (let clash : Stop Deep ≡ Stop (Number first) = sym stops ∙ f in cc)
  deeper_goes stops (level f on) = on (omega arith)
  deeper_goes stops (large t f big on) = absurd (let clash : Stop Deep ≡ Stop Large = sym stops ∙ f in cc)

  pub depth_fault : step (within mode) reached (p + length front) b ≡ Stop Deep → DepthFaultAt mode (front ++ b ∷ behind) (length front)
  depth_fault stops =
      let goes : GoesOn (step (make mode true levels true) reached (p + length front) b) =
      deeper_goes stops (step_agrees mode true true max_levels levels true true (λ e. e) (omega arith) (λ e. e) reached (p + length front) b) in
      let way : Path (make mode true levels true) reached fresh p front = wider_path mode true true max_levels levels true true (λ e. e) (omega arith) (λ e. e) reached front fresh p path in (
        stops_at mode reached p front path b behind Deep stops no_large_depth,
        subst (λ (w : List ℕ). BeginsAtAnyDepth mode w) (sym first_bytes)
            (levels, begins_of (make mode true levels true) goes.0 p (front ++ b ∷ []) (longer_path (make mode true levels true) reached goes.0 fresh p front b way goes.1)),
      )

  -- ---- an integer out of its range

  unbounded_goes : (first : ℕ) → step (within mode) reached (p + length front) b ≡ Stop (Number first) → Agrees (false ≡ false) (length reached.frames < max_levels) (true ≡ false) (step (within mode) reached (p + length front) b) (step (make mode false max_levels true) reached (p + length front) b)
      → GoesOn (step (make mode false max_levels true) reached (p + length front) b)
  unbounded_goes first stops (same f) = absurd (let clash : false ≡ true = (step_limits mode false max_levels true reached (p + length front) b).number first (sym f ∙ stops) in cc)
  unbounded_goes first stops (number other f on) = on refl
  unbounded_goes first stops (level f on) = absurd (let clash : Stop (Number first) ≡ Stop Deep = sym stops ∙ f in cc)
  unbounded_goes first stops (large t f big on) = absurd (let clash : Stop (Number first) ≡ Stop Large = sym stops ∙ f in cc)

  pub number_stops : (first : ℕ) → step (within mode) reached (p + length front) b ≡ Stop (Number first) → StopsAt mode (front ++ b ∷ behind) (length front)
  number_stops first stops = stops_at mode reached p front path b behind (Number first) stops (no_large_number first)

  pub number_begins : (first : ℕ) → step (within mode) reached (p + length front) b ≡ Stop (Number first) → BeginsWithAnyNumber mode (take (length front + 1) (front ++ b ∷ behind))
  number_begins first stops =
      let goes : GoesOn (step (make mode false max_levels true) reached (p + length front) b) =
      unbounded_goes first stops (step_agrees mode true false max_levels max_levels true true (λ e. refl) (omega arith) (λ e. e) reached (p + length front) b) in
      let way : Path (make mode false max_levels true) reached fresh p front = wider_path mode true false max_levels max_levels true true (λ e. refl) (omega arith) (λ e. e) reached front fresh p path in
      subst (λ (w : List ℕ). BeginsWithAnyNumber mode w) (sym first_bytes)
      (begins_of (make mode false max_levels true) goes.0 p (front ++ b ∷ []) (longer_path (make mode false max_levels true) reached goes.0 fresh p front b way goes.1))
