-- Reading a form.
use Rattle.std.proofs.Common.{◌≡◌, ◌≤◌, ◌<◌, ℕ, zero, suc, ◌+◌, Bool, true, false, not, ◌&&◌, ◌||◌, cond, eqb, ltb, List, [], ◌∷◌, ◌++◌, length, inl, inr, refl, sym, ap, subst, ◌∙◌, arith, append_assoc}
use Rattle.std.specs.Prelude.{◌⊎◌}
use Rattle.std.proofs.lemmas.Bool.{eqb-true}
use Rattle.kh_term.specs.declared.tree.TermTree.{TermTree}
use Rattle.kh_term.specs.Size.{size_of}
use Rattle.kh_text_defs.specs.declared.mode.Mode.{Mode}
use Rattle.kh_text_defs.specs.declared.mode.Mode.TheVariants.{Script, Listing}
use Rattle.kh_text_defs.specs.Blanks.{Wide, begins_no_blank}
use Rattle.kh_text_defs.specs.Faults.{max_size}
use Rattle.kh_text_defs.specs.Spelled.{Rules, Spells, IsForm}
use Rattle.kh_read.specs.State.{Frame, Place, Before, After, Dotted, State, Setting, Halt, Syntax, Large, Step, Go, Stop, Reading, Cut, Halted}
use Rattle.kh_read.specs.Steps.{at, fault, begin_term, step_before, step_after, step_place, read_on, fresh}
use Rattle.kh_read.proofs.TextCore.{spot, byte_goes, byte_stops, is_blank_byte}
use Rattle.kh_read.proofs.TextReads.{Reads, whole, part, halted, any, reads_as, reads_then, Then, Sample}
use Rattle.kh_read.proofs.TextBrackets.{after_step, after_cut, Ready, behind_term, wide_term, Closing, closing_sample}
use Rattle.kh_read.proofs.TextTerms.{terms}

abbrev pub dotted : TermTree → State
dotted t = spot (Dotted t) []

module _ (σ : Setting) where
  pub top_ready : Ready σ [] σ.levels
  top_ready = record { room = omega arith; segment = refl; arity = refl; name = refl }

  pub top_begin : (p b : ℕ) → step_before σ [] p b ≡ begin_term σ [] p b
  unfolding step_before
  top_begin p b = refl

  pub top_dot : (t : TermTree) (b : ℕ) → eqb b 46 ≡ true → step_after σ.sized [] t b ≡ cond (σ.sized && ltb max_size (size_of t)) (Stop Large) (at (Dotted t) [])
  unfolding step_after
  top_dot t b e = rw e refl

  pub top_fault : (t : TermTree) (b : ℕ) → eqb b 46 ≡ false → step_after σ.sized [] t b ≡ fault
  unfolding step_after
  top_fault t b e = rw e refl

  dot : (t : TermTree) (q b : ℕ) (rest : List ℕ) → is_blank_byte b ≡ false → Reads σ any (Closing 46 t) dotted q (b ∷ rest) (read_on σ (behind_term [] t) q (b ∷ rest))
  dot t q b rest mark = go (eqb b 46) (σ.sized && ltb max_size (size_of t)) refl refl
    where
      go : (d l : Bool) → eqb b 46 ≡ d → (σ.sized && ltb max_size (size_of t)) ≡ l → Reads σ any (Closing 46 t) dotted q (b ∷ rest) (read_on σ (behind_term [] t) q (b ∷ rest))
      go true true e f = halted Large q (byte_stops σ (After t) [] q b rest _ (after_step σ t [] q b mark ∙ (top_dot t b e ∙ ap (λ (k : Bool). cond k (Stop Large) (at (Dotted t) [])) f)))
      go true false e f =
          whole (b ∷ []) rest t (suc q) refl (record { is = ap (λ (k : ℕ). k ∷ []) (eqb-true b 46 e); same = refl }) refl
          (byte_goes σ (After t) [] q b rest _ (after_step σ t [] q b mark ∙ (top_dot t b e ∙ ap (λ (k : Bool). cond k (Stop Large) (at (Dotted t) [])) f))) (omega arith)
      go false l e f = halted Syntax q (byte_stops σ (After t) [] q b rest _ (after_step σ t [] q b mark ∙ top_fault t b e))

  form_text : (text : List ℕ) (t : TermTree) → Then (Wide (Spells σ.rules σ.levels)) (λ u. Closing 46 u) text t → IsForm σ.rules σ.levels text t
  form_text text t h = (
    h.first,
    subst (λ (u : TermTree). Wide (Spells σ.rules σ.levels) h.first u) (sym h.is_second.same) h.is_first,
    h.parts ∙ ap (λ (w : List ℕ). h.first ++ w) h.is_second.is,
  )

  -- a form, from its blanks to its dot
  pub forms : (p : ℕ) (text : List ℕ) → Reads σ any (IsForm σ.rules σ.levels) dotted p text (read_on σ fresh p text)
  forms p text =
      reads_as σ any (Then (Wide (Spells σ.rules σ.levels)) (λ u. Closing 46 u)) (IsForm σ.rules σ.levels) dotted dotted (λ t. t) p text _ _ form_text (λ t. refl) refl
      (reads_then σ any (Wide (Spells σ.rules σ.levels)) (λ u. Closing 46 u) (behind_term []) dotted (λ t q. after_cut σ t [] q) (λ t. closing_sample 46 t) dot p text _
      (wide_term σ σ.levels [] (terms σ σ.levels) top_ready top_begin p text))
