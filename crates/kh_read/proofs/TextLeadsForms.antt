-- A form is read as it is spelled.
use Rattle.std.proofs.Common.{◌≡◌, ◌≤◌, ◌<◌, ℕ, zero, suc, ◌+◌, Bool, true, false, not, ◌&&◌, ◌||◌, cond, eqb, ltb, List, [], ◌∷◌, ◌++◌, length, inl, inr, refl, sym, ap, subst, ◌∙◌, arith, append_assoc}
use Rattle.std.specs.Char.{is_ascii_digit}
use Rattle.std.proofs.lemmas.Bool.{not_from_false}
use Rattle.std.proofs.lemmas.Bool.Decides.{nat_tests}
use Rattle.std.proofs.lemmas.List.{append-nil}
use Rattle.kh_term.specs.declared.tree.TermTree.{TermTree}
use Rattle.kh_term.specs.Size.{size_of}
use Rattle.kh_text_defs.specs.declared.mode.Mode.{Mode}
use Rattle.kh_text_defs.specs.declared.mode.Mode.TheVariants.{Script, Listing}
use Rattle.kh_text_defs.specs.Blanks.{is_space, Wide, may_follow}
use Rattle.kh_text_defs.specs.Faults.{max_size}
use Rattle.kh_text_defs.specs.Spelled.{Rules, Spells, IsForm}
use Rattle.kh_read.specs.State.{Frame, Place, Before, After, Dotted, State, Setting, Step, Done, Stop, Large, Reading, Ended, Halted}
use Rattle.kh_read.specs.Steps.{at, begin_term, step_before, step_after, step_mark, step_between, step_dotted, step_place, step, continued, read_on, fresh}
use Rattle.kh_read.proofs.TextCore.{spot, at_the_end, byte_stops}
use Rattle.kh_read.proofs.TextReads.{any}
use Rattle.kh_read.proofs.TextDigits.{no_digit}
use Rattle.kh_read.proofs.TextBrackets.{between_before, between_after, Ready, behind_term}
use Rattle.kh_read.proofs.TextForms.{dotted}
use Rattle.kh_read.proofs.TextLeads.{Leads, leads_byte, leads_then, good_end, blank_good, wide_leads_to}
use Rattle.kh_read.proofs.TextLeadsBinaries.{starts_term, Begins, begins_by}
use Rattle.kh_read.proofs.TextLeadsDeep.{term_leads}

module _ (σ : Setting) where
  top_ready : Ready σ [] σ.levels
  top_ready = record { room = omega arith; segment = refl; arity = refl; name = refl }

  top_begin : (p b : ℕ) → starts_term b ≡ true → step_before σ [] p b ≡ begin_term σ [] p b
  unfolding step_before
  top_begin p b sure = refl

  dot_step : (t : TermTree) (p : ℕ) → (σ.sized && ltb max_size (size_of t)) ≡ false → step_place σ (After t) [] p 46 ≡ at (Dotted t) []
  unfolding step_place step_between step_mark step_after
  dot_step t p small = rw small refl

  -- behind a form no digit stands
  follow_quiet : (rest : List ℕ) → may_follow rest ≡ true → no_digit rest ≡ true
  follow_quiet [] follows = refl
  follow_quiet (b ∷ rest) follows = not_from_false _ (go (is_ascii_digit b) refl)
    where
      go : (t : Bool) → is_ascii_digit b ≡ t → is_ascii_digit b ≡ false
      go false e = e
      go true e = absurd (let clash : false ≡ true = sym (no_space b e) ∙ follows in cc)
        where
          no_space : (c : ℕ) → is_ascii_digit c ≡ true → (is_space c || eqb c 37) ≡ false
          no_space c h = grind (arith, nat_tests)

  -- a form leads to its dot, where its size is allowed
  pub form_leads : (text : List ℕ) (t : TermTree) → IsForm σ.rules σ.levels text t → (σ.sized && ltb max_size (size_of t)) ≡ false → Leads σ fresh text (dotted t) no_digit
  form_leads text t h small =
      subst (λ (w : List ℕ). Leads σ fresh w (dotted t) no_digit) (sym h.2)
      (leads_then σ fresh (behind_term [] t) (dotted t) h.0 (46 ∷ []) (good_end true) no_digit
      (wide_leads_to σ (Spells σ.rules σ.levels) Before [] After (λ u. []) h.0 t (good_end true) (blank_good true) (between_before σ []) (between_after σ t [])
      (λ u k. term_leads σ σ.levels [] top_ready (begins_by σ [] top_begin) u t k) h.1)
      (λ p rest q. leads_byte σ (After t) [] 46 (dotted t) (λ n. dot_step t n small) p rest refl) (λ rest q. q))

  -- behind the dot
  pub dotted_ends : (t : TermTree) (p : ℕ) (rest : List ℕ) → may_follow rest ≡ true → read_on σ (dotted t) p rest ≡ Ended t p
  unfolding read_on step step_place
  dotted_ends t p [] follows = refl
  dotted_ends t p (b ∷ rest) follows = rw follows refl

  -- what is spelled is read
  pub form_read : (text rest : List ℕ) (t : TermTree) (p : ℕ) → IsForm σ.rules σ.levels text t → (σ.sized && ltb max_size (size_of t)) ≡ false → may_follow rest ≡ true
      → read_on σ fresh p (text ++ rest) ≡ Ended t (p + length text)
  form_read text rest t p h small follows = form_leads text t h small p rest (follow_quiet rest follows) ∙ dotted_ends t (p + length text) rest follows

  large_step : (t : TermTree) (p : ℕ) → (σ.sized && ltb max_size (size_of t)) ≡ true → step_place σ (After t) [] p 46 ≡ Stop Large
  unfolding step_place step_between step_mark step_after
  large_step t p big = rw big refl

  -- a form whose term is too large halts reading at its dot
  pub large_form : (text rest : List ℕ) (t : TermTree) (p : ℕ) → IsForm σ.rules σ.levels text t → (σ.sized && ltb max_size (size_of t)) ≡ true → may_follow rest ≡ true
      → (q : ℕ) × (read_on σ fresh p (text ++ rest) ≡ Halted Large q)
  large_form text rest t p h big follows = (
    p + length h.0,
    ap (λ (w : List ℕ). read_on σ fresh p (w ++ rest)) h.2 ∙ (ap (λ (w : List ℕ). read_on σ fresh p w) (append_assoc h.0 (46 ∷ []) rest)
        ∙ (wide_leads_to σ (Spells σ.rules σ.levels) Before [] After (λ u. []) h.0 t (good_end true) (blank_good true) (between_before σ []) (between_after σ t [])
        (λ u k. term_leads σ σ.levels [] top_ready (begins_by σ [] top_begin) u t k) h.1 p (46 ∷ rest) (follow_quiet rest follows)
        ∙ byte_stops σ (After t) [] (p + length h.0) 46 rest Large (large_step t (p + length h.0) big))),
  )
