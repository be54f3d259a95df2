-- A text spells at most one term.
use Rattle.std.proofs.Common.{◌≡◌, ℕ, ◌+◌, Bool, true, false, ◌&&◌, List, [], ◌∷◌, ◌++◌, length, refl, sym, ap, ◌∙◌}
use Rattle.std.proofs.lemmas.List.{append-nil}
use Rattle.kh_term.specs.declared.tree.TermTree.{TermTree}
use Rattle.kh_text_defs.specs.Blanks.{no_blank, Wide}
use Rattle.kh_text_defs.specs.Spelled.{Rules, Spells, IsForm}
use Rattle.kh_read.specs.State.{State, Setting, Reading, Ended}
use Rattle.kh_read.specs.Steps.{read_on, fresh}
use Rattle.kh_read.proofs.TextLeadsForms.{form_read}

same_term : (t u : TermTree) (m n : ℕ) → Ended t m ≡ Ended u n → t ≡ u
same_term t u m n e = cc

pub one_form : (rules : Rules) (levels : ℕ) (text : List ℕ) (t u : TermTree) → IsForm rules levels text t → IsForm rules levels text u → t ≡ u
one_form rules levels text t u h k =
    let σ : Setting = record { rules = rules; levels = levels; sized = false } in
    same_term t u _ _ (sym (form_read σ text [] t 0 h refl refl) ∙ form_read σ text [] u 0 k refl refl)

with_dot : (rules : Rules) (levels : ℕ) (text : List ℕ) (t : TermTree) → Spells rules levels text t → IsForm rules levels (text ++ 46 ∷ []) t
with_dot rules levels text t h = (text, record { before = []; inside = text; behind = []; blank_before = no_blank; stands = h; blank_behind = no_blank; parts = sym (append-nil text) }, refl)

pub one_term : (rules : Rules) (levels : ℕ) (text : List ℕ) (t u : TermTree) → Spells rules levels text t → Spells rules levels text u → t ≡ u
one_term rules levels text t u h k = one_form rules levels (text ++ 46 ∷ []) t u (with_dot rules levels text t h) (with_dot rules levels text u k)
