-- Induction over conditions, row by row.
use Rattle.std.proofs.Common.{◌≡◌, Bool, List, [], ◌∷◌, map, sym, subst}
use Rattle.kh_term.specs.Lemmas.Induction.{Each}
use Rattle.kh_term.specs.declared.name.Name.{Name}
use Rattle.kh_term.specs.declared.term.Term.{Term}
use Rattle.kh_cond.specs.declared.cond.Regex.{Regex}
use Rattle.kh_cond.specs.declared.cond.Comparison.{Comparison}
use Rattle.kh_cond.specs.declared.cond.Cond.{Cond}
use Rattle.kh_cond.specs.declared.cond.Cond.TheVariants as cond
use Rattle.kh_cond.specs.declared.cond.Cond.TheVariants.{rolls-Name, rolls-NodeExists, rolls-NameMatches, rolls-PathMatches, rolls-HasPayload, rolls-HasData, rolls-HasSproc, rolls-DataMatches, rolls-PayloadVersion, rolls-ChildListVersion, rolls-ChildListLength, rolls-Not, rolls-All, rolls-Any}
use Rattle.kh_cond.specs.declared.cond.Cond.TheViews.{roll-Cond}
use Rattle.kh_cond.specs.declared.cond.Cond.TheOpen.{Cond-F}
use Rattle.kh_cond.specs.declared.cond.Cond.TheOpen as layer
use Rattle.kh_cond.specs.declared.cond.Cond.TheFolds.{ind-Cond, map-Cond}

-- What shows P of each condition: each row, and the combinations where it is shown of their parts.
pub record Steps (P : Cond → Type 0) : Type 0 where
  pub at_name : (n : Name) → P (cond.Name n)
  pub at_node_exists : (b : Bool) → P (cond.NodeExists b)
  pub at_name_matches : (r : Regex) → P (cond.NameMatches r)
  pub at_path_matches : (r : Regex) → P (cond.PathMatches r)
  pub at_has_payload : (b : Bool) → P (cond.HasPayload b)
  pub at_has_data : (b : Bool) → P (cond.HasData b)
  pub at_has_sproc : (b : Bool) → P (cond.HasSproc b)
  pub at_data_matches : (pattern : Term) → P (cond.DataMatches pattern)
  pub at_payload_version : (c : Comparison) → P (cond.PayloadVersion c)
  pub at_child_list_version : (c : Comparison) → P (cond.ChildListVersion c)
  pub at_child_list_length : (c : Comparison) → P (cond.ChildListLength c)
  pub at_not : (c : Cond) → P c → P (cond.Not c)
  pub at_all : (cs : List Cond) → Each P cs → P (cond.All cs)
  pub at_any : (cs : List Cond) → Each P cs → P (cond.Any cs)

parts_of : (P : Cond → Type 0) (ys : List ((c : Cond) × P c)) → Each P (map (λ e. e.0) ys)
parts_of P [] = tt
parts_of P (y ∷ ys) = (y.1, parts_of P ys)

pub by_rows : (P : Cond → Type 0) → Steps P → (c : Cond) → P c
by_rows P steps = ind-Cond P step
  where
    step : (x : Cond-F Cond) (y : Cond-F ((c : Cond) × P c)) → map-Cond ((c : Cond) × P c) Cond (λ e. e.0) y ≡ x → P (roll-Cond x)
    step x (layer.Name n) is = subst (λ z. P (roll-Cond z)) is (subst P (sym (rolls-Name n)) (steps.at_name n))
    step x (layer.NodeExists b) is = subst (λ z. P (roll-Cond z)) is (subst P (sym (rolls-NodeExists b)) (steps.at_node_exists b))
    step x (layer.NameMatches r) is = subst (λ z. P (roll-Cond z)) is (subst P (sym (rolls-NameMatches r)) (steps.at_name_matches r))
    step x (layer.PathMatches r) is = subst (λ z. P (roll-Cond z)) is (subst P (sym (rolls-PathMatches r)) (steps.at_path_matches r))
    step x (layer.HasPayload b) is = subst (λ z. P (roll-Cond z)) is (subst P (sym (rolls-HasPayload b)) (steps.at_has_payload b))
    step x (layer.HasData b) is = subst (λ z. P (roll-Cond z)) is (subst P (sym (rolls-HasData b)) (steps.at_has_data b))
    step x (layer.HasSproc b) is = subst (λ z. P (roll-Cond z)) is (subst P (sym (rolls-HasSproc b)) (steps.at_has_sproc b))
    step x (layer.DataMatches pattern) is = subst (λ z. P (roll-Cond z)) is (subst P (sym (rolls-DataMatches pattern)) (steps.at_data_matches pattern))
    step x (layer.PayloadVersion n) is = subst (λ z. P (roll-Cond z)) is (subst P (sym (rolls-PayloadVersion n)) (steps.at_payload_version n))
    step x (layer.ChildListVersion n) is = subst (λ z. P (roll-Cond z)) is (subst P (sym (rolls-ChildListVersion n)) (steps.at_child_list_version n))
    step x (layer.ChildListLength n) is = subst (λ z. P (roll-Cond z)) is (subst P (sym (rolls-ChildListLength n)) (steps.at_child_list_length n))
    step x (layer.Not y) is = subst (λ z. P (roll-Cond z)) is (subst P (sym (rolls-Not _)) (steps.at_not y.0 y.1))
    step x (layer.All ys) is = subst (λ z. P (roll-Cond z)) is (subst P (sym (rolls-All _)) (steps.at_all _ (parts_of P ys)))
    step x (layer.Any ys) is = subst (λ z. P (roll-Cond z)) is (subst P (sym (rolls-Any _)) (steps.at_any _ (parts_of P ys)))
