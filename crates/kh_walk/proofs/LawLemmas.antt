-- The laws of patterns over trees.
use Rattle.std.proofs.Common.{◌≡◌, ◌↔◌, ℕ, ◌+◌, ◌-◌, ◌<◌, Bool, true, false, List, [], ◌∷◌, ◌++◌, length, take, IsTrue, refl, ap, sym, subst, ◌∙◌, append-nil, length-append, take_all, arith}
use Rattle.std.proofs.lemmas.Bool.{and_parts}
use Rattle.std.specs.FinMap.{contains_key}
use Rattle.std.specs.List.{list_all}
use Rattle.kh_cond.specs.declared.component.Component.{Component}
use Rattle.kh_cond.specs.declared.component.Component.TheVariants as component
use Rattle.kh_cond.specs.declared.cond.Regex.TheVariants as regex
use Rattle.kh_cond.specs.Holds.{Search}
use Rattle.kh_term.specs.declared.name.Name.{Name}
use Rattle.kh_tree.specs.Nodes.{Nodes, IsTree}
use Rattle.kh_tree.proofs.Fronts.{fronts_are_keys}
use Rattle.kh_tree.proofs.Paths.{never}
use Rattle.kh_walk.specs.Laws.{AnyMatchesAllBelow, EmptyMatchesRoot, OneLevelKeepsLength, is_one_level}
use Rattle.kh_walk.specs.Takes.{AllTake, Matches, Takes, TakesMany}
use Rattle.kh_walk.proofs.Splits.{only}

pub empty_root : (S : Type 0) → EmptyMatchesRoot S
empty_root S search m path = (λ e. e, λ e. e)

module _ {S : Type 0} (search : Search) (m : Nodes S) where
  takes_one : (c : Component) (above front : List Name) → is_one_level c ≡ true → Takes search m above c front → length front ≡ 1
  takes_one (component.One c) above front is t = t.one
  takes_one (component.Many r) above front is t = never (sym is)
  takes_one (component.ManyAll r further) above front is t = never (sym is)

  as_long : (q : List Component) (above path : List Name) → list_all is_one_level q ≡ true → AllTake search m above q path → length path ≡ length q
  as_long [] above path is t = ap length t
  as_long (c ∷ q) above path is t =
      let parts = and_parts (is_one_level c) (list_all is_one_level q) is in
      let one = takes_one c above t.front parts.0 t.front_is in
      let rest = as_long q (above ++ t.front) t.rest parts.1 t.rest_is in
      let whole = ap length t.whole in
      let both = length-append t.front t.rest in
      omega (arith, one, rest, whole, both)

pub one_level : (S : Type 0) → OneLevelKeepsLength S
one_level S search m q path is t = as_long search m q [] path is t

pub any_below : (S : Type 0) → AnyMatchesAllBelow S
any_below S search m path tree = (forth, back) where
  forth : Matches search m (component.Many regex.Any ∷ []) path → IsTrue (contains_key m path) × (0 < length path)
  forth t = subst (λ p. IsTrue (contains_key m p) × (0 < length p)) (sym (t.whole ∙ ap (λ r. t.front ++ r) t.rest_is ∙ append-nil t.front)) (node, t.front_is.some) where
    node : contains_key m t.front ≡ true
    node = let some = t.front_is.some in
        ap (contains_key m) (sym (take_all (length t.front - 1 + 1) t.front (omega (arith, some)))) ∙ t.front_is.nodes (length t.front - 1) (omega (arith, some))

  back : IsTrue (contains_key m path) × (0 < length path) → Matches search m (component.Many regex.Any ∷ []) path
  back h = only search m (component.Many regex.Any) [] path taken where
    taken : TakesMany search m [] regex.Any [] path
    taken = record { some = h.1; nodes = λ k less. fronts_are_keys m tree path h.0 (k + 1); found = refl; hold = refl }
