-- `Shared` as a type that may hold the type that holds it: the value is what it holds.
use mathlib.Core.Path.{◌≡◌, refl}
use mathlib.Core.List.{[], ◌∷◌}
use mathlib.Core.Former.{Former, arity, children, this, const, pair, via}
use base.Stored.{Gv, gnil, gcons}
use base.Fml.{ftrue}
use denote.RattleType.{RattleType}
use denote.Memory.{part_of}
use denote.RawPtr.{Ptr}
use denote.Sharing.{nothing}
use denote.HoleLaws.{Alike}
use denote.HolePlaces.{Recodes, one_value}
use denote.Hole.Carrier.{listed}
use denote.Param.Weighed.{Weighed}
use Rattle.std.specs.Prelude.{List}
use Rattle.std.specs.declared.alloc.Global.{Global}
use Rattle.kh_shared.specs.declared.shared.Shared.{Shared}
use Rattle.kh_shared.specs.contracts.shared.Shared as C

-- all but the value
abbrev Rest : Type 0
Rest = Ptr × Ptr × Global × Gv

abbrev with_value : {X Y : Type 0} → Shared X → Y → Shared Y
with_value s y = record { count = s.count; at = s.at; alloc = s.alloc; value = y; mark = s.mark }

abbrev pub the_former : Former {0} → Former {0}
the_former g = via (pair (const Rest) g) (λ X. Shared (g.Of X)) (λ X s. ((s.count, s.at, s.alloc, s.mark), s.value))
    (λ X v. record { count = v.0.0; at = v.0.1; alloc = v.0.2; value = v.1; mark = v.0.3 }) (λ X s. refl) (λ X v. refl)

abbrev pub the_weighed : {g : Former {0}} → Weighed g → Weighed (the_former g)
the_weighed w = record { weight = λ X μ s. w.weight X μ s.value; puts = λ X μ s. w.puts X μ s.value }

abbrev pub the_items : (X : Type 0) → Shared X → List X
the_items X s = s.value ∷ []

pub the_items_listed : (X : Type 0) (s : Shared X) → listed (arity (the_former this) ((the_former this).shape X s)) (children (the_former this) X s) ≡ the_items X s
the_items_listed X s = refl

first : {a b c : Gv} → a ≡ b → gcons a c ≡ gcons b c
first {c = c} e = λ i. gcons (e i) c

second : {a b c : Gv} → a ≡ b → gcons c a ≡ gcons c b
second {c = c} e = λ i. gcons c (e i)

module _ (R S : RattleType) (h : R.Denot → S.Denot) where
  pub the_places : Alike R S h → Alike (C.the_row R) (C.the_row S) ((the_former this).map R.Denot S.Denot h)
  unfolding part_of
  the_places a = record {
    mir_same = λ i. (C.the_row (one_value R (a.mir_same i) (λ _. ftrue) (λ _ _. nothing) gnil)).mir;
    own_same = λ d i. (C.the_row (one_value R (a.mir_same i) (a.own_same d.value i) (a.shr_same d.value i) gnil)).own_val (with_value d tt);
    shr_same = λ d i. (C.the_row (one_value R (a.mir_same i) (a.own_same d.value i) (a.shr_same d.value i) gnil)).shr_at (with_value d tt);
  }

  pub the_codes_placed : Recodes R S h → Recodes (C.the_row R) (C.the_row S) ((the_former this).map R.Denot S.Denot h)
  the_codes_placed e d = second (first (e d.value))
