-- Entries in the order of their keys, beside the words of `Rattle.std.specs.FinMap`.
use Rattle.std.specs.Prelude.{Bool, not, T, List, [], ◌∷◌, Some, None, MatchOption}
use Rattle.std.specs.Ordering.{is_lt, eq_by_cmp}
use Rattle.std.specs.List as list
use Rattle.std.specs.List.{IsAmong, AllByRecursion}
use Rattle.std.specs.FinMap.Entries.{where_key, is_sorted}
use Rattle.std.specs.declared.cmp.Ordering.{Ordering}
use Rattle.std.specs.declared.option.Option.{Option}

module _ {K : Type 0} (R : K → K → Ordering) where
  -- whether a key is another one than k
  abbrev pub is_other : K → K → Bool
  is_other k x = not (eq_by_cmp R k x)

  -- whether a key is greater than k
  abbrev pub is_above : K → K → Bool
  is_above k x = is_lt (R k x)

  -- the first entry whose key is greater than k: where keys rise, the one with the least greater key
  abbrev pub first_above : {V : Type 0} → K → List (K × V) → Option (K × V)
  first_above k = list.find (λ e. is_above k e.0)

  -- an entry and those with greater keys, or none where there is no entry
  abbrev pub entries_from : {V : Type 0} → Option (K × V) → List (K × V) → List (K × V)
  entries_from None es = []
  entries_from (Some e) es = e ∷ where_key R (is_above e.0) es

  -- e is the entry with the least key that is greater than k
  pub record IsLeastAbove {V : Type 0} (k : K) (e : K × V) (es : List (K × V)) : Type 0 where
    pub among : IsAmong es e
    pub above : T (is_above k e.0)
    pub least : AllByRecursion (λ x. T (is_above k x.0) → T (not (is_lt (R x.0 e.0)))) es

  -- no key is greater than k
  abbrev pub NoneAbove : {V : Type 0} → K → List (K × V) → Type 0
  NoneAbove k es = AllByRecursion (λ x. T (not (is_above k x.0))) es

  -- where keys rise, the first entry above k is the one with the least greater key, and none is found where none is above
  abbrev pub FirstIsLeast : (V : Type 0) → Type 0
  FirstIsLeast V = (k : K) (es : List (K × V)) → T (is_sorted R es) → MatchOption (first_above k es) (NoneAbove k es) (λ e. IsLeastAbove k e es)
