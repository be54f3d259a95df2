-- What the sets of labels and entries hold that the search for faults keeps.
use Rattle.std.specs.Prelude.{◌≡◌, ℕ, Bool, true, false, nat_eq, nat_le, ◌&&◌, List, length, Option, Some, None}
use Rattle.std.specs.declared.cmp.Ordering.{Ordering}
use Rattle.std.specs.Cmp.Lexicographic.{slice_cmp}
use Rattle.std.specs.List.{list_any}
use Rattle.std.specs.Ordering.{nat_cmp, ordering_then}
use Rattle.std.specs.BTreeMap.{BTreeMap}
use Rattle.std.specs.BTreeMap as tree
use Rattle.std.specs.BTreeSet.{BTreeSet, contains}
use Rattle.kh_instr.specs.declared.instr.Instr.{Instr}
use Rattle.kh_instr.specs.declared.instr.Instr.TheVariants as instr
use Rattle.kh_listing.specs.declared.form.Form.{Form}
use Rattle.kh_listing.specs.declared.form.Form.TheVariants as form
use Rattle.kh_listing.specs.Places.{labels_in}

-- pairs of numbers, by the first and then by the second
abbrev pub pair_cmp : ℕ × ℕ → ℕ × ℕ → Ordering
pair_cmp x y = ordering_then (nat_cmp x.0 y.0) (nat_cmp x.1 y.1)

abbrev pub has_pair : BTreeSet (ℕ × ℕ) → ℕ → ℕ → Bool
has_pair s a b = contains pair_cmp s (a, b)

-- names of functions, by their bytes, and then by the arity
abbrev pub name_cmp : List ℕ × ℕ → List ℕ × ℕ → Ordering
name_cmp x y = ordering_then (slice_cmp nat_cmp x.0 y.0) (nat_cmp x.1 y.1)

abbrev pub has_name : BTreeSet (List ℕ × ℕ) → List ℕ → ℕ → Bool
has_name s name arity = contains name_cmp s (name, arity)

-- the labels of all functions, each with the number of its function
abbrev pub AreHomes : BTreeSet (ℕ × ℕ) → List Form → Type 0
AreHomes homes fs = (k l : ℕ) → has_pair homes k l ≡ list_any (nat_eq l) (labels_in k fs)

-- whether a form is that of a function with this entry, and its arity fits
abbrev pub begins_at : ℕ → (ℕ → Bool) → Form → Bool
begins_at label fits (form.Function h) = nat_eq h.entry label && fits h.arity
begins_at label fits f = false

-- the entries of all functions, each with an arity
abbrev pub AreEntries : BTreeSet (ℕ × ℕ) → List Form → Type 0
AreEntries entries fs = (l n : ℕ) → has_pair entries l n ≡ list_any (begins_at l (nat_eq n)) fs

-- whether so many captured values are at most an arity, where there is one
abbrev pub takes : Option ℕ → ℕ → Bool
takes None captured = false
takes (Some arity) captured = nat_le captured arity

-- the entries of all functions, each with the greatest arity there
abbrev pub AreWidest : BTreeMap ℕ ℕ → List Form → Type 0
AreWidest widest fs = (l c : ℕ) → takes (tree.get nat_cmp widest l) c ≡ list_any (begins_at l (nat_le c)) fs

-- whether a local call or a closure leads to a function that fits, by what such sets hold
abbrev pub leads_by : BTreeSet (ℕ × ℕ) → BTreeMap ℕ ℕ → Instr → Bool
leads_by exact widest (instr.Call n l) = has_pair exact l n
leads_by exact widest (instr.CallLast n l d) = has_pair exact l n
leads_by exact widest (instr.CallOnly n l) = has_pair exact l n
leads_by exact widest (instr.MakeFun3 l r captured) = takes (tree.get nat_cmp widest l) (length captured)
leads_by exact widest i = true
