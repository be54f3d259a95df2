-- When a condition holds of a node.
use Rattle.std.specs.Prelude.{ℕ, Bool, true, false, not, List, [], Option, Some, None, is_some, ℤ, pos}
use Rattle.std.specs.List.{list_all, list_any}
use Rattle.std.specs.Ordering.{is_eq, is_ne, is_lt, is_le, is_gt, is_ge, int_cmp}
use Rattle.kh_term.specs.declared.kinds.Kind.{Kind}
use Rattle.kh_term.specs.declared.kinds.Kind.TheVariants as kind
use Rattle.kh_term.specs.declared.name.Name.{Name}
use Rattle.kh_term.specs.declared.view.NodeView.{NodeView}
use Rattle.kh_term.specs.declared.term.Term.{Term}
use Rattle.kh_term.specs.Name.{name_cmp, name_text}
use Rattle.kh_cond.specs.declared.cond.Regex.{Regex}
use Rattle.kh_cond.specs.declared.cond.Regex.TheVariants as regex
use Rattle.kh_cond.specs.declared.cond.Operator.{Operator}
use Rattle.kh_cond.specs.declared.cond.Operator.TheVariants as operator
use Rattle.kh_cond.specs.declared.cond.Comparison.{Comparison}
use Rattle.kh_cond.specs.declared.cond.Comparison.TheVariants as comparison
use Rattle.kh_cond.specs.declared.cond.Cond.{Cond}
use Rattle.kh_cond.specs.declared.cond.Cond.TheOpen.{Cond-F}
use Rattle.kh_cond.specs.declared.cond.Cond.TheOpen as layer
use Rattle.kh_cond.specs.declared.cond.Cond.TheFolds.{fold-Cond}
use Rattle.kh_cond.specs.Matching.{matches_data}

-- the stated search of an engine: of a text, in bytes
abbrev pub Search : Type 0
Search = List ℕ → List ℕ → Bool

-- the bytes of a node's name, of which the root has none
abbrev pub name_bytes : Option Name → List ℕ
name_bytes None = []
name_bytes (Some n) = name_text n

-- no name is that of the root
abbrev pub is_named : Name → Option Name → Bool
is_named n None = false
is_named n (Some m) = is_eq (name_cmp n m)

-- `any` is found in all bytes
abbrev pub is_found : Search → Regex → List ℕ → Bool
is_found search regex.Any bytes = true
is_found search (regex.Text text) bytes = search text bytes

abbrev pub has_payload : Kind → Bool
has_payload kind.Empty = false
has_payload kind.Data = true
has_payload kind.Sproc = true

abbrev pub has_data : Kind → Bool
has_data kind.Empty = false
has_data kind.Data = true
has_data kind.Sproc = false

abbrev pub has_sproc : Kind → Bool
has_sproc kind.Empty = false
has_sproc kind.Data = false
has_sproc kind.Sproc = true

-- both or neither
abbrev pub agree : Bool → Bool → Bool
agree true b = b
agree false b = not b

-- whether a node has data that match the pattern
abbrev pub data_match : Term → Option Term → Bool
data_match pattern None = false
data_match pattern (Some datum) = matches_data pattern.node datum.node

-- how a number compares with one of a condition
abbrev pub compares_by : Operator → ℤ → ℤ → Bool
compares_by operator.Equal n z = is_eq (int_cmp n z)
compares_by operator.NotEqual n z = is_ne (int_cmp n z)
compares_by operator.Less n z = is_lt (int_cmp n z)
compares_by operator.AtMost n z = is_le (int_cmp n z)
compares_by operator.Greater n z = is_gt (int_cmp n z)
compares_by operator.AtLeast n z = is_ge (int_cmp n z)

abbrev pub compares : Comparison → ℕ → Bool
compares (comparison.Is z) n = compares_by operator.Equal (pos n) z
compares (comparison.By op z) n = compares_by op (pos n) z

-- what a condition on a node itself says of one that exists; a path's regular expression holds of none
abbrev pub row : {A : Type 0} → Search → NodeView → Cond-F A → Bool
row search v (layer.Name n) = is_named n v.name
row search v (layer.NameMatches r) = is_found search r (name_bytes v.name)
row search v (layer.PathMatches r) = false
row search v (layer.HasPayload b) = agree b (has_payload v.payload)
row search v (layer.HasData b) = agree b (has_data v.payload)
row search v (layer.HasSproc b) = agree b (has_sproc v.payload)
row search v (layer.DataMatches pattern) = data_match pattern v.datum
row search v (layer.PayloadVersion c) = compares c v.payload_version
row search v (layer.ChildListVersion c) = compares c v.child_list_version
row search v (layer.ChildListLength c) = compares c v.children
row search v c = false

-- a row holds of no missing node
abbrev pub if_there : {A : Type 0} → Search → Option NodeView → Cond-F A → Bool
if_there search None c = false
if_there search (Some v) c = row search v c

-- Whether a node exists is told of a missing one too, and combinations are by their parts.
abbrev pub holds_step : Search → Option NodeView → Cond-F Bool → Bool
holds_step search view (layer.NodeExists b) = agree b (is_some view)
holds_step search view (layer.Not x) = not x
holds_step search view (layer.All xs) = list_all (λ x. x) xs
holds_step search view (layer.Any xs) = list_any (λ x. x) xs
holds_step search view c = if_there search view c

-- whether a condition holds of a node as it is seen, or of a missing one
abbrev pub holds : Search → Option NodeView → Cond → Bool
holds search view = fold-Cond Bool (holds_step search view)
