-- The laws of maps and of lists of bytes.
use Rattle.std.specs.Prelude.{◌≡◌, ◌↔◌, ℕ, List, Some, None, if◌then◌else◌}
use Rattle.std.specs.BTreeMap.{insert_entry}
use Rattle.std.specs.Ordering.{is_eq}
use Rattle.kh_term.specs.declared.term.Pairs.{Pairs}
use Rattle.kh_term.specs.declared.term.Term.{Term}
use Rattle.kh_term.specs.Lookup.{value_at}
use Rattle.kh_term.specs.MapOf.{later, map_with}
use Rattle.kh_term.specs.Order.{term_cmp}
use Rattle.kh_bif_data.specs.Iolists.{IsIolist, iolist}
use Rattle.kh_bif_data.specs.Maps.{others}

-- At the key that was put stands its value, and at each other what stood there.
abbrev pub FoundIsWhatWasPut : Type 0
FoundIsWhatWasPut =
    (m : Pairs) (key value other : Term)
    → value_at other.node (insert_entry term_cmp m.nodes key.node value.node)
    ≡ (if is_eq (term_cmp key.node other.node) then Some value.node else value_at other.node m.nodes)

-- At the key that was removed nothing stands, and at each other what stood there.
abbrev pub OnlyTheKeyIsRemoved : Type 0
OnlyTheKeyIsRemoved =
    (m : Pairs) (key other : Term)
    → value_at other.node (others key.node m.nodes)
    ≡ (if is_eq (term_cmp key.node other.node) then None else value_at other.node m.nodes)

-- Of two maps the second counts, where it has the key.
abbrev pub TheSecondMapCounts : Type 0
TheSecondMapCounts =
    (a b : Pairs) (key : Term)
    → value_at key.node (map_with a.nodes b.nodes) ≡ later (value_at key.node b.nodes) (value_at key.node a.nodes)

-- Maps in which each key has the same value are the same.
abbrev pub OneMapOfEachLookUp : Type 0
OneMapOfEachLookUp = (a b : Pairs) → ((key : Term) → value_at key.node a.nodes ≡ value_at key.node b.nodes) → a.nodes ≡ b.nodes

-- A term gives exactly the bytes that are computed, so at most one list of them.
abbrev pub IolistsHaveTheirBytes : Type 0
IolistsHaveTheirBytes = (x : Term) (bytes : List ℕ) → (iolist x.node ≡ Some bytes) ↔ IsIolist x.node bytes
