-- Names, paths and origins, and how they compare.
use Rattle.std.specs.Prelude.{ℕ, Bool, ◌&&◌, not, codes, nat_le, List, length}
use Rattle.std.specs.declared.cmp.Ordering.{Ordering}
use Rattle.std.specs.Ordering.{nat_cmp, on, then_cmp}
use Rattle.std.specs.Cmp.{IsTotalOrder, then_total, on_total, nat_cmp_total}
use Rattle.std.specs.Cmp.Lexicographic.{slice_cmp, nat_list_cmp_total, lists_total}
use Rattle.std.specs.List.{list_all}
use Rattle.std.specs.Str.{bytes_eq}
use Rattle.kh_term.specs.declared.limits.TheConstants.{MOST_NAME_BYTES, MOST_NAMES}
use Rattle.kh_term.specs.declared.name.Name.{Name}
use Rattle.kh_term.specs.declared.name.Origin.{Origin}
use Rattle.kh_term.specs.declared.name.Name.TheVariants as name

-- atoms come before binaries
abbrev pub name_rank : Name → ℕ
name_rank (name.Atom text) = 0
name_rank (name.Bin bytes) = 1

-- the bytes of an atom or of a binary
abbrev pub name_text : Name → List ℕ
name_text (name.Atom text) = text
name_text (name.Bin bytes) = bytes

-- atoms before binaries, each by their bytes, a prefix first
abbrev pub name_cmp : Name → Name → Ordering
name_cmp = then_cmp (on name_rank nat_cmp) (on name_text (slice_cmp nat_cmp))

-- the order of names is a total one
pub name_total : IsTotalOrder name_cmp
name_total = then_total (on_total name_rank nat_cmp_total) (on_total name_text nat_list_cmp_total)

-- name by name, a prefix first
abbrev pub path_cmp : List Name → List Name → Ordering
path_cmp = slice_cmp name_cmp

-- so is that of paths
pub path_total : IsTotalOrder path_cmp
path_total = lists_total name_total

-- 1 to 255 bytes
abbrev pub has_name_length : List ℕ → Bool
has_name_length text = nat_le 1 (length text) && nat_le (length text) MOST_NAME_BYTES

-- Whether a name may name a node: it has 1 to 255 bytes, and isn't one of the atoms `.` and `^`, which stand for
-- the written node and its parent.
abbrev pub is_name : Name → Bool
is_name (name.Atom text) = has_name_length text && not (bytes_eq text (codes ".")) && not (bytes_eq text (codes "^"))
is_name (name.Bin bytes) = has_name_length bytes

-- a path: at most 32 names
abbrev pub is_path : List Name → Bool
is_path names = nat_le (length names) MOST_NAMES && list_all is_name names

-- by module, name and arity
abbrev pub origin_cmp : Origin → Origin → Ordering
origin_cmp =
    then_cmp (on (λ o. o.module) (slice_cmp nat_cmp)) (then_cmp (on (λ o. o.name) (slice_cmp nat_cmp)) (on (λ o. o.arity) nat_cmp))

-- the order of origins is a total one
pub origin_total : IsTotalOrder origin_cmp
origin_total =
    then_total (on_total (λ o. o.module) nat_list_cmp_total)
    (then_total (on_total (λ o. o.name) nat_list_cmp_total) (on_total (λ o. o.arity) nat_cmp_total))
