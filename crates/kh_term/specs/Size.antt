-- The size, the depth and the greatest width of a term.
use Rattle.std.specs.Prelude.{ℕ, ◌+◌, ◌/◌, List, [], ◌∷◌, length, map, sum, max, Bool, true, false, if◌then◌else◌}
use Rattle.kh_term.specs.declared.tree.TermTree.{TermTree, out-TermTree}
use Rattle.kh_term.specs.declared.tree.TermTree.TheOpen.{TermTree-F}
use Rattle.kh_term.specs.declared.tree.TermTree.TheOpen as layer
use Rattle.kh_term.specs.declared.tree.TermTree.TheFolds.{fold-TermTree, para-TermTree}

-- An integer, an atom and nil have size 1, a binary 1 and one more for each eight bytes begun. A list has 1 for each
-- element, and the others 1, beside the sizes of their parts.
abbrev pub size_step : TermTree-F ℕ → ℕ
size_step (layer.Int number) = 1
size_step (layer.Atom text) = 1
size_step (layer.Bin bytes) = 1 + (length bytes + 7) / 8
size_step layer.Nil = 1
size_step (layer.List parts tail) = length parts + sum parts + tail
size_step (layer.Tuple parts) = 1 + sum parts
size_step (layer.Map pairs) = 1 + sum (map (λ p. p.0 + p.1) pairs)
size_step (layer.Closure origin env) = 1 + sum env

-- the size of a term
abbrev pub size_of : TermTree → ℕ
size_of = fold-TermTree ℕ size_step

-- the sizes of several terms, and of the keys and values of several pairs, together
abbrev pub sizes_of : List TermTree → ℕ
sizes_of ts = sum (map size_of ts)

abbrev pub pair_sizes_of : List (TermTree × TermTree) → ℕ
pair_sizes_of ps = sum (map (λ p. size_of p.0 + size_of p.1) ps)

-- the greatest of some numbers, 0 where there is none
abbrev pub greatest : List ℕ → ℕ
greatest [] = 0
greatest (n ∷ ns) = max n (greatest ns)

abbrev pub is_nil : {A : Type 0} → TermTree-F A → Bool
is_nil layer.Nil = true
is_nil x = false

-- An integer, an atom and a binary have depth 0, nil has 1, and the others 1 more than the deepest of their parts,
-- where a nil tail isn't counted.
abbrev pub depth_step : TermTree-F (TermTree × ℕ) → ℕ
depth_step (layer.Int number) = 0
depth_step (layer.Atom text) = 0
depth_step (layer.Bin bytes) = 0
depth_step layer.Nil = 1
depth_step (layer.List parts tail) =
    1 + max (greatest (map (λ p. p.1) parts)) (if is_nil (out-TermTree tail.0) then 0 else tail.1)
depth_step (layer.Tuple parts) = 1 + greatest (map (λ p. p.1) parts)
depth_step (layer.Map pairs) = 1 + greatest (map (λ p. max p.0.1 p.1.1) pairs)
depth_step (layer.Closure origin env) = 1 + greatest (map (λ p. p.1) env)

-- the depth of a term
abbrev pub depth_of : TermTree → ℕ
depth_of = para-TermTree ℕ depth_step

-- The number of bytes of an atom or a binary and of a function's module and name, and the number of elements, pairs
-- or captured values of the others, or the greatest width of a part where that is more.
abbrev pub width_step : TermTree-F ℕ → ℕ
width_step (layer.Int number) = 0
width_step (layer.Atom text) = length text
width_step (layer.Bin bytes) = length bytes
width_step layer.Nil = 0
width_step (layer.List parts tail) = max (length parts) (max (greatest parts) tail)
width_step (layer.Tuple parts) = max (length parts) (greatest parts)
width_step (layer.Map pairs) = max (length pairs) (greatest (map (λ p. max p.0 p.1) pairs))
width_step (layer.Closure origin env) =
    max (max (length origin.module) (length origin.name)) (max (length env) (greatest env))

-- the greatest number of elements, pairs, captured values or bytes that stands anywhere in a term
abbrev pub width_of : TermTree → ℕ
width_of = fold-TermTree ℕ width_step
