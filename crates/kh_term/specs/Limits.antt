-- What is asked of terms that are kept, passed on or computed.
use Rattle.std.specs.Prelude.{ℕ, Bool, true, false, ◌&&◌, ◌||◌, nat_le, List, map}
use Rattle.std.specs.List.{list_any}
use Rattle.kh_term.specs.declared.tree.TermTree.{TermTree}
use Rattle.kh_term.specs.declared.tree.TermTree.TheOpen.{TermTree-F}
use Rattle.kh_term.specs.declared.tree.TermTree.TheOpen as layer
use Rattle.kh_term.specs.declared.tree.TermTree.TheFolds.{fold-TermTree}
use Rattle.kh_term.specs.Size.{size_of, depth_of}

-- a function holds one, and all else where a part does: an element, a tail, a key or a value
abbrev pub closure_step : TermTree-F Bool → Bool
closure_step (layer.Int number) = false
closure_step (layer.Atom text) = false
closure_step (layer.Bin bytes) = false
closure_step layer.Nil = false
closure_step (layer.List parts tail) = list_any (λ part. part) parts || tail
closure_step (layer.Tuple parts) = list_any (λ part. part) parts
closure_step (layer.Map pairs) = list_any (λ p. p.0 || p.1) pairs
closure_step (layer.Closure origin env) = true

-- whether a function stands anywhere in a term
abbrev pub holds_closure : TermTree → Bool
holds_closure = fold-TermTree Bool closure_step

-- the greatest size and the greatest depth of a term that is read or computed
abbrev pub most_size : ℕ
most_size = 1048576

abbrev pub most_depth : ℕ
most_depth = 200

-- whether a term is within both
abbrev pub is_small : TermTree → Bool
is_small t = nat_le (size_of t) most_size && nat_le (depth_of t) most_depth
