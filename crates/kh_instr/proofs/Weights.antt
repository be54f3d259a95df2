-- The packed length of a list.
use Rattle.std.proofs.Common.{◌≡◌, ◌+◌, List, [], ◌∷◌, length, arith}
use Rattle.kh_term.specs.declared.tree.TermTree.{TermTree}
use Rattle.kh_term.specs.declared.tree.TermTree.TheVariants as tree
use Rattle.kh_term.specs.Make.{list_of}
use Rattle.kh_term.specs.Packed.{packed_of, all_packed_of}
use Rattle.kh_term.proofs.Lengths.{length-Nil, length-List, lengths}

pub length-none : length (packed_of (list_of [])) ≡ 1
length-none = length-Nil

pub length-some : (t : TermTree) (ts : List TermTree) → length (packed_of (list_of (t ∷ ts))) ≡ 6 + length (all_packed_of (t ∷ ts))
length-some t ts = omega (arith, length-List (t ∷ ts) tree.Nil, length-Nil)

pub ruleset weights = (lengths, length-none, length-some)
