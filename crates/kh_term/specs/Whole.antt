-- The term of a tree.
use Rattle.std.specs.Prelude.{◌≡◌, Bool, true, false, nat_eq, refl}
use borrow.Author.Tests.{eqb-true}
use Rattle.kh_term.specs.declared.term.Term.{Term}
use Rattle.kh_term.specs.declared.tree.TermTree.{TermTree}
use Rattle.kh_term.specs.declared.tree.TermTree.TheVariants as tree
use Rattle.kh_term.specs.WellFormed.{faults_of}
use Rattle.kh_term.specs.Lemmas.Fits.{fits-Nil}

abbrev pub whole_where : (t : TermTree) (fits : Bool) → nat_eq (faults_of t) 0 ≡ fits → Term
whole_where t true e = record { node = t; fits = eqb-true (faults_of t) 0 e }
whole_where t false e = record { node = tree.Nil; fits = fits-Nil }

-- the term of a tree, and nil where the tree is none
abbrev pub whole : TermTree → Term
whole t = whole_where t (nat_eq (faults_of t) 0) refl
