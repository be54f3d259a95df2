-- Terms of one tree.
use Rattle.std.proofs.Common.{◌≡◌, ap, subst}
use Rattle.std.proofs.Math.Nat.{ℕ_set}
use Rattle.kh_term.specs.declared.term.Term.{Term}
use Rattle.kh_term.specs.declared.tree.TermTree.{TermTree}
use Rattle.kh_term.specs.WellFormed.{faults_of, IsTerm}

-- terms of one tree are one
pub same_node : (x y : Term) → x.node ≡ y.node → x ≡ y
same_node x y e = go y.node e y.fits
  where
    go : (n : TermTree) → x.node ≡ n → (fits : IsTerm n) → x ≡ record { node = n; fits = fits }
    go n e = subst (λ m. (fits : IsTerm m) → x ≡ record { node = m; fits = fits }) e (λ fits. ap (λ f. record { node = x.node; fits = f }) (ℕ_set (faults_of x.node) 0 x.fits fits))
