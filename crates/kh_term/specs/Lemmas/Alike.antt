-- Names and origins that are equal are the same, and hash alike.
use Rattle.std.proofs.Common.{◌≡◌, ℕ, Bool, true, List, [], ◌∷◌, ◌++◌, refl, ap, sym}
use Rattle.std.specs.declared.cmp.Ordering.{Ordering}
use Rattle.std.specs.declared.cmp.Ordering.TheVariants.{Less, Equal, Greater}
use Rattle.std.specs.Ordering.{nat_cmp, ordering_then, is_eq, eq_by_cmp}
use Rattle.std.specs.Cmp.Lexicographic.{slice_cmp}
use Rattle.std.specs.Hash as fed
use Rattle.std.proofs.lemmas.Cmp.{ranked}
use Rattle.kh_term.specs.declared.name.Name.{Name}
use Rattle.kh_term.specs.declared.name.Name.TheVariants as name
use Rattle.kh_term.specs.declared.name.Origin.{Origin}
use Rattle.kh_term.specs.Name.{name_cmp, name_rank, name_text, origin_cmp}

-- both answers are Equal where the chain of them is
pub both_equal : (o r : Ordering) → ordering_then o r ≡ Equal → (o ≡ Equal) × (r ≡ Equal)
both_equal Less r e = absurd (cc)
both_equal Equal r e = (refl, e)
both_equal Greater r e = absurd (cc)

pub numbers : (m n : ℕ) → nat_cmp m n ≡ Equal → m ≡ n
numbers m n e = ranked m n Equal (sym e)

pub texts : (x y : List ℕ) → slice_cmp nat_cmp x y ≡ Equal → x ≡ y
texts [] [] e = refl
texts [] (b ∷ y) e = absurd (cc)
texts (a ∷ x) [] e = absurd (cc)
texts (a ∷ x) (b ∷ y) e =
    let both = both_equal (nat_cmp a b) (slice_cmp nat_cmp x y) e in
    λ i. numbers a b both.0 i ∷ texts x y both.1 i

pub origins : (a b : Origin) → origin_cmp a b ≡ Equal → a ≡ b
origins a b e =
    let first = both_equal (slice_cmp nat_cmp a.module b.module) _ e in
    let second = both_equal (slice_cmp nat_cmp a.name b.name) _ first.1 in
    λ i. record { «module» = texts a.module b.module first.0 i; name = texts a.name b.name second.0 i; arity = numbers a.arity b.arity second.1 i }

pub names : (m n : Name) → name_cmp m n ≡ Equal → m ≡ n
names (name.Atom x) (name.Atom y) e = ap name.Atom (texts x y e)
names (name.Atom x) (name.Bin y) e = absurd (cc)
names (name.Bin x) (name.Atom y) e = absurd (cc)
names (name.Bin x) (name.Bin y) e = ap name.Bin (texts x y e)

pub is_equal : (o : Ordering) → is_eq o ≡ true → o ≡ Equal
is_equal Less h = absurd (cc)
is_equal Equal h = refl
is_equal Greater h = absurd (cc)

pub names_alike : (x y : Name) → eq_by_cmp name_cmp x y ≡ true → fed.u8 (name_rank x) ++ fed.slice fed.u8 (name_text x) ≡ fed.u8 (name_rank y) ++ fed.slice fed.u8 (name_text y)
names_alike x y h = ap (λ n. fed.u8 (name_rank n) ++ fed.slice fed.u8 (name_text n)) (names x y (is_equal (name_cmp x y) h))

pub origins_alike : (x y : Origin) → eq_by_cmp origin_cmp x y ≡ true → fed.slice fed.u8 x.module ++ fed.slice fed.u8 x.name ++ fed.u8 x.arity ≡ fed.slice fed.u8 y.module ++ fed.slice fed.u8 y.name ++ fed.u8 y.arity
origins_alike x y h = ap (λ o. fed.slice fed.u8 o.module ++ fed.slice fed.u8 o.name ++ fed.u8 o.arity) (origins x y (is_equal (origin_cmp x y) h))
