-- Whether a literal holds the atom `'$unsupported'`, variant by variant.
use Rattle.std.proofs.Common.{◌≡◌, ◌<◌, ◌≤◌, ℕ, ◌+◌, Bool, true, false, ◌||◌, if◌then◌else◌, Option, Some, None, List, [], ◌∷◌, length, map, drop, get_or, refl, ap, sym, ◌∙◌, codes, add-one, drop-cons, ℤ}
use Rattle.std.proofs.lemmas.List.{drop_all}
use Rattle.std.specs.Str.{bytes_eq}
use Rattle.kh_term.specs.declared.name.Origin.{Origin}
use Rattle.kh_term.specs.declared.term.Term.{Term}
use Rattle.kh_term.specs.declared.tree.TermTree.{TermTree}
use Rattle.kh_term.proofs.Same.{whole_is}
use Rattle.kh_instr.specs.declared.operand.Source.{Source}
use Rattle.kh_instr.specs.declared.operand.Source.TheVariants as source
use Rattle.kh_term.specs.declared.tree.TermTree.TheVariants as tree
use Rattle.kh_term.specs.declared.tree.TermTree.TheVariants.{rolls-Int, rolls-Atom, rolls-Bin, rolls-Nil, rolls-List, rolls-Tuple, rolls-Map, rolls-Closure}
use Rattle.kh_term.specs.declared.tree.TermTree.TheOpen as layer
use Rattle.kh_term.specs.declared.tree.TermTree.TheFolds.{fold-roll-TermTree}
use Rattle.kh_instr.specs.Operands.{holds_unsupported, unsupported_step, some_hold, literal_of}

joined : {A B C : Type 0} (f : A → B) (g : B → C) (xs : List A) → map g (map f xs) ≡ map (λ x. g (f x)) xs
joined f g [] = refl
joined f g (x ∷ xs) = ap (λ ys. g (f x) ∷ ys) (joined f g xs)

pub holds-Int : (n : ℤ) → holds_unsupported (tree.Int n) ≡ false
holds-Int n = ap holds_unsupported (sym (rolls-Int n)) ∙ fold-roll-TermTree Bool unsupported_step (layer.Int n)

pub holds-Atom : (text : List ℕ) → holds_unsupported (tree.Atom text) ≡ bytes_eq text (codes "$unsupported")
holds-Atom text = ap holds_unsupported (sym (rolls-Atom text)) ∙ fold-roll-TermTree Bool unsupported_step (layer.Atom text)

pub holds-Bin : (bytes : List ℕ) → holds_unsupported (tree.Bin bytes) ≡ false
holds-Bin bytes = ap holds_unsupported (sym (rolls-Bin bytes)) ∙ fold-roll-TermTree Bool unsupported_step (layer.Bin bytes)

pub holds-Nil : holds_unsupported tree.Nil ≡ false
holds-Nil = ap holds_unsupported (sym rolls-Nil) ∙ fold-roll-TermTree Bool unsupported_step layer.Nil

pub holds-List : (parts : List TermTree) (tail : TermTree) → holds_unsupported (tree.List parts tail) ≡ (some_hold (map holds_unsupported parts) || holds_unsupported tail)
holds-List parts tail = ap holds_unsupported (sym (rolls-List parts tail)) ∙ fold-roll-TermTree Bool unsupported_step (layer.List parts tail)

pub holds-Tuple : (parts : List TermTree) → holds_unsupported (tree.Tuple parts) ≡ some_hold (map holds_unsupported parts)
holds-Tuple parts = ap holds_unsupported (sym (rolls-Tuple parts)) ∙ fold-roll-TermTree Bool unsupported_step (layer.Tuple parts)

pub holds-Map : (pairs : List (TermTree × TermTree)) → holds_unsupported (tree.Map pairs) ≡ some_hold (map (λ p. holds_unsupported p.0 || holds_unsupported p.1) pairs)
holds-Map pairs =
    ap holds_unsupported (sym (rolls-Map pairs)) ∙ (fold-roll-TermTree Bool unsupported_step (layer.Map pairs)
    ∙ ap some_hold (joined {A = TermTree × TermTree} {B = Bool × Bool} (λ p. (holds_unsupported p.0, holds_unsupported p.1)) (λ p. p.0 || p.1) pairs))

pub holds-Closure : (origin : Origin) (env : List TermTree) → holds_unsupported (tree.Closure origin env) ≡ some_hold (map holds_unsupported env)
holds-Closure origin env = ap holds_unsupported (sym (rolls-Closure origin env)) ∙ fold-roll-TermTree Bool unsupported_step (layer.Closure origin env)

-- ---- one by one

pub some_from : {A : Type 0} (f : A → Bool) (xs : List A) (i : ℕ) (x : A) → i < length xs → x ≡ get_or xs i x → some_hold (map f (drop i xs)) ≡ (f x || some_hold (map f (drop (i + 1) xs)))
some_from f xs i x h e =
    let opened : drop i xs ≡ get_or xs i x ∷ drop (i + 1) xs = rw (add-one, drop-cons xs i x h) refl in
    ap (λ ys. some_hold (map f ys)) (opened ∙ ap (λ y. y ∷ drop (i + 1) xs) (sym e))

pub some_end : {A : Type 0} (f : A → Bool) (xs : List A) (i : ℕ) → length xs ≤ i → some_hold (map f (drop i xs)) ≡ false
some_end f xs i h = ap (λ ys. some_hold (map f ys)) (drop_all i xs h)

pub ruleset literals = (holds-Int, holds-Atom, holds-Bin, holds-Nil, holds-List, holds-Tuple, holds-Map, holds-Closure, some_from, some_end)

-- a literal is the term of its tree
pub literal_is : (x : Term) (t : TermTree) → holds_unsupported t ≡ false → x.node ≡ t → Some (source.Literal x) ≡ literal_of t
literal_is x t h e =
    let read : literal_of t ≡ Some (source.Literal x) = λ i. if h i then None else Some (source.Literal (whole_is x t e i)) in sym read
