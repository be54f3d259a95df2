-- That a reference, a raise or a refusal answers.
use Rattle.std.proofs.Common.{◌≡◌, ℕ, ◌≤◌, Bool, true, nat_le, ◌&&◌, List, refl, sym, subst, arith}
use Rattle.std.proofs.lemmas.Bool.Decides.{nat_tests}
use Rattle.std.specs.Prelude.{ℤ, Result, Ok, Err, if◌then◌else◌}
use Rattle.kh_term.specs.declared.kinds.Class.{Class}
use Rattle.kh_term.specs.declared.tree.TermTree.{TermTree}
use Rattle.kh_term.specs.declared.tree.TermTree.TheVariants as tree
use Rattle.kh_term.specs.Limits.{is_small, most_size, most_depth}
use Rattle.kh_term.specs.Size.{size_of, depth_of}
use Rattle.kh_term.proofs.Layers.{size-Atom, depth-Atom, size-Int, depth-Int}
use Rattle.kh_heap.specs.declared.error.BifError.TheVariants as error
use Rattle.kh_heap.specs.Heap.{Holds, Stands}
use Rattle.kh_bif_base.specs.Answer.{Answer, Value, Raise, system_limit, limited}
use Rattle.kh_bif_base.specs.Answers.{Answers}

-- ---- the limits

both : (p q : Bool) → p ≡ true → q ≡ true → (p && q) ≡ true
both p q e f = λ i. e i && f i

pub small : (t : TermTree) → size_of t ≤ most_size → depth_of t ≤ most_depth → is_small t ≡ true
small t s d = both (nat_le (size_of t) most_size) (nat_le (depth_of t) most_depth) (grind (arith, nat_tests)) (grind (arith, nat_tests))

pub small-Atom : (text : List ℕ) → is_small (tree.Atom text) ≡ true
small-Atom text = small (tree.Atom text) (omega (arith, size-Atom text)) (omega (arith, depth-Atom text))

pub small-Int : (n : ℤ) → is_small (tree.Int n) ≡ true
small-Int n = small (tree.Int n) (omega (arith, size-Int n)) (omega (arith, depth-Int n))

-- ---- answers

-- a term within the limits
pub value_answers : (heap : List TermTree) (r : ℕ) (t : TermTree) → Stands heap r t → is_small t ≡ true → Answers heap (Ok r) (limited (Value t))
value_answers heap r t s e =
    let P : Bool → Type 0 = λ b. Answers heap (Ok r) (if b then Value t else system_limit) in
    subst P (sym e) s

-- a reason within the limits
pub raise_answers : (heap : List TermTree) (c : Class) (r : ℕ) (t : TermTree) → Stands heap r t → is_small t ≡ true → Answers heap (Err (error.Raise c r)) (limited (Raise c t))
raise_answers heap c r t s e =
    let P : Bool → Type 0 = λ b. Answers heap (Err (error.Raise c r)) (if b then Raise c t else system_limit) in
    subst P (sym e) (refl, s)

-- ---- what an answer refers to is in the heap

pub value_held : (heap : List TermTree) (r : ℕ) (a : Answer) → Answers heap (Ok r) a → Holds heap r
value_held heap r (Value t) s = s.held
value_held heap r (Raise c t) s = absurd s

pub reason_held : (heap : List TermTree) (c : Class) (r : ℕ) (a : Answer) → Answers heap (Err (error.Raise c r)) a → Holds heap r
reason_held heap c r (Value t) s = absurd s
reason_held heap c r (Raise d t) s = s.1.held
