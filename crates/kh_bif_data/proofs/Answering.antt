-- From one answer to another that is the same.
use Rattle.std.proofs.Common.{◌≡◌, ℕ, ◌+◌, ◌≤◌, Bool, true, false, List, length, refl, sym, subst, arith}
use Rattle.std.specs.Prelude.{Result, Ok, Err, IfOk, IsErrAnd, codes, if◌then◌else◌}
use Rattle.kh_term.specs.declared.kinds.Class.TheVariants as class
use Rattle.kh_term.specs.declared.tree.TermTree.{TermTree}
use Rattle.kh_term.specs.declared.tree.TermTree.TheVariants as tree
use Rattle.kh_term.specs.Limits.{is_small}
use Rattle.kh_term.proofs.Layers.{size-Nil, depth-Nil}
use Rattle.kh_heap.specs.declared.error.BifError.{BifError}
use Rattle.kh_heap.specs.declared.error.BifError.TheVariants as bif
use Rattle.kh_heap.specs.declared.error.HeapError.{HeapError}
use Rattle.kh_heap.specs.declared.error.HeapError.TheVariants as error
use Rattle.kh_heap.specs.Heap.{Holds, Stands, Grew, Limits}
use Rattle.kh_heap.proofs.Growth.{Grew-refl, Grew-trans}
use Rattle.kh_bif_base.specs.Answer.{Answer, Value, Raise, system_limit, limited}
use Rattle.kh_bif_base.specs.Answers.{Answers, GrewBy}
use Rattle.kh_bif_base.proofs.Answering.{small, small-Atom, value_answers, value_held}
use Rattle.kh_bif_data.specs.Built.{Built}

pub GrewBy-refl : (n : ℕ) (heap : List TermTree) → GrewBy n heap heap
GrewBy-refl n heap = record { grew = Grew-refl heap; cells = omega arith }

pub GrewBy-of : (n : ℕ) (old new : List TermTree) → Grew old new → length new ≤ length old + n → GrewBy n old new
GrewBy-of n old new g l = record { grew = g; cells = l }

pub GrewBy-more : (m n : ℕ) (old new : List TermTree) → m ≤ n → GrewBy m old new → GrewBy n old new
GrewBy-more m n old new l g = record { grew = g.grew; cells = omega (arith, l, g.cells) }

pub GrewBy-trans : (m n k : ℕ) (a b c : List TermTree) → m + n ≤ k → GrewBy m a b → GrewBy n b c → GrewBy k a c
GrewBy-trans m n k a b c l g h = record { grew = Grew-trans a b c g.grew h.grew; cells = omega (arith, l, g.cells, h.cells) }

pub same_answer : (heap : List TermTree) (r : Result ℕ BifError) (a b : Answer) → a ≡ b → Answers heap r (limited a) → Answers heap r (limited b)
same_answer heap r a b e h =
    let P : Answer → Type 0 = λ x. Answers heap r (limited x) in
    subst P e h

pub same_built : (heap : List TermTree) (r : Result ℕ HeapError) (t u : TermTree) → t ≡ u → Built heap t r → Built heap u r
same_built heap r t u e h =
    let P : TermTree → Type 0 = λ x. Built heap x r in
    subst P e h

-- what the heap itself made
pub built_by : (heap : List TermTree) (r : Result ℕ HeapError) (t : TermTree) → IfOk r (λ place. Stands heap place t) → Limits r t → Built heap t r
built_by heap (Ok place) t s l = (s, l)
built_by heap (Err error.TooLarge) t s l = l
built_by heap (Err error.NoMemory) t s l = tt

-- ---- what was built as an answer

pub built_answers : (heap : List TermTree) (r : ℕ) (t : TermTree) → Built heap t (Ok r) → Answers heap (Ok r) (limited (Value t))
built_answers heap r t b = value_answers heap r t b.0 b.1

-- a term past the limits is `system_limit`
pub large_answers : (heap : List TermTree) (r : Result ℕ BifError) (t : TermTree) → is_small t ≡ false → Answers heap r (limited system_limit) → Answers heap r (limited (Value t))
large_answers heap r t e h =
    let P : Bool → Type 0 = λ b. Answers heap r (if b then Value t else system_limit) in
    let Q : Bool → Type 0 = λ b. Answers heap r (if b then system_limit else system_limit) in
    subst P (sym e) (subst Q (small-Atom (codes "system_limit")) h)

-- the same as a reason
pub value_raised : (heap : List TermTree) (r : ℕ) (t : TermTree) → Answers heap (Ok r) (limited (Value t)) → Answers heap (Err (bif.Raise class.Error r)) (limited (Raise class.Error t))
value_raised heap r t h = go (is_small t) h
  where
    go : (b : Bool) → Answers heap (Ok r) (if b then Value t else system_limit) → Answers heap (Err (bif.Raise class.Error r)) (if b then Raise class.Error t else system_limit)
    go true s = (refl, s)
    go false s = absurd s

pub error_raised : (heap : List TermTree) (e : BifError) (t : TermTree) → Answers heap (Err e) (limited (Value t)) → Answers heap (Err e) (limited (Raise class.Error t))
error_raised heap e t h = go e (is_small t) h
  where
    go : (e : BifError) (b : Bool) → Answers heap (Err e) (if b then Value t else system_limit) → Answers heap (Err e) (if b then Raise class.Error t else system_limit)
    go (bif.Raise c r) true s = absurd s
    go (bif.Raise c r) false s = s
    go bif.NoMemory true s = tt
    go bif.NoMemory false s = tt

-- ---- what was refused

pub small-Nil : is_small tree.Nil ≡ true
small-Nil = small tree.Nil (omega (arith, size-Nil)) (omega (arith, depth-Nil))

-- a part that is within the limits was refused for want of memory
pub small_refused : (heap new : List TermTree) (u t : TermTree) (e : HeapError) (r : Result ℕ HeapError) → Built heap u (Err e) → is_small u ≡ true → IsErrAnd r (λ f. f ≡ e) → Built new t r
small_refused heap new u t error.TooLarge r b s h = absurd (cc)
small_refused heap new u t error.NoMemory (Ok p) b s h = absurd h
small_refused heap new u t error.NoMemory (Err f) b s h = subst (λ (g : HeapError). Built new t (Err g)) (sym h) tt

-- a part that is past the limits makes the whole so
pub large_refused : (new : List TermTree) (u t : TermTree) (e : HeapError) (r : Result ℕ HeapError) → Limits (Err e) u → (is_small u ≡ false → is_small t ≡ false) → IsErrAnd r (λ f. f ≡ e) → Built new t r
large_refused new u t error.TooLarge (Ok p) l past h = absurd h
large_refused new u t error.TooLarge (Err f) l past h = subst (λ (g : HeapError). Built new t (Err g)) (sym h) (past l)
large_refused new u t error.NoMemory (Ok p) l past h = absurd h
large_refused new u t error.NoMemory (Err f) l past h = subst (λ (g : HeapError). Built new t (Err g)) (sym h) tt

-- the same of the limits of what was refused
pub limits_refused : (heap : List TermTree) (u : TermTree) (e : HeapError) → Limits (Err e) u → Built heap u (Err e)
limits_refused heap u error.TooLarge l = l
limits_refused heap u error.NoMemory l = tt

-- what is answered is a reference of the heap
pub held_answer : (heap : List TermTree) (r : Result ℕ BifError) (a : Answer) → Answers heap r a → IfOk r (Holds heap)
held_answer heap (Ok place) a h = value_held heap place a h
held_answer heap (Err e) a h = tt
