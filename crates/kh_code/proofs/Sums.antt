-- Sums that stop at 2^64 - 1.
use Rattle.std.proofs.Common.{◌≡◌, ◌≤◌, ◌<◌, ◌+◌, ◌^◌, ℕ, suc, min, true, nat_le, List, [], ◌∷◌, ◌++◌, map, length, drop, get_or, take, refl, ap, sym, ◌∙◌, arith, add-one, drop-cons}
use Rattle.std.proofs.lemmas.Bool.{and_parts, leb-true}
use Rattle.std.proofs.lemmas.List.Sums.{sum_by-append, sum_by-cons, sum_by-drop_more}
use Rattle.std.proofs.lemmas.List.Folds.{flat_map-map}
use Rattle.std.specs.List.{flat_map, list_all, sum_by}
use Rattle.kh_term.specs.Limits.{is_small}
use Rattle.kh_term.specs.Size.{size_of, depth_of}
use Rattle.kh_term.specs.declared.term.Term.{Term}
use Rattle.kh_instr.specs.Syntax.{literal_in}
use Rattle.kh_instr.specs.Written.{HasSmallLiterals, all_literals}
use Rattle.kh_instr.specs.declared.module.Function.{Function}
use Rattle.kh_instr.specs.declared.module.Module.{Module}
use Rattle.kh_instr.specs.declared.operand.Source.{Source}
use Rattle.kh_code.specs.Capped.{capped, counted, all_counted}
use Rattle.kh_code.specs.Limits.{literal_size, literals_of}

-- a sum that was capped on the way
pub capped_twice : (a b : ℕ) → capped (capped a + b) ≡ capped (a + b)
capped_twice a b = omega arith

-- the literals of one list behind another
pub counted_behind : (n : ℕ) (xs ys : List Term) → capped (capped (n + all_counted xs) + all_counted ys) ≡ capped (n + all_counted (xs ++ ys))
counted_behind n xs ys = omega (arith, sum_by-append counted xs ys)

-- the literals of one part, and of those behind it
pub counted_next : {X : Type 0} (f : X → List Term) (xs : List X) (i : ℕ) (d : X) → i < length xs →
    all_counted (flat_map f (drop i xs)) ≡ all_counted (f (get_or xs i d)) + all_counted (flat_map f (drop (i + 1) xs))
counted_next f xs i d h = rw (add-one, drop-cons xs i d) (sum_by-append counted (f (get_or xs i d)) (flat_map f (drop (suc i) xs)))

-- the sum so far and a part, with what is left behind it
pub counted_on : {X : Type 0} (f : X → List Term) (xs : List X) (i : ℕ) (d : X) (n m w : ℕ) → i < length xs →
    m ≡ capped (n + all_counted (f (get_or xs i d))) → capped (n + all_counted (flat_map f (drop i xs))) ≡ w →
    capped (m + all_counted (flat_map f (drop (i + 1) xs))) ≡ w
counted_on f xs i d n m w h step e =
    ap (λ k. capped (k + all_counted (flat_map f (drop (i + 1) xs)))) step
    ∙ (capped_twice _ _ ∙ (omega (arith, counted_next f xs i d h) ∙ e))

-- the literals of sources that stand beside something else
pub counted_firsts : {B : Type 0} (pairs : List (Source × B)) → flat_map literal_in (map (λ p. p.0) pairs) ≡ flat_map (λ p. literal_in p.0) pairs
counted_firsts pairs = flat_map-map literal_in (λ p. p.0) pairs

pub ruleset counts = (capped_twice, counted_behind, counted_next, counted_firsts)

-- the instructions of one function, and of those behind it
pub instructions_next : (fs : List Function) (i : ℕ) (d : Function) → i < length fs →
    sum_by (λ (f : Function). length f.code) (drop i fs) ≡ length (get_or fs i d).code + sum_by (λ (f : Function). length f.code) (drop (i + 1) fs)
instructions_next fs i d h = sum_by-drop_more (λ (f : Function). length f.code) fs i d h

pub ruleset instruction_counts = (capped_twice, instructions_next)

-- literals that are small are counted with their sizes
pub small_counted : (ts : List Term) → list_all (λ t. is_small t.node) ts ≡ true → all_counted ts ≡ sum_by literal_size ts
small_counted [] small = refl
small_counted (t ∷ ts) small =
    let parts = and_parts (is_small t.node) (list_all (λ t. is_small t.node) ts) small in
    let size = and_parts (nat_le (size_of t.node) 1048576) (nat_le (depth_of t.node) 200) parts.0 in
    let low : size_of t.node ≤ 1048576 = leb-true (size_of t.node) 1048576 size.0 in
    let one : counted t ≡ literal_size t = omega arith in
    sum_by-cons counted t ts ∙ ((λ i. one i + small_counted ts parts.1 i) ∙ sym (sum_by-cons literal_size t ts))

pub small_literals : (m : Module) → HasSmallLiterals m → capped (all_counted (all_literals m.functions)) ≡ capped (literals_of m)
small_literals m small = ap capped (small_counted (all_literals m.functions) small)

pub ruleset small_counts = (small_literals)
