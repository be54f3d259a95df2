-- Each term has packed bytes of its own, and none are the front of another's.
use borrow.Author.Tests.{eqb-false}
use Rattle.std.proofs.Common.{◌≡◌, ◌<◌, ℕ, zero, suc, ◌+◌, ◌-◌, ◌*◌, ◌/◌, ◌%◌, ◌^◌, max, true, false, nat_eq, List, [], ◌∷◌, ◌++◌, length, map, sum, refl, ap, sym, ◌∙◌, subst, ℤ, pos, negsuc, arith, append_assoc}
use Rattle.std.specs.Int.{from_be_bytes, w32, w128, bytes_high_first, byte_at, cast_unsigned}
use Rattle.std.proofs.Math.Nat.{mod-eq_of_lt, mod-lt}
use Rattle.std.proofs.Math.Pow.{pow-lt}
use Rattle.std.proofs.lemmas.Nat.{from_be_bytes-to_be_bytes_4, mod-pow-add, pow_pos}
use Rattle.kh_term.specs.declared.name.Origin.{Origin}
use Rattle.kh_term.specs.declared.term.Term.{Term}
use Rattle.kh_term.specs.declared.tree.TermTree.{TermTree, out-TermTree}
use Rattle.kh_term.specs.declared.tree.TermTree.TheVariants as tree
use Rattle.kh_term.specs.declared.tree.TermTree.TheVariants.{outs-Int, outs-Atom, outs-Bin, outs-Nil, outs-List, outs-Tuple, outs-Map, outs-Closure, rolls-Int, rolls-Atom, rolls-Bin, rolls-Nil, rolls-List, rolls-Tuple, rolls-Map, rolls-Closure}
use Rattle.kh_term.specs.declared.tree.TermTree.TheOpen.{TermTree-F}
use Rattle.kh_term.specs.declared.tree.TermTree.TheOpen as layer
use Rattle.kh_term.specs.Size.{width_of, greatest}
use Rattle.kh_term.specs.WellFormed.{IsTerm, AreTerms, ArePairs, faults_of, fits_128}
use Rattle.kh_term.specs.Lemmas.Fits.{holds, sum-cons, fits_front, fits_behind, parts_of_tuple, parts_of_list, tail_of_list, parts_of_closure, pairs_of_map}
use Rattle.kh_term.specs.Lemmas.Induction.{by_parts, Each, OfBoth}
use Rattle.kh_term.proofs.Layers.{faults-Int, width-List, width-Tuple, width-Map, width-Closure, width-Bin, packed-Int, packed-Atom, packed-Bin, packed-Nil, packed-List, packed-Tuple, packed-Map, packed-Closure}
use Rattle.kh_term.specs.Lemmas.Total.{layered}
use Rattle.kh_term.proofs.Lengths.{length-high_first}
use Rattle.kh_term.proofs.OneTree.{same_node}
use Rattle.kh_term.specs.Packed.{packed_of, all_packed_of, pairs_packed_of, behind_sign, integer_len, integer_bytes, short_text, count_bytes}
use Rattle.kh_term.proofs.Integers.{bits_of, Holds, len_holds, kept-pos, kept-neg, different, fits_behind_sign}
use Rattle.kh_term.proofs.Tags.{tag_of, tagged}

-- lists of one length
same_front : {A : Type 0} (x y u v : List A) → length x ≡ length y → x ++ u ≡ y ++ v → (x ≡ y) × (u ≡ v)
same_front [] [] u v e f = (refl, f)
same_front [] (b ∷ y) u v e f = absurd (omega arith)
same_front (a ∷ x) [] u v e f = absurd (omega arith)
same_front (a ∷ x) (b ∷ y) u v e f =
    let shorter : length x ≡ length y = omega arith in
    let head : a ≡ b = cc in
    let tail : x ++ u ≡ y ++ v = cc in
    let rest = same_front x y u v shorter tail in
    (λ i. head i ∷ rest.0 i, rest.1)

pub same_count : {A B : Type 0} (xs : List A) (ys : List B) (u v : List ℕ) → length xs < 2 ^ 32 → length ys < 2 ^ 32 → count_bytes xs ++ u ≡ count_bytes ys ++ v → (length xs ≡ length ys) × (u ≡ v)
same_count xs ys u v small few e =
    let both = same_front (count_bytes xs) (count_bytes ys) u v refl e in
    (sym (from_be_bytes-to_be_bytes_4 (length xs) small) ∙ (ap (from_be_bytes w32) both.0 ∙ from_be_bytes-to_be_bytes_4 (length ys) few), both.1)

pub same_short : (x y u v : List ℕ) → short_text x ++ u ≡ short_text y ++ v → (x ≡ y) × (u ≡ v)
same_short x y u v e =
    let long : length x ≡ length y = cc in
    let rest : x ++ u ≡ y ++ v = cc in
    same_front x y u v long rest

-- ---- integers

byte_is : (i n : ℕ) → byte_at i n ≡ n / 2 ^ (8 * i) % 2 ^ 8
byte_is zero n = omega arith
byte_is (suc i) n = ap (λ m. n / m % 256) (bits_of (suc i))

-- the bytes of a number say what it is
same_bytes : (k a b : ℕ) → bytes_high_first k a ≡ bytes_high_first k b → a % 2 ^ (8 * k) ≡ b % 2 ^ (8 * k)
same_bytes zero a b e = omega arith
same_bytes (suc k) a b e =
    let head : byte_at k a ≡ byte_at k b = cc in
    let rest : bytes_high_first k a ≡ bytes_high_first k b = cc in
    let more : 8 * suc k ≡ 8 + 8 * k = omega arith in
    ap (λ n. a % 2 ^ n) more ∙ (mod-pow-add a 8 (8 * k)
    ∙ ((λ i. (sym (byte_is k a) ∙ (head ∙ byte_is k b)) i * 2 ^ (8 * k) + same_bytes k a b rest i)
    ∙ (sym (mod-pow-add b 8 (8 * k)) ∙ ap (λ n. b % 2 ^ n) (sym more))))

-- the bytes of an integer say what it is
same_kept : (x y : ℤ) (k : ℕ) → Holds (behind_sign x) k → Holds (behind_sign y) k → cast_unsigned w128 x % 2 ^ (8 * k) ≡ cast_unsigned w128 y % 2 ^ (8 * k) → x ≡ y
same_kept (pos m) (pos n) k h i e = ap pos (sym (kept-pos m k h) ∙ (e ∙ kept-pos n k i))
same_kept (pos m) (negsuc n) k h i e = absurd (different m n k h i (sym (kept-pos m k h) ∙ (e ∙ kept-neg n k i)))
same_kept (negsuc m) (pos n) k h i e = absurd (different n m k i h (sym (kept-pos n k i) ∙ (sym e ∙ kept-neg m k h)))
same_kept (negsuc m) (negsuc n) k h i e =
    let less : 8 * k - 1 < 8 * k = omega (arith, h.some) in
    let grows : 2 ^ (8 * k - 1) < 2 ^ (8 * k) = pow-lt less in
    let both : 2 ^ (8 * k) - suc m ≡ 2 ^ (8 * k) - suc n = sym (kept-neg m k h) ∙ (e ∙ kept-neg n k i) in
    ap negsuc (omega (arith, h.room, i.room, both))

same_number : (x y : ℤ) (k : ℕ) → Holds (behind_sign x) k → Holds (behind_sign y) k → bytes_high_first k (cast_unsigned w128 x % 2 ^ (8 * k)) ≡ bytes_high_first k (cast_unsigned w128 y % 2 ^ (8 * k)) → x ≡ y
same_number x y k h i e =
    let some : 0 < 2 ^ (8 * k) = pow_pos (8 * k) in
    let a : ℕ = cast_unsigned w128 x % 2 ^ (8 * k) in
    let b : ℕ = cast_unsigned w128 y % 2 ^ (8 * k) in
    let first : a < 2 ^ (8 * k) = mod-lt (cast_unsigned w128 x) some in
    let second : b < 2 ^ (8 * k) = mod-lt (cast_unsigned w128 y) some in
    same_kept x y k h i (sym (mod-eq_of_lt first) ∙ (same_bytes k a b e ∙ mod-eq_of_lt second))

pub same_integer : (x y : ℤ) (u v : List ℕ) → fits_128 x ≡ true → fits_128 y ≡ true → (integer_len x ∷ integer_bytes x) ++ u ≡ (integer_len y ∷ integer_bytes y) ++ v → (x ≡ y) × (u ≡ v)
same_integer x y u v h k e =
    let len : integer_len x ≡ integer_len y = cc in
    let rest : integer_bytes x ++ u ≡ integer_bytes y ++ v = cc in
    let long : length (integer_bytes x) ≡ length (integer_bytes y) = length-high_first (integer_len x) _ ∙ (len ∙ sym (length-high_first (integer_len y) _)) in
    let both = same_front (integer_bytes x) (integer_bytes y) u v long rest in (
      same_number x y (integer_len x) (len_holds (behind_sign x) (fits_behind_sign x h)) (subst (Holds (behind_sign y)) (sym len) (len_holds (behind_sign y) (fits_behind_sign y k)))
          (both.0 ∙ ap (λ n. bytes_high_first n (cast_unsigned w128 y % 2 ^ (8 * n))) (sym len)),
      both.1,
    )

-- ---- terms

abbrev Alone : TermTree → Type 0
Alone a = (b : TermTree) (u v : List ℕ) → IsTerm a → IsTerm b → width_of a < 2 ^ 32 → width_of b < 2 ^ 32 → packed_of a ++ u ≡ packed_of b ++ v → (a ≡ b) × (u ≡ v)

all_alone : (xs ys : List TermTree) (u v : List ℕ) → Each Alone xs → AreTerms xs → AreTerms ys → greatest (map width_of xs) < 2 ^ 32 → greatest (map width_of ys) < 2 ^ 32 → length xs ≡ length ys → all_packed_of xs ++ u ≡ all_packed_of ys ++ v → (xs ≡ ys) × (u ≡ v)
all_alone [] [] u v each h k w z long e = (refl, e)
all_alone [] (y ∷ ys) u v each h k w z long e = absurd (omega arith)
all_alone (x ∷ xs) [] u v each h k w z long e = absurd (omega arith)
all_alone (x ∷ xs) (y ∷ ys) u v each h k w z long e =
    let shorter : length xs ≡ length ys = omega arith in
    let apart : packed_of x ++ (all_packed_of xs ++ u) ≡ packed_of y ++ (all_packed_of ys ++ v) = sym (append_assoc (packed_of x) (all_packed_of xs) u) ∙ (e ∙ append_assoc (packed_of y) (all_packed_of ys) v) in
    let first = each.0 y (all_packed_of xs ++ u) (all_packed_of ys ++ v) (fits_front x xs h) (fits_front y ys k) (omega (arith, w)) (omega (arith, z)) apart in
    let rest = all_alone xs ys u v each.1 (fits_behind x xs h) (fits_behind y ys k) (omega (arith, w)) (omega (arith, z)) shorter first.1 in
    (λ i. first.0 i ∷ rest.0 i, rest.1)

abbrev pair_faults : TermTree × TermTree → ℕ
pair_faults p = faults_of p.0 + faults_of p.1

abbrev pair_width : TermTree × TermTree → ℕ
pair_width p = max (width_of p.0) (width_of p.1)

pairs_alone : (ps qs : List (TermTree × TermTree)) (u v : List ℕ) → Each (OfBoth Alone) ps → sum (map pair_faults ps) ≡ 0 → sum (map pair_faults qs) ≡ 0 → greatest (map pair_width ps) < 2 ^ 32 → greatest (map pair_width qs) < 2 ^ 32 → length ps ≡ length qs → pairs_packed_of ps ++ u ≡ pairs_packed_of qs ++ v → (ps ≡ qs) × (u ≡ v)
pairs_alone [] [] u v each h k w z long e = (refl, e)
pairs_alone [] (q ∷ qs) u v each h k w z long e = absurd (omega arith)
pairs_alone (p ∷ ps) [] u v each h k w z long e = absurd (omega arith)
pairs_alone (p ∷ ps) (q ∷ qs) u v each h k w z long e =
    let shorter : length ps ≡ length qs = omega arith in
    let one = sum-cons (pair_faults p) (map pair_faults ps) in
    let two = sum-cons (pair_faults q) (map pair_faults qs) in
    let apart : packed_of p.0 ++ (packed_of p.1 ++ (pairs_packed_of ps ++ u)) ≡ packed_of q.0 ++ (packed_of q.1 ++ (pairs_packed_of qs ++ v)) = regroup p.0 p.1 (pairs_packed_of ps) u ∙ (e ∙ sym (regroup q.0 q.1 (pairs_packed_of qs) v)) in
    let first = each.0.0 q.0 (packed_of p.1 ++ (pairs_packed_of ps ++ u)) (packed_of q.1 ++ (pairs_packed_of qs ++ v)) (omega (arith, h, one)) (omega (arith, k, two)) (omega (arith, w)) (omega (arith, z)) apart in
    let second = each.0.1 q.1 (pairs_packed_of ps ++ u) (pairs_packed_of qs ++ v) (omega (arith, h, one)) (omega (arith, k, two)) (omega (arith, w)) (omega (arith, z)) first.1 in
    let rest = pairs_alone ps qs u v each.1 (omega (arith, h, one)) (omega (arith, k, two)) (omega (arith, w)) (omega (arith, z)) shorter second.1 in
    (λ i. (first.0 i, second.0 i) ∷ rest.0 i, rest.1)
  where
    regroup : (s t : TermTree) (x y : List ℕ) → packed_of s ++ (packed_of t ++ (x ++ y)) ≡ ((packed_of s ++ packed_of t) ++ x) ++ y
    regroup s t x y = simp append_assoc

-- two terms with two tags
off : (a b : TermTree) (u v : List ℕ) (l m : TermTree-F TermTree) → out-TermTree a ≡ l → out-TermTree b ≡ m → nat_eq (tag_of l) (tag_of m) ≡ false → packed_of a ++ u ≡ packed_of b ++ v → (a ≡ b) × (u ≡ v)
off a b u v l m e f differ same =
    let one = tagged a in
    let two = tagged b in
    let fronts : (tag_of (out-TermTree a) ∷ one.0) ++ u ≡ (tag_of (out-TermTree b) ∷ two.0) ++ v = (λ i. sym one.1 i ++ u) ∙ (same ∙ (λ i. two.1 i ++ v)) in
    let tags : tag_of (out-TermTree a) ≡ tag_of (out-TermTree b) = cc in
    absurd (eqb-false (tag_of l) (tag_of m) differ (ap tag_of (sym e) ∙ (tags ∙ ap tag_of f)))

chunks : (x y z u : List ℕ) → (x ++ (y ++ z)) ++ u ≡ x ++ (y ++ (z ++ u))
chunks x y z u = simp append_assoc

fit_of : (ps : List (TermTree × TermTree)) → ArePairs ps → sum (map pair_faults ps) ≡ 0
fit_of ps h = omega (arith, h)

pub alone : (a : TermTree) → Alone a
alone = by_parts Alone record {
  at_int = at-Int;
  at_atom = at-Atom;
  at_bin = at-Bin;
  at_list = at-List;
  at_tuple = at-Tuple;
  at_map = at-Map;
  at_closure = at-Closure;
  at_nil = at-Nil;
}
  where
    at-Int : (n : ℤ) → Alone (tree.Int n)
    at-Int n b u v h k w z q = go (out-TermTree b) refl
      where
        go : (l : TermTree-F TermTree) → out-TermTree b ≡ l → (tree.Int n ≡ b) × (u ≡ v)
        go (layer.Int m) e =
            let f : b ≡ tree.Int m = layered b _ e ∙ rolls-Int m in
            let kt : IsTerm (tree.Int m) = subst IsTerm f k in
            let zt : width_of (tree.Int m) < 2 ^ 32 = subst (λ y. width_of y < 2 ^ 32) f z in
            let r = (λ i. sym (packed-Int n) i ++ u) ∙ (q ∙ ((λ i. packed_of (f i) ++ v) ∙ (λ i. packed-Int m i ++ v))) in
            let d = same_integer n m u v (holds _ (sym (faults-Int n) ∙ h)) (holds _ (sym (faults-Int m) ∙ kt)) (cc) in
            (ap tree.Int d.0 ∙ sym f, d.1)
        go l e = off (tree.Int n) b u v _ l (outs-Int n) e refl q

    at-Atom : (x : List ℕ) → Alone (tree.Atom x)
    at-Atom x b u v h k w z q = go (out-TermTree b) refl
      where
        go : (l : TermTree-F TermTree) → out-TermTree b ≡ l → (tree.Atom x ≡ b) × (u ≡ v)
        go (layer.Atom y) e =
            let f : b ≡ tree.Atom y = layered b _ e ∙ rolls-Atom y in
            let kt : IsTerm (tree.Atom y) = subst IsTerm f k in
            let zt : width_of (tree.Atom y) < 2 ^ 32 = subst (λ y. width_of y < 2 ^ 32) f z in
            let r = (λ i. sym (packed-Atom x) i ++ u) ∙ (q ∙ ((λ i. packed_of (f i) ++ v) ∙ (λ i. packed-Atom y i ++ v))) in
            let d = same_short x y u v (cc) in
            (ap tree.Atom d.0 ∙ sym f, d.1)
        go l e = off (tree.Atom x) b u v _ l (outs-Atom x) e refl q

    at-Bin : (x : List ℕ) → Alone (tree.Bin x)
    at-Bin x b u v h k w z q = go (out-TermTree b) refl
      where
        go : (l : TermTree-F TermTree) → out-TermTree b ≡ l → (tree.Bin x ≡ b) × (u ≡ v)
        go (layer.Bin y) e =
            let f : b ≡ tree.Bin y = layered b _ e ∙ rolls-Bin y in
            let kt : IsTerm (tree.Bin y) = subst IsTerm f k in
            let zt : width_of (tree.Bin y) < 2 ^ 32 = subst (λ y. width_of y < 2 ^ 32) f z in
            let r = (λ i. sym (packed-Bin x) i ++ u) ∙ (q ∙ ((λ i. packed_of (f i) ++ v) ∙ (λ i. packed-Bin y i ++ v))) in
            let c = same_count x y (x ++ u) (y ++ v) (omega (arith, w, width-Bin x)) (omega (arith, zt, width-Bin y)) (sym (append_assoc (count_bytes x) x u) ∙ ((cc) ∙ append_assoc (count_bytes y) y v)) in
            let d = same_front x y u v c.0 c.1 in
            (ap tree.Bin d.0 ∙ sym f, d.1)
        go l e = off (tree.Bin x) b u v _ l (outs-Bin x) e refl q

    at-List : (xs : List TermTree) (s : TermTree) → Each Alone xs → Alone s → Alone (tree.List xs s)
    at-List xs s each alone b u v h k w z q = go (out-TermTree b) refl
      where
        go : (l : TermTree-F TermTree) → out-TermTree b ≡ l → (tree.List xs s ≡ b) × (u ≡ v)
        go (layer.List ys t) e =
            let f : b ≡ tree.List ys t = layered b _ e ∙ rolls-List ys t in
            let kt : IsTerm (tree.List ys t) = subst IsTerm f k in
            let zt : width_of (tree.List ys t) < 2 ^ 32 = subst (λ y. width_of y < 2 ^ 32) f z in
            let r = (λ i. sym (packed-List xs s) i ++ u) ∙ (q ∙ ((λ i. packed_of (f i) ++ v) ∙ (λ i. packed-List ys t i ++ v))) in
            let c = same_count xs ys (all_packed_of xs ++ (packed_of s ++ u)) (all_packed_of ys ++ (packed_of t ++ v)) (omega (arith, w, width-List xs s)) (omega (arith, zt, width-List ys t)) (sym (chunks (count_bytes xs) (all_packed_of xs) (packed_of s) u) ∙ ((cc) ∙ chunks (count_bytes ys) (all_packed_of ys) (packed_of t) v)) in
            let d = all_alone xs ys (packed_of s ++ u) (packed_of t ++ v) each (parts_of_list xs s h) (parts_of_list ys t kt) (omega (arith, w, width-List xs s)) (omega (arith, zt, width-List ys t)) c.0 c.1 in
            let t_same = alone t u v (tail_of_list xs s h) (tail_of_list ys t kt) (omega (arith, w, width-List xs s)) (omega (arith, zt, width-List ys t)) d.1 in
            ((λ i. tree.List (d.0 i) (t_same.0 i)) ∙ sym f, t_same.1)
        go l e = off (tree.List xs s) b u v _ l (outs-List xs s) e refl q

    at-Tuple : (xs : List TermTree) → Each Alone xs → Alone (tree.Tuple xs)
    at-Tuple xs each b u v h k w z q = go (out-TermTree b) refl
      where
        go : (l : TermTree-F TermTree) → out-TermTree b ≡ l → (tree.Tuple xs ≡ b) × (u ≡ v)
        go (layer.Tuple ys) e =
            let f : b ≡ tree.Tuple ys = layered b _ e ∙ rolls-Tuple ys in
            let kt : IsTerm (tree.Tuple ys) = subst IsTerm f k in
            let zt : width_of (tree.Tuple ys) < 2 ^ 32 = subst (λ y. width_of y < 2 ^ 32) f z in
            let r = (λ i. sym (packed-Tuple xs) i ++ u) ∙ (q ∙ ((λ i. packed_of (f i) ++ v) ∙ (λ i. packed-Tuple ys i ++ v))) in
            let c = same_count xs ys (all_packed_of xs ++ u) (all_packed_of ys ++ v) (omega (arith, w, width-Tuple xs)) (omega (arith, zt, width-Tuple ys)) (sym (append_assoc (count_bytes xs) (all_packed_of xs) u) ∙ ((cc) ∙ append_assoc (count_bytes ys) (all_packed_of ys) v)) in
            let d = all_alone xs ys u v each (parts_of_tuple xs h) (parts_of_tuple ys kt) (omega (arith, w, width-Tuple xs)) (omega (arith, zt, width-Tuple ys)) c.0 c.1 in
            (ap tree.Tuple d.0 ∙ sym f, d.1)
        go l e = off (tree.Tuple xs) b u v _ l (outs-Tuple xs) e refl q

    at-Map : (ps : List (TermTree × TermTree)) → Each (OfBoth Alone) ps → Alone (tree.Map ps)
    at-Map ps each b u v h k w z q = go (out-TermTree b) refl
      where
        go : (l : TermTree-F TermTree) → out-TermTree b ≡ l → (tree.Map ps ≡ b) × (u ≡ v)
        go (layer.Map qs) e =
            let f : b ≡ tree.Map qs = layered b _ e ∙ rolls-Map qs in
            let kt : IsTerm (tree.Map qs) = subst IsTerm f k in
            let zt : width_of (tree.Map qs) < 2 ^ 32 = subst (λ y. width_of y < 2 ^ 32) f z in
            let r = (λ i. sym (packed-Map ps) i ++ u) ∙ (q ∙ ((λ i. packed_of (f i) ++ v) ∙ (λ i. packed-Map qs i ++ v))) in
            let c = same_count ps qs (pairs_packed_of ps ++ u) (pairs_packed_of qs ++ v) (omega (arith, w, width-Map ps)) (omega (arith, zt, width-Map qs)) (sym (append_assoc (count_bytes ps) (pairs_packed_of ps) u) ∙ ((cc) ∙ append_assoc (count_bytes qs) (pairs_packed_of qs) v)) in
            let d = pairs_alone ps qs u v each (fit_of ps (pairs_of_map ps h)) (fit_of qs (pairs_of_map qs kt)) (omega (arith, w, width-Map ps)) (omega (arith, zt, width-Map qs)) c.0 c.1 in
            (ap tree.Map d.0 ∙ sym f, d.1)
        go l e = off (tree.Map ps) b u v _ l (outs-Map ps) e refl q

    at-Closure : (o : Origin) (xs : List TermTree) → Each Alone xs → Alone (tree.Closure o xs)
    at-Closure o xs each b u v h k w z q = go (out-TermTree b) refl
      where
        go : (l : TermTree-F TermTree) → out-TermTree b ≡ l → (tree.Closure o xs ≡ b) × (u ≡ v)
        go (layer.Closure p ys) e =
            let f : b ≡ tree.Closure p ys = layered b _ e ∙ rolls-Closure p ys in
            let kt : IsTerm (tree.Closure p ys) = subst IsTerm f k in
            let zt : width_of (tree.Closure p ys) < 2 ^ 32 = subst (λ y. width_of y < 2 ^ 32) f z in
            let r = (λ i. sym (packed-Closure o xs) i ++ u) ∙ (q ∙ ((λ i. packed_of (f i) ++ v) ∙ (λ i. packed-Closure p ys i ++ v))) in
            let one = same_short o.module p.module (short_text o.name ++ (o.arity ∷ length xs ∷ (all_packed_of xs ++ u))) (short_text p.name ++ (p.arity ∷ length ys ∷ (all_packed_of ys ++ v))) (sym (chunks (short_text o.module) (short_text o.name) (o.arity ∷ length xs ∷ all_packed_of xs) u) ∙ ((cc) ∙ chunks (short_text p.module) (short_text p.name) (p.arity ∷ length ys ∷ all_packed_of ys) v)) in
            let two = same_short o.name p.name (o.arity ∷ length xs ∷ (all_packed_of xs ++ u)) (p.arity ∷ length ys ∷ (all_packed_of ys ++ v)) one.1 in
            let arity : o.arity ≡ p.arity = cc (two.1, two.1) in
            let long : length xs ≡ length ys = cc (two.1, two.1) in
            let d = all_alone xs ys u v each (parts_of_closure o xs h) (parts_of_closure p ys kt) (omega (arith, w, width-Closure o xs)) (omega (arith, zt, width-Closure p ys)) long (cc (two.1)) in
            ((λ i. tree.Closure record { «module» = one.0 i; name = two.0 i; arity = arity i } (d.0 i)) ∙ sym f, d.1)
        go l e = off (tree.Closure o xs) b u v _ l (outs-Closure o xs) e refl q

    at-Nil : Alone tree.Nil
    at-Nil b u v h k w z q = go (out-TermTree b) refl
      where
        go : (l : TermTree-F TermTree) → out-TermTree b ≡ l → (tree.Nil ≡ b) × (u ≡ v)
        go layer.Nil e =
            let f : b ≡ tree.Nil = layered b _ e ∙ rolls-Nil in
            let r = (λ i. sym packed-Nil i ++ u) ∙ (q ∙ ((λ i. packed_of (f i) ++ v) ∙ (λ i. packed-Nil i ++ v))) in
            (sym f, cc (r))
        go l e = off tree.Nil b u v _ l outs-Nil e refl q

pub one_spelling : (x y : Term) (u v : List ℕ) → width_of x.node < 2 ^ 32 → width_of y.node < 2 ^ 32 → packed_of x.node ++ u ≡ packed_of y.node ++ v → (x ≡ y) × (u ≡ v)
one_spelling x y u v w z q =
    let d = alone x.node y.node u v x.fits y.fits w z q in (same_node x y d.0, d.1)
