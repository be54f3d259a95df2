-- A term that is read is spelled so, and no deeper than was allowed.
use Rattle.std.proofs.Common.{◌≡◌, ◌<◌, ◌≤◌, ◌^◌, max, ℕ, zero, suc, Bool, true, false, cond, ltb, leb, eqb, List, [], ◌∷◌, ◌++◌, length, map, Option, Some, None, refl, ap, sym, subst, ◌∙◌, append_assoc, arith}
use Rattle.std.specs.Int.{w32, to_be_bytes}
use Rattle.std.proofs.lemmas.Bool.{eqb-false, eqb-true, leb-true, and_parts}
use Rattle.std.specs.Str.{is_utf8}
use Rattle.std.proofs.lemmas.List.{append-nil}
use Rattle.std.proofs.lemmas.Option.{same_Some}
use Rattle.kh_term.specs.declared.name.Origin.{Origin}
use Rattle.kh_term.specs.declared.tree.TermTree.{TermTree, out-TermTree}
use Rattle.kh_term.specs.declared.tree.TermTree.TheOpen.{TermTree-F}
use Rattle.kh_term.specs.declared.tree.TermTree.TheOpen as layer
use Rattle.kh_term.specs.declared.tree.TermTree.TheVariants as tree
use Rattle.kh_term.specs.declared.tree.TermTree.TheVariants.{outs-Nil}
use Rattle.kh_term.specs.Lookup.{rises_after}
use Rattle.kh_term.specs.Make.{list_with_tail, in_front_of}
use Rattle.kh_term.specs.Packed.{packed_of, all_packed_of, pairs_packed_of, integer_len, integer_bytes, short_text}
use Rattle.kh_term.specs.Size.{depth_of, width_of, greatest, is_nil}
use Rattle.kh_term.specs.WellFormed.{is_list}
use Rattle.kh_term.proofs.Layers.{depth-Int, depth-Atom, depth-Bin, depth-Nil, depth-List, depth-Tuple, depth-Map, depth-Closure, width-Int, width-Atom, width-Bin, width-Nil, width-List, width-Tuple, width-Map, width-Closure, packed-Int, packed-Atom, packed-Bin, packed-Nil, packed-List, packed-Tuple, packed-Map, packed-Closure}
use Rattle.kh_term.proofs.Tags.{tag_of, tagged}
use Rattle.kh_pack.specs.Reading.{Read, ◌>>=◌, first_at, count_at, integer_at, text_at, binary_at, origin_at, many_at, pairs_at, tail_at, list_at, tuple_at, map_at, closure_at, flat_at, deep_at, term_at}
use Rattle.kh_pack.proofs.FieldsRead.{first_takes, count_takes, text_takes, binary_takes, origin_bytes, origin_takes, integer_takes}
use Rattle.kh_pack.proofs.Steps.{IsBytes, bind_some, passed, Takes, Takes-then}

-- a term that was read
pub record IsRead (depth : ℕ) (bytes : List ℕ) (t : TermTree) (rest : List ℕ) : Type 0 where
  pub takes : Takes bytes (packed_of t) rest
  pub shallow : depth_of t ≤ depth
  pub narrow : width_of t < 2 ^ 32

-- what this reads is read so
abbrev pub Reads : ℕ → (List ℕ → Read TermTree) → Type 0
Reads depth one = (bytes : List ℕ) (x : TermTree × List ℕ) → IsBytes bytes → one bytes ≡ Some x → IsRead depth bytes x.0 x.1

-- a term that was read behind its tag
pub record IsReadBehind (depth tag : ℕ) (bytes : List ℕ) (t : TermTree) (rest : List ℕ) : Type 0 where
  pub text : List ℕ
  pub spelled : packed_of t ≡ tag ∷ text
  pub takes : Takes bytes text rest
  pub shallow : depth_of t ≤ depth
  pub narrow : width_of t < 2 ^ 32

abbrev pub ReadsBehind : ℕ → ℕ → (List ℕ → Read TermTree) → Type 0
ReadsBehind depth tag one = (bytes : List ℕ) (x : TermTree × List ℕ) → IsBytes bytes → one bytes ≡ Some x → IsReadBehind depth tag bytes x.0 x.1

-- the same of a term and a rest that are known otherwise
abbrev AsRead : ℕ → ℕ → List ℕ → TermTree × List ℕ → Type 0
AsRead depth tag bytes x = IsReadBehind depth tag bytes x.0 x.1

-- ---- terms, one after another

-- terms that were read behind others
pub record AreRead (depth count : ℕ) (before : List TermTree) (bytes : List ℕ) (all : List TermTree) (rest : List ℕ) : Type 0 where
  pub parts : List TermTree
  pub are : all ≡ before ++ parts
  pub number : length parts ≡ count
  pub takes : Takes bytes (all_packed_of parts) rest
  pub shallow : greatest (map depth_of parts) ≤ depth
  pub narrow : greatest (map width_of parts) < 2 ^ 32

many_read : (depth : ℕ) (one : List ℕ → Read TermTree) → Reads depth one → (count : ℕ) (before : List TermTree) (bytes : List ℕ) (x : List TermTree × List ℕ)
    → IsBytes bytes → many_at one count before bytes ≡ Some x → AreRead depth count before bytes x.0 x.1
unfolding many_at
many_read depth one reads zero before bytes x fits e =
    subst (λ (y : List TermTree × List ℕ). AreRead depth 0 before bytes y.0 y.1) (same_Some (before, bytes) x e)
    (record { parts = []; are = sym (append-nil before); number = refl; takes = record { parts = refl; rest_fits = fits }; shallow = omega arith; narrow = omega arith })
many_read depth one reads (suc count) before bytes x fits e =
    let a = bind_some (one bytes) (λ part. many_at one count (before ++ part.0 ∷ []) part.1) x e in
    let first = reads bytes a.0 fits a.1 in
    let later = many_read depth one reads count (before ++ a.0.0 ∷ []) a.0.1 x first.takes.rest_fits a.2 in
    record {
      parts = a.0.0 ∷ later.parts;
      are = later.are ∙ append_assoc before (a.0.0 ∷ []) later.parts;
      number = omega (arith, later.number);
      takes = Takes-then bytes (packed_of a.0.0) a.0.1 (all_packed_of later.parts) x.1 first.takes later.takes;
      shallow = omega (arith, first.shallow, later.shallow);
      narrow = omega (arith, first.narrow, later.narrow);
    }

abbrev TermPairs : Type 0
TermPairs = List (TermTree × TermTree)

abbrev pair_depth : TermTree × TermTree → ℕ
pair_depth p = max (depth_of p.0) (depth_of p.1)

abbrev pair_width : TermTree × TermTree → ℕ
pair_width p = max (width_of p.0) (width_of p.1)

record ArePairsRead (depth count : ℕ) (before : TermPairs) (bytes : List ℕ) (all : TermPairs) (rest : List ℕ) : Type 0 where
  parts : TermPairs
  are : all ≡ before ++ parts
  number : length parts ≡ count
  takes : Takes bytes (pairs_packed_of parts) rest
  shallow : greatest (map pair_depth parts) ≤ depth
  narrow : greatest (map pair_width parts) < 2 ^ 32

pairs_read : (depth : ℕ) (one : List ℕ → Read TermTree) → Reads depth one → (count : ℕ) (before : TermPairs) (bytes : List ℕ) (x : TermPairs × List ℕ)
    → IsBytes bytes → pairs_at one count before bytes ≡ Some x → ArePairsRead depth count before bytes x.0 x.1
unfolding pairs_at
pairs_read depth one reads zero before bytes x fits e =
    subst (λ (y : TermPairs × List ℕ). ArePairsRead depth 0 before bytes y.0 y.1) (same_Some (before, bytes) x e)
    (record { parts = []; are = sym (append-nil before); number = refl; takes = record { parts = refl; rest_fits = fits }; shallow = omega arith; narrow = omega arith })
pairs_read depth one reads (suc count) before bytes x fits e =
    let next : TermTree × List ℕ → TermTree × List ℕ → Read TermPairs = λ key value. cond (rises_after before key.0) (pairs_at one count (before ++ (key.0, value.0) ∷ []) value.1) None in
    let a = bind_some (one bytes) (λ key. one key.1 >>= next key) x e in
    let b = bind_some (one a.0.1) (next a.0) x a.2 in
    let c = went_on (rises_after before a.0.0) (pairs_at one count (before ++ (a.0.0, b.0.0) ∷ []) b.0.1) x b.2 in
    let key = reads bytes a.0 fits a.1 in
    let value = reads a.0.1 b.0 key.takes.rest_fits b.1 in
    let both = Takes-then bytes (packed_of a.0.0) a.0.1 (packed_of b.0.0) b.0.1 key.takes value.takes in
    let later = pairs_read depth one reads count (before ++ (a.0.0, b.0.0) ∷ []) b.0.1 x value.takes.rest_fits c in
    record {
      parts = (a.0.0, b.0.0) ∷ later.parts;
      are = later.are ∙ append_assoc before ((a.0.0, b.0.0) ∷ []) later.parts;
      number = omega (arith, later.number);
      takes = Takes-then bytes (packed_of a.0.0 ++ packed_of b.0.0) b.0.1 (pairs_packed_of later.parts) x.1 both later.takes;
      shallow = omega (arith, key.shallow, value.shallow, later.shallow);
      narrow = omega (arith, key.narrow, value.narrow, later.narrow);
    }
  where
    went_on : (test : Bool) (read : Read TermPairs) (y : TermPairs × List ℕ) → cond test read None ≡ Some y → read ≡ Some y
    went_on true read y e = e
    went_on false read y e = absurd cc

-- ---- lists

record IsTailRead (depth : ℕ) (bytes : List ℕ) (t : TermTree) (rest : List ℕ) : Type 0 where
  takes : Takes bytes (packed_of t) rest
  no_list : is_list (out-TermTree t) ≡ false
  shallow : cond (is_nil (out-TermTree t)) 0 (depth_of t) ≤ depth
  narrow : width_of t < 2 ^ 32

no_list_by_tag : (l : TermTree-F TermTree) → eqb (tag_of l) 5 ≡ false → is_list l ≡ false
no_list_by_tag (layer.List parts tail) e = absurd cc
no_list_by_tag l e = refl

unless : (b : Bool) (d m : ℕ) → d ≤ m → cond b 0 d ≤ m
unless true d m h = omega arith
unless false d m h = h

tail_read : (depth : ℕ) (one : List ℕ → Read TermTree) → Reads depth one → (bytes : List ℕ) (x : TermTree × List ℕ)
    → IsBytes bytes → tail_at one bytes ≡ Some x → IsTailRead depth bytes x.0 x.1
unfolding tail_at
tail_read depth one reads [] x fits e = absurd cc
tail_read depth one reads (tag ∷ bytes) x fits e = go (eqb tag 4) refl e
  where
    go : (nil : Bool) → eqb tag 4 ≡ nil → cond nil (Some (tree.Nil, bytes)) (cond (eqb tag 5) None (one (tag ∷ bytes))) ≡ Some x → IsTailRead depth (tag ∷ bytes) x.0 x.1
    go true is f =
        let tag_is : tag ≡ 4 = eqb-true tag 4 is in
        let spelled : tag ∷ bytes ≡ packed_of tree.Nil ++ bytes = ap (λ n. n ∷ bytes) tag_is ∙ sym (ap (λ t. t ++ bytes) packed-Nil) in
        subst (λ (y : TermTree × List ℕ). IsTailRead depth (tag ∷ bytes) y.0 y.1) (same_Some (tree.Nil, bytes) x f)
        (record {
          takes = record { parts = spelled; rest_fits = λ i. fits (suc i) };
          no_list = ap is_list outs-Nil;
          shallow = subst (λ b. cond b 0 (depth_of tree.Nil) ≤ depth) (sym (ap is_nil outs-Nil)) (omega arith);
          narrow = omega (arith, width-Nil);
        })
    go false is f =
        let a = passed (eqb tag 5) (one (tag ∷ bytes)) x f in
        let read = reads (tag ∷ bytes) x fits a.1 in
        let begins = tagged x.0 in
        let spelled : tag ∷ bytes ≡ (tag_of (out-TermTree x.0) ∷ begins.0) ++ x.1 = read.takes.parts ∙ ap (λ t. t ++ x.1) begins.1 in
        let same : tag ≡ tag_of (out-TermTree x.0) = cc in
        record {
          takes = read.takes;
          no_list = no_list_by_tag (out-TermTree x.0) (ap (λ n. eqb n 5) (sym same) ∙ a.0);
          shallow = unless (is_nil (out-TermTree x.0)) (depth_of x.0) depth read.shallow;
          narrow = read.narrow;
        }

-- elements in front of a tail that is no list
pub list_made : (parts : List TermTree) (tail : TermTree) → 1 ≤ length parts → is_list (out-TermTree tail) ≡ false → list_with_tail parts tail ≡ tree.List parts tail
list_made [] tail some none = absurd (omega arith)
list_made (part ∷ parts) tail some none = go (out-TermTree tail) none
  where
    go : (l : TermTree-F TermTree) → is_list l ≡ false → in_front_of (part ∷ parts) l tail ≡ tree.List (part ∷ parts) tail
    go (layer.List more end) e = absurd cc
    go l e = refl

list_read : (depth : ℕ) (one : List ℕ → Read TermTree) → Reads depth one → ReadsBehind (suc depth) 5 (list_at one)
unfolding list_at
list_read depth one reads bytes x fits e =
    let made : List TermTree × List ℕ → TermTree × List ℕ → TermTree × List ℕ = λ parts tail. (list_with_tail parts.0 tail.0, tail.1) in
    let inside : ℕ × List ℕ → Read TermTree = λ n. many_at one n.0 [] n.1 >>= λ parts. tail_at one parts.1 >>= λ tail. Some (made parts tail) in
    let a = bind_some (count_at bytes) (λ n. cond (eqb n.0 0) None (inside n)) x e in
    let n = a.0.0 in
    let b = passed (eqb n 0) (inside a.0) x a.2 in
    let c = bind_some (many_at one n [] a.0.1) (λ parts. tail_at one parts.1 >>= λ tail. Some (made parts tail)) x b.1 in
    let d = bind_some (tail_at one c.0.1) (λ tail. Some (made c.0 tail)) x c.2 in
    let tail = d.0.0 in
    let count = count_takes bytes a.0 fits a.1 in
    let many = many_read depth one reads n [] a.0.1 c.0 count.0.rest_fits c.1 in
    let end = tail_read depth one reads c.0.1 d.0 many.takes.rest_fits d.1 in
    let some = eqb-false n 0 b.0 in
    let is : made (many.parts, c.0.1) d.0 ≡ x = ap (λ (ts : List TermTree). made (ts, c.0.1) d.0) (sym many.are) ∙ same_Some (made c.0 d.0) x d.2 in
    let list : list_with_tail many.parts tail ≡ tree.List many.parts tail = list_made many.parts tail (omega (arith, some, many.number)) end.no_list in
    let behind = Takes-then a.0.1 (all_packed_of many.parts) c.0.1 (packed_of tail) d.0.1 many.takes end.takes in
    let whole = Takes-then bytes (to_be_bytes w32 n) a.0.1 (all_packed_of many.parts ++ packed_of tail) d.0.1 count.0 behind in
    subst (AsRead (suc depth) 5 bytes) is (subst (λ (t : TermTree). IsReadBehind (suc depth) 5 bytes t d.0.1) (sym list) (record {
      text = to_be_bytes w32 n ++ (all_packed_of many.parts ++ packed_of tail);
      spelled = packed-List many.parts tail ∙ ap (λ m. 5 ∷ (to_be_bytes w32 m ++ (all_packed_of many.parts ++ packed_of tail))) many.number;
      takes = whole;
      shallow = omega (arith, depth-List many.parts tail, many.shallow, end.shallow);
      narrow = omega (arith, width-List many.parts tail, many.narrow, end.narrow, many.number, count.1);
    }))

-- ---- tuples, maps and closures

tuple_read : (depth : ℕ) (one : List ℕ → Read TermTree) → Reads depth one → ReadsBehind (suc depth) 6 (tuple_at one)
unfolding tuple_at
tuple_read depth one reads bytes x fits e =
    let a = bind_some (count_at bytes) (λ n. many_at one n.0 [] n.1 >>= λ parts. Some (tree.Tuple parts.0, parts.1)) x e in
    let n = a.0.0 in
    let b = bind_some (many_at one n [] a.0.1) (λ parts. Some (tree.Tuple parts.0, parts.1)) x a.2 in
    let count = count_takes bytes a.0 fits a.1 in
    let many = many_read depth one reads n [] a.0.1 b.0 count.0.rest_fits b.1 in
    let is : (tree.Tuple many.parts, b.0.1) ≡ x = ap (λ (ts : List TermTree). (tree.Tuple ts, b.0.1)) (sym many.are) ∙ same_Some (tree.Tuple b.0.0, b.0.1) x b.2 in
    subst (AsRead (suc depth) 6 bytes) is (record {
      text = to_be_bytes w32 n ++ all_packed_of many.parts;
      spelled = packed-Tuple many.parts ∙ ap (λ m. 6 ∷ (to_be_bytes w32 m ++ all_packed_of many.parts)) many.number;
      takes = Takes-then bytes (to_be_bytes w32 n) a.0.1 (all_packed_of many.parts) b.0.1 count.0 many.takes;
      shallow = omega (arith, depth-Tuple many.parts, many.shallow);
      narrow = omega (arith, width-Tuple many.parts, many.narrow, many.number, count.1);
    })

map_read : (depth : ℕ) (one : List ℕ → Read TermTree) → Reads depth one → ReadsBehind (suc depth) 7 (map_at one)
unfolding map_at
map_read depth one reads bytes x fits e =
    let a = bind_some (count_at bytes) (λ n. pairs_at one n.0 [] n.1 >>= λ pairs. Some (tree.Map pairs.0, pairs.1)) x e in
    let n = a.0.0 in
    let b = bind_some (pairs_at one n [] a.0.1) (λ pairs. Some (tree.Map pairs.0, pairs.1)) x a.2 in
    let count = count_takes bytes a.0 fits a.1 in
    let many = pairs_read depth one reads n [] a.0.1 b.0 count.0.rest_fits b.1 in
    let is : (tree.Map many.parts, b.0.1) ≡ x = ap (λ (ps : TermPairs). (tree.Map ps, b.0.1)) (sym many.are) ∙ same_Some (tree.Map b.0.0, b.0.1) x b.2 in
    subst (AsRead (suc depth) 7 bytes) is (record {
      text = to_be_bytes w32 n ++ pairs_packed_of many.parts;
      spelled = packed-Map many.parts ∙ ap (λ m. 7 ∷ (to_be_bytes w32 m ++ pairs_packed_of many.parts)) many.number;
      takes = Takes-then bytes (to_be_bytes w32 n) a.0.1 (pairs_packed_of many.parts) b.0.1 count.0 many.takes;
      shallow = omega (arith, depth-Map many.parts, many.shallow);
      narrow = omega (arith, width-Map many.parts, many.narrow, many.number, count.1);
    })

-- the bytes of a closure, its origin first
closure_text : (origin : Origin) (n : ℕ) (env : List ℕ) → short_text origin.module ++ (short_text origin.name ++ (origin.arity ∷ n ∷ env)) ≡ origin_bytes origin ++ (n ∷ env)
closure_text origin n env =
    sym (append_assoc (short_text origin.module) (short_text origin.name ++ (origin.arity ∷ [])) (n ∷ env)
    ∙ ap (λ w. short_text origin.module ++ w) (append_assoc (short_text origin.name) (origin.arity ∷ []) (n ∷ env)))

closure_read : (depth : ℕ) (one : List ℕ → Read TermTree) → Reads depth one → ReadsBehind (suc depth) 8 (closure_at one)
unfolding closure_at
closure_read depth one reads bytes x fits e =
    let inside : Origin × List ℕ → ℕ × List ℕ → Read TermTree = λ origin n. many_at one n.0 [] n.1 >>= λ env. Some (tree.Closure origin.0 env.0, env.1) in
    let next : Origin × List ℕ → ℕ × List ℕ → Read TermTree = λ origin n. cond (ltb origin.0.arity n.0) None (inside origin n) in
    let a = bind_some (origin_at bytes) (λ origin. first_at origin.1 >>= next origin) x e in
    let o = a.0.0 in
    let b = bind_some (first_at a.0.1) (next a.0) x a.2 in
    let n = b.0.0 in
    let c = passed (ltb o.arity n) (inside a.0 b.0) x b.2 in
    let d = bind_some (many_at one n [] b.0.1) (λ env. Some (tree.Closure o env.0, env.1)) x c.1 in
    let origin = origin_takes bytes a.0 fits a.1 in
    let first = first_takes a.0.1 b.0 origin.takes.rest_fits b.1 in
    let many = many_read depth one reads n [] b.0.1 d.0 first.0.rest_fits d.1 in
    let is : (tree.Closure o many.parts, d.0.1) ≡ x = ap (λ (ts : List TermTree). (tree.Closure o ts, d.0.1)) (sym many.are) ∙ same_Some (tree.Closure o d.0.0, d.0.1) x d.2 in
    let behind = Takes-then a.0.1 (n ∷ []) b.0.1 (all_packed_of many.parts) d.0.1 first.0 many.takes in
    subst (AsRead (suc depth) 8 bytes) is (record {
      text = origin_bytes o ++ (n ∷ all_packed_of many.parts);
      spelled = packed-Closure o many.parts ∙ (ap (λ m. 8 ∷ (short_text o.module ++ (short_text o.name ++ (o.arity ∷ m ∷ all_packed_of many.parts)))) many.number
          ∙ ap (λ w. 8 ∷ w) (closure_text o n (all_packed_of many.parts)));
      takes = Takes-then bytes (origin_bytes o) a.0.1 (n ∷ all_packed_of many.parts) d.0.1 origin.takes behind;
      shallow = omega (arith, depth-Closure o many.parts, many.shallow);
      narrow = omega (arith, width-Closure o many.parts, many.narrow, many.number, first.1, origin.short_module, origin.short_name);
    })

-- ---- any term

-- which of two ways was gone
data Way {A : Type 0} (test : Bool) (yes_read no_read : Option A) (x : A) : Type 0 where
  Yes : test ≡ true → yes_read ≡ Some x → Way test yes_read no_read x
  No : test ≡ false → no_read ≡ Some x → Way test yes_read no_read x

way : {A : Type 0} (test : Bool) (yes_read no_read : Option A) (x : A) → cond test yes_read no_read ≡ Some x → Way test yes_read no_read x
way true yes_read no_read x e = Yes refl e
way false yes_read no_read x e = No refl e

-- a term that was read behind a tag that is known
tagged_so : (depth tag known : ℕ) (bytes : List ℕ) (x : TermTree × List ℕ) → tag ≡ known → AsRead depth known bytes x → AsRead depth tag bytes x
tagged_so depth tag known bytes x is read = subst (λ n. AsRead depth n bytes x) (sym is) read

int_read : (depth : ℕ) (bytes : List ℕ) (x : TermTree × List ℕ) → IsBytes bytes → (integer_at bytes >>= λ n. Some (tree.Int n.0, n.1)) ≡ Some x → AsRead depth 1 bytes x
int_read depth bytes x fits e =
    let a = bind_some (integer_at bytes) (λ n. Some (tree.Int n.0, n.1)) x e in
    subst (AsRead depth 1 bytes) (same_Some (tree.Int a.0.0, a.0.1) x a.2) (record {
      text = integer_len a.0.0 ∷ integer_bytes a.0.0;
      spelled = packed-Int a.0.0;
      takes = integer_takes bytes a.0 fits a.1;
      shallow = omega (arith, depth-Int a.0.0);
      narrow = omega (arith, width-Int a.0.0);
    })

atom_read : (depth : ℕ) (bytes : List ℕ) (x : TermTree × List ℕ) → IsBytes bytes → (text_at bytes >>= λ text. Some (tree.Atom text.0, text.1)) ≡ Some x → AsRead depth 2 bytes x
atom_read depth bytes x fits e =
    let a = bind_some (text_at bytes) (λ text. Some (tree.Atom text.0, text.1)) x e in
    let taken = text_takes bytes a.0 fits a.1 in
    let few = leb-true (length a.0.0) 255 (and_parts (leb (length a.0.0) 255) (is_utf8 a.0.0) taken.1).0 in
    subst (AsRead depth 2 bytes) (same_Some (tree.Atom a.0.0, a.0.1) x a.2) (record {
      text = short_text a.0.0;
      spelled = packed-Atom a.0.0;
      takes = taken.0;
      shallow = omega (arith, depth-Atom a.0.0);
      narrow = omega (arith, width-Atom a.0.0, few);
    })

bin_read : (depth : ℕ) (bytes : List ℕ) (x : TermTree × List ℕ) → IsBytes bytes → (binary_at bytes >>= λ text. Some (tree.Bin text.0, text.1)) ≡ Some x → AsRead depth 3 bytes x
bin_read depth bytes x fits e =
    let a = bind_some (binary_at bytes) (λ text. Some (tree.Bin text.0, text.1)) x e in
    let taken = binary_takes bytes a.0 fits a.1 in
    subst (AsRead depth 3 bytes) (same_Some (tree.Bin a.0.0, a.0.1) x a.2) (record {
      text = to_be_bytes w32 (length a.0.0) ++ a.0.0;
      spelled = packed-Bin a.0.0;
      takes = taken.0;
      shallow = omega (arith, depth-Bin a.0.0);
      narrow = omega (arith, width-Bin a.0.0, taken.1);
    })

flat_read : (depth tag : ℕ) → ReadsBehind depth tag (flat_at tag)
unfolding flat_at
flat_read depth tag bytes x fits e = go (way _ _ _ x e)
  where
    as_atom : Option (TermTree × List ℕ)
    as_atom = text_at bytes >>= λ text. Some (tree.Atom text.0, text.1)

    as_bin : Option (TermTree × List ℕ)
    as_bin = binary_at bytes >>= λ text. Some (tree.Bin text.0, text.1)

    third : Way (eqb tag 3) as_bin None x → AsRead depth tag bytes x
    third (Yes is f) = tagged_so depth tag 3 bytes x (eqb-true tag 3 is) (bin_read depth bytes x fits f)
    third (No is f) = absurd cc

    second : Way (eqb tag 2) as_atom (cond (eqb tag 3) as_bin None) x → AsRead depth tag bytes x
    second (Yes is f) = tagged_so depth tag 2 bytes x (eqb-true tag 2 is) (atom_read depth bytes x fits f)
    second (No is f) = third (way _ _ _ x f)

    go : Way (eqb tag 1) (integer_at bytes >>= λ n. Some (tree.Int n.0, n.1)) (cond (eqb tag 2) as_atom (cond (eqb tag 3) as_bin None)) x → AsRead depth tag bytes x
    go (Yes is f) = tagged_so depth tag 1 bytes x (eqb-true tag 1 is) (int_read depth bytes x fits f)
    go (No is f) = second (way _ _ _ x f)

nil_read : (depth : ℕ) (bytes : List ℕ) (x : TermTree × List ℕ) → IsBytes bytes → Some (tree.Nil, bytes) ≡ Some x → AsRead (suc depth) 4 bytes x
nil_read depth bytes x fits e =
    subst (AsRead (suc depth) 4 bytes) (same_Some (tree.Nil, bytes) x e) (record {
      text = [];
      spelled = packed-Nil;
      takes = record { parts = refl; rest_fits = fits };
      shallow = omega (arith, depth-Nil);
      narrow = omega (arith, width-Nil);
    })

deep_read : (depth : ℕ) (one : List ℕ → Read TermTree) → Reads depth one → (tag : ℕ) → ReadsBehind (suc depth) tag (deep_at one tag)
unfolding deep_at
deep_read depth one reads tag bytes x fits e = go (way _ _ _ x e)
  where
    fifth : Way (eqb tag 8) (closure_at one bytes) (flat_at tag bytes) x → AsRead (suc depth) tag bytes x
    fifth (Yes is f) = tagged_so (suc depth) tag 8 bytes x (eqb-true tag 8 is) (closure_read depth one reads bytes x fits f)
    fifth (No is f) = flat_read (suc depth) tag bytes x fits f

    fourth : Way (eqb tag 7) (map_at one bytes) (cond (eqb tag 8) (closure_at one bytes) (flat_at tag bytes)) x → AsRead (suc depth) tag bytes x
    fourth (Yes is f) = tagged_so (suc depth) tag 7 bytes x (eqb-true tag 7 is) (map_read depth one reads bytes x fits f)
    fourth (No is f) = fifth (way _ _ _ x f)

    third : Way (eqb tag 6) (tuple_at one bytes) (cond (eqb tag 7) (map_at one bytes) (cond (eqb tag 8) (closure_at one bytes) (flat_at tag bytes))) x → AsRead (suc depth) tag bytes x
    third (Yes is f) = tagged_so (suc depth) tag 6 bytes x (eqb-true tag 6 is) (tuple_read depth one reads bytes x fits f)
    third (No is f) = fourth (way _ _ _ x f)

    second : Way (eqb tag 5) (list_at one bytes) (cond (eqb tag 6) (tuple_at one bytes) (cond (eqb tag 7) (map_at one bytes) (cond (eqb tag 8) (closure_at one bytes) (flat_at tag bytes)))) x → AsRead (suc depth) tag bytes x
    second (Yes is f) = tagged_so (suc depth) tag 5 bytes x (eqb-true tag 5 is) (list_read depth one reads bytes x fits f)
    second (No is f) = third (way _ _ _ x f)

    go : Way (eqb tag 4) (Some (tree.Nil, bytes)) (cond (eqb tag 5) (list_at one bytes) (cond (eqb tag 6) (tuple_at one bytes) (cond (eqb tag 7) (map_at one bytes) (cond (eqb tag 8) (closure_at one bytes) (flat_at tag bytes))))) x → AsRead (suc depth) tag bytes x
    go (Yes is f) = tagged_so (suc depth) tag 4 bytes x (eqb-true tag 4 is) (nil_read depth bytes x fits f)
    go (No is f) = second (way _ _ _ x f)

-- the tag, and then what stands behind it
with_tag : (depth : ℕ) (behind : ℕ → List ℕ → Read TermTree) → ((tag : ℕ) → ReadsBehind depth tag (behind tag)) → Reads depth (λ bytes. first_at bytes >>= λ tag. behind tag.0 tag.1)
with_tag depth behind reads bytes x fits e =
    let a = bind_some (first_at bytes) (λ tag. behind tag.0 tag.1) x e in
    let first = first_takes bytes a.0 fits a.1 in
    let read = reads a.0.0 a.0.1 x first.0.rest_fits a.2 in
    record {
      takes = subst (λ (t : List ℕ). Takes bytes t x.1) (sym read.spelled) (Takes-then bytes (a.0.0 ∷ []) a.0.1 read.text x.1 first.0 read.takes);
      shallow = read.shallow;
      narrow = read.narrow;
    }

-- What is read is a term of at most this depth, whose packed bytes stood there.
pub term_read : (depth : ℕ) → Reads depth (term_at depth)
unfolding term_at
term_read zero = with_tag 0 flat_at (flat_read 0)
term_read (suc depth) = with_tag (suc depth) (deep_at (term_at depth)) (deep_read depth (term_at depth) (term_read depth))
