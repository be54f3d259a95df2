-- What an instruction is spelled as reads back.
use Rattle.std.proofs.Common.{◌≡◌, ℕ, Bool, true, false, if◌then◌else◌, ◌&&◌, codes, List, [], ◌∷◌, map, Option, Some, None, option_map, refl, ap, sym, ◌∙◌, subst, nat_eq, IsTrue}
use Rattle.std.proofs.lemmas.Bool.{and_parts}
use Rattle.std.proofs.lemmas.Option.{option_and_then_some, same_Some, none-some}
use Rattle.std.proofs.lemmas.Slice.Eq.{bytes_eq-Decides}
use borrow.Author.Tests.{eqb-true, eq-eqb}
use Rattle.std.specs.Option.{option_and_then, unwrap_or}
use Rattle.std.specs.Str.{bytes_eq}
use Rattle.kh_term.specs.declared.name.Origin.{Origin}
use Rattle.kh_term.specs.declared.tree.TermTree.{TermTree, out-TermTree}
use Rattle.kh_term.specs.declared.tree.TermTree.TheOpen.{TermTree-F}
use Rattle.kh_term.specs.declared.tree.TermTree.TheOpen as layer
use Rattle.kh_term.specs.declared.tree.TermTree.TheVariants as tree
use Rattle.kh_term.specs.declared.tree.TermTree.TheVariants.{outs-Atom, outs-Tuple}
use Rattle.kh_term.specs.Make.{list_of}
use Rattle.kh_instr.specs.declared.instr.Instr.{Instr}
use Rattle.kh_instr.specs.declared.instr.Instr.TheVariants as instr
use Rattle.kh_instr.specs.declared.operand.Reg.{Reg}
use Rattle.kh_instr.specs.declared.operand.Source.{Source}
use Rattle.kh_instr.specs.declared.test.Comparison.{Comparison}
use Rattle.kh_instr.specs.declared.test.Comparison.TheVariants as comparison
use Rattle.kh_instr.specs.declared.test.Test.{Test}
use Rattle.kh_instr.specs.declared.test.Test.TheVariants as test
use Rattle.kh_instr.specs.declared.test.TypeTest.{TypeTest}
use Rattle.kh_instr.specs.declared.test.TypeTest.TheVariants as type_test
use Rattle.kh_instr.specs.declared.words.TestName.{TestName}
use Rattle.kh_instr.specs.declared.words.TestName.TheVariants as test_name
use Rattle.kh_instr.specs.declared.words.Word.{Word}
use Rattle.kh_instr.specs.declared.words.Word.TheVariants as word
use Rattle.kh_instr.specs.Operands.{items_of, atom_of, any_of, arity_of, count_of, own_number_of, label_of, slot_of, quoted_of, reg_of, source_of, function_of, each, both, list_by, listed_by, listed_by_two, one, two, three, four, five}
use Rattle.kh_instr.specs.Rows.{called, few, is_raise, bif_made, bif_of, fields_of, function2_of, test_arity_of, tagged_tuple_of, type_test_of, comparison_of, test_of, listed_test, fields_test, name_and_label, test_row, row, alone, alone_named, row_from, tuple_read, listed_in, listed, first_word, instr_read}
use Rattle.kh_instr.specs.Spelling.{number, reg_tree, label_tree, slot_tree, quoted_tree, source_tree, function_tree, list_tree, listed_tree, listed_two_tree, formed, test_trees, word_of, operands_of, instr_tree, IsListed}
use Rattle.kh_instr.specs.Laws.{InstructionsReadBack}
use Rattle.kh_instr.specs.Words.{word_text, test_text, word_named, test_named}
use Rattle.kh_instr.proofs.Faithful.{map_some, chosen, atom_read, items_read, tagged_read, count_faithful, arity_faithful, own_number_faithful, label_faithful, slot_faithful, name_faithful, quoted_faithful, any_faithful, reg_faithful, source_faithful, function_faithful, each_faithful, list_faithful, listed_faithful, both_faithful, listed_two_faithful, one_back, two_back, three_back, four_back, five_back}

-- each word and each test is named by its own text
word_again : (w : Word) → word_named (word_text w) ≡ Some w
word_again word.Label = refl
word_again w = refl

type_again : (k : TypeTest) → test_named (test_text (test_name.Type k)) ≡ Some (test_name.Type k)
type_again type_test.Integer = refl
type_again k = refl

comparison_again : (k : Comparison) → test_named (test_text (test_name.Compare k)) ≡ Some (test_name.Compare k)
comparison_again comparison.Lt = refl
comparison_again k = refl

test_again : (n : TestName) → test_named (test_text n) ≡ Some n
test_again (test_name.Type k) = type_again k
test_again (test_name.Compare k) = comparison_again k
test_again test_name.Function2 = refl
test_again n = refl

-- the operands of an instruction, behind its word, make it again
abbrev pub Back : Instr → Type 0
Back i = row (word_of i) (operands_of i) ≡ Some i

made : {A : Type 0} (make : A → Instr) (o : Option A) (i : Instr) → option_map make o ≡ Some i → ((x : A) → o ≡ Some x → Back (make x)) → Back i
made make o i e k = map_some make o i e (λ x h same. subst Back same (k x h))

-- ---- external calls

called_is : (n : ℕ) (f g : Origin) → called n f ≡ Some g → (n ≡ f.arity) × (f ≡ g)
called_is n f g e = let both = chosen (nat_eq n f.arity) f g e in (eqb-true n f.arity both.0, both.1)

called_again : (f : Origin) → called f.arity f ≡ Some f
called_again f = ap (λ b. if b then Some f else None) (eq-eqb f.arity f.arity refl)

-- ---- bifs

raise_parts : (name : List ℕ) (l : ℕ) → is_raise name l ≡ true → (l ≡ 0) × (name ≡ codes "raise")
raise_parts name l e =
    let both = and_parts (nat_eq l 0) (bytes_eq name (codes "raise")) e in
    (eqb-true l 0 both.0, (bytes_eq-Decides name (codes "raise")).0 both.1)

-- a raise is spelled as the `bif` that it was
bif_spelled : (name : List ℕ) (l : ℕ) (args : List Source) (r : Reg) → operands_of (bif_made name l args r) ≡ tree.Atom name ∷ label_tree l ∷ list_tree source_tree args ∷ reg_tree r ∷ []
bif_spelled name l [] r = refl
bif_spelled name l (s ∷ []) r = refl
bif_spelled name l (s ∷ t ∷ []) r = go (is_raise name l) refl
  where
    go : (b : Bool) → is_raise name l ≡ b → operands_of (if b then instr.BifRaise s t r else instr.Bif name l (s ∷ t ∷ []) r) ≡ tree.Atom name ∷ label_tree l ∷ list_tree source_tree (s ∷ t ∷ []) ∷ reg_tree r ∷ []
    go true e =
        let parts = raise_parts name l e in
        λ i. tree.Atom (sym parts.1 i) ∷ label_tree (sym parts.0 i) ∷ list_tree source_tree (s ∷ t ∷ []) ∷ reg_tree r ∷ []
    go false e = refl
bif_spelled name l (s ∷ t ∷ u ∷ args) r = refl

bif_word : (name : List ℕ) (l : ℕ) (args : List Source) (r : Reg) → word_of (bif_made name l args r) ≡ word.Bif
bif_word name l [] r = refl
bif_word name l (s ∷ []) r = refl
bif_word name l (s ∷ t ∷ []) r = go (is_raise name l)
  where
    go : (b : Bool) → word_of (if b then instr.BifRaise s t r else instr.Bif name l (s ∷ t ∷ []) r) ≡ word.Bif
    go true = refl
    go false = refl
bif_word name l (s ∷ t ∷ u ∷ args) r = refl

bif_back : (ts : List TermTree) (i : Instr) → row word.Bif ts ≡ Some i → Back i
bif_back ts i e =
    option_and_then_some (λ p. bif_of p.0 p.1 p.2 p.3) (four atom_of label_of (list_by source_of) reg_of ts) i e (λ p k f.
    let which = chosen (few p.2) (bif_made p.0 p.1 p.2 p.3) i f in
    let read = four_back atom_of (λ text. tree.Atom text) label_of label_tree (list_by source_of) (list_tree source_tree) reg_of reg_tree name_faithful label_faithful (list_faithful source_of source_tree source_faithful) reg_faithful ts p k in
    let again : row word.Bif (tree.Atom p.0 ∷ label_tree p.1 ∷ list_tree source_tree p.2 ∷ reg_tree p.3 ∷ []) ≡ Some (bif_made p.0 p.1 p.2 p.3) =
    ap (option_and_then (λ q. bif_of q.0 q.1 q.2 q.3)) read ∙ ap (λ b. if b then Some (bif_made p.0 p.1 p.2 p.3) else None) which.0 in
    subst Back which.1 ((λ j. row (bif_word p.0 p.1 p.2 p.3 j) (bif_spelled p.0 p.1 p.2 p.3 j)) ∙ again))

gc_bif_back : (ts : List TermTree) (i : Instr) → row word.GcBif ts ≡ Some i → Back i
gc_bif_back ts i e =
    option_and_then_some (λ p. if few p.3 then Some (instr.GcBif p.0 p.1 p.2 p.3 p.4) else None) (five atom_of label_of count_of (list_by source_of) reg_of ts) i e (λ p k f.
    let which = chosen (few p.3) (instr.GcBif p.0 p.1 p.2 p.3 p.4) i f in
    let read = five_back atom_of (λ text. tree.Atom text) label_of label_tree count_of number (list_by source_of) (list_tree source_tree) reg_of reg_tree name_faithful label_faithful count_faithful (list_faithful source_of source_tree source_faithful) reg_faithful ts p k in
    subst Back which.1
    (ap (option_and_then (λ q. if few q.3 then Some (instr.GcBif q.0 q.1 q.2 q.3 q.4) else None)) read
    ∙ ap (λ b. if b then Some (instr.GcBif p.0 p.1 p.2 p.3 p.4) else None) which.0))

-- ---- tests

abbrev pub TestBack : ℕ → Test → Type 0
TestBack l what = test_row (test_trees l what) ≡ Some (instr.Test l what)

named_again : (n : TestName) (l : ℕ) → label_of (label_tree l) ≡ Some l → name_and_label (tree.Atom (test_text n)) (label_tree l) ≡ Some (n, l)
named_again n l h =
    (λ i. option_and_then (λ m. option_map (λ k. (m, k)) (h i)) (option_and_then test_named (atom_read (test_text n) i)))
    ∙ ap (option_and_then (λ m. option_map (λ k. (m, k)) (Some l))) (test_again n)

-- a test whose operands stand in a list
listed_back : (n : TestName) (l : ℕ) (us : List TermTree) (what : Test) → label_of (label_tree l) ≡ Some l → test_of n us ≡ Some what → test_row (tree.Atom (test_text n) ∷ label_tree l ∷ list_of us ∷ []) ≡ Some (instr.Test l what)
listed_back n l us what h e =
    ap (option_and_then (λ p. listed_test p.0 p.1 (list_of us))) (named_again n l h)
    ∙ ((λ i. option_map (λ w. instr.Test l w) (option_and_then (test_of n) (items_read us i)))
    ∙ ap (option_map (λ w. instr.Test l w)) e)

fields_back : (l : ℕ) (s : Source) (keys : List Source) → label_of (label_tree l) ≡ Some l → source_of (source_tree s) ≡ Some s → listed_by source_of (listed_tree source_tree keys) ≡ Some keys → TestBack l (test.HasMapFields s keys)
fields_back l s keys h a b =
    ap (option_and_then (λ p. fields_test p.0 p.1 (source_tree s) (listed_tree source_tree keys))) (named_again test_name.HasMapFields l h)
    ∙ (λ i. option_map (λ (p : Source × List Source). instr.Test l (test.HasMapFields p.0 p.1)) (option_and_then (λ x. option_map (λ y. (x, y)) (b i)) (a i)))

test_made : {A : Type 0} (l : ℕ) (make : A → Test) (o : Option A) (what : Test) → option_map make o ≡ Some what → ((x : A) → o ≡ Some x → TestBack l (make x)) → TestBack l what
test_made l make o what e k = map_some make o what e (λ x h same. subst (TestBack l) same (k x h))

keys_back : (us : List TermTree) (keys : List Source) → each source_of us ≡ Some keys → listed_by source_of (listed_tree source_tree keys) ≡ Some keys
keys_back us keys e =
    let again : each source_of (map source_tree keys) ≡ Some keys = each_faithful source_of source_tree source_faithful us keys e in
    ap (option_and_then (list_by source_of)) (tagged_read (codes "list") (list_tree source_tree keys) refl)
    ∙ (ap (option_and_then (each source_of)) (items_read (map source_tree keys)) ∙ again)

test_back : (n : TestName) (l : ℕ) (us : List TermTree) (what : Test) → label_of (label_tree l) ≡ Some l → test_of n us ≡ Some what → TestBack l what
test_back (test_name.Type k) l us what h e =
    test_made l (λ s. test.Type k s) (one source_of us) what e (λ s j.
    listed_back (test_name.Type k) l (source_tree s ∷ []) (test.Type k s) h
    (ap (option_map (λ z. test.Type k z)) (one_back source_of source_tree source_faithful us s j)))
test_back (test_name.Compare k) l us what h e =
    test_made l (λ p. test.Compare k p.0 p.1) (two source_of source_of us) what e (λ p j.
    listed_back (test_name.Compare k) l (source_tree p.0 ∷ source_tree p.1 ∷ []) (test.Compare k p.0 p.1) h
    (ap (option_map (λ z. test.Compare k z.0 z.1)) (two_back source_of source_tree source_of source_tree source_faithful source_faithful us p j)))
test_back test_name.Function2 l us what h e =
    test_made l (λ p. test.Function2 p.0 p.1) (two source_of source_of us) what e (λ p j.
    listed_back test_name.Function2 l (source_tree p.0 ∷ source_tree p.1 ∷ []) (test.Function2 p.0 p.1) h
    (ap (option_map (λ z. test.Function2 z.0 z.1)) (two_back source_of source_tree source_of source_tree source_faithful source_faithful us p j)))
test_back test_name.Arity l us what h e =
    test_made l (λ p. test.Arity p.0 p.1) (two source_of count_of us) what e (λ p j.
    listed_back test_name.Arity l (source_tree p.0 ∷ number p.1 ∷ []) (test.Arity p.0 p.1) h
    (ap (option_map (λ z. test.Arity z.0 z.1)) (two_back source_of source_tree count_of number source_faithful count_faithful us p j)))
test_back test_name.TaggedTuple l us what h e =
    test_made l (λ p. test.TaggedTuple p.0 p.1 p.2) (three source_of count_of source_of us) what e (λ p j.
    listed_back test_name.TaggedTuple l (source_tree p.0 ∷ number p.1 ∷ source_tree p.2 ∷ []) (test.TaggedTuple p.0 p.1 p.2) h
    (ap (option_map (λ z. test.TaggedTuple z.0 z.1 z.2)) (three_back source_of source_tree count_of number source_of source_tree source_faithful count_faithful source_faithful us p j)))
test_back test_name.HasMapFields l [] what h e = absurd (none-some _ e)
test_back test_name.HasMapFields l (t ∷ us) what h e =
    option_and_then_some (λ s. option_map (λ ks. test.HasMapFields s ks) (each source_of us)) (source_of t) what e (λ s j f.
    test_made l (λ ks. test.HasMapFields s ks) (each source_of us) what f (λ ks m.
    fields_back l s ks h (source_faithful t s j) (keys_back us ks m)))

listed_test_back : (n : TestName) (l : ℕ) (t : TermTree) (i : Instr) → label_of (label_tree l) ≡ Some l → listed_test n l t ≡ Some i → Back i
listed_test_back n l t i h e =
    made (λ w. instr.Test l w) (option_and_then (test_of n) (items_of t)) i e (λ what k.
    option_and_then_some (test_of n) (items_of t) what k (λ us j f. test_back n l us what h f))

fields_test_back : (n : TestName) (l : ℕ) (t keys : TermTree) (i : Instr) → label_of (label_tree l) ≡ Some l → fields_test n l t keys ≡ Some i → Back i
fields_test_back test_name.HasMapFields l t keys i h e =
    made (λ p. instr.Test l (test.HasMapFields p.0 p.1)) (both source_of (listed_by source_of) t keys) i e (λ p k.
    option_and_then_some (λ x. option_map (λ y. (x, y)) (listed_by source_of keys)) (source_of t) p k (λ x a f.
    map_some (λ y. (x, y)) (listed_by source_of keys) p f (λ y b same.
    subst (λ q. TestBack l (test.HasMapFields q.0 q.1)) same
    (fields_back l x y h (source_faithful t x a) (listed_faithful source_of source_tree source_faithful keys y b)))))
fields_test_back n l t keys i h e = absurd (none-some _ e)

labelled : (name label : TermTree) (p : TestName × ℕ) → name_and_label name label ≡ Some p → label_of (label_tree p.1) ≡ Some p.1
labelled name label p e =
    option_and_then_some (λ n. option_map (λ l. (n, l)) (label_of label)) (option_and_then test_named (atom_of name)) p e (λ n a f.
    map_some (λ l. (n, l)) (label_of label) p f (λ l b same.
    subst (λ q. label_of (label_tree q.1) ≡ Some q.1) same (label_faithful label l b)))

test_row_back : (ts : List TermTree) (i : Instr) → test_row ts ≡ Some i → Back i
test_row_back (name ∷ label ∷ t ∷ []) i e =
    option_and_then_some (λ p. listed_test p.0 p.1 t) (name_and_label name label) i e
    (λ p k f. listed_test_back p.0 p.1 t i (labelled name label p k) f)
test_row_back (name ∷ label ∷ t ∷ keys ∷ []) i e =
    option_and_then_some (λ p. fields_test p.0 p.1 t keys) (name_and_label name label) i e
    (λ p k f. fields_test_back p.0 p.1 t keys i (labelled name label p k) f)
test_row_back ts i e = absurd (none-some _ e)

-- ---- external calls

call_ext_back : (ts : List TermTree) (i : Instr) → row word.CallExt ts ≡ Some i → Back i
call_ext_back ts i e =
    option_and_then_some (λ p. option_map (λ f. instr.CallExt f) (called p.0 p.1)) (two arity_of function_of ts) i e (λ p k g.
    made (λ f. instr.CallExt f) (called p.0 p.1) i g (λ f c.
    let is = called_is p.0 p.1 f c in
    let arity : p.0 ≡ f.arity = is.0 ∙ ap (λ o. o.arity) is.1 in
    let read = two_back arity_of number function_of function_tree arity_faithful function_faithful ts p k in
    let again : two arity_of function_of (number f.arity ∷ function_tree f ∷ []) ≡ Some (f.arity, f) =
    subst (λ q. two arity_of function_of (number q.0 ∷ function_tree q.1 ∷ []) ≡ Some q) (λ j. (arity j, is.1 j)) read in
    ap (option_and_then (λ q. option_map (λ o. instr.CallExt o) (called q.0 q.1))) again ∙ ap (option_map (λ o. instr.CallExt o)) (called_again f)))

call_ext_only_back : (ts : List TermTree) (i : Instr) → row word.CallExtOnly ts ≡ Some i → Back i
call_ext_only_back ts i e =
    option_and_then_some (λ p. option_map (λ f. instr.CallExtOnly f) (called p.0 p.1)) (two arity_of function_of ts) i e (λ p k g.
    made (λ f. instr.CallExtOnly f) (called p.0 p.1) i g (λ f c.
    let is = called_is p.0 p.1 f c in
    let arity : p.0 ≡ f.arity = is.0 ∙ ap (λ o. o.arity) is.1 in
    let read = two_back arity_of number function_of function_tree arity_faithful function_faithful ts p k in
    let again : two arity_of function_of (number f.arity ∷ function_tree f ∷ []) ≡ Some (f.arity, f) =
    subst (λ q. two arity_of function_of (number q.0 ∷ function_tree q.1 ∷ []) ≡ Some q) (λ j. (arity j, is.1 j)) read in
    ap (option_and_then (λ q. option_map (λ o. instr.CallExtOnly o) (called q.0 q.1))) again ∙ ap (option_map (λ o. instr.CallExtOnly o)) (called_again f)))

call_ext_last_back : (ts : List TermTree) (i : Instr) → row word.CallExtLast ts ≡ Some i → Back i
call_ext_last_back ts i e =
    option_and_then_some (λ p. option_map (λ f. instr.CallExtLast f p.2) (called p.0 p.1)) (three arity_of function_of count_of ts) i e (λ p k g.
    made (λ f. instr.CallExtLast f p.2) (called p.0 p.1) i g (λ f c.
    let is = called_is p.0 p.1 f c in
    let arity : p.0 ≡ f.arity = is.0 ∙ ap (λ o. o.arity) is.1 in
    let read = three_back arity_of number function_of function_tree count_of number arity_faithful function_faithful count_faithful ts p k in
    let again : three arity_of function_of count_of (number f.arity ∷ function_tree f ∷ number p.2 ∷ []) ≡ Some (f.arity, f, p.2) =
    subst (λ q. three arity_of function_of count_of (number q.0 ∷ function_tree q.1 ∷ number q.2 ∷ []) ≡ Some q) (λ j. (arity j, is.1 j, p.2)) read in
    ap (option_and_then (λ q. option_map (λ o. instr.CallExtLast o q.2) (called q.0 q.1))) again ∙ ap (option_map (λ o. instr.CallExtLast o p.2)) (called_again f)))

-- `allocate_heap` is spelled as `allocate`
allocate_heap_back : (ts : List TermTree) (i : Instr) → row word.AllocateHeap ts ≡ Some i → Back i
allocate_heap_back (t ∷ u ∷ v ∷ []) i e =
    made (λ p. instr.Allocate p.0 p.2) (three count_of any_of count_of (t ∷ u ∷ v ∷ [])) i e (λ p k.
    option_and_then_some (λ x. option_and_then (λ y. option_map (λ z. (x, y, z)) (count_of v)) (any_of u)) (count_of t) p k (λ x a e1.
    map_some (λ z. (x, tt, z)) (count_of v) p e1 (λ z c same.
    subst (λ q. Back (instr.Allocate q.0 q.2)) same
    (λ j. option_map (λ (q : ℕ × ℕ). instr.Allocate q.0 q.1) (option_and_then (λ w. option_map (λ y. (w, y)) (count_faithful v z c j)) (count_faithful t x a j))))))
allocate_heap_back ts i e = absurd (none-some _ e)

-- ---- the rows

row_back : (w : Word) (ts : List TermTree) (i : Instr) → row w ts ≡ Some i → Back i
row_back word.Label ts i e =
    made (λ p. instr.Label p) (one own_number_of ts) i e (λ p k.
    ap (option_map (λ p. instr.Label p)) (one_back own_number_of number own_number_faithful ts p k))
row_back word.FuncInfo ts i e =
    made (λ p. instr.FuncInfo (record { «module» = p.0; name = p.1; arity = p.2 })) (three quoted_of quoted_of arity_of ts) i e (λ p k.
    ap (option_map (λ p. instr.FuncInfo (record { «module» = p.0; name = p.1; arity = p.2 }))) (three_back quoted_of quoted_tree quoted_of quoted_tree arity_of number quoted_faithful quoted_faithful arity_faithful ts p k))
row_back word.Move ts i e =
    made (λ p. instr.Move p.0 p.1) (two source_of reg_of ts) i e (λ p k.
    ap (option_map (λ p. instr.Move p.0 p.1)) (two_back source_of source_tree reg_of reg_tree source_faithful reg_faithful ts p k))
row_back word.Swap ts i e =
    made (λ p. instr.Swap p.0 p.1) (two reg_of reg_of ts) i e (λ p k.
    ap (option_map (λ p. instr.Swap p.0 p.1)) (two_back reg_of reg_tree reg_of reg_tree reg_faithful reg_faithful ts p k))
row_back word.Call ts i e =
    made (λ p. instr.Call p.0 p.1) (two arity_of label_of ts) i e (λ p k.
    ap (option_map (λ p. instr.Call p.0 p.1)) (two_back arity_of number label_of label_tree arity_faithful label_faithful ts p k))
row_back word.CallLast ts i e =
    made (λ p. instr.CallLast p.0 p.1 p.2) (three arity_of label_of count_of ts) i e (λ p k.
    ap (option_map (λ p. instr.CallLast p.0 p.1 p.2)) (three_back arity_of number label_of label_tree count_of number arity_faithful label_faithful count_faithful ts p k))
row_back word.CallOnly ts i e =
    made (λ p. instr.CallOnly p.0 p.1) (two arity_of label_of ts) i e (λ p k.
    ap (option_map (λ p. instr.CallOnly p.0 p.1)) (two_back arity_of number label_of label_tree arity_faithful label_faithful ts p k))
row_back word.CallFun ts i e =
    made (λ p. instr.CallFun p) (one arity_of ts) i e (λ p k.
    ap (option_map (λ p. instr.CallFun p)) (one_back arity_of number arity_faithful ts p k))
row_back word.CallFun2 ts i e =
    made (λ p. instr.CallFun2 p.1 p.2) (three any_of arity_of source_of ts) i e (λ p k.
    ap (option_map (λ p. instr.CallFun2 p.1 p.2)) (three_back any_of (λ u. quoted_tree (codes "safe")) arity_of number source_of source_tree (any_faithful (λ u. quoted_tree (codes "safe"))) arity_faithful source_faithful ts p k))
row_back word.Allocate ts i e =
    made (λ p. instr.Allocate p.0 p.1) (two count_of count_of ts) i e (λ p k.
    ap (option_map (λ p. instr.Allocate p.0 p.1)) (two_back count_of number count_of number count_faithful count_faithful ts p k))
row_back word.Deallocate ts i e =
    made (λ p. instr.Deallocate p) (one count_of ts) i e (λ p k.
    ap (option_map (λ p. instr.Deallocate p)) (one_back count_of number count_faithful ts p k))
row_back word.Trim ts i e =
    made (λ p. instr.Trim p.0 p.1) (two count_of count_of ts) i e (λ p k.
    ap (option_map (λ p. instr.Trim p.0 p.1)) (two_back count_of number count_of number count_faithful count_faithful ts p k))
row_back word.TestHeap ts i e =
    made (λ p. instr.TestHeap p.1) (two any_of count_of ts) i e (λ p k.
    ap (option_map (λ p. instr.TestHeap p.1)) (two_back any_of (λ u. number 0) count_of number (any_faithful (λ u. number 0)) count_faithful ts p k))
row_back word.InitYregs ts i e =
    made (λ p. instr.InitYregs p) (one (listed_by reg_of) ts) i e (λ p k.
    ap (option_map (λ p. instr.InitYregs p)) (one_back (listed_by reg_of) (listed_tree reg_tree) (listed_faithful reg_of reg_tree reg_faithful) ts p k))
row_back word.Jump ts i e =
    made (λ p. instr.Jump p) (one label_of ts) i e (λ p k.
    ap (option_map (λ p. instr.Jump p)) (one_back label_of label_tree label_faithful ts p k))
row_back word.SelectVal ts i e =
    made (λ p. instr.SelectVal p.0 p.1 p.2) (three source_of label_of (listed_by_two source_of label_of) ts) i e (λ p k.
    ap (option_map (λ p. instr.SelectVal p.0 p.1 p.2)) (three_back source_of source_tree label_of label_tree (listed_by_two source_of label_of) (listed_two_tree source_tree label_tree) source_faithful label_faithful (listed_two_faithful source_of source_tree label_of label_tree source_faithful label_faithful) ts p k))
row_back word.SelectTupleArity ts i e =
    made (λ p. instr.SelectTupleArity p.0 p.1 p.2) (three source_of label_of (listed_by_two count_of label_of) ts) i e (λ p k.
    ap (option_map (λ p. instr.SelectTupleArity p.0 p.1 p.2)) (three_back source_of source_tree label_of label_tree (listed_by_two count_of label_of) (listed_two_tree number label_tree) source_faithful label_faithful (listed_two_faithful count_of number label_of label_tree count_faithful label_faithful) ts p k))
row_back word.GetList ts i e =
    made (λ p. instr.GetList p.0 p.1 p.2) (three source_of reg_of reg_of ts) i e (λ p k.
    ap (option_map (λ p. instr.GetList p.0 p.1 p.2)) (three_back source_of source_tree reg_of reg_tree reg_of reg_tree source_faithful reg_faithful reg_faithful ts p k))
row_back word.GetHd ts i e =
    made (λ p. instr.GetHd p.0 p.1) (two source_of reg_of ts) i e (λ p k.
    ap (option_map (λ p. instr.GetHd p.0 p.1)) (two_back source_of source_tree reg_of reg_tree source_faithful reg_faithful ts p k))
row_back word.GetTl ts i e =
    made (λ p. instr.GetTl p.0 p.1) (two source_of reg_of ts) i e (λ p k.
    ap (option_map (λ p. instr.GetTl p.0 p.1)) (two_back source_of source_tree reg_of reg_tree source_faithful reg_faithful ts p k))
row_back word.GetTupleElement ts i e =
    made (λ p. instr.GetTupleElement p.0 p.1 p.2) (three source_of count_of reg_of ts) i e (λ p k.
    ap (option_map (λ p. instr.GetTupleElement p.0 p.1 p.2)) (three_back source_of source_tree count_of number reg_of reg_tree source_faithful count_faithful reg_faithful ts p k))
row_back word.PutList ts i e =
    made (λ p. instr.PutList p.0 p.1 p.2) (three source_of source_of reg_of ts) i e (λ p k.
    ap (option_map (λ p. instr.PutList p.0 p.1 p.2)) (three_back source_of source_tree source_of source_tree reg_of reg_tree source_faithful source_faithful reg_faithful ts p k))
row_back word.PutTuple2 ts i e =
    made (λ p. instr.PutTuple2 p.0 p.1) (two reg_of (listed_by source_of) ts) i e (λ p k.
    ap (option_map (λ p. instr.PutTuple2 p.0 p.1)) (two_back reg_of reg_tree (listed_by source_of) (listed_tree source_tree) reg_faithful (listed_faithful source_of source_tree source_faithful) ts p k))
row_back word.MakeFun3 ts i e =
    made (λ p. instr.MakeFun3 p.0 p.3 p.4) (five label_of any_of any_of reg_of (listed_by source_of) ts) i e (λ p k.
    ap (option_map (λ p. instr.MakeFun3 p.0 p.3 p.4)) (five_back label_of label_tree any_of (λ u. number 0) any_of (λ u. number 0) reg_of reg_tree (listed_by source_of) (listed_tree source_tree) label_faithful (any_faithful (λ u. number 0)) (any_faithful (λ u. number 0)) reg_faithful (listed_faithful source_of source_tree source_faithful) ts p k))
row_back word.PutMapAssoc ts i e =
    made (λ p. instr.PutMapAssoc p.0 p.1 p.2 p.3 p.4) (five label_of source_of reg_of count_of (listed_by_two source_of source_of) ts) i e (λ p k.
    ap (option_map (λ p. instr.PutMapAssoc p.0 p.1 p.2 p.3 p.4)) (five_back label_of label_tree source_of source_tree reg_of reg_tree count_of number (listed_by_two source_of source_of) (listed_two_tree source_tree source_tree) label_faithful source_faithful reg_faithful count_faithful (listed_two_faithful source_of source_tree source_of source_tree source_faithful source_faithful) ts p k))
row_back word.PutMapExact ts i e =
    made (λ p. instr.PutMapExact p.0 p.1 p.2 p.3 p.4) (five label_of source_of reg_of count_of (listed_by_two source_of source_of) ts) i e (λ p k.
    ap (option_map (λ p. instr.PutMapExact p.0 p.1 p.2 p.3 p.4)) (five_back label_of label_tree source_of source_tree reg_of reg_tree count_of number (listed_by_two source_of source_of) (listed_two_tree source_tree source_tree) label_faithful source_faithful reg_faithful count_faithful (listed_two_faithful source_of source_tree source_of source_tree source_faithful source_faithful) ts p k))
row_back word.GetMapElements ts i e =
    made (λ p. instr.GetMapElements p.0 p.1 p.2) (three label_of source_of (listed_by_two source_of reg_of) ts) i e (λ p k.
    ap (option_map (λ p. instr.GetMapElements p.0 p.1 p.2)) (three_back label_of label_tree source_of source_tree (listed_by_two source_of reg_of) (listed_two_tree source_tree reg_tree) label_faithful source_faithful (listed_two_faithful source_of source_tree reg_of reg_tree source_faithful reg_faithful) ts p k))
row_back word.Badmatch ts i e =
    made (λ p. instr.Badmatch p) (one source_of ts) i e (λ p k.
    ap (option_map (λ p. instr.Badmatch p)) (one_back source_of source_tree source_faithful ts p k))
row_back word.CaseEnd ts i e =
    made (λ p. instr.CaseEnd p) (one source_of ts) i e (λ p k.
    ap (option_map (λ p. instr.CaseEnd p)) (one_back source_of source_tree source_faithful ts p k))
row_back word.TryCaseEnd ts i e =
    made (λ p. instr.TryCaseEnd p) (one source_of ts) i e (λ p k.
    ap (option_map (λ p. instr.TryCaseEnd p)) (one_back source_of source_tree source_faithful ts p k))
row_back word.Try ts i e =
    made (λ p. instr.Try p.0 p.1) (two slot_of label_of ts) i e (λ p k.
    ap (option_map (λ p. instr.Try p.0 p.1)) (two_back slot_of slot_tree label_of label_tree slot_faithful label_faithful ts p k))
row_back word.Catch ts i e =
    made (λ p. instr.Catch p.0 p.1) (two slot_of label_of ts) i e (λ p k.
    ap (option_map (λ p. instr.Catch p.0 p.1)) (two_back slot_of slot_tree label_of label_tree slot_faithful label_faithful ts p k))
row_back word.TryEnd ts i e =
    made (λ p. instr.TryEnd p) (one slot_of ts) i e (λ p k.
    ap (option_map (λ p. instr.TryEnd p)) (one_back slot_of slot_tree slot_faithful ts p k))
row_back word.TryCase ts i e =
    made (λ p. instr.TryCase p) (one slot_of ts) i e (λ p k.
    ap (option_map (λ p. instr.TryCase p)) (one_back slot_of slot_tree slot_faithful ts p k))
row_back word.CatchEnd ts i e =
    made (λ p. instr.CatchEnd p) (one slot_of ts) i e (λ p k.
    ap (option_map (λ p. instr.CatchEnd p)) (one_back slot_of slot_tree slot_faithful ts p k))
row_back word.AllocateHeap ts i e = allocate_heap_back ts i e
row_back word.CallExt ts i e = call_ext_back ts i e
row_back word.CallExtLast ts i e = call_ext_last_back ts i e
row_back word.CallExtOnly ts i e = call_ext_only_back ts i e
row_back word.Test ts i e = test_row_back ts i e
row_back word.Bif ts i e = bif_back ts i e
row_back word.GcBif ts i e = gc_bif_back ts i e
row_back w ts i e = absurd (none-some _ e)

-- ---- whole forms

alone_back : (w : Word) (i : Instr) → alone w ≡ Some i → listed (instr_tree i) ≡ Some i
alone_back word.Return i e = let same : instr.Return ≡ i = same_Some _ _ e in subst (λ j. listed (instr_tree j) ≡ Some j) same (ap listed_in (outs-Atom (codes "return")))
alone_back word.IfEnd i e = let same : instr.IfEnd ≡ i = same_Some _ _ e in subst (λ j. listed (instr_tree j) ≡ Some j) same (ap listed_in (outs-Atom (codes "if_end")))
alone_back word.RawRaise i e = let same : instr.RawRaise ≡ i = same_Some _ _ e in subst (λ j. listed (instr_tree j) ≡ Some j) same (ap listed_in (outs-Atom (codes "raw_raise")))
alone_back word.BuildStacktrace i e = let same : instr.BuildStacktrace ≡ i = same_Some _ _ e in subst (λ j. listed (instr_tree j) ≡ Some j) same (ap listed_in (outs-Atom (codes "build_stacktrace")))
alone_back w i e = absurd (none-some _ e)

-- no row has no operands
none_empty : (w : Word) (i : Instr) → row w [] ≡ Some i → ⊥
none_empty word.Label i e = none-some _ e
none_empty w i e = none-some _ e

tuple_back : (i : Instr) → Back i → listed (instr_tree i) ≡ Some i
tuple_back i h = go (operands_of i) refl
  where
    go : (ts : List TermTree) → operands_of i ≡ ts → listed (formed (word_text (word_of i)) (operands_of i)) ≡ Some i
    go [] e = absurd (none_empty (word_of i) i (ap (row (word_of i)) (sym e) ∙ h))
    go (t ∷ ts) e =
        ap (λ us. listed (formed (word_text (word_of i)) us)) e
        ∙ (ap listed_in (outs-Tuple (tree.Atom (word_text (word_of i)) ∷ t ∷ ts))
        ∙ (ap (option_and_then (λ text. row_from text (t ∷ ts))) (atom_read (word_text (word_of i)))
        ∙ (ap (option_and_then (λ w. row w (t ∷ ts))) (word_again (word_of i))
        ∙ (ap (row (word_of i)) (sym e) ∙ h))))

-- what the table reads is read again from its own spelling
pub listed_again : (t : TermTree) (i : Instr) → listed t ≡ Some i → listed (instr_tree i) ≡ Some i
listed_again t i e = go (out-TermTree t) e
  where
    go : (l : TermTree-F TermTree) → listed_in l ≡ Some i → listed (instr_tree i) ≡ Some i
    go (layer.Atom text) f = option_and_then_some alone (word_named text) i f (λ w k g. alone_back w i g)
    go (layer.Tuple []) f = absurd (none-some _ f)
    go (layer.Tuple (first ∷ ts)) f =
        option_and_then_some (λ text. row_from text ts) (atom_of first) i f (λ text k g.
        option_and_then_some (λ w. row w ts) (word_named text) i g (λ w j r. tuple_back i (row_back w ts i r)))
    go l f = absurd (none-some _ f)

pub reads_back : (t : TermTree) (i : Instr) → listed t ≡ Some i → instr_read (instr_tree i) ≡ i
reads_back t i e = ap (λ o. unwrap_or o (instr.Unsupported (unwrap_or (first_word (instr_tree i)) []))) (listed_again t i e)

untrue : {P : Type 0} → IsTrue false → P
untrue h = absurd (cc)

pub all_read_back : InstructionsReadBack
all_read_back t h = go (listed t) refl h
  where
    go : (o : Option Instr) → listed t ≡ o → IsListed (unwrap_or o (instr.Unsupported (unwrap_or (first_word t) []))) → instr_read (instr_tree (unwrap_or o (instr.Unsupported (unwrap_or (first_word t) [])))) ≡ unwrap_or o (instr.Unsupported (unwrap_or (first_word t) []))
    go (Some i) e k = reads_back t i e
    go None e k = untrue k
