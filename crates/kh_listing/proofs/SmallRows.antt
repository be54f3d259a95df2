-- The literals of the instruction that a small form spells, row by row.
use Rattle.std.proofs.Common.{◌≡◌, ◌≤◌, ℕ, ◌+◌, Bool, true, false, ◌&&◌, if◌then◌else◌, nat_le, List, [], ◌∷◌, ◌++◌, length, map, Option, Some, None, option_map, unwrap_or, refl, ap, sym, ◌∙◌, subst, arith, append-nil}
use Rattle.std.proofs.lemmas.Bool.{and_from, and_parts}
use Rattle.std.proofs.lemmas.List.Folds.{list_all-append, flat_map-map}
use Rattle.std.proofs.lemmas.Grind.{flat_map-append}
use Rattle.std.specs.List.{list_all, flat_map}
use Rattle.std.specs.Option.{option_and_then}
use Rattle.kh_term.specs.declared.name.Origin.{Origin}
use Rattle.kh_term.specs.declared.term.Term.{Term}
use Rattle.kh_term.specs.declared.tree.TermTree.{TermTree, out-TermTree}
use Rattle.kh_term.specs.declared.tree.TermTree.TheOpen.{TermTree-F}
use Rattle.kh_term.specs.declared.tree.TermTree.TheOpen as layer
use Rattle.kh_term.specs.declared.tree.TermTree.TheVariants.{rolls-Tuple}
use Rattle.kh_term.specs.Lemmas.Total.{layered}
use Rattle.kh_term.specs.Limits.{is_small}
use Rattle.kh_instr.specs.declared.instr.Instr.{Instr}
use Rattle.kh_instr.specs.declared.instr.Instr.TheVariants as instr
use Rattle.kh_instr.specs.declared.operand.Reg.{Reg}
use Rattle.kh_instr.specs.declared.operand.Source.{Source}
use Rattle.kh_instr.specs.declared.test.Comparison.{Comparison}
use Rattle.kh_instr.specs.declared.test.Test.{Test}
use Rattle.kh_instr.specs.declared.test.Test.TheVariants as test
use Rattle.kh_instr.specs.declared.test.TypeTest.{TypeTest}
use Rattle.kh_instr.specs.declared.words.TestName.{TestName}
use Rattle.kh_instr.specs.declared.words.TestName.TheVariants as test_name
use Rattle.kh_instr.specs.declared.words.Word.{Word}
use Rattle.kh_instr.specs.declared.words.Word.TheVariants as word
use Rattle.kh_instr.specs.Operands.{parts_in, atom_of, any_of, arity_of, count_of, own_number_of, label_of, slot_of, quoted_of, reg_of, source_of, function_of, items_of, each, list_by, listed_by, listed_by_two, one, both, two, three, four, five}
use Rattle.kh_instr.specs.Rows.{called, few, bif_made, bif_of, is_raise, fields_of, function2_of, test_arity_of, tagged_tuple_of, type_test_of, comparison_of, test_of, listed_test, fields_test, name_and_label, test_row, row, alone, row_from, tuple_read, alone_named, listed_in, listed, first_word, instr_read}
use Rattle.kh_instr.specs.Syntax.{literal_in, literals_in, test_literals, literals}
use Rattle.kh_instr.specs.Words.{word_named, test_named}
use Rattle.kh_listing.proofs.Small.{Fine, AllFine, fine, parts_fine, items_fine, Small, Kept, no_literals, none_kept, mapped, chosen, bound, appended, source_kept, one_kept, two_kept, three_kept, four_kept, five_kept, both_kept, each_kept, list_kept, listed_kept, listed_two_kept}

-- ---- tests

-- one literal behind others
lone : (s : Source) → Small (literal_in s) → Small (literals_in (s ∷ []))
lone s h = appended (literal_in s) [] h refl

pair : (s t : Source) → Small (literal_in s) → Small (literal_in t) → Small (literals_in (s ∷ t ∷ []))
pair s t h k = appended (literal_in s) (literals_in (t ∷ [])) h (lone t k)

test_kept : (name : TestName) (ts : List TermTree) → AllFine ts → (x : Test) → test_of name ts ≡ Some x → Small (test_literals x)
test_kept (test_name.Type which) ts h x e =
    mapped test_literals (λ s. test.Type which s) (one source_of ts) x e (λ s k. one_kept literal_in source_of source_kept ts h s k)
test_kept (test_name.Compare which) ts h x e =
    mapped test_literals (λ p. test.Compare which p.0 p.1) (two source_of source_of ts) x e
    (λ p k. let these = two_kept literal_in literal_in source_of source_of source_kept source_kept ts h p k in pair p.0 p.1 these.0 these.1)
test_kept test_name.Function2 ts h x e =
    mapped test_literals (λ p. test.Function2 p.0 p.1) (two source_of source_of ts) x e
    (λ p k. let these = two_kept literal_in literal_in source_of source_of source_kept source_kept ts h p k in pair p.0 p.1 these.0 these.1)
test_kept test_name.Arity ts h x e =
    mapped test_literals (λ p. test.Arity p.0 p.1) (two source_of count_of ts) x e
    (λ p k. (two_kept literal_in no_literals source_of count_of source_kept (none_kept count_of) ts h p k).0)
test_kept test_name.TaggedTuple ts h x e =
    mapped test_literals (λ p. test.TaggedTuple p.0 p.1 p.2) (three source_of count_of source_of ts) x e
    (λ p k. let these = three_kept literal_in no_literals literal_in source_of count_of source_of source_kept (none_kept count_of) source_kept ts h p k in pair p.0 p.2 these.0 these.2)
test_kept test_name.HasMapFields [] h x e = absurd (cc)
test_kept test_name.HasMapFields (t ∷ keys) h x e =
    bound test_literals (λ s. option_map (λ ks. test.HasMapFields s ks) (each source_of keys)) (source_of t) x e
    (λ s k l. mapped test_literals (λ ks. test.HasMapFields s ks) (each source_of keys) x l
    (λ ks m. appended (literal_in s) (literals_in ks) (source_kept t h.0 s k) (each_kept literal_in source_of source_kept keys h.1 ks m)))

listed_test_kept : (name : TestName) (label : ℕ) (t : TermTree) → Fine t → (i : Instr) → listed_test name label t ≡ Some i → Small (literals i)
listed_test_kept name label t h i e =
    mapped literals (λ what. instr.Test label what) (option_and_then (test_of name) (items_of t)) i e
    (λ what k. bound test_literals (test_of name) (items_of t) what k (λ items m n. test_kept name items (items_fine t items h m) what n))

fields_kept : (name : TestName) (label : ℕ) (t keys : TermTree) → Fine t → Fine keys → (i : Instr) → fields_test name label t keys ≡ Some i → Small (literals i)
fields_kept test_name.HasMapFields label t keys h k i e =
    mapped literals (λ p. instr.Test label (test.HasMapFields p.0 p.1)) (both source_of (listed_by source_of) t keys) i e
    (λ p l. let these = both_kept literal_in literals_in source_of (listed_by source_of) source_kept (listed_kept literal_in source_of source_kept) t keys h k p l in
    appended (literal_in p.0) (literals_in p.1) these.0 these.1)
fields_kept name label t keys h k i e = absurd (cc)

tests_kept : (ts : List TermTree) → AllFine ts → (i : Instr) → test_row ts ≡ Some i → Small (literals i)
tests_kept (name ∷ label ∷ t ∷ []) h i e =
    bound literals (λ p. listed_test p.0 p.1 t) (name_and_label name label) i e (λ p k l. listed_test_kept p.0 p.1 t h.1.1.0 i l)
tests_kept (name ∷ label ∷ t ∷ keys ∷ []) h i e =
    bound literals (λ p. fields_test p.0 p.1 t keys) (name_and_label name label) i e (λ p k l. fields_kept p.0 p.1 t keys h.1.1.0 h.1.1.1.0 i l)
tests_kept ts h i e = absurd (cc)

-- ---- built-ins

raise_kept : (name : List ℕ) (label : ℕ) (parts : List Source) (r : Reg) → Small (literals_in parts) → Small (literals (bif_made name label parts r))
raise_kept name label (a ∷ b ∷ []) r h = go (is_raise name label)
  where
    go : (c : Bool) → Small (literals (if c then instr.BifRaise a b r else instr.Bif name label (a ∷ b ∷ []) r))
    go true = h
    go false = h
raise_kept name label parts r h = h

bif_kept : (name : List ℕ) (label : ℕ) (parts : List Source) (r : Reg) (i : Instr) → Small (literals_in parts) → bif_of name label parts r ≡ Some i → Small (literals i)
bif_kept name label parts r i h e =
    chosen literals (few parts) (Some (bif_made name label parts r)) None i e
    (λ k. let same : bif_made name label parts r ≡ i = cc in subst (λ j. Small (literals j)) same (raise_kept name label parts r h)) (λ k. absurd (cc))

gc_bif_kept : (name : List ℕ) (label live : ℕ) (parts : List Source) (r : Reg) (i : Instr) → Small (literals_in parts) → (if few parts then Some (instr.GcBif name label live parts r) else None) ≡ Some i → Small (literals i)
gc_bif_kept name label live parts r i h e =
    chosen literals (few parts) (Some (instr.GcBif name label live parts r)) None i e
    (λ k. let same : instr.GcBif name label live parts r ≡ i = cc in subst (λ j. Small (literals j)) same h) (λ k. absurd (cc))

-- an external call has no literal
called_kept : (make : Origin → Instr) → ((f : Origin) → literals (make f) ≡ []) → (n : ℕ) (f : Origin) (i : Instr) → option_map make (called n f) ≡ Some i → Small (literals i)
called_kept make none n f i e = mapped literals make (called n f) i e (λ g k. subst Small (sym (none g)) refl)

-- ---- the rows

row_kept : (w : Word) (ts : List TermTree) → AllFine ts → (i : Instr) → row w ts ≡ Some i → Small (literals i)
row_kept word.Label ts h i e = mapped literals (λ n. instr.Label n) (one own_number_of ts) i e (λ n k. refl)
row_kept word.FuncInfo ts h i e =
    mapped literals (λ p. instr.FuncInfo (record { «module» = p.0; name = p.1; arity = p.2 })) (three quoted_of quoted_of arity_of ts) i e (λ p k. refl)
row_kept word.Move ts h i e =
    mapped literals (λ p. instr.Move p.0 p.1) (two source_of reg_of ts) i e
    (λ p k. (two_kept literal_in no_literals source_of reg_of source_kept (none_kept reg_of) ts h p k).0)
row_kept word.Swap ts h i e = mapped literals (λ p. instr.Swap p.0 p.1) (two reg_of reg_of ts) i e (λ p k. refl)
row_kept word.Call ts h i e = mapped literals (λ p. instr.Call p.0 p.1) (two arity_of label_of ts) i e (λ p k. refl)
row_kept word.CallLast ts h i e = mapped literals (λ p. instr.CallLast p.0 p.1 p.2) (three arity_of label_of count_of ts) i e (λ p k. refl)
row_kept word.CallOnly ts h i e = mapped literals (λ p. instr.CallOnly p.0 p.1) (two arity_of label_of ts) i e (λ p k. refl)
row_kept word.CallExt ts h i e =
    bound literals (λ p. option_map (λ f. instr.CallExt f) (called p.0 p.1)) (two arity_of function_of ts) i e
    (λ p k l. called_kept (λ f. instr.CallExt f) (λ f. refl) p.0 p.1 i l)
row_kept word.CallExtLast ts h i e =
    bound literals (λ p. option_map (λ f. instr.CallExtLast f p.2) (called p.0 p.1)) (three arity_of function_of count_of ts) i e
    (λ p k l. called_kept (λ f. instr.CallExtLast f p.2) (λ f. refl) p.0 p.1 i l)
row_kept word.CallExtOnly ts h i e =
    bound literals (λ p. option_map (λ f. instr.CallExtOnly f) (called p.0 p.1)) (two arity_of function_of ts) i e
    (λ p k l. called_kept (λ f. instr.CallExtOnly f) (λ f. refl) p.0 p.1 i l)
row_kept word.CallFun ts h i e = mapped literals (λ n. instr.CallFun n) (one arity_of ts) i e (λ n k. refl)
row_kept word.CallFun2 ts h i e =
    mapped literals (λ p. instr.CallFun2 p.1 p.2) (three any_of arity_of source_of ts) i e
    (λ p k. (three_kept no_literals no_literals literal_in any_of arity_of source_of (none_kept any_of) (none_kept arity_of) source_kept ts h p k).2)
row_kept word.Allocate ts h i e = mapped literals (λ p. instr.Allocate p.0 p.1) (two count_of count_of ts) i e (λ p k. refl)
row_kept word.AllocateHeap ts h i e = mapped literals (λ p. instr.Allocate p.0 p.2) (three count_of any_of count_of ts) i e (λ p k. refl)
row_kept word.Deallocate ts h i e = mapped literals (λ n. instr.Deallocate n) (one count_of ts) i e (λ n k. refl)
row_kept word.Trim ts h i e = mapped literals (λ p. instr.Trim p.0 p.1) (two count_of count_of ts) i e (λ p k. refl)
row_kept word.TestHeap ts h i e = mapped literals (λ p. instr.TestHeap p.1) (two any_of count_of ts) i e (λ p k. refl)
row_kept word.InitYregs ts h i e = mapped literals (λ rs. instr.InitYregs rs) (one (listed_by reg_of) ts) i e (λ rs k. refl)
row_kept word.Test ts h i e = tests_kept ts h i e
row_kept word.Jump ts h i e = mapped literals (λ l. instr.Jump l) (one label_of ts) i e (λ l k. refl)
row_kept word.SelectVal ts h i e =
    mapped literals (λ p. instr.SelectVal p.0 p.1 p.2) (three source_of label_of (listed_by_two source_of label_of) ts) i e
    (λ p k. let these = three_kept literal_in no_literals (flat_map (λ (c : Source × ℕ). literal_in c.0)) source_of label_of (listed_by_two source_of label_of) source_kept (none_kept label_of) (listed_two_kept literal_in no_literals (λ (c : Source × ℕ). literal_in c.0) source_of label_of source_kept (none_kept label_of) (λ c a b. a)) ts h p k in
    appended (literal_in p.0) (literals_in (map (λ c. c.0) p.2)) these.0 (subst Small (sym (flat_map-map literal_in (λ (c : Source × ℕ). c.0) p.2)) these.2))
row_kept word.SelectTupleArity ts h i e =
    mapped literals (λ p. instr.SelectTupleArity p.0 p.1 p.2) (three source_of label_of (listed_by_two count_of label_of) ts) i e
    (λ p k. (three_kept literal_in no_literals no_literals source_of label_of (listed_by_two count_of label_of) source_kept (none_kept label_of) (none_kept (listed_by_two count_of label_of)) ts h p k).0)
row_kept word.GetList ts h i e =
    mapped literals (λ p. instr.GetList p.0 p.1 p.2) (three source_of reg_of reg_of ts) i e
    (λ p k. (three_kept literal_in no_literals no_literals source_of reg_of reg_of source_kept (none_kept reg_of) (none_kept reg_of) ts h p k).0)
row_kept word.GetHd ts h i e =
    mapped literals (λ p. instr.GetHd p.0 p.1) (two source_of reg_of ts) i e
    (λ p k. (two_kept literal_in no_literals source_of reg_of source_kept (none_kept reg_of) ts h p k).0)
row_kept word.GetTl ts h i e =
    mapped literals (λ p. instr.GetTl p.0 p.1) (two source_of reg_of ts) i e
    (λ p k. (two_kept literal_in no_literals source_of reg_of source_kept (none_kept reg_of) ts h p k).0)
row_kept word.GetTupleElement ts h i e =
    mapped literals (λ p. instr.GetTupleElement p.0 p.1 p.2) (three source_of count_of reg_of ts) i e
    (λ p k. (three_kept literal_in no_literals no_literals source_of count_of reg_of source_kept (none_kept count_of) (none_kept reg_of) ts h p k).0)
row_kept word.PutList ts h i e =
    mapped literals (λ p. instr.PutList p.0 p.1 p.2) (three source_of source_of reg_of ts) i e
    (λ p k. let these = three_kept literal_in literal_in no_literals source_of source_of reg_of source_kept source_kept (none_kept reg_of) ts h p k in pair p.0 p.1 these.0 these.1)
row_kept word.PutTuple2 ts h i e =
    mapped literals (λ p. instr.PutTuple2 p.0 p.1) (two reg_of (listed_by source_of) ts) i e
    (λ p k. (two_kept no_literals literals_in reg_of (listed_by source_of) (none_kept reg_of) (listed_kept literal_in source_of source_kept) ts h p k).1)
row_kept word.MakeFun3 ts h i e =
    mapped literals (λ p. instr.MakeFun3 p.0 p.3 p.4) (five label_of any_of any_of reg_of (listed_by source_of) ts) i e
    (λ p k. (five_kept no_literals no_literals literals_in label_of any_of any_of reg_of (listed_by source_of) (none_kept any_of) (none_kept reg_of) (listed_kept literal_in source_of source_kept) ts h p k).2)
row_kept word.Bif ts h i e =
    bound literals (λ p. bif_of p.0 p.1 p.2 p.3) (four atom_of label_of (list_by source_of) reg_of ts) i e
    (λ p k l. bif_kept p.0 p.1 p.2 p.3 i (four_kept literals_in atom_of label_of (list_by source_of) reg_of (list_kept literal_in source_of source_kept) ts h p k) l)
row_kept word.GcBif ts h i e =
    bound literals (λ p. if few p.3 then Some (instr.GcBif p.0 p.1 p.2 p.3 p.4) else None) (five atom_of label_of count_of (list_by source_of) reg_of ts) i e
    (λ p k l. gc_bif_kept p.0 p.1 p.2 p.3 p.4 i (five_kept no_literals literals_in no_literals atom_of label_of count_of (list_by source_of) reg_of (none_kept label_of) (list_kept literal_in source_of source_kept) (none_kept reg_of) ts h p k).1 l)
row_kept word.PutMapAssoc ts h i e =
    mapped literals (λ p. instr.PutMapAssoc p.0 p.1 p.2 p.3 p.4) (five label_of source_of reg_of count_of (listed_by_two source_of source_of) ts) i e
    (λ p k. let these = five_kept literal_in no_literals (flat_map (λ (q : Source × Source). literals_in (q.0 ∷ q.1 ∷ []))) label_of source_of reg_of count_of (listed_by_two source_of source_of) source_kept (none_kept count_of) (listed_two_kept literal_in literal_in (λ (q : Source × Source). literals_in (q.0 ∷ q.1 ∷ [])) source_of source_of source_kept source_kept (λ q a b. pair q.0 q.1 a b)) ts h p k in
    appended (literal_in p.1) (flat_map (λ (q : Source × Source). literals_in (q.0 ∷ q.1 ∷ [])) p.4) these.0 these.2)
row_kept word.PutMapExact ts h i e =
    mapped literals (λ p. instr.PutMapExact p.0 p.1 p.2 p.3 p.4) (five label_of source_of reg_of count_of (listed_by_two source_of source_of) ts) i e
    (λ p k. let these = five_kept literal_in no_literals (flat_map (λ (q : Source × Source). literals_in (q.0 ∷ q.1 ∷ []))) label_of source_of reg_of count_of (listed_by_two source_of source_of) source_kept (none_kept count_of) (listed_two_kept literal_in literal_in (λ (q : Source × Source). literals_in (q.0 ∷ q.1 ∷ [])) source_of source_of source_kept source_kept (λ q a b. pair q.0 q.1 a b)) ts h p k in
    appended (literal_in p.1) (flat_map (λ (q : Source × Source). literals_in (q.0 ∷ q.1 ∷ [])) p.4) these.0 these.2)
row_kept word.GetMapElements ts h i e =
    mapped literals (λ p. instr.GetMapElements p.0 p.1 p.2) (three label_of source_of (listed_by_two source_of reg_of) ts) i e
    (λ p k. let these = three_kept no_literals literal_in (flat_map (λ (q : Source × Reg). literal_in q.0)) label_of source_of (listed_by_two source_of reg_of) (none_kept label_of) source_kept (listed_two_kept literal_in no_literals (λ (q : Source × Reg). literal_in q.0) source_of reg_of source_kept (none_kept reg_of) (λ q a b. a)) ts h p k in
    appended (literal_in p.1) (flat_map (λ (q : Source × Reg). literal_in q.0) p.2) these.1 these.2)
row_kept word.Badmatch ts h i e = mapped literals (λ s. instr.Badmatch s) (one source_of ts) i e (λ s k. one_kept literal_in source_of source_kept ts h s k)
row_kept word.CaseEnd ts h i e = mapped literals (λ s. instr.CaseEnd s) (one source_of ts) i e (λ s k. one_kept literal_in source_of source_kept ts h s k)
row_kept word.TryCaseEnd ts h i e = mapped literals (λ s. instr.TryCaseEnd s) (one source_of ts) i e (λ s k. one_kept literal_in source_of source_kept ts h s k)
row_kept word.Try ts h i e = mapped literals (λ p. instr.Try p.0 p.1) (two slot_of label_of ts) i e (λ p k. refl)
row_kept word.Catch ts h i e = mapped literals (λ p. instr.Catch p.0 p.1) (two slot_of label_of ts) i e (λ p k. refl)
row_kept word.TryEnd ts h i e = mapped literals (λ n. instr.TryEnd n) (one slot_of ts) i e (λ n k. refl)
row_kept word.TryCase ts h i e = mapped literals (λ n. instr.TryCase n) (one slot_of ts) i e (λ n k. refl)
row_kept word.CatchEnd ts h i e = mapped literals (λ n. instr.CatchEnd n) (one slot_of ts) i e (λ n k. refl)
row_kept word.Return ts h i e = absurd (cc)
row_kept word.IfEnd ts h i e = absurd (cc)
row_kept word.RawRaise ts h i e = absurd (cc)
row_kept word.BuildStacktrace ts h i e = absurd (cc)

-- a word by itself has no literal
alone_kept : (w : Word) (i : Instr) → alone w ≡ Some i → Small (literals i)
alone_kept word.Return i e = let same : instr.Return ≡ i = cc in subst (λ j. Small (literals j)) same refl
alone_kept word.IfEnd i e = let same : instr.IfEnd ≡ i = cc in subst (λ j. Small (literals j)) same refl
alone_kept word.RawRaise i e = let same : instr.RawRaise ≡ i = cc in subst (λ j. Small (literals j)) same refl
alone_kept word.BuildStacktrace i e = let same : instr.BuildStacktrace ≡ i = cc in subst (λ j. Small (literals j)) same refl
alone_kept w i e = absurd (cc)

tuple_kept : (parts : List TermTree) → AllFine parts → (i : Instr) → tuple_read parts ≡ Some i → Small (literals i)
tuple_kept [] h i e = absurd (cc)
tuple_kept (first ∷ ts) h i e =
    bound literals (λ text. row_from text ts) (atom_of first) i e
    (λ text k l. bound literals (λ w. row w ts) (word_named text) i l (λ w m n. row_kept w ts h.1 i n))

listed_small : (t : TermTree) → Fine t → (i : Instr) → listed t ≡ Some i → Small (literals i)
listed_small t h i e = go (out-TermTree t) refl e
  where
    go : (l : TermTree-F TermTree) → out-TermTree t ≡ l → listed_in l ≡ Some i → Small (literals i)
    go (layer.Atom text) k f = bound literals alone (word_named text) i f (λ w m n. alone_kept w i n)
    go (layer.Tuple parts) k f =
        tuple_kept parts (parts_fine t parts h (ap parts_in k)) i f
    go l k f = absurd (cc)

-- the literals of the instruction of a small form are small
pub read_small : (t : TermTree) → Fine t → Small (literals (instr_read t))
read_small t h = go (listed t) refl
  where
    go : (o : Option Instr) → listed t ≡ o → Small (literals (unwrap_or o (instr.Unsupported (unwrap_or (first_word t) []))))
    go None e = refl
    go (Some i) e = listed_small t h i e
