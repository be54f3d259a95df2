-- The machine values of a shared pointer and of a box's parts, whose allocator is `Global`, and a read of the first through a `&`. Assumes `Logic`.
use Rattle.std.proofs.Common.{◌≡◌, ℕ, List, [], ◌∷◌, ◌++◌, refl, ap, ◌∙◌, T, lit<}
use mathlib.Core.Bool.{true, ◌&&◌}
use seplogic.Ra.Ura.{Ura}
use mir.Syntax.{Ty, ty_ptr}
use mir.Val.{Val, vunit, vstruct, vcons, vnil, of_list, has_ty, WT}
use base.Logic.{ent, emp}
use base.Fml.{Lft, Share, fat, flft}
use types.Logic.{Logic, sem}
use types.Match.{live}
use Rattle.std.proofs.ResultValues.{and_tt}
use types.Kit.{Goal, Soaks, Seq, Step, step, Item, ‵, ◌$◌, move, drop, use0, use1, fsplit, fjoin, fjoin3, fpack, feq_i, rewrite}
use denote.RattleType.{RattleType, Valss}
use denote.Memory.{cell_at, part_at, hidden_shr, lone}
use denote.Copied.{Struct-Copied}
use denote.RawPtr.{Ptr, block_ptr, null_ptr, ptr_val}
use denote.Opens.{Opens, Shut}
use denote.Shadow.{shadow, pure_l, makes_shadow}
use denote.Steps.{looks, shuts, nothing}
use denote.Builtin.{usize}
use denote.Struct.Laws as laws
use denote.Struct.Laws.{RawPtr-copy}
use denote.Struct.Struct.{Struct, as_fields, within}
use denote.Struct.Tuple.{Tuple}
use denote.Struct.Owning.{shape}
use Rattle.std.specs.Box.Ownership.{box_owns}
use Rattle.std.specs.contracts.alloc.Global as heap
use Rattle.std.proofs.alloc.Global.TheLaws as heap_laws
use Rattle.std.specs.contracts.impls.GlobalAllocator.TheImpl.{ghosts}
use Rattle.kh_shared.specs.Ownership.{Blocks, shared_owns}
use Rattle.kh_shared.specs.declared.shared.Shared.{Shared}
use Rattle.kh_shared.specs.contracts.shared.Shared as C
use Rattle.kh_shared.specs.contracts.parts.Parts as P

abbrev pub Good : Ty → Val → Type 0
Good τ v = T (has_ty τ v) × WT v

pub Ptr-Good : (p : Ptr) → Good ty_ptr (ptr_val p)
Ptr-Good (block_ptr b o) = (tt, tt)
Ptr-Good null_ptr = (tt, record { fits = lit< tt })

pub some_Good : (τ : Ty) (v : Val) → Good τ v → T (has_ty τ v && true) × WT (live 1 (vcons v vnil))
some_Good τ v g = (and_tt (has_ty τ v) g.0, (record { fits = lit< tt }, (g.1, tt)))

abbrev pub Heap : RattleType
Heap = heap.the_row

abbrev pub heap_val : Val
heap_val = vstruct (vcons (vstruct (vcons vunit vnil)) vnil)

abbrev pub heap_ty : Ty
heap_ty = lone Heap.mir

pub heap_Good : Good heap_ty heap_val
heap_Good = (tt, ((tt, tt), tt))

module _ {M : Type 1} {𝓤 : Ura M} (𝓛 : Logic 𝓤) where
  pub heap_own : (h : Heap.Denot) → ent 𝓤 (emp 𝓤) (sem 𝓛 (Heap.own_val h (heap_val ∷ [])))
  heap_own h = makes_shadow 𝓛 (Heap.own_val h (heap_val ∷ [])) (λ us. (tt, ((λ ws. (tt, (tt, tt))), tt)))
      ((vstruct (vcons vunit vnil) ∷ [], tt), (refl, (((vunit ∷ [], tt), (refl, (refl, tt))), tt)))

-- what is owned of a handle says its machine value
heap_told : (h : Heap.Denot) (vs : List Val) → shadow (Heap.own_val h vs) → vs ≡ heap_val ∷ []
heap_told h vs s =
    s.1.0 ∙ ap (λ (us : List Val). vstruct (of_list (us ++ [])) ∷ []) (s.1.1.0.1.0 ∙ ap (λ (us : List Val). vstruct (of_list (us ++ [])) ∷ []) s.1.1.0.1.1.0)

abbrev pub word : Ptr → Ptr → Val
word c p = vstruct (vcons (ptr_val c) (vcons (ptr_val p) (vcons heap_val vnil)))

abbrev pub pair_word : Ptr → Val
pair_word p = vstruct (vcons (ptr_val p) (vcons heap_val vnil))

abbrev pub both_word : Ptr → Ptr → Val
both_word c p = vstruct (vcons (pair_word c) (vcons (pair_word p) vnil))

abbrev pub blocks_of : {X : Type 0} → Shared X → Blocks
blocks_of d = record { heap = d.alloc; count = d.count; at = d.at; mark = d.mark }

module _ (R : RattleType) where
  abbrev pub Sh : RattleType
  Sh = C.the_row R

  abbrev pub Words : RattleType
  Words = Struct (shape (C.the_type R))

  abbrev pub Parts : RattleType
  Parts = P.the_row R Heap ghosts

  abbrev pub Pair : RattleType
  Pair = Struct (shape (P.the_type R Heap ghosts))

  -- the two blocks of a last owner
  abbrev pub Both : RattleType
  Both = Tuple (P.the_row usize Heap ghosts ∷ Parts ∷ [])

  pub both_Good : (c p : Ptr) → Good (lone (Both.mir)) (both_word c p)
  both_Good c p = as_fields (lone (P.the_row usize Heap ghosts).mir ∷ lone Parts.mir ∷ []) (pair_word c ∷ pair_word p ∷ [])
      (as_fields (ty_ptr ∷ heap_ty ∷ []) (ptr_val c ∷ heap_val ∷ []) (Ptr-Good c, (heap_Good, tt)), (as_fields (ty_ptr ∷ heap_ty ∷ []) (ptr_val p ∷ heap_val ∷ []) (Ptr-Good p, (heap_Good, tt)), tt))

  pub word_Good : (c p : Ptr) → Good (lone (Sh.mir)) (word c p)
  word_Good c p = as_fields (ty_ptr ∷ ty_ptr ∷ heap_ty ∷ []) (ptr_val c ∷ ptr_val p ∷ heap_val ∷ []) (Ptr-Good c, (Ptr-Good p, (heap_Good, tt)))

  pub pair_Good : (p : Ptr) → Good (lone (Parts.mir)) (pair_word p)
  pair_Good p = as_fields (ty_ptr ∷ heap_ty ∷ []) (ptr_val p ∷ heap_val ∷ []) (Ptr-Good p, (heap_Good, tt))

  module _ {M : Type 1} {𝓤 : Ura M} (𝓛 : Logic 𝓤) where
    pub words_own : (c p : Ptr) (h : Heap.Denot) → ent 𝓤 (emp 𝓤) (sem 𝓛 (Words.own_val (c, (p, (heap.the_field.into h, tt))) (word c p ∷ [])))
    words_own c p h = makes_shadow 𝓛 (Words.own_val (c, (p, (heap.the_field.into h, tt))) (word c p ∷ [])) (λ vss. (tt, (tt, (tt, ((λ us. (tt, ((λ ws. (tt, (tt, tt))), tt))), tt)))))
        ((ptr_val c ∷ [], (ptr_val p ∷ [], (heap_val ∷ [], tt))), (refl, (refl, (refl, (((vstruct (vcons vunit vnil) ∷ [], tt), (refl, (((vunit ∷ [], tt), (refl, (refl, tt))), tt))), tt)))))

    pub pair_own : (p : Ptr) (h : Heap.Denot) → ent 𝓤 (emp 𝓤) (sem 𝓛 (Pair.own_val (p, (h, tt)) (pair_word p ∷ [])))
    pair_own p h = makes_shadow 𝓛 (Pair.own_val (p, (h, tt)) (pair_word p ∷ [])) (λ vss. (tt, (tt, ((λ us. (tt, ((λ ws. (tt, (tt, tt))), tt))), tt))))
        ((ptr_val p ∷ [], (heap_val ∷ [], tt)), (refl, (refl, (((vstruct (vcons vunit vnil) ∷ [], tt), (refl, (((vunit ∷ [], tt), (refl, (refl, tt))), tt))), tt))))

    opened : Opens 𝓛 Words
    opened = (Struct-Copied 𝓛 (shape (C.the_type R)) (refl, (refl, (refl, tt))) (RawPtr-copy.copied M 𝓤 𝓛, (RawPtr-copy.copied M 𝓤 𝓛, ((laws.field_copy heap.the_type heap_laws.the_copy).copied M 𝓤 𝓛, tt)))).opens

  module _ {M : Type 1} {𝓤 : Ura M} {𝓛 : Logic 𝓤} {K : Type 0} {Γ : List (Item 𝓤)} {G : Goal 𝓤 𝓛.H} where
    pub words_had : K → (c p : Ptr) (h : Heap.Denot) (vs : List Val) → (vs ≡ word c p ∷ [] → Seq K 𝓛 Γ G) → Seq K 𝓛 (‵ (Words.own_val (c, (p, (heap.the_field.into h, tt))) vs) ∷ Γ) G
    words_had t c p h vs k = pure_l t (Words.own_val (c, (p, (heap.the_field.into h, tt))) vs) (λ s. k
        (s.1.0 ∙ ap (λ (us : List Val). vstruct (of_list (us ++ (s.0.1.0 ++ (s.0.1.1.0 ++ [])))) ∷ []) s.1.1.0 ∙ ap (λ (us : List Val). vstruct (of_list (ptr_val c ∷ (us ++ (s.0.1.1.0 ++ [])))) ∷ []) s.1.1.1.0
        ∙ ap (λ (us : List Val). vstruct (of_list (ptr_val c ∷ ptr_val p ∷ (us ++ []))) ∷ []) (heap_told h s.0.1.1.0 s.1.1.1.1.0)))

  module _ {M : Type 1} {𝓤 : Ura M} {𝓛 : Logic 𝓤} {K : Type 0} {Γ : List (Item 𝓤)} {G : Goal 𝓤 𝓛.H} where
    pub shared_had : K → (d : Sh.Denot) (vs : List Val) → (vs ≡ word d.count d.at ∷ [] → Seq K 𝓛 (‵ (shared_owns R (blocks_of d) d.value) ∷ Γ) G) → Seq K 𝓛 (‵ (Sh.own_val d vs) ∷ Γ) G
    shared_had t d vs k = fsplit t $ words_had t d.count d.at d.alloc vs k

    pub shared_made : K → (d : Sh.Denot) → Step K 𝓛 (‵ (Sh.own_val d (word d.count d.at ∷ [])) ∷ Γ) G (‵ (shared_owns R (blocks_of d) d.value) ∷ Γ) G
    shared_made t d = step (λ s. use0 𝓛 (‵ (Words.own_val (d.count, (d.at, (heap.the_field.into d.alloc, tt))) (word d.count d.at ∷ []))) (words_own 𝓛 d.count d.at d.alloc) $ fjoin t $ s)

    pub parts_had : K → (d : Parts.Denot) (vs : List Val) → (vs ≡ pair_word d.at ∷ [] → Seq K 𝓛 (‵ (box_owns (ghosts.dealloc_token d.alloc) R d.at d.value) ∷ Γ) G) → Seq K 𝓛 (‵ (Parts.own_val d vs) ∷ Γ) G
    parts_had t d vs k = fsplit t $ pure_l t (Pair.own_val (d.at, (d.alloc, tt)) vs) (λ s. k
        (s.1.0 ∙ ap (λ (us : List Val). vstruct (of_list (us ++ (s.0.1.0 ++ []))) ∷ []) s.1.1.0 ∙ ap (λ (us : List Val). vstruct (of_list (ptr_val d.at ∷ (us ++ []))) ∷ []) (heap_told d.alloc s.0.1.0 s.1.1.1.0)))

    pub parts_made : K → (d : Parts.Denot) → Step K 𝓛 (‵ (Parts.own_val d (pair_word d.at ∷ [])) ∷ Γ) G (‵ (box_owns (ghosts.dealloc_token d.alloc) R d.at d.value) ∷ Γ) G
    parts_made t d = step (λ s. use0 𝓛 (‵ (Pair.own_val (d.at, (d.alloc, tt)) (pair_word d.at ∷ []))) (pair_own 𝓛 d.at d.alloc) $ fjoin t $ s)

    pub both_made : K → (c : (P.the_row usize Heap ghosts).Denot) (d : Parts.Denot)
        → Step K 𝓛 (‵ (Both.own_val (c, d) (both_word c.at d.at ∷ [])) ∷ Γ) G (‵ ((P.the_row usize Heap ghosts).own_val c (pair_word c.at ∷ [])) ∷ ‵ (Parts.own_val d (pair_word d.at ∷ [])) ∷ Γ) G
    both_made t c d = step (λ s. let rows = P.the_row usize Heap ghosts ∷ Parts ∷ [] in
        nothing t $ move t (1 ∷ 2 ∷ 0 ∷ []) $ fjoin3 t $ feq_i t (List Val) (both_word c.at d.at ∷ []) (both_word c.at d.at ∷ []) refl $ fjoin t $
        fpack t (Valss rows) (within (record { name = []; args = []; types = []; fields = rows }) (c, (d, tt)) (both_word c.at d.at ∷ [])) (pair_word c.at ∷ [], (pair_word d.at ∷ [], tt)) $ s)

    -- a `&` to the fields is looked at: [the word; the way back]
    pub reads : K → Soaks G → {κ : Lft} {q : Share} (c p : Ptr) (h : Heap.Denot) (b o : ℕ)
        → ((q' : Share) → Seq K 𝓛 (‵ (fat q' (lone Words.mir) b o (word c p)) ∷ Shut 𝓛 κ q (part_at Words q' (c, (p, (heap.the_field.into h, tt))) b o) ∷ Γ) G)
        → Seq K 𝓛 (‵ (hidden_shr Words κ (c, (p, (heap.the_field.into h, tt))) b o) ∷ ‵ (flft κ q) ∷ Γ) G
    reads t z c p h b o k =
        looks t z Words (opened 𝓛) (c, (p, (heap.the_field.into h, tt))) b o (λ q' vs. move t (3 ∷ []) $ drop t $ move t (1 ∷ []) $ words_had t c p h vs (λ e.
        rewrite t 0 (λ (us : List Val). ‵ (cell_at q' Words.mir us b o)) e refl $ use1 𝓛 (‵ (fat q' (lone Words.mir) b o (word c p))) (𝓛.laws.raw_at q' (lone Words.mir) b o (word c p)) $ k q'))

    pub read : K → Soaks G → {κ : Lft} {q : Share} (c p : Ptr) (h : Heap.Denot) (b o : ℕ) (q' : Share)
        → Step K 𝓛 (‵ (flft κ q) ∷ Γ) G (‵ (fat q' (lone Words.mir) b o (word c p)) ∷ Shut 𝓛 κ q (part_at Words q' (c, (p, (heap.the_field.into h, tt))) b o) ∷ Γ) G
    read t z c p h b o q' = step (λ s.
        use1 𝓛 (‵ (cell_at q' Words.mir (word c p ∷ []) b o)) (𝓛.laws.at_raw q' (lone Words.mir) b o (word c p)) $
        use0 𝓛 (‵ (Words.own_val (c, (p, (heap.the_field.into h, tt))) (word c p ∷ []))) (words_own 𝓛 c p h) $ move t (1 ∷ 0 ∷ []) $ shuts t z Words q' (c, (p, (heap.the_field.into h, tt))) (word c p ∷ []) b o $ s)
