-- What a `&` to a chunk shows: its pointer, the bound on its size, and a `&` to each item.
use Rattle.std.proofs.Common.{◌≡◌, ℕ, zero, suc, ◌+◌, ◌*◌, ◌<◌, ◌^◌, List, [], ◌∷◌, length, get_or, refl, sym, ap, subst, T, ◌∙◌, arith}
use seplogic.Ra.Ura.{Ura}
use mir.Syntax.{ty_ptr}
use mir.Val.{Val, vptr}
use base.Logic.{ent, sep, never}
use base.Fml.{Lft, Share, fat, flt, flft, fhide}
use types.Logic.{Logic, sem}
use types.Kit.{Goal, Soaks, Step, step, Seq, Item, ‵, ◌⊛◌, ◌$◌, ◌∵◌, !, qed, by, move, keep, drop, use1, split, rewrite, fsplit, feq_l, feq_i, done}
use denote.Memory.{cell_at, part_at, hidden_shr}
use denote.Copied.{plain_Copied}
use denote.RawPtr.{Ptr, RawPtr, block_ptr, null_ptr, coded_ptr, ptr_own, rawptr_pure, ptr_val}
use denote.Index.{place as nth, place_is as nth_is}
use denote.Struct.Laws.{RawPtr-laws}
use denote.Struct.Lending.{lent_out}
use denote.Opens.{Shut, unhide}
use denote.Steps.{looks, shuts}
use Rattle.std.specs.Prelude.{Some, None, IsSome}
use Rattle.std.specs.declared.option.Option.{Option}
use Rattle.std.specs.contracts.marker.PhantomData as Phantom
use Rattle.std.proofs.mem.Param.{El, R, el_x}
use Rattle.std.proofs.alloc.Calls.{Al}
use Rattle.kh_arena.specs.Ownership.{place_lends, places_lend}
use Rattle.kh_arena.specs.contracts.chunk.Chunk as C
use Rattle.kh_arena.proofs.Places.{sz, Place}
use Rattle.kh_arena.proofs.Chunks.{P, Cr, Fields}

module _ {X : Type 0} where
  abbrev has_item : Option X → Type 0
  has_item (Some x) = Unit {0}
  has_item None = ⊥

  pub no_item : (x : X) → None ≡ Some x → ⊥
  no_item x e = subst has_item (sym e) tt

  pub item_of : (s : Option X) → IsSome s → (x : X) × (s ≡ Some x)
  item_of (Some x) is = (x, refl)
  item_of None is = absurd (subst T (sym is) tt)

  pub item_within : (ss : List (Option X)) (i : ℕ) (x : X) → get_or ss i None ≡ Some x → i < length ss
  item_within [] i x e = absurd (no_item x e)
  item_within (s ∷ ss) zero x e = omega arith
  item_within (s ∷ ss) (suc i) x e = let tail = item_within ss i x e in omega arith

module _ (E : El) {M : Type 1} {𝓤 : Ura M} (𝓛 : Logic 𝓤) (κ : Lft) where
  pub shown : (Z : Al) (c : (Cr E Z).Denot) (b o : ℕ)
      → ent 𝓤 (sem 𝓛 (hidden_shr (Cr E Z) κ c b o)) (sep 𝓤 (sem 𝓛 (hidden_shr RawPtr κ c.at b (o + 0))) (sep 𝓤 (sem 𝓛 (flt (c.len * sz E) (2 ^ 63))) (sem 𝓛 (places_lend (R E) c.at c.places κ))))
  shown Z c b o = qed 𝓛 (‵ (hidden_shr (Cr E Z) κ c b o) ∷ []) ∵
      use1 𝓛 (‵ (hidden_shr (Fields E Z) κ (c.at, (c.len, (tt, tt))) b o) ⊛ ‵ (fhide (C.the_lent (R E) (P E Z) Z.g c c.at κ)))
      (lent_out 𝓛 (C.struct (R E) (P E Z) Z.g) (C.the_codes (el_x E) Z.row.Denot (R E).coded (P E Z).coded (Phantom.the_row (P E Z)).coded) (C.the_heap (R E) (P E Z) Z.g) (C.the_lent (R E) (P E Z) Z.g) κ c b o) $ split ! $
      unhide ! $ fsplit ! $ fsplit ! $ keep ! (0 ∷ 3 ∷ []) $ done !

  -- null holds no item
  pub none_at_null : (ss : List (Place E)) (i : ℕ) (x : el_x E) → get_or ss i None ≡ Some x → ent 𝓤 (sem 𝓛 (places_lend (R E) null_ptr ss κ)) (never 𝓤)
  none_at_null [] i x e = absurd (no_item x e)
  none_at_null (s ∷ ss) zero x e = qed 𝓛 (‵ (place_lends (R E) null_ptr s κ) ∷ ‵ (places_lend (R E) null_ptr ss κ) ∷ []) ∵
      rewrite ! 0 (λ (r : Place E). ‵ (place_lends (R E) null_ptr r κ)) e refl $ fsplit ! $ keep ! (0 ∷ []) $ done !
  none_at_null (s ∷ ss) (suc i) x e = qed 𝓛 (‵ (place_lends (R E) null_ptr s κ) ∷ ‵ (places_lend (R E) null_ptr ss κ) ∷ []) ∵ drop ! $ by ! (none_at_null ss i x e)

  one_lent : (b o : ℕ) (ss : List (Place E)) (i : ℕ) (x : el_x E) → get_or ss i None ≡ Some x
      → ent 𝓤 (sem 𝓛 (places_lend (R E) (block_ptr b o) ss κ)) (sem 𝓛 (hidden_shr (R E) κ x b (nth (sz E) o i)))
  one_lent b o [] i x e = absurd (no_item x e)
  one_lent b o (s ∷ ss) zero x e = qed 𝓛 (‵ (place_lends (R E) (block_ptr b o) s κ) ∷ ‵ (places_lend (R E) (block_ptr b (o + sz E)) ss κ) ∷ []) ∵
      rewrite ! 0 (λ (r : Place E). ‵ (place_lends (R E) (block_ptr b o) r κ)) e refl $ fsplit ! $ keep ! (1 ∷ []) $ done !
  one_lent b o (s ∷ ss) (suc i) x e = qed 𝓛 (‵ (place_lends (R E) (block_ptr b o) s κ) ∷ ‵ (places_lend (R E) (block_ptr b (o + sz E)) ss κ) ∷ []) ∵
      drop ! $ by ! (one_lent b (o + sz E) ss i x e)

  pub item_lent : (b o : ℕ) (ss : List (Place E)) (i : ℕ) (x : el_x E) → get_or ss i None ≡ Some x
      → ent 𝓤 (sem 𝓛 (places_lend (R E) (block_ptr b o) ss κ)) (sem 𝓛 (hidden_shr (R E) κ x b (i * sz E + o)))
  item_lent b o ss i x e = qed 𝓛 (‵ (places_lend (R E) (block_ptr b o) ss κ) ∷ []) ∵
      use1 𝓛 (‵ (hidden_shr (R E) κ x b (nth (sz E) o i))) (one_lent b o ss i x e) $ rewrite ! 0 (λ (k : ℕ). ‵ (hidden_shr (R E) κ x b k)) (nth_is (sz E) o i) refl $ done !

module _ {M : Type 1} {𝓤 : Ura M} {𝓛 : Logic 𝓤} {K : Type 0} {Γ : List (Item 𝓤)} {G : Goal 𝓤 𝓛.H} where
  -- a pointer into a block, behind a `&`, is looked at: [the word; the way back]
  pub pointer_in : K → Soaks G → {κ : Lft} {q : Share} (p : Ptr) (pb po : ℕ) → p ≡ block_ptr pb po → (b at : ℕ)
      → ((q' : Share) → Seq K 𝓛 (‵ (fat q' ty_ptr b at (vptr pb po)) ∷ Shut 𝓛 κ q (part_at RawPtr q' p b at) ∷ Γ) G) → Seq K 𝓛 (‵ (hidden_shr RawPtr κ p b at) ∷ ‵ (flft κ q) ∷ Γ) G
  pointer_in t z p pb po is b at k =
      looks t z RawPtr (plain_Copied 𝓛 Ptr coded_ptr (ty_ptr ∷ []) ptr_own rawptr_pure ptr_val RawPtr-laws.tells).opens p b at (λ q' vs. move t (1 ∷ []) $ feq_l t (λ e.
      rewrite t 0 (λ (us : List Val). ‵ (cell_at q' RawPtr.mir us b at)) (e ∙ ap (λ (r : Ptr). ptr_val r ∷ []) is) refl $ move t (2 ∷ []) $ drop t $ k q'))

  pub pointer_out : K → Soaks G → {κ : Lft} {q q' : Share} (p : Ptr) (pb po : ℕ) → p ≡ block_ptr pb po → (b at : ℕ)
      → Step K 𝓛 (‵ (flft κ q) ∷ Γ) G (‵ (fat q' ty_ptr b at (vptr pb po)) ∷ Shut 𝓛 κ q (part_at RawPtr q' p b at) ∷ Γ) G
  pointer_out t z {q' = q'} p pb po is b at = step (λ s.
      feq_i t (List Val) (vptr pb po ∷ []) (ptr_val p ∷ []) (ap (λ (r : Ptr). ptr_val r ∷ []) (sym is)) $ move t (1 ∷ 0 ∷ []) $ shuts t z RawPtr q' p (vptr pb po ∷ []) b at $ s)
