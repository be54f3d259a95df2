-- What a chunk owns is taken apart and made, and a `&mut` to one is opened and closed.
use Rattle.std.proofs.Common.{◌≡◌, ℕ, ◌*◌, ◌<◌, ◌^◌, List, [], ◌∷◌, ◌++◌, refl, sym, ap, ◌∙◌, w64}
use seplogic.Ra.Ura.{Ura}
use base.Fraction.{full_share}
use mir.Syntax.{Args, a_type, dcons, dnil}
use mir.Val.{Val, vint, vptr, vstruct, vcons, vnil, of_list}
use base.Logic.{id⊢, never}
use base.Stored.{Gv}
use base.Fml.{Lft, GName, Share, Fml, fsep, flft, fobs, fauth, fbor, fobor}
use types.Logic.{Logic}
use types.Kit.{Goal, Soaks, Step, step, Seq, Item, ‵, ◌$◌, move, drop, rewrite, fsplit, fjoin, fpick, feq_l, flt_l, flt_i}
use types.SemTy.{Body}
use denote.RattleType.{RattleType}
use denote.Memory.{cell_at, mem}
use denote.Param.{param, bounded}
use denote.RawPtr.{Ptr, block_ptr, ptr_val, in_block, in_a_block}
use denote.Shadow.{pure_i}
use denote.Steps.{opens, closes}
use denote.Struct.Struct.{Struct}
use denote.Struct.Owning.{shape}
use Rattle.std.proofs.mem.Param.{El, R}
use Rattle.std.proofs.alloc.Calls.{Al, token}
use Rattle.kh_arena.specs.Ownership.{places_own, block_right, chunk_owns}
use Rattle.kh_arena.specs.contracts.chunk.Chunk as C
use Rattle.kh_arena.proofs.Places.{sz}

abbrev pub chunk_val : Ptr → ℕ → Val
chunk_val p n = vstruct (vcons (ptr_val p) (vcons (vint w64 n) (vcons (vstruct vnil) vnil)))

module _ (E : El) (Z : Al) where
  abbrev pub args : Args
  args = bounded (a_type ∷ a_type ∷ []) (E.row, (Z.row, tt)) (dcons Z.d (dcons Z.drops dnil))

  abbrev pub P : RattleType
  P = param 1 Z.row

  abbrev pub Cr : RattleType
  Cr = C.the_row (R E) P Z.g

  -- the data fields, as a plain struct
  abbrev pub Fields : RattleType
  Fields = Struct (shape (C.the_type (R E) P Z.g))

  abbrev pub all_of : Cr.Denot → ℕ → ℕ → Fml
  all_of c b o = places_own (R E) (block_ptr b o) c.places

  abbrev pub right_of : Cr.Denot → ℕ → ℕ → Fml
  right_of c b o = block_right (token Z c.alloc) (R E) (block_ptr b o) c.len

module _ (E : El) (Z : Al) {M : Type 1} {𝓤 : Ura M} {𝓛 : Logic 𝓤} {K : Type 0} {Γ : List (Item 𝓤)} {G : Goal 𝓤 𝓛.H} where
  -- [the places; the right to give the block back]
  pub chunk_had : K → (c : (Cr E Z).Denot) (vs : List Val)
      → ((b o : ℕ) → c.at ≡ block_ptr b o → vs ≡ chunk_val (block_ptr b o) c.len ∷ [] → c.len < 2 ^ 64 → c.len * sz E < 2 ^ 63
      → Seq K 𝓛 (‵ (all_of E Z c b o) ∷ ‵ (right_of E Z c b o) ∷ Γ) G)
      → Seq K 𝓛 (‵ ((Cr E Z).own_val c vs) ∷ Γ) G
  chunk_had t c vs k =
      fsplit t $ fpick t (λ vss. fsplit t $ feq_l t (λ whole. fsplit t $ feq_l t (λ e₀. fsplit t $ fsplit t $ feq_l t (λ e₁. flt_l t (λ fn.
      fsplit t $ fpick t (λ none. fsplit t $ feq_l t (λ e₂. drop t $ drop t $ fsplit t $ flt_l t (λ fit.
      in_a_block t c.at (λ p. in_block p (fsep (places_own (R E) p c.places) (block_right (token Z c.alloc) (R E) p c.len))) (id⊢ 𝓤 (never 𝓤)) (λ b o e. fsplit t $
      k b o e (whole ∙ ((λ i. vstruct (of_list (e₀ i ++ (e₁ i ++ (e₂ i ++ [])))) ∷ []) ∙ ap (λ (p : Ptr). chunk_val p c.len ∷ []) e)) fn fit)))))))))

  pub chunk_made : K → (c : (Cr E Z).Denot) (b o : ℕ) → c.at ≡ block_ptr b o → c.len < 2 ^ 64 → c.len * sz E < 2 ^ 63
      → Step K 𝓛 (‵ ((Cr E Z).own_val c (chunk_val (block_ptr b o) c.len ∷ [])) ∷ Γ) G (‵ (all_of E Z c b o) ∷ ‵ (right_of E Z c b o) ∷ Γ) G
  chunk_made t c b o at fn fit = step (λ s.
      fjoin t $ flt_i t (c.len * sz E) (2 ^ 63) fit $ fjoin t $
      pure_i t ((Fields E Z).own_val (block_ptr b o, (c.len, (tt, tt))) (chunk_val (block_ptr b o) c.len ∷ [])) (λ vss. (tt, (tt, ((tt, tt), ((λ uss. (tt, tt)), tt)))))
      ((vptr b o ∷ [], (vint w64 c.len ∷ [], (vstruct vnil ∷ [], tt))), (refl, (refl, ((refl, fn), ((tt, (refl, tt)), tt))))) $ fjoin t $
      rewrite t 0 (λ (p : Ptr). ‵ (fsep ((Fields E Z).own_val (p, (c.len, (tt, tt))) (chunk_val (block_ptr b o) c.len ∷ [])) (chunk_owns (token Z c.alloc) (R E) p c.len c.places))) (sym at) refl $ s)

module _ (E : El) (Z : Al) {M : Type 1} {𝓤 : Ura M} {𝓛 : Logic 𝓤} {K : Type 0} {Γ : List (Item 𝓤)} {G : Goal 𝓤 𝓛.H} where
  -- [the places; the right; the words; the open borrow; obs; auth]
  pub chunk_opens : K → Soaks G → {κ : Lft} {q : Share} {γ : GName} (c : (Cr E Z).Denot) (rb ro : ℕ)
      → ((b o : ℕ) → c.at ≡ block_ptr b o → c.len < 2 ^ 64 → c.len * sz E < 2 ^ 63
      → Seq K 𝓛 (‵ (all_of E Z c b o) ∷ ‵ (right_of E Z c b o) ∷ ‵ (cell_at full_share (Cr E Z).mir (chunk_val (block_ptr b o) c.len ∷ []) rb ro)
      ∷ ‵ (fobor κ q (Body (mem (Cr E Z)) rb ro γ)) ∷ ‵ (fobs γ ((Cr E Z).coded.code c)) ∷ ‵ (fauth γ ((Cr E Z).coded.code c)) ∷ Γ) G)
      → Seq K 𝓛 (‵ (fobs γ ((Cr E Z).coded.code c)) ∷ ‵ (fbor κ (Body (mem (Cr E Z)) rb ro γ)) ∷ ‵ (flft κ q) ∷ Γ) G
  chunk_opens t z c rb ro k =
      opens t z (Cr E Z) {h = c} rb ro (λ vs. move t (1 ∷ []) $ chunk_had E Z t c vs (λ b o e is fn fit.
      rewrite t 2 (λ (ws : List Val). ‵ (cell_at full_share (Cr E Z).mir ws rb ro)) is refl $ k b o e fn fit))

  pub chunk_closes : K → Soaks G → {κ : Lft} {q : Share} {u v : Gv} {γ : GName} (c : (Cr E Z).Denot) (b o rb ro : ℕ) → c.at ≡ block_ptr b o → c.len < 2 ^ 64 → c.len * sz E < 2 ^ 63
      → Step K 𝓛 (‵ (fobs γ ((Cr E Z).coded.code c)) ∷ ‵ (fbor κ (Body (mem (Cr E Z)) rb ro γ)) ∷ ‵ (flft κ q) ∷ Γ) G
      (‵ (all_of E Z c b o) ∷ ‵ (right_of E Z c b o) ∷ ‵ (cell_at full_share (Cr E Z).mir (chunk_val (block_ptr b o) c.len ∷ []) rb ro)
      ∷ ‵ (fobor κ q (Body (mem (Cr E Z)) rb ro γ)) ∷ ‵ (fobs γ u) ∷ ‵ (fauth γ v) ∷ Γ) G
  chunk_closes t z c b o rb ro at fn fit = step (λ s. chunk_made E Z t c b o at fn fit $ move t (1 ∷ 0 ∷ []) $ closes t z (Cr E Z) c (chunk_val (block_ptr b o) c.len ∷ []) rb ro $ s)
