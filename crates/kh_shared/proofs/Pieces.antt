-- The parts of a box, with any allocator: they are taken apart and made. Assumes `Logic`.
use Rattle.std.proofs.Common.{◌≡◌, ℕ, List, [], ◌∷◌, ◌++◌, refl, subst, T}
use mathlib.Core.Bool.{true, ◌&&◌}
use seplogic.Ra.Ura.{Ura}
use mir.Raw.{raw as bare}
use mir.Val.{Val, vptr, vstruct, vcons, vnil, of_list, has_ty, WT}
use base.Logic.{never, fst∗}
use types.Logic.{Logic, sem}
use types.Kit.{Item, Goal, Seq, Step, step, ‵, ◌$◌, move, drop, fsplit, fjoin, fpick, fpack, feq_i, feq_l}
use denote.RattleType.{RattleType, Valss}
use denote.Builtin.{RawPtr}
use denote.Param.{layout}
use denote.RawPtr.{Ptr, block_ptr, null_ptr, ptr_val, in_a_block}
use denote.Steps.{nothing}
use denote.Struct.Struct.{within}
use denote.Struct.Owning.{shape}
use Rattle.std.proofs.alloc.Calls.{handle_tells}
use Rattle.std.specs.Box.Ownership.{box_owns}
use Rattle.std.proofs.BoxSteps.Form as box
use Rattle.std.proofs.ResultValues.{and_tt}
use Rattle.kh_shared.proofs.Words.{Good}
use Rattle.kh_shared.specs.contracts.parts.Parts as P

-- a pointer and a handle
abbrev pub piece : Val → Val → Val
piece p h = vstruct (vcons p (vcons h vnil))

module _ (E : box.Bx) where
  abbrev pub Piece : RattleType
  Piece = P.the_row (box.R E) (box.P E) E.al.g

  abbrev pub owned : E.al.row.Denot → Ptr → E.row.Denot → base.Fml.Fml
  owned a = box_owns (E.al.g.dealloc_token a) (box.R E)

  pub piece_good : (b o : ℕ) (h : Val) → Good (layout E.al.row) h → T (has_ty (layout E.al.row) h && true) × WT (piece (vptr b o) h)
  piece_good b o h fits = (and_tt (has_ty (layout E.al.row) h) fits.0, (tt, (fits.1, tt)))

  module _ {M : Type 1} {𝓤 : Ura M} {𝓛 : Logic 𝓤} {K : Type 0} {Γ : List (Item 𝓤)} {G : Goal 𝓤 𝓛.H} where
    pub piece_out : K → (d : Piece.Denot) (vs : List Val)
        → ((b o : ℕ) (h : Val) → d.at ≡ block_ptr b o → vs ≡ piece (vptr b o) h ∷ [] → Good (layout E.al.row) h → Seq K 𝓛 (‵ (owned d.alloc (block_ptr b o) d.value) ∷ ‵ (E.al.row.own_val d.alloc (h ∷ [])) ∷ Γ) G)
        → Seq K 𝓛 (‵ (Piece.own_val d vs) ∷ Γ) G
    piece_out t d vs k =
        fsplit t $ fpick t (λ vss. fsplit t $ feq_l t (λ whole. fsplit t $ feq_l t (λ ep. fsplit t $ handle_tells E.al t d.alloc vss.1.0 (λ h eh fits. move t (1 ∷ []) $ drop t $ move t (1 ∷ []) $
        in_a_block t d.at (λ p. owned d.alloc p d.value) (fst∗ 𝓤 (never 𝓤) (sem 𝓛 (E.al.g.dealloc_token d.alloc (bare (box.τ E)) null_ptr))) (λ b o e. k b o h e
        (subst (λ (p : Ptr). vs ≡ piece (ptr_val p) h ∷ []) e
        (subst (λ (ws : List Val). vs ≡ vstruct (of_list (ptr_val d.at ∷ (ws ++ []))) ∷ []) eh (subst (λ (ps : List Val). vs ≡ vstruct (of_list (ps ++ (vss.1.0 ++ []))) ∷ []) ep whole))) fits)))))

    pub piece_in : K → (b o : ℕ) (h : Val) (a : E.al.row.Denot) (x : E.row.Denot)
        → Step K 𝓛 (‵ (Piece.own_val (record { at = block_ptr b o; alloc = a; value = x }) (piece (vptr b o) h ∷ [])) ∷ Γ) G (‵ (owned a (block_ptr b o) x) ∷ ‵ (E.al.row.own_val a (h ∷ [])) ∷ Γ) G
    piece_in t b o h a x = step (λ s. let w : Val = piece (vptr b o) h in
        nothing t $ move t (2 ∷ 0 ∷ []) $ fjoin t $ feq_i t (List Val) (vptr b o ∷ []) (vptr b o ∷ []) refl $ fjoin t $ feq_i t (List Val) (w ∷ []) (w ∷ []) refl $ fjoin t $
        fpack t (Valss (RawPtr ∷ box.P E ∷ [])) (within (shape (P.the_type (box.R E) (box.P E) E.al.g)) (block_ptr b o, (a, tt)) (w ∷ [])) (vptr b o ∷ [], (h ∷ [], tt)) $ fjoin t $ s)
