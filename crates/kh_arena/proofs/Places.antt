-- One place comes out of a chunk's places and goes back; room for an array is places that hold nothing, and any places are room.
use Rattle.std.proofs.Common.{ℕ, zero, suc, ◌+◌, ◌*◌, ◌<◌, List, [], ◌∷◌, length, get_or, set, refl, sym}
use native.Mathlib.Nat.{not-suc-le-zero, le_of_suc-le-suc}
use seplogic.Ra.Ura.{Ura}
use base.Fraction.{full_share}
use mir.Syntax.{ty_array}
use mir.Val.{Val}
use base.Logic.{SProp, ent, sep}
use base.Fml.{Fml, ftrue, fsep, fat, froom}
use types.Logic.{Logic, sem}
use types.Kit.{‵, ◌⊛◌, some, ◌$◌, ◌∵◌, !, qed, by, move, keep, use1, use2, split, pick, rewrite, fsplit, frame, done}
use denote.Memory.{part_at}
use denote.RawPtr.{block_ptr}
use denote.Index.{place as nth, place_is as nth_is}
use borrow.Table.OneValue.{part_in, part_out}
use Rattle.std.specs.Prelude.{Some, None}
use Rattle.std.specs.declared.option.Option.{Option}
use Rattle.std.proofs.mem.Param.{El, R, el_x, elτ}
use Rattle.std.specs.Mem.{type_size}
use Rattle.kh_arena.specs.Ownership.{place_owns, places_own, empty_places}

module _ (E : El) where
  abbrev pub sz : ℕ
  sz = type_size (R E)

  abbrev pub Place : Type 0
  Place = Option (el_x E)

  -- the places but the i-th
  abbrev pub others : ℕ → ℕ → List Place → ℕ → Fml
  others b o [] i = ftrue
  others b o (s ∷ ss) zero = places_own (R E) (block_ptr b (o + sz)) ss
  others b o (s ∷ ss) (suc i) = fsep (place_owns (R E) (block_ptr b o) s) (others b (o + sz) ss i)

module _ (E : El) {M : Type 1} {𝓤 : Ura M} (𝓛 : Logic 𝓤) (b : ℕ) where
  open 𝓛 use {H}

  abbrev ◌⊢◌ : SProp 𝓤 → SProp 𝓤 → Type 1
  P ⊢ Q = ent 𝓤 P Q

  abbrev ◌∗◌ : SProp 𝓤 → SProp 𝓤 → SProp 𝓤
  P ∗ Q = sep 𝓤 P Q

  abbrev ⟦◌⟧ : Fml → SProp 𝓤
  ⟦ P ⟧ = sem 𝓛 P

  infix 26 ◌⊢◌
  infixr 35 ◌∗◌
  abbrev one : ℕ → Place E → Fml
  one o s = place_owns (R E) (block_ptr b o) s

  abbrev all : ℕ → List (Place E) → Fml
  all o ss = places_own (R E) (block_ptr b o) ss

  takes : (ss : List (Place E)) (i o : ℕ) → i < length ss → ⟦ all o ss ⟧ ⊢ ⟦ one (nth (sz E) o i) (get_or ss i None) ⟧ ∗ ⟦ others E b o ss i ⟧
  takes [] i o l = absurd (not-suc-le-zero l)
  takes (s ∷ ss) zero o l = qed 𝓛 (‵ (all o (s ∷ ss)) ∷ []) ∵ fsplit ! $ done !
  takes (s ∷ ss) (suc i) o l =
      qed 𝓛 (‵ (all o (s ∷ ss)) ∷ []) ∵ fsplit ! $ move ! (1 ∷ []) $
      use1 𝓛 (‵ (one (nth (sz E) (o + sz E) i) (get_or ss i None)) ⊛ ‵ (others E b (o + sz E) ss i)) (takes ss i (o + sz E) (le_of_suc-le-suc l)) $ split ! $ frame ! $ move ! (1 ∷ 0 ∷ []) $ done !

  puts : (ss : List (Place E)) (i o : ℕ) (s : Place E) → i < length ss → ⟦ one (nth (sz E) o i) s ⟧ ∗ ⟦ others E b o ss i ⟧ ⊢ ⟦ all o (set ss i s) ⟧
  puts [] i o s l = absurd (not-suc-le-zero l)
  puts (r ∷ ss) zero o s l = qed 𝓛 (‵ (one o s) ∷ ‵ (all (o + sz E) ss) ∷ []) ∵ done !
  puts (r ∷ ss) (suc i) o s l =
      qed 𝓛 (‵ (one (nth (sz E) (o + sz E) i) s) ∷ ‵ (others E b o (r ∷ ss) (suc i)) ∷ []) ∵ move ! (1 ∷ []) $ fsplit ! $ move ! (2 ∷ 1 ∷ []) $
      use2 𝓛 (‵ (all (o + sz E) (set ss i s))) (puts ss i (o + sz E) s (le_of_suc-le-suc l)) $ move ! (1 ∷ 0 ∷ []) $ done !

  -- a place is room, whatever it holds
  emptied : (o : ℕ) (s : Place E) → ⟦ one o s ⟧ ⊢ H.room (elτ E) b o
  emptied o None = 𝓛.laws.raw-room (elτ E) b o
  emptied o (Some x) =
      qed 𝓛 (‵ (part_at (R E) full_share x b o) ∷ []) ∵
      use1 𝓛 (some (λ (v : Val). ‵ (fat full_share (elτ E) b o v) ⊛ ‵ (E.row.own_val x (v ∷ [])))) (part_out 𝓛 (R E) refl full_share x b o) $ pick ! (λ v. split ! $
      keep ! (0 ∷ []) $ by ! (𝓛.laws.at_room (elτ E) b o v))

  -- the room of the i-th place, and what it is once an item lies there
  pub room_out : (ss : List (Place E)) (i o : ℕ) → i < length ss → ⟦ all o ss ⟧ ⊢ H.room (elτ E) b (i * sz E + o) ∗ ⟦ others E b o ss i ⟧
  room_out ss i o l =
      qed 𝓛 (‵ (all o ss) ∷ []) ∵ use1 𝓛 (‵ (one (nth (sz E) o i) (get_or ss i None)) ⊛ ‵ (others E b o ss i)) (takes ss i o l) $ split ! $
      use1 𝓛 (‵ (froom (elτ E) b (nth (sz E) o i))) (emptied (nth (sz E) o i) (get_or ss i None)) $ rewrite ! 0 (λ (k : ℕ). ‵ (froom (elτ E) b k)) (nth_is (sz E) o i) refl $ done !

  pub item_in : (ss : List (Place E)) (i o : ℕ) → i < length ss → (x : el_x E) (v : Val)
      → H.at full_share (elτ E) b (i * sz E + o) v ∗ ⟦ E.row.own_val x (v ∷ []) ⟧ ∗ ⟦ others E b o ss i ⟧ ⊢ ⟦ all o (set ss i (Some x)) ⟧
  item_in ss i o l x v =
      qed 𝓛 (‵ (fat full_share (elτ E) b (i * sz E + o) v) ∷ ‵ (E.row.own_val x (v ∷ [])) ∷ ‵ (others E b o ss i) ∷ []) ∵
      use2 𝓛 (‵ (part_at (R E) full_share x b (i * sz E + o))) (part_in 𝓛 (R E) refl full_share x b (i * sz E + o) v) $
      rewrite ! 0 (λ (k : ℕ). ‵ (part_at (R E) full_share x b k)) (sym (nth_is (sz E) o i)) refl $ by ! (puts ss i o (Some x) l)

  pub of_room : (n o : ℕ) → H.room (ty_array (elτ E) n) b o ⊢ ⟦ all o (empty_places n) ⟧
  of_room zero o = qed 𝓛 (‵ (froom (ty_array (elτ E) 0) b o) ∷ []) ∵ keep ! [] $ done !
  of_room (suc n) o =
      qed 𝓛 (‵ (froom (ty_array (elτ E) (suc n)) b o) ∷ []) ∵
      use1 𝓛 (‵ (froom (elτ E) b o) ⊛ ‵ (froom (ty_array (elτ E) n) b (o + sz E))) (𝓛.laws.room_uncons (elτ E) n b o) $ split ! $
      use1 𝓛 (‵ (one o None)) (𝓛.laws.room-raw (elτ E) b o) $ frame ! $ by ! (of_room n (o + sz E))

  pub to_room : (ss : List (Place E)) (o : ℕ) → ⟦ all o ss ⟧ ⊢ H.room (ty_array (elτ E) (length ss)) b o
  to_room [] o = 𝓛.laws.room_nil (elτ E) b o
  to_room (s ∷ ss) o =
      qed 𝓛 (‵ (one o s) ∷ ‵ (all (o + sz E) ss) ∷ []) ∵ use1 𝓛 (‵ (froom (elτ E) b o)) (emptied o s) $ move ! (1 ∷ []) $
      use1 𝓛 (‵ (froom (ty_array (elτ E) (length ss)) b (o + sz E))) (to_room ss (o + sz E)) $ move ! (1 ∷ []) $ by ! (𝓛.laws.room_cons (elτ E) (length ss) b o)
