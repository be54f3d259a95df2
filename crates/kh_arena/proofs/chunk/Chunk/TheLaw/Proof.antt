-- A `&` to a chunk is made where one to an item is: it lends the bound on its size and each item.
use Rattle.std.proofs.Common.{ℕ, List, [], ◌∷◌, ◌++◌, ◌*◌, ◌^◌}
use seplogic.Ra.Ura.{Ura}
use base.Fml.{Lft, ftrue, flt, fsep, Incl-trans}
use types.Logic.{Logic}
use contract.BorrowLft.{meet_⊑_left}
use denote.RattleType.{RattleType, RowLaws}
use denote.Sharing.{ShrLaws, said}
use denote.SharingLaws.{nothing_shr_laws, said_shr_laws, beside_shr_laws}
use denote.RawPtr.{Ptr, block_ptr, null_ptr, in_block, ◌+ₚ◌}
use denote.Shares.{Shares, Shares-less}
use denote.Param.Laws.{Laws}
use denote.Param.Shared.{copy_shared}
use denote.Struct.Field.{RawPtr-field, usize-field}
use denote.Struct.Laws.{RawPtr-copy, usize-copy, field_copy}
use denote.Struct.Lending.{lent_at_shr_laws, Lends, Lends-false, Lends-lies, Lends-said, Lends-nothing, Lends-both, Lends-first, of_Lends}
use mir.Syntax.{Ty}
use base.Fml.{Fml}
use Rattle.std.specs.Prelude.{Some, None}
use Rattle.std.specs.declared.option.Option.{Option}
use Rattle.std.specs.declared.alloc.Allocator.{Ghosts}
use Rattle.std.specs.contracts.marker.PhantomData as Phantom
use Rattle.std.specs.Mem.{type_size}
use Rattle.kh_arena.specs.Ownership.{place_owns, places_own, block_right, place_lends, places_lend}
use Rattle.kh_arena.specs.contracts.chunk.Chunk as C
use Rattle.kh_arena.proofs.chunk.Chunk.TheLaw.Statement.{statement}

module _ (R : RattleType) (L : RowLaws R) where
  place_laws : (p : Ptr) (s : Option R.Denot) → ShrLaws (place_lends R p s)
  place_laws p (Some x) = lent_at_shr_laws R L p x
  place_laws p None = nothing_shr_laws

  places_laws : (p : Ptr) (ss : List (Option R.Denot)) → ShrLaws (places_lend R p ss)
  places_laws p [] = nothing_shr_laws
  places_laws p (s ∷ ss) = beside_shr_laws (place_lends R p s) (places_lend R (p +ₚ type_size R) ss) (place_laws p s) (places_laws (p +ₚ type_size R) ss)

module _ {M : Type 1} {𝓤 : Ura M} (𝓛 : Logic 𝓤) (R : RattleType) (l : Lft) (s : Shares 𝓛 R l) where
  Lends-place : (p : Ptr) (x : Option R.Denot) → Lends 𝓛 (place_owns R p x) (place_lends R p x) l
  Lends-place p (Some x) = Lends-lies 𝓛 R l p x (s x)
  Lends-place p None = Lends-nothing 𝓛 (place_owns R p None) l

  Lends-places : (p : Ptr) (ss : List (Option R.Denot)) → Lends 𝓛 (places_own R p ss) (places_lend R p ss) l
  Lends-places p [] = Lends-nothing 𝓛 ftrue l
  Lends-places p (x ∷ ss) =
      Lends-both 𝓛 (place_owns R p x) (places_own R (p +ₚ type_size R) ss) (place_lends R p x) (places_lend R (p +ₚ type_size R) ss) l (Lends-place p x) (Lends-places (p +ₚ type_size R) ss)

  Lends-block : (t : Ty → Ptr → Fml) (p : Ptr) (n : ℕ) (ss : List (Option R.Denot)) → Lends 𝓛 (in_block p (fsep (places_own R p ss) (block_right t R p n))) (places_lend R p ss) l
  Lends-block t (block_ptr b o) n ss = Lends-first 𝓛 (places_own R (block_ptr b o) ss) (block_right t R (block_ptr b o) n) (places_lend R (block_ptr b o) ss) l (Lends-places (block_ptr b o) ss)
  Lends-block t null_ptr n ss = Lends-false 𝓛 (places_lend R null_ptr ss) l

pub shares : (R B : RattleType) (g : Ghosts B.Denot) (L : Laws R) (K : Laws B) → statement R B g L K
shares R B g L K = of_Lends (C.struct R B g) (C.the_codes R.Denot B.Denot R.coded B.coded (Phantom.the_row B).coded) (C.the_heap R B g) (C.the_lent R B g)
    (λ d p. let small = flt (d.len * type_size R) (2 ^ 63) in beside_shr_laws (said small) (places_lend R d.at d.places) (said_shr_laws small tt) (places_laws R L.shr_laws d.at d.places))
    (copy_shared RawPtr-field RawPtr-copy, (copy_shared usize-field usize-copy, (copy_shared (Phantom.the_field B) (field_copy (Phantom.the_type B) tt), tt)))
    (λ M 𝓤 𝓛 d p.
    let l = (C.the_row R B g).lives in
    let small = flt (d.len * type_size R) (2 ^ 63) in
    Lends-both 𝓛 small (in_block d.at (fsep (places_own R d.at d.places) (block_right (g.dealloc_token d.alloc) R d.at d.len))) (said small) (places_lend R d.at d.places) l (Lends-said 𝓛 small tt l)
    (Lends-block 𝓛 R l (Shares-less 𝓛 R R.lives l (Incl-trans (meet_⊑_left (R.lives ++ (B.lives ++ [])) _) (meet_⊑_left R.lives (B.lives ++ []))) (L.shares 𝓛)) (g.dealloc_token d.alloc) d.at d.len d.places))
