-- The size and the alignment of a chunk's block, as the allocator is told them.
use Rattle.std.proofs.Common.{◌≡◌, ℕ, zero, suc, ◌*◌, ◌<◌, ◌^◌, sym, ap, ◌∙◌, arith}
use native.Mathlib.Nat.{zero-mul, suc-mul}
use mir.Syntax.{Ty, ty_array}
use mir.Raw.{raw as bare}
use prog.Memory.{size, align, capped}
use prog.Capped.{capped_is}
use prog.RawLaws.{size-raw, align-raw}
use Rattle.std.proofs.mem.Param.{El, elτ}
use Rattle.kh_arena.proofs.Places.{sz}

-- a product that fits a word is the same with the size that the machine knows
pub uncapped : (n s : ℕ) → n * s < 2 ^ 64 → n * capped s ≡ n * s
uncapped zero s fits = zero-mul (capped s) ∙ sym (zero-mul s)
uncapped (suc n) s fits = let more = suc-mul n s in ap (λ (k : ℕ). suc n * k) (capped_is s (omega arith))

module _ (E : El) where
  abbrev pub block_ty : ℕ → Ty
  block_ty n = bare (ty_array (elτ E) n)

  pub block_size : (n : ℕ) → n * sz E < 2 ^ 64 → capped (size (block_ty n)) ≡ n * sz E
  block_size n fits = ap capped (size-raw (ty_array (elτ E) n)) ∙ capped_is (n * sz E) fits

  pub block_align : (n : ℕ) → capped (align (block_ty n)) ≡ capped (align (elτ E))
  block_align n = ap capped (align-raw (ty_array (elτ E) n))
