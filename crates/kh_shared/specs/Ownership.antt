-- What a shared pointer owns and lends, at any type R of the value x.
--     The owners share one lifetime, ν, for which the value is lent. An owner that is counted holds one part in 2 ^ 64 of ν's token. One that came once the count was full holds any share of it.
--     A second lifetime, σ, lasts until the count is full. A name, γ, keeps the count's place and the mark for good.
use Rattle.std.specs.Prelude.{◌≡◌, ℕ, ◌-◌, ◌^◌, ◌<◌, Bool, true, false, [], ◌∷◌}
use Rattle.std.specs.Borrow.{full_share, usize}
use Rattle.std.specs.Box.Ownership.{box_owns}
use Rattle.std.specs.declared.alloc.Global.{Global}
use Rattle.std.specs.contracts.impls.GlobalAllocator.TheImpl.{ghosts}
use base.Stored.{Gv, gcons}
use base.Fml.{Lft, Key, Share, Fml, ftrue, fsep, fex, flft, fdead, flent, fauth, fres}
use denote.RattleType.{RattleType}
use denote.RawPtr.{Ptr, coded_ptr}
use denote.Hidden.{kept}
use denote.Sharing.{said, one, beside, some, held}
use denote.Struct.Lending.{lent_at}
use types.Na.{na_inv}
use types.RcWeak.{part, rest}

-- where the count and the value lie, each in a block of its own, the allocator that gave both, and the mark that was given to the first owner
pub record Blocks : Type 0 where
  pub heap : Global
  pub count : Ptr
  pub at : Ptr
  pub mark : Gv

abbrev pub blocks : Global → Ptr → Ptr → Gv → Blocks
blocks h c p k = record { heap = h; count = c; at = p; mark = k }

-- ν, σ and γ
abbrev pub Names : Type 0
Names = ℕ × ℕ × ℕ

abbrev pub alive : Names → Lft
alive a = a.0 ∷ []

abbrev pub counting : Names → Lft
counting a = a.1 ∷ []

-- two pointers with the same key have one count
abbrev pub key : Names → Key
key a = (a.0, a.2)

-- the count of a pointer whose owners are counted no more
abbrev pub full : ℕ
full = 2 ^ 64 - 1

-- what an owner has of ν: whether it is counted
abbrev pub owner : Names → Bool → Fml
owner a true = part 64 a.0
owner a false = fsep (fex Share (λ q. flft (alive a) q)) (fdead (counting a))

module _ (R : RattleType) (s : Blocks) (x : R.Denot) where
  -- the count n with the right to free it, and the value with its own
  abbrev pub count_owns : ℕ → Fml
  count_owns n = box_owns (ghosts.dealloc_token s.heap) usize s.count n

  abbrev pub value_owns : Fml
  value_owns = box_owns (ghosts.dealloc_token s.heap) R s.at x

  -- what γ keeps
  abbrev pub kept_mark : Gv
  kept_mark = gcons (coded_ptr.code s.count) s.mark

  -- beside a count of n: the parts of ν that no owner has, and the right to have the value back, or a share of ν for more owners
  abbrev pub beside_count : Names → ℕ → Bool → Fml
  beside_count a n true = fsep (fex (n < full) (λ _. rest 64 a.0 n)) (fsep (flent (alive a) value_owns) (flft (counting a) full_share))
  beside_count a n false = fsep (fex (n ≡ full) (λ _. ftrue)) (owner a false)

  abbrev pub counted : Names → ℕ × Bool → Fml
  counted a t = fsep (count_owns t.0) (fsep (fauth a.2 kept_mark) (beside_count a t.0 t.1))

  -- there are owners, or the last one has gone
  abbrev pub state : Names → Bool → Fml
  state a true = fex (ℕ × Bool) (counted a)
  state a false = fdead (alive a)

  abbrev pub shared_state : Names → Fml
  shared_state a = fex Bool (state a)

  -- what an owner knows for good
  abbrev pub knows : Names → Bool → Fml
  knows a true = fres a.2 kept_mark
  knows a false = fsep (fres a.2 kept_mark) (fdead (counting a))

  abbrev pub handle : Names × Bool → Fml
  handle t = fsep (owner t.0 t.1) (fsep (fres t.0.2 kept_mark) (fsep (na_inv (key t.0) (shared_state t.0)) (lent_at R s.at x (alive t.0))))

  -- what a shared pointer owns
  abbrev pub shared_owns : Fml
  shared_owns = fex (Names × Bool) handle

  abbrev pub lends : Names × Bool → Lft → Fml
  lends t = beside (one (λ q. flft (alive t.0) q)) (beside (said (knows t.0 t.1)) (beside (kept (key t.0) (shared_state t.0)) (held (alive t.0) (lent_at R s.at x))))

  -- what a `&` to one holds
  abbrev pub shared_lends : Lft → Fml
  shared_lends = some (Names × Bool) lends
