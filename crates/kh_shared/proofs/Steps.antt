-- Steps of the walks: the state is opened to the count's cell and shut, a `&` is taken apart and given back, and an owner is made. Assumes `Logic`.
use Rattle.std.proofs.Common.{◌≡◌, ℕ, ◌^◌, ◌<◌, List, [], ◌∷◌, refl, sym, subst, w64, arith}
use mathlib.Core.Bool.{Bool, true, false, not}
use lib.Dec.{T as True, T_not, eqb, eqb→eq, eqb_refl}
use seplogic.Ra.Ura.{Ura}
use base.Fraction.{full_share}
use base.Share
use base.Stored.{Gv, gnil, gnum, gcons}
use base.Logic.{via, never_e, never, fst∗}
use base.Fml.{Key, ftrue, froom, Lft, Mask, Share, Fml, fhide, fat, flft, fauth, fres, fobor, ftok}
use base.Mask.{less, Key-Dec}
use mir.Syntax.{ty_int}
use mir.Val.{vint}
use mir.Raw.{raw as bare}
use prog.Model.{Model}
use types.Logic.{Logic, sem}
use types.Kit.{rewrite, Goal, Soaks, Step, step, Seq, Item, ‵, raw, ◌⊛◌, some, given, later, ◌$◌, move, drop, use1, use2, use3, split, split3, join, fsplit, fsplit3, fjoin, fjoin3, fpick, fpack, pick, learn, await}
use types.Run.{well_typed}
use types.Tokens.{shr_bor-open, obor_close}
use types.Within.{tokens_halve}
use types.Na.{na_inv_dup}
use denote.RattleType.{RattleType}
use denote.Builtin.{usize}
use denote.Memory.{part_at, hidden_shr, lone}
use denote.Opens.{Shut, unhide}
use denote.Plain.{uint_in, uint_out}
use denote.RawPtr.{block_of, count_of, Ptr, block_ptr, null_ptr, in_a_block}
use Rattle.std.specs.Box.Ownership.{box_owns}
use Rattle.std.specs.contracts.alloc.Global as heap
use Rattle.std.specs.contracts.impls.GlobalAllocator.TheImpl.{ghosts}
use Rattle.kh_shared.specs.Ownership.{Blocks, Names, alive, key, owner, counted, handle, shared_owns, shared_lends}
use Rattle.kh_shared.proofs.Owners.{S, B, I, m, K, T, inv, Shuts, opened, shut, some_owner}
use Rattle.kh_shared.proofs.Words.{Words, word, reads, read}

-- a test that failed or held tells the numbers apart
pub is_not : (n k : ℕ) → True (not (eqb n k)) → n ≡ k → ⊥
is_not n k t e = T_not (eqb n k) t (subst (λ (j : ℕ). True (eqb n j)) e (eqb_refl n))

twice_not : (y : Bool) → True (not (not y)) → True y
twice_not true t = tt
twice_not false t = absurd t

pub is_so : (n k : ℕ) → True (not (not (eqb n k))) → n ≡ k
is_so n k t = eqb→eq n k (twice_not (eqb n k) t)

abbrev pub first_of : Gv → Gv
first_of gnil = gnil
first_of (gnum n) = gnil
first_of (gcons u v) = u

abbrev pub second_of : Gv → Gv
second_of gnil = gnil
second_of (gnum n) = gnil
second_of (gcons u v) = v

abbrev pub cell : ℕ → ℕ → ℕ → Fml
cell b o n = fat full_share (ty_int w64) b o (vint w64 n)

module _ {M : Type 1} {𝓤 : Ura M} {𝓛 : Logic 𝓤} {J : Type 0} {Γ : List (Item 𝓤)} {G : Goal 𝓤 𝓛.H} where
  pub splits : J → {φ : Type 0} → Dec φ → (φ → Seq J 𝓛 Γ G) → (¬ φ → Seq J 𝓛 Γ G) → Seq J 𝓛 Γ G
  splits t (yes p) k l = k p
  splits t (no n) k l = l n

module _ {M : Type 1} {𝓤 : Ura M} {𝓛 : Logic 𝓤} (𝓜 : Model 𝓤 𝓛.H) {J : Type 0} {Γ : List (Item 𝓤)} {G : Goal 𝓤 𝓛.H} where
  -- two counts that are both there lie at two places
  pub cells_apart : J → (b o n c p k : ℕ) → ((block_ptr c p ≡ block_ptr b o → ⊥) → Seq J 𝓛 (‵ (cell b o n) ∷ ‵ (cell c p k) ∷ Γ) G) → Seq J 𝓛 (‵ (cell b o n) ∷ ‵ (cell c p k) ∷ Γ) G
  cells_apart t b o n c p k next = splits t (Key-Dec (c, p) (b, o))
      (λ e. rewrite t 1 (λ (j : Key). ‵ (cell j.0 j.1 k)) e refl $ use1 𝓛 (‵ (froom (ty_int w64) b o)) (𝓛.laws.at_room (ty_int w64) b o (vint w64 n)) $
      use2 𝓛 (given ⊥ (‵ ftrue)) (via 𝓤 (never 𝓤) (𝓜.room_at (ty_int w64) (ty_int w64) b o o o full_share (vint w64 k) (omega arith, omega arith) (omega arith, omega arith)) (never_e 𝓤 _)) $ learn t (λ none. absurd none))
      (λ two. next (λ e. two (λ i. (block_of (e i), count_of (e i)))))

module _ (R : RattleType) (bs : Blocks) (x : R.Denot) where
  -- the right to free the count's block
  abbrev pub right : ℕ → ℕ → Fml
  right b o = ghosts.dealloc_token bs.heap (bare (lone usize.mir)) (block_ptr b o)

  module _ {M : Type 1} {𝓤 : Ura M} {𝓛 : Logic 𝓤} {J : Type 0} {Γ : List (Item 𝓤)} {G : Goal 𝓤 𝓛.H} where
    -- the count, in memory, as a cell with the right to free it
    pub count_out : J → (n : ℕ) → ((b o : ℕ) → bs.count ≡ block_ptr b o → n < 2 ^ 64 → Seq J 𝓛 (‵ (cell b o n) ∷ ‵ (right b o) ∷ Γ) G) → Seq J 𝓛 (‵ (S R bs x n) ∷ Γ) G
    count_out t n k =
        in_a_block t bs.count (λ p. box_owns (ghosts.dealloc_token bs.heap) usize p n) (fst∗ 𝓤 (never 𝓤) (sem 𝓛 (ghosts.dealloc_token bs.heap (bare (lone usize.mir)) null_ptr))) (λ b o e. fsplit t $
        use1 𝓛 (‵ (cell b o n)) (uint_out 𝓛 full_share w64 n b o) $ well_typed t (λ ok. k b o e ok.1.fits))

    pub count_in : J → (n b o : ℕ) → bs.count ≡ block_ptr b o → Step J 𝓛 (‵ (S R bs x n) ∷ Γ) G (‵ (cell b o n) ∷ ‵ (right b o) ∷ Γ) G
    count_in t n b o e = step (λ s. use1 𝓛 (‵ (part_at usize full_share n b o)) (uint_in 𝓛 full_share w64 n b o) $ fjoin t $
        rewrite t 0 (λ (p : Ptr). ‵ (box_owns (ghosts.dealloc_token bs.heap) usize p n)) (sym e) refl $ s)

  module _ (a : Names) (E : Mask) {M : Type 1} {𝓤 : Ura M} {𝓛 : Logic 𝓤} {J : Type 0} {Γ : List (Item 𝓤)} {G : Goal 𝓤 𝓛.H} where
    -- [the count; the right to free it; the name's half; what stands beside the count; ν's token; the thread's other token; what shuts]
    pub opens : J → Soaks G → E (key a) ≡ true → (e : Share)
        → ((n : ℕ) (y : Bool) (b o : ℕ) → bs.count ≡ block_ptr b o → n < 2 ^ 64 → 0 < n
        → Seq J 𝓛 (‵ (cell b o n) ∷ ‵ (right b o) ∷ ‵ (fauth a.2 (m R bs x)) ∷ ‵ (B R bs x a n y) ∷ ‵ (flft (alive a) e) ∷ ‵ (ftok (less E (key a))) ∷ raw (Shuts R bs x a 𝓛 E) ∷ Γ) G)
        → Seq J 𝓛 (‵ (inv R bs x a) ∷ ‵ (ftok E) ∷ ‵ (flft (alive a) e) ∷ Γ) G
    opens t z has e k =
        use3 𝓛 (later (some (λ (u : ℕ × Bool). ‵ (counted R bs x a u) ⊛ ‵ (flft (alive a) e) ⊛ ‵ (ftok (less E (key a))) ⊛ raw (Shuts R bs x a 𝓛 E)))) (opened R bs x a 𝓛 E has e) $ await t z $ pick t (λ u.
        split3 t $ move t (2 ∷ []) $ split t $ move t (2 ∷ []) $ fsplit3 t $ move t (2 ∷ []) $
        use1 𝓛 (given (0 < u.0) (‵ (B R bs x a u.0 u.1))) (some_owner R bs x a 𝓛 u.0 u.1) $ learn t (λ some'. move t (1 ∷ []) $ count_out t u.0 (λ b o at fits.
        move t (0 ∷ 1 ∷ 3 ∷ 2 ∷ 6 ∷ 4 ∷ 5 ∷ []) $ k u.0 u.1 b o at fits some')))

    pub shuts : J → Soaks G → (n : ℕ) (y : Bool) (b o : ℕ) → bs.count ≡ block_ptr b o
        → Step J 𝓛 (‵ (ftok E) ∷ Γ) G (‵ (cell b o n) ∷ ‵ (right b o) ∷ ‵ (fauth a.2 (m R bs x)) ∷ ‵ (B R bs x a n y) ∷ ‵ (ftok (less E (key a))) ∷ raw (Shuts R bs x a 𝓛 E) ∷ Γ) G
    shuts t z n y b o e = step (λ s. count_in t n b o e $ fjoin3 t $ use3 𝓛 (later (‵ (ftok E))) (shut R bs x a 𝓛 E (n, y)) $ await t z $ s)

  module _ (a : Names) {M : Type 1} {𝓤 : Ura M} {𝓛 : Logic 𝓤} {J : Type 0} {Γ : List (Item 𝓤)} {G : Goal 𝓤 𝓛.H} where
    pub inv_twice : J → Step J 𝓛 (‵ (inv R bs x a) ∷ ‵ (inv R bs x a) ∷ Γ) G (‵ (inv R bs x a) ∷ Γ) G
    inv_twice t = step (λ s. use1 𝓛 (‵ (inv R bs x a) ⊛ ‵ (inv R bs x a)) (na_inv_dup 𝓛 (key a) (I R bs x a)) $ split t $ s)

    -- what an owner knows tells the mark
    pub known : J → (y : Bool) → Step J 𝓛 (‵ (fres a.2 (m R bs x)) ∷ Γ) G (‵ (K R bs x a y) ∷ Γ) G
    known t true = step (λ s. s)
    known t false = step (λ s. fsplit t $ move t (1 ∷ []) $ drop t $ s)

    pub owner_made : J → (y : Bool) → Step J 𝓛 (‵ (shared_owns R bs x) ∷ Γ) G (‵ (owner a y) ∷ ‵ (fres a.2 (m R bs x)) ∷ ‵ (inv R bs x a) ∷ ‵ (T R bs x (alive a)) ∷ Γ) G
    owner_made t y = step (λ s. move t (1 ∷ 2 ∷ 3 ∷ []) $ fjoin3 t $ move t (1 ∷ 0 ∷ []) $ fjoin t $ fpack t (Names × Bool) (handle R bs x) (a, y) $ s)

  -- ---- behind a `&` for κ, which lies at b and o
  module _ (κ : Lft) (q : Share) (b o : ℕ) where
    abbrev h : (heap.the_field).row.Denot
    h = (heap.the_field).into bs.heap

    -- the way back of what is open
    abbrev pub Back : {M : Type 1} {𝓤 : Ura M} (𝓛 : Logic 𝓤) → Names → Share → Share → Item 𝓤
    Back 𝓛 a s q' = ‵ (fobor κ (Share.left q) (flft (alive a) s)) ⊛ Shut 𝓛 κ (Share.right q) (part_at (Words R) q' (bs.count, (bs.at, (h, tt))) b o)

    module _ {M : Type 1} {𝓤 : Ura M} {𝓛 : Logic 𝓤} {J : Type 0} {Γ : List (Item 𝓤)} {G : Goal 𝓤 𝓛.H} where
      -- [the word; the way back; ν's token; the state; what the owner knows; the value's `&`]
      pub lent_out : J → Soaks G
          → ((a : Names) (y : Bool) (s q' : Share) → Seq J 𝓛 (‵ (fat q' (lone (Words R).mir) b o (word bs.count bs.at)) ∷ Back 𝓛 a s q' ∷ ‵ (flft (alive a) s) ∷ ‵ (inv R bs x a) ∷ ‵ (K R bs x a y) ∷ ‵ (T R bs x (alive a)) ∷ Γ) G)
          → Seq J 𝓛 (‵ (hidden_shr (Words R) κ (bs.count, (bs.at, (h, tt))) b o) ∷ ‵ (fhide (shared_lends R bs x κ)) ∷ ‵ (flft κ q) ∷ Γ) G
      lent_out t z k =
          move t (2 ∷ []) $ use1 𝓛 (‵ (flft κ (Share.left q)) ⊛ ‵ (flft κ (Share.right q))) (𝓛.lfts.lft_split κ q) $ split t $ move t (2 ∷ 1 ∷ []) $ reads R t z bs.count bs.at bs.heap b o (λ q'.
          -- [the word; its way back; the left token; what is lent]
          move t (3 ∷ []) $ unhide t $ fpick t (λ u. fsplit t $ move t (1 ∷ []) $ fsplit3 t $ move t (3 ∷ 6 ∷ []) $ shr_bor-open t z (tokens_halve 𝓛 (alive u.0)) (λ s.
          -- [the open token; ν's token; what the owner knows; the state; the value's `&`; the word; its way back]
          move t (0 ∷ 6 ∷ []) $ join t $ move t (5 ∷ 0 ∷ 1 ∷ 3 ∷ 2 ∷ 4 ∷ []) $ k u.0 u.1 s q')))

      pub lent_back : J → Soaks G → (a : Names) (s q' : Share) → Step J 𝓛 (‵ (flft κ q) ∷ Γ) G (‵ (fat q' (lone (Words R).mir) b o (word bs.count bs.at)) ∷ Back 𝓛 a s q' ∷ ‵ (flft (alive a) s) ∷ Γ) G
      lent_back t z a s q' = step (λ next.
          move t (1 ∷ []) $ split t $ move t (0 ∷ 3 ∷ []) $ obor_close t z $ drop t $ move t (2 ∷ 1 ∷ []) $ read R t z bs.count bs.at bs.heap b o q' $ move t (1 ∷ 0 ∷ []) $ use2 𝓛 (‵ (flft κ q)) (𝓛.lfts.lft_join κ q) $ next)
