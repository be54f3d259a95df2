-- The ghost steps of a shared pointer: it is made and lent, its state is opened and shut, an owner comes, and an owner goes. Assumes `Logic`.
use Rattle.std.proofs.Common.{◌≡◌, ℕ, zero, suc, ◌+◌, ◌-◌, ◌^◌, ◌<◌, [], ◌∷◌, refl, subst, lit<, arith}
use mathlib.Core.Bool.{Bool, true, false}
use seplogic.Ra.Ura.{Ura}
use base.Fraction.{full_share}
use base.FractionLaws.{Counts, Counts-all, Counts-op, counts_some}
use base.Share
use base.Logic.{SProp, ent, sep, wand, ex, guard, never, never_e, via, snd∗, apply∗, id⊢, upd_i}
use base.Stored.{Gv}
use base.Mask.{less, just, take}
use base.Before.{before}
use base.Fml.{Lft, Mask, Share, Fml, Incl-trans, ftrue, fsep, fseps, fwand, fupd, fdead, flft, fbor, fres, ftok}
use contract.BorrowLft.{◌⊑◌, meet_⊑_left, meet_⊑_right}
use ghost.Rules.{span, thinned}
use mir.Raw.{raw as bare}
use types.Logic.{Logic, sem, lfts}
use native.Mathlib.Decide.{ℕ_discrete}
use types.Kit.{drop, rewrite, ‵, raw, ◌⊛◌, some as exists, given, later, ◌$◌, ◌∵◌, !, qed, by, move, keep, use1, use2, use3, split, split3, join, fsplit, fsplit3, fjoin, fjoin3, fpick, fpack, pick, learn, check, show, assume, frame, suffices, await, updating, now, done}
use types.Tokens.{lft_new, lft_end, name_new, res_dup, bor_new, lent_back, bor_open, obor_alter, bor_fracture, one_token}
use types.Na.{na_inv, na_inv_new, na_inv_dup, na_inv_acc}
use types.RcWeak.{part, rest, part_in, rest_some, takes, gives, whole, cut}
use denote.RattleType.{RattleType, RowLaws}
use denote.Memory.{lone}
use denote.RawPtr.{lies_at}
use denote.Param.Laws.{Laws}
use denote.Hidden.{kept, kept_shr_laws}
use denote.Sharing.{ShrLaws, said, one, beside, held}
use denote.SharingLaws.{contraction, some_shr_laws, beside_shr_laws, one_shr_laws, held_shr_laws}
use denote.Moves.{moves_from}
use denote.Struct.Lending.{lent_at, lent_at_shr_laws, Lends, Lends-lies, Lends-first}
use denote.Steps.{nothing}
use Rattle.std.specs.contracts.impls.GlobalAllocator.TheImpl.{ghosts}
use Rattle.kh_shared.specs.Ownership.{Blocks, Names, alive, counting, key, full, owner, count_owns, value_owns, kept_mark, beside_count, counted, state, shared_state, knows, handle, shared_owns, lends, shared_lends}

-- what a share of ν's token is to be, for the owner to have it
abbrev pub Token : Bool → Share → Type 0
Token true e = Counts 64 e 1
Token false e = Unit {0}

module _ (R : RattleType) (bs : Blocks) (x : R.Denot) where
  abbrev pub S : ℕ → Fml
  S = count_owns R bs x

  abbrev pub V : Fml
  V = value_owns R bs x

  abbrev pub B : Names → ℕ → Bool → Fml
  B = beside_count R bs x

  abbrev pub I : Names → Fml
  I = shared_state R bs x

  abbrev pub m : Gv
  m = kept_mark R bs x

  abbrev pub K : Names → Bool → Fml
  K = knows R bs x

  abbrev pub T : Lft → Fml
  T = lent_at R bs.at x

  abbrev pub inv : Names → Fml
  inv a = na_inv (key a) (I a)

  module _ {M : Type 1} {𝓤 : Ura M} (𝓛 : Logic 𝓤) where
    open 𝓛 use {H, A}

    abbrev Pr : Type 2
    Pr = SProp 𝓤

    abbrev ◌⊢◌ : Pr → Pr → Type 1
    P ⊢ Q = ent 𝓤 P Q

    abbrev ◌∗◌ : Pr → Pr → Pr
    P ∗ Q = sep 𝓤 P Q

    abbrev ⟦◌⟧ : Fml → Pr
    ⟦ P ⟧ = sem 𝓛 P

    infix 26 ◌⊢◌
    infixr 35 ◌∗◌
    -- ---- what an owner knows can be had twice
    pub knows_dup : (a : Names) (y : Bool) → ⟦ K a y ⟧ ⊢ ⟦ K a y ⟧ ∗ ⟦ K a y ⟧
    knows_dup a true = 𝓛.names.res_dup a.2 m
    knows_dup a false = qed 𝓛 (‵ (K a false) ∷ []) ∵ fsplit ! $ res_dup ! $ move ! (2 ∷ []) $
        use1 𝓛 (‵ (fdead (counting a)) ⊛ ‵ (fdead (counting a))) (𝓛.lfts.dead_dup (counting a)) $ split ! $ move ! (2 ∷ 0 ∷ []) $ fjoin ! $ frame ! $ move ! (1 ∷ 0 ∷ []) $ fjoin ! $ done !

    pub token_out : (a : Names) (y : Bool) → ⟦ owner a y ⟧ ∗ ⟦ fres a.2 m ⟧ ⊢ ex 𝓤 (λ (e : Share). guard 𝓤 (Token y e) (A.lft (alive a) e ∗ ⟦ K a y ⟧))
    token_out a true = qed 𝓛 (‵ (part 64 a.0) ∷ ‵ (fres a.2 m) ∷ []) ∵ fpick ! (λ e. fpick ! (λ n.
        show ! (λ (s : Share). guard 𝓤 (Token true s) (A.lft (alive a) s ∗ ⟦ K a true ⟧)) e $ check ! n $ done !))
    token_out a false = qed 𝓛 (‵ (owner a false) ∷ ‵ (fres a.2 m) ∷ []) ∵ fsplit ! $ fpick ! (λ e.
        show ! (λ (s : Share). guard 𝓤 (Token false s) (A.lft (alive a) s ∗ ⟦ K a false ⟧)) e $ check ! tt $ frame ! $ move ! (1 ∷ 0 ∷ []) $ fjoin ! $ done !)

    pub token_in : (a : Names) (y : Bool) (e : Share) → Token y e → A.lft (alive a) e ∗ ⟦ K a y ⟧ ⊢ ⟦ owner a y ⟧ ∗ ⟦ fres a.2 m ⟧
    token_in a true e n = qed 𝓛 (‵ (flft (alive a) e) ∷ ‵ (K a true) ∷ []) ∵ use1 𝓛 (‵ (part 64 a.0)) (part_in 64 𝓛 a.0 e n) $ done !
    token_in a false e n = qed 𝓛 (‵ (flft (alive a) e) ∷ ‵ (K a false) ∷ []) ∵ fpack ! Share (λ s. flft (alive a) s) e $ move ! (1 ∷ []) $ fsplit ! $ move ! (2 ∷ 1 ∷ []) $ fjoin ! $ done !

module _ (R : RattleType) (bs : Blocks) (x : R.Denot) where
  -- ---- a `&` to a shared pointer
  knows_shr_laws : (a : Names) (y : Bool) → ShrLaws (said (K R bs x a y))
  knows_shr_laws a y = record {
    contraction = λ M 𝓤 𝓛 κ. knows_dup R bs x 𝓛 a y;
    mono = λ M 𝓤 𝓛 κ' κ. snd∗ 𝓤 (sem 𝓛 (before κ' κ)) (sem 𝓛 (K R bs x a y));
  }

  pub lends_shr_laws : RowLaws R → ShrLaws (shared_lends R bs x)
  lends_shr_laws L = some_shr_laws (Names × Bool) (lends R bs x) (λ t.
      let a = t.0 in let token = one (λ q. flft (alive a) q) in let knowing = said (K R bs x a t.1) in let state = kept (key a) (I R bs x a) in let value = held (alive a) (T R bs x) in
      beside_shr_laws token (beside knowing (beside state value)) (one_shr_laws (λ q. flft (alive a) q))
      (beside_shr_laws knowing (beside state value) (knows_shr_laws a t.1)
      (beside_shr_laws state value (kept_shr_laws (key a) (I R bs x a)) (held_shr_laws (alive a) (T R bs x) (lent_at_shr_laws R L bs.at x)))))

  module _ {M : Type 1} {𝓤 : Ura M} (𝓛 : Logic 𝓤) (L : RowLaws R) where
    open 𝓛 use {H, A}

    abbrev Owns : Fml
    Owns = shared_owns R bs x

    abbrev Lent : Lft → Fml
    Lent = shared_lends R bs x

    abbrev Had : Names × Bool → Fml
    Had = handle R bs x

    -- a token and what can be had twice make an owner again
    again : (a : Names) (y : Bool) (e : Share) → Token y e → (κ : Lft)
        → ent 𝓤 (sep 𝓤 (sem 𝓛 (K R bs x a y)) (sep 𝓤 (sem 𝓛 (inv R bs x a)) (sem 𝓛 (T R bs x (alive a))))) (sem 𝓛 (fwand (fsep (fdead κ) (fseps (flft (alive a) e ∷ []))) (fupd Owns)))
    unfolding fseps
    again a y e n κ = qed 𝓛 (‵ (K R bs x a y) ∷ ‵ (inv R bs x a) ∷ ‵ (T R bs x (alive a)) ∷ []) ∵ assume ! (‵ (fsep (fdead κ) (fsep (flft (alive a) e) ftrue))) $ suffices ! (sem 𝓛 Owns) (upd_i 𝓤 (sem 𝓛 Owns)) $
        fsplit3 ! $ move ! (1 ∷ 3 ∷ []) $ use2 𝓛 (‵ (owner a y) ⊛ ‵ (fres a.2 (m R bs x))) (token_in R bs x 𝓛 a y e n) $ split ! $ keep ! (1 ∷ 4 ∷ 5 ∷ 0 ∷ []) $
        fjoin3 ! $ move ! (1 ∷ 0 ∷ []) $ fjoin ! $ fpack ! (Names × Bool) Had (a, y) $ done !

    by_token : (κ : Lft) (q : Share) → ent 𝓤 (sep 𝓤 (A.bor κ Owns) (A.lft κ q)) (H.⇛ (sep 𝓤 (sem 𝓛 (Lent κ)) (A.lft κ q)))
    unfolding fseps
    by_token κ q = qed 𝓛 (‵ (fbor κ Owns) ∷ ‵ (flft κ q) ∷ []) ∵ updating ! $ bor_open ! tt $ move ! (1 ∷ []) $ fpick ! (λ t. let a = t.0 in let y = t.1 in
        fsplit ! $ move ! (1 ∷ []) $ fsplit3 ! $ move ! (3 ∷ 0 ∷ []) $
        use2 𝓛 (exists (λ (e : Share). given (Token y e) (‵ (flft (alive a) e) ⊛ ‵ (K R bs x a y)))) (token_out R bs x 𝓛 a y) $ pick ! (λ e. learn ! (λ n. split ! $
        -- [the token; what the owner knows; the state; the value's `&`; the open borrow]
        move ! (1 ∷ []) $ use1 𝓛 (‵ (K R bs x a y) ⊛ ‵ (K R bs x a y)) (knows_dup R bs x 𝓛 a y) $ split ! $
        move ! (3 ∷ []) $ use1 𝓛 (‵ (inv R bs x a) ⊛ ‵ (inv R bs x a)) (na_inv_dup 𝓛 (key a) (I R bs x a)) $ split ! $
        move ! (5 ∷ []) $ use1 𝓛 (‵ (T R bs x (alive a)) ⊛ ‵ (T R bs x (alive a))) (contraction 𝓛 (T R bs x) (lent_at_shr_laws R L bs.at x) (alive a)) $ split ! $
        move ! (4 ∷ 2 ∷ 0 ∷ []) $ use3 𝓛 (‵ (fwand (fsep (fdead κ) (fseps (flft (alive a) e ∷ []))) (fupd Owns))) (again a y e n κ) $
        -- [the way back; the value's `&`; the state; what the owner knows; the token; the open borrow]
        nothing ! $ move ! (5 ∷ 0 ∷ []) $ fjoin ! $ move ! (5 ∷ 0 ∷ 1 ∷ []) $ obor_alter ! tt (flft (alive a) e ∷ []) $
        use1 𝓛 (‵ (fbor κ (flft (alive a) e)) ⊛ ‵ ftrue) (id⊢ 𝓤 _) $ split ! $ bor_fracture ! tt (λ r. flft (alive a) r) e $
        -- [the lent token; nothing; κ's token; the value's `&`; the state; what the owner knows]
        move ! (4 ∷ 3 ∷ []) $ fjoin ! $ move ! (4 ∷ 0 ∷ []) $ fjoin ! $ move ! (1 ∷ 0 ∷ []) $ fjoin ! $ fpack ! (Names × Bool) (λ b. lends R bs x b κ) t $ now ! $ keep ! (0 ∷ 2 ∷ []) $ done !)))

    pub Lends-shared : (l : Lft) → Lends 𝓛 Owns Lent l
    Lends-shared l κ ts inc sp = qed 𝓛 (‵ (fbor κ Owns) ∷ raw (lfts 𝓛 ts) ∷ []) ∵ updating ! $ move ! (1 ∷ []) $
        use1 𝓛 (exists (λ (q : Share). ‵ (flft (span ts) q) ⊛ raw (wand 𝓤 (A.lft (span ts) q) (lfts 𝓛 ts)))) (one_token 𝓛 ts) $ pick ! (λ q. split ! $
        use1 𝓛 (‵ (flft κ (thinned κ q)) ⊛ raw (wand 𝓤 (A.lft κ (thinned κ q)) (A.lft (span ts) q))) (𝓛.lfts.lft-incl (span ts) κ q sp) $ split ! $ move ! (3 ∷ 0 ∷ []) $
        use2 𝓛 (later (‵ (Lent κ) ⊛ ‵ (flft κ (thinned κ q)))) (by_token κ (thinned κ q)) $ await ! tt $ split ! $ move ! (1 ∷ 2 ∷ []) $
        use2 𝓛 (‵ (flft (span ts) q)) (apply∗ 𝓤 (A.lft κ (thinned κ q)) (A.lft (span ts) q)) $ move ! (0 ∷ 2 ∷ []) $ use2 𝓛 (raw (lfts 𝓛 ts)) (apply∗ 𝓤 (A.lft (span ts) q) (lfts 𝓛 ts)) $
        now ! $ move ! (1 ∷ 0 ∷ []) $ done !)

    -- a `&` for κ shows the value for κ
    pub sees : (κ : Lft) → ent 𝓤 (sem 𝓛 (Lent κ)) (sem 𝓛 (T R bs x κ))
    sees κ = qed 𝓛 (‵ (Lent κ) ∷ []) ∵ fpick ! (λ t. fsplit3 ! $ move ! (2 ∷ []) $ fsplit ! $ keep ! (2 ∷ 1 ∷ []) $
        by ! (moves_from 𝓛 (T R bs x) (lent_at_shr_laws R L bs.at x) κ (alive t.0) (alive t.0) (meet_⊑_left (alive t.0) κ)))

-- ---- the first owner
module _ (R : RattleType) (L : Laws R) (bs : Blocks) (x : R.Denot) {M : Type 1} {𝓤 : Ura M} (𝓛 : Logic 𝓤) where
  open 𝓛 use {H, A}

  -- of n owners the last has its part, and the parts of the others are let go
  parts : (ν n : ℕ) → 0 < n → n < full → ent 𝓤 (A.lft (ν ∷ []) full_share) (sep 𝓤 (sem 𝓛 (rest 64 ν n)) (sem 𝓛 (part 64 ν)))
  parts ν zero some' room = absurd (omega (arith, some'))
  parts ν (suc zero) some' room = cut 64 𝓛 ν 0 full_share (lit< tt) (subst (Counts 64 full_share) (omega arith) (Counts-all 64))
  parts ν (suc (suc k)) some' room =
      let gone = counts_some 64 (suc k) (omega arith) (omega (arith, room)) in let left = counts_some 64 (2 ^ 64 - suc k) (omega (arith, room)) (omega arith) in
      qed 𝓛 (‵ (flft (ν ∷ []) full_share) ∷ []) ∵
      use1 𝓛 (‵ (flft (ν ∷ []) gone.0) ⊛ ‵ (flft (ν ∷ []) left.0)) (𝓛.lfts.lft_cut (ν ∷ []) full_share gone.0 left.0
      (Counts-op 64 gone.0 left.0 full_share (suc k) (2 ^ 64 - suc k) (2 ^ 64) gone.1 left.1 (Counts-all 64) (omega (arith, room)))) $ split ! $ drop ! $
      by ! (subst (λ (j : ℕ). ent 𝓤 (A.lft (ν ∷ []) left.0) (sep 𝓤 (sem 𝓛 (rest 64 ν j)) (sem 𝓛 (part 64 ν)))) (omega arith) (cut 64 𝓛 ν (suc k) left.0 (omega (arith, room)) left.1))

  pub made : (n : ℕ) → 0 < n → n < full → (μ : Lft) (q : Share) → μ ⊑ R.lives
      → ent 𝓤 (sep 𝓤 (sem 𝓛 (S R bs x n)) (sep 𝓤 (sem 𝓛 (V R bs x)) (A.lft μ q))) (H.⇛ (sep 𝓤 (sem 𝓛 (shared_owns R bs x)) (A.lft μ q)))
  made n some' room μ q within = qed 𝓛 (‵ (S R bs x n) ∷ ‵ (V R bs x) ∷ ‵ (flft μ q) ∷ []) ∵ updating ! $
      name_new ! tt (m R bs x) (λ γ. use1 𝓛 (‵ (fres γ (m R bs x))) (𝓛.names.obs-res γ (m R bs x)) $ lft_new ! tt (λ σ. lft_new ! tt (λ ν. let a : Names = (ν, σ, γ) in
      use1 𝓛 (‵ (rest 64 ν n) ⊛ ‵ (part 64 ν)) (parts ν n some' room) $ split ! $
      -- [ν's rest; a part of it; σ; what is known; the name's other half; the count; the value; μ]
      move ! (6 ∷ []) $ bor_new ! tt (alive a) $
      -- [the borrow; the right to have the value back; ν's rest; a part of it; σ; what is known; the name's other half; the count; μ]
      move ! (1 ∷ 4 ∷ []) $ fjoin ! $ move ! (2 ∷ []) $ fpack ! (n < full) (λ _. rest 64 ν n) room $ fjoin ! $ move ! (4 ∷ 0 ∷ []) $ fjoin ! $ move ! (4 ∷ 0 ∷ []) $ fjoin ! $
      fpack ! (ℕ × Bool) (counted R bs x a) (n, true) $ fpack ! Bool (state R bs x a) true $ use1 𝓛 (later (‵ (inv R bs x a))) (na_inv_new 𝓛 (key a) (I R bs x a)) $ await ! tt $
      -- [the state; the borrow; a part of ν; what is known; μ]
      move ! (2 ∷ []) $ fpick ! (λ e. fpick ! (λ one. move ! (0 ∷ 4 ∷ []) $ join ! $ move ! (2 ∷ 0 ∷ []) $
      use2 𝓛 (later (‵ (T R bs x (alive a)) ⊛ ‵ (flft (alive a) e) ⊛ ‵ (flft μ q)))
      (Lends-first 𝓛 (lies_at R full_share bs.at x) (ghosts.dealloc_token bs.heap (bare (lone R.mir)) bs.at) (T R bs x) R.lives (Lends-lies 𝓛 R R.lives bs.at x (L.shares 𝓛 x))
      (alive a) ((alive a, e) ∷ (μ, q) ∷ []) (Incl-trans (meet_⊑_right (alive a) μ) within) (meet_⊑_left (alive a) μ)) $ await ! tt $ split3 ! $
      -- [the value's `&`; ν's token; μ; the state; what is known]
      move ! (1 ∷ []) $ use1 𝓛 (‵ (part 64 ν)) (part_in 64 𝓛 ν e one) $ move ! (3 ∷ 1 ∷ []) $ fjoin ! $ move ! (3 ∷ 0 ∷ []) $ fjoin ! $ move ! (1 ∷ 0 ∷ []) $ fjoin ! $
      fpack ! (Names × Bool) (handle R bs x) (a, true) $ now ! $ done !)))))

-- ---- the state is opened and shut
module _ (R : RattleType) (bs : Blocks) (x : R.Denot) (a : Names) {M : Type 1} {𝓤 : Ura M} (𝓛 : Logic 𝓤) where
  open 𝓛 use {H, A}

  module _ (E : Mask) where
    -- what shuts it
    abbrev pub Shuts : SProp 𝓤
    Shuts = wand 𝓤 (sep 𝓤 (sem 𝓛 (I R bs x a)) (A.tok (less E (key a)))) (H.⇛ (A.tok E))

    opens : E (key a) ≡ true → ent 𝓤 (sep 𝓤 (sem 𝓛 (inv R bs x a)) (A.tok E)) (H.⇛ (sep 𝓤 (sem 𝓛 (I R bs x a)) (sep 𝓤 (A.tok (less E (key a))) Shuts)))
    opens has = let k = key a in
        qed 𝓛 (‵ (inv R bs x a) ∷ ‵ (ftok E) ∷ []) ∵ updating ! $ move ! (1 ∷ []) $
        use1 𝓛 (‵ (ftok (just k)) ⊛ ‵ (ftok (less E k))) (𝓛.invs.tok_cut E (just k) (less E k) (take E k has)) $ split ! $ move ! (2 ∷ 0 ∷ []) $
        use2 𝓛 (later (‵ (I R bs x a) ⊛ raw (wand 𝓤 (sem 𝓛 (I R bs x a)) (H.⇛ (A.tok (just k)))))) (na_inv_acc 𝓛 k (I R bs x a)) $ await ! tt $ split ! $ now ! $ frame ! $ move ! (1 ∷ []) $ frame ! $
        assume ! (‵ (I R bs x a) ⊛ ‵ (ftok (less E k))) $ updating ! $ split ! $ move ! (0 ∷ 2 ∷ []) $
        use2 𝓛 (later (‵ (ftok (just k)))) (apply∗ 𝓤 (sem 𝓛 (I R bs x a)) (H.⇛ (A.tok (just k)))) $ await ! tt $ now ! $ by ! (𝓛.invs.tok_glue E (just k) (less E k) (take E k has))

    abbrev pub Opened : Share → ℕ × Bool → SProp 𝓤
    Opened e t = sep 𝓤 (sem 𝓛 (counted R bs x a t)) (sep 𝓤 (A.lft (alive a) e) (sep 𝓤 (A.tok (less E (key a))) Shuts))

    there : (e : Share) (y : Bool) → ent 𝓤 (sep 𝓤 (sem 𝓛 (state R bs x a y)) (sep 𝓤 (A.lft (alive a) e) (sep 𝓤 (A.tok (less E (key a))) Shuts))) (ex 𝓤 (Opened e))
    there e true = qed 𝓛 (‵ (state R bs x a true) ∷ ‵ (flft (alive a) e) ∷ ‵ (ftok (less E (key a))) ∷ raw Shuts ∷ []) ∵ fpick ! (λ t. show ! (Opened e) t $ done !)
    there e false = qed 𝓛 (‵ (fdead (alive a)) ∷ ‵ (flft (alive a) e) ∷ ‵ (ftok (less E (key a))) ∷ raw Shuts ∷ []) ∵ keep ! (1 ∷ 0 ∷ []) $
        by ! (via 𝓤 (never 𝓤) (𝓛.lfts.lft-dead (alive a) e) (never_e 𝓤 (ex 𝓤 (Opened e))))

    -- whoever has a token of ν finds owners
    pub opened : E (key a) ≡ true → (e : Share) → ent 𝓤 (sep 𝓤 (sem 𝓛 (inv R bs x a)) (sep 𝓤 (A.tok E) (A.lft (alive a) e))) (H.⇛ (ex 𝓤 (Opened e)))
    opened has e = qed 𝓛 (‵ (inv R bs x a) ∷ ‵ (ftok E) ∷ ‵ (flft (alive a) e) ∷ []) ∵ updating ! $
        use2 𝓛 (later (‵ (I R bs x a) ⊛ ‵ (ftok (less E (key a))) ⊛ raw Shuts)) (opens has) $ await ! tt $ split3 ! $ now ! $ fpick ! (λ y. move ! (0 ∷ 3 ∷ []) $ by ! (there e y))

    pub shut : (t : ℕ × Bool) → ent 𝓤 (sep 𝓤 (sem 𝓛 (counted R bs x a t)) (sep 𝓤 (A.tok (less E (key a))) Shuts)) (H.⇛ (A.tok E))
    shut t = qed 𝓛 (‵ (counted R bs x a t) ∷ ‵ (ftok (less E (key a))) ∷ raw Shuts ∷ []) ∵ fpack ! (ℕ × Bool) (counted R bs x a) t $ fpack ! Bool (state R bs x a) true $ join ! $
        by ! (apply∗ 𝓤 (sep 𝓤 (sem 𝓛 (I R bs x a)) (A.tok (less E (key a)))) (H.⇛ (A.tok E)))

    pub shut_gone : ent 𝓤 (sep 𝓤 (A.dead (alive a)) (sep 𝓤 (A.tok (less E (key a))) Shuts)) (H.⇛ (A.tok E))
    shut_gone = qed 𝓛 (‵ (fdead (alive a)) ∷ ‵ (ftok (less E (key a))) ∷ raw Shuts ∷ []) ∵ fpack ! Bool (state R bs x a) false $ join ! $
        by ! (apply∗ 𝓤 (sep 𝓤 (sem 𝓛 (I R bs x a)) (A.tok (less E (key a)))) (H.⇛ (A.tok E)))

  -- ---- an owner comes, and an owner goes
  abbrev Beside : ℕ → Bool → Fml
  Beside = B R bs x a

  pub some_owner : (n : ℕ) (y : Bool) → ent 𝓤 (sem 𝓛 (Beside n y)) (guard 𝓤 (0 < n) (sem 𝓛 (Beside n y)))
  some_owner n true = qed 𝓛 (‵ (Beside n true) ∷ []) ∵ fsplit ! $ fpick ! (λ l. use1 𝓛 (given (0 < n) (‵ (rest 64 a.0 n))) (rest_some 64 𝓛 a.0 n) $ learn ! (λ some'. check ! some' $ fpack ! (n < full) (λ _. rest 64 a.0 n) l $ done !))
  some_owner n false = qed 𝓛 (‵ (Beside n false) ∷ []) ∵ fsplit ! $ fpick ! (λ e. check ! (omega (arith, e)) $ fpack ! (n ≡ full) (λ _. ftrue) e $ done !)

  -- at a full count the new owner is not counted
  pub beyond : (n : ℕ) (y : Bool) → n ≡ full → ent 𝓤 (sem 𝓛 (Beside n y)) (sep 𝓤 (sem 𝓛 (Beside n y)) (sem 𝓛 (owner a false)))
  beyond n true e = qed 𝓛 (‵ (Beside n true) ∷ []) ∵ fsplit ! $ fpick ! (λ l. absurd (omega (arith, e, l)))
  beyond n false e = qed 𝓛 (‵ (Beside n false) ∷ []) ∵ fsplit ! $ move ! (1 ∷ []) $ fsplit ! $ fpick ! (λ q.
      use1 𝓛 (‵ (flft (alive a) (Share.left q)) ⊛ ‵ (flft (alive a) (Share.right q))) (𝓛.lfts.lft_split (alive a) q) $ split ! $ move ! (2 ∷ []) $
      use1 𝓛 (‵ (fdead (counting a)) ⊛ ‵ (fdead (counting a))) (𝓛.lfts.dead_dup (counting a)) $ split ! $
      move ! (2 ∷ []) $ fpack ! Share (λ s. flft (alive a) s) (Share.left q) $ move ! (0 ∷ 1 ∷ []) $ fjoin ! $ move ! (3 ∷ 0 ∷ []) $ fjoin ! $ frame ! $ move ! (1 ∷ []) $
      fpack ! Share (λ s. flft (alive a) s) (Share.right q) $ fjoin ! $ done !)

  abbrev pub More : ℕ → Bool → SProp 𝓤
  More n y = sep 𝓤 (sem 𝓛 (Beside (n + 1) y)) (sem 𝓛 (owner a true))

  one_more_counted : (n : ℕ) → n < full → Dec (n + 1 ≡ full) → ent 𝓤 (sem 𝓛 (Beside n true)) (H.⇛ (ex 𝓤 (More n)))
  one_more_counted n l (no room) = qed 𝓛 (‵ (Beside n true) ∷ []) ∵ updating ! $ fsplit ! $ fpick ! (λ _. use1 𝓛 (‵ (rest 64 a.0 (n + 1)) ⊛ ‵ (part 64 a.0)) (takes 64 𝓛 a.0 n (omega (arith, l))) $ split ! $ now ! $
      show ! (More n) true $ fpack ! (n + 1 < full) (λ _. rest 64 a.0 (n + 1)) (omega (arith, l, room)) $ move ! (0 ∷ 2 ∷ []) $ fjoin ! $ done !)
  one_more_counted n l (yes fills) = qed 𝓛 (‵ (Beside n true) ∷ []) ∵ updating ! $ fsplit3 ! $ fpick ! (λ _. use1 𝓛 (‵ (rest 64 a.0 (n + 1)) ⊛ ‵ (part 64 a.0)) (takes 64 𝓛 a.0 n (omega (arith, l))) $ split ! $
      move ! (3 ∷ []) $ lft_end ! tt $ move ! (1 ∷ []) $ fpick ! (λ r. fpick ! (λ fine. fpack ! Share (λ s. flft (alive a) s) r $ fjoin ! $ nothing ! $ fpack ! (n + 1 ≡ full) (λ _. ftrue) fills $ fjoin ! $ now ! $
      show ! (More n) false $ keep ! (0 ∷ 1 ∷ []) $ done !)))

  pub one_more : (n : ℕ) (y : Bool) → ¬ (n ≡ full) → n < 2 ^ 64 → ent 𝓤 (sem 𝓛 (Beside n y)) (H.⇛ (ex 𝓤 (More n)))
  one_more n true ne l = qed 𝓛 (‵ (Beside n true) ∷ []) ∵ fsplit ! $ fpick ! (λ less'. fpack ! (n < full) (λ _. rest 64 a.0 n) less' $ fjoin ! $ by ! (one_more_counted n less' (ℕ_discrete (n + 1) full)))
  one_more n false ne l = qed 𝓛 (‵ (Beside n false) ∷ []) ∵ fsplit ! $ fpick ! (λ e. absurd (ne e))

  -- who is not counted finds the count full
  counts_full : (n : ℕ) (X : SProp 𝓤) → ent 𝓤 (sep 𝓤 (sem 𝓛 (Beside n true)) (sem 𝓛 (owner a false))) X
  counts_full n X = qed 𝓛 (‵ (Beside n true) ∷ ‵ (owner a false) ∷ []) ∵ fsplit3 ! $ move ! (3 ∷ []) $ fsplit ! $ keep ! (4 ∷ 1 ∷ []) $ by ! (via 𝓤 (never 𝓤) (𝓛.lfts.lft-dead (counting a) full_share) (never_e 𝓤 X))

  pub one_less : (n : ℕ) (y z : Bool) → ¬ (n ≡ full) → 1 < n → ent 𝓤 (sep 𝓤 (sem 𝓛 (Beside n y)) (sem 𝓛 (owner a z))) (sem 𝓛 (Beside (n - 1) true))
  one_less n true true ne l = qed 𝓛 (‵ (Beside n true) ∷ ‵ (owner a true) ∷ []) ∵ fsplit ! $ fpick ! (λ less'. move ! (0 ∷ 2 ∷ []) $
      use2 𝓛 (‵ (rest 64 a.0 (n - 1))) (gives 64 𝓛 a.0 n l) $ fpack ! (n - 1 < full) (λ _. rest 64 a.0 (n - 1)) (omega (arith, l, less')) $ done !)
  one_less n true false ne l = counts_full n (sem 𝓛 (Beside (n - 1) true))
  one_less n false z ne l = qed 𝓛 (‵ (Beside n false) ∷ ‵ (owner a z) ∷ []) ∵ fsplit ! $ fpick ! (λ e. absurd (ne e))

  -- the last one ends ν and has the value back
  pub last : (n : ℕ) (y z : Bool) → n ≡ 1 → ent 𝓤 (sep 𝓤 (sem 𝓛 (Beside n y)) (sem 𝓛 (owner a z))) (H.⇛ (sep 𝓤 (sem 𝓛 (V R bs x)) (A.dead (alive a))))
  last n true true e = qed 𝓛 (‵ (Beside n true) ∷ ‵ (owner a true) ∷ []) ∵ updating ! $ fsplit3 ! $ fpick ! (λ _. rewrite ! 0 (λ (k : ℕ). ‵ (rest 64 a.0 k)) e refl $ move ! (0 ∷ 3 ∷ []) $
      use2 𝓛 (‵ (flft (alive a) full_share)) (whole 64 𝓛 a.0) $ lft_end ! tt $ use1 𝓛 (‵ (fdead (alive a)) ⊛ ‵ (fdead (alive a))) (𝓛.lfts.dead_dup (alive a)) $ split ! $ move ! (0 ∷ 2 ∷ []) $ lent_back ! tt $
      now ! $ keep ! (0 ∷ 1 ∷ []) $ done !)
  last n true false e = counts_full n (H.⇛ (sep 𝓤 (sem 𝓛 (V R bs x)) (A.dead (alive a))))
  last n false z e = qed 𝓛 (‵ (Beside n false) ∷ ‵ (owner a z) ∷ []) ∵ fsplit ! $ fpick ! (λ d. absurd (omega (arith, e, d)))
