-- `get` hands on the `&` to the item that a `&` to the chunk holds.
use Rattle.std.proofs.Common.{◌+◌, ◌*◌, ◌<◌, ◌^◌, List, [], ◌∷◌, ◌++◌, get_or, refl, sym, ap, arith, w64}
use mir.Syntax.{Fn}
use mir.Val.{Val, vint, vptr}
use mir.MapTy.{inst_fn}
use base.Logic.{SProp, id⊢}
use base.Fml.{Lft, Share, ftrue, flt, flft}
use prog.Wp.{Env, WpFn}
use contract.BorrowLft.{◌⊑◌}
use contract.Monad.{fact}
use contract.Running.{tables}
use denote.RattleType.{owns}
use denote.Exit.{yes}
use denote.Builtin.{usize, RefOf}
use denote.Memory.{hidden_shr}
use denote.RawPtr.{Ptr, RawPtr, in_a_block}
use denote.Signature.{plain, types_at}
use denote.Steps.{heard, nothing}
use denote.Triple.Entry.{alive}
use denote.Triple.Walked.{Stays, stay_dropped, walk_of, ends_at, Goes-dropped}
use types.Kit.{‵, raw, ◌⊛◌, prop, at_ret, ◌$◌, ◌∵◌, !, qed, move, keep, use1, drop, split, split3, join, regoal, fsplit, fjoin, feq_i, flt_l, suffices, done}
use types.Run.{stop, fld, load, look, addr, size_lit, of_opd, bin, first, blocks, exec, returns, enter}
use types.ByLocal.{alloc_all, pass_all, free_all, look_at, get, through, sets, sets_last, env}
use Rattle.std.specs.Prelude.{None, IsSome}
use Rattle.std.proofs.mem.Param.{El, R, el_x}
use Rattle.std.proofs.mem.Facts.{says_two}
use Rattle.std.proofs.ptr.Rows.{times_below, one_below}
use Rattle.std.proofs.alloc.Calls.{Al}
use Rattle.std.proofs.alloc.Shapes.{after}
use Rattle.std.proofs.raw_atomic.Walks.{proved_at}
use Rattle.kh_arena.specs.Spots.{spot, address}
use Rattle.kh_arena.specs.Ownership.{places_lend}
use Rattle.kh_arena.proofs.Places.{sz}
use Rattle.kh_arena.proofs.Chunks.{args, Cr}
use Rattle.kh_arena.proofs.Lent.{item_of, item_within, shown, none_at_null, item_lent, pointer_in, pointer_out}
use Rattle.kh_arena.specs.contracts.chunk.Chunk.get.{ended, clauses}
use Rattle.kh_arena.specs.contracts.chunk.Chunk.get.Key.{name as #self}
use Rattle.kh_arena.proofs.chunk.Chunk.get.Statement.{statement}
use Rattle.kh_arena.proofs.chunk.Chunk.get.Code as compiled

pub get_spec : {M : Type 1} → statement M
unfolding spot address
get_spec 𝓤 𝓛 𝓜 𝓡 wired X A LX LA g d dd met md =
    let E : El = record { row = X; laws = LX } in
    let Z : Al = record { row = A; laws = LA; g = g; d = d; drops = dd } in
    let H = 𝓛.H in
    let T = ended X A g d dd in
    let c₀ = clauses X A g d dd 𝓛 𝓜.mem 𝓡.returns in
    let fn : Fn = inst_fn (args E Z) compiled.function in
    let hs : Stays T.signature.params T.kept = (stay_dropped (RefOf (0 ∷ []) tt (plain (λ _. Cr E Z)) (λ _. tt)) yes, (stay_dropped (plain (λ _. usize)) yes, tt)) in
    let C = (tables 𝓤 H 𝓜 𝓡 𝓡.env).C in
    let Λ = (tables 𝓤 H 𝓜 𝓡 𝓡.env).Λ in
    let n = T.signature.lifetimes in
    proved_at 𝓛 T hs c₀ 𝓜 𝓡
    (Goes-dropped 𝓛 n (RefOf (0 ∷ []) tt (plain (λ _. Cr E Z)) (λ _. tt)) yes (λ κs x f. refl), (Goes-dropped 𝓛 n (plain (λ _. usize)) yes (λ κs x f. refl), tt))
    (#self (args E Z)) fn (compiled.unfolded 𝓤 H 𝓜 𝓡 wired (X, (A, tt)) d dd) (λ z are.
    let Post : Val → SProp 𝓤 = (walk_of 𝓛 T hs c₀).post z in
    let a = z.0.3 in
    let vss = z.0.4 in
    let κ : Lft = z.0.0.0 in let κ₁ : Lft = z.0.0.1.0 in let κ₂ : Lft = z.0.0.1.1.0 in
    let q : Share = z.0.1.0 in let q₁ : Share = z.0.1.1.0 in let q₂ : Share = z.0.1.1.1.0 in
    let rb = a.0.ref_ptr.0 in let ro = a.0.ref_ptr.1 in
    let c : (Cr E Z).Denot = a.0.now in let i = a.1.0 in
    let s = sz E in
    let Ok : Type 0 = IsSome (get_or c.places i None) in
    qed 𝓛 ((raw (alive 𝓛 T.signature z.0.0 z.0.1) ⊛ ‵ (owns (types_at T.signature.params z.0.0) a vss)) ∷ (raw (fact 𝓤 (κ₁ ⊑ X.lives)) ⊛ raw (fact 𝓤 (κ₂ ⊑ A.lives)) ⊛ raw (fact 𝓤 Ok)) ∷ []) ∵
    move ! (1 ∷ []) $ split ! $ drop ! $ split ! $ drop ! $ heard ! Ok (λ ok.
    let there = item_of (get_or c.places i None) ok in
    let x : el_x E = there.0 in
    let li = item_within c.places i x there.1 in
    split ! $ use1 𝓛 (‵ (flft κ q) ⊛ (‵ (flft κ₁ q₁) ⊛ ‵ (flft κ₂ q₂) ⊛ ‵ ftrue)) (id⊢ 𝓤 _) $ split ! $
    move ! (2 ∷ []) $ fsplit ! $ fsplit ! $ drop ! $
    use1 𝓛 (‵ (hidden_shr RawPtr κ c.at rb (ro + 0)) ⊛ ‵ (flt (c.len * s) (2 ^ 63)) ⊛ ‵ (places_lend (R E) c.at c.places κ)) (shown E 𝓛 κ Z c rb ro) $ split3 ! $
    move ! (1 ∷ []) $ flt_l ! (λ fit. move ! (1 ∷ []) $
    let small : s < 2 ^ 63 = one_below c.len s (2 ^ 63) (omega (arith, c.whole)) fit in let tiny : s < 2 ^ 64 = omega arith in
    let part : i * s < 2 ^ 63 = times_below i c.len s (2 ^ 63) (omega (arith, c.whole)) fit in let near : i * s < 2 ^ 64 = omega arith in
    in_a_block ! c.at (λ p. places_lend (R E) p c.places κ) (none_at_null E 𝓛 κ c.places i x there.1) (λ b o at.
    use1 𝓛 (‵ (hidden_shr (R E) κ x b (i * s + o))) (item_lent E 𝓛 κ b o c.places i x there.1) $ keep ! (1 ∷ 3 ∷ 0 ∷ 4 ∷ []) $
    -- [the pointer; its token; the item; the other tokens]
    regoal ! (λ (us : List Val). prop (WpFn 𝓤 H C Λ fn us Post)) (λ k. are.0.0 k ++ (are.1.0.0 k ++ [])) refl $
    enter ! C Λ fn (vptr rb ro ∷ vint w64 i ∷ []) Post $ alloc_all ! (λ l. pass_all ! refl ((tt, tt), ((tt, record { fits = are.1.0.1 }), tt)) $
    let En : Env 𝓤 H = env fn.locals l in
    first ! $ blocks ! $ pointer_in ! tt c.at b o at rb (ro + 0) (λ q'.
    sets ! (of_opd ! (load ! (through ! refl (fld ! refl (stop !))) (look ! 0 refl))) refl (tt, tt) $
    pointer_out ! tt c.at b o at rb (ro + 0) $
    sets ! (bin ! (get ! refl) (size_lit ! (record { fits = tiny })) (record { fits = near })) refl (tt, record { fits = near }) $
    sets ! (bin ! (get ! refl) (get ! refl) tt) refl (tt, tt) $ sets_last ! (addr ! (through ! refl (stop !))) refl (tt, tt) $
    exec ! C Λ En (after 1 fn.body) (at_ret En Post) $ sets ! (of_opd ! (get ! refl)) refl (tt, tt) $
    returns ! (look_at ! 0 refl) $ free_all ! refl $
    suffices ! _ (ends_at 𝓛 T hs c₀ z (vptr b (i * s + o)) (record { ref_ptr = (b, i * s + o); now = x }) (tt, (tt, tt)) (tt, (tt, tt))) $ says_two ! (there.1, sym (ap (λ (p : Ptr). address s (spot p i)) at)) $
    move ! (0 ∷ 2 ∷ []) $ join ! $ move ! (1 ∷ []) $ feq_i ! (List Val) (vptr b (i * s + o) ∷ []) (vptr b (i * s + o) ∷ []) refl $ fjoin ! $
    nothing ! $ nothing ! $ fjoin ! $ nothing ! $ fjoin ! $ keep ! (2 ∷ 0 ∷ 1 ∷ []) $ done !))))))
