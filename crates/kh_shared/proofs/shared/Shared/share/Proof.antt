-- `share` counts one owner more, or finds the count full, and makes a pointer of the same words.
use Rattle.std.proofs.Common.{◌+◌, ◌-◌, ◌^◌, ◌<◌, List, [], ◌∷◌, ◌++◌, refl, sym, ap, arith}
use mathlib.Core.Bool.{Bool, true, false}
use base.Mask.{every}
use mir.Syntax.{Fn, a_type}
use mir.Val.{Val, vptr}
use mir.MapTy.{inst_fn}
use base.Logic.{SProp, id⊢}
use base.Fml.{Lft, Share, ftrue, flft, fhide, ftok}
use prog.Wp.{Env, WpFn}
use contract.Named.{bare_unfolds}
use contract.Running.{tables_of}
use denote.RattleType.{RattleType, owns}
use denote.Builtin.{RefOf}
use denote.Exit.{yes}
use denote.Memory.{hidden_shr}
use denote.Param.{param, layouts}
use denote.RawPtr.{Ptr, ptr_val}
use denote.Signature.{plain, types_at}
use denote.Steps.{nothing}
use denote.Triple.Walked.{Stays, stay_dropped, walk_of, says, ends_at, Goes-dropped}
use types.Kit.{‵, raw, ◌⊛◌, some, later, prop, at_ret, ◌$◌, ◌∵◌, !, qed, move, keep, use1, split, join, pick, frame, await, regoal, fsplit, fjoin, suffices, done}
use types.Part.{whole, sub, look_in, agg}
use types.Run.{stop, fld, load, look, lit, neg_lit, bin, of_opd, and_then, no_more, store, assigns_last, first, blocks, skips, branches, exec, returns, enter}
use types.ByLocal.{alloc_all, pass_all, free_all, look_at, get, through, is, sets, env}
use Rattle.std.proofs.alloc.Shapes.{after}
use Rattle.std.specs.contracts.alloc.Global as heap
use Rattle.kh_shared.specs.Ownership.{owner, shared_lends}
use Rattle.kh_shared.proofs.Owners.{B, beyond, one_more}
use Rattle.kh_shared.proofs.Words.{Sh, Words, word, blocks_of, Ptr-Good, heap_Good, word_Good, shared_made}
use Rattle.kh_shared.proofs.Steps.{is_not, is_so, opens, shuts, inv_twice, known, owner_made, lent_out, lent_back}
use Rattle.kh_shared.proofs.Walks.{with_token, carried, inner, proved_holding}
use Rattle.kh_shared.specs.contracts.shared.Shared.share.{ended, clauses}
use Rattle.kh_shared.specs.contracts.shared.Shared.share.Key.{name as #self}
use Rattle.kh_shared.proofs.shared.Shared.share.Statement.{statement}
use Rattle.kh_shared.proofs.shared.Shared.share.Code as compiled
use Rattle.kh_shared.proofs.shared.Shared.share.Code.{code}

pub share_spec : {M : Type 1} → statement M
unfolding tables_of code
share_spec 𝓤 𝓛 𝓜 𝓡 wired X L =
    let R : RattleType = param 0 X in
    let H = 𝓛.H in
    let E = ended X in
    let c₀ = clauses X 𝓛 𝓜.mem 𝓡.returns in
    let inst = layouts (a_type ∷ []) (X, tt) in
    let fn : Fn = inst_fn inst compiled.function in
    let hs : Stays E.signature.params E.kept = (stay_dropped (RefOf (0 ∷ []) tt (plain (λ _. Sh R)) (λ _. tt)) yes, tt) in
    let 𝓣 = inner 𝓛 E hs c₀ 𝓜 𝓡 in
    let c = with_token 𝓛 E hs c₀ 𝓜 𝓡 in
    let lfts = E.signature.lifetimes in
    let k = #self inst in
    proved_holding 𝓛 E hs c₀ 𝓜 𝓡
    (Goes-dropped 𝓛 lfts (RefOf (0 ∷ []) tt (plain (λ _. Sh R)) (λ _. tt)) yes (λ κs x f. refl), tt)
    k fn (bare_unfolds 𝓤 H (carried 𝓛 E hs c₀ 𝓜 𝓡).inner 𝓡.allowed 𝓡.how 𝓡.env k fn (wired.0.0 k refl)) (λ z are.
    let Post : Val → SProp 𝓤 = (walk_of 𝓛 E hs c).post z in
    let κ : Lft = z.0.0.0 in
    let q : Share = z.0.1.0 in
    let rb = z.0.3.0.ref_ptr.0 in
    let ro = z.0.3.0.ref_ptr.1 in
    let d : (Sh R).Denot = z.0.3.0.now in
    let bs = blocks_of d in
    let x = d.value in
    let others = ‵ (flft z.0.0.1.0 z.0.1.1.0) ⊛ ‵ ftrue in
    qed 𝓛 (((‵ (flft κ q) ⊛ others) ⊛ ‵ (owns (types_at E.signature.params z.0.0) z.0.3 z.0.4)) ∷ (‵ (ftok every) ⊛ raw ((c₀ z.0.0 z.0.3).requires z.1)) ∷ []) ∵
    split ! $ split ! $ move ! (3 ∷ []) $ split ! $ move ! (4 ∷ []) $ fsplit ! $ fsplit ! $ keep ! (1 ∷ 5 ∷ 3 ∷ 6 ∷ []) $
    -- [the `&`; κ; the thread's token; the other tokens]
    use1 𝓛 (‵ (hidden_shr (Words R) κ (d.count, (d.at, ((heap.the_field).into d.alloc, tt))) rb ro) ⊛ ‵ (fhide (shared_lends R bs x κ))) (id⊢ 𝓤 _) $ split ! $
    regoal ! (λ (us : List Val). prop (WpFn 𝓤 H 𝓣.C 𝓣.Λ fn us Post)) (λ i. are.0.0 i ++ []) refl $
    enter ! 𝓣.C 𝓣.Λ fn (vptr rb ro ∷ []) Post $ alloc_all ! (λ l. pass_all ! refl ((tt, tt), tt) $
    let En : Env 𝓤 H = env fn.locals l in
    lent_out R bs x κ q rb ro ! tt (λ a y s q'. move ! (3 ∷ []) $ inv_twice R bs x a ! $ move ! (1 ∷ 7 ∷ 4 ∷ []) $ opens R bs x a every ! tt refl s (λ n w b o e fits some'.
    -- [the count; the right; the name's half; beside the count; ν's token; the other keys; what shuts; the state; the word; the way back; what is known; the value's `&`; the other tokens]
    sets ! (is ! (of_opd ! (load ! (through ! refl (fld ! refl (stop !))) (look_in ! 8 (sub ! 0 refl (whole !))))) (ap ptr_val e)) refl (tt, tt) $
    sets ! (of_opd ! (load ! (through ! refl (fld ! refl (stop !))) (look_in ! 8 (sub ! 1 refl (whole !))))) refl (Ptr-Good d.at) $
    sets ! (of_opd ! (load ! (through ! refl (fld ! refl (stop !))) (look_in ! 8 (sub ! 2 refl (whole !))))) refl heap_Good $ first ! $ blocks ! $
    sets ! (of_opd ! (load ! (through ! refl (stop !)) (look ! 0 refl))) refl (tt, record { fits = fits }) $ sets ! (bin ! (get ! refl) (neg_lit ! tt) tt) refl (tt, tt) $ branches ! (get ! refl)
    (λ room. let f₁ : n + 1 < 2 ^ 64 = omega (arith, fits, is_not n (2 ^ 64 - 1) room) in
    sets ! (bin ! (get ! refl) (lit ! tt) (record { fits = f₁ })) refl (tt, record { fits = f₁ }) $ assigns_last ! (of_opd ! (get ! refl)) (through ! refl (stop !)) (store ! 0 refl (tt, record { fits = f₁ })) $
    exec ! 𝓣.C 𝓣.Λ En (after 4 fn.body) (at_ret En Post) $
    sets ! (is ! (agg ! (and_then ! (get ! refl) (and_then ! (get ! refl) (and_then ! (get ! refl) (no_more !))))) (ap (λ (r : Ptr). word r d.at) (sym e))) refl (word_Good R d.count d.at) $
    move ! (3 ∷ []) $ use1 𝓛 (later (some (λ (w' : Bool). ‵ (B R bs x a (n + 1) w') ⊛ ‵ (owner a true)))) (one_more R bs x a 𝓛 n w (is_not n (2 ^ 64 - 1) room) fits) $ await ! tt $ pick ! (λ w'. split ! $
    move ! (2 ∷ 3 ∷ 4 ∷ 0 ∷ 6 ∷ 7 ∷ []) $ shuts R bs x a every ! tt (n + 1) w' b o e $
    -- [the thread's token; the new owner; ν's token; the state; the word; the way back; what is known; the value's `&`; the other tokens]
    move ! (4 ∷ 5 ∷ 2 ∷ []) $ lent_back R bs x κ q rb ro ! tt a s q' $ move ! (4 ∷ []) $ known R bs x a ! y $ move ! (3 ∷ 0 ∷ 4 ∷ 5 ∷ []) $ owner_made R bs x a ! true $ shared_made R ! d $
    returns ! (look_at ! 0 refl) $ free_all ! refl $ keep ! (0 ∷ 1 ∷ 3 ∷ 2 ∷ []) $
    suffices ! _ (ends_at 𝓛 E hs c z (word d.count d.at) d (tt, tt) (tt, tt)) $ nothing ! $ nothing ! $ fjoin ! $ join ! $ move ! (1 ∷ 2 ∷ []) $ join ! $ join ! $ frame ! $ says ! refl $ done !))
    (λ full'. skips ! $ exec ! 𝓣.C 𝓣.Λ En (after 4 fn.body) (at_ret En Post) $
    sets ! (is ! (agg ! (and_then ! (get ! refl) (and_then ! (get ! refl) (and_then ! (get ! refl) (no_more !))))) (ap (λ (r : Ptr). word r d.at) (sym e))) refl (word_Good R d.count d.at) $
    move ! (3 ∷ []) $ use1 𝓛 (‵ (B R bs x a n w) ⊛ ‵ (owner a false)) (beyond R bs x a 𝓛 n w (is_so n (2 ^ 64 - 1) full')) $ split ! $
    move ! (2 ∷ 3 ∷ 4 ∷ 0 ∷ 6 ∷ 7 ∷ []) $ shuts R bs x a every ! tt n w b o e $
    move ! (4 ∷ 5 ∷ 2 ∷ []) $ lent_back R bs x κ q rb ro ! tt a s q' $ move ! (4 ∷ []) $ known R bs x a ! y $ move ! (3 ∷ 0 ∷ 4 ∷ 5 ∷ []) $ owner_made R bs x a ! false $ shared_made R ! d $
    returns ! (look_at ! 0 refl) $ free_all ! refl $ keep ! (0 ∷ 1 ∷ 3 ∷ 2 ∷ []) $
    suffices ! _ (ends_at 𝓛 E hs c z (word d.count d.at) d (tt, tt) (tt, tt)) $ nothing ! $ nothing ! $ fjoin ! $ join ! $ move ! (1 ∷ 2 ∷ []) $ join ! $ join ! $ frame ! $ says ! refl $ done !)))))
