-- `as_ref` hands on the `&` to the value that each owner shows.
use Rattle.std.proofs.Common.{List, [], ◌∷◌, ◌++◌, refl, sym}
use mir.Syntax.{Fn, a_type}
use mir.Val.{Val, vptr}
use mir.MapTy.{inst_fn}
use base.Logic.{SProp, id⊢, never, fst∗}
use base.Fml.{Lft, Share, ftrue, fat, flft, fhide}
use types.Logic.{sem}
use prog.Wp.{Env, WpFn}
use contract.Running.{tables}
use denote.RattleType.{RattleType, owns}
use denote.Builtin.{RefOf}
use denote.Exit.{yes}
use denote.Memory.{hidden_shr, shared_of, lone}
use denote.Opens.{unhide, hide}
use denote.Param.{param, layouts}
use denote.Param.Laws.{param_laws}
use denote.RawPtr.{Ptr, in_a_block}
use denote.Signature.{plain, types_at}
use denote.Steps.{nothing}
use denote.Struct.Lending.{lent_at}
use denote.Triple.Walked.{Stays, stay_dropped, walk_of, says, ends_at, Goes-dropped}
use types.Kit.{‵, raw, ◌⊛◌, prop, at_ret, ◌$◌, ◌∵◌, !, qed, move, keep, use1, drop, split, join, rewrite, regoal, fsplit, fjoin, feq_i, suffices, done}
use types.Part.{whole, sub, look_in}
use types.Run.{stop, hop, fld, addr, of_opd, first, blocks, exec, returns, enter}
use types.ByLocal.{alloc_all, pass_all, free_all, look_at, get, through, sets, sets_last, env}
use Rattle.std.proofs.alloc.Shapes.{after}
use Rattle.std.proofs.raw_atomic.Walks.{proved_at}
use Rattle.std.specs.contracts.alloc.Global as heap
use Rattle.kh_shared.specs.Ownership.{shared_lends}
use Rattle.kh_shared.proofs.Owners.{T, sees}
use Rattle.kh_shared.proofs.Words.{Sh, Words, word, blocks_of, reads, read}
use Rattle.kh_shared.specs.contracts.shared.Shared.as_ref.{ended, clauses}
use Rattle.kh_shared.specs.contracts.shared.Shared.as_ref.Key.{name as #self}
use Rattle.kh_shared.proofs.shared.Shared.as_ref.Statement.{statement}
use Rattle.kh_shared.proofs.shared.Shared.as_ref.Code as compiled

pub as_ref_spec : {M : Type 1} → statement M
as_ref_spec 𝓤 𝓛 𝓜 𝓡 wired X L =
    let R : RattleType = param 0 X in
    let LR = param_laws 0 X L in
    let H = 𝓛.H in
    let E = ended X in
    let c₀ = clauses X 𝓛 𝓜.mem 𝓡.returns in
    let inst = layouts (a_type ∷ []) (X, tt) in
    let fn : Fn = inst_fn inst compiled.function in
    let hs : Stays E.signature.params E.kept = (stay_dropped (RefOf (0 ∷ []) tt (plain (λ _. Sh R)) (λ _. tt)) yes, tt) in
    let 𝓣 = tables 𝓤 H 𝓜 𝓡 𝓡.env in
    let lfts = E.signature.lifetimes in
    proved_at 𝓛 E hs c₀ 𝓜 𝓡
    (Goes-dropped 𝓛 lfts (RefOf (0 ∷ []) tt (plain (λ _. Sh R)) (λ _. tt)) yes (λ κs x f. refl), tt)
    (#self inst) fn (compiled.unfolded 𝓤 H 𝓜 𝓡 wired (X, tt)) (λ z are.
    let Post : Val → SProp 𝓤 = (walk_of 𝓛 E hs c₀).post z in
    let κ : Lft = z.0.0.0 in
    let q : Share = z.0.1.0 in
    let b = z.0.3.0.ref_ptr.0 in
    let o = z.0.3.0.ref_ptr.1 in
    let d : (Sh R).Denot = z.0.3.0.now in
    let others = ‵ (flft z.0.0.1.0 z.0.1.1.0) ⊛ ‵ ftrue in
    qed 𝓛 (((‵ (flft κ q) ⊛ others) ⊛ ‵ (owns (types_at E.signature.params z.0.0) z.0.3 z.0.4)) ∷ raw ((c₀ z.0.0 z.0.3).requires z.1) ∷ []) ∵
    split ! $ split ! $ move ! (2 ∷ []) $ fsplit ! $ fsplit ! $ keep ! (1 ∷ 3 ∷ 4 ∷ []) $
    use1 𝓛 (‵ (hidden_shr (Words R) κ (d.count, (d.at, ((heap.the_field).into d.alloc, tt))) b o) ⊛ ‵ (fhide (shared_lends R (blocks_of d) d.value κ))) (id⊢ 𝓤 _) $ split ! $ move ! (1 ∷ []) $ unhide ! $
    use1 𝓛 (‵ (T R (blocks_of d) d.value κ)) (sees R (blocks_of d) d.value 𝓛 LR.shr_laws κ) $
    in_a_block ! d.at (λ r. lent_at R r d.value κ) (fst∗ 𝓤 (never 𝓤) (sem 𝓛 (shared_of R d.value 0 0 κ))) (λ vb vo e. fsplit ! $ drop ! $ hide ! $
    -- [the value's `&`; the fields' `&`; κ; the other tokens]
    regoal ! (λ (us : List Val). prop (WpFn 𝓤 H 𝓣.C 𝓣.Λ fn us Post)) (λ i. are.0.0 i ++ []) refl $
    enter ! 𝓣.C 𝓣.Λ fn (vptr b o ∷ []) Post $ alloc_all ! (λ l. pass_all ! refl ((tt, tt), tt) $
    let En : Env 𝓤 H = env fn.locals l in
    move ! (1 ∷ 2 ∷ []) $ reads R ! tt d.count d.at d.alloc b o (λ q'. rewrite ! 0 (λ (r : Ptr). ‵ (fat q' (lone (Words R).mir) b o (word d.count r))) e refl $ first ! $ blocks ! $
    sets_last ! (addr ! (through ! refl (fld ! refl (hop ! (look_in ! 0 (sub ! 1 refl (whole !))) (stop !))))) refl (tt, tt) $
    exec ! 𝓣.C 𝓣.Λ En (after 1 fn.body) (at_ret En Post) $ sets ! (of_opd ! (get ! refl)) refl (tt, tt) $
    rewrite ! 0 (λ (r : Ptr). ‵ (fat q' (lone (Words R).mir) b o (word d.count r))) (sym e) refl $ read R ! tt d.count d.at d.alloc b o q' $
    move ! (1 ∷ []) $ feq_i ! (List Val) (vptr vb vo ∷ []) (vptr vb vo ∷ []) refl $ fjoin ! $ returns ! (look_at ! 0 refl) $ free_all ! refl $ keep ! (0 ∷ 1 ∷ 2 ∷ []) $
    suffices ! _ (ends_at 𝓛 E hs c₀ z (vptr vb vo) (record { ref_ptr = (vb, vo); now = d.value }) (tt, tt) (tt, tt)) $
    says ! refl $ nothing ! $ nothing ! $ fjoin ! $ join ! $ move ! (1 ∷ 2 ∷ []) $ join ! $ join ! $ done !))))
