-- `put` makes room of the place, writes the item there, and closes the chunk round it.
use Rattle.std.proofs.Common.{◌+◌, ◌*◌, ◌<◌, ◌^◌, List, [], ◌∷◌, ◌++◌, length, set, length-set, refl, sym, ◌∙◌, arith, w64}
use mir.Syntax.{Fn}
use mir.Val.{Val, vunit, vint, vptr}
use mir.MapTy.{inst_fn}
use base.Logic.{SProp, id⊢}
use base.Fml.{Lft, Share, ftrue, froom, flft}
use prog.Wp.{Env, WpFn}
use contract.BorrowLft.{◌⊑◌}
use contract.Monad.{fact}
use contract.Running.{tables}
use denote.RattleType.{owns}
use denote.Exit.{yes, no}
use denote.Builtin.{usize}
use denote.Signature.{plain, types_at}
use denote.Steps.{heard, nothing}
use denote.Triple.Entry.{alive}
use denote.Triple.Walked.{Stays, stay_dropped, stay_ref, walk_of, ends_at, Goes-dropped, Goes-ref}
use types.Kit.{‵, raw, ◌⊛◌, prop, at_ret, ◌$◌, ◌∵◌, !, qed, move, keep, use1, use3, drop, split, join, regoal, rewrite, fsplit, fsplit3, fjoin, fjoin3, feq_i, suffices, done}
use types.Part.{whole, sub, look_in}
use types.Run.{init, stop, fld, load, size_lit, unit_lit, of_opd, bin, assigns_last, first, blocks, exec, returns, enter}
use types.ByLocal.{alloc_all, pass_all, free_all, look_at, get, through, sets, env}
use Rattle.std.specs.Prelude.{Some}
use Rattle.std.proofs.mem.Param.{El, R, el_x, elτ, lawful, one}
use Rattle.std.proofs.mem.Facts.{says_three}
use Rattle.std.proofs.ptr.Rows.{times_below, one_below}
use Rattle.std.proofs.alloc.Calls.{Al}
use Rattle.std.proofs.alloc.Shapes.{after}
use Rattle.std.proofs.raw_atomic.Walks.{proved_at}
use Rattle.kh_arena.proofs.Places.{sz, others, room_out, item_in}
use Rattle.kh_arena.proofs.Chunks.{args, Cr, all_of, chunk_opens, chunk_closes}
use Rattle.kh_arena.specs.contracts.chunk.Chunk.put.{ended, clauses}
use Rattle.kh_arena.specs.contracts.chunk.Chunk.put.Key.{name as #self}
use Rattle.kh_arena.proofs.chunk.Chunk.put.Statement.{statement}
use Rattle.kh_arena.proofs.chunk.Chunk.put.Code as compiled

pub put_spec : {M : Type 1} → statement M
put_spec 𝓤 𝓛 𝓜 𝓡 wired X A LX LA g d dd met md =
    let E : El = record { row = X; laws = LX } in
    let Z : Al = record { row = A; laws = LA; g = g; d = d; drops = dd } in
    let H = 𝓛.H in
    let T = ended X A g d dd in
    let c₀ = clauses X A g d dd 𝓛 𝓜.mem 𝓡.returns in
    let fn : Fn = inst_fn (args E Z) compiled.function in
    let hs : Stays T.signature.params T.kept = (stay_ref (0 ∷ []) tt (plain (λ _. Cr E Z)), (stay_dropped (plain (λ _. usize)) yes, (stay_dropped (plain (λ _. R E)) no, tt))) in
    let C = (tables 𝓤 H 𝓜 𝓡 𝓡.env).C in
    let Λ = (tables 𝓤 H 𝓜 𝓡 𝓡.env).Λ in
    proved_at 𝓛 T hs c₀ 𝓜 𝓡
    (Goes-ref 𝓛 T.signature.lifetimes 0 tt (plain (λ _. Cr E Z)), (Goes-dropped 𝓛 T.signature.lifetimes (plain (λ _. usize)) yes (λ κs x f. refl), (Goes-dropped 𝓛 T.signature.lifetimes (plain (λ _. R E)) no (λ κs x f. refl), tt)))
    (#self (args E Z)) fn (compiled.unfolded 𝓤 H 𝓜 𝓡 wired (X, (A, tt)) d dd) (λ z are.
    let Post : Val → SProp 𝓤 = (walk_of 𝓛 T hs c₀).post z in
    let a = z.0.3 in
    let vss = z.0.4 in
    let κ : Lft = z.0.0.0 in let κ₁ : Lft = z.0.0.1.0 in let κ₂ : Lft = z.0.0.1.1.0 in
    let q : Share = z.0.1.0 in let q₁ : Share = z.0.1.1.0 in let q₂ : Share = z.0.1.1.1.0 in
    let rb = a.0.ref_ptr.0 in let ro = a.0.ref_ptr.1 in
    let c : (Cr E Z).Denot = a.0.now in let i = a.1.0 in let x : el_x E = a.1.1.0 in
    let got = one E vss.1.1.0 ((lawful E 𝓛).typed x vss.1.1.0 are.1.1.0) in
    let v = got.0 in let good = got.2 in
    let s = sz E in
    let Ok : Type 0 = i < length c.places in
    let new : (Cr E Z).Denot = record c { places = set c.places i (Some x); whole = c.whole ∙ sym (length-set c.places i (Some x)) } in
    qed 𝓛 ((raw (alive 𝓛 T.signature z.0.0 z.0.1) ⊛ ‵ (owns (types_at T.signature.params z.0.0) a vss)) ∷ (raw (fact 𝓤 (κ₁ ⊑ X.lives)) ⊛ raw (fact 𝓤 (κ₂ ⊑ A.lives)) ⊛ raw (fact 𝓤 Ok)) ∷ []) ∵
    move ! (1 ∷ []) $ split ! $ drop ! $ split ! $ drop ! $ heard ! Ok (λ li.
    split ! $ use1 𝓛 (‵ (flft κ q) ⊛ (‵ (flft κ₁ q₁) ⊛ ‵ (flft κ₂ q₂) ⊛ ‵ ftrue)) (id⊢ 𝓤 _) $ split ! $
    move ! (2 ∷ []) $ fsplit3 ! $ fsplit3 ! $ move ! (4 ∷ []) $ fsplit ! $ rewrite ! 0 (λ (us : List Val). ‵ (X.own_val x us)) got.1 refl $ keep ! (2 ∷ 3 ∷ 4 ∷ 6 ∷ 0 ∷ 7 ∷ []) $
    -- [the reference's address; obs; the borrow; its token; the item; the other tokens]
    regoal ! (λ (us : List Val). prop (WpFn 𝓤 H C Λ fn us Post)) (λ k. are.0.0 k ++ (are.1.0.0 k ++ (got.1 k ++ []))) refl $
    move ! (1 ∷ 2 ∷ 3 ∷ 4 ∷ []) $
    enter ! C Λ fn (vptr rb ro ∷ vint w64 i ∷ v ∷ []) Post $ alloc_all ! (λ l. pass_all ! refl ((tt, tt), ((tt, record { fits = are.1.0.1 }), (good, tt))) $
    let En : Env 𝓤 H = env fn.locals l in
    chunk_opens E Z ! tt c rb ro (λ b o at fl fit.
    let small : s < 2 ^ 63 = one_below c.len s (2 ^ 63) (omega (arith, c.whole)) fit in let tiny : s < 2 ^ 64 = omega arith in
    let part : i * s < 2 ^ 63 = times_below i c.len s (2 ^ 63) (omega (arith, c.whole)) fit in let near : i * s < 2 ^ 64 = omega arith in
    use1 𝓛 (‵ (froom (elτ E) b (i * s + o)) ⊛ ‵ (others E b o c.places i)) (room_out E 𝓛 b c.places i o li) $ split ! $
    -- [the room; the other places; the right; the words; the open borrow; obs; auth; the item; the address; the other tokens]
    first ! $ blocks ! $
    sets ! (of_opd ! (load ! (through ! refl (fld ! refl (stop !))) (look_in ! 3 (sub ! 0 refl (whole !))))) refl (tt, tt) $
    sets ! (bin ! (get ! refl) (size_lit ! (record { fits = tiny })) (record { fits = near })) refl (tt, record { fits = near }) $
    sets ! (bin ! (get ! refl) (get ! refl) tt) refl (tt, tt) $ sets ! (of_opd ! (get ! refl)) refl good $
    assigns_last ! (of_opd ! (get ! refl)) (through ! refl (stop !)) (init ! 0 refl good) $
    exec ! C Λ En (after 1 fn.body) (at_ret En Post) $ sets ! (of_opd ! (unit_lit !)) refl (tt, tt) $
    move ! (0 ∷ 7 ∷ 1 ∷ []) $ use3 𝓛 (‵ (all_of E Z new b o)) (item_in E 𝓛 b c.places i o li x v) $
    chunk_closes E Z ! tt new b o rb ro at fl fit $ returns ! (look_at ! 0 refl) $ free_all ! refl $
    suffices ! _ (ends_at 𝓛 T hs c₀ z vunit tt (new, (tt, (tt, tt))) (tt, (tt, (tt, tt)))) $ says_three ! (refl, refl, refl) $
    move ! (3 ∷ 0 ∷ 1 ∷ []) $ fjoin3 ! $ nothing ! $ nothing ! $ fjoin ! $ nothing ! $ fjoin ! $ move ! (1 ∷ 0 ∷ []) $ fjoin ! $
    move ! (1 ∷ 2 ∷ []) $ join ! $ feq_i ! (List Val) (vunit ∷ []) (vunit ∷ []) refl $ keep ! (1 ∷ 2 ∷ 0 ∷ []) $ done !))))
