-- `free` makes room of the places, and gives it back with the right to.
use Rattle.std.proofs.Common.{◌≡◌, ℕ, ◌*◌, ◌<◌, ◌^◌, List, [], ◌∷◌, ◌++◌, length, refl, sym, ap, subst, T as True, arith, w64}
use mir.Syntax.{Fn, ty_array, ty_unit}
use mir.Val.{Val, vunit, vint, vptr, has_ty, WT}
use mir.MapTy.{inst_fn}
use base.Logic.{SProp, id⊢}
use base.Fml.{Lft, Share, ftrue, froom, flft}
use prog.Memory.{align, capped}
use prog.Capped.{capped_fits}
use prog.Wp.{Env, WpFn}
use contract.BorrowLft.{◌⊑◌, ⊑_trans}
use contract.Monad.{fact}
use contract.Running.{tables}
use denote.RattleType.{owns}
use denote.Exit.{yes, no}
use denote.Builtin.{RefOf}
use denote.RawPtr.{block_ptr}
use denote.Signature.{plain, types_at}
use denote.Steps.{heard, nothing}
use denote.Triple.Call.{calls_at_last}
use denote.Triple.Entry.{alive}
use denote.Triple.Table.{framed}
use denote.Triple.Walked.{Stays, stay_dropped, walk_of, ends_at, Goes-dropped}
use types.Kit.{‵, raw, ◌⊛◌, later, given, prop, at_ret, ◌$◌, ◌∵◌, !, qed, move, keep, use1, use3, drop, split, join, learn, rewrite, regoal, fsplit, fjoin, feq_i, suffices, await, done}
use types.Part.{whole, sub}
use types.Run.{stop, fld, size_word, align_word, unit_lit, no_more, and_then, of_opd, bin, first, blocks, exec, returns, enter}
use types.ByLocal.{alloc_all, pass_all, free_all, look_at, get, get_in, is, sets, lands_last, env}
use Rattle.std.proofs.mem.Param.{El, elτ}
use Rattle.std.proofs.alloc.Calls.{Al, token, Gives, at_gives, Gives-goes, Gives-Gives}
use Rattle.std.proofs.alloc.Shapes.{after}
use Rattle.std.proofs.raw_atomic.Walks.{proved_at}
use Rattle.kh_arena.proofs.Places.{sz, to_room}
use Rattle.kh_arena.proofs.Blocks.{uncapped, block_ty, block_size, block_align}
use Rattle.kh_arena.proofs.Chunks.{args, P, Cr, chunk_val, chunk_had}
use Rattle.kh_arena.specs.contracts.chunk.Chunk.free.{ended, clauses}
use Rattle.kh_arena.specs.contracts.chunk.Chunk.free.Key.{name as #self}
use Rattle.kh_arena.proofs.chunk.Chunk.free.Statement.{statement}
use Rattle.kh_arena.proofs.chunk.Chunk.free.Code as compiled

pub free_spec : {M : Type 1} → statement M
free_spec 𝓤 𝓛 𝓜 𝓡 wired X A LX LA g d dd met md =
    let E : El = record { row = X; laws = LX } in
    let Z : Al = record { row = A; laws = LA; g = g; d = d; drops = dd } in
    let H = 𝓛.H in
    let T = ended X A g d dd in
    let c₀ = clauses X A g d dd 𝓛 𝓜.mem 𝓡.returns in
    let fn : Fn = inst_fn (args E Z) compiled.function in
    let hs : Stays T.signature.params T.kept = (stay_dropped (plain (λ _. Cr E Z)) no, (stay_dropped (RefOf (0 ∷ []) tt (plain (λ _. P E Z)) (λ _. tt)) yes, tt)) in
    let 𝓣 = tables 𝓤 H 𝓜 𝓡 𝓡.env in
    let C = 𝓣.C in
    let Λ = 𝓣.Λ in
    let lfts = T.signature.lifetimes in
    proved_at 𝓛 T hs c₀ 𝓜 𝓡
    (Goes-dropped 𝓛 lfts (plain (λ _. Cr E Z)) no (λ κs x f. refl), (Goes-dropped 𝓛 lfts (RefOf (0 ∷ []) tt (plain (λ _. P E Z)) (λ _. tt)) yes (λ κs x f. refl), tt))
    (#self (args E Z)) fn (compiled.unfolded 𝓤 H 𝓜 𝓡 wired (X, (A, tt)) d dd) (λ z are.
    let Post : Val → SProp 𝓤 = (walk_of 𝓛 T hs c₀).post z in
    let a = z.0.3 in
    let vss = z.0.4 in
    let κ : Lft = z.0.0.0 in let κ₁ : Lft = z.0.0.1.0 in let κ₂ : Lft = z.0.0.1.1.0 in
    let q : Share = z.0.1.0 in let q₁ : Share = z.0.1.1.0 in let q₂ : Share = z.0.1.1.1.0 in
    let c : (Cr E Z).Denot = a.0 in let hp = a.1.0.ref_ptr in let h : A.Denot = a.1.0.now in let n = c.len in
    let s = sz E in let al = capped (align (elτ E)) in let τ = block_ty E n in
    let Ok : Type 0 = c.alloc ≡ h in
    qed 𝓛 ((raw (alive 𝓛 T.signature z.0.0 z.0.1) ⊛ ‵ (owns (types_at T.signature.params z.0.0) a vss)) ∷ (raw (fact 𝓤 (κ₁ ⊑ X.lives)) ⊛ raw (fact 𝓤 (κ₂ ⊑ A.lives)) ⊛ raw (fact 𝓤 Ok)) ∷ []) ∵
    move ! (1 ∷ []) $ split ! $ drop ! $ split ! $ heard ! (κ₂ ⊑ A.lives) (λ lives. heard ! Ok (λ ok.
    split ! $ use1 𝓛 (‵ (flft κ q) ⊛ (‵ (flft κ₁ q₁) ⊛ ‵ (flft κ₂ q₂) ⊛ ‵ ftrue)) (id⊢ 𝓤 _) $ split ! $
    move ! (2 ∷ []) $ fsplit ! $ chunk_had E Z ! c vss.0 (λ b o at word fn64 fit.
    -- [the places; the right; the handle's `&`; its token; the other tokens]
    let near : n * s < 2 ^ 64 = omega arith in
    use1 𝓛 (‵ (froom (ty_array (elτ E) (length c.places)) b o)) (to_room E 𝓛 b c.places o) $ rewrite ! 0 (λ (k : ℕ). ‵ (froom (ty_array (elτ E) k) b o)) (sym c.whole) refl $
    use1 𝓛 (‵ (froom τ b o)) (𝓛.laws.room-raw (ty_array (elτ E) n) b o) $
    move ! (1 ∷ []) $ rewrite ! 0 (λ (k : A.Denot). ‵ (token Z k τ (block_ptr b o))) ok refl $ move ! (2 ∷ []) $ fsplit ! $ fsplit ! $ keep ! (4 ∷ 3 ∷ 1 ∷ 5 ∷ 6 ∷ []) $
    let us : List Val = chunk_val (block_ptr b o) n ∷ vptr hp.0 hp.1 ∷ [] in
    regoal ! (λ (ws : List Val). prop (WpFn 𝓤 H C Λ fn ws Post)) (λ i. word i ++ (are.1.0.0 i ++ [])) refl $
    enter ! C Λ fn us Post $ alloc_all ! (λ l. pass_all ! refl ((tt, (tt, (record { fits = fn64 }, (tt, tt)))), ((tt, tt), tt)) $
    let En : Env 𝓤 𝓛.H = env fn.locals l in
    let y = at_gives Z 𝓛 𝓜.mem 𝓡.returns κ q hp h b o (n * s) al τ in
    sets ! (of_opd ! (get_in ! (fld ! refl (stop !)) (sub ! 0 refl (whole !)))) refl (tt, tt) $
    sets ! (of_opd ! (get_in ! (fld ! refl (stop !)) (sub ! 1 refl (whole !)))) refl (tt, record { fits = fn64 }) $ first ! $ blocks ! $ sets ! (of_opd ! (get ! refl)) refl (tt, tt) $
    sets ! (is ! (bin ! (get ! refl) (size_word !) (record { fits = subst (λ (k : ℕ). k < 2 ^ 64) (sym (uncapped n s near)) near })) (ap (vint w64) (uncapped n s near))) refl (tt, record { fits = near }) $
    move ! (2 ∷ 3 ∷ []) $ join ! $ move ! (1 ∷ 2 ∷ 0 ∷ []) $ use3 𝓛 (raw ((Gives Z 𝓛 𝓜.mem 𝓡.returns).pre y))
    (Gives-goes Z 𝓛 𝓜.mem 𝓡.returns κ q hp h (⊑_trans κ κ₂ A.lives z.0.2.0 lives) b o (n * s) al τ (block_size E n near) (block_align E n) near (capped_fits (align (elτ E)))) $
    calls_at_last ! (framed 𝓤 H 𝓜 𝓣) (Gives Z 𝓛 𝓜.mem 𝓡.returns) (met.deallocate dd) y (and_then ! (get ! refl) (and_then ! (get ! refl) (and_then ! (get ! refl) (and_then ! (align_word !) (no_more !))))) (λ v.
    use1 𝓛 (later (given (v ≡ vunit) (‵ (flft κ q)))) (Gives-Gives Z 𝓛 𝓜.mem 𝓡.returns κ q hp h b o (n * s) al τ v) $ await ! tt $ learn ! (λ e.
    lands_last ! refl (subst (λ (u : Val). True (has_ty ty_unit u) × WT u) (sym e) (tt, tt)) $ exec ! C Λ En (after 3 fn.body) (at_ret En Post) $
    sets ! (of_opd ! (unit_lit !)) refl (tt, tt) $ returns ! (look_at ! 0 refl) $ free_all ! refl $
    suffices ! _ (ends_at 𝓛 T hs c₀ z vunit tt (tt, (tt, tt)) (tt, (tt, tt))) $
    join ! $ feq_i ! (List Val) (vunit ∷ []) (vunit ∷ []) refl $ nothing ! $ nothing ! $ fjoin ! $ nothing ! $ fjoin ! $ join ! $ move ! (1 ∷ 0 ∷ []) $ join ! $
    nothing ! $ keep ! (1 ∷ 0 ∷ []) $ done !)))))))
