-- `make` asks the allocator for an array, whose room is places that hold nothing.
use Rattle.std.proofs.Common.{ℕ, ◌*◌, ◌<◌, ◌^◌, List, [], ◌∷◌, ◌++◌, true, false, refl, sym, ap, subst, lit<, arith, w64}
use Rattle.std.proofs.lemmas.List.{length-replicate}
use mir.Syntax.{Fn, Body, ty_array}
use mir.Val.{Val, vint, vptr, vcons, vnil, WT}
use mir.MapTy.{inst_fn}
use base.Logic.{SProp, id⊢}
use base.Fml.{Lft, Share, ftrue, froom, flft}
use prog.Memory.{align, capped}
use prog.Capped.{capped_fits}
use prog.Wp.{Env, Wp, WpFn, after_seq, at_return}
use contract.BorrowLft.{◌⊑◌, ⊑_trans}
use contract.Monad.{fact}
use contract.Running.{tables}
use denote.RattleType.{RattleType, owns}
use denote.Exit.{yes}
use denote.Builtin.{usize, RefOf}
use denote.RawPtr.{block_ptr}
use denote.Signature.{plain, types_at, type_at}
use denote.Steps.{heard, nothing}
use denote.Triple.Call.{calls_at}
use denote.Triple.Entry.{alive}
use denote.Triple.Table.{framed}
use denote.Triple.Walked.{Stays, stay_dropped, walk_of, ends_at, Goes-dropped}
use types.Kit.{Post as After, any_q, ‵, raw, ◌⊛◌, later, prop, at_ret, ◌$◌, ◌∵◌, !, qed, move, keep, use0, use1, use2, drop, split, join, regoal, fsplit, fjoin3, suffices, await, done}
use types.Match.{live, vrt, in_variant}
use types.Part.{whole, agg}
use types.Run.{stop, fld, lit, size_word, align_word, no_more, and_then, of_opd, bin, first, switches_on, exec, returns, enter}
use types.ByLocal.{alloc_all, pass_all, free_all, look_at, get, get_in, get_tag, is, sets, sets_last, lands_as, env}
use Rattle.std.specs.Prelude.{Some, None}
use Rattle.std.proofs.mem.Param.{El, elτ}
use Rattle.std.proofs.mem.Facts.{says_two}
use Rattle.std.proofs.option.Made.{Some-of, none_of}
use Rattle.std.proofs.alloc.Calls.{Al, Answer-typed, Takes, at_takes, Answered, Takes-goes, Takes-gives, answers}
use Rattle.std.proofs.alloc.Shapes.{after, head, arm_body}
use Rattle.std.proofs.raw_atomic.Walks.{proved_at}
use Rattle.kh_arena.specs.Ownership.{empty_places}
use Rattle.kh_arena.proofs.Places.{sz, of_room}
use Rattle.kh_arena.proofs.Blocks.{uncapped, block_ty, block_size, block_align}
use Rattle.kh_arena.proofs.Chunks.{args, P, Cr, all_of, chunk_val, chunk_made}
use Rattle.kh_arena.specs.contracts.chunk.Chunk.make.{ended, clauses}
use Rattle.kh_arena.specs.contracts.chunk.Chunk.make.Key.{name as #self}
use Rattle.kh_arena.proofs.chunk.Chunk.make.Statement.{statement}
use Rattle.kh_arena.proofs.chunk.Chunk.make.Code as compiled

pub make_spec : {M : Type 1} → statement M
make_spec 𝓤 𝓛 𝓜 𝓡 wired X A LX LA g d dd met md =
    let E : El = record { row = X; laws = LX } in
    let Z : Al = record { row = A; laws = LA; g = g; d = d; drops = dd } in
    let H = 𝓛.H in
    let T = ended X A g d dd in
    let c₀ = clauses X A g d dd 𝓛 𝓜.mem 𝓡.returns in
    let fn : Fn = inst_fn (args E Z) compiled.function in
    let hs : Stays T.signature.params T.kept = (stay_dropped (RefOf (0 ∷ []) tt (plain (λ _. P E Z)) (λ _. tt)) yes, (stay_dropped (plain (λ _. usize)) yes, tt)) in
    let 𝓣 = tables 𝓤 H 𝓜 𝓡 𝓡.env in
    let C = 𝓣.C in
    let Λ = 𝓣.Λ in
    let lfts = T.signature.lifetimes in
    proved_at 𝓛 T hs c₀ 𝓜 𝓡
    (Goes-dropped 𝓛 lfts (RefOf (0 ∷ []) tt (plain (λ _. P E Z)) (λ _. tt)) yes (λ κs x f. refl), (Goes-dropped 𝓛 lfts (plain (λ _. usize)) yes (λ κs x f. refl), tt))
    (#self (args E Z)) fn (compiled.unfolded 𝓤 H 𝓜 𝓡 wired (X, (A, tt)) d dd) (λ z are.
    let Post : Val → SProp 𝓤 = (walk_of 𝓛 T hs c₀).post z in
    let a = z.0.3 in
    let vss = z.0.4 in
    let κ : Lft = z.0.0.0 in let κ₁ : Lft = z.0.0.1.0 in let κ₂ : Lft = z.0.0.1.1.0 in
    let q : Share = z.0.1.0 in let q₁ : Share = z.0.1.1.0 in let q₂ : Share = z.0.1.1.1.0 in
    let hp = a.0.ref_ptr in let h : A.Denot = a.0.now in let n = a.1.0 in
    let s = sz E in let al = capped (align (elτ E)) in let τ = block_ty E n in
    let Out : RattleType = type_at T.signature.result z.0.0 in
    let Asked : Type 0 = n * s < 2 ^ 63 in
    qed 𝓛 ((raw (alive 𝓛 T.signature z.0.0 z.0.1) ⊛ ‵ (owns (types_at T.signature.params z.0.0) a vss)) ∷ (raw (fact 𝓤 (κ₁ ⊑ X.lives)) ⊛ raw (fact 𝓤 (κ₂ ⊑ A.lives)) ⊛ raw (fact 𝓤 Asked)) ∷ []) ∵
    move ! (1 ∷ []) $ split ! $ drop ! $ split ! $ heard ! (κ₂ ⊑ A.lives) (λ lives. heard ! Asked (λ fit.
    split ! $ use1 𝓛 (‵ (flft κ q) ⊛ (‵ (flft κ₁ q₁) ⊛ ‵ (flft κ₂ q₂) ⊛ ‵ ftrue)) (id⊢ 𝓤 _) $ split ! $
    move ! (2 ∷ []) $ fsplit ! $ fsplit ! $ keep ! (1 ∷ 3 ∷ 4 ∷ []) $
    -- [the handle; its token; the other tokens]
    let fn64 : n < 2 ^ 64 = are.1.0.1 in let near : n * s < 2 ^ 64 = omega arith in
    regoal ! (λ (us : List Val). prop (WpFn 𝓤 H C Λ fn us Post)) (λ i. are.0.0 i ++ (are.1.0.0 i ++ [])) refl $
    enter ! C Λ fn (vptr hp.0 hp.1 ∷ vint w64 n ∷ []) Post $ alloc_all ! (λ l. pass_all ! refl ((tt, tt), ((tt, record { fits = fn64 }), tt)) $
    let En : Env 𝓤 𝓛.H = env fn.locals l in
    let both : Body = head (after 2 fn.body) in
    let Then : After 𝓤 H = any_q (after_seq 𝓤 H (Wp 𝓤 H C Λ En (after 3 fn.body) (at_return 𝓤 H En Post)) (at_return 𝓤 H En Post)) in
    let y = at_takes Z 𝓛 𝓜.mem 𝓡.returns κ q hp h (n * s) al τ in
    sets ! (is ! (bin ! (get ! refl) (size_word !) (record { fits = subst (λ (k : ℕ). k < 2 ^ 64) (sym (uncapped n s near)) near })) (ap (vint w64) (uncapped n s near))) refl (tt, record { fits = near }) $
    use2 𝓛 (raw ((Takes Z 𝓛 𝓜.mem 𝓡.returns).pre y))
    (Takes-goes Z 𝓛 𝓜.mem 𝓡.returns κ q hp h (⊑_trans κ κ₂ A.lives z.0.2.0 lives) (n * s) al τ (block_size E n near) (block_align E n) near (capped_fits (align (elτ E)))) $
    calls_at ! (framed 𝓤 H 𝓜 𝓣) (Takes Z 𝓛 𝓜.mem 𝓡.returns) (met.allocate dd) y (and_then ! (get ! refl) (and_then ! (get ! refl) (and_then ! (align_word !) (no_more !)))) (λ v.
    use1 𝓛 (later (raw (Answered Z 𝓛 𝓜.mem 𝓡.returns h τ v) ⊛ ‵ (flft κ q))) (Takes-gives Z 𝓛 𝓜.mem 𝓡.returns κ q hp h (n * s) al τ v) $ await ! tt $ split ! $
    move ! (1 ∷ 2 ∷ []) $ join ! $ move ! (1 ∷ []) $ answers Z ! 𝓜.mem 𝓡.returns h τ v
    (λ b o e.
    let new : (Cr E Z).Denot = record { at = block_ptr b o; len = n; by = record {}; alloc = h; places = empty_places n; whole = sym (length-replicate n None) } in
    let word : Val = chunk_val (block_ptr b o) n in
    let words : WT word = (tt, (record { fits = fn64 }, (tt, tt))) in
    let some : WT (live 1 (vcons word vnil)) = (record { fits = lit< tt }, (words, tt)) in
    lands_as ! e refl (Answer-typed true b o) $ first ! $ switches_on ! (get_tag ! (vrt ! refl (fld ! refl (stop !))) (whole !)) $ exec ! C Λ En (arm_body 0 both) Then $
    sets ! (of_opd ! (get_in ! (vrt ! refl (fld ! refl (stop !))) (in_variant ! 0 0 refl refl (whole !)))) refl (tt, tt) $ sets ! (of_opd ! (get ! refl)) refl (tt, tt) $
    sets ! (agg ! (no_more !)) refl (tt, tt) $ sets ! (agg ! (and_then ! (get ! refl) (and_then ! (get ! refl) (and_then ! (get ! refl) (no_more !))))) refl (tt, words) $
    sets_last ! (agg ! (and_then ! (lit ! tt) (and_then ! (get ! refl) (no_more !)))) refl (tt, some) $
    exec ! C Λ En (after 3 fn.body) (at_ret En Post) $ sets ! (of_opd ! (get ! refl)) refl (tt, some) $
    use1 𝓛 (‵ (froom (ty_array (elτ E) n) b o)) (𝓛.laws.raw-room (ty_array (elτ E) n) b o) $ use1 𝓛 (‵ (all_of E Z new b o)) (of_room E 𝓛 b n o) $
    chunk_made E Z ! new b o refl fn64 fit $ use1 𝓛 (‵ (Out.own_val (Some new) (live 1 (vcons word vnil) ∷ []))) (Some-of 𝓛 (Cr E Z) new word) $
    returns ! (look_at ! 0 refl) $ free_all ! refl $
    suffices ! _ (ends_at 𝓛 T hs c₀ z (live 1 (vcons word vnil)) (Some new) (tt, (tt, tt)) (tt, (tt, tt))) $ says_two ! (refl, refl) $
    nothing ! $ nothing ! $ nothing ! $ fjoin3 ! $ keep ! (2 ∷ 0 ∷ 1 ∷ []) $ done !)
    (λ e.
    let none : WT (live 0 vnil) = (record { fits = lit< tt }, tt) in
    lands_as ! e refl (Answer-typed false 0 0) $ first ! $ switches_on ! (get_tag ! (vrt ! refl (fld ! refl (stop !))) (whole !)) $ exec ! C Λ En (arm_body 1 both) Then $
    sets_last ! (agg ! (and_then ! (lit ! tt) (no_more !))) refl (tt, none) $
    exec ! C Λ En (after 3 fn.body) (at_ret En Post) $ sets ! (of_opd ! (get ! refl)) refl (tt, none) $
    use0 𝓛 (‵ (Out.own_val None (live 0 vnil ∷ []))) (none_of 𝓛 (Cr E Z)) $ returns ! (look_at ! 0 refl) $ free_all ! refl $
    suffices ! _ (ends_at 𝓛 T hs c₀ z (live 0 vnil) None (tt, (tt, tt)) (tt, (tt, tt))) $ says_two ! (tt, tt) $
    nothing ! $ nothing ! $ nothing ! $ fjoin3 ! $ keep ! (2 ∷ 0 ∷ 1 ∷ []) $ done !))))))
