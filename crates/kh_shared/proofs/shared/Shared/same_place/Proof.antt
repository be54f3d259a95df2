-- `same_place` takes the first pointer's count away for a moment, and looks whether the second's is gone.
use Rattle.std.proofs.Common.{◌≡◌, ℕ, List, [], ◌∷◌, ◌++◌, refl, sym, ap, subst, ◌∙◌, arith, lit<}
use mathlib.Core.Bool.{true}
use base.Mask.{every, less, less_other, Key-Dec}
use mir.Syntax.{Fn, a_type}
use mir.Val.{Val, vptr, vbool}
use mir.MapTy.{inst_fn}
use base.Logic.{SProp, id⊢}
use base.Fml.{Lft, Share, ftrue, flft, fhide, fauth, fres, ftok}
use prog.Wp.{Env, WpFn}
use lib.Dec.{T as True, eqb, eqb→eq}
use contract.Named.{bare_unfolds}
use contract.Running.{tables_of}
use denote.RattleType.{RattleType, owns}
use denote.Builtin.{RefOf}
use denote.Exit.{yes as kept}
use denote.Memory.{hidden_shr}
use denote.Param.{param, layouts}
use denote.RawPtr.{coded_ptr, ptr_val}
use denote.Signature.{plain, types_at}
use denote.Steps.{nothing}
use denote.Triple.Walked.{Stays, stay_dropped, walk_of, ends_at, Goes-dropped}
use types.Kit.{‵, raw, ◌⊛◌, given, prop, at_ret, ◌$◌, ◌∵◌, !, qed, move, keep, use1, use2, split, join, learn, frame, regoal, rewrite, fsplit, fjoin3, feq_i, suffices, done}
use types.Part.{whole, sub, look_in}
use types.Run.{stop, fld, load, look, lit, bin, of_opd, store, assigns, first, blocks, exec, returns, enter}
use types.ByLocal.{alloc_all, pass_all, free_all, look_at, get, through, is, sets, sets_last, env}
use Rattle.std.proofs.alloc.Shapes.{after}
use Rattle.std.proofs.mem.Facts.{says_three}
use Rattle.std.specs.contracts.alloc.Global as heap
use Rattle.kh_shared.specs.Ownership.{key, shared_lends}
use Rattle.kh_shared.proofs.Owners.{m}
use Rattle.kh_shared.proofs.Words.{Sh, Words, blocks_of}
use Rattle.kh_shared.proofs.Steps.{splits, cells_apart, first_of, second_of, opens, shuts, known, lent_out, lent_back}
use Rattle.kh_shared.proofs.Walks.{with_token, carried, inner, proved_holding}
use Rattle.kh_shared.specs.contracts.shared.Shared.same_place.{ended, clauses}
use Rattle.kh_shared.specs.contracts.shared.Shared.same_place.Key.{name as #self}
use Rattle.kh_shared.proofs.shared.Shared.same_place.Statement.{statement}
use Rattle.kh_shared.proofs.shared.Shared.same_place.Code as compiled
use Rattle.kh_shared.proofs.shared.Shared.same_place.Code.{code}

pub same_place_spec : {M : Type 1} → statement M
unfolding tables_of code
same_place_spec 𝓤 𝓛 𝓜 𝓡 wired X L =
    let R : RattleType = param 0 X in
    let H = 𝓛.H in
    let E = ended X in
    let c₀ = clauses X 𝓛 𝓜.mem 𝓡.returns in
    let inst = layouts (a_type ∷ []) (X, tt) in
    let fn : Fn = inst_fn inst compiled.function in
    let hs : Stays E.signature.params E.kept = (stay_dropped (RefOf (0 ∷ []) tt (plain (λ _. Sh R)) (λ _. tt)) kept, (stay_dropped (RefOf (1 ∷ []) tt (plain (λ _. Sh R)) (λ _. tt)) kept, tt)) in
    let 𝓣 = inner 𝓛 E hs c₀ 𝓜 𝓡 in
    let c = with_token 𝓛 E hs c₀ 𝓜 𝓡 in
    let lfts = E.signature.lifetimes in
    let k = #self inst in
    proved_holding 𝓛 E hs c₀ 𝓜 𝓡
    (Goes-dropped 𝓛 lfts (RefOf (0 ∷ []) tt (plain (λ _. Sh R)) (λ _. tt)) kept (λ κs x f. refl), (Goes-dropped 𝓛 lfts (RefOf (1 ∷ []) tt (plain (λ _. Sh R)) (λ _. tt)) kept (λ κs x f. refl), tt))
    k fn (bare_unfolds 𝓤 H (carried 𝓛 E hs c₀ 𝓜 𝓡).inner 𝓡.allowed 𝓡.how 𝓡.env k fn (wired.0.0 k refl)) (λ z are.
    let Post : Val → SProp 𝓤 = (walk_of 𝓛 E hs c).post z in
    let κ : Lft = z.0.0.0 in let κ₁ : Lft = z.0.0.1.0 in
    let q : Share = z.0.1.0 in let q₁ : Share = z.0.1.1.0 in
    let rb = z.0.3.0.ref_ptr.0 in let ro = z.0.3.0.ref_ptr.1 in
    let rb₁ = z.0.3.1.0.ref_ptr.0 in let ro₁ = z.0.3.1.0.ref_ptr.1 in
    let d : (Sh R).Denot = z.0.3.0.now in let d₁ : (Sh R).Denot = z.0.3.1.0.now in
    let bs = blocks_of d in let bs₁ = blocks_of d₁ in
    let others = ‵ (flft z.0.0.1.1.0 z.0.1.1.1.0) ⊛ ‵ ftrue in
    qed 𝓛 (((‵ (flft κ q) ⊛ ‵ (flft κ₁ q₁) ⊛ others) ⊛ ‵ (owns (types_at E.signature.params z.0.0) z.0.3 z.0.4)) ∷ (‵ (ftok every) ⊛ raw ((c₀ z.0.0 z.0.3).requires z.1)) ∷ []) ∵
    split ! $ split ! $ move ! (1 ∷ []) $ split ! $ move ! (4 ∷ []) $ split ! $ move ! (5 ∷ []) $ fsplit ! $ fsplit ! $ move ! (2 ∷ []) $ fsplit ! $ fsplit ! $ keep ! (4 ∷ 9 ∷ 1 ∷ 7 ∷ 5 ∷ 8 ∷ []) $
    -- [the first `&`; its token; the second; its token; the thread's token; the other tokens]
    regoal ! (λ (us : List Val). prop (WpFn 𝓤 H 𝓣.C 𝓣.Λ fn us Post)) (λ i. are.0.0 i ++ (are.1.0.0 i ++ [])) refl $
    enter ! 𝓣.C 𝓣.Λ fn (vptr rb ro ∷ vptr rb₁ ro₁ ∷ []) Post $ alloc_all ! (λ l. pass_all ! refl ((tt, tt), ((tt, tt), tt)) $
    let En : Env 𝓤 H = env fn.locals l in
    use1 𝓛 (‵ (hidden_shr (Words R) κ (d.count, (d.at, ((heap.the_field).into d.alloc, tt))) rb ro) ⊛ ‵ (fhide (shared_lends R bs d.value κ))) (id⊢ 𝓤 _) $ split ! $ lent_out R bs d.value κ q rb ro ! tt (λ a v s q'. move ! (6 ∷ []) $
    use1 𝓛 (‵ (hidden_shr (Words R) κ₁ (d₁.count, (d₁.at, ((heap.the_field).into d₁.alloc, tt))) rb₁ ro₁) ⊛ ‵ (fhide (shared_lends R bs₁ d₁.value κ₁))) (id⊢ 𝓤 _) $ split ! $ move ! (0 ∷ 1 ∷ 8 ∷ []) $
    lent_out R bs₁ d₁.value κ₁ q₁ rb₁ ro₁ ! tt (λ a₁ v₁ s₁ q₁'. move ! (4 ∷ []) $ known R bs₁ d₁.value a₁ ! v₁ $
    -- of the second [the mark; the word; the way back; ν's token; the state; the value's `&`]; of the first [the word; the way back; ν's token; the state; what is known; the value's `&`]; the thread's token; the other tokens
    splits ! (Key-Dec (key a) (key a₁))
    (λ one. rewrite ! 0 (λ (γ : ℕ). ‵ (fres γ (m R bs₁ d₁.value))) (sym (ap (λ (j : ℕ × ℕ). j.1) one)) refl $ move ! (9 ∷ 12 ∷ 8 ∷ []) $ opens R bs d.value a every ! tt refl s (λ n w b o e fits some'.
    move ! (7 ∷ 2 ∷ []) $ use2 𝓛 (given (m R bs₁ d₁.value ≡ m R bs d.value) (‵ (fres a.2 (m R bs₁ d₁.value)) ⊛ ‵ (fauth a.2 (m R bs d.value)))) (𝓛.names.res_agree a.2 (m R bs₁ d₁.value) (m R bs d.value)) $ learn ! (λ same. split ! $
    let there : d₁.count ≡ d.count = coded_ptr.inj d₁.count d.count (ap first_of same) in move ! (2 ∷ 3 ∷ 1 ∷ 4 ∷ []) $
    -- [the count; the right; the name's half; beside the count; the mark; ν's token; the other keys; what shuts; the second's word ..; the first's word ..]
    sets ! (is ! (of_opd ! (load ! (through ! refl (fld ! refl (stop !))) (look_in ! 13 (sub ! 0 refl (whole !))))) (ap ptr_val e)) refl (tt, tt) $
    sets ! (is ! (of_opd ! (load ! (through ! refl (fld ! refl (stop !))) (look_in ! 8 (sub ! 0 refl (whole !))))) (ap ptr_val (there ∙ e))) refl (tt, tt) $ first ! $ blocks ! $
    sets ! (of_opd ! (load ! (through ! refl (stop !)) (look ! 0 refl))) refl (tt, record { fits = fits }) $ assigns ! (of_opd ! (lit ! tt)) (through ! refl (stop !)) (store ! 0 refl (tt, record { fits = lit< tt })) $
    sets ! (of_opd ! (load ! (through ! refl (stop !)) (look ! 0 refl))) refl (tt, record { fits = lit< tt }) $ sets ! (bin ! (get ! refl) (lit ! tt) tt) refl (tt, tt) $
    assigns ! (of_opd ! (get ! refl)) (through ! refl (stop !)) (store ! 0 refl (tt, record { fits = fits })) $ sets_last ! (of_opd ! (get ! refl)) refl (tt, tt) $
    exec ! 𝓣.C 𝓣.Λ En (after 3 fn.body) (at_ret En Post) $ sets ! (of_opd ! (get ! refl)) refl (tt, tt) $
    move ! (0 ∷ 1 ∷ 2 ∷ 3 ∷ 6 ∷ 7 ∷ []) $ shuts R bs d.value a every ! tt n w b o e $ move ! (3 ∷ 4 ∷ 5 ∷ []) $ lent_back R bs₁ d₁.value κ₁ q₁ rb₁ ro₁ ! tt a₁ s₁ q₁' $ move ! (6 ∷ 7 ∷ 3 ∷ []) $ lent_back R bs d.value κ q rb ro ! tt a s q' $
    returns ! (look_at ! 0 refl) $ free_all ! refl $ keep ! (0 ∷ 1 ∷ 8 ∷ 2 ∷ []) $
    suffices ! _ (ends_at 𝓛 E hs c z (vbool true) true (tt, (tt, tt)) (tt, (tt, tt))) $ feq_i ! (List Val) (vbool true ∷ []) (vbool true ∷ []) refl $
    nothing ! $ nothing ! $ nothing ! $ fjoin3 ! $ join ! $ move ! (2 ∷ 3 ∷ []) $ join ! $ move ! (2 ∷ 0 ∷ []) $ join ! $ join ! $ frame ! $ says_three ! ((λ _. sym (ap second_of same)), (λ _ i j. R.coded.inj d.value d₁.value (sym i ∙ sym (ap second_of same) ∙ j)), (λ _. refl)) $ done !)))
    (λ two. move ! (9 ∷ 12 ∷ 8 ∷ []) $ opens R bs d.value a every ! tt refl s (λ n w b o e fits some'.
    move ! (11 ∷ 5 ∷ 10 ∷ []) $ opens R bs₁ d₁.value a₁ (less every (key a)) ! tt (less_other every (key a) (key a₁) two) s₁ (λ n₁ w₁ b₁ o₁ e₁ fits₁ some₁. move ! (0 ∷ 7 ∷ []) $ cells_apart 𝓜 ! b₁ o₁ n₁ b o n (λ apart. move ! (0 ∷ 2 ∷ 3 ∷ 4 ∷ 5 ∷ 6 ∷ 7 ∷ 1 ∷ []) $
    -- of the second [the count; the right; the name's half; beside the count; ν's token; the other keys; what shuts]; of the first [the count; the right; the name's half; beside the count; ν's token; what shuts]; the second's mark, word ..; the first's word ..
    sets ! (is ! (of_opd ! (load ! (through ! refl (fld ! refl (stop !))) (look_in ! 17 (sub ! 0 refl (whole !))))) (ap ptr_val e)) refl (tt, tt) $
    sets ! (is ! (of_opd ! (load ! (through ! refl (fld ! refl (stop !))) (look_in ! 14 (sub ! 0 refl (whole !))))) (ap ptr_val e₁)) refl (tt, tt) $ first ! $ blocks ! $
    sets ! (of_opd ! (load ! (through ! refl (stop !)) (look ! 7 refl))) refl (tt, record { fits = fits }) $ assigns ! (of_opd ! (lit ! tt)) (through ! refl (stop !)) (store ! 7 refl (tt, record { fits = lit< tt })) $
    sets ! (of_opd ! (load ! (through ! refl (stop !)) (look ! 0 refl))) refl (tt, record { fits = fits₁ }) $ sets ! (bin ! (get ! refl) (lit ! tt) tt) refl (tt, tt) $
    assigns ! (of_opd ! (get ! refl)) (through ! refl (stop !)) (store ! 7 refl (tt, record { fits = fits })) $ sets_last ! (of_opd ! (get ! refl)) refl (tt, tt) $
    exec ! 𝓣.C 𝓣.Λ En (after 3 fn.body) (at_ret En Post) $ sets ! (of_opd ! (get ! refl)) refl (tt, tt) $
    move ! (0 ∷ 1 ∷ 2 ∷ 3 ∷ 5 ∷ 6 ∷ []) $ shuts R bs₁ d₁.value a₁ (less every (key a)) ! tt n₁ w₁ b₁ o₁ e₁ $ move ! (2 ∷ 3 ∷ 4 ∷ 5 ∷ 0 ∷ 7 ∷ []) $ shuts R bs d.value a every ! tt n w b o e $
    move ! (4 ∷ 5 ∷ 1 ∷ []) $ lent_back R bs₁ d₁.value κ₁ q₁ rb₁ ro₁ ! tt a₁ s₁ q₁' $ move ! (5 ∷ 6 ∷ 2 ∷ []) $ lent_back R bs d.value κ q rb ro ! tt a s q' $
    returns ! (look_at ! 0 refl) $ free_all ! refl $ keep ! (0 ∷ 1 ∷ 7 ∷ 2 ∷ []) $
    suffices ! _ (ends_at 𝓛 E hs c z (vbool (eqb n₁ 0)) (eqb n₁ 0) (tt, (tt, tt)) (tt, (tt, tt))) $ feq_i ! (List Val) (vbool (eqb n₁ 0) ∷ []) (vbool (eqb n₁ 0) ∷ []) refl $
    nothing ! $ nothing ! $ nothing ! $ fjoin3 ! $ join ! $ move ! (2 ∷ 3 ∷ []) $ join ! $ move ! (2 ∷ 0 ∷ []) $ join ! $ join ! $ frame ! $
    let never : eqb n₁ 0 ≡ true → ⊥ = λ none. let gone : n₁ ≡ 0 = eqb→eq n₁ 0 (subst True (sym none) tt) in omega (arith, gone, some₁) in
    says_three ! ((λ none. absurd (never none)), (λ none _ _. absurd (never none)), (λ one. absurd (apart (sym e ∙ ap (λ (r : (Sh R).Denot). r.count) one ∙ e₁)))) $ done !))))))))
