-- `step_down` counts one owner less, or finds the count full, or ends the lifetime of the owners and has both blocks.
use Rattle.std.proofs.Common.{◌-◌, ◌^◌, ◌<◌, List, [], ◌∷◌, ◌++◌, refl, sym, ap, arith, lit<, true}
use base.Mask.{every}
use mir.Syntax.{Fn, a_type}
use mir.Val.{Val, vcons, vnil, WT}
use mir.MapTy.{inst_fn}
use base.Logic.{SProp}
use base.Fml.{Share, ftrue, flft, fres, fdead, ftok}
use prog.Wp.{Env, WpFn}
use contract.Named.{bare_unfolds}
use contract.Running.{tables_of}
use denote.RattleType.{RattleType, owns}
use denote.Builtin.{usize}
use denote.Memory.{lone}
use denote.Exit.{no}
use denote.Param.{param, layouts}
use denote.RawPtr.{ptr_val}
use denote.Signature.{plain, types_at, type_at}
use denote.Steps.{nothing}
use denote.Triple.Walked.{Stays, stay_dropped, walk_of, says, ends_at, Goes-dropped}
use types.Match.{live}
use types.Kit.{‵, raw, ◌⊛◌, some, given, later, prop, at_ret, ◌$◌, ◌∵◌, !, qed, move, keep, use0, use1, use2, use3, split, join, learn, pick, frame, await, regoal, fsplit, fsplit3, fpick, fjoin, suffices, done}
use types.Part.{whole, sub, agg}
use types.Run.{stop, fld, load, look, lit, neg_lit, bin, of_opd, and_then, no_more, store, assigns, first, blocks, skips, branches, exec, returns, returns_within, enter}
use types.ByLocal.{alloc_all, pass_all, free_all, look_at, get, get_in, through, is, sets, sets_last, env}
use Rattle.std.specs.Prelude.{Some, None}
use Rattle.std.proofs.alloc.Shapes.{after}
use Rattle.std.proofs.option.Made.{Some-of, none_of}
use Rattle.kh_shared.specs.Ownership.{alive, owner}
use Rattle.kh_shared.proofs.Owners.{Token, V, B, K, m, token_out, token_in, one_less, last, shut_gone}
use Rattle.kh_shared.proofs.Words.{Sh, Parts, Both, word, pair_word, both_word, blocks_of, Ptr-Good, heap_Good, word_Good, some_Good, pair_Good, both_Good, shared_had, parts_made, both_made}
use Rattle.kh_shared.proofs.Steps.{is_not, is_so, opens, shuts, count_in}
use Rattle.kh_shared.proofs.Walks.{with_token, carried, inner, proved_holding}
use Rattle.kh_shared.specs.contracts.shared.Shared.step_down.{ended, clauses}
use Rattle.kh_shared.specs.contracts.shared.Shared.step_down.Key.{name as #self}
use Rattle.kh_shared.proofs.shared.Shared.step_down.Statement.{statement}
use Rattle.kh_shared.proofs.shared.Shared.step_down.Code as compiled
use Rattle.kh_shared.proofs.shared.Shared.step_down.Code.{code}

pub step_down_spec : {M : Type 1} → statement M
unfolding tables_of code
step_down_spec 𝓤 𝓛 𝓜 𝓡 wired X L =
    let R : RattleType = param 0 X in
    let H = 𝓛.H in
    let E = ended X in
    let c₀ = clauses X 𝓛 𝓜.mem 𝓡.returns in
    let inst = layouts (a_type ∷ []) (X, tt) in
    let fn : Fn = inst_fn inst compiled.function in
    let hs : Stays E.signature.params E.kept = (stay_dropped (plain (λ _. Sh R)) no, tt) in
    let 𝓣 = inner 𝓛 E hs c₀ 𝓜 𝓡 in
    let c = with_token 𝓛 E hs c₀ 𝓜 𝓡 in
    let k = #self inst in
    proved_holding 𝓛 E hs c₀ 𝓜 𝓡 (Goes-dropped 𝓛 E.signature.lifetimes (plain (λ _. Sh R)) no (λ κs x f. refl), tt)
    k fn (bare_unfolds 𝓤 H (carried 𝓛 E hs c₀ 𝓜 𝓡).inner 𝓡.allowed 𝓡.how 𝓡.env k fn (wired.0.0 k refl)) (λ z are.
    let Post : Val → SProp 𝓤 = (walk_of 𝓛 E hs c).post z in
    let Out : RattleType = type_at E.signature.result z.0.0 in
    let d : (Sh R).Denot = z.0.3.0 in
    let bs = blocks_of d in
    let x = d.value in
    let toks = ‵ (flft z.0.0.0 z.0.1.0) ⊛ ‵ ftrue in
    let none : WT (live 0 vnil) = (record { fits = lit< tt }, tt) in
    qed 𝓛 ((toks ⊛ ‵ (owns (types_at E.signature.params z.0.0) z.0.3 z.0.4)) ∷ (‵ (ftok every) ⊛ raw ((c₀ z.0.0 z.0.3).requires z.1)) ∷ []) ∵
    split ! $ move ! (2 ∷ []) $ split ! $ move ! (3 ∷ []) $ fsplit ! $ shared_had R ! d z.0.4.0 (λ word_is. keep ! (0 ∷ 4 ∷ 2 ∷ []) $
    -- [what the pointer owns; the tokens; the thread's token]
    regoal ! (λ (us : List Val). prop (WpFn 𝓤 H 𝓣.C 𝓣.Λ fn us Post)) (λ i. word_is i ++ []) refl $
    enter ! 𝓣.C 𝓣.Λ fn (word d.count d.at ∷ []) Post $ alloc_all ! (λ l. pass_all ! refl (word_Good R d.count d.at, tt) $
    let En : Env 𝓤 H = env fn.locals l in
    fpick ! (λ t. let a = t.0 in let v = t.1 in fsplit ! $ move ! (1 ∷ []) $ fsplit3 ! $ move ! (3 ∷ 0 ∷ []) $
    use2 𝓛 (some (λ (e : Share). given (Token v e) (‵ (flft (alive a) e) ⊛ ‵ (K R bs x a v)))) (token_out R bs x 𝓛 a v) $ pick ! (λ s. learn ! (λ ok. split ! $
    -- [ν's token; what is known; the state; the value's `&`; the tokens; the thread's token]
    move ! (2 ∷ 5 ∷ 0 ∷ []) $ opens R bs x a every ! tt refl s (λ n w b o e fits some'. move ! (4 ∷ 7 ∷ []) $
    use2 𝓛 (‵ (owner a v) ⊛ ‵ (fres a.2 (m R bs x))) (token_in R bs x 𝓛 a v s ok) $ split ! $ move ! (2 ∷ 3 ∷ 4 ∷ 5 ∷ 6 ∷ 7 ∷ 0 ∷ []) $
    -- [the count; the right; the name's half; beside the count; the other keys; what shuts; the owner; the mark; the value's `&`; the tokens]
    sets ! (is ! (of_opd ! (get_in ! (fld ! refl (stop !)) (sub ! 0 refl (whole !)))) (ap ptr_val e)) refl (tt, tt) $
    sets ! (of_opd ! (get_in ! (fld ! refl (stop !)) (sub ! 1 refl (whole !)))) refl (Ptr-Good d.at) $ sets ! (of_opd ! (get_in ! (fld ! refl (stop !)) (sub ! 2 refl (whole !)))) refl heap_Good $
    first ! $ blocks ! $ sets_last ! (of_opd ! (load ! (through ! refl (stop !)) (look ! 0 refl))) refl (tt, record { fits = fits }) $ exec ! 𝓣.C 𝓣.Λ En (after 4 fn.body) (at_ret En Post) $
    sets ! (of_opd ! (get ! refl)) refl (tt, record { fits = fits }) $ sets ! (bin ! (get ! refl) (neg_lit ! tt) tt) refl (tt, tt) $ first ! $ branches ! (get ! refl)
    (λ _. sets ! (agg ! (and_then ! (lit ! tt) (no_more !))) refl (tt, none) $ shuts R bs x a every ! tt n w b o e $
    use0 𝓛 (‵ (Out.own_val None (live 0 vnil ∷ []))) (none_of 𝓛 (Both R)) $ returns_within ! Post refl (look_at ! 0 refl) $ free_all ! refl $ keep ! (0 ∷ 5 ∷ 1 ∷ []) $
    suffices ! _ (ends_at 𝓛 E hs c z (live 0 vnil) None (tt, tt) (tt, tt)) $ nothing ! $ nothing ! $ fjoin ! $ join ! $ move ! (1 ∷ 0 ∷ []) $ join ! $ frame ! $ says ! tt $ done !)
    (λ counted'. skips ! $ exec ! 𝓣.C 𝓣.Λ En (after 7 fn.body) (at_ret En Post) $ let below = is_not n (2 ^ 64 - 1) counted' in
    sets ! (bin ! (get ! refl) (lit ! tt) tt) refl (tt, tt) $ first ! $ branches ! (get ! refl)
    (λ many. let more : 1 < n = omega (arith, some', is_not n 1 many) in let f₁ : n - 1 < 2 ^ 64 = omega (arith, fits) in
    blocks ! $ sets ! (bin ! (get ! refl) (lit ! tt) some') refl (tt, record { fits = f₁ }) $ assigns ! (of_opd ! (get ! refl)) (through ! refl (stop !)) (store ! 0 refl (tt, record { fits = f₁ })) $
    sets ! (agg ! (and_then ! (lit ! tt) (no_more !))) refl (tt, none) $
    move ! (3 ∷ 6 ∷ []) $ use2 𝓛 (‵ (B R bs x a (n - 1) true)) (one_less R bs x a 𝓛 n w v below more) $ move ! (1 ∷ 2 ∷ 3 ∷ 0 ∷ 4 ∷ 5 ∷ []) $ shuts R bs x a every ! tt (n - 1) true b o e $
    use0 𝓛 (‵ (Out.own_val None (live 0 vnil ∷ []))) (none_of 𝓛 (Both R)) $ returns_within ! Post refl (look_at ! 0 refl) $ free_all ! refl $ keep ! (0 ∷ 4 ∷ 1 ∷ []) $
    suffices ! _ (ends_at 𝓛 E hs c z (live 0 vnil) None (tt, tt) (tt, tt)) $ nothing ! $ nothing ! $ fjoin ! $ join ! $ move ! (1 ∷ 0 ∷ []) $ join ! $ frame ! $ says ! tt $ done !)
    (λ one. skips ! $ exec ! 𝓣.C 𝓣.Λ En (after 9 fn.body) (at_ret En Post) $
    let number : (Parts usize).Denot = record { at = d.count; alloc = d.alloc; value = n } in
    let value : (Parts R).Denot = record { at = d.at; alloc = d.alloc; value = x } in
    let pair = both_word d.count d.at in
    let good = some_Good (lone (Both R).mir) pair (both_Good R d.count d.at) in
    sets ! (is ! (agg ! (and_then ! (get ! refl) (and_then ! (get ! refl) (no_more !)))) (ap pair_word (sym e))) refl (pair_Good usize d.count) $
    sets ! (agg ! (and_then ! (get ! refl) (and_then ! (get ! refl) (no_more !)))) refl (pair_Good R d.at) $ sets ! (agg ! (and_then ! (get ! refl) (and_then ! (get ! refl) (no_more !)))) refl (both_Good R d.count d.at) $
    sets ! (agg ! (and_then ! (lit ! tt) (and_then ! (get ! refl) (no_more !)))) refl good $
    move ! (3 ∷ 6 ∷ []) $ use2 𝓛 (later (‵ (V R bs x) ⊛ ‵ (fdead (alive a)))) (last R bs x a 𝓛 n w v (is_so n 1 one)) $ await ! tt $ split ! $
    -- [the value; that ν has ended; the count; the right; the name's half; the other keys; what shuts; the mark; the value's `&`; the tokens]
    move ! (1 ∷ 5 ∷ 6 ∷ []) $ use3 𝓛 (later (‵ (ftok every))) (shut_gone R bs x a 𝓛 every) $ await ! tt $ move ! (2 ∷ 3 ∷ []) $ count_in R bs x ! n b o e $ parts_made usize ! number $
    move ! (2 ∷ []) $ parts_made R ! value $ move ! (1 ∷ 0 ∷ []) $ both_made R ! number value $
    use1 𝓛 (‵ (Out.own_val (Some (number, value)) (live 1 (vcons pair vnil) ∷ []))) (Some-of 𝓛 (Both R) (number, value) pair) $ returns ! (look_at ! 0 refl) $ free_all ! refl $ keep ! (0 ∷ 5 ∷ 1 ∷ []) $
    suffices ! _ (ends_at 𝓛 E hs c z (live 1 (vcons pair vnil)) (Some (number, value)) (tt, tt) (tt, tt)) $ nothing ! $ nothing ! $ fjoin ! $ join ! $ move ! (1 ∷ 0 ∷ []) $ join ! $ frame ! $ says ! refl $ done !)))))))))
