-- `of_counted` makes the two blocks a shared pointer with one owner.
use Rattle.std.proofs.Common.{◌≡◌, ◌<◌, List, [], ◌∷◌, ◌++◌, refl}
use mir.Syntax.{Fn, a_type}
use mir.Val.{Val}
use mir.MapTy.{inst_fn}
use base.Logic.{SProp, id⊢}
use base.Fml.{Lft, Share, ftrue, flft}
use prog.Wp.{WpFn}
use contract.BorrowLft.{◌⊑◌}
use contract.Monad.{fact}
use contract.Running.{tables}
use denote.RattleType.{RattleType, owns}
use denote.Builtin.{usize}
use denote.Exit.{yes, no}
use denote.Param.{param, layouts}
use denote.Param.Laws.{param_laws}
use denote.Signature.{plain, types_at}
use denote.Steps.{heard, nothing}
use denote.Triple.Entry.{alive}
use denote.Triple.Walked.{Stays, stay_dropped, walk_of, ends_at, Goes-dropped}
use types.Kit.{‵, raw, ◌⊛◌, later, prop, ◌$◌, ◌∵◌, !, qed, move, keep, use1, use3, split, join, await, rewrite, regoal, fsplit, fjoin3, suffices, done}
use types.Part.{whole, sub, agg}
use types.Run.{stop, fld, no_more, and_then, of_opd, returns, enter}
use types.ByLocal.{alloc_all, pass_all, free_all, look_at, get, get_in, sets}
use Rattle.std.proofs.mem.Facts.{says_two}
use Rattle.std.proofs.raw_atomic.Walks.{proved_at}
use Rattle.std.specs.Box.Ownership.{box_owns}
use Rattle.std.specs.contracts.impls.GlobalAllocator.TheImpl.{ghosts}
use Rattle.kh_shared.specs.Ownership.{Blocks, full, shared_owns}
use Rattle.kh_shared.proofs.Owners.{made}
use Rattle.kh_shared.proofs.Words.{Heap, Sh, Parts, word, pair_word, Ptr-Good, heap_Good, word_Good, pair_Good, parts_had, shared_made}
use Rattle.kh_shared.specs.contracts.shared.Shared.of_counted.{ended, clauses}
use Rattle.kh_shared.specs.contracts.shared.Shared.of_counted.Key.{name as #self}
use Rattle.kh_shared.proofs.shared.Shared.of_counted.Statement.{statement}
use Rattle.kh_shared.proofs.shared.Shared.of_counted.Code as compiled

pub of_counted_spec : {M : Type 1} → statement M
of_counted_spec 𝓤 𝓛 𝓜 𝓡 wired X L =
    let R : RattleType = param 0 X in
    let LR = param_laws 0 X L in
    let H = 𝓛.H in
    let T = ended X in
    let c₀ = clauses X 𝓛 𝓜.mem 𝓡.returns in
    let inst = layouts (a_type ∷ []) (X, tt) in
    let fn : Fn = inst_fn inst compiled.function in
    let hs : Stays T.signature.params T.kept = (stay_dropped (plain (λ _. Parts usize)) yes, (stay_dropped (plain (λ _. Parts R)) no, tt)) in
    let 𝓣 = tables 𝓤 H 𝓜 𝓡 𝓡.env in
    let lfts = T.signature.lifetimes in
    proved_at 𝓛 T hs c₀ 𝓜 𝓡
    (Goes-dropped 𝓛 lfts (plain (λ _. Parts usize)) yes (λ κs x f. refl), (Goes-dropped 𝓛 lfts (plain (λ _. Parts R)) no (λ κs x f. refl), tt))
    (#self inst) fn (compiled.unfolded 𝓤 H 𝓜 𝓡 wired (X, tt)) (λ z are.
    let Post : Val → SProp 𝓤 = (walk_of 𝓛 T hs c₀).post z in
    let a = z.0.3 in
    let vss = z.0.4 in
    let κ : Lft = z.0.0.0 in
    let q : Share = z.0.1.0 in
    let n = a.0 in
    let v = a.1.0 in
    let bs : Blocks = record { heap = v.alloc; count = n.at; at = v.at; mark = R.coded.code v.value } in
    let d : (Sh R).Denot = record { count = n.at; at = v.at; alloc = v.alloc; value = v.value; mark = R.coded.code v.value } in
    qed 𝓛 ((raw (alive 𝓛 T.signature z.0.0 z.0.1) ⊛ ‵ (owns (types_at T.signature.params z.0.0) a vss)) ∷ (raw (fact 𝓤 (κ ⊑ X.lives)) ⊛ raw (fact 𝓤 (0 < n.value)) ⊛ raw (fact 𝓤 (n.value < full)) ⊛ raw (fact 𝓤 (n.alloc ≡ v.alloc))) ∷ []) ∵
    move ! (1 ∷ []) $ split ! $ heard ! (κ ⊑ X.lives) (λ within. split ! $ heard ! (0 < n.value) (λ some'. split ! $ heard ! (n.value < full) (λ room. heard ! (n.alloc ≡ v.alloc) (λ same.
    split ! $ use1 𝓛 (‵ (flft κ q) ⊛ ‵ ftrue) (id⊢ 𝓤 _) $ split ! $ move ! (2 ∷ []) $ fsplit ! $ parts_had usize ! n vss.0 (λ e₀. move ! (1 ∷ []) $ fsplit ! $ parts_had R ! v vss.1.0 (λ e₁.
    -- [the value; the end of the list; the count; κ; no more tokens]
    move ! (2 ∷ []) $ rewrite ! 0 (λ (k : Heap.Denot). ‵ (box_owns (ghosts.dealloc_token k) usize n.at n.value)) same refl $
    keep ! (0 ∷ 1 ∷ 3 ∷ 4 ∷ []) $
    regoal ! (λ (us : List Val). prop (WpFn 𝓤 H 𝓣.C 𝓣.Λ fn us Post)) (λ i. e₀ i ++ (e₁ i ++ [])) refl $
    enter ! 𝓣.C 𝓣.Λ fn (pair_word n.at ∷ pair_word v.at ∷ []) Post $ alloc_all ! (λ l. pass_all ! refl (pair_Good usize n.at, (pair_Good R v.at, tt)) $
    use3 𝓛 (later (‵ (shared_owns R bs v.value) ⊛ ‵ (flft κ q))) (made R LR bs v.value 𝓛 n.value some' room κ q within) $ await ! tt $ split ! $
    sets ! (of_opd ! (get_in ! (fld ! refl (stop !)) (sub ! 0 refl (whole !)))) refl (Ptr-Good n.at) $
    sets ! (of_opd ! (get_in ! (fld ! refl (stop !)) (sub ! 0 refl (whole !)))) refl (Ptr-Good v.at) $
    sets ! (of_opd ! (get_in ! (fld ! refl (stop !)) (sub ! 1 refl (whole !)))) refl heap_Good $
    sets ! (agg ! (and_then ! (get ! refl) (and_then ! (get ! refl) (and_then ! (get ! refl) (no_more !))))) refl (word_Good R n.at v.at) $
    shared_made R ! d $ returns ! (look_at ! 0 refl) $ free_all ! refl $
    suffices ! _ (ends_at 𝓛 T hs c₀ z (word n.at v.at) d (tt, (tt, tt)) (tt, (tt, tt))) $ says_two ! (refl, refl) $
    nothing ! $ nothing ! $ nothing ! $ fjoin3 ! $ move ! (2 ∷ 3 ∷ []) $ join ! $ keep ! (0 ∷ 1 ∷ 2 ∷ []) $ done !))))))))
