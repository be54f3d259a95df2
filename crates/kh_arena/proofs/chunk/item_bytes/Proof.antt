-- `item_bytes` answers what the machine knows of the size, which is the size where it is small.
use Rattle.std.proofs.Common.{◌<◌, ◌^◌, List, [], ◌∷◌, refl, arith, w64}
use mir.Syntax.{Fn}
use mir.Val.{Val, vint}
use mir.MapTy.{inst_fn}
use base.Logic.{SProp}
use prog.Memory.{capped}
use prog.Capped.{capped_fits, capped_is, capped_small}
use contract.Running.{tables}
use denote.RattleType.{owns}
use denote.Signature.{types_at}
use denote.Steps.{nothing}
use denote.Triple.Entry.{alive}
use denote.Triple.Walked.{Stays, walk_of, says, ends_at}
use types.Kit.{‵, raw, ◌⊛◌, ◌$◌, ◌∵◌, !, qed, move, keep, split, flt_i, fjoin, feq_i, suffices, done}
use types.Run.{size_word, of_opd, returns, enter}
use types.ByLocal.{alloc_all, pass_all, free_all, look_at, sets}
use Rattle.std.proofs.mem.Param.{El, args}
use Rattle.std.proofs.raw_atomic.Walks.{proved_at}
use Rattle.kh_arena.proofs.Places.{sz}
use Rattle.kh_arena.specs.contracts.chunk.item_bytes.{ended, clauses}
use Rattle.kh_arena.specs.contracts.chunk.item_bytes.Key.{name as #self}
use Rattle.kh_arena.proofs.chunk.item_bytes.Statement.{statement}
use Rattle.kh_arena.proofs.chunk.item_bytes.Code as compiled

pub item_bytes_spec : {M : Type 1} → statement M
item_bytes_spec 𝓤 𝓛 𝓜 𝓡 wired X L =
    let E : El = record { row = X; laws = L } in
    let H = 𝓛.H in
    let T = ended X in
    let c₀ = clauses X 𝓛 𝓜.mem 𝓡.returns in
    let fn : Fn = inst_fn (args E) compiled.function in
    let hs : Stays T.signature.params T.kept = tt in
    let C = (tables 𝓤 H 𝓜 𝓡 𝓡.env).C in
    let Λ = (tables 𝓤 H 𝓜 𝓡 𝓡.env).Λ in
    proved_at 𝓛 T hs c₀ 𝓜 𝓡 tt (#self (args E)) fn (compiled.unfolded 𝓤 H 𝓜 𝓡 wired (X, tt)) (λ z are.
    let Post : Val → SProp 𝓤 = (walk_of 𝓛 T hs c₀).post z in
    let s = sz E in
    qed 𝓛 ((raw (alive 𝓛 T.signature z.0.0 z.0.1) ⊛ ‵ (owns (types_at T.signature.params z.0.0) z.0.3 z.0.4)) ∷ raw ((c₀ z.0.0 z.0.3).requires z.1) ∷ []) ∵
    split ! $ keep ! (0 ∷ []) $ enter ! C Λ fn [] Post $ alloc_all ! (λ l. pass_all ! refl tt $
    sets ! (of_opd ! (size_word !)) refl (tt, record { fits = capped_fits s }) $ returns ! (look_at ! 0 refl) $ free_all ! refl $
    suffices ! _ (ends_at 𝓛 T hs c₀ z (vint w64 (capped s)) (capped s) tt tt) $
    says ! (λ low. capped_is s (let small : s < 2 ^ 63 = capped_small s (omega (arith, low)) in omega arith)) $
    flt_i ! (capped s) (2 ^ 64) (capped_fits s) $ feq_i ! (List Val) (vint w64 (capped s) ∷ []) (vint w64 (capped s) ∷ []) refl $ fjoin ! $
    nothing ! $ move ! (2 ∷ 0 ∷ 1 ∷ []) $ done !))
