-- A walk that holds the thread's token, which opens the state of a shared pointer. Assumes `Logic`.
use Rattle.std.proofs.Common.{subst}
use seplogic.Ra.Ura.{Ura}
use mir.Syntax.{Fn, Callee}
use base.Logic.{ent, via, fst∗, snd∗}
use base.Mask.{every}
use prog.Wp.{WpFn, Tables, Closed}
use prog.Model.{Model}
use sound.WpLaws.{WpFn-mono}
use types.Logic.{Logic, sem}
use contract.Monad.{fact_use}
use contract.Beside.{Carries}
use contract.Running.{Running, tables_of, bare_tables}
use denote.RattleType.{owns}
use denote.Laws.{Ises, Are, owns_show, showss}
use denote.Signature.{types_at}
use denote.Triple.Clauses.{Ended, Clauses, closing}
use denote.Triple.Entry.{on_entry, alive}
use denote.Triple.Handed.{holding, hands}
use denote.Triple.Spec.{Meets, triple_of}
use denote.Triple.Table.{entered}
use denote.Triple.Walked.{Stays, AllGo, walk_of, walk_Meets}

module _ {M : Type 1} {𝓤 : Ura M} (𝓛 : Logic 𝓤) (T : Ended) (hs : Stays T.signature.params T.kept) (c : Clauses 𝓤 T) (𝓜 : Model 𝓤 𝓛.H) (𝓡 : Running 𝓤 𝓛.H 𝓜) where
  open 𝓛 use {H, A}

  abbrev pub with_token : Clauses 𝓤 T
  with_token = holding 𝓤 T (A.tok every) c

  abbrev pub carried : Carries 𝓤 H 𝓜 (A.tok every)
  carried = subst (Carries 𝓤 H 𝓜) 𝓛.turn_is 𝓡.carries

  abbrev pub inner : Tables 𝓤 H
  inner = tables_of 𝓤 H carried.inner (bare_tables 𝓤 H carried.inner 𝓡.allowed 𝓡.how 𝓡.env)

  pub proved_holding : AllGo 𝓛 T.signature.lifetimes T.signature.params T.kept hs → (k : Callee) (e : Fn) → Closed 𝓤 H inner.C inner.Λ k e
      → ((y : (walk_of 𝓛 T hs with_token).Ghost) → Are (types_at T.signature.params y.0.0) (Ises (types_at T.signature.params y.0.0)) y.0.3 y.0.4
      → ent 𝓤 ((walk_of 𝓛 T hs with_token).pre y) (WpFn 𝓤 H inner.C inner.Λ e ((walk_of 𝓛 T hs with_token).args y) ((walk_of 𝓛 T hs with_token).post y)))
      → Meets 𝓛 T.signature (𝓡.run (𝓡.env k)) (closing 𝓛 T c)
  unfolding tables_of
  proved_holding go k e closed walk = hands 𝓛 T (A.tok every) c 𝓜 carried 𝓡 (𝓡.env k)
      (entered 𝓤 H (triple_of 𝓛 T.signature (closing 𝓛 T with_token)) inner.C inner.Λ k e closed
      (walk_Meets 𝓛 T hs go with_token (WpFn 𝓤 H inner.C inner.Λ e) (WpFn-mono 𝓤 H 𝓛.laws inner e) (λ y. let Rs = types_at T.signature.params y.0.0 in let a = y.0.3 in let vss = y.0.4 in
      fact_use 𝓤 (Are Rs (Ises Rs) a vss) (via 𝓤 (sem 𝓛 (owns Rs a vss)) (via 𝓤 (on_entry 𝓛 T.signature y.0.0 y.0.1 a vss) (fst∗ 𝓤 (on_entry 𝓛 T.signature y.0.0 y.0.1 a vss) ((with_token y.0.0 a).requires y.1))
      (snd∗ 𝓤 (alive 𝓛 T.signature y.0.0 y.0.1) (sem 𝓛 (owns Rs a vss)))) (owns_show 𝓛 Rs (Ises Rs) (showss 𝓛 Rs) a vss)) (walk y))))
