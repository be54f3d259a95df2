use Rattle.std.proofs.Common.{ℕ, refl, arith, rules, ◌∙◌, Err, Option}
use Rattle.std.specs.Prelude.{IsErrOf}
use Rattle.kh_io.proofs.{asks_none, asks_both}
use Rattle.kh_log.specs.declared.error.LogError.TheVariants.{NotALog}
use Rattle.kh_log.proofs.Walk.{told_start, still_long, walked, told_closed, told_lacks}
use Rattle.kh_log.proofs.gates.last_gate.Goals as goal

pub loop-next-init : goal.loop-next-init
loop-next-init g c = record {
  told = told_start _ c.args.len c.requires.some c.requires.len;
  len = c.requires.len;
  bound = omega arith;
  within = omega (arith, c.requires.some);
  asks = asks_none (g.D.Disk.view c.args.disk.now) (g.met.D.Disk.only_now c.args.disk.now);
  faults = refl;
}

pub loop-next-preserved : goal.loop-next-preserved
loop-next-preserved g c =
    let on = rw c.in-Some.is at c.in_ok-next.ensures.on in
    let there = rw c.in-Some.is at c.in_ok-next.ensures.open in
    let i = c.loop-next.invariant in
    let e = c.gate_behind.ensures in
    let kept = (e.asks.files c.args.file c.requires.file).read in
    record {
      told = walked _ _ _ c.loop-next.at c.loop-next.count c.in-Some.next i.told kept there;
      len = still_long _ _ c.args.len kept i.len;
      bound = omega (arith, on.0, i.bound);
      within = on.1;
      asks = asks_both i.asks e.asks;
      faults = c.in_ok-next.ensures.cause.no_fault (λ e. cc) ∙ i.faults;
    }

pub returns-in_err-next-clause-lacks : goal.returns-in_err-next-clause-lacks
returns-in_err-next-clause-lacks g c = λ o is.
    let same : IsErrOf {T = Option ℕ} (Err c.in_err-next.field-0.0) (NotALog o) = search rules in
    let k = c.in_err-next.ensures.lacks o same in
    rw k.0 (told_lacks _ _ _ c.loop-next.at c.loop-next.count c.args.len c.requires.some c.loop-next.invariant.len c.loop-next.invariant.told k.1)

pub returns-clause-last : goal.returns-clause-last
returns-clause-last g c =
    told_closed _ _ _ c.loop-next.at c.loop-next.count c.loop-next.invariant.told (rw c.in_default.is at c.in_ok-next.ensures.closed)

pub returns-in_err-next-clause-asks : goal.returns-in_err-next-clause-asks
returns-in_err-next-clause-asks g c = asks_both c.loop-next.invariant.asks c.gate_behind.ensures.asks

pub returns-clause-asks : goal.returns-clause-asks
returns-clause-asks g c = asks_both c.loop-next.invariant.asks c.gate_behind.ensures.asks
