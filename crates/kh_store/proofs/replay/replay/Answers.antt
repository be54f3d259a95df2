use Rattle.std.proofs.Common.{◌≡◌, ◌+◌, ◌-◌, ◌<◌, ℕ, length, Ok, Err, Some, refl, sym, ap, subst, ◌∙◌, arith, List}
use Rattle.std.specs.Prelude.{slice_get, IfSome}
use Rattle.kh_io.specs.Frames.{FileTold}
use Rattle.kh_io.proofs.{asks_none, asks_both}
use Rattle.kh_log.specs.Records.{records_of}
use Rattle.kh_log.specs.Log.{Place, Holds}
use Rattle.kh_store.specs.Recovery.{IsNoRecord}
use Rattle.kh_store.specs.Opening.{IsRecord, IsTooLong}
use Rattle.kh_store.specs.State.{State}
use Rattle.kh_store.specs.Tree.{Node}
use Rattle.kh_store.proofs.Replaying.{record_within, told_none, told_more, told_refused, told_too_long, told_all, next_none, next_more}
use Rattle.kh_store.proofs.replay.replay.Goals as goal

pub overflow_add-result : goal.overflow_add-result
overflow_add-result g c = omega (arith, c.records.invariant.within)

pub records-init : goal.records-init
records-init g c = record {
  replayed = told_none _ _ _ (ap (λ (nodes : List Node). record { nodes = nodes; span = 0 }) c.in_ok-tree.ensures) c.requires.none;
  holds = c.requires.found;
  span = next_none _ c.args.log.now c.requires.found c.requires.none;
  within = omega arith;
  file = c.requires.file;
  last = refl;
  asks = asks_none (g.H.Disk.view c.args.host.now) (g.met.H.Disk.only_now c.args.host.now);
  faults = refl;
}

pub records-preserved : goal.records-preserved
records-preserved g c =
    let host = g.H.Disk in
    let i = c.records.invariant in
    let e = c.next_record.ensures in
    let kept = (e.asks.files 1 (omega arith)).read in
    let bytes = c.in-Some.bytes.items in
    let passed = (rw c.in-Some.is at c.in_ok-bytes.ensures.passed).is in
    let P : ℕ → Type 0 = λ file. FileTold file (host.view c.records.host) (host.view c.next_record.new.host) (λ was _. slice_get (records_of was) c.records.log.read ≡ Some bytes) in
    let got = subst P i.file (rw c.in-Some.is at c.in_ok-bytes.ensures.next) in
    let done = rw c.in-Some-2.is at c.in_ok-next.ensures.applied in
    let old : State = record { nodes = c.records.tree; span = c.records.span } in
    let len : c.len.result ≡ length bytes = omega (arith, c.len.ensures, c.in-Some.bytes.ok) in
    let moved : c.next_record.new.log.next ≡ c.records.log.next + (5 + c.len.result) = omega (arith, ap (λ (p : Place). p.next) passed, len) in
    let to : c.records.span + 5 + length c.deref.result.now ≡ c.records.span + (5 + c.len.result) = omega (arith, len, ap length c.deref.ensures.value) in
    let is : IsRecord bytes old (record { nodes = c.in-Some-2.next; span = c.records.span + (5 + c.len.result) }) =
    subst (λ (l : List ℕ). IsRecord l old (record { nodes = c.in-Some-2.next; span = c.records.span + (5 + c.len.result) })) c.deref.ensures.value
    (subst (λ n. IsRecord c.deref.result.now old (record { nodes = c.in-Some-2.next; span = n })) to done) in
    record {
      replayed = told_more _ _ _ (record { nodes = c.records.tree; span = c.records.span }) _ c.records.log.read c.next_record.new.log.read bytes i.replayed kept got is (ap (λ (p : Place). p.read) passed);
      holds = subst (λ file. IfSome ((host.view c.next_record.new.host).seen file) (Holds c.next_record.new.log)) i.file e.holds;
      span = next_more _ _ c.records.span (5 + c.len.result) c.records.log.next c.next_record.new.log.next kept i.span moved;
      within = omega (arith, record_within bytes _ _ is, len);
      file = ap (λ (p : Place). p.file) passed ∙ i.file;
      last = ap (λ (p : Place). p.last) passed ∙ i.last;
      asks = asks_both i.asks e.asks;
      faults = c.in_ok-bytes.ensures.cause.no_fault (λ e. cc) ∙ i.faults;
    }

pub returns-in_default-2-clause-damaged : goal.returns-in_default-2-clause-damaged
returns-in_default-2-clause-damaged g c = λ file offset is.
    let host = g.H.Disk in
    let i = c.records.invariant in
    let one : file ≡ 1 = cc in
    let at : offset ≡ c.records.span + 1 = cc in
    let bytes = c.in-Some.bytes.items in
    let P : ℕ → Type 0 = λ file. FileTold file (host.view c.records.host) (host.view c.next_record.new.host) (λ was _. slice_get (records_of was) c.records.log.read ≡ Some bytes) in
    let got = subst P i.file (rw c.in-Some.is at c.in_ok-bytes.ensures.next) in
    let refused = rw c.in_default-2.is at c.in_ok-next.ensures.refused in
    told_refused _ _ _ (record { nodes = c.records.tree; span = c.records.span }) c.records.log.read file offset bytes i.replayed got
    (subst (λ (l : List ℕ). IsNoRecord l (record { nodes = c.records.tree; span = c.records.span })) c.deref.ensures.value refused) one at

pub returns-clause-recovered : goal.returns-clause-recovered
returns-clause-recovered g c =
    let i = c.records.invariant in
    let kept = (c.next_record.ensures.asks.files 1 (omega arith)).read in
    let ended = rw c.in_default.is at c.in_ok-bytes.ensures.ended in
    told_all _ _ _ c.records.tree c.records.span c.records.log c.next_record.new.log i.replayed kept i.holds i.span ended.all_read ended.same

pub returns-in_err-bytes-clause-asks : goal.returns-in_err-bytes-clause-asks
returns-in_err-bytes-clause-asks g c = asks_both c.records.invariant.asks c.next_record.ensures.asks

pub returns-in_err-next-clause-asks : goal.returns-in_err-next-clause-asks
returns-in_err-next-clause-asks g c = asks_both c.records.invariant.asks c.next_record.ensures.asks

pub returns-in_default-2-clause-asks : goal.returns-in_default-2-clause-asks
returns-in_default-2-clause-asks g c = asks_both c.records.invariant.asks c.next_record.ensures.asks

pub returns-clause-asks : goal.returns-clause-asks
returns-clause-asks g c = asks_both c.records.invariant.asks c.next_record.ensures.asks

pub returns-in_err-bytes-clause-damaged : goal.returns-in_err-bytes-clause-damaged
returns-in_err-bytes-clause-damaged g c = λ file offset is.
    let host = g.H.Disk in
    let i = c.records.invariant in
    let P : ℕ → Type 0 = λ this. FileTold this (host.view c.records.host) (host.view c.next_record.new.host)
    (λ was _. (file ≡ this) × (offset ≡ c.records.span + 1) × IsTooLong (records_of was) c.records.log.read) in
    let from = rw is at c.from_residual-in_err-bytes.ensures in
    let long = subst P i.file (c.in_err-bytes.ensures.damaged file offset (ap Err (sym from.1))) in
    told_too_long _ _ _ (record { nodes = c.records.tree; span = c.records.span }) c.records.log.read file offset i.replayed long

pub records-smaller : goal.records-smaller
records-smaller g c =
    let p = rw c.in-Some.is at c.in_ok-bytes.ensures.passed in
    let less : c.next_record.new.log.records - c.next_record.new.log.read < c.records.log.records - c.records.log.read =
    omega (arith, p.left, ap (λ (l : Place). l.read) p.is, ap (λ (l : Place). l.records) p.is) in
    less
