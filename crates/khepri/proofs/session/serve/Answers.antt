use Rattle.std.proofs.Common.{◌≡◌, ◌∙◌, length, drop, refl, arith}
use Rattle.std.proofs.lemmas.List.{drop_all}
use Rattle.kh_io.specs.Disk.{AreImages}
use Rattle.kh_io.proofs.{kept_same, kept_both, caused_later}
use Rattle.kh_store.specs.Store.{state_of}
use Rattle.kh_store.proofs.{stands_recovers}
use Rattle.khepri.proofs.Admitted.{line_is_command}
use Rattle.khepri.proofs.Lines.{counts, nothing_served, one_line, no_reply, left_one_of, to_fault, to_cut, to_front, some_left, rests_at_end, rests_cut}
use Rattle.khepri.proofs.session.serve.Goals as goal

pub lines-init : goal.lines-init
lines-init g c =
    let v = g.H.Disk.view c.args.host.now in
    record {
      within = c.requires.within;
      given = nothing_served (record { is_end = c.args.is_end; bytes = drop c.args.at c.args.input.now }) (state_of c.args.store.now) v (λ files s left.
          let now = g.met.H.Disk.only_now c.args.host.now files s left in
          (stands_recovers c.args.store.now v c.requires.stands files now.images, now.stamp));
      stands = c.requires.stands;
      untaken = record { input = kept_same v.left; told = λ file lt some. some };
      reads = refl;
      writes = refl;
      disk = refl;
    }

pub answer-requires-clause-command : goal.answer-requires-clause-command
answer-requires-clause-command g c =
    let line = rw c.in-Ok-Form.field-0-is at c.in-Ok-Form.ensures in
    line_is_command c.args.is_end (drop c.lines.place c.args.input.now) c.in-Ok-Form.form (drop c.in-Ok-Form.next c.args.input.now) line.0

pub returns-in-Err-answer-clause-stops : goal.returns-in-Err-answer-clause-stops
returns-in-Err-answer-clause-stops g c =
    let line = rw c.in-Ok-Form.field-0-is at c.in-Ok-Form.ensures in
    let before = c.lines.invariant in
    let call = c.in-Err-answer.ensures in
    let v = g.H.Disk.view c.lines.host in
    let w = g.H.Disk.view c.answer.new.host in
    no_reply (record { is_end = c.args.is_end; bytes = drop c.args.at c.args.input.now }) (drop c.lines.place c.args.input.now) (drop c.in-Ok-Form.next c.args.input.now)
    (state_of c.args.store.now) (state_of c.lines.store) c.in-Ok-Form.form (g.H.Disk.view c.args.host.now) v w c.in-Err-answer.stop
    (counts _ _ (g.met.H.Disk.stamp_counts c.args.host.now)) (counts _ _ (g.met.H.Disk.stamp_counts c.lines.host)) (counts _ _ (g.met.H.Disk.stamp_counts c.answer.new.host))
    before.given line.0 call.front call.in_doubt call.during
    (left_one_of c.in-Ok-Form.form (state_of c.lines.store) v w call.during (λ files images. g.met.H.Disk.counts_now c.answer.new.host v.moment files call.during.later images)) call.stops

pub lines-preserved : goal.lines-preserved
lines-preserved g c =
    let u = g.H.Disk.view c.args.host.now in
    let v = g.H.Disk.view c.lines.host in
    let w = g.H.Disk.view c.answer.new.host in
    let before = c.lines.invariant in
    let call = c.in_default.ensures in
    let line = rw c.in-Ok-Form.field-0-is at c.in-Ok-Form.ensures in
    record {
      within = line.2;
      given = one_line (record { is_end = c.args.is_end; bytes = drop c.args.at c.args.input.now }) (drop c.lines.place c.args.input.now) (drop c.in-Ok-Form.next c.args.input.now)
          (state_of c.args.store.now) (state_of c.lines.store) (state_of c.answer.new.store) c.in-Ok-Form.form u v w
          (counts _ _ (g.met.H.Disk.stamp_counts c.args.host.now)) (counts _ _ (g.met.H.Disk.stamp_counts c.lines.host)) (counts _ _ (g.met.H.Disk.stamp_counts c.answer.new.host))
          before.given line.0 call.answered.0 call.during call.answered.1;
      stands = call.stands (λ e. cc);
      untaken = record {
        input = kept_both u.left v.left w.left before.untaken.input call.untaken.input;
        told = λ file lt some. before.untaken.told file lt (call.untaken.told file lt some);
      };
      reads = call.causes.reads.no_fault (λ e. cc) ∙ before.reads;
      writes = call.causes.writes.no_fault (λ e. cc) ∙ before.writes;
      disk = call.causes.disk.no_fault (λ e. cc) ∙ before.disk;
    }

pub returns-in-Ok-End-clause-served : goal.returns-in-Ok-End-clause-served
returns-in-Ok-End-clause-served g c =
    let at_end : c.lines.place ≡ length c.args.input.now = rw c.in-Ok-End.field-0-is at c.in-Ok-End.ensures in
    record {
      given = c.lines.invariant.given;
      rests = rests_at_end c.args.is_end (drop c.lines.place c.args.input.now) (drop_all c.lines.place c.args.input.now (omega arith));
    }

pub returns-in-Ok-Fault-clause-stops : goal.returns-in-Ok-Fault-clause-stops
returns-in-Ok-Fault-clause-stops g c =
    to_fault (record { is_end = c.args.is_end; bytes = drop c.args.at c.args.input.now }) (drop c.lines.place c.args.input.now) (state_of c.args.store.now) (state_of c.lines.store)
    (g.H.Disk.view c.args.host.now) (g.H.Disk.view c.lines.host) c.lines.invariant.given (rw c.in-Ok-Fault.field-0-is at c.in-Ok-Fault.ensures)

pub returns-then-is_end-clause-stops : goal.returns-then-is_end-clause-stops
returns-then-is_end-clause-stops g c =
    let line = rw c.in-Ok-Unfinished.field-0-is at c.in-Ok-Unfinished.ensures in
    to_cut c.args.is_end (drop c.args.at c.args.input.now) (drop c.lines.place c.args.input.now) (state_of c.args.store.now) (state_of c.lines.store)
    (g.H.Disk.view c.args.host.now) (g.H.Disk.view c.lines.host) c.if-is_end.true c.lines.invariant.given
    (some_left c.args.input.now c.lines.place line.0) line.1

pub returns-else-is_end-clause-served : goal.returns-else-is_end-clause-served
returns-else-is_end-clause-served g c =
    let line = rw c.in-Ok-Unfinished.field-0-is at c.in-Ok-Unfinished.ensures in
    record {
      given = c.lines.invariant.given;
      rests = rests_cut c.args.is_end (drop c.lines.place c.args.input.now) c.if-is_end.false
          (some_left c.args.input.now c.lines.place line.0) line.1;
    }

pub returns-in-Err-clause-stops : goal.returns-in-Err-clause-stops
returns-in-Err-clause-stops g c =
    let w = g.H.Disk.view c.lines.host in
    to_front (record { is_end = c.args.is_end; bytes = drop c.args.at c.args.input.now }) (drop c.lines.place c.args.input.now) (state_of c.args.store.now) (state_of c.lines.store)
    (g.H.Disk.view c.args.host.now) w (stands_recovers c.lines.store w c.lines.invariant.stands) c.lines.invariant.given
