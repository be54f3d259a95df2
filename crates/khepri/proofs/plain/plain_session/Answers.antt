use Rattle.std.proofs.Common.{drop, arith}
use Rattle.khepri.proofs.Lines.{some_left}
use Rattle.khepri.proofs.WholeScript.{plain_starts, plain_on, at_end, at_fault, at_cut}
use Rattle.khepri.proofs.plain.plain_session.Goals as goal

pub lines-init : goal.lines-init
lines-init c = record {
  within = omega arith;
  so_far = rw (c.in_ok-tree.ensures, c.new-text.ensures.items) (plain_starts c.args.script.now);
}

pub returns-in-End : goal.returns-in-End
returns-in-End c = at_end c.args.script.now c.lines.at c.lines.tree c.lines.text.items c.lines.invariant.so_far (rw c.in-End.is at c.in_ok-form.ensures)

pub returns-in-Fault : goal.returns-in-Fault
returns-in-Fault c =
    at_fault c.args.script.now (drop c.lines.at c.args.script.now) c.lines.tree c.lines.text.items c.lines.invariant.so_far (rw c.in-Fault.is at c.in_ok-form.ensures)

pub returns-in-Unfinished : goal.returns-in-Unfinished
returns-in-Unfinished c =
    let line = rw c.in-Unfinished.is at c.in_ok-form.ensures in
    at_cut c.args.script.now (drop c.lines.at c.args.script.now) c.lines.tree c.lines.text.items c.lines.invariant.so_far
    (some_left c.args.script.now c.lines.at line.0) line.1

pub lines-preserved : goal.lines-preserved
lines-preserved c =
    let line = rw c.in-Form.is at c.in_ok-form.ensures in
    let reply = c.in_ok-add_reply-in-Form.ensures in
    record {
      within = line.2;
      so_far = rw (reply.text, reply.tree) (plain_on c.args.script.now (drop c.lines.at c.args.script.now) c.lines.tree c.lines.text.items
          c.in-Form.form (drop c.in-Form.next c.args.script.now) c.lines.invariant.so_far line.0);
    }
