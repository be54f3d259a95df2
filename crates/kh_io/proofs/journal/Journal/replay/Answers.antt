use Rattle.std.proofs.Common.{◌≤◌, length, sym}
use Rattle.std.proofs.lemmas.List.{length-take-le}
use Rattle.kh_io.proofs.Calls.{length-calls_of, calls_of-take}
use Rattle.kh_io.proofs.journal.Journal.replay.Goals as goal

pub slice_bounds-replayed-end : goal.slice_bounds-replayed-end
slice_bounds-replayed-end c =
    let within : c.args.calls ≤ length c.self.inside.entries.items = rw (← c.self.view_is, length-calls_of) at c.requires in
    rw c.deref.ensures.value (sym (length-take-le c.args.calls c.self.inside.entries.items within))

pub returns : goal.returns
returns c = rw (← c.self.view_is, ← calls_of-take c.args.calls c.self.inside.entries.items c.self.inside.bytes.items)
    (rw (c.deref.ensures.value, c.deref-2.ensures.value) at c.replayed.ensures)
