use Rattle.std.proofs.Common.{◌≡◌, ◌<◌, ℕ, sym, ap, subst, arith, ◌∙◌}
use Rattle.std.proofs.lemmas.Int.{to_z-of_z}
use Rattle.std.specs.Prelude.{IfSome, List, Option, is_some, unwrap_or}
use Rattle.kh_store.specs.Tree.{Node}
use Rattle.kh_log.specs.Log.{Holds}
use Rattle.kh_log.specs.Records.{IsClosedAt}
use Rattle.kh_read.specs.declared.form.Form.TheVariants as form
use Rattle.kh_store.specs.Store.{Opened, state_of}
use Rattle.kh_store.proofs.Executing.{stood, closed_left, ready_at, writes, stands_after, logs_it, adds_one, adds_none, no_room, no_place, logged_state}
use Rattle.kh_store.proofs.store.Store.execute_put.Goals as goal

pub returns-in_err-bytes-clause-writes : goal.returns-in_err-bytes-clause-writes
returns-in_err-bytes-clause-writes g c = stood (form.Put c.args.path c.args.number) c.args.self.now (g.H.Disk.view c.args.host.now) (g.met.H.Disk.only_now c.args.host.now) c.requires.stands

pub returns-in_err-store_full-clause-writes : goal.returns-in_err-store_full-clause-writes
returns-in_err-store_full-clause-writes g c = stood (form.Put c.args.path c.args.number) c.args.self.now (g.H.Disk.view c.args.host.now) (g.met.H.Disk.only_now c.args.host.now) c.requires.stands

pub returns-then-not-has_room-clause-writes : goal.returns-then-not-has_room-clause-writes
returns-then-not-has_room-clause-writes g c = stood (form.Put c.args.path c.args.number) c.args.self.now (g.H.Disk.view c.args.host.now) (g.met.H.Disk.only_now c.args.host.now) c.requires.stands

pub returns-in_err-record-clause-writes : goal.returns-in_err-record-clause-writes
returns-in_err-record-clause-writes g c = stood (form.Put c.args.path c.args.number) c.args.self.now (g.H.Disk.view c.args.host.now) (g.met.H.Disk.only_now c.args.host.now) c.requires.stands

pub returns-in_err-applied-clause-writes : goal.returns-in_err-applied-clause-writes
returns-in_err-applied-clause-writes g c = stood (form.Put c.args.path c.args.number) c.args.self.now (g.H.Disk.view c.args.host.now) (g.met.H.Disk.only_now c.args.host.now) c.requires.stands

pub returns-in_default-clause-writes : goal.returns-in_default-clause-writes
returns-in_default-clause-writes g c = stood (form.Put c.args.path c.args.number) c.args.self.now (g.H.Disk.view c.args.host.now) (g.met.H.Disk.only_now c.args.host.now) c.requires.stands

pub append-requires-clause-ready : goal.append-requires-clause-ready
append-requires-clause-ready g c =
    let v = g.H.Disk.view c.args.host.now in
    let stands = c.requires.stands in
    ready_at c.self.inside.log v c.self.invariant.0 c.self.invariant.1
    (subst (λ (s : Opened). IfSome (v.seen 1) (Holds s.place)) (sym c.self.view_is) stands.found)
    (closed_left (v.seen 1) (v.image 1) (IsClosedAt c.self.inside.log.last) stands.safe (subst (λ (s : Opened). IfSome (v.seen 1) (IsClosedAt s.place.last)) (sym c.self.view_is) stands.closed))

pub returns-in-Ok-clause-writes : goal.returns-in-Ok-clause-writes
returns-in-Ok-clause-writes g c =
    let one : 1 < 4 = omega arith in
    let logged = logs_it c.args.path c.args.number _ c.args.self.now _ c.in_ok-bytes.bytes.items c.end.result c.len.result (to_z-of_z _ _ c.ranges.number) c.self.view_is
    (c.in_ok-bytes.ensures.put c.requires.command) (sym c.has_room.ensures ∙ c.if-not-has_room.false) c.end.ensures (omega (arith, c.len.ensures, c.in_ok-bytes.bytes.ok))
    (sym c.in_ok-applied.ensures.logged ∙ ap is_some c.in-Some.is) in
    writes (form.Put c.args.path c.args.number) c.args.self.now (g.H.Disk.view c.args.host.now) (g.H.Disk.view c.append.new.host)
    c.self.inside.log.file c.self.inside.log.last c.in_ok-bytes.bytes.items _ c.self.invariant.0 (ap (λ (s : Opened). s.place.last) c.self.view_is) c.in_ok-record.ensures
    c.requires.stands (λ b none there. g.met.H.Disk.untold_is_not_left c.args.host.now 1 b one none there) logged.replays c.append.ensures.writes

pub returns-clause-writes : goal.returns-clause-writes
returns-clause-writes g c =
    let one : 1 < 4 = omega arith in
    let logged = logs_it c.args.path c.args.number _ c.args.self.now _ c.in_ok-bytes.bytes.items c.end.result c.len.result (to_z-of_z _ _ c.ranges.number) c.self.view_is
    (c.in_ok-bytes.ensures.put c.requires.command) (sym c.has_room.ensures ∙ c.if-not-has_room.false) c.end.ensures (omega (arith, c.len.ensures, c.in_ok-bytes.bytes.ok))
    (sym c.in_ok-applied.ensures.logged ∙ ap is_some c.in-Some.is) in
    writes (form.Put c.args.path c.args.number) c.args.self.now (g.H.Disk.view c.args.host.now) (g.H.Disk.view c.append.new.host)
    c.self.inside.log.file c.self.inside.log.last c.in_ok-bytes.bytes.items _ c.self.invariant.0 (ap (λ (s : Opened). s.place.last) c.self.view_is) c.in_ok-record.ensures
    c.requires.stands (λ b none there. g.met.H.Disk.untold_is_not_left c.args.host.now 1 b one none there) logged.replays c.append.ensures.writes

pub returns-in-Ok-clause-stands : goal.returns-in-Ok-clause-stands
returns-in-Ok-clause-stands g c =
    let logged = logs_it c.args.path c.args.number _ c.args.self.now _ c.in_ok-bytes.bytes.items c.end.result c.len.result (to_z-of_z _ _ c.ranges.number) c.self.view_is
    (c.in_ok-bytes.ensures.put c.requires.command) (sym c.has_room.ensures ∙ c.if-not-has_room.false) c.end.ensures (omega (arith, c.len.ensures, c.in_ok-bytes.bytes.ok))
    (sym c.in_ok-applied.ensures.logged ∙ ap is_some c.in-Some.is) in
    let state = logged_state c.args.path c.args.number _ c.args.self.now _ c.in_ok-bytes.bytes.items c.in-Some.tree c.append.new.self _ (to_z-of_z _ _ c.ranges.number) c.self.view_is
    logged (ap (λ (o : Option (List Node)). unwrap_or o c.self.inside.tree) (sym c.in-Some.is) ∙ c.in_ok-applied.ensures.after) c.in-Ok.ensures.moved c.in_ok-record.ensures in
    stands_after (form.Put c.args.path c.args.number) c.args.self.now (record { nodes = c.in-Some.tree; place = c.append.new.self; failed = c.self.inside.failed }) (g.H.Disk.view c.args.host.now) (g.H.Disk.view c.append.new.host)
    c.self.inside.log.file c.in_ok-bytes.bytes.items _ c.self.invariant.0 c.in_ok-record.ensures (ap (λ (s : Opened). s.failed) c.self.view_is ∙ c.requires.stands.works) c.requires.stands
    c.in-Ok.ensures.appended c.in-Ok.ensures.settled c.append.ensures.writes.others (g.met.H.Disk.untold_is_not_left c.append.new.host) state logged.replays

pub returns-then-not-has_room-clause-added : goal.returns-then-not-has_room-clause-added
returns-then-not-has_room-clause-added g c =
    adds_none (form.Put c.args.path c.args.number) (state_of c.args.self.now) (g.H.Disk.view c.args.host.now) (no_room c.args.path c.args.number _ c.args.self.now _ c.in_ok-bytes.bytes.items c.end.result c.len.result (to_z-of_z _ _ c.ranges.number)
    c.self.view_is (c.in_ok-bytes.ensures.put c.requires.command) (sym c.has_room.ensures ∙ c.if-not-has_room.true) c.end.ensures (omega (arith, c.len.ensures, c.in_ok-bytes.bytes.ok)))

pub returns-in_default-clause-added : goal.returns-in_default-clause-added
returns-in_default-clause-added g c =
    adds_none (form.Put c.args.path c.args.number) (state_of c.args.self.now) (g.H.Disk.view c.args.host.now) (no_place c.args.path c.args.number _ c.args.self.now _ (to_z-of_z _ _ c.ranges.number) c.self.view_is
    (sym c.in_ok-applied.ensures.logged ∙ ap is_some c.in_default.is))

pub returns-in-Ok-clause-added : goal.returns-in-Ok-clause-added
returns-in-Ok-clause-added g c =
    let logged = logs_it c.args.path c.args.number _ c.args.self.now _ c.in_ok-bytes.bytes.items c.end.result c.len.result (to_z-of_z _ _ c.ranges.number) c.self.view_is
    (c.in_ok-bytes.ensures.put c.requires.command) (sym c.has_room.ensures ∙ c.if-not-has_room.false) c.end.ensures (omega (arith, c.len.ensures, c.in_ok-bytes.bytes.ok))
    (sym c.in_ok-applied.ensures.logged ∙ ap is_some c.in-Some.is) in
    adds_one (g.H.Disk.view c.args.host.now) (g.H.Disk.view c.append.new.host) c.self.inside.log.file c.append.new.self.last c.in_ok-bytes.bytes.items _ c.args.path c.args.number
    (state_of c.args.self.now) c.self.invariant.0 c.in_ok-record.ensures logged c.in-Ok.ensures.appended
