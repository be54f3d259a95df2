use Rattle.std.proofs.Common.{◌≡◌, ◌⊎◌, false, true, ◌∙◌, ℕ, drop, refl, ap, Ok, Err, inl, inr, arith}
use Rattle.std.specs.Prelude.{Result, IsSome}
use Rattle.khepri.specs.declared.session.Stop.{Stop}
use Rattle.khepri.specs.declared.session.Stop.TheVariants as stop
use Rattle.kh_io.specs.View.{View}
use Rattle.kh_io.proofs.{not_caused, caused_later, cause_map}
use Rattle.kh_store.specs.Store.{state_of}
use Rattle.kh_store.proofs.{stands_recovers, stands_stay, told_back}
use Rattle.khepri.proofs.Lines.{IsCounted, counts}
use Rattle.khepri.proofs.Running.{front_of, all_of, AreCounted, starts, took_piece, took_shorter, served_on, served_stops, take_stops, all_came, finished, finish_stops, take_not, serve_not}
use Rattle.khepri.proofs.run.answer_script.Goals as goal

abbrev ended_by : Stop → Result (Unit {0}) Stop
ended_by s = Err s

abbrev none_by : Stop → Result ℕ Stop
none_by s = Err s

same_stop : (s t : Stop) → ended_by s ≡ ended_by t → s ≡ t
same_stop s t e = cc

not_ended : (s : Stop) → Ok tt ≡ ended_by s → ⊥
not_ended s e = cc

three_counted : (u v w : View) → IsCounted u → IsCounted v → IsCounted w → AreCounted u v w
three_counted u v w first now later = record { at_first = first; at_now = now; at_later = later }

pub pieces-init : goal.pieces-init
pieces-init g c =
    let v = g.H.Disk.view c.args.host.now in
    record {
      run = rw c.new-input.ensures.items (starts v (state_of c.args.store.now) (λ files s left.
          let now = g.met.H.Disk.only_now c.args.host.now files s left in
          (stands_recovers c.args.store.now v c.requires.stands files now.images, now.stamp)));
      stands = c.requires.stands;
      told = λ file lt some. some;
      reads = refl;
      writes = refl;
      disk = refl;
    }

pub take_more-requires-clause-some : goal.take_more-requires-clause-some
take_more-requires-clause-some g c = omega arith

pub take_more-requires-clause-short : goal.take_more-requires-clause-short
take_more-requires-clause-short g c = c.pieces.invariant.run.short

-- no piece came
pub returns-in-Err-clause-ran : goal.returns-in-Err-clause-ran
returns-in-Err-clause-ran g c =
    let u = g.H.Disk.view c.args.host.now in
    let v = g.H.Disk.view c.pieces.host in
    let w = g.H.Disk.view c.take_more.new.host in
    let counted = three_counted u v w (counts _ _ (g.met.H.Disk.stamp_counts c.args.host.now)) (counts _ _ (g.met.H.Disk.stamp_counts c.pieces.host)) (counts _ _ (g.met.H.Disk.stamp_counts c.take_more.new.host)) in
    let call = c.in-Err.ensures in
    let stands = (stands_stay c.pieces.store v w c.in-Err.ensures.files (g.met.H.Disk.untold_is_not_left c.take_more.new.host) c.pieces.invariant.stands) in
    take_stops u v w c.pieces.input.items c.pieces.at (state_of c.args.store.now) (state_of c.pieces.store) c.in-Err.stop counted c.pieces.invariant.run call.stops call.sink.sink
    (stands_recovers c.pieces.store v c.pieces.invariant.stands) (stands_recovers c.pieces.store w stands) call.during

pub returns-in-Err-clause-stands : goal.returns-in-Err-clause-stands
returns-in-Err-clause-stands g c = λ other.
    let v = g.H.Disk.view c.pieces.host in
    let w = g.H.Disk.view c.take_more.new.host in
    (stands_stay c.pieces.store v w c.in-Err.ensures.files (g.met.H.Disk.untold_is_not_left c.take_more.new.host) c.pieces.invariant.stands)

pub returns-in-Err-clause-damage : goal.returns-in-Err-clause-damage
returns-in-Err-clause-damage g c e =
    take_not c.in-Err.stop (g.H.Disk.view c.pieces.host) (g.H.Disk.view c.take_more.new.host) c.pieces.input.items c.in-Err.ensures.stops (inl (same_stop c.in-Err.stop stop.Damaged e))

pub returns-in-Err-clause-causes : goal.returns-in-Err-clause-causes
returns-in-Err-clause-causes g c =
    let i = c.pieces.invariant in
    let call = c.in-Err.ensures in
    let not = take_not c.in-Err.stop (g.H.Disk.view c.pieces.host) (g.H.Disk.view c.take_more.new.host) c.pieces.input.items call.stops in
    record {
      reads = caused_later i.reads (cause_map (λ e. cc) (λ e. cc) call.cause);
      writes = not_caused (λ e. not (inr (inl (same_stop c.in-Err.stop stop.WriteFault e)))) (call.sink.writes ∙ i.writes);
      disk = not_caused (λ e. not (inr (inr (same_stop c.in-Err.stop stop.DiskFault e)))) (call.sink.disk ∙ i.disk);
    }

pub returns-in-Err-clause-told : goal.returns-in-Err-clause-told
returns-in-Err-clause-told g c =
    let v = g.H.Disk.view c.pieces.host in
    let w = g.H.Disk.view c.take_more.new.host in
    let call = c.in-Err.ensures in
    λ file lt some. c.pieces.invariant.told file lt (told_back _ (v.seen file) (w.seen file) (call.files file lt).read (some))

-- a piece is served
pub serve-requires-clause-stands : goal.serve-requires-clause-stands
serve-requires-clause-stands g c =
    let v = g.H.Disk.view c.pieces.host in
    let w = g.H.Disk.view c.take_more.new.host in
    (stands_stay c.pieces.store v w c.in-Ok-Some.ensures.files (g.met.H.Disk.untold_is_not_left c.take_more.new.host) c.pieces.invariant.stands)

pub pieces-smaller : goal.pieces-smaller
pieces-smaller g c =
    took_shorter (g.H.Disk.view c.pieces.host) (g.H.Disk.view c.take_more.new.host) c.pieces.input.items c.take_more.new.input.items
    (rw c.in-Ok-Some.field-0-is at c.in-Ok-Some.ensures.taken)

pub serve-requires-clause-within : goal.serve-requires-clause-within
serve-requires-clause-within g c =
    let u = g.H.Disk.view c.args.host.now in
    let v = g.H.Disk.view c.pieces.host in
    let w = g.H.Disk.view c.take_more.new.host in
    let counted = three_counted u v w (counts _ _ (g.met.H.Disk.stamp_counts c.args.host.now)) (counts _ _ (g.met.H.Disk.stamp_counts c.pieces.host)) (counts _ _ (g.met.H.Disk.stamp_counts c.take_more.new.host)) in
    let call = c.in-Ok-Some.ensures in
    let more = took_piece u v w c.pieces.input.items c.take_more.new.input.items c.pieces.at (state_of c.args.store.now) (state_of c.pieces.store) counted
    c.pieces.invariant.run (rw c.in-Ok-Some.field-0-is at call.taken) call.sink.sink (stands_recovers c.pieces.store v c.pieces.invariant.stands) call.during in
    rw c.as_slice.ensures.value more.within

pub pieces-preserved : goal.pieces-preserved
pieces-preserved g c =
    let u = g.H.Disk.view c.args.host.now in
    let v = g.H.Disk.view c.pieces.host in
    let w = g.H.Disk.view c.take_more.new.host in
    let counted = three_counted u v w (counts _ _ (g.met.H.Disk.stamp_counts c.args.host.now)) (counts _ _ (g.met.H.Disk.stamp_counts c.pieces.host)) (counts _ _ (g.met.H.Disk.stamp_counts c.take_more.new.host)) in
    let call = c.in-Ok-Some.ensures in
    let more = took_piece u v w c.pieces.input.items c.take_more.new.input.items c.pieces.at (state_of c.args.store.now) (state_of c.pieces.store) counted
    c.pieces.invariant.run (rw c.in-Ok-Some.field-0-is at call.taken) call.sink.sink (stands_recovers c.pieces.store v c.pieces.invariant.stands) call.during in
    let x = g.H.Disk.view c.serve.new.host in
    let later = three_counted u w x (counts _ _ (g.met.H.Disk.stamp_counts c.args.host.now)) (counts _ _ (g.met.H.Disk.stamp_counts c.take_more.new.host)) (counts _ _ (g.met.H.Disk.stamp_counts c.serve.new.host)) in
    let e = c.in-Ok.ensures in
    let i = c.pieces.invariant in
    record {
      run = served_on u w x c.take_more.new.input.items c.pieces.at c.in-Ok.next (state_of c.args.store.now) (state_of c.pieces.store) (state_of c.serve.new.store) later more
          (rw c.as_slice.ensures.value at e.within) (rw c.as_slice.ensures.value at e.served) e.untaken.input;
      stands = e.stands (λ e. cc);
      told = λ file lt some. c.pieces.invariant.told file lt (told_back _ (v.seen file) (w.seen file) (call.files file lt).read (e.untaken.told file lt some));
      reads = e.causes.reads.no_fault (λ e. cc) ∙ call.cause.no_fault (λ e. cc) ∙ i.reads;
      writes = e.causes.writes.no_fault (λ e. cc) ∙ call.sink.writes ∙ i.writes;
      disk = e.causes.disk.no_fault (λ e. cc) ∙ call.sink.disk ∙ i.disk;
    }

pub returns-in-Err-serve-clause-ran : goal.returns-in-Err-serve-clause-ran
returns-in-Err-serve-clause-ran g c =
    let u = g.H.Disk.view c.args.host.now in
    let v = g.H.Disk.view c.pieces.host in
    let w = g.H.Disk.view c.take_more.new.host in
    let counted = three_counted u v w (counts _ _ (g.met.H.Disk.stamp_counts c.args.host.now)) (counts _ _ (g.met.H.Disk.stamp_counts c.pieces.host)) (counts _ _ (g.met.H.Disk.stamp_counts c.take_more.new.host)) in
    let call = c.in-Ok-Some.ensures in
    let more = took_piece u v w c.pieces.input.items c.take_more.new.input.items c.pieces.at (state_of c.args.store.now) (state_of c.pieces.store) counted
    c.pieces.invariant.run (rw c.in-Ok-Some.field-0-is at call.taken) call.sink.sink (stands_recovers c.pieces.store v c.pieces.invariant.stands) call.during in
    let x = g.H.Disk.view c.serve.new.host in
    let later = three_counted u w x (counts _ _ (g.met.H.Disk.stamp_counts c.args.host.now)) (counts _ _ (g.met.H.Disk.stamp_counts c.take_more.new.host)) (counts _ _ (g.met.H.Disk.stamp_counts c.serve.new.host)) in
    served_stops u w x c.take_more.new.input.items c.pieces.at (state_of c.args.store.now) (state_of c.pieces.store) c.in-Err-serve.stop later more
    (rw c.as_slice.ensures.value at c.in-Err-serve.ensures.stops) c.in-Err-serve.ensures.untaken.input

pub returns-in-Err-serve-clause-stands : goal.returns-in-Err-serve-clause-stands
returns-in-Err-serve-clause-stands g c = λ other. c.in-Err-serve.ensures.stands (λ e. other cc)

pub returns-in-Err-serve-clause-damage : goal.returns-in-Err-serve-clause-damage
returns-in-Err-serve-clause-damage g c e =
    serve_not c.in-Err-serve.stop (front_of (drop c.pieces.at c.as_slice.result.now)) (state_of c.pieces.store) (g.H.Disk.view c.take_more.new.host) (g.H.Disk.view c.serve.new.host)
    c.in-Err-serve.ensures.stops (same_stop c.in-Err-serve.stop stop.Damaged e)

pub returns-in-Err-serve-clause-causes : goal.returns-in-Err-serve-clause-causes
returns-in-Err-serve-clause-causes g c =
    let i = c.pieces.invariant in
    let call = c.in-Ok-Some.ensures in
    let e = c.in-Err-serve.ensures.causes in
    record {
      reads = caused_later (call.cause.no_fault (λ e. cc) ∙ i.reads) (cause_map (λ e. cc) (λ e. cc) e.reads);
      writes = caused_later (call.sink.writes ∙ i.writes) (cause_map (λ e. cc) (λ e. cc) e.writes);
      disk = caused_later (call.sink.disk ∙ i.disk) (cause_map (λ e. cc) (λ e. cc) e.disk);
    }

pub returns-in-Err-serve-clause-told : goal.returns-in-Err-serve-clause-told
returns-in-Err-serve-clause-told g c =
    let v = g.H.Disk.view c.pieces.host in
    let w = g.H.Disk.view c.take_more.new.host in
    let call = c.in-Ok-Some.ensures in
    λ file lt some. c.pieces.invariant.told file lt (told_back _ (v.seen file) (w.seen file) (call.files file lt).read (c.in-Err-serve.ensures.untaken.told file lt some))

-- the input has ended
pub serve-requires-2-clause-within : goal.serve-requires-2-clause-within
serve-requires-2-clause-within g c =
    let none = rw c.in-Ok-None.field-0-is at c.in-Ok-None.ensures.taken in
    rw (c.as_slice-2.ensures.value, none.0) c.pieces.invariant.run.within

pub serve-requires-2-clause-stands : goal.serve-requires-2-clause-stands
serve-requires-2-clause-stands g c =
    let v = g.H.Disk.view c.pieces.host in
    let w = g.H.Disk.view c.take_more.new.host in
    (stands_stay c.pieces.store v w c.in-Ok-None.ensures.files (g.met.H.Disk.untold_is_not_left c.take_more.new.host) c.pieces.invariant.stands)

pub returns-in-Ok-serve-clause-ran : goal.returns-in-Ok-serve-clause-ran
returns-in-Ok-serve-clause-ran g c =
    let u = g.H.Disk.view c.args.host.now in
    let v = g.H.Disk.view c.pieces.host in
    let w = g.H.Disk.view c.take_more.new.host in
    let counted = three_counted u v w (counts _ _ (g.met.H.Disk.stamp_counts c.args.host.now)) (counts _ _ (g.met.H.Disk.stamp_counts c.pieces.host)) (counts _ _ (g.met.H.Disk.stamp_counts c.take_more.new.host)) in
    let call = c.in-Ok-None.ensures in
    let none = rw c.in-Ok-None.field-0-is at call.taken in
    let came = all_came u v w c.pieces.input.items c.take_more.new.input.items c.pieces.at (state_of c.args.store.now) (state_of c.pieces.store) counted
    c.pieces.invariant.run none call.sink.sink (stands_recovers c.pieces.store v c.pieces.invariant.stands) call.during in
    let x = g.H.Disk.view c.serve-2.new.host in
    let later = three_counted u w x (counts _ _ (g.met.H.Disk.stamp_counts c.args.host.now)) (counts _ _ (g.met.H.Disk.stamp_counts c.take_more.new.host)) (counts _ _ (g.met.H.Disk.stamp_counts c.serve-2.new.host)) in
    finished u w x c.pieces.input.items c.pieces.at _ (state_of c.args.store.now) (state_of c.pieces.store) (state_of c.serve-2.new.store) later came
    (rw (c.as_slice-2.ensures.value, none.0) at c.in-Ok-serve.ensures.served) c.in-Ok-serve.ensures.untaken.input
    (stands_recovers c.serve-2.new.store x (c.in-Ok-serve.ensures.stands (λ e. cc)))

pub returns-in-Ok-serve-clause-stands : goal.returns-in-Ok-serve-clause-stands
returns-in-Ok-serve-clause-stands g c = λ other. c.in-Ok-serve.ensures.stands (λ e. cc)

pub returns-in-Ok-serve-clause-causes : goal.returns-in-Ok-serve-clause-causes
returns-in-Ok-serve-clause-causes g c =
    let i = c.pieces.invariant in
    let call = c.in-Ok-None.ensures in
    let e = c.in-Ok-serve.ensures.causes in
    record {
      reads = caused_later (call.cause.no_fault (λ e. cc) ∙ i.reads) (cause_map (λ e. cc) (λ e. cc) e.reads);
      writes = caused_later (call.sink.writes ∙ i.writes) (cause_map (λ e. cc) (λ e. cc) e.writes);
      disk = caused_later (call.sink.disk ∙ i.disk) (cause_map (λ e. cc) (λ e. cc) e.disk);
    }

pub returns-in-Ok-serve-clause-damage : goal.returns-in-Ok-serve-clause-damage
returns-in-Ok-serve-clause-damage g c e = not_ended stop.Damaged e

pub returns-in-Ok-serve-clause-told : goal.returns-in-Ok-serve-clause-told
returns-in-Ok-serve-clause-told g c =
    let v = g.H.Disk.view c.pieces.host in
    let w = g.H.Disk.view c.take_more.new.host in
    let call = c.in-Ok-None.ensures in
    λ file lt some. c.pieces.invariant.told file lt (told_back _ (v.seen file) (w.seen file) (call.files file lt).read (c.in-Ok-serve.ensures.untaken.told file lt some))

pub returns-clause-ran : goal.returns-clause-ran
returns-clause-ran g c =
    let u = g.H.Disk.view c.args.host.now in
    let v = g.H.Disk.view c.pieces.host in
    let w = g.H.Disk.view c.take_more.new.host in
    let counted = three_counted u v w (counts _ _ (g.met.H.Disk.stamp_counts c.args.host.now)) (counts _ _ (g.met.H.Disk.stamp_counts c.pieces.host)) (counts _ _ (g.met.H.Disk.stamp_counts c.take_more.new.host)) in
    let call = c.in-Ok-None.ensures in
    let none = rw c.in-Ok-None.field-0-is at call.taken in
    let came = all_came u v w c.pieces.input.items c.take_more.new.input.items c.pieces.at (state_of c.args.store.now) (state_of c.pieces.store) counted
    c.pieces.invariant.run none call.sink.sink (stands_recovers c.pieces.store v c.pieces.invariant.stands) call.during in
    let x = g.H.Disk.view c.serve-2.new.host in
    let later = three_counted u w x (counts _ _ (g.met.H.Disk.stamp_counts c.args.host.now)) (counts _ _ (g.met.H.Disk.stamp_counts c.take_more.new.host)) (counts _ _ (g.met.H.Disk.stamp_counts c.serve-2.new.host)) in
    finish_stops u w x c.pieces.input.items c.pieces.at (state_of c.args.store.now) (state_of c.pieces.store) c.in-Err-serve-2.stop later came
    (rw (c.as_slice-2.ensures.value, none.0) at c.in-Err-serve-2.ensures.stops) c.in-Err-serve-2.ensures.untaken.input

pub returns-clause-stands : goal.returns-clause-stands
returns-clause-stands g c = λ other. c.in-Err-serve-2.ensures.stands (λ e. other cc)

pub returns-clause-damage : goal.returns-clause-damage
returns-clause-damage g c e =
    serve_not c.in-Err-serve-2.stop (all_of (drop c.pieces.at c.as_slice-2.result.now)) (state_of c.pieces.store) (g.H.Disk.view c.take_more.new.host) (g.H.Disk.view c.serve-2.new.host)
    c.in-Err-serve-2.ensures.stops (same_stop c.in-Err-serve-2.stop stop.Damaged e)

pub returns-clause-causes : goal.returns-clause-causes
returns-clause-causes g c =
    let i = c.pieces.invariant in
    let call = c.in-Ok-None.ensures in
    let e = c.in-Err-serve-2.ensures.causes in
    record {
      reads = caused_later (call.cause.no_fault (λ e. cc) ∙ i.reads) (cause_map (λ e. cc) (λ e. cc) e.reads);
      writes = caused_later (call.sink.writes ∙ i.writes) (cause_map (λ e. cc) (λ e. cc) e.writes);
      disk = caused_later (call.sink.disk ∙ i.disk) (cause_map (λ e. cc) (λ e. cc) e.disk);
    }

pub returns-clause-told : goal.returns-clause-told
returns-clause-told g c =
    let v = g.H.Disk.view c.pieces.host in
    let w = g.H.Disk.view c.take_more.new.host in
    let call = c.in-Ok-None.ensures in
    λ file lt some. c.pieces.invariant.told file lt (told_back _ (v.seen file) (w.seen file) (call.files file lt).read (c.in-Err-serve-2.ensures.untaken.told file lt some))
