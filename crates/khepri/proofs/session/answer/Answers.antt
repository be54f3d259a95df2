use Rattle.std.proofs.Common.{◌∙◌, Err, sym, ap, arith}
use Rattle.std.proofs.lemmas.Bool.{false≢true}
use Rattle.kh_io.proofs.{not_caused, caused_later, cause_map}
use Rattle.kh_text_defs.specs.Shown.{shown_line}
use Rattle.kh_store.specs.Store.{state_of}
use Rattle.khepri.proofs.Answering.{none_given, front_given, not_answered, answered}
use Rattle.khepri.proofs.session.answer.Goals as goal

pub returns-in-Err-DiskFault-clause-front : goal.returns-in-Err-DiskFault-clause-front
returns-in-Err-DiskFault-clause-front g c = none_given (g.H.Disk.view c.args.host.now).given (g.H.Disk.view c.execute.new.host).given _ (c.execute.ensures.writes c.requires.stands.works).streams.sink

pub returns-in-Err-DiskFault-clause-during : goal.returns-in-Err-DiskFault-clause-during
returns-in-Err-DiskFault-clause-during g c =
    not_answered (g.H.Disk.view c.execute.new.host) c.args.form (state_of c.args.store.now) (omega (arith, (c.execute.ensures.writes c.requires.stands.works).streams.stamp)) (c.execute.ensures.writes c.requires.stands.works).during

pub returns-in-Err-NoMemory-clause-front : goal.returns-in-Err-NoMemory-clause-front
returns-in-Err-NoMemory-clause-front g c = none_given (g.H.Disk.view c.args.host.now).given (g.H.Disk.view c.execute.new.host).given _ (c.execute.ensures.writes c.requires.stands.works).streams.sink

pub returns-in-Err-NoMemory-clause-during : goal.returns-in-Err-NoMemory-clause-during
returns-in-Err-NoMemory-clause-during g c =
    not_answered (g.H.Disk.view c.execute.new.host) c.args.form (state_of c.args.store.now) (omega (arith, (c.execute.ensures.writes c.requires.stands.works).streams.stamp)) (c.execute.ensures.writes c.requires.stands.works).during

pub returns-in_default-clause-front : goal.returns-in_default-clause-front
returns-in_default-clause-front g c = none_given (g.H.Disk.view c.args.host.now).given (g.H.Disk.view c.execute.new.host).given _ (c.execute.ensures.writes c.requires.stands.works).streams.sink

pub returns-in_default-clause-during : goal.returns-in_default-clause-during
returns-in_default-clause-during g c =
    not_answered (g.H.Disk.view c.execute.new.host) c.args.form (state_of c.args.store.now) (omega (arith, (c.execute.ensures.writes c.requires.stands.works).streams.stamp)) (c.execute.ensures.writes c.requires.stands.works).during

pub returns-in-Ok-give_all-clause-during : goal.returns-in-Ok-give_all-clause-during
returns-in-Ok-give_all-clause-during g c =
    answered c.args.form (state_of c.args.store.now) c.execute.new.self (c.execute.ensures.writes c.requires.stands.works).streams.stamp c.give_all.ensures.input.stamp
    c.in-Ok.ensures.stands c.in-Ok.ensures.executed.1 (c.execute.ensures.writes c.requires.stands.works).during c.give_all.ensures.during

pub returns-clause-during : goal.returns-clause-during
returns-clause-during g c =
    answered c.args.form (state_of c.args.store.now) c.execute.new.self (c.execute.ensures.writes c.requires.stands.works).streams.stamp c.give_all.ensures.input.stamp
    c.in-Ok.ensures.stands c.in-Ok.ensures.executed.1 (c.execute.ensures.writes c.requires.stands.works).during c.give_all.ensures.during

pub returns-clause-front : goal.returns-clause-front
returns-clause-front g c =
    front_given (g.H.Disk.view c.args.host.now).given (g.H.Disk.view c.execute.new.host).given (g.H.Disk.view c.give_all.new.host).given _ _
    (c.as_slice.ensures.value ∙ c.in-Ok-print_line.ensures.line ∙ ap shown_line c.in-Ok.ensures.executed.0) (c.execute.ensures.writes c.requires.stands.works).streams.sink c.in-Err.ensures.front

pub unreachable-requires : goal.unreachable-requires
unreachable-requires g c = false≢true (sym c.requires.stands.works ∙ c.execute.ensures.failed.0 cc)
