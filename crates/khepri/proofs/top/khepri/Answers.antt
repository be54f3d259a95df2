use Rattle.std.proofs.Common.{refl}
use Rattle.khepri.proofs.Status.{tells, none_failed, by_stop, at_0}
use Rattle.khepri.proofs.top.khepri.Goals as goal

pub returns-in-Ok-clause-status : goal.returns-in-Ok-clause-status
returns-in-Ok-clause-status g c right none =
    let v = g.H.Disk.view c.args.host.now in
    let w = g.H.Disk.view c.run.new.host in
    tells 0 v w (none_failed 0 v w (at_0 0 v w refl c.in-Ok.ensures.causes) none) c.in-Ok.ensures.ran

pub returns-in-Ok-clause-causes : goal.returns-in-Ok-clause-causes
returns-in-Ok-clause-causes g c = at_0 0 (g.H.Disk.view c.args.host.now) (g.H.Disk.view c.run.new.host) refl c.in-Ok.ensures.causes

pub returns-in-Err-clause-status : goal.returns-in-Err-clause-status
returns-in-Err-clause-status g c right none =
    let v = g.H.Disk.view c.args.host.now in
    let w = g.H.Disk.view c.run.new.host in
    rw c.status.ensures (tells _ v w (none_failed _ v w (by_stop c.in-Err.stop v w c.in-Err.ensures.causes) none) c.in-Err.ensures.ran)

pub returns-in-Err-clause-causes : goal.returns-in-Err-clause-causes
returns-in-Err-clause-causes g c = rw c.status.ensures (by_stop c.in-Err.stop (g.H.Disk.view c.args.host.now) (g.H.Disk.view c.run.new.host) c.in-Err.ensures.causes)
