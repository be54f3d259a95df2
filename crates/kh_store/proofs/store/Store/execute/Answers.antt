use Rattle.std.proofs.Common.{◌≡◌, sym, ap, ◌∙◌}
use Rattle.kh_store.specs.Store.{Opened}
use Rattle.kh_store.proofs.Executing.{stood}
use Rattle.kh_store.proofs.store.Store.execute.Goals as goal

pub returns-in_ok-apply-in-Get-clause-writes : goal.returns-in_ok-apply-in-Get-clause-writes
returns-in_ok-apply-in-Get-clause-writes g c = λ works. stood c.args.form c.args.self.now (g.H.Disk.view c.args.host.now) (g.met.H.Disk.only_now c.args.host.now) (c.requires.stands works)

pub returns-in_err-apply-in-Get-clause-writes : goal.returns-in_err-apply-in-Get-clause-writes
returns-in_err-apply-in-Get-clause-writes g c = λ works. stood c.args.form c.args.self.now (g.H.Disk.view c.args.host.now) (g.met.H.Disk.only_now c.args.host.now) (c.requires.stands works)

pub execute_put-requires-clause-stands : goal.execute_put-requires-clause-stands
execute_put-requires-clause-stands g c = c.requires.stands (ap (λ (s : Opened). s.failed) (sym c.self.view_is) ∙ c.if-self.false)
