use Rattle.std.proofs.Common.{◌≡◌, ℕ, ◌∙◌, sym, ap, arith}
use Rattle.kh_io.specs.Told.{Faults, Rose}
use Rattle.khepri.specs.Run.{Stood}
use Rattle.khepri.proofs.sound.answer_soundly.Goals as goal

no_rise : (old new : ℕ) → old ≡ 0 → new ≡ 0 → Rose old new → ⊥
no_rise old new first last rose = let up = rose (omega (arith, first)) in omega (arith, first, last, up)

stood : (old new : ℕ) → old ≡ 0 → new ≡ 0 → Stood old new
stood old new first last = record { same = last ∙ sym first; room = omega (arith, last) }

pub returns-clause-no_read_fault : goal.returns-clause-no_read_fault
returns-clause-no_read_fault g c e =
    let s = c.requires in
    no_rise _ _ (ap (λ (f : Faults). f.reads) (s c.args.host.now)) (ap (λ (f : Faults). f.reads) (s c.khepri.new.host)) (c.khepri.ensures.causes.reads.fault e)

pub returns-clause-no_write_fault : goal.returns-clause-no_write_fault
returns-clause-no_write_fault g c e =
    let s = c.requires in
    no_rise _ _ (ap (λ (f : Faults). f.writes) (s c.args.host.now)) (ap (λ (f : Faults). f.writes) (s c.khepri.new.host)) (c.khepri.ensures.causes.writes.fault e)

pub returns-clause-no_disk_fault : goal.returns-clause-no_disk_fault
returns-clause-no_disk_fault g c e =
    let s = c.requires in
    no_rise _ _ (ap (λ (f : Faults). f.disk) (s c.args.host.now)) (ap (λ (f : Faults). f.disk) (s c.khepri.new.host)) (c.khepri.ensures.causes.disk.fault e)

pub returns-clause-status : goal.returns-clause-status
returns-clause-status g c right =
    let s = c.requires in
    c.khepri.ensures.status right (record {
      reads = stood _ _ (ap (λ (f : Faults). f.reads) (s c.args.host.now)) (ap (λ (f : Faults). f.reads) (s c.khepri.new.host));
      writes = stood _ _ (ap (λ (f : Faults). f.writes) (s c.args.host.now)) (ap (λ (f : Faults). f.writes) (s c.khepri.new.host));
      disk = stood _ _ (ap (λ (f : Faults). f.disk) (s c.args.host.now)) (ap (λ (f : Faults). f.disk) (s c.khepri.new.host));
    })
