use Rattle.std.proofs.Common.{◌≡◌, ◌⊎◌, ◌∙◌, ℕ, List, Option, ap, subst, refl, inl, inr, Ok, Err, arith}
use Rattle.std.specs.Prelude.{Result}
use Rattle.kh_io.specs.Told.{Extends, IsFrontOf}
use Rattle.kh_io.proofs.{told_map, not_caused, caused_later, cause_map}
use Rattle.khepri.specs.declared.session.Stop.{Stop}
use Rattle.khepri.specs.declared.session.Stop.TheVariants as stop
use Rattle.kh_store.specs.declared.store.OpenError.{OpenError}
use Rattle.kh_store.specs.declared.store.OpenError.TheVariants as open_error
use Rattle.khepri.specs.Run.{stop_status, damage_line}
use Rattle.kh_store.specs.Store.{Opened, state_of}
use Rattle.kh_store.proofs.{stands_recovers}
use Rattle.khepri.proofs.Entry.{runs_opened, runs_damaged, runs_unopened, finds_damage}
use Rattle.khepri.proofs.run.run.Goals as goal

abbrev stopped : Stop → Result (Unit {0}) Stop
stopped s = Err s

same_stop : (s t : Stop) → stopped s ≡ stopped t → s ≡ t
same_stop s t e = cc

abbrev unopened : OpenError → Result Opened OpenError
unopened e = Err e

refused : {x y : OpenError} → x ≡ y → unopened x ≡ unopened y
refused e = ap unopened e

damaged_whole : {x : OpenError} {file offset : ℕ} → x ≡ open_error.Damaged file offset → unopened x ≡ unopened open_error.DiskFault → ⊥
damaged_whole is e = cc

out_whole : {x : OpenError} → x ≡ open_error.NoMemory → unopened x ≡ unopened open_error.DiskFault → ⊥
out_whole is e = cc

abbrev Reported : Stop → Type 0
Reported s = (s ≡ stop.Damaged) ⊎ ((s ≡ stop.WriteFault) ⊎ (s ≡ stop.NoMemory))

-- the status of a report
reported : (s : Stop) → Reported s → (stop_status s ≡ 1) ⊎ ((stop_status s ≡ 4) ⊎ (stop_status s ≡ 6))
reported s (inl e) = inl (ap stop_status e)
reported s (inr (inl e)) = inr (inl (ap stop_status e))
reported s (inr (inr e)) = inr (inr (ap stop_status e))

is_damage : (s : Stop) → stop_status s ≡ 1 → s ≡ stop.Damaged
is_damage stop.Damaged e = refl
is_damage stop.Syntax e = absurd cc
is_damage stop.ReadFault e = absurd cc
is_damage stop.WriteFault e = absurd cc
is_damage stop.DiskFault e = absurd cc
is_damage stop.TooLong e = absurd cc
is_damage stop.NoMemory e = absurd cc

-- the whole line is given exactly at the status of damage
line_by_status : (s : Stop) (file offset : ℕ) (old new : Option (List ℕ))
    → Extends old new (λ more. IsFrontOf more (damage_line file offset) × (s ≡ stop.Damaged → more ≡ damage_line file offset))
    → Extends old new (λ more. IsFrontOf more (damage_line file offset) × (stop_status s ≡ 1 → more ≡ damage_line file offset))
line_by_status s file offset old new given = told_map old new given (λ x y p. (p.0, p.1, (p.2.0, λ e. p.2.1 (is_damage s e))))

no_other : (s : Stop) → Reported s → (s ≡ stop.ReadFault) ⊎ (s ≡ stop.DiskFault) → ⊥
no_other s (inl e) (inl f) = cc
no_other s (inl e) (inr f) = cc
no_other s (inr (inl e)) (inl f) = cc
no_other s (inr (inl e)) (inr f) = cc
no_other s (inr (inr e)) (inl f) = cc
no_other s (inr (inr e)) (inr f) = cc

pub returns-in-Ok-vec-clause-ran : goal.returns-in-Ok-vec-clause-ran
returns-in-Ok-vec-clause-ran g c =
    let v = g.H.Disk.view c.open.new.host in
    let opened = c.in-Ok.ensures in
    let ran = c.answer_script.ensures in
    runs_opened (state_of c.in-Ok.store) _ (g.H.Disk.view c.args.host.now) v (g.H.Disk.view c.answer_script.new.host)
    opened.recovered (λ tells file lt. ran.told file lt (tells file lt)) opened.during opened.streams (stands_recovers c.in-Ok.store v opened.stands) ran.ran

pub returns-in-Ok-vec-clause-causes : goal.returns-in-Ok-vec-clause-causes
returns-in-Ok-vec-clause-causes g c =
    let opened = c.in-Ok.ensures in
    let e = c.answer_script.ensures.causes in
    record {
      reads = caused_later opened.streams.reads e.reads;
      writes = caused_later opened.streams.writes e.writes;
      disk = caused_later (opened.cause.no_fault (λ e. cc)) e.disk;
    }

pub returns-in-Err-Damaged-clause-ran : goal.returns-in-Err-Damaged-clause-ran
returns-in-Err-Damaged-clause-ran g c =
    let u = g.H.Disk.view c.args.host.now in
    let v = g.H.Disk.view c.open.new.host in
    let w = g.H.Disk.view c.report.new.host in
    let opened = c.in-Err-Damaged.ensures in
    let report = c.report.ensures in
    runs_damaged c.in-Err-Damaged.file c.in-Err-Damaged.offset (stop_status c.report.result) u v w
    (opened.damaged c.in-Err-Damaged.file c.in-Err-Damaged.offset (refused c.in-Err-Damaged.field-0-is)) (record { log = opened.reads; others = opened.others }) report.files
    opened.during report.during (λ files images. g.met.H.Disk.counts_now c.open.new.host u.moment files opened.during.later images)
    opened.streams report.input (line_by_status c.report.result c.in-Err-Damaged.file c.in-Err-Damaged.offset v.given w.given report.line) (reported c.report.result report.how)

pub returns-in-Err-Damaged-clause-damage : goal.returns-in-Err-Damaged-clause-damage
returns-in-Err-Damaged-clause-damage g c e =
    finds_damage c.in-Err-Damaged.file c.in-Err-Damaged.offset (g.H.Disk.view c.args.host.now) (g.H.Disk.view c.open.new.host) (g.H.Disk.view c.report.new.host)
    (c.in-Err-Damaged.ensures.damaged c.in-Err-Damaged.file c.in-Err-Damaged.offset (refused c.in-Err-Damaged.field-0-is)) c.report.ensures.files

pub returns-in-Err-Damaged-clause-causes : goal.returns-in-Err-Damaged-clause-causes
returns-in-Err-Damaged-clause-causes g c =
    let opened = c.in-Err-Damaged.ensures in
    let report = c.report.ensures in
    record {
      reads = not_caused (λ e. no_other c.report.result report.how (inl (same_stop c.report.result stop.ReadFault e))) (report.input.reads ∙ opened.streams.reads);
      writes = caused_later opened.streams.writes (cause_map (λ e. ap stopped e) (λ e. same_stop c.report.result stop.WriteFault e) report.cause);
      disk = not_caused (λ e. no_other c.report.result report.how (inr (same_stop c.report.result stop.DiskFault e)))
          (report.input.disk ∙ opened.cause.no_fault (damaged_whole c.in-Err-Damaged.field-0-is));
    }

pub returns-in-Err-DiskFault-clause-ran : goal.returns-in-Err-DiskFault-clause-ran
returns-in-Err-DiskFault-clause-ran g c =
    let u = g.H.Disk.view c.args.host.now in
    let w = g.H.Disk.view c.open.new.host in
    let opened = c.in-Err-DiskFault.ensures in
    runs_unopened 5 u w (record { log = opened.reads; others = opened.others }) opened.during
    (λ files images. g.met.H.Disk.counts_now c.open.new.host u.moment files opened.during.later images) opened.streams (inl refl)

pub returns-in_default-clause-ran : goal.returns-in_default-clause-ran
returns-in_default-clause-ran g c =
    let u = g.H.Disk.view c.args.host.now in
    let w = g.H.Disk.view c.open.new.host in
    let opened = c.in-Ok.ensures in
    runs_unopened 6 u w (record { log = opened.reads; others = opened.others }) opened.during
    (λ files images. g.met.H.Disk.counts_now c.open.new.host u.moment files opened.during.later images) opened.streams (inr refl)

pub returns-in-Err-NoMemory-clause-ran : goal.returns-in-Err-NoMemory-clause-ran
returns-in-Err-NoMemory-clause-ran g c =
    let u = g.H.Disk.view c.args.host.now in
    let w = g.H.Disk.view c.open.new.host in
    let opened = c.in-Err-NoMemory.ensures in
    runs_unopened 6 u w (record { log = opened.reads; others = opened.others }) opened.during
    (λ files images. g.met.H.Disk.counts_now c.open.new.host u.moment files opened.during.later images) opened.streams (inr refl)

pub returns-in-Err-DiskFault-clause-causes : goal.returns-in-Err-DiskFault-clause-causes
returns-in-Err-DiskFault-clause-causes g c =
    let opened = c.in-Err-DiskFault.ensures in
    record {
      reads = not_caused (λ e. cc) opened.streams.reads;
      writes = not_caused (λ e. cc) opened.streams.writes;
      disk = cause_map (λ e. refl) (λ e. refused c.in-Err-DiskFault.field-0-is) opened.cause;
    }

pub returns-in_default-clause-causes : goal.returns-in_default-clause-causes
returns-in_default-clause-causes g c =
    let opened = c.in-Ok.ensures in
    record {
      reads = not_caused (λ e. cc) opened.streams.reads;
      writes = not_caused (λ e. cc) opened.streams.writes;
      disk = not_caused (λ e. cc) (opened.cause.no_fault (λ e. cc));
    }

pub returns-in-Err-NoMemory-clause-causes : goal.returns-in-Err-NoMemory-clause-causes
returns-in-Err-NoMemory-clause-causes g c =
    let opened = c.in-Err-NoMemory.ensures in
    record {
      reads = not_caused (λ e. cc) opened.streams.reads;
      writes = not_caused (λ e. cc) opened.streams.writes;
      disk = not_caused (λ e. cc) (opened.cause.no_fault (out_whole c.in-Err-NoMemory.field-0-is));
    }
