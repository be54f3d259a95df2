-- What a status tells.
use Rattle.std.proofs.Common.{◌≡◌, ℕ, List, Option, Result, Ok, Err, refl, sym, ap, ◌∙◌, ◌⊎◌, inl, inr, arith}
use Rattle.kh_io.specs.Told.{Rose}
use Rattle.kh_io.specs.View.{View}
use Rattle.kh_io.specs.Frames.{Causes, FilesTold}
use Rattle.kh_io.proofs.{told_map, cause_map}
use Rattle.khepri.specs.declared.session.Stop.{Stop}
use Rattle.khepri.specs.declared.session.Stop.TheVariants as stop
use Rattle.kh_store.specs.Recovery.{Recovery, Recovered, Damaged, Recovers}
use Rattle.khepri.specs.Run.{stop_status, ending_status, IsCutOff, Runs, Stood, NoneRose, TellsEnding}
use Rattle.khepri.proofs.Unique.{script_unique}
use Rattle.khepri.proofs.Entry.{RunsFrom}

-- a status that isn't one of a failed call
pub record NoCallFailed (status : ℕ) : Type 0 where
  pub read : status ≡ 3 → ⊥
  pub write : status ≡ 4 → ⊥
  pub disk : status ≡ 5 → ⊥

cut_is_six : (status : ℕ) → NoCallFailed status → IsCutOff status → status ≡ 6
cut_is_six status none (inl e) = absurd (none.read e)
cut_is_six status none (inr (inl e)) = absurd (none.write e)
cut_is_six status none (inr (inr (inl e))) = absurd (none.disk e)
cut_is_six status none (inr (inr (inr e))) = e

by_how : (status n : ℕ) → NoCallFailed status → (status ≡ n) ⊎ IsCutOff status → (status ≡ 6) ⊎ (status ≡ n)
by_how status n none (inl e) = inr e
by_how status n none (inr cut) = inl (cut_is_six status none cut)

tells_ending : (found : Recovery) (status : ℕ) (v w : View) → NoCallFailed status → Runs found status v w → TellsEnding status found v w
tells_ending (Recovered first) status v w none ran =
    told_map v.left w.left ran (λ input rest given. told_map v.given w.given given (λ a b q forms ending script.
    let own = by_how status (ending_status q.2.ending) none q.2.how in
    elim own [
      | inl e ↦ inl e
      | inr e ↦ inr (e ∙ ap ending_status (script_unique _ _ q.2.forms forms q.2.ending ending q.2.script script).1)
    ]))
tells_ending (Damaged file offset) status v w none ran =
    by_how status 1 none (elim ran.how [ inl e ↦ inl e | inr unreported ↦ inr (inr unreported) ])

no_rise : (before later : ℕ) → Stood before later → Rose before later → ⊥
no_rise before later stood rose = let up = rose (rw (← stood.same) stood.room) in let same = stood.same in omega arith

-- where no count rose, no call has failed
pub none_failed : (status : ℕ) (v w : View) → Causes (status ≡ 3) (status ≡ 4) (status ≡ 5) v w → NoneRose v w → NoCallFailed status
none_failed status v w causes none = record {
  read = λ e. no_rise v.faults.reads w.faults.reads none.reads (causes.reads.fault e);
  write = λ e. no_rise v.faults.writes w.faults.writes none.writes (causes.writes.fault e);
  disk = λ e. no_rise v.faults.disk w.faults.disk none.disk (causes.disk.fault e);
}

-- each status of a failed call is one stop's
read_stop : (s : Stop) → stop_status s ≡ 3 → s ≡ stop.ReadFault
read_stop stop.Syntax e = absurd (omega arith)
read_stop stop.Damaged e = absurd (omega arith)
read_stop stop.ReadFault e = refl
read_stop stop.WriteFault e = absurd (omega arith)
read_stop stop.DiskFault e = absurd (omega arith)
read_stop stop.TooLong e = absurd (omega arith)
read_stop stop.NoMemory e = absurd (omega arith)

write_stop : (s : Stop) → stop_status s ≡ 4 → s ≡ stop.WriteFault
write_stop stop.Syntax e = absurd (omega arith)
write_stop stop.Damaged e = absurd (omega arith)
write_stop stop.ReadFault e = absurd (omega arith)
write_stop stop.WriteFault e = refl
write_stop stop.DiskFault e = absurd (omega arith)
write_stop stop.TooLong e = absurd (omega arith)
write_stop stop.NoMemory e = absurd (omega arith)

disk_stop : (s : Stop) → stop_status s ≡ 5 → s ≡ stop.DiskFault
disk_stop stop.Syntax e = absurd (omega arith)
disk_stop stop.Damaged e = absurd (omega arith)
disk_stop stop.ReadFault e = absurd (omega arith)
disk_stop stop.WriteFault e = absurd (omega arith)
disk_stop stop.DiskFault e = refl
disk_stop stop.TooLong e = absurd (omega arith)
disk_stop stop.NoMemory e = absurd (omega arith)

-- the causes of a run, by its status
abbrev pub StopCauses : Result (Unit {0}) Stop → (v w : View) → Type 0
StopCauses result v w = Causes (result ≡ Err stop.ReadFault) (result ≡ Err stop.WriteFault) (result ≡ Err stop.DiskFault) v w

abbrev stopped : Stop → Result (Unit {0}) Stop
stopped s = Err s

same_stop : (s t : Stop) → stopped s ≡ stopped t → s ≡ t
same_stop s t e = cc

pub by_stop : (s : Stop) (v w : View) → StopCauses (Err s) v w → Causes (stop_status s ≡ 3) (stop_status s ≡ 4) (stop_status s ≡ 5) v w
by_stop s v w causes = record {
  reads = cause_map (λ e. ap stop_status (same_stop s stop.ReadFault e)) (λ e. ap stopped (read_stop s e)) causes.reads;
  writes = cause_map (λ e. ap stop_status (same_stop s stop.WriteFault e)) (λ e. ap stopped (write_stop s e)) causes.writes;
  disk = cause_map (λ e. ap stop_status (same_stop s stop.DiskFault e)) (λ e. ap stopped (disk_stop s e)) causes.disk;
}

not_ok : (s : Stop) → Ok tt ≡ stopped s → ⊥
not_ok s e = cc

-- a whole script was answered
pub at_0 : (status : ℕ) (v w : View) → status ≡ 0 → StopCauses (Ok tt) v w → Causes (status ≡ 3) (status ≡ 4) (status ≡ 5) v w
at_0 status v w is causes = record {
  reads = cause_map (λ e. absurd (not_ok stop.ReadFault e)) (λ e. absurd (omega (arith, e, is))) causes.reads;
  writes = cause_map (λ e. absurd (not_ok stop.WriteFault e)) (λ e. absurd (omega (arith, e, is))) causes.writes;
  disk = cause_map (λ e. absurd (not_ok stop.DiskFault e)) (λ e. absurd (omega (arith, e, is))) causes.disk;
}

-- what a run does tells how it ends
pub tells : (status : ℕ) (v w : View) → NoCallFailed status → RunsFrom status v w
    → FilesTold v w (λ files. (found : Recovery) → Recovers files found → TellsEnding status found v w)
tells status v w none ran = record {
  told = λ told.
      let at_entry = ran.told told in
      (at_entry.0, at_entry.1, λ found recovers. tells_ending found status v w none (at_entry.2 found recovers));
}
