use Rattle.std.proofs.Common.{◌≡◌, ◌<◌, ℕ, List, Some, refl, subst, arith}
use Rattle.std.proofs.lemmas.Option.{same_Some}
use Rattle.kh_io.specs.declared.files.Files.{Files}
use Rattle.kh_io.specs.Memory.{Memory, memory_view}
use Rattle.kh_io.specs.Frames.{FilesTold}
use Rattle.kh_log.specs.Records.{records_of, lacking_in}
use Rattle.kh_store.specs.Recovery.{Recovery, Recovered, Damaged, ReplaysUnless, Recovers}
use Rattle.khepri.specs.InMemory.{files_now}
use Rattle.khepri.specs.Run.{Runs}
use Rattle.khepri.proofs.Entry.{RunsFrom}
use Rattle.khepri.proofs.memory.answer_in_memory.Goals as goal

-- a host in memory tells its files, at entry and at exit
runs : (status : ℕ) (old new : Memory) (found : Recovery) → RunsFrom status (memory_view old) (memory_view new) → Recovers (files_now old) found
    → Runs found status (memory_view old) (memory_view new)
runs status old new found ran recovers =
    let at_entry = ran.told (λ file lt. refl) in
    let same : (files_now old).l0 ≡ at_entry.0.l0 = same_Some (files_now old).l0 at_entry.0.l0 (at_entry.1 1 (omega arith)) in
    at_entry.2 found (subst (λ (b : List ℕ). ReplaysUnless (lacking_in b) (records_of b) found) same recovers)

pub returns-clause-ran : goal.returns-clause-ran
returns-clause-ran c right first recovers = runs c.khepri.result c.args.host.now c.khepri.new.host (Recovered first) (c.khepri.ensures.session right) recovers

pub returns-clause-damaged : goal.returns-clause-damaged
returns-clause-damaged c right file offset recovers = runs c.khepri.result c.args.host.now c.khepri.new.host (Damaged file offset) (c.khepri.ensures.session right) recovers
