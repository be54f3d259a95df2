-- Hosts that never fail.
use Rattle.std.specs.Prelude.{◌≡◌}
use Rattle.kh_io.specs.Told.{Faults}
use Rattle.kh_io.specs.View.{View}

-- no call has failed
abbrev pub none_failed : Faults
none_failed = record { disk = 0; reads = 0; writes = 0 }

-- the counts of faults are 0 at each value of the host's type
abbrev pub NeverFails : {H : Type 0} → (H → View) → Type 0
NeverFails {H} view = (host : H) → (view host).faults ≡ none_failed
