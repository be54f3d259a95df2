use Rattle.std.proofs.Common.{subst}
use Rattle.kh_frames.specs.State.{Calls}
use Rattle.kh_frames.specs.Valid.{IsTied, AreTied, IsWithin}
use Rattle.kh_frames.specs.declared.state.Place.{Place}
use Rattle.kh_heap.specs.declared.reference.Ref.{Ref}
use Rattle.kh_frames.proofs.Laying.{fits_within}
use Rattle.kh_frames.proofs.calls.CallStack.check.Goals as goal

pub returns : goal.returns
returns c =
    let a = c.self.inside in
    record {
      running = subst (λ (s : Calls Ref Place). IsTied s.running) c.self.view_is c.self.invariant.running;
      waiting = subst (λ (s : Calls Ref Place). AreTied s.waiting) c.self.view_is c.self.invariant.waiting;
      limit = subst (λ (s : Calls Ref Place). IsWithin s) c.self.view_is (fits_within a.running a.waiting a.slots a.marks c.self.invariant);
    }
