use Rattle.std.proofs.Common.{ℕ, ◌++◌, List, Option, Some, None, sym, ap, subst, arith}
use Rattle.std.specs.Prelude.{IfSome}
use Rattle.std.proofs.lemmas.Grind.{common_steps}
use Rattle.std.proofs.lemmas.Option.{same_Some}
use Rattle.kh_io.specs.Told.{Told, Kept}
use Rattle.kh_io.specs.Disk.{IsSafe}
use Rattle.kh_log.specs.Records.{records_of, IsClosedAt}
use Rattle.kh_log.specs.Log.{Place, Holds, ImagesAre, EndsAt}
use Rattle.kh_log.proofs.Opening.{closed_images}
use Rattle.kh_log.proofs.tests.append_two.Goals as goal

-- what was told of a file that stays
held : (a b : Option (List ℕ)) (P : List ℕ → Type 0) → Kept a b → Told a b (λ was _. P was) → IfSome b P
held (Some x) (Some y) P kept told = subst P (sym kept) told
held None (Some y) P kept told = absurd kept
held a None P kept told = tt

pub append-requires-clause-ready : goal.append-requires-clause-ready
append-requires-clause-ready g c =
    let v = g.H.Disk.view c.open.new.host in
    let file = sym c.in_ok-log.ensures.file in
    record {
      all_read = grind (arith, common_steps);
      found = subst (λ f. IfSome (v.seen f) (Holds c.in_ok-log.log)) file (held _ _ (Holds c.in_ok-log.log) (c.open.ensures.asks.files 1 (omega arith)).read c.in_ok-log.ensures.found);
      closed = subst (λ f. ImagesAre (v.seen f) (v.image f) (IsClosedAt c.in_ok-log.log.last)) file
          (closed_images _ _ _ c.in_ok-len.field-0 c.in_ok-log.log.last c.in_ok-sync.ensures.safe (c.len.ensures.files 1 (omega arith)) c.in_ok-len.ensures.length
          c.if-branch-lt2.false (c.open.ensures.asks.files 1 (omega arith)) c.in_ok-log.ensures.closed);
    }

-- after an append each image has a closed gate at its end
closed_behind : {image : List ℕ → Type 0} (old new : Option (List ℕ)) (last : ℕ) (rs : List (List ℕ)) → IsSafe new image
    → Told old new (λ was now. EndsAt last (records_of was ++ rs) now) → ImagesAre new image (IsClosedAt last)
closed_behind (Some was) (Some now) last rs safe ends = λ bytes there. subst (IsClosedAt last) (same_Some now bytes (safe bytes there)) ends.gate
closed_behind None (Some now) last rs safe ends = absurd ends
closed_behind old None last rs safe ends = tt

pub append-requires-2-clause-ready : goal.append-requires-2-clause-ready
append-requires-2-clause-ready g c =
    let w = g.H.Disk.view c.append.new.host in
    let e = c.in_ok-append.ensures in
    let file = sym (ap (λ (p : Place). p.file) e.moved) in
    record {
      all_read = grind (arith, common_steps);
      found = subst (λ f. IfSome (w.seen f) (Holds c.append.new.self)) file e.settled.found;
      closed = subst (λ f. ImagesAre (w.seen f) (w.image f) (IsClosedAt c.append.new.self.last)) file
          (closed_behind _ _ c.append.new.self.last _ e.settled.safe e.appended);
    }
