use Rattle.std.proofs.Common.{◌≡◌, ◌≤◌, ◌<◌, ◌+◌, ℕ, drop, Err, ap, subst, ◌∙◌, arith, rules}
use Rattle.std.specs.Prelude.{IsErrOf}
use Rattle.kh_io.specs.Told.{Told}
use Rattle.kh_log.specs.declared.error.LogError.TheVariants.{NotALog}
use Rattle.kh_log.specs.Records.{length_of, IsOpenAt}
use Rattle.kh_log.specs.Log.{Place}
use Rattle.kh_log.proofs.Walk.{told_length, holds_still, read_lacks}
use Rattle.kh_log.proofs.log.Log.next_length.Goals as goal

pub returns-in_err-length-clause-lacking : goal.returns-in_err-length-clause-lacking
returns-in_err-length-clause-lacking g c = λ o is.
    let same : IsErrOf {T = ℕ} (Err c.in_err-length.field-0.0) (NotALog o) = search rules in
    let lt : c.args.self.now.read < c.args.self.now.records =
    omega (arith, c.self.invariant.1, c.if-self.false, ap (λ (p : Place). p.read) c.self.view_is, ap (λ (p : Place). p.records) c.self.view_is) in
    let P : Place → Type 0 = λ p. Told ((g.H.Disk.view c.args.host.now).seen p.file) ((g.H.Disk.view c.length_behind.new.disk).seen p.file)
    (λ was _. (after : ℕ) → IsOpenAt p.next after was → after ≤ p.last → ⊥) in
    read_lacks c.args.self.now _ _ c.requires.found lt (subst P c.self.view_is (c.in_err-length.ensures.lacks o same))

pub returns-clause-next : goal.returns-clause-next
returns-clause-next g c =
    let lt : c.args.self.now.read < c.args.self.now.records =
    omega (arith, c.self.invariant.1, c.if-self.false, ap (λ (p : Place). p.read) c.self.view_is, ap (λ (p : Place). p.records) c.self.view_is) in
    let P : Place → Type 0 = λ p. Told ((g.H.Disk.view c.args.host.now).seen p.file) ((g.H.Disk.view c.length_behind.new.disk).seen p.file)
    (λ was _. c.in_ok-length.length ≡ length_of (drop (p.next + 1) was)) in
    let below : c.args.self.now.file < 4 = omega (arith, c.self.invariant.0, ap (λ (p : Place). p.file) c.self.view_is) in
    told_length c.args.self.now c.in_ok-length.length _ _ (c.length_behind.ensures.asks.files c.args.self.now.file below).read c.requires.found lt (subst P c.self.view_is c.in_ok-length.ensures.length)

pub returns-in_err-length-clause-holds : goal.returns-in_err-length-clause-holds
returns-in_err-length-clause-holds g c =
    let below : c.args.self.now.file < 4 = omega (arith, c.self.invariant.0, ap (λ (p : Place). p.file) c.self.view_is) in
    holds_still c.args.self.now _ _ (c.length_behind.ensures.asks.files c.args.self.now.file below).read c.requires.found

pub returns-clause-holds : goal.returns-clause-holds
returns-clause-holds g c =
    let below : c.args.self.now.file < 4 = omega (arith, c.self.invariant.0, ap (λ (p : Place). p.file) c.self.view_is) in
    holds_still c.args.self.now _ _ (c.length_behind.ensures.asks.files c.args.self.now.file below).read c.requires.found
