use Rattle.std.proofs.Common.{◌≡◌, ◌<◌, ◌+◌, ℕ, length, take, drop, Err, sym, ap, subst, ◌∙◌, arith, rules, Vec}
use Rattle.std.specs.declared.alloc.Global.{Global}
use Rattle.std.specs.Prelude.{IsErrOf, IfSome}
use Rattle.kh_io.specs.Told.{Told}
use Rattle.kh_log.specs.declared.error.LogError.TheVariants.{NotALog}
use Rattle.kh_log.specs.Log.{Place, Holds}
use Rattle.kh_log.proofs.Walk.{read_next, read_holds, read_whole}
use Rattle.kh_log.proofs.log.Log.read_record.Goals as goal

pub returns-in_err-bytes-clause-lacking : goal.returns-in_err-bytes-clause-lacking
returns-in_err-bytes-clause-lacking g c = λ o is.
    let same : IsErrOf {T = Vec ℕ Global} (Err c.in_err-bytes.field-0.0) (NotALog o) = search rules in
    let P : Place → Type 0 = λ p. Told ((g.H.Disk.view c.args.host.now).seen p.file) ((g.H.Disk.view c.bytes_at.new.disk).seen p.file)
    (λ was _. length was < p.next + 5 + c.args.length) in
    read_whole c.args.self.now c.args.length _ _ c.requires.found c.requires.some.left c.requires.length (subst P c.self.view_is (c.in_err-bytes.ensures.lacks o same))

pub returns-clause-next : goal.returns-clause-next
returns-clause-next g c =
    let P : Place → Type 0 = λ p. Told ((g.H.Disk.view c.args.host.now).seen p.file) ((g.H.Disk.view c.bytes_at.new.disk).seen p.file)
    (λ was _. c.in_ok-bytes.bytes.items ≡ take c.args.length (drop (p.next + 5) was)) in
    read_next c.args.self.now c.args.length c.in_ok-bytes.bytes.items _ _ c.requires.found c.requires.some.left c.requires.length (subst P c.self.view_is c.in_ok-bytes.ensures.bytes)

pub returns-clause-holds : goal.returns-clause-holds
returns-clause-holds g c =
    let below : c.args.self.now.file < 4 = omega (arith, c.self.invariant.0, ap (λ (p : Place). p.file) c.self.view_is) in
    let P : Place → Type 0 = λ p. Told ((g.H.Disk.view c.args.host.now).seen p.file) ((g.H.Disk.view c.bytes_at.new.disk).seen p.file)
    (λ was _. c.in_ok-bytes.bytes.items ≡ take c.args.length (drop (p.next + 5) was)) in
    let there = read_holds c.args.self.now c.args.length c.in_ok-bytes.bytes.items ((g.H.Disk.view c.args.host.now).seen c.args.self.now.file) ((g.H.Disk.view c.bytes_at.new.disk).seen c.args.self.now.file)
    (c.bytes_at.ensures.asks.files c.args.self.now.file below).read c.requires.found c.requires.some.left c.requires.length (subst P c.self.view_is c.in_ok-bytes.ensures.bytes) in
    let at : Place → ℕ → Place = λ p n. record { file = p.file; records = p.records; read = p.read + 1; next = n; last = p.last } in
    let moved : c.self.inside.next + (5 + c.args.length) ≡ c.args.self.now.next + 5 + length c.in_ok-bytes.bytes.items =
    omega (arith, c.in_ok-bytes.ensures.length, ap (λ (p : Place). p.next) c.self.view_is) in
    subst (λ (p : Place). IfSome ((g.H.Disk.view c.bytes_at.new.disk).seen c.args.self.now.file) (Holds p))
    (sym (ap (λ (p : Place). at p (c.self.inside.next + (5 + c.args.length))) c.self.view_is ∙ ap (at c.args.self.now) moved)) there
