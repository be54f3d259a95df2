use Rattle.std.proofs.Common.{◌≡◌, ℕ, ◌+◌, ◌*◌, ◌<◌, ◌≤◌, ◌^◌, List, ◌∷◌, ◌++◌, length, sym, ap, subst, ◌∙◌, arith}
use Rattle.std.specs.Prelude.{IfSome}
use Rattle.kh_io.specs.Disk.{put, IsSafe}
use Rattle.kh_io.specs.Told.{Told}
use Rattle.kh_io.specs.Frames.{Leaves, WritesFile}
use Rattle.kh_io.proofs.{told_map, writes_weakened}
use Rattle.kh_log.specs.Records.{open_gate, log_of, span, records_of}
use Rattle.kh_log.specs.Log.{Place, IsGroup, Holds, EndsAt, MayGain, with_records}
use Rattle.kh_log.proofs.Opening.{start_of, told_ends, told_holds, is_group, length_group, with_group, span_least, moved_is}
use Rattle.kh_log.proofs.log.Log.append.Goals as goal

pub open_behind-requires-clause-start : goal.open_behind-requires-clause-start
open_behind-requires-clause-start g c =
    let P : Place → Type 0 = λ p. IfSome ((g.H.Disk.view c.args.host.now).seen p.file) (λ was. p.last < length was) in
    let lt : c.args.self.now.file < 4 = omega (arith, c.self.invariant.0, ap (λ (p : Place). p.file) c.self.view_is) in
    subst P (sym c.self.view_is) (start_of _ c.args.self.now.last
    (λ bytes. g.met.H.Disk.seen_is_image c.args.host.now c.args.self.now.file bytes lt) c.requires.ready.closed)

pub returns-in_err-open_behind-clause-images : goal.returns-in_err-open_behind-clause-images
returns-in_err-open_behind-clause-images g c =
    let group = is_group c.args.r.now c.r.inside.bytes.items c.deref.result.now c.r.view_is c.r.invariant.0 c.deref.ensures.value in
    let v = g.H.Disk.view c.args.host.now in
    let w = g.H.Disk.view c.open_behind.new.disk in
    let P : Place → Type 0 = λ p. (bytes : List ℕ) → w.image p.file bytes → MayGain (v.image p.file) p.last c.args.r.now bytes in
    subst P c.self.view_is (λ left there. c.open_behind.ensures.images left there c.args.r.now group)

pub returns-in_err-open_behind-clause-writes : goal.returns-in_err-open_behind-clause-writes
returns-in_err-open_behind-clause-writes g c =
    let group = is_group c.args.r.now c.r.inside.bytes.items c.deref.result.now c.r.view_is c.r.invariant.0 c.deref.ensures.value in
    let v = g.H.Disk.view c.args.host.now in
    let w = g.H.Disk.view c.open_behind.new.disk in
    let P : Place → Type 0 = λ p. WritesFile p.file (Leaves p.file (MayGain (v.image p.file) p.last c.args.r.now) v) v w in
    subst P c.self.view_is (writes_weakened c.open_behind.ensures.writes (λ files s l. record { own = l.own c.args.r.now group; others = l.others; stamp = l.stamp }))

pub overflow_add-self-2 : goal.overflow_add-self-2
overflow_add-self-2 g c =
    let group = is_group c.args.r.now c.r.inside.bytes.items c.deref.result.now c.r.view_is c.r.invariant.0 c.deref.ensures.value in
    let long : length c.deref.result.now ≡ span c.args.r.now = length_group c.args.r.now c.deref.result.now group in
    let all : length (log_of c.args.r.now) ≡ length c.deref.result.now + 1 = omega (arith, ap length group.log) in
    let last : c.self.inside.last ≡ c.args.self.now.last = ap (λ (p : Place). p.last) c.self.view_is in
    let count : c.r.inside.count ≡ length c.args.r.now = c.r.invariant.1 ∙ ap length c.r.view_is in
    let least = span_least c.args.r.now in
    let room : c.args.self.now.last + length (log_of c.args.r.now) ≤ 2 ^ 62 = c.requires.room in
    let most : 5 * c.self.inside.records ≤ c.self.inside.last = c.self.invariant.2 in
    omega (arith, long, all, last, count, least, room, most)

pub invariant_of-self : goal.invariant_of-self
invariant_of-self g c =
    let group = is_group c.args.r.now c.r.inside.bytes.items c.deref.result.now c.r.view_is c.r.invariant.0 c.deref.ensures.value in
    let long : length c.deref.result.now ≡ span c.args.r.now = length_group c.args.r.now c.deref.result.now group in
    let count : c.r.inside.count ≡ length c.args.r.now = c.r.invariant.1 ∙ ap length c.r.view_is in
    let least = span_least c.args.r.now in
    let most : 5 * c.self.inside.records ≤ c.self.inside.last = c.self.invariant.2 in
    let len : c.len.result ≡ length c.deref.result.now = c.len.ensures ∙ sym c.deref.ensures.len in
    let all : length (log_of c.args.r.now) ≡ length c.deref.result.now + 1 = omega (arith, ap length group.log) in
    let last : c.self.inside.last ≡ c.args.self.now.last = ap (λ (p : Place). p.last) c.self.view_is in
    let room : c.args.self.now.last + length (log_of c.args.r.now) ≤ 2 ^ 62 = c.requires.room in
    (c.self.invariant.0, omega arith, omega (arith, long, count, least, most, len), omega arith, omega (arith, room, all, last, len))

pub returns-clause-written : goal.returns-clause-written
returns-clause-written g c =
    let group = is_group c.args.r.now c.r.inside.bytes.items c.deref.result.now c.r.view_is c.r.invariant.0 c.deref.ensures.value in
    let P : Place → Type 0 = λ p. Told ((g.H.Disk.view c.args.host.now).seen p.file) ((g.H.Disk.view c.open_behind.new.disk).seen p.file)
    (λ was now. now ≡ put was p.last (open_gate ∷ c.deref.result.now)) in
    let here : Told ((g.H.Disk.view c.args.host.now).seen c.args.self.now.file) ((g.H.Disk.view c.open_behind.new.disk).seen c.args.self.now.file)
    (λ was now. now ≡ put was c.args.self.now.last (open_gate ∷ c.deref.result.now)) = subst P c.self.view_is c.in_ok-open_behind.ensures.written in
    let later : (was now : List ℕ) → now ≡ put was c.args.self.now.last (open_gate ∷ c.deref.result.now) → now ≡ with_records c.args.self.now.last c.args.r.now was =
    λ was now is. is ∙ sym (with_group c.args.self.now.last c.args.r.now c.deref.result.now was group) in
    told_map ((g.H.Disk.view c.args.host.now).seen c.args.self.now.file) ((g.H.Disk.view c.open_behind.new.disk).seen c.args.self.now.file) here later

pub returns-clause-settled : goal.returns-clause-settled
returns-clause-settled g c =
    let group = is_group c.args.r.now c.r.inside.bytes.items c.deref.result.now c.r.view_is c.r.invariant.0 c.deref.ensures.value in
    let long : length c.deref.result.now ≡ span c.args.r.now = length_group c.args.r.now c.deref.result.now group in
    let len : c.len.result ≡ span c.args.r.now = c.len.ensures ∙ sym c.deref.ensures.len ∙ long in
    let count : c.r.inside.count ≡ length c.args.r.now = c.r.invariant.1 ∙ ap length c.r.view_is in
    let lt : c.args.self.now.file < 4 = omega (arith, c.self.invariant.0, ap (λ (p : Place). p.file) c.self.view_is) in
    let Q : Place → Type 0 = λ p. Told ((g.H.Disk.view c.args.host.now).seen p.file) ((g.H.Disk.view c.open_behind.new.disk).seen p.file) (λ was now.
    (rs more : List (List ℕ)) → IsGroup more c.deref.result.now → EndsAt p.last rs was → EndsAt (p.last + length c.deref.result.now) (rs ++ more) now) in
    let ends = told_ends _ _ c.args.self.now c.args.r.now c.deref.result.now
    (λ bytes. g.met.H.Disk.seen_is_image c.args.host.now c.args.self.now.file bytes lt) c.requires.ready.found c.requires.ready.closed group
    (subst Q c.self.view_is c.in_ok-open_behind.ensures.appended) in
    let there = told_holds ((g.H.Disk.view c.args.host.now).seen c.args.self.now.file) ((g.H.Disk.view c.open_behind.new.disk).seen c.args.self.now.file) c.args.self.now c.args.r.now c.requires.ready.all_read c.requires.ready.found
    (subst (λ n. Told ((g.H.Disk.view c.args.host.now).seen c.args.self.now.file) ((g.H.Disk.view c.open_behind.new.disk).seen c.args.self.now.file)
    (λ was now. EndsAt (c.args.self.now.last + n) (records_of was ++ c.args.r.now) now)) long ends) in
    let w = g.H.Disk.view c.open_behind.new.disk in
    record {
      safe = subst (λ (p : Place). IsSafe (w.seen p.file) (w.image p.file)) c.self.view_is c.in_ok-open_behind.ensures.safe;
      found = subst (λ (p : Place). IfSome ((g.H.Disk.view c.open_behind.new.disk).seen c.args.self.now.file) (Holds p))
          (sym (moved_is _ c.args.self.now c.args.r.now c.r.inside.count c.len.result c.self.view_is c.requires.ready.all_read count len)) there;
    }

pub returns-clause-moved : goal.returns-clause-moved
returns-clause-moved g c =
    let group = is_group c.args.r.now c.r.inside.bytes.items c.deref.result.now c.r.view_is c.r.invariant.0 c.deref.ensures.value in
    let len : c.len.result ≡ span c.args.r.now = c.len.ensures ∙ sym c.deref.ensures.len ∙ length_group c.args.r.now c.deref.result.now group in
    let count : c.r.inside.count ≡ length c.args.r.now = c.r.invariant.1 ∙ ap length c.r.view_is in
    moved_is _ c.args.self.now c.args.r.now c.r.inside.count c.len.result c.self.view_is c.requires.ready.all_read count len

pub returns-clause-images : goal.returns-clause-images
returns-clause-images g c =
    let group = is_group c.args.r.now c.r.inside.bytes.items c.deref.result.now c.r.view_is c.r.invariant.0 c.deref.ensures.value in
    let v = g.H.Disk.view c.args.host.now in
    let w = g.H.Disk.view c.open_behind.new.disk in
    let P : Place → Type 0 = λ p. (bytes : List ℕ) → w.image p.file bytes → MayGain (v.image p.file) p.last c.args.r.now bytes in
    subst P c.self.view_is (λ left there. c.open_behind.ensures.images left there c.args.r.now group)

pub returns-clause-writes : goal.returns-clause-writes
returns-clause-writes g c =
    let group = is_group c.args.r.now c.r.inside.bytes.items c.deref.result.now c.r.view_is c.r.invariant.0 c.deref.ensures.value in
    let v = g.H.Disk.view c.args.host.now in
    let w = g.H.Disk.view c.open_behind.new.disk in
    let P : Place → Type 0 = λ p. WritesFile p.file (Leaves p.file (MayGain (v.image p.file) p.last c.args.r.now) v) v w in
    subst P c.self.view_is (writes_weakened c.open_behind.ensures.writes (λ files s l. record { own = l.own c.args.r.now group; others = l.others; stamp = l.stamp }))
