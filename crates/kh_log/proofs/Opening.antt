-- An append in two writes, each made safe.
use Rattle.std.proofs.Common.{◌≡◌, inl, ℕ, ◌+◌, ◌*◌, ◌<◌, ◌≤◌, List, [], ◌∷◌, ◌++◌, length, take, drop, Option, Some, None, subst, ap, sym, ◌∙◌, refl, arith, length-append, length-take, length-drop}
use Rattle.std.specs.Prelude.{IfSome, IfNone, OnOk, Result, Ok, Err}
use Rattle.kh_io.specs.declared.files.Files.{Files}
use Rattle.kh_io.specs.Disk.{file_of, put, Torn, IsSafe, Stays}
use Rattle.kh_io.specs.Told.{Told}
use Rattle.kh_io.specs.View.{View}
use Rattle.kh_io.specs.Frames.{OthersStay, Leaves}
use Rattle.kh_io.proofs.{told_before, told_both}
use Rattle.kh_log.specs.Records.{open_gate, Content, records_of, log_of, span, IsClosedAt}
use Rattle.kh_log.specs.Log.{Place, Holds, ImagesAre, moved, begun_at, EndsAt, IsBeforeOrAfter, IsGroup, IsTornOf, MayGainGroup, with_records}
use Rattle.std.proofs.lemmas.List.{take_all}
use Rattle.std.proofs.lemmas.Option.{same_Some}
use Rattle.kh_log.proofs.Records.{span-append, length-front}
use Rattle.kh_log.proofs.Append.{ends_at, at_span, nothing_split, Staged, group_of, torn_behind, written_behind, torn_gate, written_gate, put_gate}

pub longer : (at : ℕ) (bytes was : List ℕ) → at ≤ length was → length was ≤ length (put was at bytes)
longer at bytes was le = omega (arith, le, length-append (take at was ++ bytes) (drop (at + length bytes) was), length-append (take at was) bytes, length-take at was, length-drop (at + length bytes) was)

-- after the first write the gate is still in the file
pub start_again : (old new : Option (List ℕ)) (last : ℕ) (bytes : List ℕ) → Told old new (λ was now. now ≡ put was (last + 1) bytes)
    → IfSome old (λ was. last < length was) → IfSome new (λ now. last ≤ length now)
start_again (Some was) (Some now) last bytes is lt = omega (arith, lt, ap length is, longer (last + 1) bytes was (omega (arith, lt)))
start_again None (Some now) last bytes is lt = absurd is
start_again old None last bytes is lt = tt

-- of an outcome of the first write
pub first_left : {image : List ℕ → Type 0} (last : ℕ) (rs more : List (List ℕ)) (n : ℕ) → ((was : List ℕ) → image was → EndsAt last rs was)
    → (left : List ℕ) → (was : List ℕ) × image was × Torn (last + 1) n was left → IsBeforeOrAfter rs more left
first_left last rs more n ends left (was, before, torn) = inl (at_span last rs left (torn_behind last n rs was left (ends was before) torn))

-- between the writes a crash leaves the group behind the gate
pub staged : {image image' : List ℕ → Type 0} (last : ℕ) (rs : List (List ℕ)) (body : List ℕ) → ((was : List ℕ) → image was → EndsAt last rs was)
    → (seen seen' : Option (List ℕ)) → ((bytes : List ℕ) → seen ≡ Some bytes → image bytes)
    → Told seen seen' (λ was now. now ≡ put was (last + 1) body) → IsSafe seen' image' → (left : List ℕ) → image' left → Staged last rs body left
staged last rs body ends seen seen' law told safe left there =
    let was = told_before (λ was now. now ≡ put was (last + 1) body) seen left (subst (λ (s : Option (List ℕ)). Told seen s (λ was now. now ≡ put was (last + 1) body)) (safe left there) told) in
    written_behind last rs body was.0 left (ends was.0 (law was.0 was.1)) was.2

-- of an outcome of the second
pub second_left : {image' : List ℕ → Type 0} (last : ℕ) (rs more : List (List ℕ)) (body : List ℕ) → IsGroup more body
    → ((was : List ℕ) → image' was → Staged last rs body was) → (left : List ℕ) → (was : List ℕ) × image' was × Torn last 1 was left → IsBeforeOrAfter rs more left
second_left last rs more body group stage left (was, there, torn) = torn_gate last rs more body was left (group_of more body group.are group.log) (stage was there) torn

-- a part of what holds at Ok
pub on_ok : {T E P Q : Type 0} (r : Result T E) → OnOk r P → (P → Q) → OnOk r Q
on_ok (Ok v) holds is = is holds
on_ok (Err e) holds is = tt

-- where both writes are done
pub both_written : (a b c : Option (List ℕ)) (last : ℕ) (body : List ℕ) → Told a b (λ was now. now ≡ put was (last + 1) body) → Told b c (λ was now. now ≡ put was last (open_gate ∷ []))
    → Told a c (λ was now. (rs more : List (List ℕ)) → IsGroup more body → EndsAt last rs was → EndsAt (last + length body) (rs ++ more) now)
both_written a b c last body first second = told_both a b c first second (λ x y z p q rs more group ends.
    written_gate last rs more body y z (group_of more body group.are group.log) (written_behind last rs body x y ends p) q)

-- and so the gate and the bytes behind it stand in the file
pub both_put : (a b c : Option (List ℕ)) (last gate : ℕ) (body : List ℕ) → IfSome a (λ was. last < length was) → Told a b (λ was now. now ≡ put was (last + 1) body)
    → Told b c (λ was now. now ≡ put was last (gate ∷ [])) → Told a c (λ was now. now ≡ put was last (gate ∷ body))
both_put (Some was) (Some staged) (Some now) last gate body within first second = second ∙ ap (λ (l : List ℕ). put l last (gate ∷ [])) first ∙ put_gate last gate body was within
both_put None (Some staged) c last gate body within first second = absurd first
both_put a None (Some now) last gate body within first second = absurd second
both_put (Some was) b None last gate body within first second = tt
both_put None None None last gate body within first second = tt

-- what a crash during the first write leaves
pub during_first : (file last : ℕ) (body : List ℕ) (v : View) (files : Files) (s : ℕ) → Leaves file (IsTornOf (v.image file) (last + 1) (length body)) v files s
    → Leaves file (MayGainGroup (v.image file) last body) v files s
during_first file last body v files s w = record {
  own = λ more group rs ends. first_left last rs more (length body) ends (file_of files file) w.own;
  others = w.others;
  stamp = w.stamp;
}

-- and during the second
pub during_second : (file last : ℕ) (body : List ℕ) (v w : View)
    → ((rs : List (List ℕ)) → ((was : List ℕ) → v.image file was → EndsAt last rs was) → (was : List ℕ) → w.image file was → Staged last rs body was)
    → OthersStay file v w → w.stamp ≡ v.stamp → (files : Files) (s : ℕ) → Leaves file (IsTornOf (w.image file) last 1) w files s
    → Leaves file (MayGainGroup (v.image file) last body) v files s
during_second file last body v w stage others same files s left = record {
  own = λ more group rs ends. second_left last rs more body group (stage rs ends) (file_of files file) left.own;
  others = λ other below not. (others other below not).only (file_of files other) (left.others other below not);
  stamp = left.stamp ∙ same;
}

-- what a log found and a closed gate at its end
pub ends_of : (log : Place) (bytes : List ℕ) → Holds log bytes → IsClosedAt log.last bytes → EndsAt log.last (records_of bytes) bytes
ends_of log bytes holds closed = record {
  content = ap (λ (l : Option ℕ). record { records = records_of bytes; lacking = l }) holds.none_lacks;
  place = holds.last;
  gate = closed;
}

-- Where the log is told and each image has a closed gate at its end, and a crash leaves what a read gives, each is the log's records and
-- that gate.
pub settled : {image : List ℕ → Type 0} (log : Place) (seen : Option (List ℕ)) (was : List ℕ) → seen ≡ Some was → Holds log was → IsClosedAt log.last was
    → IsSafe seen image → (bytes : List ℕ) → image bytes → EndsAt log.last (records_of was) bytes
settled log seen was told holds closed safe bytes there =
    subst (EndsAt log.last (records_of was)) (same_Some was bytes (sym told ∙ safe bytes there)) (ends_of log was holds closed)

closed_before_end : (last : ℕ) (bytes : List ℕ) → IsClosedAt last bytes → last < length bytes
closed_before_end last bytes closed = omega (arith, ap length closed.there, length-drop last bytes)

pub start_of : {image : List ℕ → Type 0} (seen : Option (List ℕ)) (last : ℕ) → ((bytes : List ℕ) → seen ≡ Some bytes → image bytes)
    → ImagesAre seen image (IsClosedAt last) → IfSome seen (λ was. last < length was)
start_of (Some was) last law closed = closed_before_end last was (closed was (law was refl))
start_of None last law closed = tt

-- what is told before and after, where the log is found and its last gate closed
pub told_ends : {image : List ℕ → Type 0} (seen seen' : Option (List ℕ)) (log : Place) (more : List (List ℕ)) (body : List ℕ)
    → ((bytes : List ℕ) → seen ≡ Some bytes → image bytes) → IfSome seen (Holds log) → ImagesAre seen image (IsClosedAt log.last) → IsGroup more body
    → Told seen seen' (λ was now. (rs more : List (List ℕ)) → IsGroup more body → EndsAt log.last rs was → EndsAt (log.last + length body) (rs ++ more) now)
    → Told seen seen' (λ was now. EndsAt (log.last + length body) (records_of was ++ more) now)
told_ends (Some was) (Some now) log more body law found closed group told =
    told (records_of was) more group (ends_of log was found (closed was (law was refl)))
told_ends None (Some now) log more body law found closed group told = absurd told
told_ends old None log more body law found closed group told = tt

pub is_group : (more : List (List ℕ)) (items body : List ℕ) → records_of (open_gate ∷ items) ≡ more → log_of (records_of (open_gate ∷ items)) ≡ open_gate ∷ items
    → body ≡ items → IsGroup more body
is_group more items body are logged same =
    subst (IsGroup more) (sym same) (record { are = sym are; log = ap log_of (sym are) ∙ logged })

pub length_group : (more : List (List ℕ)) (body : List ℕ) → IsGroup more body → length body ≡ span more
length_group more body group = (group_of more body group.are group.log).long

-- what a group leaves where it stands behind a log
pub with_group : (last : ℕ) (more : List (List ℕ)) (body was : List ℕ) → IsGroup more body → with_records last more was ≡ put was last (open_gate ∷ body)
with_group last [] body was group = absurd (cc (group.log))
with_group last (r ∷ rs) body was group = ap (λ (bytes : List ℕ). put was last bytes) group.log

-- after an append of a log whose records are all read
pub holds_after : (log : Place) (more : List (List ℕ)) (bytes : List ℕ) (rs : List (List ℕ)) → log.read ≡ log.records → log.records ≡ length rs → log.last ≡ span rs
    → EndsAt (log.last + span more) (rs ++ more) bytes → Holds (moved log more) bytes
holds_after log more bytes rs all count last e =
    let are : records_of bytes ≡ rs ++ more = ap (λ (c : Content). c.records) e.content in
    record {
      none_lacks = ap (λ (c : Content). c.lacking) e.content;
      records = omega (arith, count, ap length are, length-append rs more);
      last = omega (arith, last, ap span are, span-append rs more);
      read = omega (arith, all);
      next = omega (arith, last, ap span are, span-append rs more, ap span (take_all (log.read + length more) (records_of bytes) (omega (arith, all, count, ap length are, length-append rs more))));
    }

pub told_holds : (seen seen' : Option (List ℕ)) (log : Place) (more : List (List ℕ)) → log.read ≡ log.records → IfSome seen (Holds log)
    → Told seen seen' (λ was now. EndsAt (log.last + span more) (records_of was ++ more) now) → IfSome seen' (Holds (moved log more))
told_holds (Some was) (Some now) log more all found told = holds_after log more now (records_of was) all found.records found.last told
told_holds None (Some now) log more all found told = absurd told
told_holds old None log more all found told = tt

pub span_least : (rs : List (List ℕ)) → 5 * length rs ≤ span rs
span_least [] = omega arith
span_least (r ∷ rs) = omega (arith, span_least rs)

-- how far a log moves
pub moved_is : (inside log : Place) (more : List (List ℕ)) (count len : ℕ) → inside ≡ log → log.read ≡ log.records → count ≡ length more → len ≡ span more
    → record { file = inside.file; records = inside.records + count; read = inside.records + count; next = inside.last + len; last = inside.last + len } ≡ moved log more
moved_is inside log more count len same read counts lens =
    let at : Place → ℕ → ℕ → ℕ → Place = λ p r n l. record { file = p.file; records = p.records + n; read = r + n; next = p.last + l; last = p.last + l } in
    ap (λ (p : Place). at p p.records count len) same ∙ ap (λ n. at log log.records n len) counts ∙ ap (λ l. at log log.records (length more) l) lens
    ∙ ap (λ r. at log r (length more) (span more)) (sym read)

-- the log of a file of these records alone
pub group_ends : (more : List (List ℕ)) (body : List ℕ) → IsGroup more body → EndsAt (span more) more (log_of more)
group_ends more body group =
    let parts = group_of more body group.are group.log in
    subst (EndsAt (span more) more) (sym (group.log ∙ parts.is)) (ends_at (span more) more (parts.group ++ 0 ∷ [])
    (record {
      front = parts.group;
      gate = 0;
      tail = [];
      is = refl;
      records = parts.records;
      place = length-front more parts.group parts.records;
      closed = λ zero_is. absurd (omega (arith, zero_is));
    }))

pub begun_holds : (file : ℕ) (rs : List (List ℕ)) (bytes : List ℕ) → EndsAt (span rs) rs bytes → Holds (begun_at file rs) bytes
begun_holds file rs bytes e =
    let are : records_of bytes ≡ rs = ap (λ (c : Content). c.records) e.content in
    record {
      none_lacks = ap (λ (c : Content). c.lacking) e.content;
      records = sym (ap length are);
      last = sym (ap span are);
      read = omega arith;
      next = sym (ap span (take_all (length rs) (records_of bytes) (omega (arith, ap length are))) ∙ ap span are);
    }

-- a file of `00` alone
pub nothing_ends : EndsAt 0 [] (log_of [])
nothing_ends = ends_at 0 [] (0 ∷ []) nothing_split

pub begun_is : (file count len : ℕ) (rs : List (List ℕ)) → count ≡ length rs → len ≡ span rs
    → record { file = file; records = count; read = count; next = len; last = len } ≡ begun_at file rs
begun_is file count len rs counts lens =
    let at : ℕ → ℕ → Place = λ n l. record { file = file; records = n; read = n; next = l; last = l } in
    ap (λ n. at n len) counts ∙ ap (at (length rs)) lens

pub if_none : {A P : Type 0} (o : Option A) → P → IfNone o P
if_none None holds = holds
if_none (Some a) holds = tt

-- After a sync, of a file of 2 bytes or more, each image has a closed gate at the end of the log that is opened then.
pub closed_images : {first second third : List ℕ → Type 0} (a b c : Option (List ℕ)) (n last : ℕ) → IsSafe a first → Stays a b first second → Told a b (λ bytes _. n ≡ length bytes) → 2 ≤ n
    → Stays b c second third → Told b c (λ was _. 2 ≤ length was → IsClosedAt last was) → ImagesAre c third (IsClosedAt last)
closed_images (Some x) (Some y) (Some z) n last safe stay long two again closed = λ bytes there.
    let same : Some x ≡ Some bytes = safe bytes (stay.only bytes (again.only bytes there)) in
    let is : x ≡ bytes = cc in
    let kept : y ≡ x = stay.read in
    subst (IsClosedAt last) (kept ∙ is) (closed (omega (arith, long, two, ap length kept)))
closed_images None (Some y) (Some z) n last safe stay long two again closed = absurd long
closed_images a None (Some z) n last safe stay long two again closed = absurd closed
closed_images (Some x) b None n last safe stay long two again closed = tt
closed_images None b None n last safe stay long two again closed = tt
