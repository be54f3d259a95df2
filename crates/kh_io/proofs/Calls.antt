-- The calls that entries and their bytes stand for.
use Rattle.std.proofs.Common.{ℕ, zero, suc, ◌≡◌, ◌+◌, ◌*◌, ◌≤◌, List, [], ◌∷◌, ◌++◌, Some, None, length, take, drop, sum_by, refl, ap, sym, ◌∙◌, arith, length-drop}
use Rattle.std.proofs.lemmas.List.{take-append-le, drop-append-le, length-take-le}
use Rattle.std.proofs.Math.Seq.{take-length}
use Rattle.std.proofs.lemmas.List.Sums.{sum_by-cons}
use Rattle.kh_io.specs.Call.{moved, cost}
use Rattle.kh_io.specs.Entry.{byte_count, call_of, calls_of}
use Rattle.kh_io.specs.declared.journal.Entry.{Entry}
use Rattle.kh_io.specs.declared.journal.Entry.TheVariants.{Taken, Given, Asked, Read, Written, CutTo, Synced}

-- each entry is a call
pub length-calls_of : (es : List Entry) (bs : List ℕ) → length (calls_of es bs) ≡ length es
length-calls_of [] bs = refl
length-calls_of (e ∷ es) bs = grind (arith, length-calls_of es (drop (byte_count e) bs))

-- a call moves the bytes of its entry
pub moved-call_of : (e : Entry) (bs : List ℕ) → byte_count e ≡ length bs → moved (call_of e bs) ≡ byte_count e
moved-call_of (Taken asked (Some n)) bs h = sym h
moved-call_of (Taken asked None) bs h = refl
moved-call_of (Given len count) bs h = sym h
moved-call_of (Asked file len) bs h = refl
moved-call_of (Read file at asked (Some n)) bs h = sym h
moved-call_of (Read file at asked None) bs h = refl
moved-call_of (Written file at len done) bs h = sym h
moved-call_of (CutTo file len done) bs h = refl
moved-call_of (Synced file done) bs h = refl

-- the calls move the bytes
pub moved-calls_of : (es : List Entry) (bs : List ℕ) → sum_by byte_count es ≡ length bs → sum_by moved (calls_of es bs) ≡ length bs
moved-calls_of [] bs h = h
moved-calls_of (e ∷ es) bs h =
    let both : byte_count e + sum_by byte_count es ≡ length bs = sym (sum_by-cons byte_count e es) ∙ h in
    let len : length (take (byte_count e) bs) ≡ byte_count e = length-take-le (byte_count e) bs (omega (arith, both)) in
    let first : moved (call_of e (take (byte_count e) bs)) ≡ byte_count e = moved-call_of e (take (byte_count e) bs) (sym len) in
    let rest : sum_by byte_count es ≡ length (drop (byte_count e) bs) = rw length-drop (omega (arith, both)) in
    let later : sum_by moved (calls_of es (drop (byte_count e) bs)) ≡ length (drop (byte_count e) bs) = moved-calls_of es (drop (byte_count e) bs) rest in
    sum_by-cons moved (call_of e (take (byte_count e) bs)) (calls_of es (drop (byte_count e) bs)) ∙ omega (arith, both, first, rest, later)

-- what the calls take of the room
pub cost-calls_of : (es : List Entry) (bs : List ℕ) → sum_by byte_count es ≡ length bs → cost (calls_of es bs) ≡ 64 * length es + length bs
cost-calls_of es bs h = rw (length-calls_of es bs, moved-calls_of es bs h) refl

one_call : (e : Entry) (b : List ℕ) → byte_count e ≡ length b → calls_of (e ∷ []) b ≡ call_of e b ∷ []
one_call e b h = rw (h, take-length b) refl

-- one more entry is one more call
pub calls_of-push : (es : List Entry) (bs : List ℕ) (e : Entry) (b : List ℕ)
    → sum_by byte_count es ≡ length bs → byte_count e ≡ length b
    → calls_of (es ++ e ∷ []) (bs ++ b) ≡ calls_of es bs ++ call_of e b ∷ []
calls_of-push [] [] e b sum h = one_call e b h
calls_of-push [] (x ∷ xs) e b sum h = absurd (omega (arith, sum))
calls_of-push (x ∷ es) bs e b sum h =
    let both : byte_count x + sum_by byte_count es ≡ length bs = sym (sum_by-cons byte_count x es) ∙ sum in
    let le : byte_count x ≤ length bs = omega (arith, both) in
    let rest : sum_by byte_count es ≡ length (drop (byte_count x) bs) = rw length-drop (omega (arith, both)) in
    rw (take-append-le (byte_count x) bs b le, drop-append-le (byte_count x) bs b le, calls_of-push es (drop (byte_count x) bs) e b rest h) refl

-- the first entries are the first calls
pub calls_of-take : (n : ℕ) (es : List Entry) (bs : List ℕ) → calls_of (take n es) bs ≡ take n (calls_of es bs)
calls_of-take zero es bs = refl
calls_of-take (suc n) [] bs = refl
calls_of-take (suc n) (e ∷ es) bs = ap (λ cs. call_of e (take (byte_count e) bs) ∷ cs) (calls_of-take n es (drop (byte_count e) bs))
