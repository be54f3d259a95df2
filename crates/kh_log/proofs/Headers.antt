-- The gate and the length that stand at a place, from the bytes that were read there.
use Rattle.std.proofs.Common.{◌≡◌, ℕ, zero, suc, ◌+◌, ◌-◌, ◌<◌, ◌≤◌, List, [], ◌∷◌, length, take, drop, get_or, sym, ap, ◌∙◌, arith, length-take, length-drop}
use Rattle.std.specs.Prelude.{slice_index}
use Rattle.std.proofs.lemmas.List.{drop_more, drop-drop, drop-take, take_all, take-append-drop}
use Rattle.kh_io.specs.Disk.{IsReadAt}
use Rattle.kh_log.specs.Records.{open_gate, length_of, LacksAt, IsOpenAt}
use Rattle.kh_log.proofs.Records.{length_of-append}

same_first : (count g : ℕ) (header rest : List ℕ) → 1 ≤ count → 1 ≤ length header → take count header ≡ take count (g ∷ rest) → slice_index header 0 ≡ g
same_first zero g header rest some long same = absurd (omega (arith, some))
same_first (suc count) g [] rest some long same = absurd (omega (arith, long))
same_first (suc count) g (h ∷ hs) rest some long same = cc

-- the byte at the place
pub gate_at : (bytes : List ℕ) (at count : ℕ) (header : List ℕ) → IsReadAt bytes at count header → length header ≡ 5 → at < length bytes
    → drop at bytes ≡ slice_index header 0 ∷ drop (at + 1) bytes
gate_at bytes at count header is five within =
    let there = drop_more bytes at 0 within in
    let same : slice_index header 0 ≡ get_or bytes at 0 =
    same_first count (get_or bytes at 0) header (drop (at + 1) bytes) (omega (arith, is.count, five, within)) (omega (arith, five)) (is.bytes ∙ ap (take count) there) in
    there ∙ ap (λ g. g ∷ drop (at + 1) bytes) (sym same)

length_of-take : (bytes : List ℕ) → 4 ≤ length bytes → length_of (take 4 bytes) ≡ length_of bytes
length_of-take bytes four =
    sym (length_of-append (take 4 bytes) (drop 4 bytes) (omega (arith, length-take 4 bytes, four))) ∙ ap length_of (take-append-drop 4 bytes)

-- the length behind it
pub length_at : (bytes : List ℕ) (at count : ℕ) (header : List ℕ) → IsReadAt bytes at count header → length header ≡ 5 → 5 ≤ count
    → length_of (drop 1 header) ≡ length_of (drop (at + 1) bytes)
length_at bytes at count header is five all =
    let full : take count header ≡ header = take_all count header (omega (arith, five, all)) in
    let exact : count ≡ 1 + 4 = omega (arith, is.count, five, all) in
    let same : drop 1 header ≡ take 4 (drop (at + 1) bytes) =
    ap (drop 1) (sym full ∙ is.bytes ∙ ap (λ n. take n (drop at bytes)) exact) ∙ drop-take 1 4 (drop at bytes) ∙ ap (take 4) (drop-drop 1 at bytes) in
    ap length_of same ∙ length_of-take (drop (at + 1) bytes) (omega (arith, is.count, five, all, length-drop (at + 1) bytes))

open_there : (bytes : List ℕ) (at count : ℕ) (header : List ℕ) → IsReadAt bytes at count header → length header ≡ 5 → at < length bytes → slice_index header 0 ≡ open_gate
    → drop at bytes ≡ open_gate ∷ drop (at + 1) bytes
open_there bytes at count header is five within gate = gate_at bytes at count header is five within ∙ ap (λ g. g ∷ drop (at + 1) bytes) gate

pub lacks_header : (bytes : List ℕ) (at count : ℕ) (header : List ℕ) → IsReadAt bytes at count header → length header ≡ 5 → at < length bytes → slice_index header 0 ≡ open_gate
    → count < 5 → LacksAt at bytes
lacks_header bytes at count header is five within gate few = record {
  behind = drop (at + 1) bytes;
  there = open_there bytes at count header is five within gate;
  short = omega (arith, is.count, five, few, length-drop (at + 1) bytes);
}

pub lacks_bytes : (bytes : List ℕ) (at count n : ℕ) (header : List ℕ) → IsReadAt bytes at count header → length header ≡ 5 → at < length bytes → slice_index header 0 ≡ open_gate
    → 5 ≤ count → n ≡ length_of (drop 1 header) → length bytes - at - 1 < 5 + n → LacksAt at bytes
lacks_bytes bytes at count n header is five within gate all len few = record {
  behind = drop (at + 1) bytes;
  there = open_there bytes at count header is five within gate;
  short = omega (arith, len, length_at bytes at count header is five all, few, length-drop (at + 1) bytes);
}

pub open_header : (bytes : List ℕ) (at count n : ℕ) (header : List ℕ) → IsReadAt bytes at count header → length header ≡ 5 → at < length bytes → slice_index header 0 ≡ open_gate
    → 5 ≤ count → n ≡ length_of (drop 1 header) → 5 + n ≤ length bytes - at - 1 → IsOpenAt at (at + 5 + n) bytes
open_header bytes at count n header is five within gate all len enough = record {
  behind = drop (at + 1) bytes;
  there = open_there bytes at count header is five within gate;
  enough = omega (arith, len, length_at bytes at count header is five all, enough, length-drop (at + 1) bytes);
  next = omega (arith, len, length_at bytes at count header is five all);
}

pub rest_of : (header : List ℕ) → take (length header - 1) (drop 1 header) ≡ drop 1 header
rest_of header = take_all (length header - 1) (drop 1 header) (omega (arith, length-drop 1 header))

-- the four bytes of a length
pub length_read : (bytes : List ℕ) (at count : ℕ) (header : List ℕ) → IsReadAt bytes at count header → length header ≡ 4 → 4 ≤ count → length_of header ≡ length_of (drop at bytes)
length_read bytes at count header is four all =
    let full : take count header ≡ header = take_all count header (omega (arith, four, all)) in
    let exact : count ≡ 4 = omega (arith, is.count, four, all) in
    ap length_of (sym full ∙ is.bytes ∙ ap (λ n. take n (drop at bytes)) exact)
    ∙ length_of-take (drop at bytes) (omega (arith, is.count, four, all, length-drop at bytes))

pub behind_is : (at after : ℕ) (bytes : List ℕ) (o : IsOpenAt at after bytes) → drop (at + 1) bytes ≡ o.behind
behind_is at after bytes o = sym (drop-drop 1 at bytes) ∙ ap (drop 1) o.there

-- behind an open gate all four are there
pub length_there : (at after count : ℕ) (bytes header : List ℕ) → IsOpenAt at after bytes → IsReadAt bytes (at + 1) count header → length header ≡ 4 → count < 4 → ⊥
length_there at after count bytes header o is four few =
    omega (arith, o.enough, ap length (behind_is at after bytes o), length-drop (at + 1) bytes, is.count, four, few)

pub ends_within : (at after last n : ℕ) (bytes : List ℕ) → IsOpenAt at after bytes → after ≤ last → n ≡ length_of (drop (at + 1) bytes) → last - at < 5 + n → ⊥
ends_within at after last n bytes o within len few =
    omega (arith, o.next, within, len, ap length_of (behind_is at after bytes o), few)

pub bytes_there : (at after n : ℕ) (bytes : List ℕ) → IsOpenAt at after bytes → n ≡ length_of (drop (at + 1) bytes) → length bytes < at + 5 + n → ⊥
bytes_there at after n bytes o len few =
    omega (arith, o.enough, len, ap length_of (behind_is at after bytes o), few, ap length (behind_is at after bytes o), length-drop (at + 1) bytes)
