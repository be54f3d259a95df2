-- Where a term stands in the bytes.
use Rattle.std.proofs.Common.{◌≡◌, ◌<◌, ◌≤◌, ◌+◌, ◌-◌, ℕ, List, ◌++◌, length, take, drop, Some, None, Ok, inl, refl, ap, sym, ◌∙◌, arith, length-append, length-drop}
use Rattle.std.specs.Prelude.{slice_range}
use Rattle.std.proofs.lemmas.List.{take_at, take-append-drop, drop-drop}
use Rattle.std.proofs.lemmas.Option.{same_Some}
use Rattle.kh_term.specs.declared.term.Term.{Term}
use Rattle.kh_term.specs.declared.tree.TermTree.{TermTree}
use Rattle.kh_term.specs.Packed.{packed_of}
use Rattle.kh_term.proofs.Tags.{tagged}
use Rattle.kh_term.proofs.OneTree.{same_node}
use Rattle.kh_pack.specs.Reading.{term_at}
use Rattle.kh_pack.specs.Standing.{IsPackedAt, IsUnlessMemory}
use Rattle.kh_pack.proofs.Steps.{IsBytes, IsBytes-drop}
use Rattle.kh_pack.proofs.TermsRead.{term_read}
use Rattle.kh_pack.proofs.TermsAgain.{term_again}

-- packed bytes are never none
packed_some : (t : TermTree) → 0 < length (packed_of t)
packed_some t = omega (arith, ap (λ (b : List ℕ). length b) (tagged t).1)

-- a term with what is behind it
pub record IsPlaced (bytes : List ℕ) (at : ℕ) (t : TermTree) (rest : List ℕ) : Type 0 where
  pub fits : length rest ≤ length bytes
  pub stands : IsPackedAt bytes at (length bytes - length rest) t

-- what is read stands there
pub read_is_placed : (bytes : List ℕ) (at : ℕ) (left : List ℕ) (t : TermTree) (rest : List ℕ) → IsBytes bytes → at ≤ length bytes → left ≡ drop at bytes
    → term_at 256 left ≡ Some (t, rest) → IsPlaced bytes at t rest
read_is_placed bytes at left t rest fits within is e =
    let read = term_read 256 (drop at bytes) (t, rest) (IsBytes-drop at bytes fits) (ap (term_at 256) (sym is) ∙ e) in
    let parts : drop at bytes ≡ packed_of t ++ rest = read.takes.parts in
    let some = packed_some t in
    let whole : length (drop at bytes) ≡ length (packed_of t) + length rest = ap (λ (b : List ℕ). length b) parts ∙ length-append (packed_of t) rest in
    let left : length (drop at bytes) ≡ length bytes - at = length-drop at bytes in
    let long : (length bytes - length rest) - at ≡ length (packed_of t) = omega arith in
    let front : slice_range bytes at (length bytes - length rest) ≡ packed_of t =
    (λ i. take (long i) (parts i)) ∙ take_at (packed_of t) rest (length (packed_of t)) refl in
    record { fits = omega arith; stands = (omega arith, omega arith, front, read.shallow, read.narrow) }

-- a term that stands there is read
pub stands_again : (bytes : List ℕ) (at end : ℕ) (left : List ℕ) (t : Term) → left ≡ drop at bytes → IsPackedAt bytes at end t.node
    → term_at 256 left ≡ Some (t.node, drop end bytes)
stands_again bytes at end left t is stands =
    let len : at + (end - at) ≡ end = omega (arith, stands.0) in
    let behind : drop (end - at) (drop at bytes) ≡ drop end bytes = drop-drop (end - at) at bytes ∙ ap (λ n. drop n bytes) len in
    let parts : drop at bytes ≡ packed_of t.node ++ drop end bytes = sym (take-append-drop (end - at) (drop at bytes)) ∙ (λ i. stands.2 i ++ behind i) in
    ap (term_at 256) (is ∙ parts) ∙ term_again t.node 256 (drop end bytes) t.fits stands.4 stands.3

-- nothing stands where nothing is read
pub none_stands : (bytes : List ℕ) (at end : ℕ) (left : List ℕ) (t : Term) → left ≡ drop at bytes → term_at 256 left ≡ None → IsPackedAt bytes at end t.node → ⊥
none_stands bytes at end left t is none stands =
    let again = stands_again bytes at end left t is stands in cc

-- the term that stands there is the one that was read
pub only_one : (bytes : List ℕ) (at end : ℕ) (left : List ℕ) (t read : Term) (rest : List ℕ) → left ≡ drop at bytes → term_at 256 left ≡ Some (read.node, rest)
    → IsPackedAt bytes at end t.node → IsUnlessMemory {X = Term × ℕ} (Ok (read, length bytes - length rest)) (t, end)
only_one bytes at end left t read rest is e stands =
    let both = same_Some (read.node, rest) (t.node, drop end bytes) (sym e ∙ stands_again bytes at end left t is stands) in
    let node : read.node ≡ t.node = ap (λ (y : TermTree × List ℕ). y.0) both in
    let len : length rest ≡ length bytes - end = ap (λ (y : TermTree × List ℕ). length y.1) both ∙ length-drop end bytes in
    let place : length bytes - length rest ≡ end = omega (arith, stands.1) in
    let same = same_node read t node in
    inl (λ i. Ok (same i, place i))
