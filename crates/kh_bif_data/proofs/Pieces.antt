-- The bytes of a list, one element after another.
use Rattle.std.proofs.Common.{◌≡◌, ℕ, ◌+◌, ◌*◌, ◌<◌, ◌≤◌, Bool, true, false, nat_lt, List, [], ◌∷◌, ◌++◌, length, refl, sym, ap, ◌∙◌, ℤ, pos, negsuc, length-append, arith}
use Rattle.std.specs.Prelude.{Result, Ok, Err, OnOk, Option, Some, None, option_map, if◌then◌else◌, ◌<ℤ◌, ◌≤ℤ◌}
use Rattle.std.proofs.lemmas.Bool.{ltb-true}
use Rattle.std.proofs.lemmas.Int.{ints}
use Rattle.std.proofs.lemmas.List.{append_assoc, append-nil}
use borrow.Author.Tests.{lt-ltb}
use Rattle.kh_term.specs.declared.tree.TermTree.{TermTree, out-TermTree}
use Rattle.kh_term.specs.declared.tree.TermTree.TheOpen.{TermTree-F}
use Rattle.kh_heap.specs.declared.view.View.{View}
use Rattle.kh_heap.specs.declared.view.View.TheVariants as view
use Rattle.kh_heap.specs.Heap.{term_at, cons_tree}
use Rattle.kh_heap.specs.Parts.{bytes_in, text_in, parts_in, pairs_in, origin_in}
use Rattle.kh_heap.specs.View.{IsSeen}
use Rattle.kh_bif_base.proofs.Seen.{layer_at, layer_seen}
use Rattle.kh_bif_data.specs.Iolists.{byte, iolist, joined, piece_of, piece_on}
use Rattle.kh_bif_data.proofs.Byted.{halves, iolist-Int, iolist-Atom, iolist-Tuple, iolist-Map, iolist-Closure}
use Rattle.kh_bif_data.proofs.Iolisted.{iolist-Bin, iolist-Nil, iolist-cons}

-- ---- what a term gives that is seen

module _ (heap : List TermTree) (t : TermTree) where
  pub nil_bytes : IsSeen heap t view.Nil → iolist t ≡ Some []
  nil_bytes s = ap iolist s ∙ iolist-Nil

  pub bin_bytes : (n : ℕ) → IsSeen heap t (view.Bin n) → iolist t ≡ Some (bytes_in t)
  bin_bytes n s = ap iolist s.0 ∙ iolist-Bin (bytes_in t)

  pub cons_bytes : (h r : ℕ) → IsSeen heap t (view.Cons h r) → iolist t ≡ joined (piece_of (term_at heap h)) (iolist (term_at heap r))
  cons_bytes h r s = ap iolist s.0 ∙ iolist-cons (term_at heap h) (term_at heap r)

  pub no_bytes : (v : View) → IsSeen heap t v → (v ≡ view.Nil → ⊥) → ((h r : ℕ) → v ≡ view.Cons h r → ⊥) → ((n : ℕ) → v ≡ view.Bin n → ⊥) → iolist t ≡ None
  no_bytes (view.Int n) s m o p = ap iolist s ∙ iolist-Int n
  no_bytes view.Atom s m o p = ap iolist s ∙ iolist-Atom (text_in t)
  no_bytes (view.Bin n) s m o p = absurd (p n refl)
  no_bytes view.Nil s m o p = absurd (m refl)
  no_bytes (view.Cons h r) s m o p = absurd (o h r refl)
  no_bytes (view.Tuple n) s m o p = ap iolist s.0 ∙ iolist-Tuple (parts_in t)
  no_bytes (view.Map n) s m o p = ap iolist s.0 ∙ iolist-Map (pairs_in t)
  no_bytes (view.Closure n) s m o p = ap iolist s.0 ∙ iolist-Closure (origin_in t) (parts_in t)

  pub int_piece : (n : ℤ) → IsSeen heap t (view.Int n) → piece_of t ≡ byte n
  int_piece n s = ap (λ (l : TermTree-F TermTree). piece_on l (iolist t)) (layer_seen heap t (view.Int n) s)

  own : (v : View) → ((n : ℤ) → v ≡ view.Int n → ⊥) → piece_on (layer_at heap t v) (iolist t) ≡ iolist t
  own (view.Int n) h = absurd (h n refl)
  own v h = refl

  pub other_piece : (v : View) → IsSeen heap t v → ((n : ℤ) → v ≡ view.Int n → ⊥) → piece_of t ≡ iolist t
  other_piece v s h = ap (λ (l : TermTree-F TermTree). piece_on l (iolist t)) (layer_seen heap t v s) ∙ own v h

-- ---- one byte

pub byte_of : (n : ℤ) (k : ℕ) → n ≡ pos k → k < 256 → byte n ≡ Some (k ∷ [])
byte_of n k e l = ap byte e ∙ ap (λ (b : Bool). if b then Some (k ∷ []) else None) (lt-ltb k 256 l)

past : (n : ℕ) (b : Bool) → nat_lt n 256 ≡ b → 256 ≤ n → (if b then Some (n ∷ []) else None) ≡ None
past n true e l = absurd (omega (arith, ltb-true n 256 e))
past n false e l = refl

pub no_byte_below : (n : ℤ) → n <ℤ pos 0 → byte n ≡ None
no_byte_below (pos n) l = absurd (omega (arith, ints))
no_byte_below (negsuc n) l = refl

pub no_byte_above : (n : ℤ) → pos 256 ≤ℤ n → byte n ≡ None
no_byte_above (pos n) l = past n (nat_lt n 256) refl (omega (arith, ints))
no_byte_above (negsuc n) l = refl

-- ---- numbers of bytes

abbrev pub many : Option (List ℕ) → Option ℕ
many o = option_map (λ bytes. length bytes) o

abbrev pub more : ℕ → Option (List ℕ) → Option ℕ
more n o = option_map (λ bytes. n + length bytes) o

pub more_many : (n k : ℕ) (p q : Option (List ℕ)) → Some k ≡ many p → more (n + k) q ≡ more n (joined p q)
more_many n k (Some xs) (Some ys) e =
    let same : k ≡ length xs = cc in
    let sum : n + k + length ys ≡ n + length (xs ++ ys) = omega (arith, same, length-append xs ys) in
    ap (λ (i : ℕ). Some i) sum
more_many n k (Some xs) None e = refl
more_many n k None q e = absurd (cc)

pub none_many : (n : ℕ) (p q : Option (List ℕ)) → None ≡ many p → None ≡ more n (joined p q)
none_many n (Some xs) q e = absurd (cc)
none_many n None q e = refl

pub all_many : (n k : ℕ) (o : Option (List ℕ)) (xs : List ℕ) (r : Option ℕ) → o ≡ Some xs → n + length xs ≡ k → more n o ≡ r → Some k ≡ r
all_many n k o xs r e f h = ap (λ (i : ℕ). Some i) (sym f) ∙ sym (ap (more n) e) ∙ h

pub none_more : (n : ℕ) (o : Option (List ℕ)) (r : Option ℕ) → o ≡ None → more n o ≡ r → None ≡ r
none_more n o r e h = sym (ap (more n) e) ∙ h

pub one_many : (n : ℤ) → pos 0 ≤ℤ n → n <ℤ pos 256 → Some 1 ≡ many (byte n)
one_many (pos k) l h = sym (ap many (byte_of (pos k) k refl (omega (arith, ints))))
one_many (negsuc k) l h = absurd (omega (arith, ints))

pub none_below : (n : ℤ) → n <ℤ pos 0 → None ≡ many (byte n)
none_below n l = sym (ap many (no_byte_below n l))

pub none_above : (n : ℤ) → pos 256 ≤ℤ n → None ≡ many (byte n)
none_above n l = sym (ap many (no_byte_above n l))

-- ---- bytes that are written

some_same : (xs ys : List ℕ) → Some xs ≡ Some ys → xs ≡ ys
some_same xs ys e = cc

clash : (o : Option (List ℕ)) (bytes : List ℕ) → o ≡ None → o ≡ Some bytes → ⊥
clash o bytes e f = cc

pub below_apart : (n : ℤ) (bytes : List ℕ) → n <ℤ pos 0 → byte n ≡ Some bytes → ⊥
below_apart n bytes l e = clash (byte n) bytes (no_byte_below n l) e

pub above_apart : (n : ℤ) (bytes : List ℕ) → pos 256 ≤ℤ n → byte n ≡ Some bytes → ⊥
above_apart n bytes l e = clash (byte n) bytes (no_byte_above n l) e

pub byte_is : (n : ℤ) (b : ℕ) (bytes : List ℕ) → n ≡ pos b → b < 256 → byte n ≡ Some bytes → b ∷ [] ≡ bytes
byte_is n b bytes is l e =
    let f : Some (b ∷ []) ≡ Some bytes = sym (byte_of n b is l) ∙ e in
    some_same (b ∷ []) bytes f

-- what is left to write of bytes that were begun
abbrev pub Left : List ℕ → Option (List ℕ) → List ℕ → List ℕ → Type 0
Left now left before bytes = (rest : List ℕ) × (left ≡ Some rest) × (now ++ rest ≡ before ++ bytes)

pub left_more : (now longer before bytes : List ℕ) (whole p q : Option (List ℕ)) → whole ≡ joined p q → Left now whole before bytes → ((xs : List ℕ) → p ≡ Some xs → longer ≡ now ++ xs) → Left longer q before bytes
left_more now longer before bytes whole p q e left written =
    let h = halves p q left.0 (sym e ∙ left.1) in
    (h.1, h.3, ap (λ us. us ++ h.1) (written h.0 h.2) ∙ append_assoc now h.0 h.1 ∙ ap (λ us. now ++ us) h.4 ∙ left.2)

-- where nothing is left
pub left_none : (now before bytes : List ℕ) (o : Option (List ℕ)) → o ≡ Some [] → Left now o before bytes → now ≡ before ++ bytes
left_none now before bytes o e left =
    let none : left.0 ≡ [] = some_same left.0 [] (sym left.1 ∙ e) in
    sym (append-nil now) ∙ ap (λ us. now ++ us) (sym none) ∙ left.2

-- where the rest is written
pub left_rest : (now longer before bytes xs : List ℕ) (o : Option (List ℕ)) → o ≡ Some xs → Left now o before bytes → longer ≡ now ++ xs → longer ≡ before ++ bytes
left_rest now longer before bytes xs o e left written =
    let same : left.0 ≡ xs = some_same left.0 xs (sym left.1 ∙ e) in
    written ∙ ap (λ us. now ++ us) (sym same) ∙ left.2

-- where the walk ends with no binary
pub left_end : (heap : List TermTree) (t : TermTree) (v : View) → IsSeen heap t v → ((h r : ℕ) → v ≡ view.Cons h r → ⊥) → ((n : ℕ) → v ≡ view.Bin n → ⊥) → (now before bytes : List ℕ) → Left now (iolist t) before bytes
    → now ≡ before ++ bytes
left_end heap t view.Nil s o p now before bytes left = left_none now before bytes (iolist t) (nil_bytes heap t s) left
left_end heap t (view.Cons h r) s o p now before bytes left = absurd (o h r refl)
left_end heap t (view.Bin n) s o p now before bytes left = absurd (p n refl)
left_end heap t (view.Int n) s o p now before bytes left = absurd (clash (iolist t) left.0 (no_bytes heap t (view.Int n) s (λ e. cc) o p) left.1)
left_end heap t view.Atom s o p now before bytes left = absurd (clash (iolist t) left.0 (no_bytes heap t view.Atom s (λ e. cc) o p) left.1)
left_end heap t (view.Tuple n) s o p now before bytes left = absurd (clash (iolist t) left.0 (no_bytes heap t (view.Tuple n) s (λ e. cc) o p) left.1)
left_end heap t (view.Map n) s o p now before bytes left = absurd (clash (iolist t) left.0 (no_bytes heap t (view.Map n) s (λ e. cc) o p) left.1)
left_end heap t (view.Closure n) s o p now before bytes left = absurd (clash (iolist t) left.0 (no_bytes heap t (view.Closure n) s (λ e. cc) o p) left.1)

-- what follows of a call that succeeds
pub on_ok : {T E : Type 0} (r : Result T E) (P Q : Type 0) → OnOk r P → (P → Q) → OnOk r Q
on_ok (Ok x) P Q p f = f p
on_ok (Err e) P Q p f = tt
