-- The end of an integer where a term stands: the integer, or a float in a listing.
use Rattle.std.proofs.Common.{◌≡◌, ◌≤◌, ◌<◌, ℕ, zero, suc, ◌+◌, Bool, true, false, not, ◌&&◌, ◌||◌, cond, eqb, ltb, List, [], ◌∷◌, ◌++◌, length, inl, inr, refl, sym, ap, subst, ◌∙◌, arith, append_assoc, ℤ}
use Rattle.std.specs.Prelude.{◌⊎◌}
use Rattle.std.specs.Char.{is_ascii_digit}
use Rattle.std.specs.List.{list_all}
use Rattle.std.proofs.lemmas.Bool.{eqb-true, not_from_false, and_from, and_parts, le-leb, le-ltb, not-true}
use Rattle.std.proofs.lemmas.List.{length-append, append-nil}
use Rattle.kh_term.specs.declared.tree.TermTree.{TermTree}
use Rattle.kh_term.specs.declared.tree.TermTree.TheVariants as tree
use Rattle.kh_term.proofs.Layers.{size-Int}
use Rattle.kh_term.specs.Size.{size_of}
use Rattle.kh_text_defs.specs.declared.mode.Mode.{Mode}
use Rattle.kh_text_defs.specs.declared.mode.Mode.TheVariants.{Script, Listing}
use Rattle.kh_text_defs.specs.Faults.{max_size}
use Rattle.kh_text_defs.specs.Spelled.{Rules, allows, unsupported, SpellsInteger, is_exponent_mark, is_sign, IsExponent, SpellsFlat, integer, float}
use Rattle.kh_text_defs.specs.Tokens.{are_digits, IsInteger}
use Rattle.kh_read.specs.State.{Frame, Place, After, Digits, Point, Dotted, Fraction, Mark, Signed, Exponent, State, Setting, Halt, Syntax, Step, Stop, Reading, Ended, Cut}
use Rattle.kh_read.specs.Steps.{at, fault, is_listing, signed, is_byte, takes_segment, takes_arity, takes_fraction, integer_ended, fits_here, step_digits, step_point, step_dotted, step_after, step_mark, step_between, more_digits, step_place, at_end, read_on}
use Rattle.kh_read.proofs.TextCore.{spot, byte_goes, byte_stops, same_step, at_the_end}
use Rattle.kh_read.proofs.TextReads.{Reads, whole, part, halted, any, reads_as}
use Rattle.kh_read.proofs.TextDigits.{no_digit, IntegerOf, in_digits}
use Rattle.kh_read.proofs.TextQuotes.{reads_byte}

-- where a term stands
pub record TakesTerm (fs : List Frame) : Type 0 where
  pub segment : takes_segment fs ≡ false
  pub arity : takes_arity fs ≡ false

abbrev pub behind_term : List Frame → TermTree → State
behind_term fs t = spot (After t) fs

abbrev IsUnsupported : (List ℕ → Type 0) → List ℕ → TermTree → Type 0
IsUnsupported Text text t = Text text × (t ≡ unsupported)

abbrev AreMore : List ℕ → Type 0
AreMore text = list_all is_ascii_digit text ≡ true

-- what comes behind the first digit of a fraction
abbrev FractionRest : List ℕ → Type 0
FractionRest text = (digits : List ℕ) × (end : List ℕ) × AreMore digits × IsExponent end × (text ≡ digits ++ end)

abbrev SignedDigits : List ℕ → Type 0
SignedDigits text = (are_digits text ≡ true) ⊎ ((sign : ℕ) × (digits : List ℕ) × (is_sign sign ≡ true) × (are_digits digits ≡ true) × (text ≡ sign ∷ digits))

some_digits : (b : ℕ) (text : List ℕ) → is_ascii_digit b ≡ true → AreMore text → are_digits (b ∷ text) ≡ true
some_digits b text e each = and_from _ _ (le-leb 1 (length (b ∷ text)) (omega arith)) (and_from _ _ e each)

module _ (σ : Setting) (fs : List Frame) where
  -- digits that go on to the end of a float
  pub exponent_on : (p b : ℕ) → is_ascii_digit b ≡ true → step_place σ Exponent fs p b ≡ at Exponent fs
  unfolding step_place
  exponent_on p b e = rw e refl

  pub exponent_off : (p b : ℕ) → is_ascii_digit b ≡ false → step_place σ Exponent fs p b ≡ step_place σ (After unsupported) fs p b
  unfolding step_place
  exponent_off p b e = rw e refl

  exponent : (text : List ℕ) (p : ℕ) → Reads σ any (IsUnsupported AreMore) (behind_term fs) p text (read_on σ (spot Exponent fs) p text)
  exponent [] p = part [] unsupported (at_the_end σ (spot Exponent fs) p) (refl, refl)
  exponent (b ∷ bytes) p = go (is_ascii_digit b) refl (exponent bytes (suc p))
    where
      go : (t : Bool) → is_ascii_digit b ≡ t → Reads σ any (IsUnsupported AreMore) (behind_term fs) (suc p) bytes (read_on σ (spot Exponent fs) (suc p) bytes)
          → Reads σ any (IsUnsupported AreMore) (behind_term fs) p (b ∷ bytes) (read_on σ (spot Exponent fs) p (b ∷ bytes))
      go true e more =
          reads_byte σ any (IsUnsupported AreMore) (IsUnsupported AreMore) (behind_term fs) (behind_term fs) (λ t. t) p b bytes _ _
          (λ u t r. (and_from _ _ e r.0, r.1)) (λ t. refl) (byte_goes σ Exponent fs p b bytes _ (exponent_on p b e)) more
      go false e more = whole [] (b ∷ bytes) unsupported p refl (refl, refl) refl (same_step σ Exponent (After unsupported) fs fs p b bytes (exponent_off p b e)) (omega arith)

  pub signed_on : (p b : ℕ) → is_ascii_digit b ≡ true → step_place σ Signed fs p b ≡ at Exponent fs
  unfolding step_place
  signed_on p b e = rw e refl

  signed_off : (p b : ℕ) → is_ascii_digit b ≡ false → step_place σ Signed fs p b ≡ fault
  unfolding step_place
  signed_off p b e = rw e refl

  behind_sign : (text : List ℕ) (p : ℕ) → Reads σ any (IsUnsupported (λ t. are_digits t ≡ true)) (behind_term fs) p text (read_on σ (spot Signed fs) p text)
  behind_sign [] p = part (48 ∷ []) unsupported (at_the_end σ (spot Signed fs) p) (refl, refl)
  behind_sign (b ∷ bytes) p = go (is_ascii_digit b) refl
    where
      go : (t : Bool) → is_ascii_digit b ≡ t → Reads σ any (IsUnsupported (λ u. are_digits u ≡ true)) (behind_term fs) p (b ∷ bytes) (read_on σ (spot Signed fs) p (b ∷ bytes))
      go true e =
          reads_byte σ any (IsUnsupported AreMore) (IsUnsupported (λ u. are_digits u ≡ true)) (behind_term fs) (behind_term fs) (λ t. t) p b bytes _ _
          (λ u t r. (some_digits b u e r.0, r.1)) (λ t. refl) (byte_goes σ Signed fs p b bytes _ (signed_on p b e)) (exponent bytes (suc p))
      go false e = halted Syntax p (byte_stops σ Signed fs p b bytes _ (signed_off p b e))

  pub mark_sign : (p b : ℕ) → is_sign b ≡ true → step_place σ Mark fs p b ≡ at Signed fs
  unfolding step_place
  mark_sign p b e = rw e refl

  pub mark_digit : (p b : ℕ) → is_sign b ≡ false → is_ascii_digit b ≡ true → step_place σ Mark fs p b ≡ at Exponent fs
  unfolding step_place
  mark_digit p b e f = rw (e, f) refl

  mark_fault : (p b : ℕ) → is_sign b ≡ false → is_ascii_digit b ≡ false → step_place σ Mark fs p b ≡ fault
  unfolding step_place
  mark_fault p b e f = rw (e, f) refl

  behind_mark : (text : List ℕ) (p : ℕ) → Reads σ any (IsUnsupported SignedDigits) (behind_term fs) p text (read_on σ (spot Mark fs) p text)
  behind_mark [] p = part (48 ∷ []) unsupported (at_the_end σ (spot Mark fs) p) (inl refl, refl)
  behind_mark (b ∷ bytes) p = go (is_sign b) (is_ascii_digit b) refl refl
    where
      go : (s d : Bool) → is_sign b ≡ s → is_ascii_digit b ≡ d → Reads σ any (IsUnsupported SignedDigits) (behind_term fs) p (b ∷ bytes) (read_on σ (spot Mark fs) p (b ∷ bytes))
      go true d e f =
          reads_byte σ any (IsUnsupported (λ u. are_digits u ≡ true)) (IsUnsupported SignedDigits) (behind_term fs) (behind_term fs) (λ t. t) p b bytes _ _
          (λ u t r. (inr (b, u, e, r.0, refl), r.1)) (λ t. refl) (byte_goes σ Mark fs p b bytes _ (mark_sign p b e)) (behind_sign bytes (suc p))
      go false true e f =
          reads_byte σ any (IsUnsupported AreMore) (IsUnsupported SignedDigits) (behind_term fs) (behind_term fs) (λ t. t) p b bytes _ _
          (λ u t r. (inl (some_digits b u f r.0), r.1)) (λ t. refl) (byte_goes σ Mark fs p b bytes _ (mark_digit p b e f)) (exponent bytes (suc p))
      go false false e f = halted Syntax p (byte_stops σ Mark fs p b bytes _ (mark_fault p b e f))

  exponent_of : (b : ℕ) (text : List ℕ) → is_exponent_mark b ≡ true → SignedDigits text → IsExponent (b ∷ text)
  exponent_of b text e (inl digits) = inr (b, text, e, digits, inl refl)
  exponent_of b text e (inr h) = inr (b, h.1, e, h.3, inr (h.0, h.2, ap (λ (t : List ℕ). b ∷ t) h.4))

  pub fraction_mark : (p b : ℕ) → is_exponent_mark b ≡ true → step_place σ Fraction fs p b ≡ at Mark fs
  unfolding step_place
  fraction_mark p b e = rw e refl

  pub fraction_on : (p b : ℕ) → is_exponent_mark b ≡ false → is_ascii_digit b ≡ true → step_place σ Fraction fs p b ≡ at Fraction fs
  unfolding step_place
  fraction_on p b e f = rw (e, f) refl

  pub fraction_off : (p b : ℕ) → is_exponent_mark b ≡ false → is_ascii_digit b ≡ false → step_place σ Fraction fs p b ≡ step_place σ (After unsupported) fs p b
  unfolding step_place
  fraction_off p b e f = rw (e, f) refl

  more_fraction : (b : ℕ) (text : List ℕ) → is_ascii_digit b ≡ true → FractionRest text → FractionRest (b ∷ text)
  more_fraction b text e h = (b ∷ h.0, h.1, and_from _ _ e h.2, h.3, ap (λ (t : List ℕ). b ∷ t) h.4)

  fraction : (text : List ℕ) (p : ℕ) → Reads σ any (IsUnsupported FractionRest) (behind_term fs) p text (read_on σ (spot Fraction fs) p text)
  fraction [] p = part [] unsupported (at_the_end σ (spot Fraction fs) p) (([], [], refl, inl refl, refl), refl)
  fraction (b ∷ bytes) p = go (is_exponent_mark b) (is_ascii_digit b) refl refl (fraction bytes (suc p))
    where
      go : (m d : Bool) → is_exponent_mark b ≡ m → is_ascii_digit b ≡ d → Reads σ any (IsUnsupported FractionRest) (behind_term fs) (suc p) bytes (read_on σ (spot Fraction fs) (suc p) bytes)
          → Reads σ any (IsUnsupported FractionRest) (behind_term fs) p (b ∷ bytes) (read_on σ (spot Fraction fs) p (b ∷ bytes))
      go true d e f more =
          reads_byte σ any (IsUnsupported SignedDigits) (IsUnsupported FractionRest) (behind_term fs) (behind_term fs) (λ t. t) p b bytes _ _
          (λ u t r. (([], b ∷ u, refl, exponent_of b u e r.0, refl), r.1)) (λ t. refl) (byte_goes σ Fraction fs p b bytes _ (fraction_mark p b e)) (behind_mark bytes (suc p))
      go false true e f more =
          reads_byte σ any (IsUnsupported FractionRest) (IsUnsupported FractionRest) (behind_term fs) (behind_term fs) (λ t. t) p b bytes _ _
          (λ u t r. (more_fraction b u f r.0, r.1)) (λ t. refl) (byte_goes σ Fraction fs p b bytes _ (fraction_on p b e f)) more
      go false false e f more =
          whole [] (b ∷ bytes) unsupported p refl (([], [], refl, inl refl, refl), refl) refl
          (same_step σ Fraction (After unsupported) fs fs p b bytes (fraction_off p b e f)) (omega arith)

-- ---- behind the digits

listing_of : (rules : Rules) (fs : List Frame) → takes_fraction rules fs ≡ true → rules.mode ≡ Listing
listing_of rules fs e = go rules.mode refl
  where
    go : (mode : Mode) → rules.mode ≡ mode → rules.mode ≡ Listing
    go Script h =
        let outer = and_parts _ _ e in
        let inner = and_parts _ _ outer.0 in
        absurd (let no : is_listing Script ≡ true = subst (λ (m : Mode). is_listing m ≡ true) h inner.0 in cc)
    go Listing h = h

module _ (σ : Setting) (fs : List Frame) (takes : TakesTerm fs) where
  integer_of : (u : List ℕ) (x : Bool × ℕ) → IntegerOf σ.rules fs u x → SpellsInteger σ.rules u (signed x.0 x.1)
  integer_of u x h = (h.is, subst (λ (s : Bool). cond s (is_byte x.0 x.1) (allows σ.rules (signed x.0 x.1)) ≡ true) takes.segment h.fits)

  ends_term : (neg : Bool) (n : ℕ) → integer_ended fs neg n ≡ After (tree.Int (signed neg n))
  ends_term neg n = rw (takes.segment, takes.arity) refl

  pub digits_off : (first q b : ℕ) (x : Bool × ℕ) → is_ascii_digit b ≡ false → (eqb b 46 && takes_fraction σ.rules fs) ≡ false
      → step_place σ (Digits first x.0 x.1) fs q b ≡ step_place σ (After (tree.Int (signed x.0 x.1))) fs q b
  unfolding step_place step_digits
  digits_off first q b x e f = rw (e, f) (ap (λ (h : Place). step_between σ h fs q b) (ends_term x.0 x.1))

  pub digits_point : (first q b : ℕ) (x : Bool × ℕ) → is_ascii_digit b ≡ false → (eqb b 46 && takes_fraction σ.rules fs) ≡ true
      → step_place σ (Digits first x.0 x.1) fs q b ≡ at (Point (signed x.0 x.1)) fs
  unfolding step_place step_digits
  digits_point first q b x e f = rw (e, f) refl

  -- the text of a float from its parts
  float_of : (u : List ℕ) (x : Bool × ℕ) (d : ℕ) (rest : List ℕ) (t : TermTree) → takes_fraction σ.rules fs ≡ true → IntegerOf σ.rules fs u x → is_ascii_digit d ≡ true
      → IsUnsupported FractionRest rest t → SpellsFlat σ.rules (u ++ 46 ∷ d ∷ rest) t
  float_of u x d rest t listing is digit h =
      subst (λ (v : TermTree). SpellsFlat σ.rules (u ++ 46 ∷ d ∷ rest) v) (sym h.1)
      (float _ u (d ∷ h.0.0) h.0.1 (signed x.0 x.1) (listing_of σ.rules fs listing) (integer_of u x is) (some_digits d h.0.0 digit h.0.2) h.0.3
      (ap (λ (w : List ℕ). u ++ 46 ∷ d ∷ w) h.0.4))

  pub point_digit : (gs : List Frame) (z : ℤ) (q b : ℕ) → is_ascii_digit b ≡ true → step_place σ (Point z) gs q b ≡ at Fraction gs
  unfolding step_place step_point
  point_digit [] z q b e = rw e refl
  point_digit (g ∷ gs) z q b e = rw e refl

  point_fault : (g : Frame) (gs : List Frame) (z : ℤ) (q b : ℕ) → is_ascii_digit b ≡ false → step_place σ (Point z) (g ∷ gs) q b ≡ fault
  unfolding step_place step_point
  point_fault g gs z q b e = rw e refl

  point_dotted : (z : ℤ) (q b : ℕ) → is_ascii_digit b ≡ false → step_place σ (Point z) [] q b ≡ step_place σ (Dotted (tree.Int z)) [] q b
  unfolding step_place step_point
  point_dotted z q b e = rw e refl

  small_integer : (z : ℤ) → (σ.sized && ltb max_size (size_of (tree.Int z))) ≡ false
  small_integer z = go σ.sized
    where
      go : (b : Bool) → (b && ltb max_size (size_of (tree.Int z))) ≡ false
      go true = le-ltb max_size (size_of (tree.Int z)) (omega (arith, size-Int z))
      go false = refl

  pub int_dotted : (z : ℤ) (q : ℕ) → step_place σ (After (tree.Int z)) [] q 46 ≡ at (Dotted (tree.Int z)) []
  unfolding step_place step_between step_mark step_after
  int_dotted z q = rw (small_integer z) refl

  -- Behind the dot of a form an integer ends as it does where no fraction may come.
  alike_end : (z : ℤ) (q : ℕ) (rest : List ℕ) → no_digit rest ≡ true → read_on σ (spot (Point z) []) q rest ≡ read_on σ (spot (Dotted (tree.Int z)) []) q rest
  alike_end z q [] quiet = at_the_end σ (spot (Point z) []) q ∙ sym (at_the_end σ (spot (Dotted (tree.Int z)) []) q)
  alike_end z q (b ∷ rest) quiet = same_step σ (Point z) (Dotted (tree.Int z)) [] [] q b rest (point_dotted z q b (not-true _ quiet))

  pub ends_alike : (first q : ℕ) (x : Bool × ℕ) (rest : List ℕ) → fs ≡ [] → takes_fraction σ.rules fs ≡ true → no_digit rest ≡ true
      → read_on σ (spot (Digits first x.0 x.1) fs) q (46 ∷ rest) ≡ read_on σ (spot (After (tree.Int (signed x.0 x.1))) fs) q (46 ∷ rest)
  ends_alike first q x rest same listing quiet =
      let z = signed x.0 x.1 in
      let pointed : read_on σ (spot (Digits first x.0 x.1) fs) q (46 ∷ rest) ≡ read_on σ (spot (Point z) fs) (suc q) rest = byte_goes σ (Digits first x.0 x.1) fs q 46 rest _ (digits_point first q 46 x refl listing) in
      let dotted : read_on σ (spot (After (tree.Int z)) []) q (46 ∷ rest) ≡ read_on σ (spot (Dotted (tree.Int z)) []) (suc q) rest = byte_goes σ (After (tree.Int z)) [] q 46 rest _ (int_dotted z q) in
      pointed ∙ (ap (λ (gs : List Frame). read_on σ (spot (Point z) gs) (suc q) rest) same
      ∙ (alike_end z (suc q) rest quiet ∙ (sym dotted ∙ ap (λ (gs : List Frame). read_on σ (spot (After (tree.Int z)) gs) q (46 ∷ rest)) (sym same))))

  -- behind the dot of what may be a float
  point_end : (u rest : List ℕ) (x : Bool × ℕ) (p q : ℕ) (text : List ℕ) (start : Reading) → text ≡ u ++ 46 ∷ rest → takes_fraction σ.rules fs ≡ true → IntegerOf σ.rules fs u x
      → start ≡ read_on σ (spot (Point (signed x.0 x.1)) fs) (suc q) rest → q ≡ p + length u → Reads σ any (SpellsFlat σ.rules) (behind_term fs) p text start
  point_end u [] x p q text start parts listing is e place = go fs refl
    where
      go : (gs : List Frame) → fs ≡ gs → Reads σ any (SpellsFlat σ.rules) (behind_term fs) p text start
      go [] same =
          let z = signed x.0 x.1 in
          let dotted : read_on σ (spot (After (tree.Int z)) []) q (46 ∷ []) ≡ Ended (tree.Int z) (suc q) = byte_goes σ (After (tree.Int z)) [] q 46 [] _ (int_dotted z q) ∙ at_the_end σ (spot (Dotted (tree.Int z)) []) (suc q) in
          let pointed : read_on σ (spot (Point z) []) (suc q) [] ≡ Ended (tree.Int z) (suc q) = at_the_end σ (spot (Point z) []) (suc q) in
          whole u (46 ∷ []) (tree.Int z) q parts (integer u z (integer_of u x is)) refl
          (e ∙ (ap (λ (gs : List Frame). read_on σ (spot (Point z) gs) (suc q) []) same ∙ (pointed ∙ (sym dotted ∙ ap (λ (gs : List Frame). read_on σ (spot (After (tree.Int z)) gs) q (46 ∷ [])) (sym same))))) place
      go (g ∷ gs) same =
          let z = signed x.0 x.1 in
          part (48 ∷ []) unsupported (e ∙ (ap (λ (hs : List Frame). read_on σ (spot (Point z) hs) (suc q) []) same ∙ at_the_end σ (spot (Point z) (g ∷ gs)) (suc q)))
          (subst (λ (w : List ℕ). SpellsFlat σ.rules w unsupported) (sym (ap (λ (w : List ℕ). w ++ 48 ∷ []) parts ∙ append_assoc u (46 ∷ []) (48 ∷ [])))
          (float_of u x 48 [] unsupported listing is refl (([], [], refl, inl refl, refl), refl)))
  point_end u (b ∷ rest) x p q text start parts listing is e place = go (is_ascii_digit b) fs refl refl
    where
      z : ℤ
      z = signed x.0 x.1

      float_goes : is_ascii_digit b ≡ true → Reads σ any (IsUnsupported FractionRest) (behind_term fs) (suc (suc q)) rest (read_on σ (spot Fraction fs) (suc (suc q)) rest) → Reads σ any (SpellsFlat σ.rules) (behind_term fs) p text start
      float_goes digit (whole v after t q2 parts2 r good h place2) =
          whole (u ++ 46 ∷ b ∷ v) after t q2 (parts ∙ (ap (λ (w : List ℕ). u ++ 46 ∷ b ∷ w) parts2 ∙ sym (append_assoc u (46 ∷ b ∷ v) after))) (float_of u x b v t listing is digit r) refl
          (e ∙ (byte_goes σ (Point (signed x.0 x.1)) fs (suc q) b rest _ (point_digit fs (signed x.0 x.1) (suc q) b digit) ∙ h))
          (omega (arith, place, place2, length-append u (46 ∷ b ∷ v)))
      float_goes digit (part more t h r) =
          part more t (e ∙ (byte_goes σ (Point (signed x.0 x.1)) fs (suc q) b rest _ (point_digit fs (signed x.0 x.1) (suc q) b digit) ∙ h))
          (subst (λ (w : List ℕ). SpellsFlat σ.rules w t) (sym (ap (λ (w : List ℕ). w ++ more) parts ∙ append_assoc u (46 ∷ b ∷ rest) more)) (float_of u x b (rest ++ more) t listing is digit r))
      float_goes digit (halted halt q2 h) =
          halted halt q2 (e ∙ (byte_goes σ (Point (signed x.0 x.1)) fs (suc q) b rest _ (point_digit fs (signed x.0 x.1) (suc q) b digit) ∙ h))

      go : (d : Bool) (gs : List Frame) → is_ascii_digit b ≡ d → fs ≡ gs → Reads σ any (SpellsFlat σ.rules) (behind_term fs) p text start
      go true gs digit same = float_goes digit (fraction σ fs rest (suc (suc q)))
      go false [] digit same =
          let k = signed x.0 x.1 in
          let one : read_on σ (spot (Point k) []) (suc q) (b ∷ rest) ≡ read_on σ (spot (Dotted (tree.Int k)) []) (suc q) (b ∷ rest) = same_step σ (Point k) (Dotted (tree.Int k)) [] [] (suc q) b rest (point_dotted k (suc q) b digit) in
          let two : read_on σ (spot (After (tree.Int k)) []) q (46 ∷ b ∷ rest) ≡ read_on σ (spot (Dotted (tree.Int k)) []) (suc q) (b ∷ rest) = byte_goes σ (After (tree.Int k)) [] q 46 (b ∷ rest) _ (int_dotted k q) in
          whole u (46 ∷ b ∷ rest) (tree.Int k) q parts (integer u k (integer_of u x is)) refl
          (e ∙ (ap (λ (hs : List Frame). read_on σ (spot (Point k) hs) (suc q) (b ∷ rest)) same ∙ (one ∙ (sym two ∙ ap (λ (hs : List Frame). read_on σ (spot (After (tree.Int k)) hs) q (46 ∷ b ∷ rest)) (sym same))))) place
      go false (g ∷ gs) digit same =
          let k = signed x.0 x.1 in
          halted Syntax (suc q) (e ∙ (ap (λ (hs : List Frame). read_on σ (spot (Point k) hs) (suc q) (b ∷ rest)) same ∙ byte_stops σ (Point k) (g ∷ gs) (suc q) b rest _ (point_fault g gs k (suc q) b digit)))

  digits_end : (first : ℕ) (u rest : List ℕ) (x : Bool × ℕ) (p q : ℕ) (text : List ℕ) (start : Reading) → text ≡ u ++ rest → IntegerOf σ.rules fs u x → no_digit rest ≡ true
      → start ≡ read_on σ (spot (Digits first x.0 x.1) fs) q rest → q ≡ p + length u → Reads σ any (SpellsFlat σ.rules) (behind_term fs) p text start
  digits_end first u [] x p q text start parts is good e place =
      part [] (tree.Int (signed x.0 x.1)) (e ∙ at_the_end σ (spot (Digits first x.0 x.1) fs) q)
      (subst (λ (w : List ℕ). SpellsFlat σ.rules w (tree.Int (signed x.0 x.1))) (sym (append-nil text ∙ (parts ∙ append-nil u))) (integer u (signed x.0 x.1) (integer_of u x is)))
  digits_end first u (b ∷ rest) x p q text start parts is good e place = go (eqb b 46 && takes_fraction σ.rules fs) refl
    where
      digit : is_ascii_digit b ≡ false
      digit = not-true _ good

      go : (t : Bool) → (eqb b 46 && takes_fraction σ.rules fs) ≡ t → Reads σ any (SpellsFlat σ.rules) (behind_term fs) p text start
      go false h =
          whole u (b ∷ rest) (tree.Int (signed x.0 x.1)) q parts (integer u (signed x.0 x.1) (integer_of u x is)) refl
          (e ∙ same_step σ (Digits first x.0 x.1) (After (tree.Int (signed x.0 x.1))) fs fs q b rest (digits_off first q b x (not-true _ good) h)) place
      go true h =
          let parts2 = and_parts _ _ h in
          point_end u rest x p q text start (parts ∙ ap (λ (c : ℕ). u ++ c ∷ rest) (eqb-true b 46 parts2.0)) parts2.1 is
          (e ∙ byte_goes σ (Digits first x.0 x.1) fs q b rest _ (digits_point first q b x (not-true _ good) h)) place

  pub integer_ends : (first p : ℕ) (text : List ℕ) (start : Reading) → Reads σ no_digit (IntegerOf σ.rules fs) (in_digits σ fs first) p text start → Reads σ any (SpellsFlat σ.rules) (behind_term fs) p text start
  integer_ends first p text start (whole u rest x q parts is good e place) = digits_end first u rest x p q text start parts is good e place
  integer_ends first p text start (part more x e is) = part more (tree.Int (signed x.0 x.1)) e (integer (text ++ more) (signed x.0 x.1) (integer_of (text ++ more) x is))
  integer_ends first p text start (halted halt q e) = halted halt q e
