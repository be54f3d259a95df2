-- Reading binaries.
use Rattle.std.proofs.Common.{◌≡◌, ◌≤◌, ◌<◌, ℕ, zero, suc, ◌+◌, Bool, true, false, not, ◌&&◌, ◌||◌, cond, eqb, ltb, List, [], ◌∷◌, ◌++◌, length, Option, Some, None, inl, inr, refl, sym, ap, subst, ◌∙◌, arith, append_assoc, ℤ, pos}
use Rattle.std.specs.Prelude.{◌⊎◌, neg_ℤ, codes}
use Rattle.std.specs.Char.{is_ascii_digit}
use Rattle.std.specs.List.{list_all}
use Rattle.std.specs.Str.{encode_utf8_all, all_scalars}
use Rattle.std.proofs.lemmas.Bool.{eqb-true, not-true, not_from_false, lt-ltb, ltb-true, and_from, and_parts}
use Rattle.std.proofs.lemmas.List.{append-nil}
use Rattle.kh_term.specs.declared.tree.TermTree.{TermTree}
use Rattle.kh_term.specs.declared.tree.TermTree.TheVariants as tree
use Rattle.kh_text_defs.specs.declared.mode.Mode.{Mode}
use Rattle.kh_text_defs.specs.declared.mode.Mode.TheVariants.{Script, Listing}
use Rattle.kh_text_defs.specs.Blanks.{no_blank, IsBlank, Wide, Commas, Elements, begins_no_blank}
use Rattle.kh_text_defs.specs.Spelled.{Rules, SpellsSegment, one_byte, latin_text, sized, utf8_text, binary_of, SpellsFlat, binary}
use Rattle.kh_text_defs.specs.Tokens.{are_digits, IsInteger, Characters, Quoted}
use Rattle.kh_read.specs.State.{Frame, InBinary, Use, ForSegment, Quoting, Plain, Place, Before, After, AfterByte, AfterText, AfterSegment, SizeMark, Size, UtfMark, Utf, Digits, Quote, Angle, Close, State, Setting, Halt, Syntax, Step, Go, Stop, Reading, Cut}
use Rattle.kh_read.specs.Steps.{at, fault, is_listing, signed, is_byte, byte_of, takes_segment, takes_fraction, fits_here, integer_ended, begin_integer, begin_segment, next_segment, all_latin, binary_term, bound, used, quote_ended, step_before, step_after_byte, step_after_text, step_after_segment, step_close, step_digits, step_mark, step_between, step_utf, more_digits, step_place, read_on}
use Rattle.kh_read.proofs.TextCore.{spot, byte_goes, byte_stops, same_step, IsBetween, is_blank_byte, at_the_end}
use Rattle.kh_read.proofs.TextReads.{Reads, whole, part, halted, any, reads_as, wide_from, wide, leading, Sample, Marked, reads_mark, Exactly, reads_then, reads_next, Then, Run, Loop, run_from, Body, bare, filled, body}
use Rattle.kh_read.proofs.TextQuotes.{reads_byte, AreBelow, PlainRest}
use Rattle.kh_read.proofs.TextQuoted.{quoted}
use Rattle.kh_read.proofs.TextDigits.{some_digits, byte_is, no_digit, IntegerOf, in_digits, integer}
use Rattle.kh_read.proofs.TextBrackets.{mark_step, between_before, before_step, behind_term, Closing, closing_sample, reads_closing}
use Rattle.kh_read.proofs.TextSegments.{grown_bytes, grown_sized, run_bytes, run_sized, in_binary, pushed, begun_now, joined}

-- ---- what begins a segment, and what comes behind it

-- a byte, or a text in quotes
data Begun (mode : Mode) : Type 0 where
  AByte : (n : ℕ) → Begun mode
  AText : (points : List ℕ) → AreBelow mode ForSegment points → Begun mode

abbrev SpellsBegun : (mode : Mode) → List ℕ → Begun mode → Type 0
SpellsBegun mode text (AByte n) = IsInteger text (pos n) × (ltb n 256 ≡ true)
SpellsBegun mode text (AText points below) = Quoted 34 text points

abbrev after_begun : (mode : Mode) → Begun mode → Place
after_begun mode (AByte n) = AfterByte n
after_begun mode (AText points below) = AfterText points

abbrev SizeWord : List ℕ → Option (List ℕ) → Type 0
SizeWord text s = (are_digits text ≡ true) × (s ≡ None)

abbrev Utf8Word : List ℕ → List ℕ → Option (List ℕ) → Type 0
Utf8Word points = Exactly (codes "utf8") (Some (encode_utf8_all points))

abbrev SegmentRest : (mode : Mode) → Begun mode → List ℕ → Option (List ℕ) → Type 0
SegmentRest mode (AByte n) text s = ((text ≡ []) × (s ≡ Some (n ∷ []))) ⊎ ((mode ≡ Listing) × Marked 58 (Wide SizeWord) text s)
SegmentRest mode (AText points below) text s =
    ((all_latin points ≡ true) × (text ≡ []) × (s ≡ Some points)) ⊎ ((mode ≡ Listing) × Marked 47 (Wide (Utf8Word points)) text s)

listing_is : (mode : Mode) → is_listing mode ≡ true → mode ≡ Listing
listing_is Script e = absurd (let clash : false ≡ true = e in cc)
listing_is Listing e = refl

below_latin : (mode : Mode) (cs : List ℕ) → mode ≡ Script → AreBelow mode ForSegment cs → all_latin cs ≡ true
below_latin mode [] script below = refl
below_latin mode (c ∷ cs) script below =
    let bounded : c < bound Script ForSegment = subst (λ (m : Mode). c < bound m ForSegment) script below.0 in
    and_from _ _ (lt-ltb c 256 bounded) (below_latin mode cs script below.1)

regroup : (a b c d e f : List ℕ) (k : ℕ) → (a ++ (b ++ c)) ++ k ∷ (d ++ (e ++ f)) ≡ a ++ ((b ++ (c ++ k ∷ (d ++ e))) ++ f)
regroup a b c d e f k = simp append_assoc

-- both are a segment
segment_of : (rules : Rules) (x : Begun rules.mode) (text first second : List ℕ) (s : Option (List ℕ)) → text ≡ first ++ second → Wide (SpellsBegun rules.mode) first x → SegmentRest rules.mode x second s
    → Wide (SpellsSegment rules) text s
segment_of rules (AByte n) text first second s parts w (inl h) = record {
  before = w.before;
  inside = w.inside;
  behind = w.behind;
  blank_before = w.blank_before;
  stands = subst (λ (v : Option (List ℕ)). SpellsSegment rules w.inside v) (sym h.1) (one_byte w.inside n w.stands.0 w.stands.1);
  blank_behind = w.blank_behind;
  parts = parts ∙ (ap (λ (t : List ℕ). first ++ t) h.0 ∙ (append-nil first ∙ w.parts));
}
segment_of rules (AByte n) text first second s parts w (inr h) =
    let v = h.1.stands in
    record {
      before = w.before;
      inside = w.inside ++ (w.behind ++ 58 ∷ (v.before ++ v.inside));
      behind = v.behind;
      blank_before = w.blank_before;
      stands = subst (λ (y : Option (List ℕ)). SpellsSegment rules (w.inside ++ (w.behind ++ 58 ∷ (v.before ++ v.inside))) y) (sym v.stands.1)
          (sized _ w.inside w.behind v.before v.inside n h.0 w.stands.0 w.stands.1 w.blank_behind v.blank_before v.stands.0 refl);
      blank_behind = v.blank_behind;
      parts = parts ∙ ((λ i. w.parts i ++ (h.1.parts ∙ ap (λ (t : List ℕ). 58 ∷ t) v.parts) i) ∙ regroup w.before w.inside w.behind v.before v.inside v.behind 58);
    }
segment_of rules (AText points below) text first second s parts w (inl h) = record {
  before = w.before;
  inside = w.inside;
  behind = w.behind;
  blank_before = w.blank_before;
  stands = subst (λ (v : Option (List ℕ)). SpellsSegment rules w.inside v) (sym h.2) (latin_text w.inside points w.stands h.0);
  blank_behind = w.blank_behind;
  parts = parts ∙ (ap (λ (t : List ℕ). first ++ t) h.1 ∙ (append-nil first ∙ w.parts));
}
segment_of rules (AText points below) text first second s parts w (inr h) =
    let v = h.1.stands in
    record {
      before = w.before;
      inside = w.inside ++ (w.behind ++ 47 ∷ (v.before ++ v.inside));
      behind = v.behind;
      blank_before = w.blank_before;
      stands = subst (λ (y : Option (List ℕ)). SpellsSegment rules (w.inside ++ (w.behind ++ 47 ∷ (v.before ++ v.inside))) y) (sym v.stands.1)
          (utf8_text _ w.inside points w.behind v.before h.0 w.stands w.blank_behind v.blank_before (ap (λ (t : List ℕ). w.inside ++ (w.behind ++ 47 ∷ (v.before ++ t))) v.stands.0));
      blank_behind = v.blank_behind;
      parts = parts ∙ ((λ i. w.parts i ++ (h.1.parts ∙ ap (λ (t : List ℕ). 47 ∷ t) v.parts) i) ∙ regroup w.before w.inside w.behind v.before v.inside v.behind 47);
    }

-- ---- one letter of a word, and the others

letter : {B : Type 0} (σ : Setting) (later : B → State) (v : B) (here : Place) (gs : List Frame) (c : ℕ) (cs : List ℕ) (s : State)
    → ((p b : ℕ) → eqb b c ≡ true → step_place σ here gs p b ≡ Go s) → ((p b : ℕ) → eqb b c ≡ false → step_place σ here gs p b ≡ fault)
    → ((p : ℕ) (text : List ℕ) → Reads σ any (Exactly cs v) later p text (read_on σ s p text)) → (p b : ℕ) (rest : List ℕ)
    → Reads σ any (Exactly (c ∷ cs) v) later p (b ∷ rest) (read_on σ (spot here gs) p (b ∷ rest))
letter σ later v here gs c cs s goes stops more p b rest = go (eqb b c) refl
  where
    go : (t : Bool) → eqb b c ≡ t → Reads σ any (Exactly (c ∷ cs) v) later p (b ∷ rest) (read_on σ (spot here gs) p (b ∷ rest))
    go true e =
        reads_byte σ any (Exactly cs v) (Exactly (c ∷ cs) v) later later (λ x. x) p b rest _ _
        (λ u x r. ((λ i. eqb-true b c e i ∷ r.0 i), r.1)) (λ x. refl) (byte_goes σ here gs p b rest s (goes p b e)) (more (suc p) rest)
    go false e = halted Syntax p (byte_stops σ here gs p b rest _ (stops p b e))

-- the same where the input may end there
letters : {B : Type 0} (σ : Setting) (later : B → State) (v : B) (here : Place) (gs : List Frame) (c : ℕ) (cs : List ℕ) (s : State)
    → ((p b : ℕ) → eqb b c ≡ true → step_place σ here gs p b ≡ Go s) → ((p b : ℕ) → eqb b c ≡ false → step_place σ here gs p b ≡ fault)
    → ((p : ℕ) (text : List ℕ) → Reads σ any (Exactly cs v) later p text (read_on σ s p text)) → ((p : ℕ) → read_on σ (spot here gs) p [] ≡ Cut)
    → (p : ℕ) (text : List ℕ) → Reads σ any (Exactly (c ∷ cs) v) later p text (read_on σ (spot here gs) p text)
letters σ later v here gs c cs s goes stops more cut p [] = part (c ∷ cs) v (cut p) (refl, refl)
letters σ later v here gs c cs s goes stops more cut p (b ∷ rest) = letter σ later v here gs c cs s goes stops more p b rest

abbrev AreMore : List ℕ → Option (List ℕ) → Type 0
AreMore text s = (list_all is_ascii_digit text ≡ true) × (s ≡ None)

module _ (σ : Setting) (fs : List Frame) where
  module _ (ss : List (Option (List ℕ))) where
    between_byte : (n : ℕ) → IsBetween σ (AfterByte n) (in_binary ss ∷ fs)
    unfolding step_place
    between_byte n = record { steps = λ p b. refl; ends = λ p. refl }

    between_text : (points : List ℕ) → IsBetween σ (AfterText points) (in_binary ss ∷ fs)
    unfolding step_place
    between_text points = record { steps = λ p b. refl; ends = λ p. refl }

    between_begun : (x : Begun σ.rules.mode) → IsBetween σ (after_begun σ.rules.mode x) (in_binary ss ∷ fs)
    between_begun (AByte n) = between_byte n
    between_begun (AText points below) = between_text points

    between_segment : (gs : List Frame) → IsBetween σ AfterSegment gs
    unfolding step_place
    between_segment gs = record { steps = λ p b. refl; ends = λ p. refl }

    -- ---- a byte

    no_fraction : (t : Bool) → (t && takes_fraction σ.rules (in_binary ss ∷ fs)) ≡ false
    no_fraction true = go (is_listing σ.rules.mode)
      where
        go : (b : Bool) → (true && (b && false && true)) ≡ false
        go true = refl
        go false = refl
    no_fraction false = refl

    byte_off : (first q b : ℕ) (x : Bool × ℕ) → is_ascii_digit b ≡ false → is_byte x.0 x.1 ≡ true → step_place σ (Digits first x.0 x.1) (in_binary ss ∷ fs) q b ≡ step_place σ (AfterByte x.1) (in_binary ss ∷ fs) q b
    unfolding step_place step_digits
    byte_off first q b x e fits =
        let off : step_place σ (Digits first x.0 x.1) (in_binary ss ∷ fs) q b ≡ step_place σ (AfterByte (byte_of x.1)) (in_binary ss ∷ fs) q b = rw (e, no_fraction (eqb b 46)) refl in
        off ∙ ap (λ (k : ℕ). step_place σ (AfterByte k) (in_binary ss ∷ fs) q b) (byte_is x.0 x.1 fits)

    byte_begun : (u : List ℕ) (x : Bool × ℕ) → IntegerOf σ.rules (in_binary ss ∷ fs) u x → SpellsBegun σ.rules.mode u (AByte x.1)
    byte_begun u x h = go x.0 x.1 h.is h.fits
      where
        go : (neg : Bool) (n : ℕ) → IsInteger u (signed neg n) → is_byte neg n ≡ true → SpellsBegun σ.rules.mode u (AByte n)
        go true n is fits =
            let zero_ : n ≡ 0 = eqb-true n 0 fits in
            let none : IsInteger u (pos 0) = subst (λ (k : ℕ). IsInteger u (neg_ℤ (pos k))) zero_ is in
            (subst (λ (k : ℕ). IsInteger u (pos k)) (sym zero_) none, subst (λ (k : ℕ). ltb k 256 ≡ true) (sym zero_) refl)
        go false n is fits = (is, fits)

    byte_end : (first p : ℕ) (text : List ℕ) (start : Reading) → Reads σ no_digit (IntegerOf σ.rules (in_binary ss ∷ fs)) (in_digits σ (in_binary ss ∷ fs) first) p text start
        → Reads σ any (SpellsBegun σ.rules.mode) (λ x. spot (after_begun σ.rules.mode x) (in_binary ss ∷ fs)) p text start
    byte_end first p text start (whole u [] x q parts is good e place) =
        part [] (AByte x.1) (e ∙ at_the_end σ (spot (Digits first x.0 x.1) (in_binary ss ∷ fs)) q)
        (subst (λ (w : List ℕ). SpellsBegun σ.rules.mode w (AByte x.1)) (sym (append-nil text ∙ (parts ∙ append-nil u))) (byte_begun u x is))
    byte_end first p text start (whole u (b ∷ rest) x q parts is good e place) =
        whole u (b ∷ rest) (AByte x.1) q parts (byte_begun u x is) refl
        (e ∙ same_step σ (Digits first x.0 x.1) (AfterByte x.1) (in_binary ss ∷ fs) (in_binary ss ∷ fs) q b rest (byte_off first q b x (not-true _ good) is.fits)) place
    byte_end first p text start (part more x e is) = part more (AByte x.1) e (byte_begun (text ++ more) x is)
    byte_end first p text start (halted halt q e) = halted halt q e

    -- ---- a text

    below_of : (u cs : List ℕ) → PlainRest σ.rules.mode (record { use_ = ForSegment; points = [] }) u cs → AreBelow σ.rules.mode ForSegment cs
    below_of u cs h = subst (λ (ds : List ℕ). AreBelow σ.rules.mode ForSegment ds) (sym h.value) h.below

    text_begun : (u cs : List ℕ) → PlainRest σ.rules.mode (record { use_ = ForSegment; points = [] }) u cs → Quoted 34 (34 ∷ u) cs
    text_begun u cs h = record { inside = h.inside; characters = subst (λ (ds : List ℕ). Characters 34 h.inside ds) (sym h.value) h.characters; parts = ap (λ (w : List ℕ). 34 ∷ w) h.parts }

    text_reads : (q b : ℕ) (rest : List ℕ) (start on : Reading) → eqb b 34 ≡ true → start ≡ on
        → Reads σ any (PlainRest σ.rules.mode (record { use_ = ForSegment; points = [] })) (λ cs. spot (AfterText cs) (in_binary ss ∷ fs)) (suc q) rest on
        → Reads σ any (SpellsBegun σ.rules.mode) (λ x. spot (after_begun σ.rules.mode x) (in_binary ss ∷ fs)) q (b ∷ rest) start
    text_reads q b rest start on is same (whole u after cs q2 parts r good e place) =
        whole (b ∷ u) after (AText cs (below_of u cs r)) q2 (ap (λ (t : List ℕ). b ∷ t) parts)
        (subst (λ (k : ℕ). Quoted 34 (k ∷ u) cs) (sym (eqb-true b 34 is)) (text_begun u cs r)) refl (same ∙ e) (omega (arith, place))
    text_reads q b rest start on is same (part more cs e r) =
        part more (AText cs (below_of (rest ++ more) cs r)) (same ∙ e) (subst (λ (k : ℕ). Quoted 34 (k ∷ (rest ++ more)) cs) (sym (eqb-true b 34 is)) (text_begun (rest ++ more) cs r))
    text_reads q b rest start on is same (halted halt q2 e) = halted halt q2 (same ∙ e)

    segment_text : (b q : ℕ) → eqb b 34 ≡ true → step_place σ Before (in_binary ss ∷ fs) q b ≡ begin_segment σ.rules (in_binary ss ∷ fs) q b → step_place σ Before (in_binary ss ∷ fs) q b ≡ at (Quote (record { use_ = ForSegment; points = [] }) Plain) (in_binary ss ∷ fs)
    segment_text b q e begins = begins ∙ rw e refl

    segment_integer : (b q : ℕ) → eqb b 34 ≡ false → step_place σ Before (in_binary ss ∷ fs) q b ≡ begin_segment σ.rules (in_binary ss ∷ fs) q b → step_place σ Before (in_binary ss ∷ fs) q b ≡ begin_integer σ.rules (in_binary ss ∷ fs) q b
    segment_integer b q e begins = begins ∙ rw e refl

    begun : (q b : ℕ) (rest : List ℕ) → step_place σ Before (in_binary ss ∷ fs) q b ≡ begin_segment σ.rules (in_binary ss ∷ fs) q b
        → Reads σ any (SpellsBegun σ.rules.mode) (λ x. spot (after_begun σ.rules.mode x) (in_binary ss ∷ fs)) q (b ∷ rest) (read_on σ (spot Before (in_binary ss ∷ fs)) q (b ∷ rest))
    begun q b rest begins = go (eqb b 34) refl
      where
        go : (t : Bool) → eqb b 34 ≡ t → Reads σ any (SpellsBegun σ.rules.mode) (λ x. spot (after_begun σ.rules.mode x) (in_binary ss ∷ fs)) q (b ∷ rest) (read_on σ (spot Before (in_binary ss ∷ fs)) q (b ∷ rest))
        go true e =
            text_reads q b rest _ _ e (byte_goes σ Before (in_binary ss ∷ fs) q b rest _ (segment_text b q e begins))
            (quoted σ (in_binary ss ∷ fs) rest (record { use_ = ForSegment; points = [] }) Plain (suc q) tt)
        go false e = byte_end q q (b ∷ rest) _ (integer σ (in_binary ss ∷ fs) q b rest Before (segment_integer b q e begins))

    wide_begun : ((p b : ℕ) → step_before σ (in_binary ss ∷ fs) p b ≡ begin_segment σ.rules (in_binary ss ∷ fs) p b)
        → (p : ℕ) (text : List ℕ) → Reads σ begins_no_blank (Wide (SpellsBegun σ.rules.mode)) (λ x. spot (after_begun σ.rules.mode x) (in_binary ss ∷ fs)) p text (read_on σ (spot Before (in_binary ss ∷ fs)) p text)
    wide_begun begins =
        wide σ (SpellsBegun σ.rules.mode) (in_binary ss ∷ fs) (after_begun σ.rules.mode) (λ x. in_binary ss ∷ fs) (between_before σ (in_binary ss ∷ fs)) between_begun
        (48 ∷ []) (AByte 0) ((48 ∷ [], refl, inl (refl, refl)), refl)
        (λ b rest q mark. begun q b rest (before_step σ (in_binary ss ∷ fs) q b mark ∙ begins q b))

    -- ---- behind what begins a segment

    abbrev after : Option (List ℕ) → State
    after s = spot AfterSegment (in_binary (ss ++ s ∷ []) ∷ fs)

    mark_byte : (n p b : ℕ) → is_blank_byte b ≡ false → step_place σ (AfterByte n) (in_binary ss ∷ fs) p b
        ≡ cond (eqb b 58 && is_listing σ.rules.mode) (at SizeMark (InBinary true (run_bytes [] ss) true ∷ fs)) (next_segment (run_bytes [] ss ++ n ∷ []) (run_sized false ss) fs b)
    unfolding step_mark step_after_byte
    mark_byte n p b mark = mark_step σ (AfterByte n) (in_binary ss ∷ fs) p b (between_byte n) mark

    mark_text : (points : List ℕ) (p b : ℕ) → is_blank_byte b ≡ false → step_place σ (AfterText points) (in_binary ss ∷ fs) p b
        ≡ cond (eqb b 47 && is_listing σ.rules.mode) (cond (all_scalars points) (at UtfMark (InBinary true (run_bytes [] ss ++ encode_utf8_all points) (run_sized false ss) ∷ fs)) fault)
        (cond (all_latin points) (next_segment (run_bytes [] ss ++ points) (run_sized false ss) fs b) fault)
    unfolding step_mark step_after_text
    mark_text points p b mark = mark_step σ (AfterText points) (in_binary ss ∷ fs) p b (between_text points) mark

    mark_of : (bytes : List ℕ) (sized_ : Bool) (p b : ℕ) → is_blank_byte b ≡ false → step_place σ AfterSegment (InBinary true bytes sized_ ∷ fs) p b ≡ next_segment bytes sized_ fs b
    unfolding step_mark step_after_segment
    mark_of bytes sized_ p b mark = mark_step σ AfterSegment (InBinary true bytes sized_ ∷ fs) p b (between_segment (InBinary true bytes sized_ ∷ fs)) mark

    mark_segment : (s : Option (List ℕ)) (p b : ℕ) → is_blank_byte b ≡ false
        → step_place σ AfterSegment (in_binary (ss ++ s ∷ []) ∷ fs) p b ≡ next_segment (grown_bytes (run_bytes [] ss) s) (grown_sized (run_sized false ss) s) fs b
    mark_segment s p b mark =
        ap (λ (F : Frame). step_place σ AfterSegment (F ∷ fs) p b) (pushed ss s) ∙ mark_of (grown_bytes (run_bytes [] ss) s) (grown_sized (run_sized false ss) s) p b mark

    byte_turn : (n p b : ℕ) → (eqb b 58 && is_listing σ.rules.mode) ≡ false → is_blank_byte b ≡ false
        → step_place σ (AfterByte n) (in_binary ss ∷ fs) p b ≡ step_place σ AfterSegment (in_binary (ss ++ Some (n ∷ []) ∷ []) ∷ fs) p b
    byte_turn n p b e mark = mark_byte n p b mark ∙ (rw e refl ∙ sym (mark_segment (Some (n ∷ [])) p b mark))

    text_turn : (points : List ℕ) (p b : ℕ) → (eqb b 47 && is_listing σ.rules.mode) ≡ false → all_latin points ≡ true → is_blank_byte b ≡ false
        → step_place σ (AfterText points) (in_binary ss ∷ fs) p b ≡ step_place σ AfterSegment (in_binary (ss ++ Some points ∷ []) ∷ fs) p b
    text_turn points p b e latin mark = mark_text points p b mark ∙ (rw (e, latin) refl ∙ sym (mark_segment (Some points) p b mark))

    text_fault : (points : List ℕ) (p b : ℕ) → (eqb b 47 && is_listing σ.rules.mode) ≡ false → all_latin points ≡ false → is_blank_byte b ≡ false → step_place σ (AfterText points) (in_binary ss ∷ fs) p b ≡ fault
    text_fault points p b e latin mark = mark_text points p b mark ∙ rw (e, latin) refl

    -- ---- a size

    size_mark : (n p b : ℕ) → (eqb b 58 && is_listing σ.rules.mode) ≡ true → is_blank_byte b ≡ false → step_place σ (AfterByte n) (in_binary ss ∷ fs) p b ≡ at SizeMark (in_binary (ss ++ None ∷ []) ∷ fs)
    size_mark n p b e mark = mark_byte n p b mark ∙ (rw e refl ∙ ap (λ (F : Frame). at SizeMark (F ∷ fs)) (sym (pushed ss None)))

    size_on : (gs : List Frame) (p b : ℕ) → is_ascii_digit b ≡ true → step_place σ Size gs p b ≡ at Size gs
    unfolding step_place
    size_on gs p b e = rw e refl

    size_off : (gs : List Frame) (p b : ℕ) → is_ascii_digit b ≡ false → step_place σ Size gs p b ≡ step_place σ AfterSegment gs p b
    unfolding step_place
    size_off gs p b e = rw e refl

    size : (text : List ℕ) (p : ℕ) → Reads σ any AreMore after p text (read_on σ (spot Size (in_binary (ss ++ None ∷ []) ∷ fs)) p text)
    size [] p = part [] None (at_the_end σ (spot Size (in_binary (ss ++ None ∷ []) ∷ fs)) p) (refl, refl)
    size (b ∷ bytes) p = go (is_ascii_digit b) refl (size bytes (suc p))
      where
        go : (t : Bool) → is_ascii_digit b ≡ t → Reads σ any AreMore after (suc p) bytes (read_on σ (spot Size (in_binary (ss ++ None ∷ []) ∷ fs)) (suc p) bytes)
            → Reads σ any AreMore after p (b ∷ bytes) (read_on σ (spot Size (in_binary (ss ++ None ∷ []) ∷ fs)) p (b ∷ bytes))
        go true e more =
            reads_byte σ any AreMore AreMore after after (λ s. s) p b bytes _ _
            (λ u s r. (and_from _ _ e r.0, r.1)) (λ s. refl) (byte_goes σ Size (in_binary (ss ++ None ∷ []) ∷ fs) p b bytes _ (size_on (in_binary (ss ++ None ∷ []) ∷ fs) p b e)) more
        go false e more =
            whole [] (b ∷ bytes) None p refl (refl, refl) refl
            (same_step σ Size AfterSegment (in_binary (ss ++ None ∷ []) ∷ fs) (in_binary (ss ++ None ∷ []) ∷ fs) p b bytes (size_off (in_binary (ss ++ None ∷ []) ∷ fs) p b e)) (omega arith)

    between_size : (gs : List Frame) → IsBetween σ SizeMark gs
    unfolding step_place
    between_size gs = record { steps = λ p b. refl; ends = λ p. refl }

    size_first : (gs : List Frame) (p b : ℕ) → is_blank_byte b ≡ false → is_ascii_digit b ≡ true → step_place σ SizeMark gs p b ≡ at Size gs
    unfolding step_mark
    size_first gs p b mark e = mark_step σ SizeMark gs p b (between_size gs) mark ∙ rw e refl

    size_fault : (gs : List Frame) (p b : ℕ) → is_blank_byte b ≡ false → is_ascii_digit b ≡ false → step_place σ SizeMark gs p b ≡ fault
    unfolding step_mark
    size_fault gs p b mark e = mark_step σ SizeMark gs p b (between_size gs) mark ∙ rw e refl

    size_core : (b : ℕ) (rest : List ℕ) (q : ℕ) → is_blank_byte b ≡ false → Reads σ any SizeWord after q (b ∷ rest) (read_on σ (spot SizeMark (in_binary (ss ++ None ∷ []) ∷ fs)) q (b ∷ rest))
    size_core b rest q mark = go (is_ascii_digit b) refl
      where
        go : (t : Bool) → is_ascii_digit b ≡ t → Reads σ any SizeWord after q (b ∷ rest) (read_on σ (spot SizeMark (in_binary (ss ++ None ∷ []) ∷ fs)) q (b ∷ rest))
        go true e =
            reads_byte σ any AreMore SizeWord after after (λ s. s) q b rest _ _ (λ u s r. (some_digits b u e r.0, r.1)) (λ s. refl)
            (byte_goes σ SizeMark (in_binary (ss ++ None ∷ []) ∷ fs) q b rest _ (size_first (in_binary (ss ++ None ∷ []) ∷ fs) q b mark e)) (size rest (suc q))
        go false e = halted Syntax q (byte_stops σ SizeMark (in_binary (ss ++ None ∷ []) ∷ fs) q b rest _ (size_fault (in_binary (ss ++ None ∷ []) ∷ fs) q b mark e))

    sizes : (p : ℕ) (text : List ℕ) → Reads σ begins_no_blank (Wide SizeWord) after p text (read_on σ (spot SizeMark (in_binary (ss ++ None ∷ []) ∷ fs)) p text)
    sizes = wide_from σ SizeWord (in_binary (ss ++ None ∷ []) ∷ fs) (λ s. AfterSegment) (λ s. in_binary (ss ++ s ∷ []) ∷ fs) SizeMark (between_size (in_binary (ss ++ None ∷ []) ∷ fs))
        (λ s. between_segment (in_binary (ss ++ s ∷ []) ∷ fs)) (48 ∷ []) None (refl, refl) size_core

    -- ---- the word `utf8`

    utf_mark : (points : List ℕ) (p b : ℕ) → (eqb b 47 && is_listing σ.rules.mode) ≡ true → all_scalars points ≡ true → is_blank_byte b ≡ false
        → step_place σ (AfterText points) (in_binary ss ∷ fs) p b ≡ at UtfMark (in_binary (ss ++ Some (encode_utf8_all points) ∷ []) ∷ fs)
    utf_mark points p b e f mark = mark_text points p b mark ∙ (rw (e, f) refl ∙ ap (λ (F : Frame). at UtfMark (F ∷ fs)) (sym (pushed ss (Some (encode_utf8_all points)))))

    utf_fault : (points : List ℕ) (p b : ℕ) → (eqb b 47 && is_listing σ.rules.mode) ≡ true → all_scalars points ≡ false → is_blank_byte b ≡ false
        → step_place σ (AfterText points) (in_binary ss ∷ fs) p b ≡ fault
    utf_fault points p b e f mark = mark_text points p b mark ∙ rw (e, f) refl

    between_utf : (gs : List Frame) → IsBetween σ UtfMark gs
    unfolding step_place
    between_utf gs = record { steps = λ p b. refl; ends = λ p. refl }

    utf_0 : (gs : List Frame) (p b : ℕ) → is_blank_byte b ≡ false → step_place σ UtfMark gs p b ≡ cond (eqb b 117) (at (Utf 1) gs) fault
    unfolding step_mark
    utf_0 gs p b mark = mark_step σ UtfMark gs p b (between_utf gs) mark

    utf_1 : (gs : List Frame) (p b : ℕ) → step_place σ (Utf 1) gs p b ≡ cond (eqb b 116) (at (Utf 2) gs) fault
    unfolding step_place step_utf
    utf_1 gs p b = refl

    utf_2 : (gs : List Frame) (p b : ℕ) → step_place σ (Utf 2) gs p b ≡ cond (eqb b 102) (at (Utf 3) gs) fault
    unfolding step_place step_utf
    utf_2 gs p b = refl

    utf_3 : (gs : List Frame) (p b : ℕ) → step_place σ (Utf 3) gs p b ≡ cond (eqb b 56) (at AfterSegment gs) fault
    unfolding step_place step_utf
    utf_3 gs p b = refl

    module _ (bytes : List ℕ) where
      abbrev wide_frames : List Frame
      wide_frames = in_binary (ss ++ Some bytes ∷ []) ∷ fs

      word_end : (p : ℕ) (text : List ℕ) → Reads σ any (Exactly [] (Some bytes)) after p text (read_on σ (spot AfterSegment wide_frames) p text)
      word_end p text = whole [] text (Some bytes) p refl (refl, refl) refl refl (omega arith)

      word_3 : (p : ℕ) (text : List ℕ) → Reads σ any (Exactly (codes "8") (Some bytes)) after p text (read_on σ (spot (Utf 3) wide_frames) p text)
      word_3 = letters σ after (Some bytes) (Utf 3) wide_frames 56 [] (spot AfterSegment wide_frames) (λ p b e. utf_3 wide_frames p b ∙ rw e refl) (λ p b e. utf_3 wide_frames p b ∙ rw e refl) word_end (λ p. at_the_end σ (spot (Utf 3) wide_frames) p)

      word_2 : (p : ℕ) (text : List ℕ) → Reads σ any (Exactly (codes "f8") (Some bytes)) after p text (read_on σ (spot (Utf 2) wide_frames) p text)
      word_2 = letters σ after (Some bytes) (Utf 2) wide_frames 102 (codes "8") (spot (Utf 3) wide_frames) (λ p b e. utf_2 wide_frames p b ∙ rw e refl) (λ p b e. utf_2 wide_frames p b ∙ rw e refl) word_3 (λ p. at_the_end σ (spot (Utf 2) wide_frames) p)

      word_1 : (p : ℕ) (text : List ℕ) → Reads σ any (Exactly (codes "tf8") (Some bytes)) after p text (read_on σ (spot (Utf 1) wide_frames) p text)
      word_1 = letters σ after (Some bytes) (Utf 1) wide_frames 116 (codes "f8") (spot (Utf 2) wide_frames) (λ p b e. utf_1 wide_frames p b ∙ rw e refl) (λ p b e. utf_1 wide_frames p b ∙ rw e refl) word_2 (λ p. at_the_end σ (spot (Utf 1) wide_frames) p)

      word_0 : (b : ℕ) (rest : List ℕ) (q : ℕ) → is_blank_byte b ≡ false → Reads σ any (Exactly (codes "utf8") (Some bytes)) after q (b ∷ rest) (read_on σ (spot UtfMark wide_frames) q (b ∷ rest))
      word_0 b rest q mark = go (eqb b 117) refl
        where
          go : (t : Bool) → eqb b 117 ≡ t → Reads σ any (Exactly (codes "utf8") (Some bytes)) after q (b ∷ rest) (read_on σ (spot UtfMark wide_frames) q (b ∷ rest))
          go true e =
              reads_byte σ any (Exactly (codes "tf8") (Some bytes)) (Exactly (codes "utf8") (Some bytes)) after after (λ s. s) q b rest _ _
              (λ u s r. ((λ i. eqb-true b 117 e i ∷ r.0 i), r.1)) (λ s. refl) (byte_goes σ UtfMark wide_frames q b rest _ (utf_0 wide_frames q b mark ∙ rw e refl)) (word_1 (suc q) rest)
          go false e = halted Syntax q (byte_stops σ UtfMark wide_frames q b rest _ (utf_0 wide_frames q b mark ∙ rw e refl))

      words : (p : ℕ) (text : List ℕ) → Reads σ begins_no_blank (Wide (Exactly (codes "utf8") (Some bytes))) after p text (read_on σ (spot UtfMark wide_frames) p text)
      words = wide_from σ (Exactly (codes "utf8") (Some bytes)) wide_frames (λ s. AfterSegment) (λ s. in_binary (ss ++ s ∷ []) ∷ fs) UtfMark (between_utf wide_frames)
          (λ s. between_segment (in_binary (ss ++ s ∷ []) ∷ fs)) (codes "utf8") (Some bytes) (refl, refl) word_0

    -- ---- a whole segment

    second : (x : Begun σ.rules.mode) (q b : ℕ) (rest : List ℕ) → is_blank_byte b ≡ false
        → Reads σ begins_no_blank (SegmentRest σ.rules.mode x) after q (b ∷ rest) (read_on σ (spot (after_begun σ.rules.mode x) (in_binary ss ∷ fs)) q (b ∷ rest))
    second (AByte n) q b rest mark = go (eqb b 58 && is_listing σ.rules.mode) refl
      where
        go : (t : Bool) → (eqb b 58 && is_listing σ.rules.mode) ≡ t
            → Reads σ begins_no_blank (SegmentRest σ.rules.mode (AByte n)) after q (b ∷ rest) (read_on σ (spot (AfterByte n) (in_binary ss ∷ fs)) q (b ∷ rest))
        go false e =
            whole [] (b ∷ rest) (Some (n ∷ [])) q refl (inl (refl, refl)) (not_from_false _ mark)
            (same_step σ (AfterByte n) AfterSegment (in_binary ss ∷ fs) (in_binary (ss ++ Some (n ∷ []) ∷ []) ∷ fs) q b rest (byte_turn n q b e mark)) (omega arith)
        go true e =
            let parts = and_parts (eqb b 58) (is_listing σ.rules.mode) e in
            reads_as σ begins_no_blank (Marked 58 (Wide SizeWord)) (SegmentRest σ.rules.mode (AByte n)) after after (λ s. s) q (b ∷ rest) _ _
            (λ u s r. inr (listing_is σ.rules.mode parts.1, r)) (λ s. refl) refl
            (subst (λ (c : ℕ). Reads σ begins_no_blank (Marked 58 (Wide SizeWord)) after q (c ∷ rest) (read_on σ (spot (AfterByte n) (in_binary ss ∷ fs)) q (b ∷ rest))) (sym (eqb-true b 58 parts.0))
            (reads_mark σ begins_no_blank 58 (Wide SizeWord) after q rest _ _ (byte_goes σ (AfterByte n) (in_binary ss ∷ fs) q b rest _ (size_mark n q b e mark)) (sizes (suc q) rest)))
    second (AText points below) q b rest mark = go (eqb b 47 && is_listing σ.rules.mode) (all_scalars points) (all_latin points) refl refl refl
      where
        go : (t s l : Bool) → (eqb b 47 && is_listing σ.rules.mode) ≡ t → all_scalars points ≡ s → all_latin points ≡ l
            → Reads σ begins_no_blank (SegmentRest σ.rules.mode (AText points below)) after q (b ∷ rest) (read_on σ (spot (AfterText points) (in_binary ss ∷ fs)) q (b ∷ rest))
        go false s true e f g =
            whole [] (b ∷ rest) (Some points) q refl (inl (g, refl, refl)) (not_from_false _ mark)
            (same_step σ (AfterText points) AfterSegment (in_binary ss ∷ fs) (in_binary (ss ++ Some points ∷ []) ∷ fs) q b rest (text_turn points q b e g mark)) (omega arith)
        go false s false e f g = halted Syntax q (byte_stops σ (AfterText points) (in_binary ss ∷ fs) q b rest _ (text_fault points q b e g mark))
        go true false l e f g = halted Syntax q (byte_stops σ (AfterText points) (in_binary ss ∷ fs) q b rest _ (utf_fault points q b e f mark))
        go true true l e f g =
            let parts = and_parts (eqb b 47) (is_listing σ.rules.mode) e in
            reads_as σ begins_no_blank (Marked 47 (Wide (Utf8Word points))) (SegmentRest σ.rules.mode (AText points below)) after after (λ s. s) q (b ∷ rest) _ _
            (λ u s r. inr (listing_is σ.rules.mode parts.1, r)) (λ s. refl) refl
            (subst (λ (c : ℕ). Reads σ begins_no_blank (Marked 47 (Wide (Utf8Word points))) after q (c ∷ rest) (read_on σ (spot (AfterText points) (in_binary ss ∷ fs)) q (b ∷ rest))) (sym (eqb-true b 47 parts.0))
            (reads_mark σ begins_no_blank 47 (Wide (Utf8Word points)) after q rest _ _ (byte_goes σ (AfterText points) (in_binary ss ∷ fs) q b rest _ (utf_mark points q b e f mark)) (words (encode_utf8_all points) (suc q) rest)))

    rest_sample : (x : Begun σ.rules.mode) → Sample (SegmentRest σ.rules.mode x)
    rest_sample (AByte n) = record { text = []; value = Some (n ∷ []); stands = inl (refl, refl) }
    rest_sample (AText points below) = go (all_latin points) refl σ.rules.mode refl
      where
        go : (t : Bool) → all_latin points ≡ t → (mode : Mode) → σ.rules.mode ≡ mode → Sample (SegmentRest σ.rules.mode (AText points below))
        go true e mode m = record { text = []; value = Some points; stands = inl (e, refl, refl) }
        go false e Script m = absurd (let clash : true ≡ false = sym (below_latin σ.rules.mode points m below) ∙ e in cc)
        go false e Listing m = record {
          text = 47 ∷ codes "utf8";
          value = Some (encode_utf8_all points);
          stands = inr (
            m,
            record {
              behind = codes "utf8";
              stands = record { before = []; inside = codes "utf8"; behind = []; blank_before = no_blank; stands = (refl, refl); blank_behind = no_blank; parts = refl };
              parts = refl;
            },
          );
        }

    begun_ends : (x : Begun σ.rules.mode) (q : ℕ) → read_on σ (spot (after_begun σ.rules.mode x) (in_binary ss ∷ fs)) q [] ≡ Cut
    begun_ends (AByte n) q = at_the_end σ (spot (AfterByte n) (in_binary ss ∷ fs)) q
    begun_ends (AText points below) q = at_the_end σ (spot (AfterText points) (in_binary ss ∷ fs)) q

    extend : (p : ℕ) (text : List ℕ) (start : Reading) → Reads σ begins_no_blank (Wide (SpellsBegun σ.rules.mode)) (λ x. spot (after_begun σ.rules.mode x) (in_binary ss ∷ fs)) p text start
        → Reads σ begins_no_blank (Wide (SpellsSegment σ.rules)) after p text start
    extend p text start h =
        reads_as σ begins_no_blank (Then (Wide (SpellsBegun σ.rules.mode)) (SegmentRest σ.rules.mode)) (Wide (SpellsSegment σ.rules)) after after (λ s. s) p text start start
        (λ u s r. segment_of σ.rules r.value u r.first r.second s r.parts r.is_first r.is_second) (λ s. refl) refl
        (reads_then σ begins_no_blank (Wide (SpellsBegun σ.rules.mode)) (SegmentRest σ.rules.mode) (λ x. spot (after_begun σ.rules.mode x) (in_binary ss ∷ fs)) after
        begun_ends rest_sample second p text start h)

  -- ---- segments with commas between them

  segment_begin : (ss : List (Option (List ℕ))) (s : Option (List ℕ)) (p b : ℕ) → step_before σ (in_binary (ss ++ s ∷ []) ∷ fs) p b ≡ begin_segment σ.rules (in_binary (ss ++ s ∷ []) ∷ fs) p b
  unfolding step_before
  segment_begin [] s p b = refl
  segment_begin (x ∷ ss) s p b = refl

  segment_first : (p b : ℕ) → eqb b 62 ≡ false → step_before σ (in_binary [] ∷ fs) p b ≡ begin_segment σ.rules (in_binary [] ∷ fs) p b
  unfolding step_before
  segment_first p b e = rw e refl

  empty_close : (q : ℕ) → step_place σ Before (in_binary [] ∷ fs) q 62 ≡ at Close (in_binary [] ∷ fs)
  unfolding step_place step_between step_mark step_before
  empty_close q = refl

  segment_step : (ss : List (Option (List ℕ))) (s : Option (List ℕ)) (p b : ℕ) → is_blank_byte b ≡ false
      → step_place σ AfterSegment (in_binary (ss ++ s ∷ []) ∷ fs) p b ≡ next_segment (run_bytes [] (ss ++ s ∷ [])) (run_sized false (ss ++ s ∷ [])) fs b
  segment_step ss s p b mark =
      ap (λ (F : Frame). step_place σ AfterSegment (F ∷ fs) p b) (sym (begun_now ss s)) ∙ mark_of [] (run_bytes [] (ss ++ s ∷ [])) (run_sized false (ss ++ s ∷ [])) p b mark

  next_comma : (ss : List (Option (List ℕ))) (s : Option (List ℕ)) (q : ℕ) → step_place σ AfterSegment (in_binary (ss ++ s ∷ []) ∷ fs) q 44 ≡ at Before (in_binary (ss ++ s ∷ []) ∷ fs)
  next_comma ss s q = segment_step ss s q 44 refl ∙ ap (λ (f : Frame). at Before (f ∷ fs)) (begun_now ss s)

  next_close : (ss : List (Option (List ℕ))) (s : Option (List ℕ)) (q b : ℕ) → eqb b 44 ≡ false → eqb b 62 ≡ true → is_blank_byte b ≡ false
      → step_place σ AfterSegment (in_binary (ss ++ s ∷ []) ∷ fs) q b ≡ at Close (in_binary (ss ++ s ∷ []) ∷ fs)
  next_close ss s q b e f mark = segment_step ss s q b mark ∙ (rw (e, f) refl ∙ ap (λ (g : Frame). at Close (g ∷ fs)) (begun_now ss s))

  next_fault : (ss : List (Option (List ℕ))) (s : Option (List ℕ)) (q b : ℕ) → eqb b 44 ≡ false → eqb b 62 ≡ false → is_blank_byte b ≡ false
      → step_place σ AfterSegment (in_binary (ss ++ s ∷ []) ∷ fs) q b ≡ fault
  next_fault ss s q b e f mark = segment_step ss s q b mark ∙ rw (e, f) refl

  abbrev to_close : List (Option (List ℕ)) → State
  to_close ss = spot Close (in_binary ss ∷ fs)

  abbrev SegmentEnd : List (Option (List ℕ)) → List ℕ → List (Option (List ℕ)) → Type 0
  SegmentEnd ss = Closing 62 ss

  segment_loop : Loop σ (Wide (SpellsSegment σ.rules)) SegmentEnd (λ ss. spot Before (in_binary ss ∷ fs)) (λ ss s. spot AfterSegment (in_binary (ss ++ s ∷ []) ∷ fs)) to_close
  segment_loop = record {
    item = λ xs x q rest. extend (xs ++ x ∷ []) q rest _ (wide_begun (xs ++ x ∷ []) (segment_begin xs x) q rest);
    comma = λ xs x q rest. byte_goes σ AfterSegment (in_binary (xs ++ x ∷ []) ∷ fs) q 44 rest _ (next_comma xs x q);
    finish = λ xs x q b rest no_comma mark. reads_closing σ 62 (xs ++ x ∷ []) to_close AfterSegment (in_binary (xs ++ x ∷ []) ∷ fs) q b rest _
        (λ e. next_close xs x q b no_comma e mark) refl (λ e. next_fault xs x q b no_comma e mark);
    ends = λ xs x q. at_the_end σ (spot AfterSegment (in_binary (xs ++ x ∷ []) ∷ fs)) q;
    sample = λ xs. closing_sample 62 xs;
  }

  abbrev Segments : List ℕ → List (Option (List ℕ)) → Type 0
  Segments = Body (Wide (SpellsSegment σ.rules)) SegmentEnd 62 []

  segments : (p : ℕ) (text : List ℕ) → Reads σ any Segments to_close p text (read_on σ (spot Before (in_binary [] ∷ fs)) p text)
  segments = body σ (Wide (SpellsSegment σ.rules)) SegmentEnd 62 [] (in_binary [] ∷ fs) to_close (between_before σ (in_binary [] ∷ fs))
      (λ q rest. byte_goes σ Before (in_binary [] ∷ fs) q 62 rest _ (empty_close q))
      (λ blank b rest p q text blanks parts mark other place.
      run_from σ (Wide (SpellsSegment σ.rules)) SegmentEnd (λ ss. spot Before (in_binary ss ∷ fs)) (λ ss s. spot AfterSegment (in_binary (ss ++ s ∷ []) ∷ fs)) to_close segment_loop p text _
      (extend [] p text _
      (leading σ (SpellsBegun σ.rules.mode) (in_binary [] ∷ fs) (after_begun σ.rules.mode) (λ x. in_binary [] ∷ fs) blank text rest b p q _ blanks parts refl place (between_begun [])
      (begun [] q b rest (before_step σ (in_binary [] ∷ fs) q b mark ∙ segment_first q b other)))))

  close_step : (ss : List (Option (List ℕ))) (q b : ℕ) → eqb b 62 ≡ true → step_place σ Close (in_binary ss ∷ fs) q b ≡ at (After (binary_term (run_bytes [] ss) (run_sized false ss))) fs
  unfolding step_place step_close
  close_step ss q b e = rw e refl

  close_goes : (ss : List (Option (List ℕ))) (q b : ℕ) → eqb b 62 ≡ true → step_place σ Close (in_binary ss ∷ fs) q b ≡ at (After (binary_of ss)) fs
  close_goes ss q b e = close_step ss q b e ∙ ap (λ (t : TermTree). at (After t) fs) (joined ss)

  close_fault : (ss : List (Option (List ℕ))) (q b : ℕ) → eqb b 62 ≡ false → step_place σ Close (in_binary ss ∷ fs) q b ≡ fault
  unfolding step_place step_close
  close_fault ss q b e = rw e refl

  binary_text : (text : List ℕ) (t : TermTree) → Then Segments (λ ss. Closing 62 (binary_of ss)) text t → SpellsFlat σ.rules (60 ∷ 60 ∷ text) t
  binary_text text t h = subst (λ (u : TermTree). SpellsFlat σ.rules (60 ∷ 60 ∷ text) u) (sym h.is_second.same) (go h.is_first)
    where
      go : Segments h.first h.value → SpellsFlat σ.rules (60 ∷ 60 ∷ text) (binary_of h.value)
      go (bare blank blanks parts same) =
          subst (λ (ss : List (Option (List ℕ))). SpellsFlat σ.rules (60 ∷ 60 ∷ text) (binary_of ss)) (sym same)
          (binary (60 ∷ 60 ∷ text) blank [] (inl (blanks, refl))
          (ap (λ (w : List ℕ). 60 ∷ 60 ∷ w) (h.parts ∙ ((λ i. parts i ++ h.is_second.is i) ∙ append_assoc blank (62 ∷ []) (62 ∷ [])))))
      go (filled run) =
          subst (λ (ss : List (Option (List ℕ))). SpellsFlat σ.rules (60 ∷ 60 ∷ text) (binary_of ss)) (sym run.ends.same)
          (binary (60 ∷ 60 ∷ text) run.inside run.values (inr run.commas)
          (ap (λ (w : List ℕ). 60 ∷ 60 ∷ w) (h.parts ∙ ((λ i. (run.parts ∙ ap (λ (w : List ℕ). run.inside ++ w) run.ends.is) i ++ h.is_second.is i) ∙ append_assoc run.inside (62 ∷ []) (62 ∷ [])))))

  angle_goes : (q b : ℕ) → eqb b 60 ≡ true → step_place σ Angle fs q b ≡ at Before (in_binary [] ∷ fs)
  unfolding step_place
  angle_goes q b e = rw e refl

  angle_fault : (q b : ℕ) → eqb b 60 ≡ false → step_place σ Angle fs q b ≡ fault
  unfolding step_place
  angle_fault q b e = rw e refl

  binary_rest : (p : ℕ) (text : List ℕ) → Reads σ any (λ u t. SpellsFlat σ.rules (60 ∷ 60 ∷ u) t) (behind_term fs) p text (read_on σ (spot Before (in_binary [] ∷ fs)) p text)
  binary_rest p text =
      reads_as σ any (Then Segments (λ ss. Closing 62 (binary_of ss))) (λ u t. SpellsFlat σ.rules (60 ∷ 60 ∷ u) t) (behind_term fs) (behind_term fs) (λ t. t) p text _ _ binary_text (λ t. refl) refl
      (reads_next σ Segments (λ ss. Closing 62 (binary_of ss)) to_close (behind_term fs) (λ ss q. at_the_end σ (to_close ss) q) (λ ss. closing_sample 62 (binary_of ss))
      (λ ss q b rest. reads_closing σ 62 (binary_of ss) (behind_term fs) Close (in_binary ss ∷ fs) q b rest _ (close_goes ss q b) refl (close_fault ss q b))
      p text _ (segments p text))

  -- behind the first `<`
  pub binaries : (p : ℕ) (text : List ℕ) → Reads σ any (λ u t. SpellsFlat σ.rules (60 ∷ u) t) (behind_term fs) p text (read_on σ (spot Angle fs) p text)
  binaries p [] = part (60 ∷ 62 ∷ 62 ∷ []) (tree.Bin []) (at_the_end σ (spot Angle fs) p) (binary (60 ∷ 60 ∷ 62 ∷ 62 ∷ []) [] [] (inl (no_blank, refl)) refl)
  binaries p (b ∷ rest) = go (eqb b 60) refl
    where
      go : (t : Bool) → eqb b 60 ≡ t → Reads σ any (λ u t. SpellsFlat σ.rules (60 ∷ u) t) (behind_term fs) p (b ∷ rest) (read_on σ (spot Angle fs) p (b ∷ rest))
      go true e =
          reads_byte σ any (λ u t. SpellsFlat σ.rules (60 ∷ 60 ∷ u) t) (λ u t. SpellsFlat σ.rules (60 ∷ u) t) (behind_term fs) (behind_term fs) (λ t. t) p b rest _ _
          (λ u t r. subst (λ (k : ℕ). SpellsFlat σ.rules (60 ∷ k ∷ u) t) (sym (eqb-true b 60 e)) r) (λ t. refl)
          (byte_goes σ Angle fs p b rest _ (angle_goes p b e)) (binary_rest (suc p) rest)
      go false e = halted Syntax p (byte_stops σ Angle fs p b rest _ (angle_fault p b e))
