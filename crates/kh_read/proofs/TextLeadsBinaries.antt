-- Binaries are read as they are spelled, and what begins a term.
use Rattle.std.proofs.Common.{◌≡◌, ◌≤◌, ◌<◌, ℕ, zero, suc, ◌+◌, Bool, true, false, not, ◌&&◌, ◌||◌, cond, eqb, ltb, leb, List, [], ◌∷◌, ◌++◌, length, map, Option, Some, None, inl, inr, refl, sym, ap, subst, ◌∙◌, arith, append_assoc, ℤ, pos, negsuc}
use Rattle.std.specs.Prelude.{◌⊎◌, codes, neg_ℤ}
use Rattle.std.specs.Char.{is_ascii_digit, is_ascii_lowercase}
use Rattle.std.specs.List.{list_all}
use Rattle.std.specs.Str.{encode_utf8_all, all_scalars}
use Rattle.std.proofs.lemmas.Bool.{and_parts, and_from, and_left, or_parts, or_left, or_right, or_from, or_cases, eqb-true, eq-eqb, ne_eqb, lt-ltb, le-ltb, not-true, ltb-true, leb-true}
use Rattle.std.proofs.lemmas.List.{length-append, append-nil}
use Rattle.kh_term.specs.declared.tree.TermTree.{TermTree}
use Rattle.kh_term.specs.declared.tree.TermTree.TheVariants as tree
use Rattle.kh_term.specs.Make.{list_of, list_with_tail}
use Rattle.kh_text_defs.specs.declared.mode.Mode.{Mode}
use Rattle.kh_text_defs.specs.declared.mode.Mode.TheVariants.{Script, Listing}
use Rattle.kh_text_defs.specs.Atoms.{is_word_byte}
use Rattle.kh_text_defs.specs.Blanks.{is_space, IsBlank, Wide, Commas, last, then_more, Elements}
use Rattle.kh_text_defs.specs.Spelled.{Rules, SpellsSegment, one_byte, latin_text, sized, utf8_text, binary_of}
use Rattle.kh_text_defs.specs.Tokens.{are_digits, IsInteger, Quoted}
use Rattle.kh_read.specs.State.{Frame, InBinary, Use, ForSegment, Quoting, Plain, Place, Before, After, AfterByte, AfterText, AfterSegment, SizeMark, Size, UtfMark, Utf, Digits, Quote, Angle, Close, State, Setting, Step, Go, Reading}
use Rattle.kh_read.specs.Steps.{at, is_listing, signed, is_byte, byte_of, takes_segment, takes_arity, takes_name, takes_fraction, fits_here, bound, used, all_latin, binary_term, begin_name, begin_integer, begin_segment, begin_term, next_segment, step_digits, step_before, step_after_byte, step_after_text, step_after_segment, step_close, step_mark, step_between, step_utf, more_digits, step_place, read_on}
use Rattle.kh_read.proofs.TextDigits.{byte_is}
use Rattle.kh_read.proofs.TextCore.{spot, byte_goes, same_step, at_the_end, IsBetween, is_blank_byte}
use Rattle.kh_read.proofs.TextReads.{any}
use Rattle.kh_read.proofs.TextWords.{no_word}
use Rattle.kh_read.proofs.TextFloats.{TakesTerm}
use Rattle.kh_read.proofs.TextSegments.{grown_bytes, grown_sized, run_bytes, run_sized, joined}
use Rattle.kh_read.proofs.TextQuotes.{AreBelow}
use Rattle.kh_read.proofs.TextBrackets.{between_before, before_step, mark_step}
use Rattle.kh_read.proofs.TextTerms.{begins_integer, begins_name}
use Rattle.kh_read.proofs.TextLeads.{Leads, leads_first, leads_byte, leads_then, blank_leads, blank_quiet, digits_from}
use Rattle.kh_read.proofs.TextLeadsFlat.{leads_turn, no_word_no_digit, signed_of, integer_leads, AreScalars, scalars_of, scalar_top, all_are, quoted_leads}

-- ---- the bytes that begin a term

abbrev pub starts_term : ℕ → Bool
starts_term b = (eqb b 45 || is_ascii_digit b) || ((is_ascii_lowercase b || eqb b 39) || (eqb b 91 || (eqb b 123 || (eqb b 34 || (eqb b 60 || eqb b 35)))))

pub starts_other : (k b : ℕ) → starts_term k ≡ false → starts_term b ≡ true → eqb b k ≡ false
starts_other k b apart sure = go (eqb b k) refl
  where
    go : (t : Bool) → eqb b k ≡ t → eqb b k ≡ false
    go true e = absurd (let same : starts_term k ≡ true = subst (λ (x : ℕ). starts_term x ≡ true) (eqb-true b k e) sure in let clash : false ≡ true = sym apart ∙ same in cc)
    go false e = e

pub starts_mark : (b : ℕ) → starts_term b ≡ true → is_blank_byte b ≡ false
starts_mark b sure =
    or_from _ _ (or_from _ _ (or_from _ _ (or_from _ _ (starts_other 9 b refl sure) (starts_other 10 b refl sure)) (starts_other 13 b refl sure)) (starts_other 32 b refl sure)) (starts_other 37 b refl sure)

abbrev pub Begins : Setting → List Frame → Type 0
Begins σ fs = (p b : ℕ) → starts_term b ≡ true → step_place σ Before fs p b ≡ begin_term σ fs p b

pub begins_by : (σ : Setting) (fs : List Frame) → ((p b : ℕ) → starts_term b ≡ true → step_before σ fs p b ≡ begin_term σ fs p b) → Begins σ fs
begins_by σ fs begins p b sure = before_step σ fs p b (starts_mark b sure) ∙ begins p b sure

-- ---- values with commas between them

module _ {A : Type 0} (σ : Setting) (S : List ℕ → A → Type 0) (begin : List A → State) (after : List A → A → State) (later : State) (end : List ℕ) (Q : List ℕ → Bool)
    (item : (before : List A) (x : A) (text : List ℕ) → S text x → Leads σ (begin before) text (after before x) Q)
    (next_good : (rest : List ℕ) → Q (44 ∷ rest) ≡ true)
    (comma : (before : List A) (x : A) → Leads σ (after before x) (44 ∷ []) (begin (before ++ x ∷ [])) any)
    (quiet : (rest : List ℕ) → Q (end ++ rest) ≡ true) where
  pub commas_lead : (before : List A) (inside : List ℕ) (xs : List A) → Commas S inside xs → ((front : List A) (x : A) → front ++ x ∷ [] ≡ before ++ xs → Leads σ (after front x) end later any)
      → Leads σ (begin before) (inside ++ end) later any
  commas_lead before inside xs (last text x s) finish =
      leads_then σ (begin before) (after before x) later inside end Q any (item before x inside s) (finish before x refl) (λ rest q. quiet rest)
  commas_lead before inside xs (then_more text first rest x others s more parts) finish =
      subst (λ (t : List ℕ). Leads σ (begin before) t later any) (sym (ap (λ (t : List ℕ). t ++ end) parts ∙ append_assoc first (44 ∷ rest) end))
      (leads_then σ (begin before) (after before x) later first (44 ∷ (rest ++ end)) Q any (item before x first s)
      (leads_then σ (after before x) (begin (before ++ x ∷ [])) later (44 ∷ []) (rest ++ end) any any (comma before x)
      (commas_lead (before ++ x ∷ []) rest others more (λ front y e. finish front y (e ∙ append_assoc before (x ∷ []) others)))
      (λ after_ q. refl))
      (λ after_ q. next_good ((rest ++ end) ++ after_)))

  pub elements_lead : (fs : List Frame) → begin [] ≡ spot Before fs → (inside : List ℕ) (xs : List A) → (IsBlank inside × (xs ≡ [])) ⊎ Commas S inside xs
      → (xs ≡ [] → Leads σ (begin []) end later any) → ((front : List A) (x : A) → front ++ x ∷ [] ≡ xs → Leads σ (after front x) end later any) → Leads σ (begin []) (inside ++ end) later any
  elements_lead fs is inside xs (inl (blank, none)) empty finish =
      leads_then σ (begin []) (begin []) later inside end any any (subst (λ (s : State). Leads σ s inside s any) (sym is) (blank_leads σ Before fs (between_before σ fs) inside blank)) (empty none) (λ rest q. refl)
  elements_lead fs is inside xs (inr commas) empty finish = commas_lead [] inside xs commas finish

both_classes : (b : ℕ) → is_ascii_digit b ≡ true → is_ascii_lowercase b ≡ true → ⊥
both_classes b digit lower =
    let d = and_parts (leb 48 b) (leb b 57) digit in
    let l = and_parts (leb 97 b) (leb b 122) lower in
    omega (arith, leb-true b 57 d.1, leb-true 97 b l.0)

-- ---- binaries

below_segment : (mode : Mode) (cs : List ℕ) → all_latin cs ≡ true → AreBelow mode ForSegment cs
below_segment mode [] latin = tt
below_segment mode (c ∷ cs) latin =
    let parts = and_parts (ltb c 256) (all_latin cs) latin in
    (small mode, below_segment mode cs parts.1)
  where
    small : (m : Mode) → c < bound m ForSegment
    small Script = ltb-true c 256 (and_parts (ltb c 256) (all_latin cs) latin).0
    small Listing = omega (arith, ltb-true c 256 (and_parts (ltb c 256) (all_latin cs) latin).0)

below_listing : (mode : Mode) (cs : List ℕ) → mode ≡ Listing → AreScalars cs → AreBelow mode ForSegment cs
unfolding AreScalars
below_listing mode [] listing scalars = tt
below_listing mode (c ∷ cs) listing scalars = (subst (λ (m : Mode). c < bound m ForSegment) (sym listing) (scalar_top c scalars.0), below_listing mode cs listing scalars.1)

module _ (σ : Setting) (fs : List Frame) where
  no_fraction : (t : Bool) (F : Frame) → takes_segment (F ∷ fs) ≡ true → (t && takes_fraction σ.rules (F ∷ fs)) ≡ false
  no_fraction true F segment = go (is_listing σ.rules.mode) (not (takes_arity (F ∷ fs)))
    where
      go : (l a : Bool) → (true && (l && not (takes_segment (F ∷ fs)) && a)) ≡ false
      go l a = ap (λ (s : Bool). l && not s && a) segment ∙ none l a
        where
          none : (x y : Bool) → (x && false && y) ≡ false
          none true y = refl
          none false y = refl
  no_fraction false F segment = refl

  bin_begin : (begun : Bool) (bytes : List ℕ) (sized_ : Bool) (p b : ℕ) → (eqb b 62) ≡ false → step_before σ (InBinary begun bytes sized_ ∷ fs) p b ≡ begin_segment σ.rules (InBinary begun bytes sized_ ∷ fs) p b
  unfolding step_before
  bin_begin true bytes sized_ p b e = refl
  bin_begin false bytes sized_ p b e = rw e refl

  bin_integer : (begun : Bool) (bytes : List ℕ) (sized_ : Bool) (p b : ℕ) → (eqb b 45 || is_ascii_digit b) ≡ true → step_place σ Before (InBinary begun bytes sized_ ∷ fs) p b ≡ begin_integer σ.rules (InBinary begun bytes sized_ ∷ fs) p b
  bin_integer begun bytes sized_ p b sure =
      let starts = or_left (eqb b 45 || is_ascii_digit b) ((is_ascii_lowercase b || eqb b 39) || (eqb b 91 || (eqb b 123 || (eqb b 34 || (eqb b 60 || eqb b 35))))) sure in
      before_step σ (InBinary begun bytes sized_ ∷ fs) p b (starts_mark b starts) ∙ (bin_begin begun bytes sized_ p b (starts_other 62 b refl starts) ∙ rw (no_quote (eqb b 34) refl) refl)
    where
      no_quote : (t : Bool) → eqb b 34 ≡ t → eqb b 34 ≡ false
      no_quote true e = absurd (let clash : (eqb 34 45 || is_ascii_digit 34) ≡ true = subst (λ (k : ℕ). (eqb k 45 || is_ascii_digit k) ≡ true) (eqb-true b 34 e) sure in let no : false ≡ true = clash in cc)
      no_quote false e = e

  bin_quote : (begun : Bool) (bytes : List ℕ) (sized_ : Bool) (p : ℕ) → step_place σ Before (InBinary begun bytes sized_ ∷ fs) p 34 ≡ at (Quote (record { use_ = ForSegment; points = [] }) Plain) (InBinary begun bytes sized_ ∷ fs)
  unfolding step_place step_between step_mark step_before
  bin_quote true bytes sized_ p = refl
  bin_quote false bytes sized_ p = refl

  byte_turn : (begun : Bool) (bytes : List ℕ) (sized_ neg : Bool) (n first q : ℕ) (rest : List ℕ) → no_word rest ≡ true
      → read_on σ (spot (Digits first neg n) (InBinary begun bytes sized_ ∷ fs)) q rest ≡ read_on σ (spot (AfterByte (byte_of n)) (InBinary begun bytes sized_ ∷ fs)) q rest
  unfolding step_place step_digits
  byte_turn begun bytes sized_ neg n first q [] quiet =
      at_the_end σ (spot (Digits first neg n) (InBinary begun bytes sized_ ∷ fs)) q ∙ sym (at_the_end σ (spot (AfterByte (byte_of n)) (InBinary begun bytes sized_ ∷ fs)) q)
  byte_turn begun bytes sized_ neg n first q (b ∷ rest) quiet =
      same_step σ (Digits first neg n) (AfterByte (byte_of n)) (InBinary begun bytes sized_ ∷ fs) (InBinary begun bytes sized_ ∷ fs) q b rest
      (rw (no_word_no_digit b (not-true _ quiet), no_fraction (eqb b 46) (InBinary begun bytes sized_) refl) refl)

  between_byte : (n : ℕ) (gs : List Frame) → IsBetween σ (AfterByte n) gs
  unfolding step_place
  between_byte n gs = record { steps = λ p b. refl; ends = λ p. refl }

  between_text : (cs : List ℕ) (gs : List Frame) → IsBetween σ (AfterText cs) gs
  unfolding step_place
  between_text cs gs = record { steps = λ p b. refl; ends = λ p. refl }

  between_segment : (gs : List Frame) → IsBetween σ AfterSegment gs
  unfolding step_place
  between_segment gs = record { steps = λ p b. refl; ends = λ p. refl }

  between_size : (gs : List Frame) → IsBetween σ SizeMark gs
  unfolding step_place
  between_size gs = record { steps = λ p b. refl; ends = λ p. refl }

  between_utf : (gs : List Frame) → IsBetween σ UtfMark gs
  unfolding step_place
  between_utf gs = record { steps = λ p b. refl; ends = λ p. refl }

  byte_next : (begun : Bool) (bytes : List ℕ) (sized_ : Bool) (n p c : ℕ) → is_space c ≡ false → eqb c 37 ≡ false → eqb c 58 ≡ false
      → step_place σ (AfterByte n) (InBinary begun bytes sized_ ∷ fs) p c ≡ next_segment (bytes ++ n ∷ []) sized_ fs c
  unfolding step_place step_between step_mark step_after_byte
  byte_next begun bytes sized_ n p c e f g = rw (e, f, g) refl

  text_next : (begun : Bool) (bytes : List ℕ) (sized_ : Bool) (cs : List ℕ) (p c : ℕ) → is_space c ≡ false → eqb c 37 ≡ false → eqb c 47 ≡ false → all_latin cs ≡ true
      → step_place σ (AfterText cs) (InBinary begun bytes sized_ ∷ fs) p c ≡ next_segment (bytes ++ cs) sized_ fs c
  unfolding step_place step_between step_mark step_after_text
  text_next begun bytes sized_ cs p c e f g h = rw (e, f, g, h) refl

  segment_next : (bytes : List ℕ) (sized_ : Bool) (p c : ℕ) → is_space c ≡ false → eqb c 37 ≡ false → step_place σ AfterSegment (InBinary true bytes sized_ ∷ fs) p c ≡ next_segment bytes sized_ fs c
  unfolding step_place step_between step_mark step_after_segment
  segment_next bytes sized_ p c e f = rw (e, f) refl

  size_step : (begun : Bool) (bytes : List ℕ) (sized_ : Bool) (n p : ℕ) → is_listing σ.rules.mode ≡ true → step_place σ (AfterByte n) (InBinary begun bytes sized_ ∷ fs) p 58 ≡ at SizeMark (InBinary true bytes true ∷ fs)
  unfolding step_place step_between step_mark step_after_byte
  size_step begun bytes sized_ n p listing = rw listing refl

  utf_step : (begun : Bool) (bytes : List ℕ) (sized_ : Bool) (cs : List ℕ) (p : ℕ) → is_listing σ.rules.mode ≡ true → all_scalars cs ≡ true
      → step_place σ (AfterText cs) (InBinary begun bytes sized_ ∷ fs) p 47 ≡ at UtfMark (InBinary true (bytes ++ encode_utf8_all cs) sized_ ∷ fs)
  unfolding step_place step_between step_mark step_after_text
  utf_step begun bytes sized_ cs p listing scalars = rw (listing, scalars) refl

  size_mark : (gs : List Frame) (p b : ℕ) → is_blank_byte b ≡ false → is_ascii_digit b ≡ true → step_place σ SizeMark gs p b ≡ at Size gs
  unfolding step_mark
  size_mark gs p b mark e = mark_step σ SizeMark gs p b (between_size gs) mark ∙ rw e refl

  size_first : (gs : List Frame) (p b : ℕ) → is_ascii_digit b ≡ true → step_place σ SizeMark gs p b ≡ at Size gs
  size_first gs p b e = size_mark gs p b (starts_mark b (or_left (eqb b 45 || is_ascii_digit b) _ (or_right (eqb b 45) (is_ascii_digit b) e))) e

  size_on : (gs : List Frame) (p b : ℕ) → is_ascii_digit b ≡ true → step_place σ Size gs p b ≡ at Size gs
  unfolding step_place
  size_on gs p b e = rw e refl

  size_turn : (gs : List Frame) (q : ℕ) (rest : List ℕ) → no_word rest ≡ true → read_on σ (spot Size gs) q rest ≡ read_on σ (spot AfterSegment gs) q rest
  unfolding step_place
  size_turn gs q [] quiet = at_the_end σ (spot Size gs) q ∙ sym (at_the_end σ (spot AfterSegment gs) q)
  size_turn gs q (b ∷ rest) quiet = same_step σ Size AfterSegment gs gs q b rest (rw (no_word_no_digit b (not-true _ quiet)) refl)

  utf_0 : (gs : List Frame) (p : ℕ) → step_place σ UtfMark gs p 117 ≡ at (Utf 1) gs
  unfolding step_place step_between step_mark
  utf_0 gs p = refl

  utf_1 : (gs : List Frame) (p : ℕ) → step_place σ (Utf 1) gs p 116 ≡ at (Utf 2) gs
  unfolding step_place step_utf
  utf_1 gs p = refl

  utf_2 : (gs : List Frame) (p : ℕ) → step_place σ (Utf 2) gs p 102 ≡ at (Utf 3) gs
  unfolding step_place step_utf
  utf_2 gs p = refl

  utf_3 : (gs : List Frame) (p : ℕ) → step_place σ (Utf 3) gs p 56 ≡ at AfterSegment gs
  unfolding step_place step_utf
  utf_3 gs p = refl

  utf_leads : (gs : List Frame) → Leads σ (spot UtfMark gs) (codes "utf8") (spot AfterSegment gs) any
  utf_leads gs =
      leads_first σ UtfMark gs 117 (116 ∷ 102 ∷ 56 ∷ []) (spot (Utf 1) gs) (spot AfterSegment gs) any (utf_0 gs)
      (leads_first σ (Utf 1) gs 116 (102 ∷ 56 ∷ []) (spot (Utf 2) gs) (spot AfterSegment gs) any (utf_1 gs)
      (leads_first σ (Utf 2) gs 102 (56 ∷ []) (spot (Utf 3) gs) (spot AfterSegment gs) any (utf_2 gs) (leads_byte σ (Utf 3) gs 56 (spot AfterSegment gs) (utf_3 gs))))

  magnitude_is : (neg : Bool) (m n : ℕ) → signed neg m ≡ pos n → m ≡ n
  magnitude_is false m n e = cc
  magnitude_is true zero n e = cc
  magnitude_is true (suc m) n e = absurd (cc)

  byte_fits : (neg : Bool) (m n : ℕ) → signed neg m ≡ pos n → ltb n 256 ≡ true → is_byte neg m ≡ true
  byte_fits false m n e small = let same : m ≡ n = cc in ap (λ k. ltb k 256) same ∙ small
  byte_fits true zero n e small = refl
  byte_fits true (suc m) n e small = absurd (cc)

  byte_leads : (begun : Bool) (bytes : List ℕ) (sized_ : Bool) (text : List ℕ) (n : ℕ) → IsInteger text (pos n) → ltb n 256 ≡ true
      → Leads σ (spot Before (InBinary begun bytes sized_ ∷ fs)) text (spot (AfterByte n) (InBinary begun bytes sized_ ∷ fs)) no_word
  byte_leads begun bytes sized_ text n is small =
      let k = signed_of σ.rules (InBinary begun bytes sized_ ∷ fs) text (pos n) is in
      let same = magnitude_is k.negative k.magnitude n k.same in
      let fits = byte_fits k.negative k.magnitude n k.same small in
      integer_leads σ (InBinary begun bytes sized_ ∷ fs) Before text (pos n) no_word (spot (AfterByte n) (InBinary begun bytes sized_ ∷ fs)) (bin_integer begun bytes sized_) k fits
      (λ first q rest quiet. byte_turn begun bytes sized_ k.negative k.magnitude first q rest quiet ∙ ap (λ (m : ℕ). read_on σ (spot (AfterByte m) (InBinary begun bytes sized_ ∷ fs)) q rest) (byte_is k.negative k.magnitude fits ∙ same))

  text_leads : (begun : Bool) (bytes : List ℕ) (sized_ : Bool) (text cs : List ℕ) → Quoted 34 text cs → AreBelow σ.rules.mode ForSegment cs
      → Leads σ (spot Before (InBinary begun bytes sized_ ∷ fs)) text (spot (AfterText cs) (InBinary begun bytes sized_ ∷ fs)) any
  text_leads begun bytes sized_ text cs h below = quoted_leads σ (InBinary begun bytes sized_ ∷ fs) Before ForSegment text cs h below refl (bin_quote begun bytes sized_)

  -- behind a segment with a size
  sized_leads : (begun : Bool) (bytes : List ℕ) (sized_ : Bool) (number before behind digits : List ℕ) (n : ℕ) → is_listing σ.rules.mode ≡ true → IsInteger number (pos n) → ltb n 256 ≡ true
      → IsBlank before → IsBlank behind → are_digits digits ≡ true
      → Leads σ (spot Before (InBinary begun bytes sized_ ∷ fs)) (number ++ (before ++ 58 ∷ (behind ++ digits))) (spot AfterSegment (InBinary true bytes true ∷ fs)) no_word
  sized_leads begun bytes sized_ number before behind digits n listing is small a b are =
      let gs : List Frame = InBinary begun bytes sized_ ∷ fs in
      let hs : List Frame = InBinary true bytes true ∷ fs in
      leads_then σ (spot Before gs) (spot (AfterByte n) gs) (spot AfterSegment hs) number (before ++ 58 ∷ (behind ++ digits)) no_word no_word (byte_leads begun bytes sized_ number n is small)
      (leads_then σ (spot (AfterByte n) gs) (spot (AfterByte n) gs) (spot AfterSegment hs) before (58 ∷ (behind ++ digits)) any no_word (blank_leads σ (AfterByte n) gs (between_byte n gs) before a)
      (leads_first σ (AfterByte n) gs 58 (behind ++ digits) (spot SizeMark hs) (spot AfterSegment hs) no_word (λ p. size_step begun bytes sized_ n p listing)
      (leads_then σ (spot SizeMark hs) (spot SizeMark hs) (spot AfterSegment hs) behind digits any no_word (blank_leads σ SizeMark hs (between_size hs) behind b)
      (leads_turn σ (spot SizeMark hs) (spot Size hs) (spot AfterSegment hs) digits no_word (digits_from σ SizeMark Size hs (size_first hs) (size_on hs) digits are) (size_turn hs))
      (λ rest q. refl)))
      (λ rest q. refl))
      (λ rest q. subst (λ (w : List ℕ). no_word w ≡ true) (sym (append_assoc before (58 ∷ (behind ++ digits)) rest)) (blank_quiet before (58 ∷ ((behind ++ digits) ++ rest)) a refl))

  utf8_leads : (begun : Bool) (bytes : List ℕ) (sized_ : Bool) (quoted cs before behind : List ℕ) → σ.rules.mode ≡ Listing → Quoted 34 quoted cs → IsBlank before → IsBlank behind
      → Leads σ (spot Before (InBinary begun bytes sized_ ∷ fs)) (quoted ++ (before ++ 47 ∷ (behind ++ codes "utf8"))) (spot AfterSegment (InBinary true (bytes ++ encode_utf8_all cs) sized_ ∷ fs)) any
  utf8_leads begun bytes sized_ quoted cs before behind listing h a b =
      let gs : List Frame = InBinary begun bytes sized_ ∷ fs in
      let hs : List Frame = InBinary true (bytes ++ encode_utf8_all cs) sized_ ∷ fs in
      let scalars = scalars_of 34 h.inside cs h.characters in
      leads_then σ (spot Before gs) (spot (AfterText cs) gs) (spot AfterSegment hs) quoted (before ++ 47 ∷ (behind ++ codes "utf8")) any any (text_leads begun bytes sized_ quoted cs h (below_listing σ.rules.mode cs listing scalars))
      (leads_then σ (spot (AfterText cs) gs) (spot (AfterText cs) gs) (spot AfterSegment hs) before (47 ∷ (behind ++ codes "utf8")) any any (blank_leads σ (AfterText cs) gs (between_text cs gs) before a)
      (leads_first σ (AfterText cs) gs 47 (behind ++ codes "utf8") (spot UtfMark hs) (spot AfterSegment hs) any (λ p. utf_step begun bytes sized_ cs p (ap is_listing listing) (all_are cs scalars))
      (leads_then σ (spot UtfMark hs) (spot UtfMark hs) (spot AfterSegment hs) behind (codes "utf8") any any (blank_leads σ UtfMark hs (between_utf hs) behind b) (utf_leads hs) (λ rest q. refl)))
      (λ rest q. refl))
      (λ rest q. refl)

  record SegmentLeads (text : List ℕ) (s : Option (List ℕ)) (begun : Bool) (bytes : List ℕ) (sized_ : Bool) : Type 0 where
    place : Place
    frame : Frame
    between : IsBetween σ place (frame ∷ fs)
    leads : Leads σ (spot Before (InBinary begun bytes sized_ ∷ fs)) text (spot place (frame ∷ fs)) no_word
    next : (p c : ℕ) → is_space c ≡ false → eqb c 37 ≡ false → eqb c 58 ≡ false → eqb c 47 ≡ false
        → step_place σ place (frame ∷ fs) p c ≡ next_segment (grown_bytes bytes s) (grown_sized sized_ s) fs c

  segment_leads : (text : List ℕ) (s : Option (List ℕ)) (begun : Bool) (bytes : List ℕ) (sized_ : Bool) → SpellsSegment σ.rules text s → SegmentLeads text s begun bytes sized_
  segment_leads text s begun bytes sized_ (one_byte t n is small) = record {
    place = AfterByte n;
    frame = InBinary begun bytes sized_;
    between = between_byte n (InBinary begun bytes sized_ ∷ fs);
    leads = byte_leads begun bytes sized_ text n is small;
    next = λ p c e f g h. byte_next begun bytes sized_ n p c e f g;
  }
  segment_leads text s begun bytes sized_ (latin_text t cs quoted latin) = record {
    place = AfterText cs;
    frame = InBinary begun bytes sized_;
    between = between_text cs (InBinary begun bytes sized_ ∷ fs);
    leads = λ p rest q. text_leads begun bytes sized_ text cs quoted (below_segment σ.rules.mode cs latin) p rest refl;
    next = λ p c e f g h. text_next begun bytes sized_ cs p c e f h latin;
  }
  segment_leads text s begun bytes sized_ (sized t number before behind digits n listing is small a b are parts) = record {
    place = AfterSegment;
    frame = InBinary true bytes true;
    between = between_segment (InBinary true bytes true ∷ fs);
    leads = subst (λ (w : List ℕ). Leads σ (spot Before (InBinary begun bytes sized_ ∷ fs)) w (spot AfterSegment (InBinary true bytes true ∷ fs)) no_word) (sym parts)
        (sized_leads begun bytes sized_ number before behind digits n (ap is_listing listing) is small a b are);
    next = λ p c e f g h. segment_next bytes true p c e f;
  }
  segment_leads text s begun bytes sized_ (utf8_text t quoted cs before behind listing q a b parts) = record {
    place = AfterSegment;
    frame = InBinary true (bytes ++ encode_utf8_all cs) sized_;
    between = between_segment (InBinary true (bytes ++ encode_utf8_all cs) sized_ ∷ fs);
    leads = λ p rest k. subst (λ (w : List ℕ). Leads σ (spot Before (InBinary begun bytes sized_ ∷ fs)) w (spot AfterSegment (InBinary true (bytes ++ encode_utf8_all cs) sized_ ∷ fs)) any) (sym parts)
        (utf8_leads begun bytes sized_ quoted cs before behind listing q a b) p rest refl;
    next = λ p c e f g h. segment_next (bytes ++ encode_utf8_all cs) sized_ p c e f;
  }

  wide_segment : (text : List ℕ) (s : Option (List ℕ)) (begun : Bool) (bytes : List ℕ) (sized_ : Bool) → Wide (SpellsSegment σ.rules) text s → SegmentLeads text s begun bytes sized_
  wide_segment text s begun bytes sized_ w =
      let gs : List Frame = InBinary begun bytes sized_ ∷ fs in
      let k = segment_leads w.inside s begun bytes sized_ w.stands in
      record {
        place = k.place;
        frame = k.frame;
        between = k.between;
        next = k.next;
        leads = subst (λ (t : List ℕ). Leads σ (spot Before (InBinary begun bytes sized_ ∷ fs)) t (spot k.place (k.frame ∷ fs)) no_word) (sym w.parts)
            (leads_then σ (spot Before gs) (spot Before gs) (spot k.place (k.frame ∷ fs)) w.before (w.inside ++ w.behind) any no_word (blank_leads σ Before gs (between_before σ gs) w.before w.blank_before)
            (leads_then σ (spot Before gs) (spot k.place (k.frame ∷ fs)) (spot k.place (k.frame ∷ fs)) w.inside w.behind no_word no_word k.leads
            (λ p rest q. blank_leads σ k.place (k.frame ∷ fs) k.between w.behind w.blank_behind p rest refl) (λ rest q. blank_quiet w.behind rest w.blank_behind q))
            (λ rest q. refl));
      }

  -- a segment and the byte behind it
  then_byte : (text : List ℕ) (s : Option (List ℕ)) (begun : Bool) (bytes : List ℕ) (sized_ : Bool) (c : ℕ) (later : State) → SegmentLeads text s begun bytes sized_ → is_space c ≡ false → eqb c 37 ≡ false → eqb c 58 ≡ false → eqb c 47 ≡ false
      → is_word_byte c ≡ false → next_segment (grown_bytes bytes s) (grown_sized sized_ s) fs c ≡ Go later → Leads σ (spot Before (InBinary begun bytes sized_ ∷ fs)) (text ++ c ∷ []) later any
  then_byte text s begun bytes sized_ c later k e f g h quiet goes =
      leads_then σ (spot Before (InBinary begun bytes sized_ ∷ fs)) (spot k.place (k.frame ∷ fs)) later text (c ∷ []) no_word any k.leads
      (leads_byte σ k.place (k.frame ∷ fs) c later (λ p. k.next p c e f g h ∙ goes)) (λ rest q. ap not quiet)

  binary_commas : (inside : List ℕ) (segments : List (Option (List ℕ))) → Commas (Wide (SpellsSegment σ.rules)) inside segments → (begun : Bool) (bytes : List ℕ) (sized_ : Bool)
      → Leads σ (spot Before (InBinary begun bytes sized_ ∷ fs)) (inside ++ 62 ∷ []) (spot Close (InBinary true (run_bytes bytes segments) (run_sized sized_ segments) ∷ fs)) any
  binary_commas inside segments (last text s w) begun bytes sized_ =
      then_byte inside s begun bytes sized_ 62 (spot Close (InBinary true (grown_bytes bytes s) (grown_sized sized_ s) ∷ fs)) (wide_segment inside s begun bytes sized_ w) refl refl refl refl refl refl
  binary_commas inside segments (then_more text first rest s others w more parts) begun bytes sized_ =
      let target : State = spot Close (InBinary true (run_bytes (grown_bytes bytes s) others) (run_sized (grown_sized sized_ s) others) ∷ fs) in
      let next : State = spot Before (InBinary true (grown_bytes bytes s) (grown_sized sized_ s) ∷ fs) in
      subst (λ (t : List ℕ). Leads σ (spot Before (InBinary begun bytes sized_ ∷ fs)) t (spot Close (InBinary true (run_bytes (grown_bytes bytes s) others) (run_sized (grown_sized sized_ s) others) ∷ fs)) any)
      (append_assoc first (44 ∷ []) (rest ++ 62 ∷ []) ∙ (sym (append_assoc first (44 ∷ rest) (62 ∷ [])) ∙ ap (λ (t : List ℕ). t ++ 62 ∷ []) (sym parts)))
      (leads_then σ (spot Before (InBinary begun bytes sized_ ∷ fs)) next target (first ++ 44 ∷ []) (rest ++ 62 ∷ []) any any
      (then_byte first s begun bytes sized_ 44 next (wide_segment first s begun bytes sized_ w) refl refl refl refl refl refl)
      (binary_commas rest others more true (grown_bytes bytes s) (grown_sized sized_ s)) (λ after_ q. refl))

  pub angle_step : (p : ℕ) → step_place σ Angle fs p 60 ≡ at Before (InBinary false [] false ∷ fs)
  unfolding step_place
  angle_step p = refl

  close_step : (begun : Bool) (bytes : List ℕ) (sized_ : Bool) (p : ℕ) → step_place σ Close (InBinary begun bytes sized_ ∷ fs) p 62 ≡ at (After (binary_term bytes sized_)) fs
  unfolding step_place step_close
  close_step begun bytes sized_ p = refl

  empty_step : (p : ℕ) → step_place σ Before (InBinary false [] false ∷ fs) p 62 ≡ at Close (InBinary false [] false ∷ fs)
  unfolding step_place step_between step_mark step_before
  empty_step p = refl

  pub inside_leads : (inside : List ℕ) (segments : List (Option (List ℕ))) → Elements (SpellsSegment σ.rules) inside segments
      → Leads σ (spot Before (InBinary false [] false ∷ fs)) (inside ++ 62 ∷ 62 ∷ []) (spot (After (binary_of segments)) fs) any
  inside_leads inside segments (inl (blank, none)) =
      subst (λ (ss : List (Option (List ℕ))). Leads σ (spot Before (InBinary false [] false ∷ fs)) (inside ++ 62 ∷ 62 ∷ []) (spot (After (binary_of ss)) fs) any) (sym none)
      (leads_then σ (spot Before (InBinary false [] false ∷ fs)) (spot Before (InBinary false [] false ∷ fs)) (spot (After (tree.Bin [])) fs) inside (62 ∷ 62 ∷ []) any any
      (blank_leads σ Before (InBinary false [] false ∷ fs) (between_before σ (InBinary false [] false ∷ fs)) inside blank)
      (leads_first σ Before (InBinary false [] false ∷ fs) 62 (62 ∷ []) (spot Close (InBinary false [] false ∷ fs)) (spot (After (tree.Bin [])) fs) any empty_step
      (leads_byte σ Close (InBinary false [] false ∷ fs) 62 (spot (After (tree.Bin [])) fs) (close_step false [] false)))
      (λ rest q. refl))
  inside_leads inside segments (inr commas) =
      let bytes : List ℕ = run_bytes [] segments in
      let sized_ : Bool = run_sized false segments in
      subst (λ (t : TermTree). Leads σ (spot Before (InBinary false [] false ∷ fs)) (inside ++ 62 ∷ 62 ∷ []) (spot (After t) fs) any) (joined segments)
      (subst (λ (t : List ℕ). Leads σ (spot Before (InBinary false [] false ∷ fs)) t (spot (After (binary_term (run_bytes [] segments) (run_sized false segments))) fs) any) (append_assoc inside (62 ∷ []) (62 ∷ []))
      (leads_then σ (spot Before (InBinary false [] false ∷ fs)) (spot Close (InBinary true bytes sized_ ∷ fs)) (spot (After (binary_term bytes sized_)) fs) (inside ++ 62 ∷ []) (62 ∷ []) any any
      (binary_commas inside segments commas false [] false)
      (leads_byte σ Close (InBinary true bytes sized_ ∷ fs) 62 (spot (After (binary_term bytes sized_)) fs) (close_step true bytes sized_)) (λ rest q. refl)))

  -- ---- a term without levels

  module _ (ready : TakesTerm fs) (takes : takes_name fs ≡ false) (begins : Begins σ fs) where
    pub int_begins : (p b : ℕ) → (eqb b 45 || is_ascii_digit b) ≡ true → step_place σ Before fs p b ≡ begin_integer σ.rules fs p b
    int_begins p b sure = begins p b (or_left _ _ sure) ∙ begins_integer σ fs p b sure

    pub name_begins : (p b : ℕ) → (is_ascii_lowercase b || eqb b 39) ≡ true → step_place σ Before fs p b ≡ begin_name fs b
    name_begins p b sure = begins p b (or_right _ _ (or_left _ _ sure)) ∙ begins_name σ fs p b (no_integer (eqb b 45 || is_ascii_digit b) refl) sure
      where
        no_integer : (t : Bool) → (eqb b 45 || is_ascii_digit b) ≡ t → (eqb b 45 || is_ascii_digit b) ≡ false
        no_integer false e = e
        no_integer true e = absurd (clash (or_cases (eqb b 45) (is_ascii_digit b) e) (or_cases (is_ascii_lowercase b) (eqb b 39) sure))
          where
            at_ : (k : ℕ) → eqb b k ≡ true → (is_ascii_lowercase k || eqb k 39) ≡ true
            at_ k f = subst (λ (x : ℕ). (is_ascii_lowercase x || eqb x 39) ≡ true) (eqb-true b k f) sure

            clash : (eqb b 45 ≡ true) ⊎ (is_ascii_digit b ≡ true) → (is_ascii_lowercase b ≡ true) ⊎ (eqb b 39 ≡ true) → ⊥
            clash (inl f) g = let no : false ≡ true = at_ 45 f in cc
            clash (inr f) (inl g) = both_classes b f g
            clash (inr f) (inr g) = let no : false ≡ true = subst (λ (x : ℕ). is_ascii_digit x ≡ true) (eqb-true b 39 g) f in cc
