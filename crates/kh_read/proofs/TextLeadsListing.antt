-- What a listing has more is read as it is spelled: floats, and functions by module, name and arity.
use Rattle.std.proofs.Common.{◌≡◌, ◌≤◌, ◌<◌, ℕ, zero, suc, ◌+◌, Bool, true, false, not, ◌&&◌, ◌||◌, cond, eqb, List, [], ◌∷◌, ◌++◌, length, inl, inr, refl, sym, ap, subst, ◌∙◌, arith, append_assoc, ℤ}
use Rattle.std.specs.Prelude.{◌⊎◌, codes}
use Rattle.std.specs.Char.{is_ascii_digit, is_ascii_lowercase}
use Rattle.std.specs.List.{list_all}
use Rattle.std.specs.Str.{bytes_eq}
use Rattle.std.proofs.lemmas.Bool.{eqb-true, and_parts, not-true, or_left, or_right}
use Rattle.std.proofs.lemmas.Bool.Decides.{nat_tests}
use Rattle.kh_term.specs.declared.tree.TermTree.{TermTree}
use Rattle.kh_term.specs.declared.tree.TermTree.TheVariants as tree
use Rattle.kh_text_defs.specs.declared.mode.Mode.{Mode}
use Rattle.kh_text_defs.specs.declared.mode.Mode.TheVariants.{Listing}
use Rattle.kh_text_defs.specs.Atoms.{is_word_byte, is_plain_word}
use Rattle.kh_text_defs.specs.Blanks.{IsBlank, Wide}
use Rattle.kh_text_defs.specs.Spelled.{Rules, allows, SpellsInteger, unsupported, is_exponent_mark, is_sign, IsExponent, begins_no_word}
use Rattle.kh_text_defs.specs.Tokens.{are_digits, SpellsAtom}
use Rattle.kh_read.specs.State.{Frame, InReference, InReferenceName, Place, Before, After, AfterName, Digits, Word, Point, Fraction, Mark, Signed, Exponent, Fun, CountMark, Count, State, Setting, Step, Go, Reading}
use Rattle.kh_read.specs.Steps.{at, is_listing, signed, is_byte, takes_segment, takes_arity, takes_name, takes_fraction, fits_here, begin_name, begin_integer, step_place, read_on}
use Rattle.kh_read.proofs.TextCore.{spot, byte_goes, same_step, at_the_end}
use Rattle.kh_read.proofs.TextReads.{any}
use Rattle.kh_read.proofs.TextWords.{no_word}
use Rattle.kh_read.proofs.TextFloats.{TakesTerm, exponent_on, exponent_off, signed_on, mark_sign, mark_digit, fraction_mark, fraction_on, fraction_off, digits_point, point_digit}
use Rattle.kh_read.proofs.TextBrackets.{between_before}
use Rattle.kh_read.proofs.TextClosures.{between_name}
use Rattle.kh_read.proofs.TextReferences.{count_on, count_off, between_count, count_step, first_begins, second_begins, behind_module, behind_function, between_fun, fun_module, fun_off}
use Rattle.kh_read.proofs.TextLeads.{Leads, leads_first, leads_nothing, leads_then, blank_leads, blank_quiet, wide_leads_to, digits_from, word_leads}
use Rattle.kh_read.proofs.TextLeadsFlat.{leads_turn, no_word_no_digit, IsSigned, signed_of, integer_leads, name_leads}
use Rattle.kh_read.proofs.TextLeadsBinaries.{starts_mark}

-- ---- floats

digit_no_mark : (b : ℕ) → is_ascii_digit b ≡ true → is_exponent_mark b ≡ false
digit_no_mark b h = grind (arith, nat_tests)

digit_no_sign : (b : ℕ) → is_ascii_digit b ≡ true → is_sign b ≡ false
digit_no_sign b h = grind (arith, nat_tests)

no_word_no_mark : (b : ℕ) → is_word_byte b ≡ false → is_exponent_mark b ≡ false
no_word_no_mark b h = grind (arith, nat_tests)

-- a dot comes
abbrev begins_dot : List ℕ → Bool
begins_dot [] = false
begins_dot (b ∷ rest) = eqb b 46

module _ (σ : Setting) (fs : List Frame) where
  exponent_turn : (q : ℕ) (rest : List ℕ) → no_word rest ≡ true → read_on σ (spot Exponent fs) q rest ≡ read_on σ (spot (After unsupported) fs) q rest
  exponent_turn q [] quiet = at_the_end σ (spot Exponent fs) q ∙ sym (at_the_end σ (spot (After unsupported) fs) q)
  exponent_turn q (b ∷ rest) quiet = same_step σ Exponent (After unsupported) fs fs q b rest (exponent_off σ fs q b (no_word_no_digit b (not-true _ quiet)))

  fraction_turn : (q : ℕ) (rest : List ℕ) → no_word rest ≡ true → read_on σ (spot Fraction fs) q rest ≡ read_on σ (spot (After unsupported) fs) q rest
  fraction_turn q [] quiet = at_the_end σ (spot Fraction fs) q ∙ sym (at_the_end σ (spot (After unsupported) fs) q)
  fraction_turn q (b ∷ rest) quiet =
      same_step σ Fraction (After unsupported) fs fs q b rest (fraction_off σ fs q b (no_word_no_mark b (not-true _ quiet)) (no_word_no_digit b (not-true _ quiet)))

  exponent_leads : (text : List ℕ) → IsExponent text → Leads σ (spot Fraction fs) text (spot (After unsupported) fs) no_word
  exponent_leads text (inl none) = subst (λ (w : List ℕ). Leads σ (spot Fraction fs) w (spot (After unsupported) fs) no_word) (sym none) (leads_nothing σ (spot Fraction fs) (spot (After unsupported) fs) no_word fraction_turn)
  exponent_leads text (inr (mark, digits, is, are, inl parts)) =
      subst (λ (w : List ℕ). Leads σ (spot Fraction fs) w (spot (After unsupported) fs) no_word) (sym parts)
      (leads_first σ Fraction fs mark digits (spot Mark fs) (spot (After unsupported) fs) no_word (λ p. fraction_mark σ fs p mark is)
      (leads_turn σ (spot Mark fs) (spot Exponent fs) (spot (After unsupported) fs) digits no_word
      (digits_from σ Mark Exponent fs (λ p b e. mark_digit σ fs p b (digit_no_sign b e) e) (exponent_on σ fs) digits are) exponent_turn))
  exponent_leads text (inr (mark, digits, is, are, inr (sign, minus, parts))) =
      subst (λ (w : List ℕ). Leads σ (spot Fraction fs) w (spot (After unsupported) fs) no_word) (sym parts)
      (leads_first σ Fraction fs mark (sign ∷ digits) (spot Mark fs) (spot (After unsupported) fs) no_word (λ p. fraction_mark σ fs p mark is)
      (leads_first σ Mark fs sign digits (spot Signed fs) (spot (After unsupported) fs) no_word (λ p. mark_sign σ fs p sign minus)
      (leads_turn σ (spot Signed fs) (spot Exponent fs) (spot (After unsupported) fs) digits no_word
      (digits_from σ Signed Exponent fs (signed_on σ fs) (exponent_on σ fs) digits are) exponent_turn)))

  module _ (takes : TakesTerm fs) (listing : is_listing σ.rules.mode ≡ true) where
    fraction_may : takes_fraction σ.rules fs ≡ true
    fraction_may = λ i. listing i && not (takes.segment i) && not (takes.arity i)

    dot_turn : (neg : Bool) (n first q : ℕ) (rest : List ℕ) → begins_dot rest ≡ true → read_on σ (spot (Digits first neg n) fs) q rest ≡ read_on σ (spot (Digits 0 neg n) fs) q rest
    dot_turn neg n first q [] dot = absurd (let clash : false ≡ true = dot in cc)
    dot_turn neg n first q (b ∷ rest) dot =
        let no_digit : is_ascii_digit b ≡ false = subst (λ (k : ℕ). is_ascii_digit k ≡ false) (sym (eqb-true b 46 dot)) refl in
        let may : (eqb b 46 && takes_fraction σ.rules fs) ≡ true = λ i. dot i && fraction_may i in
        byte_goes σ (Digits first neg n) fs q b rest _ (digits_point σ fs takes first q b (neg, n) no_digit may)
        ∙ sym (byte_goes σ (Digits 0 neg n) fs q b rest _ (digits_point σ fs takes 0 q b (neg, n) no_digit may))

    pub float_leads : (here : Place) (whole fraction exponent : List ℕ) (z : ℤ) → ((p b : ℕ) → (eqb b 45 || is_ascii_digit b) ≡ true → step_place σ here fs p b ≡ begin_integer σ.rules fs p b)
        → SpellsInteger σ.rules whole z → are_digits fraction ≡ true → IsExponent exponent → Leads σ (spot here fs) (whole ++ 46 ∷ (fraction ++ exponent)) (spot (After unsupported) fs) no_word
    float_leads here whole fraction exponent z begins h are e =
        let k = signed_of σ.rules fs whole z h.0 in
        let fits : fits_here σ.rules fs k.negative k.magnitude ≡ true = (λ i. cond (takes.segment i) (is_byte k.negative k.magnitude) (allows σ.rules (k.same i))) ∙ h.1 in
        let digits : State = spot (Digits 0 k.negative k.magnitude) fs in
        let point : Place = Point (signed k.negative k.magnitude) in
        leads_then σ (spot here fs) digits (spot (After unsupported) fs) whole (46 ∷ (fraction ++ exponent)) begins_dot no_word
        (integer_leads σ fs here whole z begins_dot digits begins k fits (dot_turn k.negative k.magnitude))
        (leads_first σ (Digits 0 k.negative k.magnitude) fs 46 (fraction ++ exponent) (spot point fs) (spot (After unsupported) fs) no_word
        (λ p. digits_point σ fs takes 0 p 46 (k.negative, k.magnitude) refl fraction_may)
        (leads_then σ (spot point fs) (spot Fraction fs) (spot (After unsupported) fs) fraction exponent any no_word
        (digits_from σ point Fraction fs (λ p b d. point_digit σ fs takes fs (signed k.negative k.magnitude) p b d) (λ p b d. fraction_on σ fs p b (digit_no_mark b d) d) fraction are)
        (exponent_leads exponent e) (λ rest q. refl)))
        (λ rest q. refl)

-- ---- functions by module, name and arity

record NameFirst (text : List ℕ) : Type 0 where
  first : ℕ
  others : List ℕ
  parts : text ≡ first ∷ others
  is : (is_ascii_lowercase first || eqb first 39) ≡ true

name_first : (text name : List ℕ) → SpellsAtom text name → NameFirst text
name_first text name (inl h, short) = go name h.0 h.1
  where
    go : (w : List ℕ) → text ≡ w → is_plain_word w ≡ true → NameFirst text
    go [] same plain = absurd (let clash : false ≡ true = plain in cc)
    go (b ∷ others) same plain = record { first = b; others = others; parts = same; is = or_left (is_ascii_lowercase b) (eqb b 39) (and_parts (is_ascii_lowercase b) (list_all is_word_byte others) plain).0 }
name_first text name (inr h, short) = record { first = 39; others = h.1.inside ++ 39 ∷ []; parts = h.1.parts; is = refl }

module _ (σ : Setting) (fs : List Frame) where
  fun_turn : (q : ℕ) (rest : List ℕ) → takes_name fs ≡ false → is_listing σ.rules.mode ≡ true → no_word rest ≡ true → read_on σ (spot (Word (codes "fun")) fs) q rest ≡ read_on σ (spot Fun fs) q rest
  fun_turn q [] takes listing quiet = at_the_end σ (spot (Word (codes "fun")) fs) q ∙ sym (at_the_end σ (spot Fun fs) q)
  fun_turn q (b ∷ rest) takes listing quiet =
      same_step σ (Word (codes "fun")) Fun fs fs q b rest (fun_off σ fs (codes "fun") q b takes (ap (λ (l : Bool). l && bytes_eq (codes "fun") (codes "fun")) listing) (not-true _ quiet))

  word_fun : (here : Place) → takes_name fs ≡ false → is_listing σ.rules.mode ≡ true → ((p b : ℕ) → (is_ascii_lowercase b || eqb b 39) ≡ true → step_place σ here fs p b ≡ begin_name fs b)
      → Leads σ (spot here fs) (codes "fun") (spot Fun fs) no_word
  word_fun here takes listing begins =
      leads_first σ here fs 102 (117 ∷ 110 ∷ []) (spot (Word (102 ∷ [])) fs) (spot Fun fs) no_word (λ p. begins p 102 refl)
      (leads_turn σ (spot (Word (102 ∷ [])) fs) (spot (Word (codes "fun")) fs) (spot Fun fs) (117 ∷ 110 ∷ []) no_word
      (word_leads σ fs (117 ∷ 110 ∷ []) (102 ∷ []) refl (omega arith)) (λ q rest quiet. fun_turn q rest takes listing quiet))

  -- the module's name, from its first byte
  module_core : (m u : List ℕ) → SpellsAtom u m → Leads σ (spot Fun fs) u (spot (AfterName m) (InReference ∷ fs)) no_word
  module_core m u h p rest quiet =
      let k = name_first u m h in
      let mark = starts_mark k.first (or_right _ _ (or_left _ _ k.is)) in
      ap (λ (w : List ℕ). read_on σ (spot Fun fs) p (w ++ rest)) k.parts
      ∙ (same_step σ Fun Before fs (InReference ∷ fs) p k.first (k.others ++ rest) (fun_module σ fs p k.first mark k.is)
      ∙ (ap (λ (w : List ℕ). read_on σ (spot Before (InReference ∷ fs)) p (w ++ rest)) (sym k.parts)
      ∙ name_leads σ (InReference ∷ fs) Before u m refl (λ q b e. first_begins σ fs q b (starts_mark b (or_right _ _ (or_left _ _ e)))) h p rest quiet))

  module_leads : (home m : List ℕ) → Wide SpellsAtom home m → Leads σ (spot Fun fs) home (spot (AfterName m) (InReference ∷ fs)) no_word
  module_leads home m w =
      wide_leads_to σ SpellsAtom Fun fs AfterName (λ n. InReference ∷ fs) home m no_word blank_quiet (between_fun σ fs) (between_name σ m (InReference ∷ fs)) (λ u h. module_core m u h) w

  function_leads : (name f : List ℕ) → Wide SpellsAtom name f → Leads σ (spot Before (InReferenceName ∷ fs)) name (spot (AfterName f) (InReferenceName ∷ fs)) no_word
  function_leads name f w =
      wide_leads_to σ SpellsAtom Before (InReferenceName ∷ fs) AfterName (λ n. InReferenceName ∷ fs) name f no_word blank_quiet (between_before σ (InReferenceName ∷ fs)) (between_name σ f (InReferenceName ∷ fs))
      (λ u h. name_leads σ (InReferenceName ∷ fs) Before u f refl (λ q b e. second_begins σ fs q b (starts_mark b (or_right _ _ (or_left _ _ e)))) h) w

  count_first : (p b : ℕ) → is_ascii_digit b ≡ true → step_place σ CountMark fs p b ≡ at Count fs
  count_first p b e = count_step σ fs p b (starts_mark b (or_left _ _ (or_right (eqb b 45) (is_ascii_digit b) e))) ∙ rw e refl

  count_turn : (q : ℕ) (rest : List ℕ) → no_word rest ≡ true → read_on σ (spot Count fs) q rest ≡ read_on σ (spot (After unsupported) fs) q rest
  count_turn q [] quiet = at_the_end σ (spot Count fs) q ∙ sym (at_the_end σ (spot (After unsupported) fs) q)
  count_turn q (b ∷ rest) quiet = same_step σ Count (After unsupported) fs fs q b rest (count_off σ fs q b (no_word_no_digit b (not-true _ quiet)))

  home_quiet : (home rest : List ℕ) → begins_no_word home ≡ true → no_word (home ++ 58 ∷ rest) ≡ true
  home_quiet [] rest q = refl
  home_quiet (b ∷ home) rest q = q

  pub reference_leads : (here : Place) (home name gap digits m f : List ℕ) → takes_name fs ≡ false → is_listing σ.rules.mode ≡ true
      → ((p b : ℕ) → (is_ascii_lowercase b || eqb b 39) ≡ true → step_place σ here fs p b ≡ begin_name fs b) → Wide SpellsAtom home m → Wide SpellsAtom name f → IsBlank gap → are_digits digits ≡ true
      → begins_no_word home ≡ true → Leads σ (spot here fs) (codes "fun" ++ (home ++ 58 ∷ (name ++ 47 ∷ (gap ++ digits)))) (spot (After unsupported) fs) no_word
  reference_leads here home name gap digits m f takes listing begins wm wf blank are front =
      let target : State = spot (After unsupported) fs in
      let t3 = gap ++ digits in
      let t2 = name ++ 47 ∷ t3 in
      let t1 = home ++ 58 ∷ t2 in
      leads_then σ (spot here fs) (spot Fun fs) target (codes "fun") t1 no_word no_word (word_fun here takes listing begins)
      (leads_then σ (spot Fun fs) (spot (AfterName m) (InReference ∷ fs)) target home (58 ∷ t2) no_word no_word (module_leads home m wm)
      (leads_first σ (AfterName m) (InReference ∷ fs) 58 t2 (spot Before (InReferenceName ∷ fs)) target no_word (λ p. behind_module σ fs m p 58 refl)
      (leads_then σ (spot Before (InReferenceName ∷ fs)) (spot (AfterName f) (InReferenceName ∷ fs)) target name (47 ∷ t3) no_word no_word (function_leads name f wf)
      (leads_first σ (AfterName f) (InReferenceName ∷ fs) 47 t3 (spot CountMark fs) target no_word (λ p. behind_function σ fs f p 47 refl)
      (leads_then σ (spot CountMark fs) (spot CountMark fs) target gap digits any no_word (blank_leads σ CountMark fs (between_count σ fs) gap blank)
      (leads_turn σ (spot CountMark fs) (spot Count fs) target digits no_word (digits_from σ CountMark Count fs count_first (count_on σ fs) digits are) count_turn) (λ rest q. refl)))
      (λ rest q. refl)))
      (λ rest q. refl))
      (λ rest q. subst (λ (w : List ℕ). no_word w ≡ true) (sym (append_assoc home (58 ∷ t2) rest)) (home_quiet home (t2 ++ rest) front))
