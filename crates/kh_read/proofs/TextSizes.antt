-- A term that is too large: where its form begins.
use Rattle.std.proofs.Common.{◌≡◌, ◌≤◌, ◌<◌, ℕ, zero, suc, ◌+◌, Bool, true, false, not, ◌&&◌, ◌||◌, eqb, ltb, List, [], ◌∷◌, ◌++◌, length, take, drop, inl, inr, refl, sym, ap, subst, ◌∙◌, arith, append_assoc, IsTrue, ℤ, codes}
use Rattle.std.specs.Prelude.{◌⊎◌}
use Rattle.std.specs.Char.{is_ascii_digit, is_ascii_lowercase}
use Rattle.std.specs.Str.{bytes_eq}
use Rattle.std.proofs.Math.Seq.{take-append_seam, drop-append_seam}
use Rattle.std.proofs.lemmas.Bool.{and_parts, ltb-true, not_from_false, or_cases}
use Rattle.std.proofs.lemmas.List.{append-nil, length-append}
use Rattle.std.proofs.lemmas.Slice.Eq.{bytes_eq-Decides}
use Rattle.kh_term.specs.declared.tree.TermTree.{TermTree}
use Rattle.kh_term.specs.Size.{size_of}
use Rattle.kh_text_defs.specs.declared.mode.Mode.{Mode}
use Rattle.kh_text_defs.specs.Atoms.{is_word_byte, is_plain_word}
use Rattle.kh_text_defs.specs.Blanks.{is_space, IsBlank, no_blank, Wide, begins_no_blank}
use Rattle.kh_text_defs.specs.Faults.{max_levels, max_size, SizeFaultAt}
use Rattle.kh_text_defs.specs.Spelled.{Rules, is_begun_sharp, SpellsFlat, integer, atom, binary, float, reference, begun_sharp, SpellsDeep, list, list_and_tail, points, tuple, map_text, closure, Spells, IsForm}
use Rattle.kh_text_defs.specs.Tokens.{are_digits, IsInteger, Quoted, SpellsAtom}
use Rattle.kh_read.specs.State.{Frame, Place, Dotted, State, Setting, Halt, Syntax, Number, Deep, Large, Step, Go, Stop, Reading, Ended, Cut, Halted}
use Rattle.kh_read.specs.Steps.{at, step, at_end, read_on, fresh}
use Rattle.kh_read.proofs.TextCore.{at_the_end, is_blank_byte}
use Rattle.kh_read.proofs.TextReads.{Reads, whole, part, halted, any}
use Rattle.kh_read.proofs.TextForms.{dotted, forms}
use Rattle.kh_read.proofs.TextLeadsBinaries.{starts_term, starts_mark}
use Rattle.kh_read.proofs.TextTrace.{Path, goes}
use Rattle.kh_read.proofs.TextWider.{make, Agrees, same, number, level, large, step_agrees, wider_path}
use Rattle.kh_read.proofs.TextLimits.{Limits, step_limits}
use Rattle.kh_read.proofs.TextAnswers.{within}
use Rattle.kh_read.proofs.TextExact.{Behind, may, may_not, behind, ended_end, ended_term}
use Rattle.kh_read.proofs.TextFaults.{longer_path}

-- ---- what is spelled begins with no blank

record Starts (text : List ℕ) : Type 0 where
  first : ℕ
  others : List ℕ
  parts : text ≡ first ∷ others
  mark : is_blank_byte first ≡ false

starts_by : (text : List ℕ) (b : ℕ) (others : List ℕ) → text ≡ b ∷ others → starts_term b ≡ true → Starts text
starts_by text b others parts sure = record { first = b; others = others; parts = parts; mark = starts_mark b sure }

digit_starts : (b : ℕ) → is_ascii_digit b ≡ true → starts_term b ≡ true
digit_starts b is = go (eqb b 45) (is_ascii_digit b) is
  where
    go : (minus digit : Bool) → digit ≡ true → ((minus || digit) || ((is_ascii_lowercase b || eqb b 39) || (eqb b 91 || (eqb b 123 || (eqb b 34 || (eqb b 60 || eqb b 35)))))) ≡ true
    go true digit e = refl
    go false true e = refl
    go false false e = absurd (cc)

letter_starts : (b : ℕ) → is_ascii_lowercase b ≡ true → starts_term b ≡ true
letter_starts b is = go (eqb b 45 || is_ascii_digit b) (is_ascii_lowercase b) is
  where
    go : (other letter : Bool) → letter ≡ true → (other || ((letter || eqb b 39) || (eqb b 91 || (eqb b 123 || (eqb b 34 || (eqb b 60 || eqb b 35)))))) ≡ true
    go true letter e = refl
    go false true e = refl
    go false false e = absurd (cc)

starts_front : (text front rest : List ℕ) → text ≡ front ++ rest → Starts front → Starts text
starts_front text front rest parts s = record { first = s.first; others = s.others ++ rest; parts = parts ∙ ap (λ (w : List ℕ). w ++ rest) s.parts; mark = s.mark }

starts_same : (text front : List ℕ) → text ≡ front → Starts front → Starts text
starts_same text front parts s = record { first = s.first; others = s.others; parts = parts ∙ s.parts; mark = s.mark }

digits_start : (digits : List ℕ) → are_digits digits ≡ true → Starts digits
digits_start [] are = absurd (let clash : false ≡ true = are in cc)
digits_start (d ∷ ds) are = starts_by (d ∷ ds) d ds refl (digit_starts d (and_parts _ _ (and_parts _ _ are).1).0)

integer_starts : (text : List ℕ) (z : ℤ) → IsInteger text z → Starts text
integer_starts text z (digits, are, inl h) = starts_same text digits h.0 (digits_start digits are)
integer_starts text z (digits, are, inr h) = starts_by text 45 digits h.0 refl

word_starts : (name : List ℕ) → is_plain_word name ≡ true → Starts name
word_starts [] plain = absurd (let clash : false ≡ true = plain in cc)
word_starts (c ∷ cs) plain = starts_by (c ∷ cs) c cs refl (letter_starts c (and_parts _ _ plain).0)

atom_starts : (text name : List ℕ) → SpellsAtom text name → Starts text
atom_starts text name (inl h, few) = starts_same text name h.0 (word_starts name h.1)
atom_starts text name (inr h, few) = starts_by text 39 _ h.1.parts refl

sharp_starts : (text front : List ℕ) → is_begun_sharp front ≡ true → text ≡ front ++ 256 ∷ [] → Starts text
sharp_starts text front is parts = go (or_cases _ _ is)
  where
    from : (word others : List ℕ) → bytes_eq front word ≡ true → word ++ 256 ∷ [] ≡ 35 ∷ others → Starts text
    from word others e h = starts_by text 35 others (parts ∙ (ap (λ (w : List ℕ). w ++ 256 ∷ []) ((bytes_eq-Decides front word).0 e) ∙ h)) refl

    go1 : (bytes_eq front (codes "#") ≡ true) ⊎ (bytes_eq front (codes "#f") ≡ true) → Starts text
    go1 (inl e) = from (codes "#") _ e refl
    go1 (inr e) = from (codes "#f") _ e refl

    go2 : ((bytes_eq front (codes "#") || bytes_eq front (codes "#f")) ≡ true) ⊎ (bytes_eq front (codes "#fu") ≡ true) → Starts text
    go2 (inl e) = go1 (or_cases _ _ e)
    go2 (inr e) = from (codes "#fu") _ e refl

    go : ((bytes_eq front (codes "#") || bytes_eq front (codes "#f") || bytes_eq front (codes "#fu")) ≡ true) ⊎ (bytes_eq front (codes "#fun") ≡ true) → Starts text
    go (inl e) = go2 (or_cases _ _ e)
    go (inr e) = from (codes "#fun") _ e refl

flat_starts : (rules : Rules) (text : List ℕ) (t : TermTree) → SpellsFlat rules text t → Starts text
flat_starts rules text t (integer u z h) = integer_starts text z h.0
flat_starts rules text t (atom u name h) = atom_starts text name h
flat_starts rules text t (binary u inside segments h parts) = starts_by text 60 _ parts refl
flat_starts rules text t (float u whole_ fraction exponent z listing h f e parts) = starts_front text whole_ _ parts (integer_starts whole_ z h.0)
flat_starts rules text t (reference u home name gap digits m f listing h n g d b parts) = starts_by text 102 _ parts refl
flat_starts rules text t (begun_sharp u front is parts) = sharp_starts text front is parts

deep_starts : (rules : Rules) (one : List ℕ → TermTree → Type 0) (text : List ℕ) (t : TermTree) → SpellsDeep rules one text t → Starts text
deep_starts rules one text t (list u inside ps h parts) = starts_by text 91 _ parts refl
deep_starts rules one text t (list_and_tail u inside last ps tail h k parts) = starts_by text 91 _ parts refl
deep_starts rules one text t (points u cs h) = starts_by text 34 _ h.parts refl
deep_starts rules one text t (tuple u inside ps h parts) = starts_by text 123 _ parts refl
deep_starts rules one text t (map_text u inside ps h parts) = starts_by text 35 _ parts refl
deep_starts rules one text t (closure u home name digits captured m f z env h n a c parts) = starts_by text 35 _ parts refl

spelled_starts : (rules : Rules) (levels : ℕ) (text : List ℕ) (t : TermTree) → Spells rules levels text t → Starts text
unfolding Spells
spelled_starts rules zero text t h = flat_starts rules text t h
spelled_starts rules (suc levels) text t (inl h) = flat_starts rules text t h
spelled_starts rules (suc levels) text t (inr h) = deep_starts rules (Spells rules levels) text t h

-- ---- a form that has just ended

pub dotted_form : (σ : Setting) (text : List ℕ) (t : TermTree) (p : ℕ) → Path σ (dotted t) fresh p text → IsForm σ.rules σ.levels text t
dotted_form σ text t p path = go (forms σ p text)
  where
    reading : read_on σ fresh p text ≡ Ended t (p + length text)
    reading = ap (λ (w : List ℕ). read_on σ fresh p w) (sym (append-nil text)) ∙ (goes σ (dotted t) fresh p text [] path ∙ at_the_end σ (dotted t) (p + length text))

    longer : (u rest : List ℕ) (b q : ℕ) → text ≡ u ++ b ∷ rest → q ≡ p + length u → p + length text ≡ q → ⊥
    longer u rest b q parts place end =
        let n : length text ≡ length u + suc (length rest) = ap length parts ∙ length-append u (b ∷ rest) in
        absurd (omega (arith, n, place, end))

    go : Reads σ any (IsForm σ.rules σ.levels) dotted p text (read_on σ fresh p text) → IsForm σ.rules σ.levels text t
    go (whole u rest v q parts stands good f place) = on rest parts f (behind σ v q rest)
      where
        on : (rest : List ℕ) → text ≡ u ++ rest → read_on σ fresh p text ≡ read_on σ (dotted v) q rest → Behind v q rest (read_on σ (dotted v) q rest) → IsForm σ.rules σ.levels text t
        on [] parts f (may follows g) =
            let end : Ended t (p + length text) ≡ Ended v q = sym reading ∙ (f ∙ g) in
            subst (λ (w : TermTree). IsForm σ.rules σ.levels text w) (sym (ended_term t v (p + length text) q end))
            (subst (λ (w : List ℕ). IsForm σ.rules σ.levels w v) (sym (parts ∙ append-nil u)) stands)
        on (b ∷ rest) parts f (may follows g) =
            let end : Ended t (p + length text) ≡ Ended v q = sym reading ∙ (f ∙ g) in
            absurd (longer u rest b q parts place (ended_end t v (p + length text) q end))
        on others parts f (may_not g) = absurd (let clash : Ended t (p + length text) ≡ Halted Syntax q = sym reading ∙ (f ∙ g) in cc)
    go (part more v f stands) = absurd (let clash : Ended t (p + length text) ≡ Cut = sym reading ∙ f in cc)
    go (halted halt q f) = absurd (let clash : Ended t (p + length text) ≡ Halted halt q = sym reading ∙ f in cc)

-- ---- too large

module _ (mode : Mode) (reached : State) (p : ℕ) (front : List ℕ) (path : Path (within mode) reached fresh p front) (b : ℕ) (behind_ : List ℕ) where
  record LargeDot : Type 0 where
    term : TermTree
    big : ltb max_size (size_of term) ≡ true
    goes_on : step (make mode true max_levels false) reached (p + length front) b ≡ at (Dotted term) []

  uncounted_goes : step (within mode) reached (p + length front) b ≡ Stop Large
      → Agrees (true ≡ false) (length reached.frames < max_levels) (false ≡ false) (step (within mode) reached (p + length front) b) (step (make mode true max_levels false) reached (p + length front) b) → LargeDot
  uncounted_goes stops (same f) = absurd (let clash : false ≡ true = (step_limits mode true max_levels false reached (p + length front) b).large (sym f ∙ stops) in cc)
  uncounted_goes stops (number other f on) = absurd (let clash : Stop Large ≡ Stop (Number other) = sym stops ∙ f in cc)
  uncounted_goes stops (level f on) = absurd (let clash : Stop Large ≡ Stop Deep = sym stops ∙ f in cc)
  uncounted_goes stops (large t f big on) = record { term = t; big = big; goes_on = on refl }

  fault_of : (t : TermTree) → ltb max_size (size_of t) ≡ true → (h : IsForm (within mode).rules max_levels (front ++ b ∷ []) t) → SizeFaultAt mode (front ++ b ∷ behind_) (length h.1.before)
  fault_of t big h = (
    (h.1.inside ++ h.1.behind) ++ 46 ∷ [],
    behind_,
    t,
    subst (λ (w : List ℕ). IsBlank w) (sym (ap (λ (w : List ℕ). take (length h.1.before) w) bytes ∙ take-append_seam h.1.before ((h.1.inside ++ h.1.behind) ++ 46 ∷ behind_))) h.1.blank_before,
    (ap (λ (w : List ℕ). drop (length h.1.before) w) bytes ∙ (drop-append_seam h.1.before ((h.1.inside ++ h.1.behind) ++ 46 ∷ behind_) ∙ sym (append_assoc (h.1.inside ++ h.1.behind) (46 ∷ []) behind_))),
    ap begins_no_blank first_byte ∙ not_from_false _ starts.mark,
    (h.1.inside ++ h.1.behind, record { before = []; inside = h.1.inside; behind = h.1.behind; blank_before = no_blank; stands = h.1.stands; blank_behind = h.1.blank_behind; parts = refl }, refl),
    ltb-true max_size (size_of t) big,
  )
    where
      starts : Starts h.1.inside
      starts = spelled_starts (within mode).rules max_levels h.1.inside t h.1.stands

      first_byte : (h.1.inside ++ h.1.behind) ++ 46 ∷ [] ≡ starts.first ∷ ((starts.others ++ h.1.behind) ++ 46 ∷ [])
      first_byte = ap (λ (w : List ℕ). (w ++ h.1.behind) ++ 46 ∷ []) starts.parts

      bytes : front ++ b ∷ behind_ ≡ h.1.before ++ ((h.1.inside ++ h.1.behind) ++ 46 ∷ behind_)
      bytes =
          sym (append_assoc front (b ∷ []) behind_) ∙ (ap (λ (w : List ℕ). w ++ behind_) h.2 ∙ (append_assoc h.0 (46 ∷ []) behind_
          ∙ (ap (λ (w : List ℕ). w ++ 46 ∷ behind_) h.1.parts ∙ append_assoc h.1.before (h.1.inside ++ h.1.behind) (46 ∷ behind_))))

  -- the form begins somewhere behind blanks
  pub size_fault : step (within mode) reached (p + length front) b ≡ Stop Large → (first : ℕ) × SizeFaultAt mode (front ++ b ∷ behind_) first
  size_fault stops =
      let dot : LargeDot = uncounted_goes stops (step_agrees mode true true max_levels max_levels true false (λ e. e) (omega (arith)) (λ e. refl) reached (p + length front) b) in
      let way : Path (make mode true max_levels false) reached fresh p front = wider_path mode true true max_levels max_levels true false (λ e. e) (omega (arith)) (λ e. refl) reached front fresh p path in
      let h : IsForm (within mode).rules max_levels (front ++ b ∷ []) dot.term =
      dotted_form (make mode true max_levels false) (front ++ b ∷ []) dot.term p (longer_path (make mode true max_levels false) reached (dotted dot.term) fresh p front b way dot.goes_on) in
      (length h.1.before, fault_of dot.term dot.big h)
