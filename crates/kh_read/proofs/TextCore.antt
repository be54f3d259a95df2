-- What reading on from a state gives, byte by byte, and how blanks are skipped.
use Rattle.std.proofs.Common.{◌≡◌, ℕ, suc, ◌+◌, Bool, true, false, not, ◌||◌, cond, eqb, List, [], ◌∷◌, ◌++◌, length, inl, inr, refl, sym, ap, subst, ◌∙◌, arith, IsTrue}
use Rattle.std.specs.List.{list_all}
use Rattle.std.proofs.lemmas.Bool.{eqb-true, and_from, not_from_false, or_from, ne_eqb}
use Rattle.kh_text_defs.specs.Blanks.{is_space, is_inside_line, IsBlank, no_blank, space, comment, IsBlankToEnd, begins_no_blank}
use Rattle.kh_read.specs.State.{Frame, Place, State, Setting, Halt, Step, Go, Done, Stop, Reading, Ended, Cut, Halted}
use Rattle.kh_read.specs.Steps.{at, step, step_place, step_between, step_mark, at_end, continued, read_on}

abbrev pub spot : Place → List Frame → State
spot place frames = record { comment = false; place = place; frames = frames }

-- ---- one byte

pub byte_goes : (σ : Setting) (here : Place) (fs : List Frame) (p b : ℕ) (bytes : List ℕ) (s : State)
    → step_place σ here fs p b ≡ Go s → read_on σ (spot here fs) p (b ∷ bytes) ≡ read_on σ s (suc p) bytes
unfolding read_on step
byte_goes σ here fs p b bytes s e = ap (λ (st : Step). continued st (λ next. read_on σ next (suc p) bytes) p) e

pub byte_stops : (σ : Setting) (here : Place) (fs : List Frame) (p b : ℕ) (bytes : List ℕ) (halt : Halt)
    → step_place σ here fs p b ≡ Stop halt → read_on σ (spot here fs) p (b ∷ bytes) ≡ Halted halt p
unfolding read_on step
byte_stops σ here fs p b bytes halt e = ap (λ (st : Step). continued st (λ next. read_on σ next (suc p) bytes) p) e

pub at_the_end : (σ : Setting) (s : State) (p : ℕ) → read_on σ s p [] ≡ at_end s.place s.frames p
unfolding read_on
at_the_end σ s p = refl

-- bytes at two places that do the same
pub same_step : (σ : Setting) (here there : Place) (fs gs : List Frame) (p b : ℕ) (bytes : List ℕ)
    → step_place σ here fs p b ≡ step_place σ there gs p b → read_on σ (spot here fs) p (b ∷ bytes) ≡ read_on σ (spot there gs) p (b ∷ bytes)
unfolding read_on step
same_step σ here there fs gs p b bytes e = ap (λ (st : Step). continued st (λ next. read_on σ next (suc p) bytes) p) e

-- ---- blanks

-- a place where blanks may stand
pub record IsBetween (σ : Setting) (here : Place) (fs : List Frame) : Type 0 where
  pub steps : (p b : ℕ) → step_place σ here fs p b ≡ step_between σ here fs p b
  pub ends : (p : ℕ) → at_end here fs p ≡ Cut

abbrev pub is_blank_byte : ℕ → Bool
is_blank_byte b = is_space b || eqb b 37

-- what stands in front: nothing, or the mark of the comment that is open
abbrev pub opened_by : Bool → List ℕ → List ℕ
opened_by true text = 37 ∷ text
opened_by false text = text

abbrev pub commented : Bool → Place → List Frame → State
commented c here fs = record { comment = c; place = here; frames = fs }

-- blanks are skipped up to another byte, or to the end
pub data Skips (σ : Setting) (here : Place) (fs : List Frame) (c : Bool) (p : ℕ) (text : List ℕ) : Type 0 where
  to_mark : (blank : List ℕ) (b : ℕ) (rest : List ℕ) (q : ℕ) → text ≡ blank ++ b ∷ rest → IsBlank (opened_by c blank) → is_blank_byte b ≡ false
      → read_on σ (commented c here fs) p text ≡ read_on σ (spot here fs) q (b ∷ rest) → q ≡ p + length blank → Skips σ here fs c p text
  to_end : (more : List ℕ) → read_on σ (commented c here fs) p text ≡ Cut → IsBlank (opened_by c (text ++ more)) → IsBlankToEnd (opened_by c text)
      → Skips σ here fs c p text

pub longer_line : (b : ℕ) (text : List ℕ) → eqb b 10 ≡ false → IsBlank (37 ∷ text) → IsBlank (37 ∷ b ∷ text)
longer_line b text apart blank = go (37 ∷ text) text refl blank
  where
    go : (whole others : List ℕ) → whole ≡ 37 ∷ others → IsBlank whole → IsBlank (37 ∷ b ∷ others)
    go whole others e no_blank = absurd (cc)
    go whole others e (space byte rest is more) = absurd (let same : byte ≡ 37 = cc in let no : is_space 37 ≡ true = subst (λ (x : ℕ). is_space x ≡ true) same is in cc)
    go whole others e (comment inner line rest inside more parts) =
        let same : inner ≡ others = cc in
        comment (b ∷ others) (b ∷ line) rest (and_from _ _ (not_from_false _ apart) inside) more (ap (λ (t : List ℕ). b ∷ t) (sym same ∙ parts))

pub longer_line_to_end : (b : ℕ) (text : List ℕ) → eqb b 10 ≡ false → IsBlankToEnd (37 ∷ text) → IsBlankToEnd (37 ∷ b ∷ text)
longer_line_to_end b text apart (inl blank) = inl (longer_line b text apart blank)
longer_line_to_end b text apart (inr parts) = go parts.0 parts.1 parts.2 parts.3 parts.4
  where
    go : (blank line : List ℕ) → IsBlank blank → list_all is_inside_line line ≡ true → 37 ∷ text ≡ blank ++ 37 ∷ line → IsBlankToEnd (37 ∷ b ∷ text)
    go blank line no_blank inside e =
        let same : text ≡ line = cc in
        inr ([], b ∷ line, no_blank, and_from _ _ (not_from_false _ apart) inside, ap (λ (t : List ℕ). 37 ∷ b ∷ t) same)
    go blank line (space byte rest is more) inside e =
        absurd (let same : byte ≡ 37 = cc in let no : is_space 37 ≡ true = subst (λ (x : ℕ). is_space x ≡ true) same is in cc)
    go blank line (comment inner l rest within more parts) inside e =
        let same : text ≡ inner ++ 37 ∷ line = cc in
        inr (
          37 ∷ b ∷ inner,
          line,
          comment (b ∷ inner) (b ∷ l) rest (and_from _ _ (not_from_false _ apart) within) more (ap (λ (t : List ℕ). b ∷ t) parts),
          inside,
          ap (λ (t : List ℕ). 37 ∷ b ∷ t) same,
        )

pub blank_more : (b : ℕ) (text : List ℕ) → is_space b ≡ true → IsBlankToEnd text → IsBlankToEnd (b ∷ text)
blank_more b text is (inl blank) = inl (space b text is blank)
blank_more b text is (inr parts) = inr (b ∷ parts.0, parts.1, space b parts.0 is parts.2, parts.3, ap (λ (t : List ℕ). b ∷ t) parts.4)

pub line_ends : (text : List ℕ) → IsBlankToEnd text → IsBlankToEnd (37 ∷ 10 ∷ text)
line_ends text (inl blank) = inl (comment (10 ∷ text) [] text refl blank refl)
line_ends text (inr parts) =
    inr (37 ∷ 10 ∷ parts.0, parts.1, comment (10 ∷ parts.0) [] parts.0 refl parts.2 refl, parts.3, ap (λ (t : List ℕ). 37 ∷ 10 ∷ t) parts.4)

module _ (σ : Setting) (here : Place) (fs : List Frame) (between : IsBetween σ here fs) where
  pub space_step : (p b : ℕ) → is_space b ≡ true → step_place σ here fs p b ≡ at here fs
  unfolding step_between
  space_step p b e = between.steps p b ∙ rw e refl

  pub comment_step : (p b : ℕ) → is_space b ≡ false → eqb b 37 ≡ true → step_place σ here fs p b ≡ Go (commented true here fs)
  unfolding step_between
  comment_step p b e f = between.steps p b ∙ rw (e, f) refl

  pub in_line : (p b : ℕ) (bytes : List ℕ) → eqb b 10 ≡ false → read_on σ (commented true here fs) p (b ∷ bytes) ≡ read_on σ (commented true here fs) (suc p) bytes
  unfolding read_on step
  in_line p b bytes e = rw e refl

  pub line_end : (p b : ℕ) (bytes : List ℕ) → eqb b 10 ≡ true → read_on σ (commented true here fs) p (b ∷ bytes) ≡ read_on σ (spot here fs) (suc p) bytes
  unfolding read_on step
  line_end p b bytes e = rw e refl

  spaced : (p b : ℕ) (bytes : List ℕ) → is_space b ≡ true → Skips σ here fs false (suc p) bytes → Skips σ here fs false p (b ∷ bytes)
  spaced p b bytes is (to_mark blank m rest q parts blanks mark goes place) =
      to_mark (b ∷ blank) m rest q (ap (λ (t : List ℕ). b ∷ t) parts) (space b blank is blanks) mark (byte_goes σ here fs p b bytes _ (space_step p b is) ∙ goes) (omega (arith, place))
  spaced p b bytes is (to_end more cut blanks ends) =
      to_end more (byte_goes σ here fs p b bytes _ (space_step p b is) ∙ cut) (space b _ is blanks) (blank_more b bytes is ends)

  remarked : (p b : ℕ) (bytes : List ℕ) → is_space b ≡ false → eqb b 37 ≡ true → Skips σ here fs true (suc p) bytes → Skips σ here fs false p (b ∷ bytes)
  remarked p b bytes no_space is (to_mark blank m rest q parts blanks mark goes place) =
      let same = eqb-true b 37 is in
      to_mark (b ∷ blank) m rest q (ap (λ (t : List ℕ). b ∷ t) parts) (subst (λ (x : ℕ). IsBlank (x ∷ blank)) (sym same) blanks) mark
      (byte_goes σ here fs p b bytes _ (comment_step p b no_space is) ∙ goes) (omega (arith, place))
  remarked p b bytes no_space is (to_end more cut blanks ends) =
      let same = eqb-true b 37 is in
      to_end more (byte_goes σ here fs p b bytes _ (comment_step p b no_space is) ∙ cut) (subst (λ (x : ℕ). IsBlank (x ∷ (bytes ++ more))) (sym same) blanks)
      (subst (λ (x : ℕ). IsBlankToEnd (x ∷ bytes)) (sym same) ends)

  on_line : (p b : ℕ) (bytes : List ℕ) → eqb b 10 ≡ false → Skips σ here fs true (suc p) bytes → Skips σ here fs true p (b ∷ bytes)
  on_line p b bytes apart (to_mark blank m rest q parts blanks mark goes place) =
      to_mark (b ∷ blank) m rest q (ap (λ (t : List ℕ). b ∷ t) parts) (longer_line b blank apart blanks) mark (in_line p b bytes apart ∙ goes) (omega (arith, place))
  on_line p b bytes apart (to_end more cut blanks ends) =
      to_end more (in_line p b bytes apart ∙ cut) (longer_line b _ apart blanks) (longer_line_to_end b bytes apart ends)

  off_line : (p b : ℕ) (bytes : List ℕ) → eqb b 10 ≡ true → Skips σ here fs false (suc p) bytes → Skips σ here fs true p (b ∷ bytes)
  off_line p b bytes is (to_mark blank m rest q parts blanks mark goes place) =
      let same = eqb-true b 10 is in
      to_mark (b ∷ blank) m rest q (ap (λ (t : List ℕ). b ∷ t) parts) (subst (λ (x : ℕ). IsBlank (37 ∷ x ∷ blank)) (sym same) (comment (10 ∷ blank) [] blank refl blanks refl)) mark
      (line_end p b bytes is ∙ goes) (omega (arith, place))
  off_line p b bytes is (to_end more cut blanks ends) =
      let same = eqb-true b 10 is in
      to_end more (line_end p b bytes is ∙ cut) (subst (λ (x : ℕ). IsBlank (37 ∷ x ∷ (bytes ++ more))) (sym same) (comment (10 ∷ (bytes ++ more)) [] (bytes ++ more) refl blanks refl))
      (subst (λ (x : ℕ). IsBlankToEnd (37 ∷ x ∷ bytes)) (sym same) (line_ends bytes ends))

  pub skips : (c : Bool) (p : ℕ) (text : List ℕ) → Skips σ here fs c p text
  skips false p [] = to_end [] (at_the_end σ (spot here fs) p ∙ between.ends p) no_blank (inl no_blank)
  skips true p [] = to_end (10 ∷ []) (at_the_end σ (commented true here fs) p ∙ between.ends p) (comment (10 ∷ []) [] [] refl no_blank refl) (inr ([], [], no_blank, refl, refl))
  skips false p (b ∷ bytes) = go (is_space b) (eqb b 37) refl refl (λ c. skips c (suc p) bytes)
    where
      go : (s m : Bool) → is_space b ≡ s → eqb b 37 ≡ m → ((c : Bool) → Skips σ here fs c (suc p) bytes) → Skips σ here fs false p (b ∷ bytes)
      go true m e f more = spaced p b bytes e (more false)
      go false true e f more = remarked p b bytes e f (more true)
      go false false e f more = to_mark [] b bytes p refl no_blank (or_from _ _ e f) refl (omega arith)
  skips true p (b ∷ bytes) = go (eqb b 10) refl (λ c. skips c (suc p) bytes)
    where
      go : (t : Bool) → eqb b 10 ≡ t → ((c : Bool) → Skips σ here fs c (suc p) bytes) → Skips σ here fs true p (b ∷ bytes)
      go true e more = off_line p b bytes e (more false)
      go false e more = on_line p b bytes e (more true)
