-- The first byte that isn't blank.
use Rattle.std.proofs.Common.{◌≡◌, ℕ, suc, ◌+◌, Bool, true, false, not, ◌||◌, eqb, Option, Some, None, List, [], ◌∷◌, ◌++◌, length, inl, inr, refl, sym, ap, subst, ◌∙◌, arith, append_assoc}
use Rattle.std.specs.List.{list_all}
use Rattle.std.proofs.lemmas.Bool.{and_parts, eqb-true}
use Rattle.std.proofs.lemmas.List.{append-nil, length-append}
use Rattle.kh_text_defs.specs.Blanks.{is_space, is_inside_line, IsBlank, no_blank, space, comment, IsBlankToEnd}
use Rattle.kh_read.specs.Skipped.{passed, mark_or, first_mark}
use Rattle.kh_read.proofs.TextCore.{is_blank_byte, opened_by, longer_line, longer_line_to_end, blank_more, line_ends}

one : (c : Bool) (p b : ℕ) (bytes : List ℕ) (found : Option Bool) → passed c b ≡ found → first_mark c p (b ∷ bytes) ≡ mark_or p found (λ next. first_mark next (suc p) bytes)
unfolding first_mark
one c p b bytes found e = ap (λ (x : Option Bool). mark_or p x (λ next. first_mark next (suc p) bytes)) e

at_end : (c : Bool) (p : ℕ) → first_mark c p [] ≡ None
unfolding first_mark
at_end c p = refl

at_space : (b : ℕ) → is_space b ≡ true → passed false b ≡ Some false
at_space b e = rw e refl

at_mark : (b : ℕ) → is_blank_byte b ≡ false → passed false b ≡ None
at_mark b e = go (is_space b) (eqb b 37) refl refl e
  where
    go : (s q : Bool) → is_space b ≡ s → eqb b 37 ≡ q → (s || q) ≡ false → passed false b ≡ None
    go false false f g h = rw (f, g) refl
    go false true f g h = absurd (let clash : true ≡ false = h in cc)
    go true q f g h = absurd (let clash : true ≡ false = h in cc)

-- ---- blanks are passed

shift : (c : Bool) (rest : List ℕ) (m n : ℕ) → m ≡ n → first_mark c m rest ≡ first_mark c n rest
shift c rest m n e = ap (λ (k : ℕ). first_mark c k rest) e

line_passed : (line rest : List ℕ) (p : ℕ) → list_all is_inside_line line ≡ true → first_mark true p (line ++ rest) ≡ first_mark true (p + length line) rest
line_passed [] rest p inside = shift true rest p (p + 0) (omega arith)
line_passed (b ∷ line) rest p inside =
    let parts = and_parts _ _ inside in
    one true p b (line ++ rest) (Some true) (ap (λ (t : Bool). Some t) parts.0)
    ∙ (line_passed line rest (suc p) parts.1 ∙ shift true rest (suc p + length line) (p + suc (length line)) (omega arith))

blank_passed : (blank rest : List ℕ) (p : ℕ) → IsBlank blank → first_mark false p (blank ++ rest) ≡ first_mark false (p + length blank) rest
blank_passed blank rest p no_blank = shift false rest p (p + 0) (omega arith)
blank_passed blank rest p (space b more is blanks) =
    one false p b (more ++ rest) (Some false) (at_space b is)
    ∙ (blank_passed more rest (suc p) blanks ∙ shift false rest (suc p + length more) (p + suc (length more)) (omega arith))
blank_passed blank rest p (comment text line more inside blanks parts) =
    let long : length text ≡ length line + suc (length more) = ap length parts ∙ length-append line (10 ∷ more) in
    one false p 37 (text ++ rest) (Some true) refl
    ∙ (ap (λ (w : List ℕ). first_mark true (suc p) (w ++ rest)) parts
    ∙ (ap (λ (w : List ℕ). first_mark true (suc p) w) (append_assoc line (10 ∷ more) rest)
    ∙ (line_passed line (10 ∷ (more ++ rest)) (suc p) inside
    ∙ (one true (suc p + length line) 10 (more ++ rest) (Some false) refl
    ∙ (blank_passed more rest (suc (suc p + length line)) blanks ∙ shift false rest (suc (suc p + length line) + length more) (p + suc (length text)) (omega (arith, long)))))))

-- nothing but blanks has no mark
pub no_mark : (text : List ℕ) → IsBlankToEnd text → first_mark false 0 text ≡ None
no_mark text (inl blank) = ap (λ (w : List ℕ). first_mark false 0 w) (sym (append-nil text)) ∙ (blank_passed text [] 0 blank ∙ at_end false _)
no_mark text (inr h) =
    ap (λ (w : List ℕ). first_mark false 0 w) h.4
    ∙ (blank_passed h.0 (37 ∷ h.1) 0 h.2
    ∙ (one false (0 + length h.0) 37 h.1 (Some true) refl
    ∙ (ap (λ (w : List ℕ). first_mark true (suc (0 + length h.0)) w) (sym (append-nil h.1)) ∙ (line_passed h.1 [] (suc (0 + length h.0)) h.3 ∙ at_end true _))))

-- behind blanks a byte that isn't blank is the first mark
pub marked : (blank : List ℕ) (b : ℕ) (rest : List ℕ) → IsBlank blank → is_blank_byte b ≡ false → first_mark false 0 (blank ++ b ∷ rest) ≡ Some (length blank)
marked blank b rest blanks mark =
    blank_passed blank (b ∷ rest) 0 blanks
    ∙ (shift false (b ∷ rest) (0 + length blank) (length blank) (omega arith) ∙ one false (length blank) b rest None (at_mark b mark))

-- ---- without a mark there are blanks alone

pub blank_to_end : (c : Bool) (p : ℕ) (text : List ℕ) → first_mark c p text ≡ None → IsBlankToEnd (opened_by c text)
blank_to_end true p [] e = inr ([], [], no_blank, refl, refl)
blank_to_end false p [] e = inl no_blank
blank_to_end true p (b ∷ text) e = go (eqb b 10) refl (λ c h. blank_to_end c (suc p) text h)
  where
    go : (t : Bool) → eqb b 10 ≡ t → ((c : Bool) → first_mark c (suc p) text ≡ None → IsBlankToEnd (opened_by c text)) → IsBlankToEnd (37 ∷ b ∷ text)
    go true f more =
        let on = more false (sym (one true p b text (Some false) (ap (λ (t : Bool). Some (not t)) f)) ∙ e) in
        subst (λ (x : ℕ). IsBlankToEnd (37 ∷ x ∷ text)) (sym (eqb-true b 10 f)) (line_ends text on)
    go false f more = longer_line_to_end b text f (more true (sym (one true p b text (Some true) (ap (λ (t : Bool). Some (not t)) f)) ∙ e))
blank_to_end false p (b ∷ text) e = go (is_space b) (eqb b 37) refl refl (λ c h. blank_to_end c (suc p) text h)
  where
    go : (s q : Bool) → is_space b ≡ s → eqb b 37 ≡ q → ((c : Bool) → first_mark c (suc p) text ≡ None → IsBlankToEnd (opened_by c text)) → IsBlankToEnd (b ∷ text)
    go true q f g more = blank_more b text f (more false (sym (one false p b text (Some false) (at_space b f)) ∙ e))
    go false true f g more =
        let on = more true (sym (one false p b text (Some true) (rw (f, g) refl)) ∙ e) in
        subst (λ (x : ℕ). IsBlankToEnd (x ∷ text)) (sym (eqb-true b 37 g)) on
    go false false f g more = absurd (let clash : Some p ≡ None = sym (one false p b text None (at_mark b (rw (f, g) refl))) ∙ e in cc)
