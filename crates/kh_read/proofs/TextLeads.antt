-- What is spelled is read: a text leads from one state to another.
use Rattle.std.proofs.Common.{◌≡◌, ◌≤◌, ◌<◌, ℕ, zero, suc, ◌+◌, ◌-◌, ◌*◌, Bool, true, false, not, ◌&&◌, ◌||◌, cond, eqb, ltb, leb, List, [], ◌∷◌, ◌++◌, length, inl, inr, refl, sym, ap, subst, ◌∙◌, arith, append_assoc, ℤ, pos, negsuc, IsTrue}
use Rattle.std.specs.Prelude.{◌⊎◌, ◌^◌, neg_ℤ}
use Rattle.std.specs.Char.{is_ascii_digit, is_ascii_lowercase, digit_value}
use Rattle.std.specs.List.{list_all}
use Rattle.std.specs.Str.Parse.{digits_value, digits_value_after}
use Rattle.std.proofs.lemmas.Bool.{and_parts, and_from, eqb-true, eq-eqb, lt-ltb, ltb-true, not-true, not_from_false, or_cases}
use Rattle.std.proofs.lemmas.List.{length-append, append-nil}
use Rattle.kh_term.specs.WellFormed.{fits_128}
use Rattle.kh_text_defs.specs.Atoms.{is_word_byte}
use Rattle.kh_text_defs.specs.Blanks.{is_space, is_inside_line, IsBlank, no_blank, space, comment, Wide}
use Rattle.kh_text_defs.specs.Spelled.{Rules, allows}
use Rattle.kh_text_defs.specs.Tokens.{are_digits, IsInteger}
use Rattle.kh_read.specs.State.{Frame, Place, Before, Minus, Digits, Word, State, Setting, Step, Go, Reading}
use Rattle.kh_read.specs.Steps.{at, signed, is_byte, digit_of, takes_segment, fits_here, with_digit, begin_integer, step_digits, step_word, step_place, read_on}
use Rattle.kh_read.proofs.TextCore.{spot, byte_goes, IsBetween, commented, space_step, comment_step, in_line, line_end}
use Rattle.kh_read.proofs.TextReads.{any}
use Rattle.kh_read.proofs.TextDigits.{no_digit, digit_is}
use Rattle.kh_read.proofs.TextWords.{no_word}

abbrev pub Leads : Setting → State → List ℕ → State → (List ℕ → Bool) → Type 0
Leads σ s text later Q = (p : ℕ) (rest : List ℕ) → Q rest ≡ true → read_on σ s p (text ++ rest) ≡ read_on σ later (p + length text) rest

pub leads_then : (σ : Setting) (s middle later : State) (a b : List ℕ) (P Q : List ℕ → Bool) → Leads σ s a middle P → Leads σ middle b later Q → ((rest : List ℕ) → Q rest ≡ true → P (b ++ rest) ≡ true)
    → Leads σ s (a ++ b) later Q
leads_then σ s middle later a b P Q first second joins p rest q =
    let place : (p + length a) + length b ≡ p + length (a ++ b) = omega (arith, length-append a b) in
    ap (λ (t : List ℕ). read_on σ s p t) (append_assoc a b rest) ∙ (first p (b ++ rest) (joins rest q) ∙ (second (p + length a) rest q ∙ ap (λ (n : ℕ). read_on σ later n rest) place))

pub leads_first : (σ : Setting) (here : Place) (fs : List Frame) (b : ℕ) (text : List ℕ) (s later : State) (Q : List ℕ → Bool) → ((p : ℕ) → step_place σ here fs p b ≡ Go s) → Leads σ s text later Q
    → Leads σ (spot here fs) (b ∷ text) later Q
leads_first σ here fs b text s later Q goes more p rest q =
    let place : suc p + length text ≡ p + length (b ∷ text) = omega arith in
    byte_goes σ here fs p b (text ++ rest) s (goes p) ∙ (more (suc p) rest q ∙ ap (λ (n : ℕ). read_on σ later n rest) place)

pub leads_nothing : (σ : Setting) (s later : State) (Q : List ℕ → Bool) → ((p : ℕ) (rest : List ℕ) → Q rest ≡ true → read_on σ s p rest ≡ read_on σ later p rest) → Leads σ s [] later Q
leads_nothing σ s later Q same p rest q = same p rest q ∙ ap (λ (n : ℕ). read_on σ later n rest) (add-zero-back p)
  where
    add-zero-back : (n : ℕ) → n ≡ n + length {A = ℕ} []
    add-zero-back n = omega arith

pub leads_byte : (σ : Setting) (here : Place) (fs : List Frame) (b : ℕ) (s : State) → ((p : ℕ) → step_place σ here fs p b ≡ Go s) → Leads σ (spot here fs) (b ∷ []) s any
leads_byte σ here fs b s goes = leads_first σ here fs b [] s s any goes (leads_nothing σ s s any (λ p rest q. refl))

-- ---- blanks

module _ (σ : Setting) (here : Place) (fs : List Frame) (between : IsBetween σ here fs) where
  line_goes : (line rest more : List ℕ) (p : ℕ) → list_all is_inside_line line ≡ true
      → ((q : ℕ) → read_on σ (spot here fs) q (rest ++ more) ≡ read_on σ (spot here fs) (q + length rest) more)
      → read_on σ (commented true here fs) p ((line ++ 10 ∷ rest) ++ more) ≡ read_on σ (spot here fs) (p + length (line ++ 10 ∷ rest)) more
  line_goes [] rest more p inside on =
      let place : suc p + length rest ≡ p + length (10 ∷ rest) = omega arith in
      line_end σ here fs between p 10 (rest ++ more) refl ∙ (on (suc p) ∙ ap (λ (n : ℕ). read_on σ (spot here fs) n more) place)
  line_goes (b ∷ line) rest more p inside on =
      let parts = and_parts _ _ inside in
      let place : suc p + length (line ++ 10 ∷ rest) ≡ p + length (b ∷ (line ++ 10 ∷ rest)) = omega arith in
      in_line σ here fs between p b ((line ++ 10 ∷ rest) ++ more) (not-true _ parts.0)
      ∙ (line_goes line rest more (suc p) parts.1 on ∙ ap (λ (n : ℕ). read_on σ (spot here fs) n more) place)

  pub blank_leads : (blank : List ℕ) → IsBlank blank → Leads σ (spot here fs) blank (spot here fs) any
  blank_leads blank no_blank = leads_nothing σ (spot here fs) (spot here fs) any (λ p rest q. refl)
  blank_leads blank (space byte rest is more) = leads_first σ here fs byte rest (spot here fs) (spot here fs) any (λ p. space_step σ here fs between p byte is) (blank_leads rest more)
  blank_leads blank (comment text line rest inside more parts) = λ p after q.
      let place : suc p + length (line ++ 10 ∷ rest) ≡ p + length (37 ∷ text) = omega (arith, ap (λ (t : List ℕ). length t) parts) in
      byte_goes σ here fs p 37 (text ++ after) _ (comment_step σ here fs between p 37 refl refl)
      ∙ (ap (λ (t : List ℕ). read_on σ (commented true here fs) (suc p) (t ++ after)) parts
      ∙ (line_goes line rest after (suc p) inside (λ k. blank_leads rest more k after refl) ∙ ap (λ (n : ℕ). read_on σ (spot here fs) n after) place))

-- a blank may stand behind a word
pub blank_quiet : (blank rest : List ℕ) → IsBlank blank → no_word rest ≡ true → no_word (blank ++ rest) ≡ true
blank_quiet blank rest no_blank q = q
blank_quiet blank rest (space byte more is others) q = not_from_false _ (space_no_word byte is)
  where
    space_no_word : (b : ℕ) → is_space b ≡ true → is_word_byte b ≡ false
    space_no_word b h = go (eqb b 9) (eqb b 10) (eqb b 13) (eqb b 32) refl refl refl refl h
      where
        of : (k : ℕ) → eqb b k ≡ true → is_word_byte k ≡ false → is_word_byte b ≡ false
        of k e f = subst (λ (x : ℕ). is_word_byte x ≡ false) (sym (eqb-true b k e)) f

        go : (t u v w : Bool) → eqb b 9 ≡ t → eqb b 10 ≡ u → eqb b 13 ≡ v → eqb b 32 ≡ w → (((t || u) || v) || w) ≡ true → is_word_byte b ≡ false
        go true u v w e f g i h = of 9 e refl
        go false true v w e f g i h = of 10 f refl
        go false false true w e f g i h = of 13 g refl
        go false false false true e f g i h = of 32 i refl
        go false false false false e f g i h = absurd (cc)
blank_quiet blank rest (comment text line more inside others parts) q = refl

-- ---- what may stand behind a term

-- no name comes behind blanks, in a comment or not
abbrev pub no_name : Bool → List ℕ → Bool
no_name c [] = true
no_name true (b ∷ rest) = no_name (not (eqb b 10)) rest
no_name false (b ∷ rest) = cond (is_space b) (no_name false rest) (cond (eqb b 37) (no_name true rest) (not (is_ascii_lowercase b || eqb b 39)))

abbrev pub is_top : List Frame → Bool
is_top [] = true
is_top (f ∷ fs) = false

-- no part of a word, no name behind blanks, and a dot only at the end of a form, where nothing is open
abbrev pub good_end : Bool → List ℕ → Bool
good_end top [] = true
good_end top (b ∷ rest) = not (is_word_byte b) && (no_name false (b ∷ rest) && (not (eqb b 46) || (top && no_digit rest)))

pub good_quiet : (top : Bool) (rest : List ℕ) → good_end top rest ≡ true → no_word rest ≡ true
good_quiet top [] q = refl
good_quiet top (b ∷ rest) q = (and_parts _ _ q).0

pub good_name : (top : Bool) (rest : List ℕ) → good_end top rest ≡ true → no_name false rest ≡ true
good_name top [] q = refl
good_name top (b ∷ rest) q = (and_parts _ _ (and_parts _ _ q).1).0

line_names : (line more rest : List ℕ) → list_all is_inside_line line ≡ true → no_name false (more ++ rest) ≡ true → no_name true ((line ++ 10 ∷ more) ++ rest) ≡ true
line_names [] more rest inside q = q
line_names (b ∷ line) more rest inside q =
    let parts = and_parts (is_inside_line b) (list_all is_inside_line line) inside in
    ap (λ (c : Bool). no_name c ((line ++ 10 ∷ more) ++ rest)) parts.0 ∙ line_names line more rest parts.1 q

names_behind : (blank rest : List ℕ) → IsBlank blank → no_name false rest ≡ true → no_name false (blank ++ rest) ≡ true
names_behind blank rest no_blank q = q
names_behind blank rest (space byte more is others) q = rw is (names_behind more rest others q)
names_behind blank rest (comment text line more inside others parts) q =
    ap (λ (t : List ℕ). no_name true (t ++ rest)) parts ∙ line_names line more rest inside (names_behind more rest others q)

space_no_dot : (b : ℕ) → is_space b ≡ true → eqb b 46 ≡ false
space_no_dot b h = go (eqb b 46) refl
  where
    go : (t : Bool) → eqb b 46 ≡ t → t ≡ false
    go false e = refl
    go true e = absurd (let clash : false ≡ true = subst (λ (k : ℕ). is_space k ≡ true) (eqb-true b 46 e) h in cc)

pub blank_good : (top : Bool) (blank rest : List ℕ) → IsBlank blank → good_end top rest ≡ true → good_end top (blank ++ rest) ≡ true
blank_good top blank rest no_blank q = q
blank_good top blank rest (space byte more is others) q =
    and_from _ _ (blank_quiet (byte ∷ more) rest (space byte more is others) (good_quiet top rest q))
    (and_from _ _ (names_behind (byte ∷ more) rest (space byte more is others) (good_name top rest q)) (ap (λ (t : Bool). not t || (top && no_digit (more ++ rest))) (space_no_dot byte is)))
blank_good top blank rest (comment text line more inside others parts) q =
    and_from _ _ (names_behind (37 ∷ text) rest (comment text line more inside others parts) (good_name top rest q)) refl

-- behind what stands for a value blanks may come
pub wide_leads_to : {A : Type 0} (σ : Setting) (R : List ℕ → A → Type 0) (begin : Place) (fs : List Frame) (here : A → Place) (over : A → List Frame) (text : List ℕ) (x : A) (Q : List ℕ → Bool)
    → ((blank rest : List ℕ) → IsBlank blank → Q rest ≡ true → Q (blank ++ rest) ≡ true)
    → IsBetween σ begin fs → IsBetween σ (here x) (over x) → ((u : List ℕ) → R u x → Leads σ (spot begin fs) u (spot (here x) (over x)) Q)
    → Wide R text x → Leads σ (spot begin fs) text (spot (here x) (over x)) Q
wide_leads_to σ R begin fs here over text x Q blanks between after core w =
    subst (λ (t : List ℕ). Leads σ (spot begin fs) t (spot (here x) (over x)) Q) (sym w.parts)
    (leads_then σ (spot begin fs) (spot begin fs) (spot (here x) (over x)) w.before (w.inside ++ w.behind) any Q (blank_leads σ begin fs between w.before w.blank_before)
    (leads_then σ (spot begin fs) (spot (here x) (over x)) (spot (here x) (over x)) w.inside w.behind Q Q (core w.inside w.stands)
    (λ p rest q. blank_leads σ (here x) (over x) after w.behind w.blank_behind p rest refl) (λ rest q. blanks w.behind rest w.blank_behind q))
    (λ rest q. refl))

pub wide_leads : {A : Type 0} (σ : Setting) (R : List ℕ → A → Type 0) (fs : List Frame) (here : A → Place) (over : A → List Frame) (text : List ℕ) (x : A)
    → IsBetween σ Before fs → IsBetween σ (here x) (over x) → ((u : List ℕ) → R u x → Leads σ (spot Before fs) u (spot (here x) (over x)) no_word)
    → Wide R text x → Leads σ (spot Before fs) text (spot (here x) (over x)) no_word
wide_leads σ R fs here over text x between after core w = wide_leads_to σ R Before fs here over text x no_word blank_quiet between after core w

-- ---- digits

-- digits at a place where digits may go on
run_digits : (σ : Setting) (here : Place) (fs : List Frame) → ((p b : ℕ) → is_ascii_digit b ≡ true → step_place σ here fs p b ≡ at here fs)
    → (ds : List ℕ) → list_all is_ascii_digit ds ≡ true → Leads σ (spot here fs) ds (spot here fs) any
run_digits σ here fs on [] each = leads_nothing σ (spot here fs) (spot here fs) any (λ p rest q. refl)
run_digits σ here fs on (d ∷ ds) each =
    let parts = and_parts (is_ascii_digit d) (list_all is_ascii_digit ds) each in
    leads_first σ here fs d ds (spot here fs) (spot here fs) any (λ p. on p d parts.0) (run_digits σ here fs on ds parts.1)

-- a digit, and digits behind it
pub digits_from : (σ : Setting) (here there : Place) (fs : List Frame) → ((p b : ℕ) → is_ascii_digit b ≡ true → step_place σ here fs p b ≡ at there fs)
    → ((p b : ℕ) → is_ascii_digit b ≡ true → step_place σ there fs p b ≡ at there fs)
    → (ds : List ℕ) → are_digits ds ≡ true → Leads σ (spot here fs) ds (spot there fs) any
digits_from σ here there fs first on [] are = absurd (let clash : false ≡ true = are in cc)
digits_from σ here there fs first on (d ∷ ds) are =
    let parts = and_parts (is_ascii_digit d) (list_all is_ascii_digit ds) (and_parts (leb 1 (length (d ∷ ds))) (list_all is_ascii_digit (d ∷ ds)) are).1 in
    leads_first σ here fs d ds (spot there fs) (spot there fs) any (λ p. first p d parts.0) (run_digits σ there fs on ds parts.1)

pub digits_grow : (ds : List ℕ) (m : ℕ) → m ≤ digits_value_after 10 m ds
digits_grow [] m = omega arith
digits_grow (d ∷ ds) m = let more = digits_grow ds (m * 10 + digit_value d) in omega (arith, more)

fits_below : (negative : Bool) (m n : ℕ) → m ≤ n → fits_128 (signed negative n) ≡ true → fits_128 (signed negative m) ≡ true
fits_below false m n less h = lt-ltb m (2 ^ 127) (omega (arith, less, ltb-true n (2 ^ 127) h))
fits_below true zero n less h = refl
fits_below true (suc m) zero less h = absurd (omega arith)
fits_below true (suc m) (suc n) less h = lt-ltb m (2 ^ 127) (omega (arith, less, ltb-true n (2 ^ 127) h))

-- a smaller magnitude is allowed where a greater one is
pub fits_less : (rules : Rules) (fs : List Frame) (negative : Bool) (m n : ℕ) → m ≤ n → fits_here rules fs negative n ≡ true → fits_here rules fs negative m ≡ true
fits_less rules fs negative m n less = go (takes_segment fs) negative rules.bounded
  where
    go : (s neg b : Bool) → cond s (is_byte neg n) (not b || fits_128 (signed neg n)) ≡ true → cond s (is_byte neg m) (not b || fits_128 (signed neg m)) ≡ true
    go true true b h = eq-eqb m 0 (omega (arith, less, eqb-true n 0 h))
    go true false b h = lt-ltb m 256 (omega (arith, less, ltb-true n 256 h))
    go false neg true h = fits_below neg m n less h
    go false neg false h = refl

digit_step : (σ : Setting) (fs : List Frame) (first : ℕ) (negative : Bool) (m p b : ℕ) → is_ascii_digit b ≡ true → fits_here σ.rules fs negative (m * 10 + digit_of b) ≡ true
    → step_place σ (Digits first negative m) fs p b ≡ at (Digits first negative (m * 10 + digit_of b)) fs
unfolding step_place step_digits
digit_step σ fs first negative m p b e f = rw (e, f) refl

pub digits_lead : (σ : Setting) (fs : List Frame) (first : ℕ) (negative : Bool) (ds : List ℕ) (m : ℕ) → list_all is_ascii_digit ds ≡ true → fits_here σ.rules fs negative (digits_value_after 10 m ds) ≡ true
    → Leads σ (spot (Digits first negative m) fs) ds (spot (Digits first negative (digits_value_after 10 m ds)) fs) any
digits_lead σ fs first negative [] m each fits = leads_nothing σ _ _ any (λ p rest q. refl)
digits_lead σ fs first negative (d ∷ ds) m each fits =
    let parts = and_parts (is_ascii_digit d) (list_all is_ascii_digit ds) each in
    let same = digit_is d parts.0 in
    let value : digits_value_after 10 (m * 10 + digit_value d) ds ≡ digits_value_after 10 (m * 10 + digit_of d) ds = ap (λ k. digits_value_after 10 (m * 10 + k) ds) same in
    let fit : fits_here σ.rules fs negative (digits_value_after 10 (m * 10 + digit_of d) ds) ≡ true = ap (fits_here σ.rules fs negative) (sym value) ∙ fits in
    subst (λ (v : ℕ). Leads σ (spot (Digits first negative m) fs) (d ∷ ds) (spot (Digits first negative v) fs) any) (sym value)
    (leads_first σ (Digits first negative m) fs d ds (spot (Digits first negative (m * 10 + digit_of d)) fs) (spot (Digits first negative (digits_value_after 10 (m * 10 + digit_of d) ds)) fs) any
    (λ p. digit_step σ fs first negative m p d parts.0 (fits_less σ.rules fs negative (m * 10 + digit_of d) (digits_value_after 10 (m * 10 + digit_of d) ds) (digits_grow ds (m * 10 + digit_of d)) fit))
    (digits_lead σ fs first negative ds (m * 10 + digit_of d) parts.1 fit))

-- ---- words

word_step : (σ : Setting) (fs : List Frame) (name : List ℕ) (p b : ℕ) → is_word_byte b ≡ true → ltb (length name) 255 ≡ true → step_place σ (Word name) fs p b ≡ at (Word (name ++ b ∷ [])) fs
unfolding step_place step_word
word_step σ fs name p b e f = rw (e, f) refl

pub word_leads : (σ : Setting) (fs : List Frame) (text name : List ℕ) → list_all is_word_byte text ≡ true → length (name ++ text) ≤ 255 → Leads σ (spot (Word name) fs) text (spot (Word (name ++ text)) fs) any
word_leads σ fs [] name each short = subst (λ (n : List ℕ). Leads σ (spot (Word name) fs) [] (spot (Word n) fs) any) (sym (append-nil name)) (leads_nothing σ _ _ any (λ p rest q. refl))
word_leads σ fs (b ∷ text) name each short =
    let parts = and_parts (is_word_byte b) (list_all is_word_byte text) each in
    let regroup = append_assoc name (b ∷ []) text in
    let room : length name < 255 = omega (arith, short, length-append name (b ∷ text)) in
    subst (λ (n : List ℕ). Leads σ (spot (Word name) fs) (b ∷ text) (spot (Word n) fs) any) regroup
    (leads_first σ (Word name) fs b text (spot (Word (name ++ b ∷ [])) fs) (spot (Word ((name ++ b ∷ []) ++ text)) fs) any
    (λ p. word_step σ fs name p b parts.0 (lt-ltb (length name) 255 room))
    (word_leads σ fs text (name ++ b ∷ []) parts.1 (subst (λ (n : List ℕ). length n ≤ 255) (sym regroup) short)))
