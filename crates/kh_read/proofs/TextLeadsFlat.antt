-- Integers, atoms and texts in quotes are read as they are spelled.
use Rattle.std.proofs.Common.{◌≡◌, ◌≤◌, ◌<◌, ℕ, zero, suc, ◌+◌, ◌-◌, ◌*◌, Bool, true, false, not, ◌&&◌, ◌||◌, cond, eqb, ltb, leb, List, [], ◌∷◌, ◌++◌, length, map, Option, Some, None, inl, inr, refl, sym, ap, subst, ◌∙◌, arith, append_assoc, ℤ, pos}
use Rattle.std.specs.Prelude.{◌⊎◌, codes, neg_ℤ}
use Rattle.std.specs.Char.{IsScalar, encode_utf8, is_ascii_digit, is_ascii_lowercase, len_utf8}
use Rattle.std.specs.List.{list_all}
use Rattle.std.specs.Str.{bytes_eq, encode_utf8_all, all_scalars}
use Rattle.std.specs.Str.Parse.{digits_value, digits_value_after}
use Rattle.std.proofs.lemmas.Bool.{and_parts, and_from, or_parts, or_from, or_left, or_right, eqb-true, eqb-false, eq-eqb, ne_eqb, lt-ltb, ltb-true, le-ltb, le-leb, not-true, leb-true}
use Rattle.std.proofs.lemmas.Bool.Decides.{nat_tests}
use Rattle.std.proofs.lemmas.List.{length-append, append-nil}
use Rattle.std.proofs.lemmas.Slice.Eq.{bytes_eq-Decides}
use Rattle.std.proofs.lemmas.Str.{length-encode, len_utf8_bounds}
use Rattle.kh_term.specs.declared.tree.TermTree.{TermTree}
use Rattle.kh_term.specs.declared.tree.TermTree.TheVariants as tree
use Rattle.kh_text_defs.specs.declared.mode.Mode.{Mode}
use Rattle.kh_text_defs.specs.declared.mode.Mode.TheVariants.{Script, Listing}
use Rattle.kh_text_defs.specs.Atoms.{is_word_byte, is_plain_word}
use Rattle.kh_text_defs.specs.Blanks.{is_space}
use Rattle.kh_text_defs.specs.Spelled.{Rules}
use Rattle.kh_text_defs.specs.Tokens.{are_digits, IsInteger, escaped, Character, as_it_is, by_letter, by_code, Characters, no_character, one_character, Quoted, SpellsAtom}
use Rattle.kh_read.specs.State.{Frame, Use, ForName, ForList, ForSegment, Quoting, Plain, Place, After, AfterName, Minus, Digits, Word, Fun, Quote, State, Setting, Step, Go, Reading}
use Rattle.kh_read.specs.Steps.{at, is_listing, signed, digit_of, takes_name, fits_here, with_digit, bound, used, quote_of, quote_ended, ends_well, name_ended, begin_name, begin_integer, step_place, read_on}
use Rattle.kh_read.proofs.TextCore.{spot, byte_goes, same_step, at_the_end, commented, space_step, comment_step, in_line, line_end}
use Rattle.kh_read.proofs.TextReads.{any}
use Rattle.kh_read.proofs.TextDigits.{first_value}
use Rattle.kh_read.proofs.TextWords.{no_word}
use Rattle.kh_read.proofs.TextPoints.{low_scalar, name_bound, same_quote}
use Rattle.kh_read.proofs.TextQuotes.{AreBelow, with_one}
use Rattle.kh_read.proofs.TextQuoted.{escaped_small, same_end, plain_ends}
use Rattle.kh_read.proofs.TextBrackets.{between_after}
use Rattle.kh_read.proofs.TextNames.{empty_name, named_off}
use Rattle.kh_read.proofs.TextReferences.{between_fun, fun_atom, atom_off, fun_off}
use Rattle.kh_read.proofs.TextLeads.{Leads, no_name, is_top, good_end, good_quiet, good_name, leads_first, leads_byte, leads_nothing, leads_then, fits_less, digits_grow, digits_lead, word_leads}
use Rattle.kh_read.proofs.TextLeadsQuotes.{with_all, quote_leads}

-- the state that is reached reads on as another
pub leads_turn : (σ : Setting) (s middle later : State) (text : List ℕ) (Q : List ℕ → Bool) → Leads σ s text middle any → ((q : ℕ) (rest : List ℕ) → Q rest ≡ true → read_on σ middle q rest ≡ read_on σ later q rest)
    → Leads σ s text later Q
leads_turn σ s middle later text Q first turn p rest q = first p rest refl ∙ turn (p + length text) rest q

pub no_word_no_digit : (b : ℕ) → is_word_byte b ≡ false → is_ascii_digit b ≡ false
no_word_no_digit b h = grind (arith, nat_tests)

-- ---- integers

module _ (σ : Setting) (fs : List Frame) (here : Place) (begins : (p b : ℕ) → (eqb b 45 || is_ascii_digit b) ≡ true → step_place σ here fs p b ≡ begin_integer σ.rules fs p b)
    (negative : Bool) (n : ℕ) (Q : List ℕ → Bool) (later : State) (turn : (first q : ℕ) (rest : List ℕ) → Q rest ≡ true → read_on σ (spot (Digits first negative n) fs) q rest ≡ read_on σ later q rest) where
  minus_step : (p b : ℕ) → is_ascii_digit b ≡ true → fits_here σ.rules fs true (digit_of b) ≡ true → (first : ℕ) → step_place σ (Minus first) fs p b ≡ at (Digits first true (digit_of b)) fs
  unfolding step_place
  minus_step p b e f first = rw (e, f) refl

  digit_no_minus : (b : ℕ) → is_ascii_digit b ≡ true → eqb b 45 ≡ false
  digit_no_minus b h = grind (arith, nat_tests)

  behind_first : (neg : Bool) (d : ℕ) (ds : List ℕ) → neg ≡ negative → list_all is_ascii_digit ds ≡ true → n ≡ digits_value_after 10 (digit_of d) ds → fits_here σ.rules fs negative n ≡ true
      → (first p : ℕ) (rest : List ℕ) → Q rest ≡ true → read_on σ (spot (Digits first neg (digit_of d)) fs) p (ds ++ rest) ≡ read_on σ later (p + length ds) rest
  behind_first neg d ds same each value fits first p rest quiet =
      let fit : fits_here σ.rules fs neg (digits_value_after 10 (digit_of d) ds) ≡ true = (λ i. fits_here σ.rules fs (same i) (sym value i)) ∙ fits in
      digits_lead σ fs first neg ds (digit_of d) each fit p rest refl
      ∙ ((λ i. read_on σ (spot (Digits first (same i) (sym value i)) fs) (p + length ds) rest) ∙ turn first (p + length ds) rest quiet)

  digits_text : (text : List ℕ) → false ≡ negative → are_digits text ≡ true → n ≡ digits_value 10 text → fits_here σ.rules fs negative n ≡ true → Leads σ (spot here fs) text later Q
  digits_text [] same are value fits = absurd (let no : false ≡ true = are in cc)
  digits_text (d ∷ ds) same are value fits = λ p rest quiet.
      let parts = and_parts (leb 1 (length (d ∷ ds))) (list_all is_ascii_digit (d ∷ ds)) are in
      let each = and_parts (is_ascii_digit d) (list_all is_ascii_digit ds) parts.1 in
      let is : n ≡ digits_value_after 10 (digit_of d) ds = value ∙ first_value d ds each.0 in
      let fit : fits_here σ.rules fs false (digit_of d) ≡ true = fits_less σ.rules fs false (digit_of d) n (omega (arith, is, digits_grow ds (digit_of d))) (ap (λ (g : Bool). fits_here σ.rules fs g n) same ∙ fits) in
      let place : suc p + length ds ≡ p + length (d ∷ ds) = omega arith in
      byte_goes σ here fs p d (ds ++ rest) _ (begins p d (or_right (eqb d 45) (is_ascii_digit d) each.0) ∙ rw (digit_no_minus d each.0, each.0, fit) refl)
      ∙ (behind_first false d ds same each.1 is fits p (suc p) rest quiet ∙ ap (λ (k : ℕ). read_on σ later k rest) place)

  minus_text : (text : List ℕ) → true ≡ negative → are_digits text ≡ true → n ≡ digits_value 10 text → fits_here σ.rules fs negative n ≡ true → Leads σ (spot here fs) (45 ∷ text) later Q
  minus_text [] same are value fits = absurd (let no : false ≡ true = are in cc)
  minus_text (d ∷ ds) same are value fits = λ p rest quiet.
      let parts = and_parts (leb 1 (length (d ∷ ds))) (list_all is_ascii_digit (d ∷ ds)) are in
      let each = and_parts (is_ascii_digit d) (list_all is_ascii_digit ds) parts.1 in
      let is : n ≡ digits_value_after 10 (digit_of d) ds = value ∙ first_value d ds each.0 in
      let fit : fits_here σ.rules fs true (digit_of d) ≡ true = fits_less σ.rules fs true (digit_of d) n (omega (arith, is, digits_grow ds (digit_of d))) (ap (λ (g : Bool). fits_here σ.rules fs g n) same ∙ fits) in
      let place : suc (suc p) + length ds ≡ p + length (45 ∷ d ∷ ds) = omega arith in
      byte_goes σ here fs p 45 (d ∷ (ds ++ rest)) _ (begins p 45 refl)
      ∙ (byte_goes σ (Minus p) fs (suc p) d (ds ++ rest) _ (minus_step (suc p) d each.0 fit p)
      ∙ (behind_first true d ds same each.1 is fits p (suc (suc p)) rest quiet ∙ ap (λ (k : ℕ). read_on σ later k rest) place))

-- an integer with a magnitude and a sign
pub record IsSigned (rules : Rules) (fs : List Frame) (text : List ℕ) (z : ℤ) : Type 0 where
  pub negative : Bool
  pub magnitude : ℕ
  pub digits : List ℕ
  pub are : are_digits digits ≡ true
  pub value : magnitude ≡ digits_value 10 digits
  pub same : signed negative magnitude ≡ z
  pub parts : text ≡ cond negative (45 ∷ digits) digits

pub signed_of : (rules : Rules) (fs : List Frame) (text : List ℕ) (z : ℤ) → IsInteger text z → IsSigned rules fs text z
signed_of rules fs text z (digits, are, inl h) = record { negative = false; magnitude = digits_value 10 digits; digits = digits; are = are; value = refl; same = sym h.1; parts = h.0 }
signed_of rules fs text z (digits, are, inr h) = record { negative = true; magnitude = digits_value 10 digits; digits = digits; are = are; value = refl; same = sym h.1; parts = h.0 }

pub integer_leads : (σ : Setting) (fs : List Frame) (here : Place) (text : List ℕ) (z : ℤ) (Q : List ℕ → Bool) (later : State)
    → ((p b : ℕ) → (eqb b 45 || is_ascii_digit b) ≡ true → step_place σ here fs p b ≡ begin_integer σ.rules fs p b)
    → (s : IsSigned σ.rules fs text z) → fits_here σ.rules fs s.negative s.magnitude ≡ true
    → ((first q : ℕ) (rest : List ℕ) → Q rest ≡ true → read_on σ (spot (Digits first s.negative s.magnitude) fs) q rest ≡ read_on σ later q rest)
    → Leads σ (spot here fs) text later Q
integer_leads σ fs here text z Q later begins s fits turn = subst (λ (t : List ℕ). Leads σ (spot here fs) t later Q) (sym s.parts) (go s.negative refl)
  where
    go : (neg : Bool) → neg ≡ s.negative → Leads σ (spot here fs) (cond neg (45 ∷ s.digits) s.digits) later Q
    go true e = minus_text σ fs here begins s.negative s.magnitude Q later turn s.digits e s.are s.value fits
    go false e = digits_text σ fs here begins s.negative s.magnitude Q later turn s.digits e s.are s.value fits

-- ---- names

character_scalar : (quote : ℕ) (text : List ℕ) (c : ℕ) → Character quote text c → IsScalar c
character_scalar quote text c (as_it_is t d scalar no_quote no_slash is) = scalar
character_scalar quote text c (by_letter t letter d is parts) = low_scalar c (omega (arith, escaped_small letter c is))
character_scalar quote text c (by_code t ds d are value scalar parts) = scalar

unfoldable pub AreScalars : List ℕ → Type 0
AreScalars [] = Unit {0}
AreScalars (c ∷ cs) = IsScalar c × AreScalars cs

pub scalars_of : (quote : ℕ) (text cs : List ℕ) → Characters quote text cs → AreScalars cs
unfolding AreScalars
scalars_of quote text cs no_character = tt
scalars_of quote text cs (one_character t first rest c others one more parts) = (character_scalar quote first c one, scalars_of quote rest others more)

pub scalar_top : (c : ℕ) → IsScalar c → c < 0x110000
scalar_top c e = go (ltb c 55296) refl
  where
    go : (t : Bool) → ltb c 55296 ≡ t → c < 0x110000
    go true h = omega (arith, ltb-true c 55296 h)
    go false h = ltb-true c 1114112 (and_parts (leb 57344 c) (ltb c 1114112) (ap (λ t. cond t true (leb 57344 c && ltb c 1114112)) (sym h) ∙ e)).1

one_len : (c : ℕ) → len_utf8 c ≤ 1 → c < 0x80
one_len c h = go (ltb c 0x80) (ltb c 0x800) (ltb c 0x10000) refl h
  where
    go : (t u v : Bool) → ltb c 0x80 ≡ t → cond t 1 (cond u 2 (cond v 3 4)) ≤ 1 → c < 0x80
    go true u v e k = ltb-true c 0x80 e
    go false true v e k = absurd (omega arith)
    go false false true e k = absurd (omega arith)
    go false false false e k = absurd (omega arith)

two_len : (c : ℕ) → len_utf8 c ≤ 2 → c < 0x800
two_len c h = go (ltb c 0x80) (ltb c 0x800) (ltb c 0x10000) refl refl h
  where
    go : (t u v : Bool) → ltb c 0x80 ≡ t → ltb c 0x800 ≡ u → cond t 1 (cond u 2 (cond v 3 4)) ≤ 2 → c < 0x800
    go true u v e f k = omega (arith, ltb-true c 0x80 e)
    go false true v e f k = ltb-true c 0x800 f
    go false false true e f k = absurd (omega arith)
    go false false false e f k = absurd (omega arith)

three_len : (c : ℕ) → len_utf8 c ≤ 3 → c < 0x10000
three_len c h = go (ltb c 0x80) (ltb c 0x800) (ltb c 0x10000) refl refl refl h
  where
    go : (t u v : Bool) → ltb c 0x80 ≡ t → ltb c 0x800 ≡ u → ltb c 0x10000 ≡ v → cond t 1 (cond u 2 (cond v 3 4)) ≤ 3 → c < 0x10000
    go true u v e f g k = omega (arith, ltb-true c 0x80 e)
    go false true v e f g k = omega (arith, ltb-true c 0x800 f)
    go false false true e f g k = ltb-true c 0x10000 g
    go false false false e f g k = absurd (omega arith)

room_below : (left c : ℕ) → IsScalar c → len_utf8 c ≤ left → c < name_bound (eqb left 0) (eqb left 1) (eqb left 2) (eqb left 3)
room_below left c scalar fits = go (eqb left 0) (eqb left 1) (eqb left 2) (eqb left 3) refl refl refl refl
  where
    go : (s t u v : Bool) → eqb left 0 ≡ s → eqb left 1 ≡ t → eqb left 2 ≡ u → eqb left 3 ≡ v → c < name_bound s t u v
    go true t u v e f g h = absurd (omega (arith, fits, eqb-true left 0 e, (len_utf8_bounds c).0))
    go false true u v e f g h = one_len c (omega (arith, fits, eqb-true left 1 f))
    go false false true v e f g h = two_len c (omega (arith, fits, eqb-true left 2 g))
    go false false false true e f g h = three_len c (omega (arith, fits, eqb-true left 3 h))
    go false false false false e f g h = scalar_top c scalar

name_below : (mode : Mode) (left : ℕ) (cs : List ℕ) → AreScalars cs → length (encode_utf8_all cs) ≤ left → AreBelow mode (ForName left) cs
unfolding AreScalars
name_below mode left [] scalars fits = tt
name_below mode left (c ∷ cs) scalars fits =
    let one : len_utf8 c ≤ left = omega (arith, fits, length-append (encode_utf8 c) (encode_utf8_all cs), length-encode c) in
    let others : length (encode_utf8_all cs) ≤ left - len_utf8 c = omega (arith, fits, length-append (encode_utf8 c) (encode_utf8_all cs), length-encode c) in
    (room_below left c scalars.0 one, name_below mode (left - len_utf8 c) cs scalars.1 others)

pub all_quote : (q : Quoting) (cs : List ℕ) → quote_of (with_all q cs).use_ ≡ quote_of q.use_
all_quote q [] = refl
all_quote q (c ∷ cs) = all_quote (with_one q c) cs ∙ same_quote q.use_ c

pub all_end : (fs : List Frame) (q : Quoting) (cs : List ℕ) → quote_ended fs (with_all q cs).use_ (with_all q cs).points ≡ quote_ended fs q.use_ (q.points ++ cs)
all_end fs q [] = ap (quote_ended fs q.use_) (sym (append-nil q.points))
all_end fs q (c ∷ cs) = all_end fs (with_one q c) cs ∙ (same_end fs q.use_ c ((q.points ++ c ∷ []) ++ cs) ∙ ap (quote_ended fs q.use_) (append_assoc q.points (c ∷ []) cs))

ends_same : (use_ : Use) (c : ℕ) (points : List ℕ) → ends_well (used use_ c) points ≡ ends_well use_ points
ends_same (ForName left) c points = refl
ends_same ForList c points = refl
ends_same ForSegment c points = refl

ends_all : (q : Quoting) (cs : List ℕ) → ends_well (with_all q cs).use_ (with_all q cs).points ≡ ends_well q.use_ (q.points ++ cs)
ends_all q [] = ap (ends_well q.use_) (sym (append-nil q.points))
ends_all q (c ∷ cs) = ends_all (with_one q c) cs ∙ (ends_same q.use_ c ((q.points ++ c ∷ []) ++ cs) ∙ ap (ends_well q.use_) (append_assoc q.points (c ∷ []) cs))

pub all_are : (cs : List ℕ) → AreScalars cs → all_scalars cs ≡ true
unfolding AreScalars
all_are [] scalars = refl
all_are (c ∷ cs) scalars = and_from _ _ scalars.0 (all_are cs scalars.1)

-- a text in quotes from its first quote
pub quoted_leads : (σ : Setting) (fs : List Frame) (here : Place) (use_ : Use) (text cs : List ℕ) → Quoted (quote_of use_) text cs → AreBelow σ.rules.mode use_ cs → ends_well use_ cs ≡ true
    → ((p : ℕ) → step_place σ here fs p (quote_of use_) ≡ at (Quote (record { use_ = use_; points = [] }) Plain) fs)
    → Leads σ (spot here fs) text (spot (quote_ended fs use_ cs) fs) any
quoted_leads σ fs here use_ text cs h below well begins =
    let q : Quoting = record { use_ = use_; points = [] } in
    subst (λ (t : List ℕ). Leads σ (spot here fs) t (spot (quote_ended fs use_ cs) fs) any) (sym h.parts)
    (leads_first σ here fs (quote_of use_) (h.inside ++ quote_of use_ ∷ []) (spot (Quote q Plain) fs) (spot (quote_ended fs use_ cs) fs) any begins
    (leads_then σ (spot (Quote q Plain) fs) (spot (Quote (with_all q cs) Plain) fs) (spot (quote_ended fs use_ cs) fs) h.inside (quote_of use_ ∷ []) any any
    (quote_leads σ fs q h.inside cs h.characters below)
    (leads_byte σ (Quote (with_all q cs) Plain) fs (quote_of use_) (spot (quote_ended fs use_ cs) fs)
    (λ p. plain_ends σ fs (with_all q cs) p (quote_of use_) (eq-eqb (quote_of use_) (quote_of (with_all q cs).use_) (sym (all_quote q cs))) (ends_all q cs ∙ well) ∙ ap (λ (k : Place). at k fs) (all_end fs q cs)))
    (λ rest k. refl)))

module _ (σ : Setting) (fs : List Frame) (here : Place) (begins : (p b : ℕ) → (is_ascii_lowercase b || eqb b 39) ≡ true → step_place σ here fs p b ≡ begin_name fs b)
    (name : List ℕ) (Q : List ℕ → Bool) (later : State) (turn : (q : ℕ) (rest : List ℕ) → Q rest ≡ true → read_on σ (spot (Word name) fs) q rest ≡ read_on σ later q rest) (same : spot (name_ended fs name) fs ≡ later) where
  word_text : (text : List ℕ) → text ≡ name → is_plain_word text ≡ true → length name ≤ 255 → Leads σ (spot here fs) text later Q
  word_text [] is plain short = absurd (let no : false ≡ true = plain in cc)
  word_text (b ∷ others) is plain short =
      let parts = and_parts (is_ascii_lowercase b) (list_all is_word_byte others) plain in
      leads_first σ here fs b others (spot (Word (b ∷ [])) fs) later Q (λ p. begins p b (or_left (is_ascii_lowercase b) (eqb b 39) parts.0) ∙ rw parts.0 refl)
      (leads_turn σ (spot (Word (b ∷ [])) fs) (spot (Word (b ∷ others)) fs) later others Q
      (word_leads σ fs others (b ∷ []) parts.1 (subst (λ (t : List ℕ). length t ≤ 255) (sym is) short))
      (λ q rest quiet. ap (λ (t : List ℕ). read_on σ (spot (Word t) fs) q rest) is ∙ turn q rest quiet))

  quote_text : (text cs : List ℕ) → Quoted 39 text cs → name ≡ encode_utf8_all cs → length name ≤ 255 → Leads σ (spot here fs) text later Q
  quote_text text cs h is short =
      leads_turn σ (spot here fs) (spot (quote_ended fs (ForName 255) cs) fs) later text Q
      (quoted_leads σ fs here (ForName 255) text cs h (name_below σ.rules.mode 255 cs (scalars_of 39 h.inside cs h.characters) (subst (λ (t : List ℕ). length t ≤ 255) is short))
      (and_from _ _ (all_are cs (scalars_of 39 h.inside cs h.characters)) (le-leb (length (encode_utf8_all cs)) 255 (subst (λ (t : List ℕ). length t ≤ 255) is short)))
      (λ p. begins p 39 refl))
      (λ q rest quiet. ap (λ (t : List ℕ). read_on σ (spot (name_ended fs t) fs) q rest) (sym is) ∙ ap (λ (s : State). read_on σ s q rest) same)

  pub atom_leads : (text : List ℕ) → SpellsAtom text name → Leads σ (spot here fs) text later Q
  atom_leads text (inl h, short) = word_text text h.0 (subst (λ (t : List ℕ). is_plain_word t ≡ true) (sym h.0) h.1) short
  atom_leads text (inr h, short) = quote_text text h.0 h.1 h.2 short

-- a name of a closure
pub name_leads : (σ : Setting) (fs : List Frame) (here : Place) (text name : List ℕ) → takes_name fs ≡ true
    → ((p b : ℕ) → (is_ascii_lowercase b || eqb b 39) ≡ true → step_place σ here fs p b ≡ begin_name fs b) → SpellsAtom text name → Leads σ (spot here fs) text (spot (AfterName name) fs) no_word
name_leads σ fs here text name takes begins h =
    atom_leads σ fs here begins name no_word (spot (AfterName name) fs) turn (ap (λ (t : Bool). spot (cond t (AfterName name) (After (tree.Atom name))) fs) takes) text h
  where
    turn : (q : ℕ) (rest : List ℕ) → no_word rest ≡ true → read_on σ (spot (Word name) fs) q rest ≡ read_on σ (spot (AfterName name) fs) q rest
    turn q [] quiet = at_the_end σ (spot (Word name) fs) q ∙ sym (at_the_end σ (spot (AfterName name) fs) q)
    turn q (b ∷ rest) quiet = same_step σ (Word name) (AfterName name) fs fs q b rest (named_off σ fs name q b takes (not-true _ quiet))

-- ---- an atom where a term stands

module _ (σ : Setting) (fs : List Frame) where
  -- where no name comes, the word `fun` of a listing reads on as the atom
  fun_alike : (c : Bool) (p : ℕ) (rest : List ℕ) → no_name c rest ≡ true → read_on σ (commented c Fun fs) p rest ≡ read_on σ (commented c (After (tree.Atom (codes "fun"))) fs) p rest
  fun_alike c p [] quiet = at_the_end σ (commented c Fun fs) p ∙ sym (at_the_end σ (commented c (After (tree.Atom (codes "fun"))) fs) p)
  fun_alike true p (b ∷ rest) quiet = go (eqb b 10) refl (λ d h. fun_alike d (suc p) rest h)
    where
      go : (t : Bool) → eqb b 10 ≡ t → ((d : Bool) → no_name d rest ≡ true → read_on σ (commented d Fun fs) (suc p) rest ≡ read_on σ (commented d (After (tree.Atom (codes "fun"))) fs) (suc p) rest)
          → read_on σ (commented true Fun fs) p (b ∷ rest) ≡ read_on σ (commented true (After (tree.Atom (codes "fun"))) fs) p (b ∷ rest)
      go true e more =
          line_end σ Fun fs (between_fun σ fs) p b rest e
          ∙ (more false (ap (λ (t : Bool). no_name (not t) rest) (sym e) ∙ quiet) ∙ sym (line_end σ (After (tree.Atom (codes "fun"))) fs (between_after σ (tree.Atom (codes "fun")) fs) p b rest e))
      go false e more =
          in_line σ Fun fs (between_fun σ fs) p b rest e
          ∙ (more true (ap (λ (t : Bool). no_name (not t) rest) (sym e) ∙ quiet) ∙ sym (in_line σ (After (tree.Atom (codes "fun"))) fs (between_after σ (tree.Atom (codes "fun")) fs) p b rest e))
  fun_alike false p (b ∷ rest) quiet = go (is_space b) (eqb b 37) refl refl (λ d h. fun_alike d (suc p) rest h)
    where
      chosen : (s m : Bool) → is_space b ≡ s → eqb b 37 ≡ m → cond s (no_name false rest) (cond m (no_name true rest) (not (is_ascii_lowercase b || eqb b 39))) ≡ true
      chosen s m e f = (λ i. cond (sym e i) (no_name false rest) (cond (sym f i) (no_name true rest) (not (is_ascii_lowercase b || eqb b 39)))) ∙ quiet

      go : (s m : Bool) → is_space b ≡ s → eqb b 37 ≡ m → ((d : Bool) → no_name d rest ≡ true → read_on σ (commented d Fun fs) (suc p) rest ≡ read_on σ (commented d (After (tree.Atom (codes "fun"))) fs) (suc p) rest)
          → read_on σ (spot Fun fs) p (b ∷ rest) ≡ read_on σ (spot (After (tree.Atom (codes "fun"))) fs) p (b ∷ rest)
      go true m e f more =
          byte_goes σ Fun fs p b rest _ (space_step σ Fun fs (between_fun σ fs) p b e)
          ∙ (more false (chosen true m e f) ∙ sym (byte_goes σ (After (tree.Atom (codes "fun"))) fs p b rest _ (space_step σ (After (tree.Atom (codes "fun"))) fs (between_after σ (tree.Atom (codes "fun")) fs) p b e)))
      go false true e f more =
          byte_goes σ Fun fs p b rest _ (comment_step σ Fun fs (between_fun σ fs) p b e f)
          ∙ (more true (chosen false true e f) ∙ sym (byte_goes σ (After (tree.Atom (codes "fun"))) fs p b rest _ (comment_step σ (After (tree.Atom (codes "fun"))) fs (between_after σ (tree.Atom (codes "fun")) fs) p b e f)))
      go false false e f more =
          same_step σ Fun (After (tree.Atom (codes "fun"))) fs fs p b rest (fun_atom σ fs p b (or_from _ _ e f) (not-true _ (chosen false false e f)))

  pub term_atom_leads : (here : Place) (text name : List ℕ) → takes_name fs ≡ false
      → ((p b : ℕ) → (is_ascii_lowercase b || eqb b 39) ≡ true → step_place σ here fs p b ≡ begin_name fs b) → SpellsAtom text name → Leads σ (spot here fs) text (spot (After (tree.Atom name)) fs) (good_end (is_top fs))
  term_atom_leads here text name takes begins h =
      atom_leads σ fs here begins name (good_end (is_top fs)) (spot (After (tree.Atom name)) fs) turn (ap (λ (t : Bool). spot (cond t (AfterName name) (After (tree.Atom name))) fs) takes) text h
    where
      turn : (q : ℕ) (rest : List ℕ) → good_end (is_top fs) rest ≡ true → read_on σ (spot (Word name) fs) q rest ≡ read_on σ (spot (After (tree.Atom name)) fs) q rest
      turn q [] good = at_the_end σ (spot (Word name) fs) q ∙ sym (at_the_end σ (spot (After (tree.Atom name)) fs) q)
      turn q (b ∷ rest) good = choose (is_listing σ.rules.mode && bytes_eq name (codes "fun")) refl
        where
          quiet : is_word_byte b ≡ false
          quiet = not-true (is_word_byte b) (good_quiet (is_top fs) (b ∷ rest) good)

          choose : (t : Bool) → (is_listing σ.rules.mode && bytes_eq name (codes "fun")) ≡ t → read_on σ (spot (Word name) fs) q (b ∷ rest) ≡ read_on σ (spot (After (tree.Atom name)) fs) q (b ∷ rest)
          choose false e = same_step σ (Word name) (After (tree.Atom name)) fs fs q b rest (atom_off σ fs name q b takes e quiet)
          choose true e =
              let same : name ≡ codes "fun" = (bytes_eq-Decides name (codes "fun")).0 (and_parts (is_listing σ.rules.mode) (bytes_eq name (codes "fun")) e).1 in
              same_step σ (Word name) Fun fs fs q b rest (fun_off σ fs name q b takes e quiet)
              ∙ (fun_alike false q (b ∷ rest) (good_name (is_top fs) (b ∷ rest) good) ∙ ap (λ (n : List ℕ). read_on σ (spot (After (tree.Atom n)) fs) q (b ∷ rest)) (sym same))
