-- Reading atoms.
use Rattle.std.proofs.Common.{◌≡◌, ◌≤◌, ◌<◌, ℕ, zero, suc, ◌+◌, ◌-◌, Bool, true, false, not, ◌&&◌, ◌||◌, cond, eqb, ltb, List, [], ◌∷◌, ◌++◌, length, inl, inr, refl, sym, ap, subst, ◌∙◌, arith, append_assoc}
use Rattle.std.specs.Prelude.{◌⊎◌}
use Rattle.std.specs.Char.{is_ascii_lowercase, encode_utf8, len_utf8}
use Rattle.std.specs.List.{list_all}
use Rattle.std.specs.Prelude.{codes}
use Rattle.std.specs.Str.{bytes_eq, encode_utf8_all}
use Rattle.std.proofs.lemmas.Bool.{eqb-true, eqb-false, eq-eqb, ltb-true, not_from_false, and_from, and_parts, not-true}
use Rattle.std.proofs.lemmas.Bool.Decides.{nat_tests}
use Rattle.std.proofs.lemmas.List.{length-append, append-nil}
use Rattle.std.proofs.lemmas.Str.{length-encode, len_utf8_bounds}
use Rattle.kh_term.specs.declared.tree.TermTree.{TermTree}
use Rattle.kh_term.specs.declared.tree.TermTree.TheVariants as tree
use Rattle.kh_text_defs.specs.declared.mode.Mode.{Mode}
use Rattle.kh_text_defs.specs.Atoms.{is_word_byte, is_plain_word}
use Rattle.kh_text_defs.specs.Spelled.{Rules, SpellsFlat, atom}
use Rattle.kh_text_defs.specs.Tokens.{Characters, Quoted, SpellsAtom}
use Rattle.kh_read.specs.State.{Frame, Use, ForName, Quoting, Plain, Place, After, AfterName, Word, Fun, Quote, State, Setting, Halt, Syntax, Step, Stop, Reading, Cut}
use Rattle.kh_read.specs.Steps.{at, fault, is_listing, takes_name, bound, used, quote_ended, name_ended, word_ended, begin_name, step_word, step_between, step_place, read_on}
use Rattle.kh_read.proofs.TextCore.{spot, byte_goes, byte_stops, same_step, at_the_end}
use Rattle.kh_read.proofs.TextReads.{Reads, whole, part, halted, any, reads_as}
use Rattle.kh_read.proofs.TextWords.{no_word, MoreWord, word, word_ends}
use Rattle.kh_read.proofs.TextQuotes.{reads_byte, AreBelow, PlainRest, Valid}
use Rattle.kh_read.proofs.TextQuoted.{quoted}
use Rattle.kh_read.proofs.TextPoints.{name_bound}

-- ---- how long a name is

len_one : (c : ℕ) → c < 0x80 → len_utf8 c ≤ 1
len_one c small = grind (arith, nat_tests)

len_two : (c : ℕ) → c < 0x800 → len_utf8 c ≤ 2
len_two c small = go (ltb c 0x80) refl
  where
    go : (t : Bool) → ltb c 0x80 ≡ t → len_utf8 c ≤ 2
    go true e = grind (arith, nat_tests, e)
    go false e = grind (arith, nat_tests, e)

len_three : (c : ℕ) → c < 0x10000 → len_utf8 c ≤ 3
len_three c small = go (ltb c 0x80) (ltb c 0x800) refl refl
  where
    go : (t u : Bool) → ltb c 0x80 ≡ t → ltb c 0x800 ≡ u → len_utf8 c ≤ 3
    go true u e f = grind (arith, nat_tests, e)
    go false true e f = grind (arith, nat_tests, e, f)
    go false false e f = grind (arith, nat_tests, e, f)

-- a code point below the bound has room
room_for : (left c : ℕ) → c < name_bound (eqb left 0) (eqb left 1) (eqb left 2) (eqb left 3) → len_utf8 c ≤ left
room_for left c = go (eqb left 0) (eqb left 1) (eqb left 2) (eqb left 3) refl refl refl refl
  where
    go : (s t u v : Bool) → eqb left 0 ≡ s → eqb left 1 ≡ t → eqb left 2 ≡ u → eqb left 3 ≡ v → c < name_bound s t u v → len_utf8 c ≤ left
    go true t u v e f g h below = absurd (omega arith)
    go false true u v e f g h below = omega (arith, len_one c below, eqb-true left 1 f)
    go false false true v e f g h below = omega (arith, len_two c below, eqb-true left 2 g)
    go false false false true e f g h below = omega (arith, len_three c below, eqb-true left 3 h)
    go false false false false e f g h below =
        let a = eqb-false left 0 e in
        let b = eqb-false left 1 f in
        let d = eqb-false left 2 g in
        let k = eqb-false left 3 h in
        omega (arith, (len_utf8_bounds c).1, a, b, d, k)

pub below_length : (mode : Mode) (left : ℕ) (cs : List ℕ) → AreBelow mode (ForName left) cs → length (encode_utf8_all cs) ≤ left
below_length mode left [] below = omega arith
below_length mode left (c ∷ cs) below =
    let one = room_for left c below.0 in
    let others = below_length mode (left - len_utf8 c) cs below.1 in
    omega (arith, one, others, length-append (encode_utf8 c) (encode_utf8_all cs), length-encode c)

-- ---- words and quoted names

abbrev pub empty_name : Quoting
empty_name = record { use_ = ForName 255; points = [] }

plain_name : (b : ℕ) (text name : List ℕ) → is_ascii_lowercase b ≡ true → MoreWord (b ∷ []) text name → SpellsAtom (b ∷ text) name
plain_name b text name e more =
    (inl (sym more.value, subst (λ (w : List ℕ). is_plain_word w ≡ true) (sym more.value) (and_from _ _ e more.each)), more.short)

quoted_name : (mode : Mode) (text points : List ℕ) → PlainRest mode empty_name text points → SpellsAtom (39 ∷ text) (encode_utf8_all points)
quoted_name mode text points h = (
  inr (points, record { inside = h.inside; characters = subst (λ (cs : List ℕ). Characters 39 h.inside cs) (sym h.value) h.characters; parts = ap (λ (t : List ℕ). 39 ∷ t) h.parts }, refl),
  subst (λ (cs : List ℕ). length (encode_utf8_all cs) ≤ 255) (sym h.value) (below_length mode 255 h.more h.below),
)

module _ (σ : Setting) (fs : List Frame) (A : Type 0) (Stands : List ℕ → A → Type 0) (make : List ℕ → A) (next : A → State)
    (stands : (text name : List ℕ) → SpellsAtom text name → Stands text (make name))
    (word_then : (text u : List ℕ) (c : ℕ) (after : List ℕ) (p q : ℕ) (start : Reading) → text ≡ u ++ c ∷ after → SpellsAtom u u → is_word_byte c ≡ false
    → start ≡ read_on σ (spot (Word u) fs) q (c ∷ after) → q ≡ p + length u → Reads σ any Stands next p text start)
    (quote_goes : (name : List ℕ) → spot (name_ended fs name) fs ≡ next (make name)) where
  word_end : (b p : ℕ) (rest : List ℕ) (start : Reading) → is_ascii_lowercase b ≡ true → start ≡ read_on σ (spot (Word (b ∷ [])) fs) (suc p) rest
      → Reads σ no_word (MoreWord (b ∷ [])) (λ n. spot (Word n) fs) (suc p) rest (read_on σ (spot (Word (b ∷ [])) fs) (suc p) rest)
      → Reads σ any Stands next p (b ∷ rest) start
  word_end b p rest start e goes (whole u [] name q parts more good h place) =
      part [] (make name) (goes ∙ (h ∙ at_the_end σ (spot (Word name) fs) q))
      (subst (λ (t : List ℕ). Stands t (make name)) (ap (λ (t : List ℕ). b ∷ t) (sym (append-nil rest ∙ (parts ∙ append-nil u)))) (stands (b ∷ u) name (plain_name b u name e more)))
  word_end b p rest start e goes (whole u (c ∷ after) name q parts more good h place) =
      word_then (b ∷ rest) (b ∷ u) c after p q start (ap (λ (t : List ℕ). b ∷ t) parts)
      (subst (λ (n : List ℕ). SpellsAtom (b ∷ u) n) more.value (plain_name b u name e more)) (not-true _ good)
      (goes ∙ (h ∙ ap (λ (n : List ℕ). read_on σ (spot (Word n) fs) q (c ∷ after)) more.value)) (omega (arith, place))
  word_end b p rest start e goes (part m name h more) = part m (make name) (goes ∙ h) (stands (b ∷ (rest ++ m)) name (plain_name b (rest ++ m) name e more))
  word_end b p rest start e goes (halted halt q h) = halted halt q (goes ∙ h)

  pub name_begins : (here : Place) (p b : ℕ) (rest : List ℕ) → step_place σ here fs p b ≡ begin_name fs b → Reads σ any Stands next p (b ∷ rest) (read_on σ (spot here fs) p (b ∷ rest))
  name_begins here p b rest begins = go (is_ascii_lowercase b) (eqb b 39) refl refl
    where
      go : (l q : Bool) → is_ascii_lowercase b ≡ l → eqb b 39 ≡ q → Reads σ any Stands next p (b ∷ rest) (read_on σ (spot here fs) p (b ∷ rest))
      go true q e f =
          let step_is : step_place σ here fs p b ≡ at (Word (b ∷ [])) fs = begins ∙ rw e refl in
          word_end b p rest _ e (byte_goes σ here fs p b rest _ step_is) (word σ fs rest (b ∷ []) (suc p) (omega arith))
      go false true e f =
          let step_is : step_place σ here fs p b ≡ at (Quote empty_name Plain) fs = begins ∙ rw (e, f) refl in
          reads_byte σ any (PlainRest σ.rules.mode empty_name) Stands (λ points. spot (quote_ended fs (ForName 255) points) fs) next (λ points. make (encode_utf8_all points)) p b rest _ _
          (λ u points r. subst (λ (c : ℕ). Stands (c ∷ u) (make (encode_utf8_all points))) (sym (eqb-true b 39 f)) (stands (39 ∷ u) (encode_utf8_all points) (quoted_name σ.rules.mode u points r)))
          (λ points. quote_goes (encode_utf8_all points)) (byte_goes σ here fs p b rest _ step_is)
          (quoted σ fs rest empty_name Plain (suc p) tt)
      go false false e f =
          let step_is : step_place σ here fs p b ≡ fault = begins ∙ rw (e, f) refl in
          halted Syntax p (byte_stops σ here fs p b rest _ step_is)

pub named_off : (σ : Setting) (fs : List Frame) (name : List ℕ) (q b : ℕ) → takes_name fs ≡ true → is_word_byte b ≡ false → step_place σ (Word name) fs q b ≡ step_place σ (AfterName name) fs q b
unfolding step_place
named_off σ fs name q b takes e = word_ends σ fs name q b e ∙ ap (λ (t : Bool). step_between σ (cond t (AfterName name) (cond (is_listing σ.rules.mode && bytes_eq name (codes "fun")) Fun (After (tree.Atom name)))) fs q b) takes

-- a word ends, where the state behind it reads on as one behind its name
pub word_is : (σ : Setting) (fs : List Frame) (A : Type 0) (Stands : List ℕ → A → Type 0) (make : List ℕ → A) (next : A → State)
    → ((text name : List ℕ) → SpellsAtom text name → Stands text (make name)) → (text u : List ℕ) (c : ℕ) (after : List ℕ) (p q : ℕ) (start : Reading) → text ≡ u ++ c ∷ after → SpellsAtom u u
    → read_on σ (spot (Word u) fs) q (c ∷ after) ≡ read_on σ (next (make u)) q (c ∷ after) → start ≡ read_on σ (spot (Word u) fs) q (c ∷ after) → q ≡ p + length u → Reads σ any Stands next p text start
word_is σ fs A Stands make next stands text u c after p q start parts is same e place = whole u (c ∷ after) (make u) q parts (stands u u is) refl (e ∙ same) place

-- a name of a closure
pub named : (σ : Setting) (fs : List Frame) → takes_name fs ≡ true → (here : Place) (p b : ℕ) (rest : List ℕ) → step_place σ here fs p b ≡ begin_name fs b
    → Reads σ any SpellsAtom (λ name. spot (AfterName name) fs) p (b ∷ rest) (read_on σ (spot here fs) p (b ∷ rest))
named σ fs takes = name_begins σ fs (List ℕ) SpellsAtom (λ name. name) (λ name. spot (AfterName name) fs) (λ text name r. r)
    (λ text u c after p q start parts is e goes place. word_is σ fs (List ℕ) SpellsAtom (λ name. name) (λ name. spot (AfterName name) fs) (λ t name r. r) text u c after p q start parts is
    (same_step σ (Word u) (AfterName u) fs fs q c after (named_off σ fs u q c takes e)) goes place)
    (λ name. ap (λ (t : Bool). spot (cond t (AfterName name) (After (tree.Atom name))) fs) takes)
