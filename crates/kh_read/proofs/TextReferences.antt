-- Reading an atom where a term stands: in a listing `fun` may begin a function by module, name and arity.
use Rattle.std.proofs.Common.{◌≡◌, ◌≤◌, ◌<◌, ℕ, zero, suc, ◌+◌, Bool, true, false, not, ◌&&◌, ◌||◌, cond, eqb, List, [], ◌∷◌, ◌++◌, length, inl, inr, refl, sym, ap, subst, ◌∙◌, arith, append_assoc, IsTrue}
use Rattle.std.specs.Prelude.{◌⊎◌, codes}
use Rattle.std.specs.Char.{is_ascii_digit, is_ascii_lowercase}
use Rattle.std.specs.List.{list_all}
use Rattle.std.specs.Str.{bytes_eq}
use Rattle.std.proofs.lemmas.Bool.{eqb-true, not_from_false, and_from, and_parts, not-true}
use Rattle.std.proofs.lemmas.List.{append-nil, length-append}
use Rattle.std.proofs.lemmas.Slice.Eq.{bytes_eq-Decides}
use Rattle.kh_term.specs.declared.tree.TermTree.{TermTree}
use Rattle.kh_term.specs.declared.tree.TermTree.TheVariants as tree
use Rattle.kh_text_defs.specs.declared.mode.Mode.{Mode}
use Rattle.kh_text_defs.specs.declared.mode.Mode.TheVariants.{Script, Listing}
use Rattle.kh_text_defs.specs.Atoms.{is_word_byte}
use Rattle.kh_text_defs.specs.Blanks.{is_space, IsBlank, no_blank, space, Wide, begins_no_blank}
use Rattle.kh_text_defs.specs.Spelled.{Rules, unsupported, begins_no_word, SpellsFlat, atom, reference}
use Rattle.kh_text_defs.specs.Tokens.{are_digits, SpellsAtom}
use Rattle.kh_read.specs.State.{Frame, InReference, InReferenceName, Place, Before, After, AfterName, Word, Fun, CountMark, Count, State, Setting, Halt, Syntax, Step, Stop, Reading, Cut}
use Rattle.kh_read.specs.Steps.{at, fault, is_listing, takes_name, begin_name, word_ended, step_before, step_after, step_after_name, step_fun, step_mark, step_between, more_digits, step_place, read_on}
use Rattle.kh_read.proofs.TextCore.{spot, byte_goes, byte_stops, same_step, at_the_end, IsBetween, is_blank_byte, Skips, to_mark, to_end, skips}
use Rattle.kh_read.proofs.TextReads.{Reads, whole, part, halted, any, reads_as, wide, leading, reads_then, Then, Sample, Marked, only_mark, reads_front}
use Rattle.kh_read.proofs.TextWords.{no_word, word_ends}
use Rattle.kh_read.proofs.TextDigits.{some_digits}
use Rattle.kh_read.proofs.TextQuotes.{reads_byte}
use Rattle.kh_read.proofs.TextBrackets.{mark_step, between_before, between_after, before_step, after_step}
use Rattle.kh_read.proofs.TextNames.{name_begins, word_is, named}
use Rattle.kh_read.proofs.TextClosures.{between_name}
use Rattle.kh_read.proofs.TextLeads.{blank_leads}

-- blanks, and digits
pub record CountText (text : List ℕ) (t : TermTree) : Type 0 where
  pub gap : List ℕ
  pub digits : List ℕ
  pub blank : IsBlank gap
  pub are : are_digits digits ≡ true
  pub same : t ≡ unsupported
  pub parts : text ≡ gap ++ digits

abbrev FunName : List ℕ → List ℕ → TermTree → Type 0
FunName f = Marked 47 CountText

-- what comes behind the module's name
abbrev FunRest : List ℕ → List ℕ → TermTree → Type 0
FunRest m = Marked 58 (Then (Wide SpellsAtom) FunName)

abbrev FunText : List ℕ → TermTree → Type 0
FunText = Then (Wide SpellsAtom) FunRest

letter_a : SpellsAtom (97 ∷ []) (97 ∷ [])
letter_a = (inl (refl, refl), omega arith)

wide_a : Wide SpellsAtom (97 ∷ []) (97 ∷ [])
wide_a = record { before = []; inside = 97 ∷ []; behind = []; blank_before = no_blank; stands = letter_a; blank_behind = no_blank; parts = refl }

count_0 : CountText (48 ∷ []) unsupported
count_0 = record { gap = []; digits = 48 ∷ []; blank = no_blank; are = refl; same = refl; parts = refl }

name_text : (f : List ℕ) → FunName f (47 ∷ 48 ∷ []) unsupported
name_text f = record { behind = 48 ∷ []; stands = count_0; parts = refl }

rest_text : (m : List ℕ) → FunRest m (58 ∷ 97 ∷ 47 ∷ 48 ∷ []) unsupported
rest_text m = record {
  behind = 97 ∷ 47 ∷ 48 ∷ [];
  stands = record { first = 97 ∷ []; value = 97 ∷ []; second = 47 ∷ 48 ∷ []; is_first = wide_a; is_second = name_text (97 ∷ []); parts = refl };
  parts = refl;
}

name_sample : (f : List ℕ) → Sample (FunName f)
name_sample f = record { text = 47 ∷ 48 ∷ []; value = unsupported; stands = name_text f }

rest_sample : (m : List ℕ) → Sample (FunRest m)
rest_sample m = record { text = 58 ∷ 97 ∷ 47 ∷ 48 ∷ []; value = unsupported; stands = rest_text m }

abbrev AreMore : List ℕ → TermTree → Type 0
AreMore text t = (list_all is_ascii_digit text ≡ true) × (t ≡ unsupported)

-- its parts are those of a function's text
reference_of : (rules : Rules) (text : List ℕ) (t : TermTree) → rules.mode ≡ Listing → no_word text ≡ true → FunText text t → SpellsFlat rules (codes "fun" ++ text) t
reference_of rules text t listing quiet h =
    let k = h.is_second.stands in
    let c = k.is_second.stands in
    subst (λ (u : TermTree). SpellsFlat rules (codes "fun" ++ text) u) (sym c.same)
    (reference _ h.first k.first c.gap c.digits h.value k.value listing h.is_first k.is_first c.blank c.are (front h.first (h.is_second.behind) (h.parts ∙ ap (λ (w : List ℕ). h.first ++ w) h.is_second.parts))
    (ap (λ (w : List ℕ). codes "fun" ++ w) (h.parts ∙ ap (λ (w : List ℕ). h.first ++ w) (h.is_second.parts ∙ ap (λ (w : List ℕ). 58 ∷ w) (k.parts ∙ ap (λ (w : List ℕ). k.first ++ w) (k.is_second.parts ∙ ap (λ (w : List ℕ). 47 ∷ w) c.parts))))))
  where
    front : (first behind : List ℕ) → text ≡ first ++ 58 ∷ behind → begins_no_word first ≡ true
    front [] behind parts = refl
    front (b ∷ first) behind parts = ap no_word (sym parts) ∙ quiet

module _ (σ : Setting) (fs : List Frame) where
  -- ---- the digits

  pub count_on : (p b : ℕ) → is_ascii_digit b ≡ true → step_place σ Count fs p b ≡ at Count fs
  unfolding step_place
  count_on p b e = rw e refl

  pub count_off : (p b : ℕ) → is_ascii_digit b ≡ false → step_place σ Count fs p b ≡ step_place σ (After unsupported) fs p b
  unfolding step_place
  count_off p b e = rw e refl

  count : (text : List ℕ) (p : ℕ) → Reads σ any AreMore (λ t. spot (After t) fs) p text (read_on σ (spot Count fs) p text)
  count [] p = part [] unsupported (at_the_end σ (spot Count fs) p) (refl, refl)
  count (b ∷ bytes) p = go (is_ascii_digit b) refl (count bytes (suc p))
    where
      go : (t : Bool) → is_ascii_digit b ≡ t → Reads σ any AreMore (λ t. spot (After t) fs) (suc p) bytes (read_on σ (spot Count fs) (suc p) bytes)
          → Reads σ any AreMore (λ t. spot (After t) fs) p (b ∷ bytes) (read_on σ (spot Count fs) p (b ∷ bytes))
      go true e more =
          reads_byte σ any AreMore AreMore (λ t. spot (After t) fs) (λ t. spot (After t) fs) (λ t. t) p b bytes _ _
          (λ u t r. (and_from _ _ e r.0, r.1)) (λ t. refl) (byte_goes σ Count fs p b bytes _ (count_on p b e)) more
      go false e more = whole [] (b ∷ bytes) unsupported p refl (refl, refl) refl (same_step σ Count (After unsupported) fs fs p b bytes (count_off p b e)) (omega arith)

  pub between_count : IsBetween σ CountMark fs
  unfolding step_place
  between_count = record { steps = λ p b. refl; ends = λ p. refl }

  pub count_step : (p b : ℕ) → is_blank_byte b ≡ false → step_place σ CountMark fs p b ≡ cond (is_ascii_digit b) (at Count fs) fault
  unfolding step_mark
  count_step p b mark = mark_step σ CountMark fs p b between_count mark

  counts : (p : ℕ) (text : List ℕ) → Reads σ any CountText (λ t. spot (After t) fs) p text (read_on σ (spot CountMark fs) p text)
  counts p text = go (skips σ CountMark fs between_count false p text)
    where
      go : Skips σ CountMark fs false p text → Reads σ any CountText (λ t. spot (After t) fs) p text (read_on σ (spot CountMark fs) p text)
      go (to_end more cut blanks ends) =
          part (more ++ 48 ∷ []) unsupported cut
          (record { gap = text ++ more; digits = 48 ∷ []; blank = blanks; are = refl; same = refl; parts = sym (append_assoc text more (48 ∷ [])) })
      go (to_mark blank b rest q parts blanks mark goes place) = choose (is_ascii_digit b) refl
        where
          of : (u : List ℕ) (t : TermTree) → is_ascii_digit b ≡ true → AreMore u t → CountText (blank ++ b ∷ u) t
          of u t e h = record { gap = blank; digits = b ∷ u; blank = blanks; are = some_digits b u e h.0; same = h.1; parts = refl }

          choose : (d : Bool) → is_ascii_digit b ≡ d → Reads σ any CountText (λ t. spot (After t) fs) p text (read_on σ (spot CountMark fs) p text)
          choose true e =
              reads_front σ any CountText (λ t. spot (After t) fs) blank p q text (b ∷ rest) _ parts place
              (reads_byte σ any AreMore (λ u t. CountText (blank ++ u) t) (λ t. spot (After t) fs) (λ t. spot (After t) fs) (λ t. t) q b rest _ _
              (λ u t r. of u t e r) (λ t. refl) (goes ∙ byte_goes σ CountMark fs q b rest _ (count_step q b mark ∙ rw e refl)) (count rest (suc q)))
          choose false e = halted Syntax q (goes ∙ byte_stops σ CountMark fs q b rest _ (count_step q b mark ∙ rw e refl))

  -- ---- the names

  pub first_begins : (p b : ℕ) → is_blank_byte b ≡ false → step_place σ Before (InReference ∷ fs) p b ≡ begin_name (InReference ∷ fs) b
  unfolding step_before
  first_begins p b mark = before_step σ (InReference ∷ fs) p b mark

  pub second_begins : (p b : ℕ) → is_blank_byte b ≡ false → step_place σ Before (InReferenceName ∷ fs) p b ≡ begin_name (InReferenceName ∷ fs) b
  unfolding step_before
  second_begins p b mark = before_step σ (InReferenceName ∷ fs) p b mark

  pub behind_module : (m : List ℕ) (p b : ℕ) → is_blank_byte b ≡ false → step_place σ (AfterName m) (InReference ∷ fs) p b ≡ cond (eqb b 58) (at Before (InReferenceName ∷ fs)) fault
  unfolding step_mark step_after_name
  behind_module m p b mark = mark_step σ (AfterName m) (InReference ∷ fs) p b (between_name σ m (InReference ∷ fs)) mark

  pub behind_function : (f : List ℕ) (p b : ℕ) → is_blank_byte b ≡ false → step_place σ (AfterName f) (InReferenceName ∷ fs) p b ≡ cond (eqb b 47) (at CountMark fs) fault
  unfolding step_mark step_after_name
  behind_function f p b mark = mark_step σ (AfterName f) (InReferenceName ∷ fs) p b (between_name σ f (InReferenceName ∷ fs)) mark

  wide_function : (p : ℕ) (text : List ℕ) → Reads σ begins_no_blank (Wide SpellsAtom) (λ f. spot (AfterName f) (InReferenceName ∷ fs)) p text (read_on σ (spot Before (InReferenceName ∷ fs)) p text)
  wide_function = wide σ SpellsAtom (InReferenceName ∷ fs) AfterName (λ f. InReferenceName ∷ fs) (between_before σ (InReferenceName ∷ fs)) (λ f. between_name σ f (InReferenceName ∷ fs)) (97 ∷ []) (97 ∷ []) letter_a
      (λ b rest q mark. named σ (InReferenceName ∷ fs) refl Before q b rest (second_begins q b mark))

  functions : (p : ℕ) (text : List ℕ) → Reads σ any (Then (Wide SpellsAtom) FunName) (λ t. spot (After t) fs) p text (read_on σ (spot Before (InReferenceName ∷ fs)) p text)
  functions p text =
      reads_then σ any (Wide SpellsAtom) FunName (λ f. spot (AfterName f) (InReferenceName ∷ fs)) (λ t. spot (After t) fs) (λ f q. at_the_end σ (spot (AfterName f) (InReferenceName ∷ fs)) q) name_sample
      (λ f q b rest mark. only_mark σ any 47 CountText (λ t. spot (After t) fs) q b rest _ _ Syntax
      (λ e. byte_goes σ (AfterName f) (InReferenceName ∷ fs) q b rest _ (behind_function f q b mark ∙ rw e refl))
      (λ e. byte_stops σ (AfterName f) (InReferenceName ∷ fs) q b rest _ (behind_function f q b mark ∙ rw e refl)) (counts (suc q) rest))
      p text _ (wide_function p text)

  modules : (p : ℕ) (text : List ℕ) (start : Reading) → Reads σ begins_no_blank (Wide SpellsAtom) (λ m. spot (AfterName m) (InReference ∷ fs)) p text start → Reads σ any FunText (λ t. spot (After t) fs) p text start
  modules = reads_then σ any (Wide SpellsAtom) FunRest (λ m. spot (AfterName m) (InReference ∷ fs)) (λ t. spot (After t) fs) (λ m q. at_the_end σ (spot (AfterName m) (InReference ∷ fs)) q) rest_sample
      (λ m q b rest mark. only_mark σ any 58 (Then (Wide SpellsAtom) FunName) (λ t. spot (After t) fs) q b rest _ _ Syntax
      (λ e. byte_goes σ (AfterName m) (InReference ∷ fs) q b rest _ (behind_module m q b mark ∙ rw e refl))
      (λ e. byte_stops σ (AfterName m) (InReference ∷ fs) q b rest _ (behind_module m q b mark ∙ rw e refl)) (functions (suc q) rest))

  -- ---- behind the word

  pub between_fun : IsBetween σ Fun fs
  unfolding step_place
  between_fun = record { steps = λ p b. refl; ends = λ p. refl }

  pub fun_name : (p b : ℕ) → is_blank_byte b ≡ false → (is_ascii_lowercase b || eqb b 39) ≡ true → step_place σ Fun fs p b ≡ begin_name (InReference ∷ fs) b
  unfolding step_mark
  fun_name p b mark e = mark_step σ Fun fs p b between_fun mark ∙ rw e refl

  fun_other : (p b : ℕ) → is_blank_byte b ≡ false → (is_ascii_lowercase b || eqb b 39) ≡ false → step_place σ Fun fs p b ≡ step_after σ.sized fs (tree.Atom (codes "fun")) b
  unfolding step_mark
  fun_other p b mark e = mark_step σ Fun fs p b between_fun mark ∙ rw e refl

  -- a byte that begins no name, as behind the atom
  pub fun_atom : (p b : ℕ) → is_blank_byte b ≡ false → (is_ascii_lowercase b || eqb b 39) ≡ false → step_place σ Fun fs p b ≡ step_place σ (After (tree.Atom (codes "fun"))) fs p b
  fun_atom p b mark e = fun_other p b mark e ∙ sym (after_step σ (tree.Atom (codes "fun")) fs p b mark)

  -- a byte that begins a name, as where the module's name has to come
  pub fun_module : (p b : ℕ) → is_blank_byte b ≡ false → (is_ascii_lowercase b || eqb b 39) ≡ true → step_place σ Fun fs p b ≡ step_place σ Before (InReference ∷ fs) p b
  fun_module p b mark e = fun_name p b mark e ∙ sym (first_begins p b mark)

  fun_sample : (c : ℕ) (after more : List ℕ) → IsBlank ((c ∷ after) ++ more) → FunText ((c ∷ after) ++ (more ++ 97 ∷ 58 ∷ 97 ∷ 47 ∷ 48 ∷ [])) unsupported
  fun_sample c after more blanks = record {
    first = ((c ∷ after) ++ more) ++ 97 ∷ [];
    value = 97 ∷ [];
    second = 58 ∷ 97 ∷ 47 ∷ 48 ∷ [];
    is_first = record { before = (c ∷ after) ++ more; inside = 97 ∷ []; behind = []; blank_before = blanks; stands = letter_a; blank_behind = no_blank; parts = refl };
    is_second = rest_text (97 ∷ []);
    parts = sym (append_assoc ((c ∷ after) ++ more) (97 ∷ []) (58 ∷ 97 ∷ 47 ∷ 48 ∷ []) ∙ append_assoc (c ∷ after) more (97 ∷ 58 ∷ 97 ∷ 47 ∷ 48 ∷ []));
  }

  front_quiet : (c : ℕ) (after u rest : List ℕ) → c ∷ after ≡ u ++ rest → is_word_byte c ≡ false → no_word u ≡ true
  front_quiet c after [] rest parts e = refl
  front_quiet c after (d ∷ u) rest parts e = ap no_word (sym parts) ∙ not_from_false _ e

  fun_text : (p c : ℕ) (after : List ℕ) (start : Reading) → σ.rules.mode ≡ Listing → is_word_byte c ≡ false → Reads σ any FunText (λ t. spot (After t) fs) p (c ∷ after) start
      → Reads σ any (λ u t. SpellsFlat σ.rules (codes "fun" ++ u) t) (λ t. spot (After t) fs) p (c ∷ after) start
  fun_text p c after start listing quiet (whole u rest t q parts r good e place) =
      whole u rest t q parts (reference_of σ.rules u t listing (front_quiet c after u rest parts quiet) r) good e place
  fun_text p c after start listing quiet (part more t e r) = part more t e (reference_of σ.rules ((c ∷ after) ++ more) t listing (not_from_false _ quiet) r)
  fun_text p c after start listing quiet (halted halt q e) = halted halt q e

  fun_end : (p c : ℕ) (after : List ℕ) (start : Reading) → σ.rules.mode ≡ Listing → is_word_byte c ≡ false → start ≡ read_on σ (spot Fun fs) p (c ∷ after)
      → Reads σ any (λ u t. SpellsFlat σ.rules (codes "fun" ++ u) t) (λ t. spot (After t) fs) p (c ∷ after) start
  fun_end p c after start listing quiet e = go (skips σ Fun fs between_fun false p (c ∷ after))
    where
      go : Skips σ Fun fs false p (c ∷ after) → Reads σ any (λ u t. SpellsFlat σ.rules (codes "fun" ++ u) t) (λ t. spot (After t) fs) p (c ∷ after) start
      go (to_end more cut blanks ends) =
          part (more ++ 97 ∷ 58 ∷ 97 ∷ 47 ∷ 48 ∷ []) unsupported (e ∙ cut)
          (reference_of σ.rules ((c ∷ after) ++ (more ++ 97 ∷ 58 ∷ 97 ∷ 47 ∷ 48 ∷ [])) unsupported listing (not_from_false _ quiet) (fun_sample c after more blanks))
      go (to_mark blank b rest q parts blanks mark goes place) = choose (is_ascii_lowercase b || eqb b 39) refl
        where
          back : read_on σ (spot (After (tree.Atom (codes "fun"))) fs) p (c ∷ after) ≡ read_on σ (spot (After (tree.Atom (codes "fun"))) fs) q (b ∷ rest)
          back =
              ap (λ (w : List ℕ). read_on σ (spot (After (tree.Atom (codes "fun"))) fs) p w) parts
              ∙ (blank_leads σ (After (tree.Atom (codes "fun"))) fs (between_after σ (tree.Atom (codes "fun")) fs) blank blanks p (b ∷ rest) refl
              ∙ ap (λ (n : ℕ). read_on σ (spot (After (tree.Atom (codes "fun"))) fs) n (b ∷ rest)) (sym place))

          choose : (t : Bool) → (is_ascii_lowercase b || eqb b 39) ≡ t → Reads σ any (λ u v. SpellsFlat σ.rules (codes "fun" ++ u) v) (λ v. spot (After v) fs) p (c ∷ after) start
          choose true f =
              fun_text p c after start listing quiet
              (modules p (c ∷ after) start
              (leading σ SpellsAtom (InReference ∷ fs) AfterName (λ m. InReference ∷ fs) blank (c ∷ after) rest b p q start blanks parts
              (e ∙ (goes ∙ same_step σ Fun Before fs (InReference ∷ fs) q b rest (fun_module q b mark f))) place (λ m. between_name σ m (InReference ∷ fs))
              (named σ (InReference ∷ fs) refl Before q b rest (first_begins q b mark))))
          choose false f =
              whole [] (c ∷ after) (tree.Atom (codes "fun")) p refl (atom (codes "fun") (codes "fun") (inl (refl, refl), omega arith)) refl
              (e ∙ (goes ∙ (same_step σ Fun (After (tree.Atom (codes "fun"))) fs fs q b rest (fun_atom q b mark f) ∙ sym back))) (omega arith)

pub atom_off : (σ : Setting) (fs : List Frame) (name : List ℕ) (q b : ℕ) → takes_name fs ≡ false → (is_listing σ.rules.mode && bytes_eq name (codes "fun")) ≡ false → is_word_byte b ≡ false
    → step_place σ (Word name) fs q b ≡ step_place σ (After (tree.Atom name)) fs q b
unfolding step_place
atom_off σ fs name q b takes apart e =
    word_ends σ fs name q b e ∙ (λ i. step_between σ (cond (takes i) (AfterName name) (cond (apart i) Fun (After (tree.Atom name)))) fs q b)

pub fun_off : (σ : Setting) (fs : List Frame) (name : List ℕ) (q b : ℕ) → takes_name fs ≡ false → (is_listing σ.rules.mode && bytes_eq name (codes "fun")) ≡ true → is_word_byte b ≡ false
    → step_place σ (Word name) fs q b ≡ step_place σ Fun fs q b
unfolding step_place
fun_off σ fs name q b takes is e =
    word_ends σ fs name q b e ∙ (λ i. step_between σ (cond (takes i) (AfterName name) (cond (is i) Fun (After (tree.Atom name)))) fs q b)

pub listing_of : (mode : Mode) → is_listing mode ≡ true → mode ≡ Listing
listing_of Script e = absurd (let clash : false ≡ true = e in cc)
listing_of Listing e = refl

-- an atom where a term stands
pub atoms : (σ : Setting) (fs : List Frame) → takes_name fs ≡ false → (here : Place) (p b : ℕ) (rest : List ℕ) → step_place σ here fs p b ≡ begin_name fs b
    → Reads σ any (SpellsFlat σ.rules) (λ t. spot (After t) fs) p (b ∷ rest) (read_on σ (spot here fs) p (b ∷ rest))
atoms σ fs takes = name_begins σ fs TermTree (SpellsFlat σ.rules) tree.Atom (λ t. spot (After t) fs) (λ text name r. atom text name r) word_then
    (λ name. ap (λ (t : Bool). spot (cond t (AfterName name) (After (tree.Atom name))) fs) takes)
  where
    word_then : (text u : List ℕ) (c : ℕ) (after : List ℕ) (p q : ℕ) (start : Reading) → text ≡ u ++ c ∷ after → SpellsAtom u u → is_word_byte c ≡ false
        → start ≡ read_on σ (spot (Word u) fs) q (c ∷ after) → q ≡ p + length u → Reads σ any (SpellsFlat σ.rules) (λ t. spot (After t) fs) p text start
    word_then text u c after p q start parts is e goes place = choose (is_listing σ.rules.mode && bytes_eq u (codes "fun")) refl
      where
        choose : (t : Bool) → (is_listing σ.rules.mode && bytes_eq u (codes "fun")) ≡ t → Reads σ any (SpellsFlat σ.rules) (λ v. spot (After v) fs) p text start
        choose false h =
            word_is σ fs TermTree (SpellsFlat σ.rules) tree.Atom (λ t. spot (After t) fs) (λ t name r. atom t name r) text u c after p q start parts is
            (same_step σ (Word u) (After (tree.Atom u)) fs fs q c after (atom_off σ fs u q c takes h e)) goes place
        choose true h =
            let both = and_parts (is_listing σ.rules.mode) (bytes_eq u (codes "fun")) h in
            let same : u ≡ codes "fun" = (bytes_eq-Decides u (codes "fun")).0 both.1 in
            reads_front σ any (SpellsFlat σ.rules) (λ t. spot (After t) fs) (codes "fun") p q text (c ∷ after) start
            (parts ∙ ap (λ (w : List ℕ). w ++ c ∷ after) same) (place ∙ ap (λ (w : List ℕ). p + length w) same)
            (fun_end σ fs q c after start (listing_of σ.rules.mode both.0) e (goes ∙ same_step σ (Word u) Fun fs fs q c after (fun_off σ fs u q c takes h e)))
