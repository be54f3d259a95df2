-- The shown text of a term spells it.
use Rattle.std.proofs.Common.{◌≡◌, ◌<◌, ◌≤◌, ℕ, zero, suc, ◌+◌, max, Bool, true, false, not, ◌&&◌, cond, eqb, ltb, List, [], ◌∷◌, ◌++◌, length, map, codes, decimal, Option, Some, inl, inr, refl, sym, ap, subst, ◌∙◌, append_assoc, ℤ, pos, arith, IsTrue}
use Rattle.std.specs.Char.{IsScalar}
use Rattle.std.specs.List.{list_all, flat_map}
use Rattle.std.specs.declared.cmp.Ordering.{Ordering}
use Rattle.std.specs.declared.cmp.Ordering.TheVariants.{Less, Equal, Greater}
use Rattle.std.specs.Ordering.{is_lt, is_eq}
use Rattle.std.proofs.lemmas.Bool.{and_parts, and_from, leb-true, ltb-true, lt-ltb, not_from_false, not-true, ne_eqb, eqb-true}
use Rattle.std.proofs.lemmas.Bool.Decides.{nat_tests}
use Rattle.std.proofs.lemmas.List.{append-nil}
use Rattle.std.proofs.lemmas.Str.{encode_ascii}
use Rattle.kh_term.specs.declared.name.Origin.{Origin}
use Rattle.kh_term.specs.declared.term.Term.{Term}
use Rattle.kh_term.specs.declared.tree.TermTree.{TermTree, out-TermTree}
use Rattle.kh_term.specs.declared.tree.TermTree.TheVariants as tree
use Rattle.kh_term.specs.declared.tree.TermTree.TheVariants.{rolls-Nil}
use Rattle.kh_term.specs.declared.tree.TermTree.TheOpen.{TermTree-F}
use Rattle.kh_term.specs.declared.tree.TermTree.TheOpen as layer
use Rattle.kh_term.specs.Lemmas.Fits.{parts_of_tuple, parts_of_list, tail_of_list, parts_of_closure, pairs_of_map, origin_of_closure, ends_list, sum-cons, fits_front, fits_behind, holds, keys_rise_in, keys_of_pairs}
use Rattle.kh_term.specs.Lemmas.Induction.{Each, OfBoth, Steps, by_parts}
use Rattle.kh_term.proofs.Layers.{faults-Int, faults-Atom, faults-Bin, depth-List, depth-Nil, depth-Tuple, depth-Map, depth-Closure}
use Rattle.kh_term.specs.Lemmas.Total.{layered, no_list, terms_total}
use Rattle.kh_term.specs.Make.{list_of, list_with_tail, in_front_of}
use Rattle.kh_term.specs.Order.{term_cmp}
use Rattle.kh_term.specs.Size.{depth_of, greatest, is_nil}
use Rattle.kh_term.specs.Text.{is_atom_text, are_bytes}
use Rattle.kh_term.specs.WellFormed.{IsTerm, AreTerms, ArePairs, faults_of, fits_128, is_list, is_list_of, is_origin, keys_rise}
use Rattle.kh_text_defs.specs.declared.mode.Mode.{Mode}
use Rattle.kh_text_defs.specs.Blanks.{no_blank, space, Wide, Commas, last, then_more, Elements}
use Rattle.kh_text_defs.specs.Shown.{shown, shown_atom, shown_bytes, text_byte, is_printable, with_commas}
use Rattle.kh_text_defs.specs.Spelled.{Rules, within_limits, SpellsInteger, SpellsSegment, one_byte, latin_text, all_bytes, bytes_behind, binary_of, binary_or_unsupported, SpellsFlat, integer, atom, binary, SpellsDeep, list, list_and_tail, tuple, Spells}
use Rattle.kh_text_defs.specs.Tokens.{Character, as_it_is, by_letter, Characters, no_character, one_character, Quoted}
use Rattle.kh_print.specs.Parts.{shown_origin, shown_pair, shown_tail_of}
use Rattle.kh_print.proofs.Layers.{shown-Int, shown-Atom, shown-Bin, shown-Nil, shown-List, shown-Tuple, shown-Map, shown-Closure}
use Rattle.kh_print.proofs.ShownTokens.{shown_integer, shown_name}

-- ---- parts with commas between them

-- no blanks round a text
pub bare : {A : Type 0} (Stands : List ℕ → A → Type 0) (text : List ℕ) (x : A) → Stands text x → Wide Stands text x
bare Stands text x stands = record {
  before = [];
  inside = text;
  behind = [];
  blank_before = no_blank;
  stands = stands;
  blank_behind = no_blank;
  parts = sym (append-nil text);
}

pub commas : {A B : Type 0} (Stands : List ℕ → B → Type 0) (text_of : A → List ℕ) (value : A → B) (x : A) (xs : List A)
    → Each (λ y. Stands (text_of y) (value y)) (x ∷ xs) → Commas Stands (with_commas (map text_of (x ∷ xs))) (map value (x ∷ xs))
commas Stands text_of value x [] each = last (text_of x) (value x) each.0
commas Stands text_of value x (y ∷ ys) each =
    then_more _ (text_of x) (with_commas (map text_of (y ∷ ys))) (value x) (map value (y ∷ ys)) each.0 (commas Stands text_of value y ys each.1) refl

-- ---- binaries

scalar_ascii : (c : ℕ) → c < 128 → IsScalar c
scalar_ascii c small = grind (arith, nat_tests)

text_character : (b : ℕ) → is_printable b ≡ true → Character 34 (text_byte b) b
text_character b printable = go (eqb b 92) (eqb b 34) refl refl
  where
    go : (slash quote : Bool) → eqb b 92 ≡ slash → eqb b 34 ≡ quote → Character 34 (cond slash (codes "\\\\") (cond quote (codes "\\\"") (b ∷ []))) b
    go true q e f = by_letter _ 92 b (ap Some (sym (eqb-true b 92 e))) refl
    go false true e f = by_letter _ 34 b (ap Some (sym (eqb-true b 34 f))) refl
    go false false e f =
        let small : b < 128 = omega (arith, ltb-true b 127 (and_parts _ _ printable).1) in
        as_it_is _ b (scalar_ascii b small) (not_from_false _ f) (not_from_false _ e) (sym (encode_ascii b small))

text_characters : (bs : List ℕ) → list_all is_printable bs ≡ true → Characters 34 (flat_map text_byte bs) bs
text_characters [] all = no_character
text_characters (b ∷ bs) all =
    let parts = and_parts _ _ all in
    one_character _ (text_byte b) (flat_map text_byte bs) b bs (text_character b parts.0) (text_characters bs parts.1) refl

below_256 : (b : ℕ) → is_printable b ≡ true → ltb b 256 ≡ true
below_256 b printable = lt-ltb b 256 (omega (arith, ltb-true b 127 (and_parts _ _ printable).1))

all_latin : (bs : List ℕ) → list_all is_printable bs ≡ true → list_all (λ c. ltb c 256) bs ≡ true
all_latin [] all = refl
all_latin (b ∷ bs) all = let parts = and_parts _ _ all in and_from _ _ (below_256 b parts.0) (all_latin bs parts.1)

abbrev byte_segment : ℕ → Option (List ℕ)
byte_segment b = Some (b ∷ [])

joined_bytes : (bs : List ℕ) → all_bytes (map byte_segment bs) ≡ Some bs
joined_bytes [] = refl
joined_bytes (b ∷ bs) = ap (bytes_behind (b ∷ [])) (joined_bytes bs)

byte_segments : (rules : Rules) (bs : List ℕ) → are_bytes bs ≡ true → Each (λ b. Wide (SpellsSegment rules) (decimal b) (byte_segment b)) bs
byte_segments rules [] are = tt
byte_segments rules (b ∷ bs) are =
    let parts = and_parts _ _ are in
    let small = ltb-true b 256 parts.0 in
    (bare (SpellsSegment rules) (decimal b) (byte_segment b) (one_byte (decimal b) b (shown_integer (pos b) (lt-ltb b _ (omega arith))) parts.0), byte_segments rules bs parts.1)

pub record Segments (rules : Rules) (text bytes : List ℕ) : Type 0 where
  pub segments : List (Option (List ℕ))
  pub elements : Elements (SpellsSegment rules) text segments
  pub value : binary_of segments ≡ tree.Bin bytes

pub segments_of : (rules : Rules) (bytes : List ℕ) → are_bytes bytes ≡ true → Segments rules (shown_bytes bytes) bytes
segments_of rules [] are = record { segments = []; elements = inl (no_blank, refl); value = refl }
segments_of rules (b ∷ bs) are = go (list_all is_printable (b ∷ bs)) refl
  where
    go : (printable : Bool) → list_all is_printable (b ∷ bs) ≡ printable
        → Segments rules (cond printable (34 ∷ (flat_map text_byte (b ∷ bs) ++ 34 ∷ [])) (with_commas (map decimal (b ∷ bs)))) (b ∷ bs)
    go true e = record {
      segments = Some (b ∷ bs) ∷ [];
      elements = inr (last _ _ (bare (SpellsSegment rules) _ (Some (b ∷ bs)) (latin_text _ (b ∷ bs)
          (record { inside = flat_map text_byte (b ∷ bs); characters = text_characters (b ∷ bs) e; parts = refl }) (all_latin (b ∷ bs) e))));
      value = ap tree.Bin (append-nil (b ∷ bs));
    }
    go false e = record {
      segments = map byte_segment (b ∷ bs);
      elements = inr (commas (Wide (SpellsSegment rules)) decimal byte_segment b bs (byte_segments rules (b ∷ bs) are));
      value = ap binary_or_unsupported (joined_bytes (b ∷ bs));
    }

-- ---- terms

abbrev pub Shows : Rules → ℕ → TermTree → Type 0
Shows rules levels t = Spells rules levels (shown t) t

pub flat : (rules : Rules) (levels : ℕ) (text : List ℕ) (t : TermTree) → SpellsFlat rules text t → Spells rules levels text t
unfolding Spells
flat rules zero text t h = h
flat rules (suc levels) text t h = inl h

pub deep : (rules : Rules) (levels : ℕ) (text : List ℕ) (t : TermTree) → SpellsDeep rules (Spells rules levels) text t → Spells rules (suc levels) text t
unfolding Spells
deep rules levels text t h = inr h

abbrev pub IsShown : Mode → TermTree → Type 0
IsShown mode t = IsTerm t → (levels : ℕ) → depth_of t ≤ levels → Shows (within_limits mode) levels t

shown_parts : (mode : Mode) (ts : List TermTree) (levels : ℕ) → Each (IsShown mode) ts → AreTerms ts → greatest (map depth_of ts) ≤ levels
    → Each (λ t. Wide (Spells (within_limits mode) levels) (shown t) t) ts
shown_parts mode [] levels each fit low = tt
shown_parts mode (t ∷ ts) levels each fit low =
    let split = sum-cons (faults_of t) (map faults_of ts) in
    let first : IsTerm t = omega (arith, fit, split) in
    let others : AreTerms ts = omega (arith, fit, split) in
    (bare (Spells (within_limits mode) levels) (shown t) t (each.0 first levels (omega arith)), shown_parts mode ts levels each.1 others (omega arith))

map_same : {A : Type 0} (xs : List A) → map (λ x. x) xs ≡ xs
map_same [] = refl
map_same (x ∷ xs) = ap (λ ys. x ∷ ys) (map_same xs)

part_commas : (mode : Mode) (t : TermTree) (ts : List TermTree) (levels : ℕ) → Each (IsShown mode) (t ∷ ts) → AreTerms (t ∷ ts) → greatest (map depth_of (t ∷ ts)) ≤ levels
    → Commas (Wide (Spells (within_limits mode) levels)) (with_commas (map shown (t ∷ ts))) (t ∷ ts)
part_commas mode t ts levels each fit low =
    subst (λ (ys : List TermTree). Commas (Wide (Spells (within_limits mode) levels)) (with_commas (map shown (t ∷ ts))) ys) (map_same (t ∷ ts))
    (commas (Wide (Spells (within_limits mode) levels)) shown (λ x. x) t ts (shown_parts mode (t ∷ ts) levels each fit low))

pub elements_of : (mode : Mode) (ts : List TermTree) (levels : ℕ) → Each (IsShown mode) ts → AreTerms ts → greatest (map depth_of ts) ≤ levels
    → Elements (Spells (within_limits mode) levels) (with_commas (map shown ts)) ts
elements_of mode [] levels each fit low = inl (no_blank, refl)
elements_of mode (t ∷ ts) levels each fit low = inr (part_commas mode t ts levels each fit low)

pub shown_tuple : (mode : Mode) (ts : List TermTree) → Each (IsShown mode) ts → IsShown mode (tree.Tuple ts)
shown_tuple mode ts each fit zero low = absurd (omega (arith, depth-Tuple ts))
shown_tuple mode ts each fit (suc levels) low =
    deep (within_limits mode) levels _ _ (tuple _ (with_commas (map shown ts)) ts
    (elements_of mode ts levels each (parts_of_tuple ts fit) (omega (arith, depth-Tuple ts))) (shown-Tuple ts))

-- ---- lists

nil_of : (t : TermTree) (l : TermTree-F TermTree) → out-TermTree t ≡ l → is_nil l ≡ true → t ≡ tree.Nil
nil_of t (layer.Int n) e h = absurd (cc)
nil_of t (layer.Atom text) e h = absurd (cc)
nil_of t (layer.Bin bytes) e h = absurd (cc)
nil_of t layer.Nil e h = layered t layer.Nil e ∙ rolls-Nil
nil_of t (layer.List xs u) e h = absurd (cc)
nil_of t (layer.Tuple xs) e h = absurd (cc)
nil_of t (layer.Map ps) e h = absurd (cc)
nil_of t (layer.Closure o xs) e h = absurd (cc)

in_front : (ts : List TermTree) (t : TermTree) (l : TermTree-F TermTree) → is_list l ≡ false → in_front_of ts l t ≡ tree.List ts t
in_front ts t (layer.Int n) h = refl
in_front ts t (layer.Atom text) h = refl
in_front ts t (layer.Bin bytes) h = refl
in_front ts t layer.Nil h = refl
in_front ts t (layer.List xs u) h = absurd (cc)
in_front ts t (layer.Tuple xs) h = refl
in_front ts t (layer.Map ps) h = refl
in_front ts t (layer.Closure o xs) h = refl

pub shown_list : (mode : Mode) (ts : List TermTree) (t : TermTree) → Each (IsShown mode) ts → IsShown mode t → IsShown mode (tree.List ts t)
shown_list mode [] t each ends fit levels low = let h : false ≡ true = ends_list [] t fit in absurd (cc)
shown_list mode (x ∷ xs) t each ends fit zero low = absurd (omega (arith, depth-List (x ∷ xs) t))
shown_list mode (x ∷ xs) t each ends fit (suc levels) low = go (is_nil (out-TermTree t)) refl
  where
    parts : greatest (map depth_of (x ∷ xs)) ≤ levels → Commas (Wide (Spells (within_limits mode) levels)) (with_commas (map shown (x ∷ xs))) (x ∷ xs)
    parts enough = part_commas mode x xs levels each (parts_of_list (x ∷ xs) t fit) enough

    go : (nil : Bool) → is_nil (out-TermTree t) ≡ nil → Spells (within_limits mode) (suc levels) (shown (tree.List (x ∷ xs) t)) (tree.List (x ∷ xs) t)
    go true e =
        let is = nil_of t (out-TermTree t) refl e in
        let h : depth_of (tree.List (x ∷ xs) t) ≡ 1 + max (greatest (map depth_of (x ∷ xs))) 0 = depth-List (x ∷ xs) t ∙ ap (λ b. 1 + max (greatest (map depth_of (x ∷ xs))) (cond b 0 (depth_of t))) e in
        let text = shown-List (x ∷ xs) t in
        deep (within_limits mode) levels _ _ (subst (λ (u : TermTree). SpellsDeep (within_limits mode) (Spells (within_limits mode) levels) (shown (tree.List (x ∷ xs) t)) (tree.List (x ∷ xs) u)) (sym is)
        (list _ (with_commas (map shown (x ∷ xs))) (x ∷ xs) (inr (parts (omega (arith, h, low))))
        (text ∙ ap (λ b. (91 ∷ with_commas (map shown (x ∷ xs))) ++ cond b [] (124 ∷ shown t) ++ 93 ∷ []) e ∙ ap (λ w. w ++ 93 ∷ []) (append-nil (91 ∷ with_commas (map shown (x ∷ xs)))))))
    go false e =
        let depth = depth-List (x ∷ xs) t in
        let h : depth_of (tree.List (x ∷ xs) t) ≡ 1 + max (greatest (map depth_of (x ∷ xs))) (depth_of t) = depth ∙ ap (λ b. 1 + max (greatest (map depth_of (x ∷ xs))) (cond b 0 (depth_of t))) e in
        let one = Spells (within_limits mode) levels in
        let tail_ends : Wide one (shown t) t = bare one (shown t) t (ends (tail_of_list (x ∷ xs) t fit) levels (omega (arith, h, low))) in
        let text = with_commas (map shown (x ∷ xs)) in
        deep (within_limits mode) levels _ _ (subst (λ (u : TermTree). SpellsDeep (within_limits mode) one (shown (tree.List (x ∷ xs) t)) u)
        (in_front (x ∷ xs) t (out-TermTree t) (no_list (x ∷ xs) t (ends_list (x ∷ xs) t fit)))
        (list_and_tail _ text (shown t) (x ∷ xs) t (parts (omega (arith, h, low))) tail_ends
        (shown-List (x ∷ xs) t ∙ ap (λ b. (91 ∷ text) ++ cond b [] (124 ∷ shown t) ++ 93 ∷ []) e ∙ append_assoc (91 ∷ text) (124 ∷ shown t) (93 ∷ []))))
