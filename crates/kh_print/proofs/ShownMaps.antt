-- Pairs with rising keys are the map of themselves, and their shown text spells it.
use Rattle.std.proofs.Common.{◌≡◌, ◌≤◌, ℕ, zero, suc, ◌+◌, max, true, List, [], ◌∷◌, ◌++◌, map, codes, inl, inr, refl, sym, ap, subst, ◌∙◌, append_assoc, arith, sum, IsTrue}
use Rattle.std.specs.declared.cmp.Ordering.{Ordering}
use Rattle.std.specs.declared.cmp.Ordering.TheVariants.{Less, Equal, Greater}
use Rattle.std.specs.Ordering.{is_lt, ordering_reverse, match_ordering}
use Rattle.std.specs.BTreeMap.{insert_entry}
use Rattle.std.proofs.lemmas.Bool.{and_parts}
use Rattle.std.proofs.lemmas.List.{append-nil, map-append}
use Rattle.kh_term.specs.declared.term.Term.{Term}
use Rattle.kh_term.specs.declared.tree.TermTree.{TermTree}
use Rattle.kh_term.specs.declared.tree.TermTree.TheVariants as tree
use Rattle.kh_term.specs.Lemmas.Fits.{pairs_of_map, sum-cons, fits_front, fits_behind, keys_rise_in, keys_of_pairs}
use Rattle.kh_term.specs.Lemmas.Induction.{Each, OfBoth}
use Rattle.kh_term.proofs.Layers.{depth-Map}
use Rattle.kh_term.specs.Lemmas.Total.{terms_total}
use Rattle.kh_term.specs.Order.{term_cmp}
use Rattle.kh_term.specs.Size.{depth_of, greatest}
use Rattle.kh_term.specs.WellFormed.{IsTerm, AreTerms, ArePairs, faults_of, keys_rise}
use Rattle.kh_text_defs.specs.declared.mode.Mode.{Mode}
use Rattle.kh_text_defs.specs.Blanks.{no_blank, space, Wide, Commas}
use Rattle.kh_text_defs.specs.Shown.{shown, with_commas}
use Rattle.kh_term.specs.MapOf.{map_with, map_of}
use Rattle.kh_text_defs.specs.Spelled.{within_limits, SpellsPair, KeyValues, SpellsPairs, SpellsDeep, map_text, Spells}
use Rattle.kh_print.specs.Parts.{shown_pair}
use Rattle.kh_print.proofs.Layers.{shown-Map}
use Rattle.kh_print.proofs.ShownTerms.{bare, commas, deep, IsShown}

-- ---- rising pairs

less_of : (o : Ordering) → is_lt o ≡ true → o ≡ Less
less_of Less e = refl
less_of Equal e = absurd (cc)
less_of Greater e = absurd (cc)

below : (a b c : TermTree) → IsTerm a → IsTerm b → IsTerm c → term_cmp a b ≡ Less → term_cmp b c ≡ Less → term_cmp a c ≡ Less
below a b c ha hb hc = terms_total.trans record { node = a; fits = ha } record { node = b; fits = hb } record { node = c; fits = hc }

above : (a b : TermTree) → IsTerm a → IsTerm b → term_cmp a b ≡ Less → term_cmp b a ≡ Greater
above a b ha hb less = terms_total.antisymm record { node = b; fits = hb } record { node = a; fits = ha } ∙ ap ordering_reverse less

-- the keys in front of one are below it
all_below : (ks : List TermTree) (k : TermTree) (ls : List TermTree) → keys_rise (ks ++ k ∷ ls) ≡ true → AreTerms (ks ++ k ∷ ls) → Each (λ q. IsTerm q × (term_cmp q k ≡ Less)) ks
all_below [] k ls rise fit = tt
all_below (q ∷ []) k ls rise fit =
    let parts = and_parts _ _ rise in
    ((fits_front q (k ∷ ls) fit, less_of _ parts.0), tt)
all_below (q ∷ r ∷ ks) k ls rise fit =
    let parts = and_parts _ _ rise in
    let behind : AreTerms (r ∷ (ks ++ k ∷ ls)) = fits_behind q (r ∷ (ks ++ k ∷ ls)) fit in
    let others = all_below (r ∷ ks) k ls parts.1 behind in
    ((fits_front q (r ∷ (ks ++ k ∷ ls)) fit, below q r k (fits_front q (r ∷ (ks ++ k ∷ ls)) fit) others.0.0 (key_fits (r ∷ ks) behind) (less_of _ parts.0) others.0.1), others)
  where
    key_fits : (xs : List TermTree) → AreTerms (xs ++ k ∷ ls) → IsTerm k
    key_fits [] h = fits_front k ls h
    key_fits (x ∷ xs) h = key_fits xs (fits_behind x (xs ++ k ∷ ls) h)

put_last : (before : KeyValues) (key value : TermTree) → IsTerm key → Each (λ q. IsTerm q × (term_cmp q key ≡ Less)) (map (λ p. p.0) before)
    → insert_entry term_cmp before key value ≡ before ++ (key, value) ∷ []
put_last [] key value fits each = refl
put_last (p ∷ before) key value fits each =
    let greater = above p.0 key each.0.0 fits each.0.1 in
    ap (λ o. match_ordering o ((key, value) ∷ p ∷ before) ((p.0, value) ∷ before) (p ∷ insert_entry term_cmp before key value)) greater
    ∙ ap (λ (ps : KeyValues). p ∷ ps) (put_last before key value fits each.1)

abbrev firsts : KeyValues → List TermTree
firsts ps = map (λ p. p.0) ps

middle_fits : (xs : List TermTree) (k : TermTree) (ls : List TermTree) → AreTerms (xs ++ k ∷ ls) → IsTerm k
middle_fits [] k ls h = fits_front k ls h
middle_fits (x ∷ xs) k ls h = middle_fits xs k ls (fits_behind x (xs ++ k ∷ ls) h)

kept : (before pairs : KeyValues) → keys_rise (firsts (before ++ pairs)) ≡ true → AreTerms (firsts (before ++ pairs)) → map_with before pairs ≡ before ++ pairs
kept before [] rise fit = sym (append-nil before)
kept before (p ∷ pairs) rise fit =
    let same = map-append (λ (q : TermTree × TermTree). q.0) before (p ∷ pairs) in
    let rise_here : keys_rise (firsts before ++ p.0 ∷ firsts pairs) ≡ true = sym (ap keys_rise same) ∙ rise in
    let fit_here : AreTerms (firsts before ++ p.0 ∷ firsts pairs) = subst AreTerms same fit in
    let put = put_last before p.0 p.1 (middle_fits (firsts before) p.0 (firsts pairs) fit_here) (all_below (firsts before) p.0 (firsts pairs) rise_here fit_here) in
    let regroup = append_assoc before (p ∷ []) pairs in
    ap (λ (qs : KeyValues). map_with qs pairs) put
    ∙ (kept (before ++ p ∷ []) pairs (ap (λ (qs : KeyValues). keys_rise (firsts qs)) regroup ∙ rise) (subst (λ (qs : KeyValues). AreTerms (firsts qs)) (sym regroup) fit) ∙ regroup)

map_of_rising : (pairs : KeyValues) → ArePairs pairs → map_of pairs ≡ pairs
map_of_rising pairs fit = kept [] pairs (keys_rise_in pairs fit) (keys_of_pairs pairs (omega (arith, fit)))

-- ---- their text

one_pair : (mode : Mode) (levels : ℕ) (p : TermTree × TermTree) → Spells (within_limits mode) levels (shown p.0) p.0 → Spells (within_limits mode) levels (shown p.1) p.1
    → SpellsPair (Spells (within_limits mode) levels) (shown_pair p) p
one_pair mode levels p key value = record {
  key = shown p.0 ++ 32 ∷ [];
  value = 32 ∷ shown p.1;
  is_key = record { before = []; inside = shown p.0; behind = 32 ∷ []; blank_before = no_blank; stands = key; blank_behind = space 32 [] refl no_blank; parts = refl };
  is_value = record { before = 32 ∷ []; inside = shown p.1; behind = []; blank_before = space 32 [] refl no_blank; stands = value; blank_behind = no_blank; parts = ap (λ w. 32 ∷ w) (sym (append-nil (shown p.1))) };
  parts = append_assoc (shown p.0) (codes " => ") (shown p.1) ∙ sym (append_assoc (shown p.0) (32 ∷ []) (61 ∷ 62 ∷ 32 ∷ shown p.1));
}

abbrev pair_depth : TermTree × TermTree → ℕ
pair_depth p = max (depth_of p.0) (depth_of p.1)

abbrev pair_faults : TermTree × TermTree → ℕ
pair_faults p = faults_of p.0 + faults_of p.1

pairs_each : (mode : Mode) (levels : ℕ) (ps : KeyValues) → Each (OfBoth (IsShown mode)) ps → sum (map pair_faults ps) ≡ 0 → greatest (map pair_depth ps) ≤ levels
    → Each (λ p. SpellsPair (Spells (within_limits mode) levels) (shown_pair p) p) ps
pairs_each mode levels [] each fit low = tt
pairs_each mode levels (p ∷ ps) each fit low =
    let split = sum-cons (pair_faults p) (map pair_faults ps) in
    let key : IsTerm p.0 = omega (arith, fit, split) in
    let value : IsTerm p.1 = omega (arith, fit, split) in (
      one_pair mode levels p (each.0.0 key levels (omega arith)) (each.0.1 value levels (omega arith)),
      pairs_each mode levels ps each.1 (omega (arith, fit, split)) (omega arith),
    )

map_same : {A : Type 0} (xs : List A) → map (λ x. x) xs ≡ xs
map_same [] = refl
map_same (x ∷ xs) = ap (λ ys. x ∷ ys) (map_same xs)

pairs_text : (mode : Mode) (levels : ℕ) (ps : KeyValues) → Each (λ p. SpellsPair (Spells (within_limits mode) levels) (shown_pair p) p) ps
    → SpellsPairs (Spells (within_limits mode) levels) (with_commas (map shown_pair ps)) ps
pairs_text mode levels [] each = inl (no_blank, refl)
pairs_text mode levels (p ∷ ps) each =
    inr (subst (λ (qs : KeyValues). Commas (SpellsPair (Spells (within_limits mode) levels)) (with_commas (map shown_pair (p ∷ ps))) qs) (map_same (p ∷ ps))
    (commas (SpellsPair (Spells (within_limits mode) levels)) shown_pair (λ q. q) p ps each))

pub shown_map : (mode : Mode) (ps : KeyValues) → Each (OfBoth (IsShown mode)) ps → IsShown mode (tree.Map ps)
shown_map mode ps each fit zero low = absurd (omega (arith, depth-Map ps))
shown_map mode ps each fit (suc levels) low =
    let pairs = pairs_of_map ps fit in
    deep (within_limits mode) levels _ _ (subst (λ (qs : KeyValues). SpellsDeep (within_limits mode) (Spells (within_limits mode) levels) (shown (tree.Map ps)) (tree.Map qs)) (map_of_rising ps pairs)
    (map_text _ (with_commas (map shown_pair ps)) ps (pairs_text mode levels ps (pairs_each mode levels ps each (omega (arith, pairs)) (omega (arith, depth-Map ps, low)))) (shown-Map ps)))
