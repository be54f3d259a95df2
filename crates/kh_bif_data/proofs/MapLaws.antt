-- The laws of maps.
use Rattle.std.proofs.Common.{◌≡◌, ◌<◌, ℕ, zero, suc, Bool, true, false, List, [], ◌∷◌, length, get_or, Option, Some, None, refl, ap, sym, ◌∙◌, arith}
use Rattle.std.specs.declared.cmp.Ordering.{Ordering}
use Rattle.std.specs.declared.cmp.Ordering.TheVariants.{Less, Equal, Greater}
use Rattle.std.specs.BTreeMap.{insert_entry}
use Rattle.std.specs.Ordering.{is_eq, is_lt, is_ne, match_ordering}
use Rattle.std.proofs.lemmas.Bool.{and_from}
use Rattle.std.specs.Prelude.{cond, if◌then◌else◌}
use Rattle.kh_term.specs.declared.term.Term.{Term}
use Rattle.kh_term.specs.declared.tree.TermTree.{TermTree}
use Rattle.kh_term.specs.Lookup.{value_at}
use Rattle.kh_term.specs.MapOf.{later, map_with}
use Rattle.kh_term.specs.Order.{term_cmp}
use Rattle.kh_term.specs.WellFormed.{IsTerm, AreTerms}
use Rattle.kh_term.specs.Lemmas.Fits.{fits_front, fits_behind, fits_more, keys_rise_in, keys_of_map}
use Rattle.kh_term.proofs.Rising.{value_missing}
use Rattle.kh_term.proofs.Same.{same}
use Rattle.kh_bif_data.specs.Laws.{FoundIsWhatWasPut, OnlyTheKeyIsRemoved, TheSecondMapCounts, OneMapOfEachLookUp}
use Rattle.kh_bif_data.specs.Maps.{others}
use Rattle.kh_bif_data.proofs.Ordered.{Pairs, keys, Rise, Above, all_above, rise_behind, tied, turned}

eq_of : (o : Ordering) → is_eq o ≡ true → o ≡ Equal
eq_of Less e = absurd (cc)
eq_of Equal e = refl
eq_of Greater e = absurd (cc)

swapped : (b c : Bool) (x y r : Option TermTree) → (b ≡ true → c ≡ true → ⊥) → (if c then x else (if b then y else r)) ≡ (if b then y else (if c then x else r))
swapped true true x y r apart = absurd (apart refl refl)
swapped true false x y r apart = refl
swapped false true x y r apart = refl
swapped false false x y r apart = refl

covered : (b : Bool) (x y r : Option TermTree) → (if b then x else r) ≡ (if b then x else (if b then y else r))
covered true x y r = refl
covered false x y r = refl

-- of two keys that differ no third is both
two_keys : (a b other : TermTree) (o : Ordering) → IsTerm a → IsTerm b → IsTerm other → term_cmp a b ≡ o → (o ≡ Equal → ⊥) → is_eq (term_cmp a other) ≡ true → is_eq (term_cmp b other) ≡ true → ⊥
two_keys a b other o ha hb hu e apart f g =
    let one : a ≡ b = same a other ha hu (eq_of _ f) ∙ sym (same b other hb hu (eq_of _ g)) in
    apart (sym e ∙ (ap (term_cmp a) (sym one) ∙ tied a ha))

-- ---- put

put_step : (p : TermTree × TermTree) (ps : Pairs) (key value other : TermTree) (o : Ordering) → term_cmp key p.0 ≡ o → IsTerm p.0 → IsTerm key → IsTerm other
    → value_at other (insert_entry term_cmp ps key value) ≡ (if is_eq (term_cmp key other) then Some value else value_at other ps)
    → value_at other (match_ordering o ((key, value) ∷ p ∷ ps) ((p.0, value) ∷ ps) (p ∷ insert_entry term_cmp ps key value))
    ≡ (if is_eq (term_cmp key other) then Some value else value_at other (p ∷ ps))
put_step p ps key value other Less e fits t u rest = refl
put_step p ps key value other Equal e fits t u rest =
    let one : key ≡ p.0 = same key p.0 t fits e in
    covered (is_eq (term_cmp p.0 other)) (Some value) (Some p.1) (value_at other ps)
    ∙ ap (λ k. if is_eq (term_cmp k other) then Some value else (if is_eq (term_cmp p.0 other) then Some p.1 else value_at other ps)) (sym one)
put_step p ps key value other Greater e fits t u rest =
    ap (λ r. if is_eq (term_cmp p.0 other) then Some p.1 else r) rest
    ∙ swapped (is_eq (term_cmp key other)) (is_eq (term_cmp p.0 other)) (Some p.1) (Some value) (value_at other ps) (two_keys key p.0 other Greater t fits u e (λ x. cc))

pub found_put : (ps : Pairs) (key value other : TermTree) → AreTerms (keys ps) → IsTerm key → IsTerm other
    → value_at other (insert_entry term_cmp ps key value) ≡ (if is_eq (term_cmp key other) then Some value else value_at other ps)
found_put [] key value other ts t u = refl
found_put (p ∷ ps) key value other ts t u =
    put_step p ps key value other (term_cmp key p.0) refl (fits_front p.0 (keys ps) ts) t u (found_put ps key value other (fits_behind p.0 (keys ps) ts) t u)

pub found_is_what_was_put : FoundIsWhatWasPut
found_is_what_was_put m key value other = found_put m.nodes key.node value.node other.node (keys_of_map m.nodes m.fit) key.fits other.fits

-- ---- remove

not_greater : (o : Ordering) → o ≡ Greater → o ≡ Equal → ⊥
not_greater o e f = cc

-- no key that is greater is the key
pub missing : (k : TermTree) (ps : Pairs) → Above k ps → value_at k ps ≡ None
missing k ps above = sym (value_missing ps k (λ i d l e. not_greater _ (above i d l) e))

dropped : (p : TermTree × TermTree) (ps : Pairs) (key other : TermTree) (o : Ordering) → term_cmp p.0 key ≡ o → IsTerm p.0 → IsTerm key → IsTerm other
    → value_at other (others key ps) ≡ (if is_eq (term_cmp key other) then None else value_at other ps)
    → value_at other (cond (is_ne o) (p ∷ others key ps) (others key ps)) ≡ (if is_eq (term_cmp key other) then None else value_at other (p ∷ ps))
dropped p ps key other Less e fits t u rest =
    ap (λ r. if is_eq (term_cmp p.0 other) then Some p.1 else r) rest
    ∙ swapped (is_eq (term_cmp key other)) (is_eq (term_cmp p.0 other)) (Some p.1) None (value_at other ps) (λ f g. two_keys p.0 key other Less fits t u e (λ x. cc) g f)
dropped p ps key other Equal e fits t u rest =
    let one : p.0 ≡ key = same p.0 key fits t e in
    rest ∙ covered (is_eq (term_cmp key other)) None (Some p.1) (value_at other ps)
    ∙ ap (λ k. if is_eq (term_cmp key other) then None else (if is_eq (term_cmp k other) then Some p.1 else value_at other ps)) (sym one)
dropped p ps key other Greater e fits t u rest =
    ap (λ r. if is_eq (term_cmp p.0 other) then Some p.1 else r) rest
    ∙ swapped (is_eq (term_cmp key other)) (is_eq (term_cmp p.0 other)) (Some p.1) None (value_at other ps) (λ f g. two_keys p.0 key other Greater fits t u e (λ x. cc) g f)

either : (b : Bool) (r : Option TermTree) → r ≡ (if b then r else r)
either true r = refl
either false r = refl

pub found_removed : (ps : Pairs) (key other : TermTree) → AreTerms (keys ps) → IsTerm key → IsTerm other
    → value_at other (others key ps) ≡ (if is_eq (term_cmp key other) then None else value_at other ps)
found_removed [] key other ts t u = either (is_eq (term_cmp key other)) None
found_removed (p ∷ ps) key other ts t u =
    dropped p ps key other (term_cmp p.0 key) refl (fits_front p.0 (keys ps) ts) t u (found_removed ps key other (fits_behind p.0 (keys ps) ts) t u)

pub only_the_key_is_removed : OnlyTheKeyIsRemoved
only_the_key_is_removed m key other = found_removed m.nodes key.node other.node (keys_of_map m.nodes m.fit) key.fits other.fits

-- ---- merge

keys_step : (p : TermTree × TermTree) (ps : Pairs) (key value : TermTree) (o : Ordering) → AreTerms (keys (p ∷ ps)) → IsTerm key → AreTerms (keys (insert_entry term_cmp ps key value))
    → AreTerms (keys (match_ordering o ((key, value) ∷ p ∷ ps) ((p.0, value) ∷ ps) (p ∷ insert_entry term_cmp ps key value)))
keys_step p ps key value Less ts t rest = fits_more key (keys (p ∷ ps)) t ts
keys_step p ps key value Equal ts t rest = ts
keys_step p ps key value Greater ts t rest = fits_more p.0 (keys (insert_entry term_cmp ps key value)) (fits_front p.0 (keys ps) ts) rest

pub keys_put : (ps : Pairs) (key value : TermTree) → AreTerms (keys ps) → IsTerm key → AreTerms (keys (insert_entry term_cmp ps key value))
keys_put [] key value ts t = fits_more key [] t ts
keys_put (p ∷ ps) key value ts t = keys_step p ps key value (term_cmp key p.0) ts t (keys_put ps key value (fits_behind p.0 (keys ps) ts) t)

turned_eq : (a b : TermTree) → IsTerm a → IsTerm b → is_eq (term_cmp a b) ≡ true → a ≡ b
turned_eq a b ha hb e = same a b ha hb (eq_of _ e)

pub found_with : (ps qs : Pairs) (key : TermTree) → AreTerms (keys ps) → Rise qs → AreTerms (keys qs) → IsTerm key → value_at key (map_with ps qs) ≡ later (value_at key qs) (value_at key ps)
found_with ps [] key ts h us t = refl
found_with ps (q ∷ qs) key ts h us t =
    found_with (insert_entry term_cmp ps q.0 q.1) qs key (keys_put ps q.0 q.1 ts fits) (rise_behind q.0 (keys qs) h) behind t
    ∙ ap (later (value_at key qs)) (found_put ps q.0 q.1 key ts fits t)
    ∙ go (is_eq (term_cmp q.0 key)) refl
  where
    fits : IsTerm q.0
    fits = fits_front q.0 (keys qs) us

    behind : AreTerms (keys qs)
    behind = fits_behind q.0 (keys qs) us

    go : (b : Bool) → is_eq (term_cmp q.0 key) ≡ b → later (value_at key qs) (if b then Some q.1 else value_at key ps) ≡ later (if b then Some q.1 else value_at key qs) (value_at key ps)
    go true e =
        let none : value_at key qs ≡ None = ap (λ k. value_at k qs) (sym (turned_eq q.0 key fits t e)) ∙ missing q.0 qs (all_above q.0 qs h fits behind) in
        ap (λ r. later r (Some q.1)) none
    go false e = refl

pub the_second_map_counts : TheSecondMapCounts
the_second_map_counts a b key = found_with a.nodes b.nodes key.node (keys_of_map a.nodes a.fit) (keys_rise_in b.nodes b.fit) (keys_of_map b.nodes b.fit) key.fits

-- ---- one map of each look-up

-- the value of the first key
first_found : (p : TermTree × TermTree) (ps : Pairs) → IsTerm p.0 → value_at p.0 (p ∷ ps) ≡ Some p.1
first_found p ps t = ap (λ o. if is_eq o then Some p.1 else value_at p.0 ps) (tied p.0 t)

skipped : (k : TermTree) (p : TermTree × TermTree) (ps : Pairs) (o : Ordering) → term_cmp p.0 k ≡ o → (o ≡ Equal → ⊥) → value_at k (p ∷ ps) ≡ value_at k ps
skipped k p ps Less e apart = ap (λ o. if is_eq o then Some p.1 else value_at k ps) e
skipped k p ps Equal e apart = absurd (apart refl)
skipped k p ps Greater e apart = ap (λ o. if is_eq o then Some p.1 else value_at k ps) e

abbrev Alike : Pairs → Pairs → Type 0
Alike ps qs = (k : TermTree) → IsTerm k → value_at k ps ≡ value_at k qs

-- a map whose first key is less than all keys of another has a value that the other has not
no_less : (p : TermTree × TermTree) (ps qs : Pairs) → IsTerm p.0 → Above p.0 qs → Alike (p ∷ ps) qs → ⊥
no_less p ps qs t above alike =
    let clash : Some p.1 ≡ None = sym (first_found p ps t) ∙ (alike p.0 t ∙ missing p.0 qs above) in cc

-- what both have behind one first key
alike_behind : (p q : TermTree × TermTree) (ps qs : Pairs) → p.0 ≡ q.0 → IsTerm p.0 → Above p.0 ps → Above q.0 qs → Alike (p ∷ ps) (q ∷ qs) → (k : TermTree) → IsTerm k → (o : Ordering) → term_cmp p.0 k ≡ o → value_at k ps ≡ value_at k qs
alike_behind p q ps qs key hp above_p above_q alike k t Equal f =
    let one : p.0 ≡ k = same p.0 k hp t f in
    ap (λ j. value_at j ps) (sym one) ∙ missing p.0 ps above_p ∙ sym (ap (λ j. value_at j qs) (sym (sym key ∙ one)) ∙ missing q.0 qs above_q)
alike_behind p q ps qs key hp above_p above_q alike k t Less f =
    sym (skipped k p ps Less f (λ x. cc)) ∙ alike k t ∙ skipped k q qs Less (ap (λ j. term_cmp j k) (sym key) ∙ f) (λ x. cc)
alike_behind p q ps qs key hp above_p above_q alike k t Greater f =
    sym (skipped k p ps Greater f (λ x. cc)) ∙ alike k t ∙ skipped k q qs Greater (ap (λ j. term_cmp j k) (sym key) ∙ f) (λ x. cc)

-- the first pairs of two maps that are alike
firsts_same : (p q : TermTree × TermTree) (ps qs : Pairs) (o : Ordering) → term_cmp p.0 q.0 ≡ o → Rise (p ∷ ps) → Rise (q ∷ qs) → AreTerms (keys (p ∷ ps)) → AreTerms (keys (q ∷ qs)) → Alike (p ∷ ps) (q ∷ qs) → p.0 ≡ q.0
firsts_same p q ps qs Less e h g ts us alike =
    absurd (no_less p ps (q ∷ qs) (fits_front p.0 (keys ps) ts) (all_above p.0 (q ∷ qs) (and_from _ _ (ap is_lt e) g) (fits_front p.0 (keys ps) ts) us) alike)
firsts_same p q ps qs Equal e h g ts us alike = same p.0 q.0 (fits_front p.0 (keys ps) ts) (fits_front q.0 (keys qs) us) e
firsts_same p q ps qs Greater e h g ts us alike =
    let hp = fits_front p.0 (keys ps) ts in
    let hq = fits_front q.0 (keys qs) us in
    absurd (no_less q qs (p ∷ ps) hq (all_above q.0 (p ∷ ps) (and_from _ _ (ap is_lt (turned p.0 q.0 Greater hp hq e)) h) hq ts) (λ k t. sym (alike k t)))

some_same : (x y : TermTree) → Some x ≡ Some y → x ≡ y
some_same x y e = cc

pub one_map : (ps qs : Pairs) → Rise ps → Rise qs → AreTerms (keys ps) → AreTerms (keys qs) → Alike ps qs → ps ≡ qs
one_map [] [] h g ts us alike = refl
one_map [] (q ∷ qs) h g ts us alike =
    absurd (no_less q qs [] (fits_front q.0 (keys qs) us) (λ i d l. absurd (omega arith)) (λ k t. sym (alike k t)))
one_map (p ∷ ps) [] h g ts us alike = absurd (no_less p ps [] (fits_front p.0 (keys ps) ts) (λ i d l. absurd (omega arith)) alike)
one_map (p ∷ ps) (q ∷ qs) h g ts us alike =
    let hp = fits_front p.0 (keys ps) ts in
    let hq = fits_front q.0 (keys qs) us in
    let behind_p = fits_behind p.0 (keys ps) ts in
    let behind_q = fits_behind q.0 (keys qs) us in
    let key = firsts_same p q ps qs (term_cmp p.0 q.0) refl h g ts us alike in
    let value = some_same p.1 q.1 (sym (first_found p ps hp) ∙ (alike p.0 hp ∙ (ap (λ k. value_at k (q ∷ qs)) key ∙ first_found q qs hq))) in
    let above_p = all_above p.0 ps h hp behind_p in
    let above_q = all_above q.0 qs g hq behind_q in
    let rest =
    one_map ps qs (rise_behind p.0 (keys ps) h) (rise_behind q.0 (keys qs) g) behind_p behind_q
    (λ k t. alike_behind p q ps qs key hp above_p above_q alike k t (term_cmp p.0 k) refl)
    in
    λ i. (key i, value i) ∷ rest i

as_term : (k : TermTree) (ps qs : Pairs) → ((key : Term) → value_at key.node ps ≡ value_at key.node qs) → IsTerm k → value_at k ps ≡ value_at k qs
as_term k ps qs alike t = alike record { node = k; fits = t }

pub one_map_of_each_look_up : OneMapOfEachLookUp
one_map_of_each_look_up a b alike =
    one_map a.nodes b.nodes (keys_rise_in a.nodes a.fit) (keys_rise_in b.nodes b.fit) (keys_of_map a.nodes a.fit) (keys_of_map b.nodes b.fit)
    (λ k t. as_term k a.nodes b.nodes alike t)
