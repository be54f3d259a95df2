-- Pairs by rising keys: what is put into them, and what is taken out.
use Rattle.std.proofs.Common.{◌≡◌, ◌<◌, ◌≤◌, ℕ, zero, suc, true, IsTrue, List, [], ◌∷◌, ◌++◌, length, map, take, drop, get_or, refl, ap, sym, ◌∙◌, arith}
use Rattle.std.specs.declared.cmp.Ordering.{Ordering}
use Rattle.std.specs.declared.cmp.Ordering.TheVariants.{Less, Equal, Greater}
use Rattle.std.specs.BTreeMap.{insert_entry}
use Rattle.std.specs.Cmp.{tied_itself}
use Rattle.std.specs.List as lists
use Rattle.std.specs.Ordering.{is_lt, is_ne, match_ordering, ordering_reverse}
use Rattle.std.specs.Prelude.{cond, slice_set}
use Rattle.std.proofs.lemmas.Bool.{and_from, and_parts}
use Rattle.kh_term.specs.declared.term.Term.{Term}
use Rattle.kh_term.specs.declared.tree.TermTree.{TermTree}
use Rattle.kh_term.specs.MapOf.{map_with}
use Rattle.kh_term.specs.Order.{term_cmp}
use Rattle.kh_term.specs.WellFormed.{IsTerm, AreTerms, keys_rise}
use Rattle.kh_term.specs.Lemmas.Fits.{fits_front, fits_behind}
use Rattle.kh_term.specs.Lemmas.Total.{terms_total}
use Rattle.kh_bif_data.specs.Maps.{others}

abbrev pub Pairs : Type 0
Pairs = List (TermTree × TermTree)

abbrev pub keys : Pairs → List TermTree
keys ps = map (λ p. p.0) ps

abbrev pub Rise : Pairs → Type 0
Rise ps = IsTrue (keys_rise (keys ps))

-- ---- two and three terms

abbrev term : (a : TermTree) → IsTerm a → Term
term a h = record { node = a; fits = h }

pub turned : (a b : TermTree) (o : Ordering) → IsTerm a → IsTerm b → term_cmp a b ≡ o → term_cmp b a ≡ ordering_reverse o
turned a b o ha hb e = terms_total.antisymm (term b hb) (term a ha) ∙ ap ordering_reverse e

pub below : (a b c : TermTree) → IsTerm a → IsTerm b → IsTerm c → term_cmp a b ≡ Less → term_cmp b c ≡ Less → term_cmp a c ≡ Less
below a b c ha hb hc = terms_total.trans (term a ha) (term b hb) (term c hc)

pub tied : (a : TermTree) → IsTerm a → term_cmp a a ≡ Equal
tied a h = tied_itself terms_total (term a h)

less_of : (o : Ordering) → is_lt o ≡ true → o ≡ Less
less_of Less e = refl
less_of Equal e = absurd (cc)
less_of Greater e = absurd (cc)

pub rise_behind : (k : TermTree) (ks : List TermTree) → IsTrue (keys_rise (k ∷ ks)) → IsTrue (keys_rise ks)
rise_behind k [] h = refl
rise_behind k (l ∷ ks) h = (and_parts _ _ h).1

first_below : (k l : TermTree) (ks : List TermTree) → IsTrue (keys_rise (k ∷ l ∷ ks)) → term_cmp k l ≡ Less
first_below k l ks h = less_of _ (and_parts _ _ h).0

-- ---- keys behind a key

pub key_fits : (ps : Pairs) (i : ℕ) (d : TermTree × TermTree) → AreTerms (keys ps) → i < length ps → IsTerm (get_or ps i d).0
key_fits [] i d ts within = absurd (omega arith)
key_fits (p ∷ ps) zero d ts within = fits_front p.0 (keys ps) ts
key_fits (p ∷ ps) (suc i) d ts within = key_fits ps i d (fits_behind p.0 (keys ps) ts) (omega arith)

-- each key is greater than k
abbrev pub Above : TermTree → Pairs → Type 0
Above k ps = (i : ℕ) (d : TermTree × TermTree) → i < length ps → term_cmp (get_or ps i d).0 k ≡ Greater

above_cons : (k : TermTree) (q : TermTree × TermTree) (ps : Pairs) → term_cmp q.0 k ≡ Greater → Above k ps → Above k (q ∷ ps)
above_cons k q ps first later zero d within = first
above_cons k q ps first later (suc i) d within = later i d (omega arith)

above_behind : (k : TermTree) (q : TermTree × TermTree) (ps : Pairs) → Above k (q ∷ ps) → Above k ps
above_behind k q ps h = λ i d within. h (suc i) d (omega arith)

-- what rises from k by way of q rises from k
skip : (k : TermTree) (q : TermTree × TermTree) (ps : Pairs) → IsTrue (keys_rise (k ∷ keys (q ∷ ps))) → IsTerm k → IsTerm q.0 → AreTerms (keys ps) → IsTrue (keys_rise (k ∷ keys ps))
skip k q [] h t fits ts = refl
skip k q (r ∷ ps) h t fits ts =
    let behind = rise_behind k (q.0 ∷ keys (r ∷ ps)) h in
    let less = below k q.0 r.0 t fits (fits_front r.0 (keys ps) ts) (first_below k q.0 (keys (r ∷ ps)) h) (first_below q.0 r.0 (keys ps) behind) in
    and_from _ _ (ap is_lt less) (rise_behind q.0 (r.0 ∷ keys ps) behind)

pub all_above : (k : TermTree) (ps : Pairs) → IsTrue (keys_rise (k ∷ keys ps)) → IsTerm k → AreTerms (keys ps) → Above k ps
all_above k [] h t ts = λ i d within. absurd (omega arith)
all_above k (q ∷ ps) h t ts =
    let fits = fits_front q.0 (keys ps) ts in
    let behind = fits_behind q.0 (keys ps) ts in
    above_cons k q ps (turned k q.0 Less t fits (first_below k q.0 (keys ps) h)) (all_above k ps (skip k q ps h t fits behind) t behind)

-- a key is below each behind it
pub below_all : (k : TermTree) (ps : Pairs) → IsTrue (keys_rise (k ∷ keys ps)) → IsTerm k → AreTerms (keys ps) → (i : ℕ) (d : TermTree × TermTree) → i < length ps → term_cmp k (get_or ps i d).0 ≡ Less
below_all k ps h t ts i d within =
    turned (get_or ps i d).0 k Greater (key_fits ps i d ts within) t (all_above k ps h t ts i d within)

-- ---- a value at a key

put_first : (p : TermTree × TermTree) (ps : Pairs) (key value : TermTree) (o : Ordering) → term_cmp key p.0 ≡ o → insert_entry term_cmp (p ∷ ps) key value ≡ match_ordering o ((key, value) ∷ p ∷ ps) ((p.0, value) ∷ ps) (p ∷ insert_entry term_cmp ps key value)
put_first p ps key value o e =
    ap (λ r. match_ordering r ((key, value) ∷ p ∷ ps) ((p.0, value) ∷ ps) (p ∷ insert_entry term_cmp ps key value)) e

-- at the place of the key the value is replaced
pub put_there : (ps : Pairs) (key value : TermTree) (at : ℕ) (d : TermTree × TermTree) → Rise ps → AreTerms (keys ps) → IsTerm key → at < length ps → (get_or ps at d).0 ≡ key → insert_entry term_cmp ps key value ≡ slice_set ps at (key, value)
put_there [] key value at d h ts t within e = absurd (omega arith)
put_there (p ∷ ps) key value zero d h ts t within e =
    put_first p ps key value Equal (ap (term_cmp key) e ∙ tied key t) ∙ ap (λ k. (k, value) ∷ ps) e
put_there (p ∷ ps) key value (suc at) d h ts t within e =
    let fits = fits_front p.0 (keys ps) ts in
    let behind = fits_behind p.0 (keys ps) ts in
    let less : term_cmp p.0 key ≡ Less = ap (term_cmp p.0) (sym e) ∙ below_all p.0 ps h fits behind at d (omega arith) in
    put_first p ps key value Greater (turned p.0 key Less fits t less)
    ∙ ap (λ qs. p ∷ qs) (put_there ps key value at d (rise_behind p.0 (keys ps) h) behind t (omega arith) e)

-- at the place at which the key would stand the pair comes in
pub put_between : (ps : Pairs) (key value : TermTree) (at : ℕ) → at ≤ length ps
    → ((i : ℕ) (d : TermTree × TermTree) → i < at → term_cmp key (get_or ps i d).0 ≡ Greater) → ((d : TermTree × TermTree) → at < length ps → term_cmp key (get_or ps at d).0 ≡ Less)
    → insert_entry term_cmp ps key value ≡ take at ps ++ (key, value) ∷ drop at ps
put_between [] key value zero within lows highs = refl
put_between [] key value (suc at) within lows highs = absurd (omega arith)
put_between (p ∷ ps) key value zero within lows highs = put_first p ps key value Less (highs p (omega arith))
put_between (p ∷ ps) key value (suc at) within lows highs =
    put_first p ps key value Greater (lows zero p (omega arith))
    ∙ ap (λ qs. p ∷ qs) (put_between ps key value at (omega arith) (λ i d l. lows (suc i) d (omega arith)) (λ d l. highs d (omega arith)))

-- keys rise after it too
rise_step : (l key value : TermTree) (p : TermTree × TermTree) (ps : Pairs) (o : Ordering) → term_cmp key p.0 ≡ o → IsTerm key → IsTerm p.0 → IsTrue (keys_rise (l ∷ keys (p ∷ ps))) → term_cmp l key ≡ Less
    → (term_cmp p.0 key ≡ Less → IsTrue (keys_rise (p.0 ∷ keys (insert_entry term_cmp ps key value))))
    → IsTrue (keys_rise (l ∷ keys (match_ordering o ((key, value) ∷ p ∷ ps) ((p.0, value) ∷ ps) (p ∷ insert_entry term_cmp ps key value))))
rise_step l key value p ps Less f t fits h e later =
    and_from _ _ (ap is_lt e) (and_from _ _ (ap is_lt f) (and_parts _ _ h).1)
rise_step l key value p ps Equal f t fits h e later = h
rise_step l key value p ps Greater f t fits h e later = and_from _ _ (and_parts _ _ h).0 (later (turned key p.0 Greater t fits f))

rise_from : (l key value : TermTree) (ps : Pairs) → IsTrue (keys_rise (l ∷ keys ps)) → AreTerms (keys ps) → IsTerm key → term_cmp l key ≡ Less → IsTrue (keys_rise (l ∷ keys (insert_entry term_cmp ps key value)))
rise_from l key value [] h ts t e = and_from _ _ (ap is_lt e) refl
rise_from l key value (p ∷ ps) h ts t e =
    rise_step l key value p ps (term_cmp key p.0) refl t (fits_front p.0 (keys ps) ts) h e
    (λ f. rise_from p.0 key value ps (and_parts _ _ h).1 (fits_behind p.0 (keys ps) ts) t f)

pub put_rises : (ps : Pairs) (key value : TermTree) → Rise ps → AreTerms (keys ps) → IsTerm key → Rise (insert_entry term_cmp ps key value)
put_rises [] key value h ts t = refl
put_rises (p ∷ ps) key value h ts t = go (term_cmp key p.0) refl
  where
    go : (o : Ordering) → term_cmp key p.0 ≡ o → Rise (match_ordering o ((key, value) ∷ p ∷ ps) ((p.0, value) ∷ ps) (p ∷ insert_entry term_cmp ps key value))
    go Less f = and_from _ _ (ap is_lt f) h
    go Equal f = h
    go Greater f = rise_from p.0 key value ps h (fits_behind p.0 (keys ps) ts) t (turned key p.0 Greater t (fits_front p.0 (keys ps) ts) f)

-- ---- without a key

kept : (p : TermTree × TermTree) (ps : Pairs) (key : TermTree) (o : Ordering) → term_cmp p.0 key ≡ o → others key (p ∷ ps) ≡ cond (is_ne o) (p ∷ others key ps) (others key ps)
kept p ps key o e = ap (λ r. cond (is_ne r) (p ∷ others key ps) (others key ps)) e

keep_step : (p : TermTree × TermTree) (ps : Pairs) (key : TermTree) (o : Ordering) → term_cmp p.0 key ≡ o → (term_cmp p.0 key ≡ Equal → ⊥) → others key ps ≡ ps → others key (p ∷ ps) ≡ p ∷ ps
keep_step p ps key Less e apart rest = kept p ps key Less e ∙ ap (λ qs. p ∷ qs) rest
keep_step p ps key Equal e apart rest = absurd (apart e)
keep_step p ps key Greater e apart rest = kept p ps key Greater e ∙ ap (λ qs. p ∷ qs) rest

-- where the key isn't there all stay
pub none_taken : (ps : Pairs) (key : TermTree) → ((i : ℕ) (d : TermTree × TermTree) → i < length ps → term_cmp (get_or ps i d).0 key ≡ Equal → ⊥) → others key ps ≡ ps
none_taken [] key apart = refl
none_taken (p ∷ ps) key apart =
    keep_step p ps key (term_cmp p.0 key) refl (apart zero p (omega arith)) (none_taken ps key (λ i d l. apart (suc i) d (omega arith)))

greater_apart : (o : Ordering) → o ≡ Greater → o ≡ Equal → ⊥
greater_apart o e f = cc

-- and where it is that pair goes
pub one_taken : (ps : Pairs) (key : TermTree) (at : ℕ) (d : TermTree × TermTree) → Rise ps → AreTerms (keys ps) → IsTerm key → at < length ps → (get_or ps at d).0 ≡ key → others key ps ≡ lists.remove ps at
one_taken [] key at d h ts t within e = absurd (omega arith)
one_taken (p ∷ ps) key zero d h ts t within e =
    let above = all_above p.0 ps h (fits_front p.0 (keys ps) ts) (fits_behind p.0 (keys ps) ts) in
    kept p ps key Equal (ap (λ k. term_cmp k key) e ∙ tied key t)
    ∙ none_taken ps key (λ i c l f. greater_apart _ (above i c l) (ap (term_cmp (get_or ps i c).0) e ∙ f))
one_taken (p ∷ ps) key (suc at) d h ts t within e =
    let fits = fits_front p.0 (keys ps) ts in
    let behind = fits_behind p.0 (keys ps) ts in
    let less : term_cmp p.0 key ≡ Less = ap (term_cmp p.0) (sym e) ∙ below_all p.0 ps h fits behind at d (omega arith) in
    kept p ps key Less less ∙ ap (λ qs. p ∷ qs) (one_taken ps key at d (rise_behind p.0 (keys ps) h) behind t (omega arith) e)

-- what is left rises too
removed_from : (k : TermTree) (ps : Pairs) (at : ℕ) → IsTrue (keys_rise (k ∷ keys ps)) → IsTerm k → AreTerms (keys ps) → IsTrue (keys_rise (k ∷ keys (lists.remove ps at)))
removed_from k [] zero h t ts = h
removed_from k [] (suc at) h t ts = h
removed_from k (q ∷ ps) zero h t ts = skip k q ps h t (fits_front q.0 (keys ps) ts) (fits_behind q.0 (keys ps) ts)
removed_from k (q ∷ ps) (suc at) h t ts =
    and_from _ _ (and_parts _ _ h).0 (removed_from q.0 ps at (and_parts _ _ h).1 (fits_front q.0 (keys ps) ts) (fits_behind q.0 (keys ps) ts))

pub removed_rises : (ps : Pairs) (at : ℕ) → Rise ps → AreTerms (keys ps) → Rise (lists.remove ps at)
removed_rises [] zero h ts = h
removed_rises [] (suc at) h ts = h
removed_rises (p ∷ ps) zero h ts = rise_behind p.0 (keys ps) h
removed_rises (p ∷ ps) (suc at) h ts = removed_from p.0 ps at h (fits_front p.0 (keys ps) ts) (fits_behind p.0 (keys ps) ts)

-- ---- two maps

-- pairs that are greater than the first come in behind it
pub behind_first : (l : TermTree × TermTree) (ls qs : Pairs) → Above l.0 qs → map_with (l ∷ ls) qs ≡ l ∷ map_with ls qs
behind_first l ls [] above = refl
behind_first l ls (q ∷ qs) above =
    ap (λ kept. map_with kept qs) (put_first l ls q.0 q.1 Greater (above zero q (omega arith)))
    ∙ behind_first l (insert_entry term_cmp ls q.0 q.1) qs (above_behind l.0 q qs above)

-- into no pair all come as they stand
pub into_none : (qs : Pairs) → Rise qs → AreTerms (keys qs) → map_with [] qs ≡ qs
into_none [] h ts = refl
into_none (q ∷ qs) h ts =
    behind_first q [] qs (all_above q.0 qs h (fits_front q.0 (keys qs) ts) (fits_behind q.0 (keys qs) ts))
    ∙ ap (λ rs. q ∷ rs) (into_none qs (rise_behind q.0 (keys qs) h) (fits_behind q.0 (keys qs) ts))

module _ (l r : TermTree × TermTree) (ls rs : Pairs) (rises : Rise (r ∷ rs)) (fit : AreTerms (keys (r ∷ rs))) (key : IsTerm l.0) where
  fits : IsTerm r.0
  fits = fits_front r.0 (keys rs) fit

  above : Above r.0 rs
  above = all_above r.0 rs rises fits (fits_behind r.0 (keys rs) fit)

  -- the lesser key comes first
  pub first_less : term_cmp l.0 r.0 ≡ Less → map_with (l ∷ ls) (r ∷ rs) ≡ l ∷ map_with ls (r ∷ rs)
  first_less e = behind_first l ls (r ∷ rs) (all_above l.0 (r ∷ rs) (and_from _ _ (ap is_lt e) rises) key fit)

  -- of one key the second counts
  pub both_same : term_cmp l.0 r.0 ≡ Equal → l.0 ≡ r.0 → map_with (l ∷ ls) (r ∷ rs) ≡ r ∷ map_with ls rs
  both_same e same =
      ap (λ kept. map_with kept rs) (put_first l ls r.0 r.1 Equal (turned l.0 r.0 Equal key fits e) ∙ ap (λ k. (k, r.1) ∷ ls) same)
      ∙ behind_first r ls rs above

  pub first_greater : term_cmp l.0 r.0 ≡ Greater → map_with (l ∷ ls) (r ∷ rs) ≡ r ∷ map_with (l ∷ ls) rs
  first_greater e =
      ap (λ kept. map_with kept rs) (put_first l ls r.0 r.1 Less (turned l.0 r.0 Greater key fits e))
      ∙ behind_first r (l ∷ ls) rs above
