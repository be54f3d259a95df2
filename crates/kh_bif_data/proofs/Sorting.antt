-- Maps of pairs in any order, by halves.
use Rattle.std.proofs.Common.{◌≡◌, [], ◌∷◌, ◌++◌, Option, Some, None, refl, ap, sym, ◌∙◌}
use Rattle.std.specs.BTreeMap.{insert_entry}
use Rattle.std.specs.Ordering.{is_eq}
use Rattle.std.specs.Prelude.{Bool, true, false, if◌then◌else◌}
use Rattle.kh_term.specs.declared.tree.TermTree.{TermTree}
use Rattle.kh_term.specs.Lookup.{value_at}
use Rattle.kh_term.specs.MapOf.{last_at, later, map_of, map_with}
use Rattle.kh_term.specs.Order.{term_cmp}
use Rattle.kh_term.specs.WellFormed.{IsTerm, AreTerms}
use Rattle.kh_term.specs.Lemmas.Fits.{fits_front, fits_behind}
use Rattle.kh_bif_data.proofs.MapLaws.{found_put, found_with, keys_put, one_map}
use Rattle.kh_bif_data.proofs.Ordered.{Pairs, keys, Rise, put_rises}

-- ---- what comes in is a map

pub with_rises : (ps qs : Pairs) → Rise ps → AreTerms (keys ps) → AreTerms (keys qs) → Rise (map_with ps qs)
with_rises ps [] h ts us = h
with_rises ps (q ∷ qs) h ts us =
    let fits = fits_front q.0 (keys qs) us in
    with_rises (insert_entry term_cmp ps q.0 q.1) qs (put_rises ps q.0 q.1 h ts fits) (keys_put ps q.0 q.1 ts fits) (fits_behind q.0 (keys qs) us)

pub with_fits : (ps qs : Pairs) → AreTerms (keys ps) → AreTerms (keys qs) → AreTerms (keys (map_with ps qs))
with_fits ps [] ts us = ts
with_fits ps (q ∷ qs) ts us =
    with_fits (insert_entry term_cmp ps q.0 q.1) qs (keys_put ps q.0 q.1 ts (fits_front q.0 (keys qs) us)) (fits_behind q.0 (keys qs) us)

no_keys : AreTerms (keys [])
no_keys = refl

pub of_rises : (qs : Pairs) → AreTerms (keys qs) → Rise (map_of qs)
of_rises qs us = with_rises [] qs refl no_keys us

pub of_fits : (qs : Pairs) → AreTerms (keys qs) → AreTerms (keys (map_of qs))
of_fits qs us = with_fits [] qs no_keys us

-- ---- the last of each key

last_step : (b : Bool) (l : Option TermTree) (x : TermTree) (r : Option TermTree) → later l (if b then Some x else r) ≡ later (later l (if b then Some x else None)) r
last_step b (Some y) x r = refl
last_step true None x r = refl
last_step false None x r = refl

pub found_all : (ps qs : Pairs) (key : TermTree) → AreTerms (keys ps) → AreTerms (keys qs) → IsTerm key → value_at key (map_with ps qs) ≡ later (last_at key qs) (value_at key ps)
found_all ps [] key ts us t = refl
found_all ps (q ∷ qs) key ts us t =
    let fits = fits_front q.0 (keys qs) us in
    let behind = fits_behind q.0 (keys qs) us in
    found_all (insert_entry term_cmp ps q.0 q.1) qs key (keys_put ps q.0 q.1 ts fits) behind t
    ∙ ap (later (last_at key qs)) (found_put ps q.0 q.1 key ts fits t)
    ∙ last_step (is_eq (term_cmp q.0 key)) (last_at key qs) q.1 (value_at key ps)

later_none : (o : Option TermTree) → later o None ≡ o
later_none None = refl
later_none (Some x) = refl

with_append : (ps xs ys : Pairs) → map_with ps (xs ++ ys) ≡ map_with (map_with ps xs) ys
with_append ps [] ys = refl
with_append ps (x ∷ xs) ys = with_append (insert_entry term_cmp ps x.0 x.1) xs ys

-- the maps of two halves make the map of all
pub of_halves : (xs ys : Pairs) → AreTerms (keys xs) → AreTerms (keys ys) → map_with (map_of xs) (map_of ys) ≡ map_of (xs ++ ys)
of_halves xs ys ts us =
    let a = map_of xs in
    let b = map_of ys in
    let ta = of_fits xs ts in
    let tb = of_fits ys us in
    let same =
    one_map (map_with a b) (map_with a ys) (with_rises a b (of_rises xs ts) ta tb) (with_rises a ys (of_rises xs ts) ta us) (with_fits a b ta tb) (with_fits a ys ta us)
    (λ k t. found_with a b k ta (of_rises ys us) tb t
    ∙ ap (λ r. later r (value_at k a)) (found_all [] ys k no_keys us t ∙ later_none (last_at k ys))
    ∙ sym (found_all a ys k ta us t))
    in
    same ∙ sym (with_append [] xs ys)
