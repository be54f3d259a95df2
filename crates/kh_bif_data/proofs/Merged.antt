-- Two lists of pairs by rising keys that are walked together.
use Rattle.std.proofs.Common.{◌≡◌, ◌<◌, ◌≤◌, ℕ, zero, suc, ◌+◌, List, [], ◌∷◌, ◌++◌, length, map, refl, sym, ap, subst, ◌∙◌, arith}
use Rattle.std.proofs.lemmas.List.{append_assoc, map-append}
use Rattle.std.proofs.lemmas.List.Elements.{All-push}
use Rattle.std.specs.declared.cmp.Ordering.TheVariants.{Less, Equal, Greater}
use Rattle.std.specs.Prelude.{Result, Ok, Err, IfOk}
use Rattle.kh_term.specs.declared.tree.TermTree.{TermTree}
use Rattle.kh_term.specs.MapOf.{map_of, map_with}
use Rattle.kh_term.specs.Order.{term_cmp}
use Rattle.kh_term.specs.WellFormed.{IsTerm, AreTerms}
use Rattle.kh_term.specs.Lemmas.Fits.{fits_front, fits_behind, fits_more}
use Rattle.kh_term.proofs.Same.{same}
use Rattle.kh_heap.specs.Heap.{term_at, pairs_at, Holds, HoldsPairs}
use Rattle.kh_bif_data.specs.Maps.{ByKeys}
use Rattle.kh_bif_data.proofs.Ordered.{Pairs, keys, rise_behind, first_less, both_same, first_greater, into_none}
use Rattle.kh_bif_data.proofs.Sorting.{of_rises, of_fits, of_halves}

-- ---- pairs of references

abbrev pub shown : List TermTree → ℕ × ℕ → TermTree × TermTree
shown heap p = (term_at heap p.0, term_at heap p.1)

abbrev pub Held : List TermTree → ℕ × ℕ → Type 0
Held heap p = Holds heap p.0 × Holds heap p.1

pub by_keys_behind : (p : TermTree × TermTree) (ps : Pairs) → ByKeys (p ∷ ps) → ByKeys ps
by_keys_behind p ps h = record { rising = rise_behind p.0 (keys ps) h.rising; fit = fits_behind p.0 (keys ps) h.fit }

module _ (heap : List TermTree) (l : ℕ × ℕ) (ls left : List (ℕ × ℕ)) (is : left ≡ l ∷ ls) where
  pub first_held : HoldsPairs heap left → Held heap l
  first_held h = subst (λ (us : List (ℕ × ℕ)). HoldsPairs heap us) is h 0 l (omega arith)

  pub behind_held : HoldsPairs heap left → HoldsPairs heap ls
  behind_held h = λ k d b. subst (λ (us : List (ℕ × ℕ)). HoldsPairs heap us) is h (suc k) d (omega (arith, b))

  pub whole_by_keys : ByKeys (pairs_at heap left) → ByKeys (shown heap l ∷ pairs_at heap ls)
  whole_by_keys h = subst (λ (us : List (ℕ × ℕ)). ByKeys (pairs_at heap us)) is h

  pub behind_by_keys : ByKeys (pairs_at heap left) → ByKeys (pairs_at heap ls)
  behind_by_keys h = by_keys_behind (shown heap l) (pairs_at heap ls) (whole_by_keys h)

  pub key_fits : ByKeys (pairs_at heap left) → IsTerm (term_at heap l.0)
  key_fits h = fits_front (term_at heap l.0) (keys (pairs_at heap ls)) (whole_by_keys h).fit

module _ (heap : List TermTree) (all items : List (ℕ × ℕ)) (p : ℕ × ℕ) (pushed : items ≡ all ++ p ∷ []) where
  pub more_held : HoldsPairs heap all → Held heap p → HoldsPairs heap items
  more_held h held = subst (λ (us : List (ℕ × ℕ)). HoldsPairs heap us) (sym pushed) (All-push (Held heap) all p h held)

  pub more_pairs : (before behind whole : Pairs) → before ≡ shown heap p ∷ behind → pairs_at heap all ++ before ≡ whole → pairs_at heap items ++ behind ≡ whole
  more_pairs before behind whole e h =
      ap (λ us. pairs_at heap us ++ behind) pushed ∙ ap (λ us. us ++ behind) (map-append (shown heap) all (p ∷ []))
      ∙ append_assoc (pairs_at heap all) (shown heap p ∷ []) behind ∙ ap (λ us. pairs_at heap all ++ us) (sym e) ∙ h

-- ---- the lesser key comes first

module _ (heap : List TermTree) (l r : ℕ × ℕ) (ls rs left right : List (ℕ × ℕ)) (is_left : left ≡ l ∷ ls) (is_right : right ≡ r ∷ rs) (firsts : ByKeys (pairs_at heap left)) (seconds : ByKeys (pairs_at heap right)) where
  both : map_with (pairs_at heap left) (pairs_at heap right) ≡ map_with (shown heap l ∷ pairs_at heap ls) (shown heap r ∷ pairs_at heap rs)
  both = λ i. map_with (pairs_at heap (is_left i)) (pairs_at heap (is_right i))

  behind : ByKeys (shown heap r ∷ pairs_at heap rs)
  behind = whole_by_keys heap r rs right is_right seconds

  first : IsTerm (term_at heap l.0)
  first = key_fits heap l ls left is_left firsts

  pub from_first : term_cmp (term_at heap l.0) (term_at heap r.0) ≡ Less → map_with (pairs_at heap left) (pairs_at heap right) ≡ shown heap l ∷ map_with (pairs_at heap ls) (pairs_at heap right)
  from_first e =
      both ∙ first_less (shown heap l) (shown heap r) (pairs_at heap ls) (pairs_at heap rs) behind.rising behind.fit first e
      ∙ ap (λ us. shown heap l ∷ map_with (pairs_at heap ls) (pairs_at heap us)) (sym is_right)

  pub from_both : term_cmp (term_at heap l.0) (term_at heap r.0) ≡ Equal → map_with (pairs_at heap left) (pairs_at heap right) ≡ shown heap r ∷ map_with (pairs_at heap ls) (pairs_at heap rs)
  from_both e =
      both
      ∙ both_same (shown heap l) (shown heap r) (pairs_at heap ls) (pairs_at heap rs) behind.rising behind.fit first e
      (same (term_at heap l.0) (term_at heap r.0) first (key_fits heap r rs right is_right seconds) e)

  pub from_second : term_cmp (term_at heap l.0) (term_at heap r.0) ≡ Greater → map_with (pairs_at heap left) (pairs_at heap right) ≡ shown heap r ∷ map_with (pairs_at heap left) (pairs_at heap rs)
  from_second e =
      both ∙ first_greater (shown heap l) (shown heap r) (pairs_at heap ls) (pairs_at heap rs) behind.rising behind.fit first e
      ∙ ap (λ us. shown heap r ∷ map_with (pairs_at heap us) (pairs_at heap rs)) (sym is_left)

-- ---- where one of them is at its end

module _ (heap : List TermTree) (all items left right : List (ℕ × ℕ)) (whole : Pairs) (so_far : pairs_at heap all ++ map_with (pairs_at heap left) (pairs_at heap right) ≡ whole) where
  pub no_first : ByKeys (pairs_at heap right) → left ≡ [] → items ≡ all ++ right → pairs_at heap items ≡ whole
  no_first h none e =
      ap (pairs_at heap) e ∙ map-append (shown heap) all right
      ∙ ap (λ us. pairs_at heap all ++ us) (sym (ap (λ us. map_with (pairs_at heap us) (pairs_at heap right)) none ∙ into_none (pairs_at heap right) h.rising h.fit))
      ∙ so_far

  pub no_second : right ≡ [] → items ≡ all ++ left → pairs_at heap items ≡ whole
  no_second none e =
      ap (pairs_at heap) e ∙ map-append (shown heap) all left
      ∙ ap (λ us. pairs_at heap all ++ us) (sym (ap (λ us. map_with (pairs_at heap left) (pairs_at heap us)) none)) ∙ so_far

-- ---- halves

pub short : (ps : Pairs) → length ps < 2 → ps ≡ map_of ps
short [] l = refl
short (p ∷ []) l = refl
short (p ∷ q ∷ ps) l = absurd (omega (arith, l))

fits_of_front : (xs ys : List TermTree) → AreTerms (xs ++ ys) → AreTerms xs
fits_of_front [] ys h = refl
fits_of_front (x ∷ xs) ys h = fits_more x xs (fits_front x (xs ++ ys) h) (fits_of_front xs ys (fits_behind x (xs ++ ys) h))

fits_of_back : (xs ys : List TermTree) → AreTerms (xs ++ ys) → AreTerms ys
fits_of_back [] ys h = h
fits_of_back (x ∷ xs) ys h = fits_of_back xs ys (fits_behind x (xs ++ ys) h)

module _ (heap : List TermTree) (all front back : List (ℕ × ℕ)) (parted : all ≡ front ++ back) (fit : AreTerms (keys (pairs_at heap all))) where
  two : pairs_at heap all ≡ pairs_at heap front ++ pairs_at heap back
  two = ap (pairs_at heap) parted ∙ map-append (shown heap) front back

  two_keys : keys (pairs_at heap all) ≡ keys (pairs_at heap front) ++ keys (pairs_at heap back)
  two_keys = ap keys two ∙ map-append (λ (p : TermTree × TermTree). p.0) (pairs_at heap front) (pairs_at heap back)

  pub front_fits : AreTerms (keys (pairs_at heap front))
  front_fits = fits_of_front (keys (pairs_at heap front)) (keys (pairs_at heap back)) (subst AreTerms two_keys fit)

  pub back_fits : AreTerms (keys (pairs_at heap back))
  back_fits = fits_of_back (keys (pairs_at heap front)) (keys (pairs_at heap back)) (subst AreTerms two_keys fit)

  pub of_both : (ps qs : Pairs) → ps ≡ map_of (pairs_at heap front) → qs ≡ map_of (pairs_at heap back) → map_with ps qs ≡ map_of (pairs_at heap all)
  of_both ps qs e f =
      (λ i. map_with (e i) (f i)) ∙ of_halves (pairs_at heap front) (pairs_at heap back) front_fits back_fits ∙ ap map_of (sym two)

pub ok_more : {T E A : Type 0} (r : Result T E) (f : T → A) (x y : A) → IfOk r (λ v. f v ≡ x) → x ≡ y → IfOk r (λ v. f v ≡ y)
ok_more (Ok v) f x y h e = h ∙ e
ok_more (Err error) f x y h e = tt

-- what is put in order is by keys
pub map_by_keys : (ps qs : Pairs) → ps ≡ map_of qs → AreTerms (keys qs) → ByKeys ps
map_by_keys ps qs e h = subst ByKeys (sym e) record { rising = of_rises qs h; fit = of_fits qs h }
