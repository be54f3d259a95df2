-- The list that chunks hold: an item of it, an item more, a chunk more, and a part of it.
use Rattle.std.proofs.Common.{◌≡◌, ℕ, zero, suc, ◌+◌, ◌-◌, ◌<◌, ◌≤◌, List, [], ◌∷◌, ◌++◌, length, take, get_or, set, min, refl, sym, ap, ◌∙◌, arith, add-one, length-append, inl, inr}
use native.Mathlib.Nat.{not-suc-le-zero, le_of_suc-le-suc}
use Rattle.std.proofs.Math.ListN.{get_or-append}
use Rattle.std.proofs.lemmas.List.{set-append_left, set-append_right, length-take-le, length-take, length-set, length-replicate, get_or-take, take-append-le, get_or_push, get_or-set_same, get_or-set_other}
use Rattle.std.proofs.lemmas.List.Concat.{get_or-flat_map, flat_map-append}
use Rattle.std.proofs.lemmas.Option.{slice_get-get_or}
use Rattle.std.proofs.lemmas.Bool.{cases_eq}
use Rattle.std.specs.Prelude.{Some, None, IsSome, slice_get}
use Rattle.std.specs.List.{flat_map}
use Rattle.std.specs.declared.option.Option.{Option}
use denote.RawPtr.{Ptr}
use Rattle.kh_arena.specs.declared.chunk.Chunk.{Chunk}
use Rattle.kh_arena.specs.Sizes.{chunk_len, places_before}
use Rattle.kh_arena.specs.Spots.{Spot, spot, spots_from}
use Rattle.kh_arena.specs.Ownership.{empty_places}
use Rattle.kh_arena.specs.Listed.{first_items, places_of, spots_of, most_items, Sized, IsArena}
use Rattle.kh_arena.proofs.SizeLemmas.{chunk_len-pos, chunk-before}

module _ {X : Type 0} where
  -- n places hold at most n items
  few_items : (n : ℕ) (ss : List (Option X)) → length (first_items n ss) ≤ n
  few_items zero ss = omega arith
  few_items (suc n) [] = omega arith
  few_items (suc n) (Some x ∷ ss) = let few = few_items n ss in omega arith
  few_items (suc n) (None ∷ ss) = let few = few_items n ss in omega arith

  -- where each of the first n places holds an item, the i-th item is what the i-th place holds
  item_at : (n : ℕ) (ss : List (Option X)) (i : ℕ) → length (first_items n ss) ≡ n → i < n → get_or ss i None ≡ slice_get (first_items n ss) i
  item_at zero ss i full l = absurd (not-suc-le-zero l)
  item_at (suc n) [] i full l = refl
  item_at (suc n) (None ∷ ss) i full l = let few = few_items n ss in absurd (omega arith)
  item_at (suc n) (Some x ∷ ss) zero full l = refl
  item_at (suc n) (Some x ∷ ss) (suc i) full l = item_at n ss i (omega arith) (le_of_suc-le-suc l)

  -- and the first m of them are what the first m places hold
  first_items-cut : (n m : ℕ) (ss : List (Option X)) → length (first_items n ss) ≡ n → m ≤ n → first_items m ss ≡ take m (first_items n ss)
  first_items-cut n zero ss full l = refl
  first_items-cut zero (suc m) ss full l = absurd (not-suc-le-zero l)
  first_items-cut (suc n) (suc m) [] full l = refl
  first_items-cut (suc n) (suc m) (None ∷ ss) full l = let few = few_items n ss in absurd (omega arith)
  first_items-cut (suc n) (suc m) (Some x ∷ ss) full l = ap (λ (xs : List X). x ∷ xs) (first_items-cut n m ss (omega arith) (le_of_suc-le-suc l))

  -- an item is written into the place after the first n
  first_items-set : (n : ℕ) (ss : List (Option X)) (x : X) → n < length ss → first_items (suc n) (set ss n (Some x)) ≡ first_items n ss ++ x ∷ []
  first_items-set n [] x l = absurd (not-suc-le-zero l)
  first_items-set zero (s ∷ ss) x l = refl
  first_items-set (suc n) (None ∷ ss) x l = first_items-set n ss x (le_of_suc-le-suc l)
  first_items-set (suc n) (Some y ∷ ss) x l = ap (λ (xs : List X). y ∷ xs) (first_items-set n ss x (le_of_suc-le-suc l))

  -- more places at the end leave them
  first_items-append : (n : ℕ) (ss ts : List (Option X)) → n ≤ length ss → first_items n (ss ++ ts) ≡ first_items n ss
  first_items-append zero ss ts l = refl
  first_items-append (suc n) [] ts l = absurd (not-suc-le-zero l)
  first_items-append (suc n) (None ∷ ss) ts l = first_items-append n ss ts (le_of_suc-le-suc l)
  first_items-append (suc n) (Some x ∷ ss) ts l = ap (λ (xs : List X). x ∷ xs) (first_items-append n ss ts (le_of_suc-le-suc l))

  -- there are no fewer places than items
  places_enough : (n : ℕ) (ss : List (Option X)) → length (first_items n ss) ≡ n → n ≤ length ss
  places_enough zero ss full = omega arith
  places_enough (suc n) [] full = let none : 0 ≡ suc n = full in absurd (not-suc-le-zero {n = n} (omega arith))
  places_enough (suc n) (None ∷ ss) full = let few = few_items n ss in absurd (omega arith)
  places_enough (suc n) (Some x ∷ ss) full = let rest = places_enough n ss (omega arith) in omega arith

  pub slice_get-is_some : (xs : List X) (i : ℕ) → i < length xs → IsSome (slice_get xs i)
  slice_get-is_some [] i l = absurd (not-suc-le-zero l)
  slice_get-is_some (x ∷ xs) zero l = refl
  slice_get-is_some (x ∷ xs) (suc i) l = slice_get-is_some xs i (le_of_suc-le-suc l)

module _ (p : Ptr) where
  length-spots_from : (i n : ℕ) → length (spots_from p i n) ≡ n
  unfolding spots_from
  length-spots_from i zero = refl
  length-spots_from i (suc n) = ap (λ (k : ℕ). suc k) (length-spots_from (suc i) n)

  get_or-spots_from : (i n j : ℕ) (e : Spot) → j < n → get_or (spots_from p i n) j e ≡ spot p (i + j)
  unfolding spots_from
  get_or-spots_from i zero j e l = absurd (not-suc-le-zero l)
  get_or-spots_from i (suc n) zero e l = let same : i ≡ i + 0 = omega arith in ap (spot p) same
  get_or-spots_from i (suc n) (suc j) e l = let same : suc i + j ≡ i + suc j = omega arith in get_or-spots_from (suc i) n j e (le_of_suc-le-suc l) ∙ ap (spot p) same

-- pieces side by side, of which one is replaced
module _ {C Y : Type 0} (f : C → List Y) where
  flat_map-same : (cs : List C) (k : ℕ) (new d : C) → f new ≡ f (get_or cs k d) → flat_map f (set cs k new) ≡ flat_map f cs
  flat_map-same [] k new d is = refl
  flat_map-same (c ∷ cs) zero new d is = ap (λ (ys : List Y). ys ++ flat_map f cs) is
  flat_map-same (c ∷ cs) (suc k) new d is = ap (λ (ys : List Y). f c ++ ys) (flat_map-same cs k new d is)

  flat_map-set : (cs : List C) (k j : ℕ) (new d : C) (y : Y) → k < length cs → j < length (f (get_or cs k d)) → f new ≡ set (f (get_or cs k d)) j y
      → flat_map f (set cs k new) ≡ set (flat_map f cs) (length (flat_map f (take k cs)) + j) y
  flat_map-set [] k j new d y l m is = absurd (not-suc-le-zero l)
  flat_map-set (c ∷ cs) zero j new d y l m is =
      let same : j ≡ 0 + j = omega arith in
      ap (λ (ys : List Y). ys ++ flat_map f cs) is ∙ sym (set-append_left (f c) (flat_map f cs) j y m) ∙ ap (λ (n : ℕ). set (f c ++ flat_map f cs) n y) same
  flat_map-set (c ∷ cs) (suc k) j new d y l m is =
      let before = length (flat_map f (take k cs)) in
      let all : length (f c ++ flat_map f (take k cs)) + j ≡ length (f c) + (before + j) = omega (arith, length-append (f c) (flat_map f (take k cs))) in
      let rest : before + j ≡ length (f c) + (before + j) - length (f c) = omega arith in
      ap (λ (ys : List Y). f c ++ ys) (flat_map-set cs k j new d y (le_of_suc-le-suc l) m is)
      ∙ ap (λ (n : ℕ). f c ++ set (flat_map f cs) n y) rest
      ∙ sym (set-append_right (f c) (flat_map f cs) (length (f c)) (length (f c) + (before + j)) y refl (omega arith))
      ∙ ap (λ (n : ℕ). set (f c ++ flat_map f cs) n y) (sym all)

abbrev lie : {X A : Type 0} → Chunk X A → List Spot
lie c = spots_from c.at 0 c.len

module _ {X A : Type 0} where
  -- what a chunk gives for each of its places
  module _ {Y : Type 0} (f : Chunk X A → List Y) (fits : (c : Chunk X A) → length (f c) ≡ c.len) where
    length-all : (k : ℕ) (cs : List (Chunk X A)) → Sized k cs → places_before k + length (flat_map f cs) ≡ places_before (k + length cs)
    length-all k [] sized = let same : k ≡ k + 0 = omega arith in omega (arith, ap places_before same)
    length-all k (c ∷ cs) sized =
        let here : suc k + length cs ≡ k + suc (length cs) = omega arith in
        let this : k + 0 ≡ k = omega arith in
        let rest = length-all (suc k) cs (record { each = λ i d l. let next : k + suc i ≡ suc k + i = omega arith in sized.each (suc i) d (omega (arith, l)) ∙ ap chunk_len next }) in
        omega (arith, length-append (f c) (flat_map f cs), fits c, sized.each 0 c (omega arith), ap chunk_len this, rest, ap places_before here)

    length-of : (cs : List (Chunk X A)) → Sized 0 cs → length (flat_map f cs) ≡ places_before (length cs)
    length-of cs sized = let same : 0 + length cs ≡ length cs = omega arith in omega (arith, length-all 0 cs sized, ap places_before same)

    length-before : (cs : List (Chunk X A)) (k : ℕ) → Sized 0 cs → k ≤ length cs → length (flat_map f (take k cs)) ≡ places_before k
    length-before cs k sized l =
        let few : length (take k cs) ≡ k = length-take-le k cs l in
        length-of (take k cs) (record {
          each = λ i d m.
              let below : i < k = omega (arith, m, few) in
              ap (λ (c : Chunk X A). c.len) (get_or-take k cs i d below) ∙ sized.each i d (omega (arith, below, l));
        }) ∙ ap places_before few

    module _ (cs : List (Chunk X A)) (k j i : ℕ) (d : Chunk X A) (sized : Sized 0 cs) (l : k < length cs) (m : j < chunk_len k) (e : places_before k + j ≡ i) where
      inside : j < length (f (get_or cs k d))
      inside = let same : 0 + k ≡ k = omega arith in omega (arith, m, fits (get_or cs k d), sized.each k d l, ap chunk_len same)

      before : length (flat_map f (take k cs)) + j ≡ i
      before = omega (arith, e, length-before cs k sized (omega (arith, l)))

      at : (y : Y) → get_or (flat_map f cs) i y ≡ get_or (f (get_or cs k d)) j y
      at y = ap (λ (n : ℕ). get_or (flat_map f cs) n y) (sym before) ∙ get_or-flat_map f cs k j d y l inside

      set-at : (new : Chunk X A) (y : Y) → f new ≡ set (f (get_or cs k d)) j y → flat_map f (set cs k new) ≡ set (flat_map f cs) i y
      set-at new y is = flat_map-set f cs k j new d y l inside is ∙ ap (λ (n : ℕ). set (flat_map f cs) n y) before

  places_fit : (c : Chunk X A) → length c.places ≡ c.len
  places_fit c = sym c.whole

  lie_fit : (c : Chunk X A) → length (lie c) ≡ c.len
  lie_fit c = length-spots_from c.at 0 c.len

  -- what holds of an arena whose first n places hold items
  module _ (n r : ℕ) (cs : List (Chunk X A)) (is : IsArena n r cs) where
    pub room-places : length (places_of cs) ≡ places_before (length cs)
    room-places = length-of (λ c. c.places) places_fit cs is.sized

    pub room-spots : length (spots_of cs) ≡ places_before (length cs)
    room-spots = length-of lie lie_fit cs is.sized

    pub room-enough : n ≤ places_before (length cs)
    room-enough = omega (arith, places_enough n (places_of cs) is.full, room-places)

    -- the first m items are an arena
    module _ (m : ℕ) (l : m ≤ n) where
      pub items-take : first_items m (places_of cs) ≡ take m (first_items n (places_of cs))
      items-take = first_items-cut n m (places_of cs) is.full l

      pub IsArena-take : IsArena m r cs
      IsArena-take = record { full = ap length items-take ∙ length-take-le m (first_items n (places_of cs)) (omega (arith, is.full, l)); sized = is.sized; room = is.room; few = omega (arith, is.few, l) }

    -- the place i, which is place j of chunk k, where there are more places
    module _ (k j i : ℕ) (e : places_before k + j ≡ i) (m : j < chunk_len k) (l : i < places_before (length cs)) where
      pub chunk-within : k < length cs
      chunk-within = chunk-before k (length cs) (omega (arith, e, l))

      pub place-within : (c : Chunk X A) → c ≡ get_or cs k c → j < length c.places
      place-within c found = let same : 0 + k ≡ k = omega arith in omega (arith, m, c.whole, ap (λ (d : Chunk X A). d.len) found, is.sized.each k c chunk-within, ap chunk_len same)

      pub place-holds : (c : Chunk X A) → c ≡ get_or cs k c → i < n → get_or c.places j None ≡ slice_get (first_items n (places_of cs)) i
      place-holds c found under =
          ap (λ (d : Chunk X A). get_or d.places j None) found ∙ sym (at (λ d. d.places) places_fit cs k j i c is.sized chunk-within m e None)
          ∙ item_at n (places_of cs) i is.full under

      pub place-lies : (c : Chunk X A) → c ≡ get_or cs k c → i < n → slice_get (take n (spots_of cs)) i ≡ Some (spot c.at j)
      place-lies c found under =
          let d : Spot = spot c.at j in
          let same : 0 + j ≡ j = omega arith in let here : 0 + k ≡ k = omega arith in
          let many : i < length (take n (spots_of cs)) = omega (arith, under, length-take n (spots_of cs), room-spots, room-enough) in
          slice_get-get_or (take n (spots_of cs)) i d many
          ∙ ap (λ (s : Spot). Some s) (get_or-take n (spots_of cs) i d under ∙ at lie lie_fit cs k j i c is.sized chunk-within m e d
          ∙ ap (λ (b : Chunk X A). get_or (lie b) j d) (sym found) ∙ get_or-spots_from c.at 0 c.len j d (omega (arith, c.whole, place-within c found)) ∙ ap (spot c.at) same)

      -- an item in the place after the first n is appended to the list, and nothing moves
      module _ (old new : Chunk X A) (x : X) (found : old ≡ get_or cs k old) (written : new.places ≡ set old.places j (Some x)) (stays : new.at ≡ old.at) (here : i ≡ n) where
        new_len : new.len ≡ old.len
        new_len = new.whole ∙ ap length written ∙ length-set old.places j (Some x) ∙ sym old.whole

        places_are : places_of (set cs k new) ≡ set (places_of cs) n (Some x)
        places_are =
            set-at (λ c. c.places) places_fit cs k j i old is.sized chunk-within m e new (Some x) (written ∙ ap (λ (c : Chunk X A). set c.places j (Some x)) found)
            ∙ ap (λ (h : ℕ). set (places_of cs) h (Some x)) here

        pub spots-put : spots_of (set cs k new) ≡ spots_of cs
        spots-put = flat_map-same lie cs k new old (ap (λ (p : Ptr). spots_from p 0 new.len) stays ∙ ap (λ (h : ℕ). spots_from old.at 0 h) new_len ∙ ap lie found)

        pub items-put : first_items (n + 1) (places_of (set cs k new)) ≡ first_items n (places_of cs) ++ x ∷ []
        items-put =
            ap (λ (h : ℕ). first_items h (places_of (set cs k new))) (add-one n) ∙ ap (first_items (suc n)) places_are
            ∙ first_items-set n (places_of cs) x (omega (arith, l, here, room-places))

        pub places-put : length (places_of (set cs k new)) ≡ length (places_of cs)
        places-put = ap length places_are ∙ length-set (places_of cs) n (Some x)

        sized-put : Sized 0 (set cs k new)
        sized-put = record {
          each = λ h d lh.
              let below : h < length cs = omega (arith, lh, length-set cs k new) in
              elim (cases_eq h k) [
                | inl eq ↦ ap (λ (g : ℕ). (get_or (set cs k new) g d).len) eq ∙ ap (λ (c : Chunk X A). c.len) (get_or-set_same cs k new d chunk-within)
                    ∙ new_len ∙ ap (λ (c : Chunk X A). c.len) found ∙ is.sized.each k old chunk-within ∙ ap (λ (g : ℕ). chunk_len (0 + g)) (sym eq)
                | inr ne ↦ ap (λ (c : Chunk X A). c.len) (get_or-set_other cs k h new d ne) ∙ is.sized.each h d below
              ];
        }

        pub IsArena-put : n < most_items → IsArena (n + 1) r (set cs k new)
        IsArena-put small = record {
          full = ap length items-put ∙ length-append (first_items n (places_of cs)) (x ∷ []) ∙ omega (arith, is.full);
          sized = sized-put;
          room = is.room ∙ ap (λ (h : ℕ). min (places_before h) most_items) (sym (length-set cs k new));
          few = omega (arith, l, here, is.room, small);
        }

    -- one more chunk, whose places are empty, leaves the items and where they lie
    module _ (c : Chunk X A) (empty : c.places ≡ empty_places (chunk_len (length cs))) where
      chunk_is : c.len ≡ chunk_len (length cs)
      chunk_is = c.whole ∙ ap length empty ∙ length-replicate {A = Option X} (chunk_len (length cs)) None

      pub items-grown : first_items n (places_of (cs ++ c ∷ [])) ≡ first_items n (places_of cs)
      items-grown = ap (first_items n) (flat_map-append (λ (d : Chunk X A). d.places) cs (c ∷ [])) ∙ first_items-append n (places_of cs) (places_of (c ∷ [])) (places_enough n (places_of cs) is.full)

      pub spots-grown : take n (spots_of (cs ++ c ∷ [])) ≡ take n (spots_of cs)
      spots-grown = ap (take n) (flat_map-append lie cs (c ∷ [])) ∙ take-append-le n (spots_of cs) (spots_of (c ∷ [])) (omega (arith, room-spots, room-enough))

      sized-grown : Sized 0 (cs ++ c ∷ [])
      sized-grown = record {
        each = λ h d lh.
            elim (cases_eq h (length cs)) [
              | inl eq ↦ ap (λ (b : Chunk X A). b.len) (get_or_push cs c d h (sym eq)) ∙ chunk_is ∙ ap (λ (g : ℕ). chunk_len g) (let e : length cs ≡ 0 + h = omega (arith, eq) in e)
              | inr ne ↦ let below : h < length cs = omega (arith, ne, lh, length-append cs (c ∷ [])) in
                  ap (λ (b : Chunk X A). b.len) (get_or-append cs (c ∷ []) d h below) ∙ is.sized.each h d below
            ];
      }

      length-grown : length (cs ++ c ∷ []) ≡ suc (length cs)
      length-grown = length-append cs (c ∷ []) ∙ add-one (length cs)

      pub places-grown : length (places_of (cs ++ c ∷ [])) ≡ length (places_of cs) + chunk_len (length cs)
      places-grown = length-of (λ d. d.places) places_fit (cs ++ c ∷ []) sized-grown ∙ ap places_before length-grown ∙ omega (arith, room-places)

      pub IsArena-grown : IsArena n (min (r + chunk_len (length cs)) most_items) (cs ++ c ∷ [])
      IsArena-grown = record {
        full = ap length items-grown ∙ is.full;
        sized = sized-grown;
        room = omega (arith, is.room, ap places_before length-grown);
        few = omega (arith, is.few, is.room);
      }

      pub spare-grown : n + (min (length (places_of cs)) most_items - n) < most_items → min (length (places_of cs)) most_items - n < min (length (places_of (cs ++ c ∷ []))) most_items - n
      spare-grown l = omega (arith, l, places-grown, chunk_len-pos (length cs), room-places, room-enough)
