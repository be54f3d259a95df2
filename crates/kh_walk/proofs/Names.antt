-- Names joined.
use Rattle.std.proofs.Common.{◌≡◌, ℕ, zero, suc, ◌+◌, ◌<◌, ◌≤◌, true, false, cond, List, [], ◌∷◌, ◌++◌, length, take, drop, map, get_or, refl, ap, sym, subst, ◌∙◌, add-one, append_assoc, ne_eqb, suc-ne-zero, arith}
use Rattle.std.proofs.lemmas.List.{take_more, drop_more, drop_at, drop_all}
use Rattle.std.specs.List.{join_with_byte}
use Rattle.std.specs.Prelude.{nat_eq}
use Rattle.kh_term.specs.declared.name.Name.{Name}
use Rattle.kh_term.specs.Name.{name_text}
use Rattle.kh_walk.specs.Rows.{with_name}
use Rattle.kh_walk.specs.Takes.{joined}

-- one more name at the end
join_more : (n : Name) (names : List Name) (last : Name) → joined ((n ∷ names) ++ last ∷ []) ≡ with_name false (joined (n ∷ names)) last
join_more n [] last = sym (append_assoc (name_text n) (47 ∷ []) (name_text last))
join_more n (k ∷ names) last =
    ap (λ t. name_text n ++ 47 ∷ t) (join_more k names last)
    ∙ sym (append_assoc (name_text n ++ 47 ∷ joined (k ∷ names)) (47 ∷ []) (name_text last)
    ∙ append_assoc (name_text n) (47 ∷ joined (k ∷ names)) (47 ∷ [] ++ name_text last)
    ∙ sym (ap (λ t. name_text n ++ 47 ∷ t) (append_assoc (joined (k ∷ names)) (47 ∷ []) (name_text last))))

pub next_joined : (names : List Name) (i : ℕ) (n : Name) → i < length names → n ≡ get_or names i n → with_name (nat_eq i 0) (joined (take i names)) n ≡ joined (take (i + 1) names)
next_joined names i n fits is = at_front names i n fits ∙ ap joined (sym (take_more names i n fits ∙ ap (λ x. take i names ++ x ∷ []) (sym is))) where
  at_front : (names : List Name) (i : ℕ) (n : Name) → i < length names → with_name (nat_eq i 0) (joined (take i names)) n ≡ joined (take i names ++ n ∷ [])
  at_front names zero n fits = refl
  at_front [] (suc i) n fits = absurd (omega (arith, fits))
  at_front (k ∷ names) (suc i) n fits = ap (λ b. with_name b (joined (k ∷ take i names)) n) (ne_eqb (suc i) 0 (suc-ne-zero i)) ∙ sym (join_more k (take i names) n)

-- what stands behind the first name
behind_first : (n : Name) (names : List Name) → drop (length (name_text n) + 1) (joined (n ∷ names)) ≡ joined names
behind_first n [] = drop_all (length (name_text n) + 1) (name_text n) (omega arith)
behind_first n (k ∷ names) = rw add-one (drop_suc (name_text n) 47 (joined (k ∷ names))) where
  drop_suc : (xs : List ℕ) (x : ℕ) (ys : List ℕ) → drop (suc (length xs)) (xs ++ x ∷ ys) ≡ ys
  drop_suc [] x ys = refl
  drop_suc (y ∷ xs) x ys = drop_suc xs x ys

pub next_behind : (names : List Name) (at : ℕ) (n : Name) → at < length names → n ≡ get_or names at n → drop (length (name_text n) + 1) (joined (drop at names)) ≡ joined (drop (at + 1) names)
next_behind names at n fits is =
    ap (λ ns. drop (length (name_text n) + 1) (joined ns)) (drop_more names at n fits ∙ ap (λ x. x ∷ drop (at + 1) names) (sym is)) ∙ behind_first n (drop (at + 1) names)
