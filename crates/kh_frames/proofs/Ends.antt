-- The x registers as a list whose last is written.
use Rattle.std.proofs.Common.{◌≡◌, ℕ, zero, suc, ◌+◌, ◌-◌, ◌<◌, ◌≤◌, ◌⊎◌, inl, inr, Bool, true, List, [], ◌∷◌, ◌++◌, length, replicate, refl, sym, ◌∙◌, ap, subst, arith, slice_set, Option, Some, None}
use Rattle.std.proofs.lemmas.Bool.{cases_lt}
use Rattle.std.proofs.lemmas.List.{length-append, length-replicate, replicate-append-replicate, append_assoc, append-nil, get_or-set_same, get_or-set_other}
use Rattle.std.proofs.Math.Seq.{set-append_seam}
use Rattle.kh_frames.specs.Frame.{register, written}
use Rattle.kh_frames.specs.Valid.{ends_written}
use Rattle.kh_frames.specs.Laws.{RegistersAreMaps}

module _ {V : Type 0} where
  -- a register that is there is written
  ends_set : (xs : List (Option V)) (n : ℕ) (v : V) → n < length xs → ends_written xs ≡ true → ends_written (slice_set xs n (Some v)) ≡ true
  ends_set [] n v h e = absurd (omega arith)
  ends_set (x ∷ []) zero v h e = refl
  ends_set (x ∷ []) (suc n) v h e = absurd (omega arith)
  ends_set (x ∷ y ∷ ys) zero v h e = e
  ends_set (x ∷ y ∷ ys) (suc zero) v h e = let below : 0 < length (y ∷ ys) = omega arith in ends_set (y ∷ ys) zero v below e
  ends_set (x ∷ y ∷ ys) (suc (suc n)) v h e = let below : suc n < length (y ∷ ys) = omega arith in ends_set (y ∷ ys) (suc n) v below e

  -- a register behind the others is written
  ends_pushed : (xs : List (Option V)) (v : V) → ends_written (xs ++ Some v ∷ []) ≡ true
  ends_pushed [] v = refl
  ends_pushed (x ∷ []) v = refl
  ends_pushed (x ∷ y ∷ ys) v = ends_pushed (y ∷ ys) v

  -- a register past the end is set behind absent ones
  set_past : (xs : List (Option V)) (n : ℕ) (v : V) → length xs ≤ n → written xs n v ≡ (xs ++ replicate (n - length xs) None) ++ Some v ∷ []
  set_past xs n v h =
      let gap = n - length xs in
      let absent = xs ++ replicate gap None in
      let long : length absent ≡ n = length-append xs (replicate gap None) ∙ ap (λ k. length xs + k) (length-replicate gap None) ∙ omega arith in
      let more : n + 1 - length xs ≡ gap + 1 = omega arith in
      let grown : xs ++ replicate (n + 1 - length xs) None ≡ absent ++ None ∷ []
      = ap (λ k. xs ++ replicate k None) more ∙ ap (λ l. xs ++ l) (sym (replicate-append-replicate gap 1 None)) ∙ sym (append_assoc xs (replicate gap None) (None ∷ [])) in
      ap (λ l. slice_set l n (Some v)) grown ∙ ap (λ k. slice_set (absent ++ None ∷ []) k (Some v)) (sym long) ∙ set-append_seam absent None [] (Some v)

  pub ends_after : (xs : List (Option V)) (n : ℕ) (v : V) → ends_written xs ≡ true → ends_written (written xs n v) ≡ true
  ends_after xs n v e = elim (cases_lt n (length xs)) [
    | inl h ↦ within h
    | inr h ↦ ap ends_written (set_past xs n v h) ∙ ends_pushed (xs ++ replicate (n - length xs) None) v
  ] where
    within : n < length xs → ends_written (written xs n v) ≡ true
    within h =
        let none : n + 1 - length xs ≡ 0 = omega arith in
        let same : xs ++ replicate (n + 1 - length xs) None ≡ xs = ap (λ k. xs ++ replicate k None) none ∙ append-nil xs in
        ap (λ l. ends_written (slice_set l n (Some v))) same ∙ ends_set xs n v h e

  -- a list of registers without its first
  ends_behind : (x : Option V) (xs : List (Option V)) → ends_written (x ∷ xs) ≡ true → ends_written xs ≡ true
  ends_behind x [] e = refl
  ends_behind x (y ∷ ys) e = e

  -- registers that all read absent are none
  none_written : (xs : List (Option V)) → ends_written xs ≡ true → ((n : ℕ) → register xs n ≡ None) → [] ≡ xs
  none_written [] e absent = refl
  none_written (None ∷ []) e absent = absurd cc
  none_written (Some v ∷ []) e absent = let first = absent 0 in absurd cc
  none_written (x ∷ y ∷ ys) e absent = let rest : [] ≡ y ∷ ys = none_written (y ∷ ys) e (λ n. absent (suc n)) in absurd cc

  read_alike : (xs ys : List (Option V)) → ends_written xs ≡ true → ends_written ys ≡ true → ((n : ℕ) → register xs n ≡ register ys n) → xs ≡ ys
  read_alike [] ys e f same = none_written ys f (λ n. sym (same n))
  read_alike (x ∷ xs) [] e f same = sym (none_written (x ∷ xs) e same)
  read_alike (x ∷ xs) (y ∷ ys) e f same =
      let rest = read_alike xs ys (ends_behind x xs e) (ends_behind y ys f) (λ n. same (suc n)) in
      λ i. same 0 i ∷ rest i

  abbrev nothing : Option V
  nothing = None

  -- absent registers behind the others change none
  register_of_absent : (n m : ℕ) → register (replicate n nothing) m ≡ None
  register_of_absent zero m = refl
  register_of_absent (suc n) zero = refl
  register_of_absent (suc n) (suc m) = register_of_absent n m

  register_before : (xs : List (Option V)) (n m : ℕ) → register (xs ++ replicate n None) m ≡ register xs m
  register_before [] n m = register_of_absent n m
  register_before (x ∷ xs) n zero = refl
  register_before (x ∷ xs) n (suc m) = register_before xs n m

  pub registers_are_maps : RegistersAreMaps V
  registers_are_maps = record {
    read_back = λ xs n v. get_or-set_same (xs ++ replicate (n + 1 - length xs) None) n (Some v) None
        (let long = length-append xs (replicate (n + 1 - length xs) None) in let many = length-replicate (n + 1 - length xs) nothing in omega (arith, long, many));
    others = λ xs n m v other. get_or-set_other (xs ++ replicate (n + 1 - length xs) None) n m (Some v) None other ∙ register_before xs (n + 1 - length xs) m;
    ends = ends_after;
    equal = read_alike;
  }
