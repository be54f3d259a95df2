-- Texts in quotes are read as they are spelled.
use Rattle.std.proofs.Common.{◌≡◌, ◌≤◌, ◌<◌, ℕ, zero, suc, ◌+◌, ◌-◌, ◌*◌, ◌/◌, ◌%◌, Bool, true, false, not, ◌&&◌, ◌||◌, cond, eqb, ltb, leb, List, [], ◌∷◌, ◌++◌, length, Option, Some, None, inl, inr, refl, sym, ap, subst, ◌∙◌, arith, append_assoc}
use Rattle.std.specs.Prelude.{◌⊎◌}
use Rattle.std.specs.Char.{IsScalar, encode_utf8, is_ascii_hexdigit, digit_value, len_utf8}
use Rattle.std.specs.List.{list_all}
use Rattle.std.specs.Str.{encode_utf8_all}
use Rattle.std.specs.Str.Parse.{digits_value, digits_value_after}
use Rattle.std.proofs.lemmas.Bool.{and_parts, and_from, and_left, and_right, eqb-true, eq-eqb, ne_eqb, lt-ltb, le-ltb, ltb-true, le-leb, lt-leb, leb-true, not-true, not_from_false, or_from, or_left, or_right, cases_order}
use Rattle.std.proofs.lemmas.Bool.Decides.{nat_tests}
use Rattle.std.proofs.lemmas.List.{length-append, append-nil}
use Rattle.std.proofs.lemmas.Str.{encode_ascii, length-encode}
use Rattle.kh_text_defs.specs.declared.mode.Mode.{Mode}
use Rattle.kh_text_defs.specs.Tokens.{are_code_digits, escaped, Character, as_it_is, by_letter, by_code, Characters, no_character, one_character}
use Rattle.kh_read.specs.State.{Frame, Use, ForName, ForList, ForSegment, Inner, Plain, Slash, Brace, Code, Follow, Quoting, Place, Quote, State, Setting, Step, Go}
use Rattle.kh_read.specs.Steps.{at, bound, used, with_point, quote_of, is_within, is_surrogate, can_be_code, lead, named, followed, step_place, read_on}
use Rattle.kh_read.proofs.TextCore.{spot}
use Rattle.kh_read.proofs.TextReads.{any}
use Rattle.kh_read.proofs.TextPoints.{some_bound, most_bound, quote_small, same_quote, no_surrogate}
use Rattle.kh_read.proofs.TextQuotes.{AreBelow, with_one}
use Rattle.kh_read.proofs.TextQuoted.{wide_bound, widest_bound, fits_code, plain_slash, plain_small, plain_lead, slash_brace, slash_named, brace_code, code_more, code_ends, follow_goes}
use Rattle.kh_read.proofs.TextLeads.{Leads, leads_first, leads_byte, leads_nothing, leads_then}

within : (low high b : ℕ) → low ≤ b → b ≤ high → is_within low high b ≡ true
within low high b from to = and_from _ _ (le-leb low b from) (le-leb b high to)

above : (low high b : ℕ) → high < b → is_within low high b ≡ false
above low high b over = and_right _ _ (lt-leb b high over)

scalar_range : (c : ℕ) → IsScalar c → (c < 0xD800) ⊎ ((0xE000 ≤ c) × (c < 0x110000))
scalar_range c e = go (ltb c 0xD800) refl
  where
    go : (t : Bool) → ltb c 0xD800 ≡ t → (c < 0xD800) ⊎ ((0xE000 ≤ c) × (c < 0x110000))
    go true h = inl (ltb-true c 0xD800 h)
    go false h = let parts = and_parts (leb 57344 c) (ltb c 1114112) (ap (λ t. cond t true (leb 57344 c && ltb c 1114112)) (sym h) ∙ e) in inr (leb-true 57344 c parts.0, ltb-true c 1114112 parts.1)

module _ (σ : Setting) (fs : List Frame) (q : Quoting) where
  abbrev B : ℕ
  B = bound σ.rules.mode q.use_

  abbrev inside_ : Inner → State
  inside_ inner = spot (Quote q inner) fs

  abbrev one_more : ℕ → State
  one_more c = spot (Quote (with_one q c) Plain) fs

  -- a byte of 128 or more
  leads_on : (p b : ℕ) → 128 ≤ b → 0 < bound σ.rules.mode q.use_ → step_place σ (Quote q Plain) fs p b ≡ lead fs q (bound σ.rules.mode q.use_) b
  leads_on p b high some =
      let small = quote_small q.use_ in
      plain_lead σ fs q p b (ne_eqb b (quote_of q.use_) (λ e. absurd (omega (arith, e, small)))) (ne_eqb (bound σ.rules.mode q.use_) 0 (λ e. absurd (omega (arith, e, some))))
      (ne_eqb b 92 (λ e. absurd (omega (arith, e)))) (le-ltb b 0x80 high)

  last_follow : (low high v b c : ℕ) → low ≤ b → b ≤ high → v * 64 + (b - 128) ≡ c → Leads σ (spot (Quote q (Follow 0 low high v)) fs) (b ∷ []) (spot (Quote (with_one q c) Plain) fs) any
  last_follow low high v b c from to is =
      leads_byte σ (Quote q (Follow 0 low high v)) fs b (spot (Quote (with_one q c) Plain) fs)
      (λ p. follow_goes σ fs q 0 low high v p b (within low high b from to) ∙ ap (λ (k : ℕ). with_point fs q k) is)

  next_follow : (n low high v b : ℕ) (text : List ℕ) (c : ℕ) → low ≤ b → b ≤ high → Leads σ (spot (Quote q (Follow n 128 191 (v * 64 + (b - 128)))) fs) text (spot (Quote (with_one q c) Plain) fs) any
      → Leads σ (spot (Quote q (Follow (suc n) low high v)) fs) (b ∷ text) (spot (Quote (with_one q c) Plain) fs) any
  next_follow n low high v b text c from to more =
      leads_first σ (Quote q (Follow (suc n) low high v)) fs b text (spot (Quote q (Follow n 128 191 (v * 64 + (b - 128)))) fs) (spot (Quote (with_one q c) Plain) fs) any
      (λ p. follow_goes σ fs q (suc n) low high v p b (within low high b from to)) more

  raw_2 : (c : ℕ) → 0x80 ≤ c → c < 0x800 → c < bound σ.rules.mode q.use_ → Leads σ (spot (Quote q Plain) fs) ((192 + c / 64) ∷ (128 + c % 64) ∷ []) (spot (Quote (with_one q c) Plain) fs) any
  raw_2 c large small under =
      let b = 192 + c / 64 in
      let test : (is_within 0xC2 0xDF b && ltb ((b - 0xC0) * 64) (bound σ.rules.mode q.use_)) ≡ true = and_from _ _ (within 0xC2 0xDF b (omega arith) (omega arith)) (lt-ltb ((b - 0xC0) * 64) (bound σ.rules.mode q.use_) (omega arith)) in
      leads_first σ (Quote q Plain) fs b ((128 + c % 64) ∷ []) (spot (Quote q (Follow 0 0x80 0xBF (b - 0xC0))) fs) (spot (Quote (with_one q c) Plain) fs) any
      (λ p. leads_on p b (omega arith) (omega arith) ∙ rw test refl)
      (last_follow 0x80 0xBF (b - 0xC0) (128 + c % 64) c (omega arith) (omega arith) (omega arith))

  raw_3 : (c : ℕ) → 0x800 ≤ c → c < 0x10000 → IsScalar c → c < bound σ.rules.mode q.use_ → Leads σ (spot (Quote q Plain) fs) ((224 + c / 4096) ∷ (128 + (c / 64) % 64) ∷ (128 + c % 64) ∷ []) (spot (Quote (with_one q c) Plain) fs) any
  raw_3 c large small scalar under = go (cases_order (c / 4096) 13) (cases_order (c / 4096) 0) (scalar_range c scalar)
    where
      b : ℕ
      b = 224 + c / 4096

      not_two : (is_within 0xC2 0xDF (224 + c / 4096) && ltb (((224 + c / 4096) - 0xC0) * 64) (bound σ.rules.mode q.use_)) ≡ false
      not_two = and_left _ _ (above 0xC2 0xDF (224 + c / 4096) (omega arith))

      room : ltb 0x800 (bound σ.rules.mode q.use_) ≡ true
      room = lt-ltb 0x800 (bound σ.rules.mode q.use_) (omega arith)

      not_first : (0 < c / 4096) → (eqb (224 + c / 4096) 0xE0 && ltb 0x800 (bound σ.rules.mode q.use_)) ≡ false
      not_first some = and_left _ _ (ne_eqb (224 + c / 4096) 0xE0 (λ e. absurd (omega (arith, e))))

      follow : (low high v : ℕ) → v ≡ c / 4096 → low ≤ 128 + (c / 64) % 64 → 128 + (c / 64) % 64 ≤ high → ((p : ℕ) → step_place σ (Quote q Plain) fs p (224 + c / 4096) ≡ at (Quote q (Follow 1 low high v)) fs)
          → Leads σ (spot (Quote q Plain) fs) ((224 + c / 4096) ∷ (128 + (c / 64) % 64) ∷ (128 + c % 64) ∷ []) (spot (Quote (with_one q c) Plain) fs) any
      follow low high v is from to goes =
          leads_first σ (Quote q Plain) fs (224 + c / 4096) ((128 + (c / 64) % 64) ∷ (128 + c % 64) ∷ []) (spot (Quote q (Follow 1 low high v)) fs) (spot (Quote (with_one q c) Plain) fs) any goes
          (next_follow 0 low high v (128 + (c / 64) % 64) ((128 + c % 64) ∷ []) c from to
          (last_follow 128 191 (v * 64 + ((128 + (c / 64) % 64) - 128)) (128 + c % 64) c (omega arith) (omega arith) (omega (arith, is))))

      go : (c / 4096 ≡ 13) ⊎ ((c / 4096 < 13) ⊎ (13 < c / 4096)) → (c / 4096 ≡ 0) ⊎ ((c / 4096 < 0) ⊎ (0 < c / 4096)) → (c < 0xD800) ⊎ ((0xE000 ≤ c) × (c < 0x110000))
          → Leads σ (spot (Quote q Plain) fs) ((224 + c / 4096) ∷ (128 + (c / 64) % 64) ∷ (128 + c % 64) ∷ []) (spot (Quote (with_one q c) Plain) fs) any
      go thirteen (inl none) range =
          let first : (eqb (224 + c / 4096) 0xE0 && ltb 0x800 (bound σ.rules.mode q.use_)) ≡ true = and_from _ _ (eq-eqb (224 + c / 4096) 0xE0 (omega (arith, none))) room in
          follow 0xA0 0xBF 0 (sym none) (omega (arith, none)) (omega arith) (λ p. leads_on p (224 + c / 4096) (omega arith) (omega arith) ∙ rw (not_two, first) refl)
      go thirteen (inr (inl less)) range = absurd (omega (arith, less))
      go (inl is) (inr (inr some)) (inl low) =
          let second : (eqb (224 + c / 4096) 0xED && ltb 0x800 (bound σ.rules.mode q.use_)) ≡ true = and_from _ _ (eq-eqb (224 + c / 4096) 0xED (omega (arith, is))) room in
          follow 0x80 0x9F 13 (sym is) (omega arith) (omega (arith, is, low)) (λ p. leads_on p (224 + c / 4096) (omega arith) (omega arith) ∙ rw (not_two, not_first some, second) refl)
      go (inl is) (inr (inr some)) (inr high) = absurd (omega (arith, is, high.0))
      go (inr other) (inr (inr some)) range =
          let apart : c / 4096 ≡ 13 → ⊥ = differs other in
          let second : (eqb (224 + c / 4096) 0xED && ltb 0x800 (bound σ.rules.mode q.use_)) ≡ false = and_left _ _ (ne_eqb (224 + c / 4096) 0xED (λ e. apart (omega (arith, e)))) in
          let third : (is_within 0xE1 0xEF (224 + c / 4096) && ltb 0x800 (bound σ.rules.mode q.use_)) ≡ true = and_from _ _ (within 0xE1 0xEF (224 + c / 4096) (omega (arith, some)) (omega arith)) room in
          let value : (224 + c / 4096) - 0xE0 ≡ c / 4096 = omega arith in
          follow 0x80 0xBF ((224 + c / 4096) - 0xE0) value (omega arith) (omega arith) (λ p. leads_on p (224 + c / 4096) (omega arith) (omega arith) ∙ rw (not_two, not_first some, second, third) refl)
        where
          differs : (c / 4096 < 13) ⊎ (13 < c / 4096) → c / 4096 ≡ 13 → ⊥
          differs (inl less) e = omega (arith, less, e)
          differs (inr more) e = omega (arith, more, e)

  raw_4 : (c : ℕ) → 0x10000 ≤ c → c < 0x110000 → c < bound σ.rules.mode q.use_
      → Leads σ (spot (Quote q Plain) fs) ((240 + c / 262144) ∷ (128 + (c / 4096) % 64) ∷ (128 + (c / 64) % 64) ∷ (128 + c % 64) ∷ []) (spot (Quote (with_one q c) Plain) fs) any
  raw_4 c large small under = go (cases_order (c / 262144) 4) (cases_order (c / 262144) 0)
    where
      room : ltb 0x10000 (bound σ.rules.mode q.use_) ≡ true
      room = lt-ltb 0x10000 (bound σ.rules.mode q.use_) (omega arith)

      t1 : (is_within 0xC2 0xDF (240 + c / 262144) && ltb (((240 + c / 262144) - 0xC0) * 64) (bound σ.rules.mode q.use_)) ≡ false
      t1 = and_left _ _ (above 0xC2 0xDF (240 + c / 262144) (omega arith))

      t2 : (eqb (240 + c / 262144) 0xE0 && ltb 0x800 (bound σ.rules.mode q.use_)) ≡ false
      t2 = and_left _ _ (ne_eqb (240 + c / 262144) 0xE0 (λ e. absurd (omega (arith, e))))

      t3 : (eqb (240 + c / 262144) 0xED && ltb 0x800 (bound σ.rules.mode q.use_)) ≡ false
      t3 = and_left _ _ (ne_eqb (240 + c / 262144) 0xED (λ e. absurd (omega (arith, e))))

      t4 : (is_within 0xE1 0xEF (240 + c / 262144) && ltb 0x800 (bound σ.rules.mode q.use_)) ≡ false
      t4 = and_left _ _ (above 0xE1 0xEF (240 + c / 262144) (omega arith))

      follow : (low high v : ℕ) → v ≡ c / 262144 → low ≤ 128 + (c / 4096) % 64 → 128 + (c / 4096) % 64 ≤ high → ((p : ℕ) → step_place σ (Quote q Plain) fs p (240 + c / 262144) ≡ at (Quote q (Follow 2 low high v)) fs)
          → Leads σ (spot (Quote q Plain) fs) ((240 + c / 262144) ∷ (128 + (c / 4096) % 64) ∷ (128 + (c / 64) % 64) ∷ (128 + c % 64) ∷ []) (spot (Quote (with_one q c) Plain) fs) any
      follow low high v is from to goes =
          leads_first σ (Quote q Plain) fs (240 + c / 262144) ((128 + (c / 4096) % 64) ∷ (128 + (c / 64) % 64) ∷ (128 + c % 64) ∷ []) (spot (Quote q (Follow 2 low high v)) fs) (spot (Quote (with_one q c) Plain) fs) any goes
          (next_follow 1 low high v (128 + (c / 4096) % 64) ((128 + (c / 64) % 64) ∷ (128 + c % 64) ∷ []) c from to
          (next_follow 0 128 191 (v * 64 + ((128 + (c / 4096) % 64) - 128)) (128 + (c / 64) % 64) ((128 + c % 64) ∷ []) c (omega arith) (omega arith)
          (last_follow 128 191 ((v * 64 + ((128 + (c / 4096) % 64) - 128)) * 64 + ((128 + (c / 64) % 64) - 128)) (128 + c % 64) c (omega arith) (omega arith) (omega (arith, is)))))

      go : (c / 262144 ≡ 4) ⊎ ((c / 262144 < 4) ⊎ (4 < c / 262144)) → (c / 262144 ≡ 0) ⊎ ((c / 262144 < 0) ⊎ (0 < c / 262144))
          → Leads σ (spot (Quote q Plain) fs) ((240 + c / 262144) ∷ (128 + (c / 4096) % 64) ∷ (128 + (c / 64) % 64) ∷ (128 + c % 64) ∷ []) (spot (Quote (with_one q c) Plain) fs) any
      go four (inl none) =
          let t5 : (eqb (240 + c / 262144) 0xF0 && ltb 0x10000 (bound σ.rules.mode q.use_)) ≡ true = and_from _ _ (eq-eqb (240 + c / 262144) 0xF0 (omega (arith, none))) room in
          follow 0x90 0xBF 0 (sym none) (omega (arith, none)) (omega arith) (λ p. leads_on p (240 + c / 262144) (omega arith) (omega arith) ∙ rw (t1, t2, t3, t4, t5) refl)
      go four (inr (inl less)) = absurd (omega (arith, less))
      go (inl is) (inr (inr some)) =
          let t5 : (eqb (240 + c / 262144) 0xF0 && ltb 0x10000 (bound σ.rules.mode q.use_)) ≡ false = and_left _ _ (ne_eqb (240 + c / 262144) 0xF0 (λ e. absurd (omega (arith, e, some)))) in
          let t6 : (eqb (240 + c / 262144) 0xF4 && ltb 0x10000 (bound σ.rules.mode q.use_)) ≡ true = and_from _ _ (eq-eqb (240 + c / 262144) 0xF4 (omega (arith, is))) room in
          follow 0x80 0x8F 4 (sym is) (omega arith) (omega (arith, is)) (λ p. leads_on p (240 + c / 262144) (omega arith) (omega arith) ∙ rw (t1, t2, t3, t4, t5, t6) refl)
      go (inr (inr more)) (inr (inr some)) = absurd (omega (arith, more))
      go (inr (inl less)) (inr (inr some)) =
          let t5 : (eqb (240 + c / 262144) 0xF0 && ltb 0x10000 (bound σ.rules.mode q.use_)) ≡ false = and_left _ _ (ne_eqb (240 + c / 262144) 0xF0 (λ e. absurd (omega (arith, e, some)))) in
          let t6 : (eqb (240 + c / 262144) 0xF4 && ltb 0x10000 (bound σ.rules.mode q.use_)) ≡ false = and_left _ _ (ne_eqb (240 + c / 262144) 0xF4 (λ e. absurd (omega (arith, e, less)))) in
          let t7 : (is_within 0xF1 0xF3 (240 + c / 262144) && ltb 0x10000 (bound σ.rules.mode q.use_)) ≡ true = and_from _ _ (within 0xF1 0xF3 (240 + c / 262144) (omega (arith, some)) (omega (arith, less))) room in
          let value : (240 + c / 262144) - 0xF0 ≡ c / 262144 = omega arith in
          follow 0x80 0xBF ((240 + c / 262144) - 0xF0) value (omega arith) (omega arith) (λ p. leads_on p (240 + c / 262144) (omega arith) (omega arith) ∙ rw (t1, t2, t3, t4, t5, t6, t7) refl)

  raw_1 : (c : ℕ) → c < 0x80 → c < bound σ.rules.mode q.use_ → not (eqb c (quote_of q.use_)) ≡ true → not (eqb c 92) ≡ true → Leads σ (spot (Quote q Plain) fs) (c ∷ []) (spot (Quote (with_one q c) Plain) fs) any
  raw_1 c small under no_quote no_slash =
      leads_byte σ (Quote q Plain) fs c (spot (Quote (with_one q c) Plain) fs)
      (λ p. plain_small σ fs q p c (not-true _ no_quote) (ne_eqb (bound σ.rules.mode q.use_) 0 (λ e. absurd (omega (arith, e, under)))) (not-true _ no_slash) (lt-ltb c 0x80 small))

  -- a code point as it is
  raw : (c : ℕ) → IsScalar c → c < bound σ.rules.mode q.use_ → not (eqb c (quote_of q.use_)) ≡ true → not (eqb c 92) ≡ true → Leads σ (spot (Quote q Plain) fs) (encode_utf8 c) (spot (Quote (with_one q c) Plain) fs) any
  unfolding encode_utf8
  raw c scalar under no_quote no_slash = go (ltb c 128) (ltb c 2048) (ltb c 65536) refl refl refl
    where
      top : c < 0x110000
      top = omega (arith, under, most_bound σ.rules.mode q.use_)

      go : (t u v : Bool) → ltb c 128 ≡ t → ltb c 2048 ≡ u → ltb c 65536 ≡ v
          → Leads σ (spot (Quote q Plain) fs) (cond t (c ∷ []) (cond u ((192 + c / 64) ∷ (128 + c % 64) ∷ []) (cond v ((224 + c / 4096) ∷ (128 + (c / 64) % 64) ∷ (128 + c % 64) ∷ [])
          ((240 + c / 262144) ∷ (128 + (c / 4096) % 64) ∷ (128 + (c / 64) % 64) ∷ (128 + c % 64) ∷ [])))) (spot (Quote (with_one q c) Plain) fs) any
      go true u v e f g = raw_1 c (ltb-true c 128 e) under no_quote no_slash
      go false true v e f g = raw_2 c (grind (arith, nat_tests, e)) (ltb-true c 2048 f) under
      go false false true e f g = raw_3 c (grind (arith, nat_tests, f)) (ltb-true c 65536 g) scalar under
      go false false false e f g = raw_4 c (grind (arith, nat_tests, g)) top under

  -- ---- codes

  code_grows : (ds : List ℕ) (v : ℕ) → v ≤ digits_value_after 16 v ds
  code_grows [] v = omega arith
  code_grows (d ∷ ds) v = let more = code_grows ds (v * 16 + digit_value d) in omega (arith, more)

  can_be : (count v : ℕ) (ds : List ℕ) → count + length ds ≤ 6 → digits_value_after 16 v ds < bound σ.rules.mode q.use_ → is_surrogate (digits_value_after 16 v ds) ≡ false → can_be_code (bound σ.rules.mode q.use_) count v ≡ true
  can_be count v [] few under plain = and_from _ _ (lt-ltb v (bound σ.rules.mode q.use_) under) (or_left _ _ (not_from_false _ plain))
  can_be count v (d ∷ ds) few under plain =
      let more = code_grows ds (v * 16 + digit_value d) in
      and_from _ _ (lt-ltb v (bound σ.rules.mode q.use_) (omega (arith, more, under)))
      (or_right _ _ (and_from _ _ (lt-ltb count 6 (omega (arith, few))) (lt-ltb (v * 16) (bound σ.rules.mode q.use_) (omega (arith, more, under)))))

  code_digits : (ds : List ℕ) (count v : ℕ) → list_all is_ascii_hexdigit ds ≡ true → count + length ds ≤ 6 → digits_value_after 16 v ds < bound σ.rules.mode q.use_ → is_surrogate (digits_value_after 16 v ds) ≡ false
      → Leads σ (spot (Quote q (Code count v)) fs) ds (spot (Quote q (Code (count + length ds) (digits_value_after 16 v ds))) fs) any
  code_digits [] count v each few under plain =
      let same : count + length {A = ℕ} [] ≡ count = omega arith in
      subst (λ (k : ℕ). Leads σ (spot (Quote q (Code count v)) fs) [] (spot (Quote q (Code k v)) fs) any) (sym same) (leads_nothing σ _ _ any (λ p rest h. refl))
  code_digits (d ∷ ds) count v each few under plain =
      let parts = and_parts (is_ascii_hexdigit d) (list_all is_ascii_hexdigit ds) each in
      let next = v * 16 + digit_value d in
      let fits : fits_code σ fs q count v d ≡ true = and_from _ _ (lt-ltb count 6 (omega (arith, few))) (can_be (count + 1) next ds (omega (arith, few)) under plain) in
      let same : (count + 1) + length ds ≡ count + length (d ∷ ds) = omega arith in
      subst (λ (k : ℕ). Leads σ (spot (Quote q (Code count v)) fs) (d ∷ ds) (spot (Quote q (Code k (digits_value_after 16 next ds))) fs) any) same
      (leads_first σ (Quote q (Code count v)) fs d ds (spot (Quote q (Code (count + 1) next)) fs) (spot (Quote q (Code ((count + 1) + length ds) (digits_value_after 16 next ds))) fs) any
      (λ p. code_more σ fs q count v p d parts.0 fits) (code_digits ds (count + 1) next parts.1 (omega (arith, few)) under plain))

  plain_scalar : (c : ℕ) → IsScalar c → is_surrogate c ≡ false
  plain_scalar c scalar = go (scalar_range c scalar)
    where
      go : (c < 0xD800) ⊎ ((0xE000 ≤ c) × (c < 0x110000)) → is_surrogate c ≡ false
      go (inl low) = and_left _ _ (lt-leb 0xD800 c low)
      go (inr high) = and_right _ _ (lt-leb c 0xDFFF (omega (arith, high.0)))

  coded : (ds : List ℕ) (c : ℕ) → are_code_digits ds ≡ true → digits_value 16 ds ≡ c → IsScalar c → c < bound σ.rules.mode q.use_
      → Leads σ (spot (Quote q Plain) fs) (92 ∷ 120 ∷ 123 ∷ (ds ++ 125 ∷ [])) (spot (Quote (with_one q c) Plain) fs) any
  coded ds c are value scalar under =
      let outer = and_parts (leb 1 (length ds) && leb (length ds) 6) (list_all is_ascii_hexdigit ds) are in
      let inner = and_parts (leb 1 (length ds)) (leb (length ds) 6) outer.0 in
      let some = leb-true 1 (length ds) inner.0 in
      let few = leb-true (length ds) 6 inner.1 in
      let plain = plain_scalar c scalar in
      let closes : (eqb 125 125 && ltb 0 (0 + length ds) && not (is_surrogate (digits_value_after 16 0 ds))) ≡ true =
      and_from _ _ (lt-ltb 0 (0 + length ds) (omega (arith, some))) (not_from_false _ (ap is_surrogate value ∙ plain)) in
      let room : eqb (bound σ.rules.mode q.use_) 0 ≡ false = ne_eqb (bound σ.rules.mode q.use_) 0 (λ e. absurd (omega (arith, e, under))) in
      let no_quote : eqb 92 (quote_of q.use_) ≡ false = slash_no_quote q.use_ in
      leads_first σ (Quote q Plain) fs 92 (120 ∷ 123 ∷ (ds ++ 125 ∷ [])) (spot (Quote q Slash) fs) (spot (Quote (with_one q c) Plain) fs) any (λ p. plain_slash σ fs q p 92 no_quote room refl)
      (leads_first σ (Quote q Slash) fs 120 (123 ∷ (ds ++ 125 ∷ [])) (spot (Quote q Brace) fs) (spot (Quote (with_one q c) Plain) fs) any (λ p. slash_brace σ fs q p 120 refl)
      (leads_first σ (Quote q Brace) fs 123 (ds ++ 125 ∷ []) (spot (Quote q (Code 0 0)) fs) (spot (Quote (with_one q c) Plain) fs) any (λ p. brace_code σ fs q p 123 refl)
      (leads_then σ (spot (Quote q (Code 0 0)) fs) (spot (Quote q (Code (0 + length ds) (digits_value_after 16 0 ds))) fs) (spot (Quote (with_one q c) Plain) fs) ds (125 ∷ []) any any
      (code_digits ds 0 0 outer.1 (omega (arith, few)) (omega (arith, value, under)) (ap is_surrogate value ∙ plain))
      (leads_byte σ (Quote q (Code (0 + length ds) (digits_value_after 16 0 ds))) fs 125 (spot (Quote (with_one q c) Plain) fs)
      (λ p. code_ends σ fs q (0 + length ds) (digits_value_after 16 0 ds) p 125 refl closes ∙ ap (λ (k : ℕ). with_point fs q k) value))
      (λ rest h. refl))))
    where
      slash_no_quote : (use_ : Use) → eqb 92 (quote_of use_) ≡ false
      slash_no_quote (ForName left) = refl
      slash_no_quote ForList = refl
      slash_no_quote ForSegment = refl

  lettered : (letter c : ℕ) → escaped letter ≡ Some c → c < bound σ.rules.mode q.use_ → Leads σ (spot (Quote q Plain) fs) (92 ∷ letter ∷ []) (spot (Quote (with_one q c) Plain) fs) any
  lettered letter c is under =
      let room : eqb (bound σ.rules.mode q.use_) 0 ≡ false = ne_eqb (bound σ.rules.mode q.use_) 0 (λ e. absurd (omega (arith, e, under))) in
      let no_quote : eqb 92 (quote_of q.use_) ≡ false = slash_no_quote q.use_ in
      leads_first σ (Quote q Plain) fs 92 (letter ∷ []) (spot (Quote q Slash) fs) (spot (Quote (with_one q c) Plain) fs) any (λ p. plain_slash σ fs q p 92 no_quote room refl)
      (leads_byte σ (Quote q Slash) fs letter (spot (Quote (with_one q c) Plain) fs) (λ p. slash_named σ fs q p letter (no_brace (eqb letter 120) refl) ∙ ap (named fs q) is))
    where
      slash_no_quote : (use_ : Use) → eqb 92 (quote_of use_) ≡ false
      slash_no_quote (ForName left) = refl
      slash_no_quote ForList = refl
      slash_no_quote ForSegment = refl

      no_brace : (t : Bool) → eqb letter 120 ≡ t → eqb letter 120 ≡ false
      no_brace true e = absurd (let none : None ≡ Some c = subst (λ (k : ℕ). escaped k ≡ Some c) (eqb-true letter 120 e) is in cc)
      no_brace false e = e

  character_leads : (text : List ℕ) (c : ℕ) → Character (quote_of q.use_) text c → c < bound σ.rules.mode q.use_ → Leads σ (spot (Quote q Plain) fs) text (spot (Quote (with_one q c) Plain) fs) any
  character_leads text c (as_it_is t d scalar no_quote no_slash is) under = subst (λ (u : List ℕ). Leads σ (spot (Quote q Plain) fs) u (spot (Quote (with_one q c) Plain) fs) any) (sym is) (raw c scalar under no_quote no_slash)
  character_leads text c (by_letter t letter d is parts) under = subst (λ (u : List ℕ). Leads σ (spot (Quote q Plain) fs) u (spot (Quote (with_one q c) Plain) fs) any) (sym parts) (lettered letter c is under)
  character_leads text c (by_code t ds d are value scalar parts) under = subst (λ (u : List ℕ). Leads σ (spot (Quote q Plain) fs) u (spot (Quote (with_one q c) Plain) fs) any) (sym parts) (coded ds c are value scalar under)

-- all that were read
abbrev pub with_all : Quoting → List ℕ → Quoting
with_all q [] = q
with_all q (c ∷ cs) = with_all (with_one q c) cs

pub quote_leads : (σ : Setting) (fs : List Frame) (q : Quoting) (inside cs : List ℕ) → Characters (quote_of q.use_) inside cs → AreBelow σ.rules.mode q.use_ cs
    → Leads σ (spot (Quote q Plain) fs) inside (spot (Quote (with_all q cs) Plain) fs) any
quote_leads σ fs q inside cs characters below = go (quote_of q.use_) inside cs characters q refl below
  where
    go : (quote : ℕ) (text points : List ℕ) → Characters quote text points → (r : Quoting) → quote ≡ quote_of r.use_ → AreBelow σ.rules.mode r.use_ points
        → Leads σ (spot (Quote r Plain) fs) text (spot (Quote (with_all r points) Plain) fs) any
    go quote text points no_character r same under = leads_nothing σ _ _ any (λ p rest h. refl)
    go quote text points (one_character t first rest c others character more parts) r same under =
        subst (λ (u : List ℕ). Leads σ (spot (Quote r Plain) fs) u (spot (Quote (with_all r points) Plain) fs) any) (sym parts)
        (leads_then σ (spot (Quote r Plain) fs) (spot (Quote (with_one r c) Plain) fs) (spot (Quote (with_all r points) Plain) fs) first rest any any
        (character_leads σ fs r first c (subst (λ (k : ℕ). Character k first c) same character) under.0)
        (go quote rest others more (with_one r c) (same ∙ sym (same_quote r.use_ c)) under.1)
        (λ after h. refl))
