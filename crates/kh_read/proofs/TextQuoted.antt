-- Reading a text in quotes, byte by byte.
use Rattle.std.proofs.Common.{◌≡◌, ◌≤◌, ◌<◌, ℕ, zero, suc, ◌+◌, ◌-◌, ◌*◌, ◌%◌, Bool, true, false, not, ◌&&◌, ◌||◌, cond, eqb, ltb, leb, List, [], ◌∷◌, ◌++◌, length, Option, Some, None, inl, inr, refl, sym, ap, subst, ◌∙◌, arith, append_assoc}
use Rattle.std.specs.Prelude.{◌⊎◌}
use Rattle.std.specs.Char.{IsScalar, encode_utf8, is_ascii_hexdigit, digit_value}
use Rattle.std.specs.List.{list_all}
use Rattle.std.specs.Str.Parse.{digits_value, digits_value_after}
use Rattle.std.proofs.lemmas.Bool.{eqb-true, eqb-false, eq-eqb, cases_order, ltb-true, leb-true, not_from_false, and_parts, and_from, le-leb, not-true}
use Rattle.std.proofs.lemmas.Bool.Decides.{nat_tests}
use Rattle.std.proofs.lemmas.Str.{encode_ascii}
use Rattle.std.proofs.lemmas.List.{length-append, append-nil}
use Rattle.kh_text_defs.specs.declared.mode.Mode.{Mode}
use Rattle.kh_text_defs.specs.declared.mode.Mode.TheVariants.{Script, Listing}
use Rattle.kh_text_defs.specs.Tokens.{are_code_digits, escaped, Character, as_it_is, by_letter, by_code, Characters, no_character}
use Rattle.kh_read.specs.State.{Frame, Use, ForName, ForList, ForSegment, Inner, Plain, Slash, Brace, Code, Follow, Quoting, Place, Quote, State, Setting, Halt, Syntax, Step, Go, Stop, Reading, Cut}
use Rattle.kh_read.specs.Steps.{at, fault, bound, used, with_point, quote_of, quote_ended, ends_well, is_within, lead, step_plain, named, step_slash, is_surrogate, can_be_code, step_code, followed, step_quote, step_place, read_on}
use Rattle.kh_read.proofs.TextCore.{spot, byte_goes, byte_stops, at_the_end}
use Rattle.kh_read.proofs.TextReads.{Reads, whole, part, halted, any}
use Rattle.kh_read.proofs.TextPoints.{name_bound, bounds, some_bound, most_bound, quote_small, low_scalar, high_scalar, no_surrogate, Follows, least, most, ValidFollow, valid_next, IsPoint, last_point, two_bytes, three_bytes, four_bytes}
use Rattle.kh_read.proofs.TextQuotes.{reads_byte, PlainRest, CodeRest, Completes, with_one, PointRest, InnerRest, ValidCode, Valid, character_first, point_first, point_step, point_last, plain_sample, HasPoint, then_quote, slash_has, brace_has, code_has, follow_has}

-- ---- facts on bounds and escapes

pub bound_64 : (mode : Mode) (use_ : Use) → bound mode use_ % 64 ≡ 0
bound_64 mode (ForName left) = go (eqb left 0) (eqb left 1) (eqb left 2) (eqb left 3)
  where
    go : (a b c d : Bool) → name_bound a b c d % 64 ≡ 0
    go true b c d = refl
    go false true c d = refl
    go false false true d = refl
    go false false false true = refl
    go false false false false = refl
bound_64 mode ForList = refl
bound_64 Script ForSegment = refl
bound_64 Listing ForSegment = refl

pub wide_bound : (mode : Mode) (use_ : Use) → 0x800 < bound mode use_ → 0x10000 ≤ bound mode use_
wide_bound mode (ForName left) h = go (eqb left 0) (eqb left 1) (eqb left 2) (eqb left 3) h
  where
    go : (a b c d : Bool) → 0x800 < name_bound a b c d → 0x10000 ≤ name_bound a b c d
    go true b c d h = absurd (omega arith)
    go false true c d h = absurd (omega arith)
    go false false true d h = absurd (omega arith)
    go false false false true h = omega arith
    go false false false false h = omega arith
wide_bound mode ForList h = omega arith
wide_bound Script ForSegment h = absurd (omega arith)
wide_bound Listing ForSegment h = omega arith

pub widest_bound : (mode : Mode) (use_ : Use) → 0x10000 < bound mode use_ → bound mode use_ ≡ 0x110000
widest_bound mode (ForName left) h = go (eqb left 0) (eqb left 1) (eqb left 2) (eqb left 3) h
  where
    go : (a b c d : Bool) → 0x10000 < name_bound a b c d → name_bound a b c d ≡ 0x110000
    go true b c d h = absurd (omega arith)
    go false true c d h = absurd (omega arith)
    go false false true d h = absurd (omega arith)
    go false false false true h = absurd (omega arith)
    go false false false false h = refl
widest_bound mode ForList h = refl
widest_bound Script ForSegment h = absurd (omega arith)
widest_bound Listing ForSegment h = refl

pub escaped_small : (b c : ℕ) → escaped b ≡ Some c → c < 128
escaped_small b c = go (eqb b 92) (eqb b 39) (eqb b 34) (eqb b 110) (eqb b 114) (eqb b 116) (eqb b 115)
  where
    of : (k : ℕ) → k < 128 → Some k ≡ Some c → c < 128
    of k small e = let same : k ≡ c = cc in omega (arith, same, small)

    go : (t u v w x y z : Bool) → cond t (Some 92) (cond u (Some 39) (cond v (Some 34) (cond w (Some 10) (cond x (Some 13) (cond y (Some 9) (cond z (Some 32) None)))))) ≡ Some c → c < 128
    go true u v w x y z e = of 92 (omega arith) e
    go false true v w x y z e = of 39 (omega arith) e
    go false false true w x y z e = of 34 (omega arith) e
    go false false false true x y z e = of 10 (omega arith) e
    go false false false false true y z e = of 13 (omega arith) e
    go false false false false false true z e = of 9 (omega arith) e
    go false false false false false false true e = of 32 (omega arith) e
    go false false false false false false false e = absurd (cc)

pub same_end : (fs : List Frame) (use_ : Use) (c : ℕ) (points : List ℕ) → quote_ended fs (used use_ c) points ≡ quote_ended fs use_ points
same_end fs (ForName left) c points = refl
same_end fs ForList c points = refl
same_end fs ForSegment c points = refl

within_parts : (low high b : ℕ) → is_within low high b ≡ true → (low ≤ b) × (b ≤ high)
within_parts low high b e = let parts = and_parts _ _ e in (leb-true _ _ parts.0, leb-true _ _ parts.1)

module _ (σ : Setting) (fs : List Frame) where
  abbrev pub ended : Use → List ℕ → State
  ended use_ points = spot (quote_ended fs use_ points) fs

  abbrev pub QuoteReads : Quoting → Inner → ℕ → List ℕ → Type 0
  QuoteReads q inner p text = Reads σ any (InnerRest σ.rules.mode q inner) (ended q.use_) p text (read_on σ (spot (Quote q inner) fs) p text)

  abbrev pub Later : ℕ → List ℕ → Type 0
  Later p bytes = (q : Quoting) (inner : Inner) → Valid (bound σ.rules.mode q.use_) inner → QuoteReads q inner p bytes

  -- one more code point, and what comes then
  pub point_then : (q : Quoting) (inner : Inner) (c p b : ℕ) (bytes : List ℕ) → step_place σ (Quote q inner) fs p b ≡ with_point fs q c
      → ((text points : List ℕ) → PlainRest σ.rules.mode (with_one q c) text points → InnerRest σ.rules.mode q inner (b ∷ text) points)
      → QuoteReads (with_one q c) Plain (suc p) bytes → QuoteReads q inner p (b ∷ bytes)
  point_then q inner c p b bytes goes stands more =
      reads_byte σ any (InnerRest σ.rules.mode (with_one q c) Plain) (InnerRest σ.rules.mode q inner) (ended (used q.use_ c)) (ended q.use_) (λ x. x) p b bytes _ _
      stands (λ points. ap (λ (h : Place). spot h fs) (same_end fs q.use_ c points)) (byte_goes σ (Quote q inner) fs p b bytes _ goes) more

  pub inner_then : (q : Quoting) (inner next : Inner) (p b : ℕ) (bytes : List ℕ) → step_place σ (Quote q inner) fs p b ≡ at (Quote q next) fs
      → ((text points : List ℕ) → InnerRest σ.rules.mode q next text points → InnerRest σ.rules.mode q inner (b ∷ text) points)
      → QuoteReads q next (suc p) bytes → QuoteReads q inner p (b ∷ bytes)
  inner_then q inner next p b bytes goes stands more =
      reads_byte σ any (InnerRest σ.rules.mode q next) (InnerRest σ.rules.mode q inner) (ended q.use_) (ended q.use_) (λ x. x) p b bytes _ _
      stands (λ points. refl) (byte_goes σ (Quote q inner) fs p b bytes _ goes) more

  faulty : (q : Quoting) (inner : Inner) (p b : ℕ) (bytes : List ℕ) → step_place σ (Quote q inner) fs p b ≡ fault → QuoteReads q inner p (b ∷ bytes)
  faulty q inner p b bytes stops = halted Syntax p (byte_stops σ (Quote q inner) fs p b bytes _ stops)

  -- ---- between characters

  pub plain_ends : (q : Quoting) (p b : ℕ) → eqb b (quote_of q.use_) ≡ true → ends_well q.use_ q.points ≡ true → step_place σ (Quote q Plain) fs p b ≡ at (quote_ended fs q.use_ q.points) fs
  unfolding step_place step_quote step_plain
  plain_ends q p b e w = rw (e, w) refl

  plain_ends_badly : (q : Quoting) (p b : ℕ) → eqb b (quote_of q.use_) ≡ true → ends_well q.use_ q.points ≡ false → step_place σ (Quote q Plain) fs p b ≡ fault
  unfolding step_place step_quote step_plain
  plain_ends_badly q p b e w = rw (e, w) refl

  plain_none : (q : Quoting) (p b : ℕ) → eqb b (quote_of q.use_) ≡ false → eqb (bound σ.rules.mode q.use_) 0 ≡ true → step_place σ (Quote q Plain) fs p b ≡ fault
  unfolding step_place step_quote step_plain
  plain_none q p b e f = rw (e, f) refl

  pub plain_slash : (q : Quoting) (p b : ℕ) → eqb b (quote_of q.use_) ≡ false → eqb (bound σ.rules.mode q.use_) 0 ≡ false → eqb b 92 ≡ true → step_place σ (Quote q Plain) fs p b ≡ at (Quote q Slash) fs
  unfolding step_place step_quote step_plain
  plain_slash q p b e f g = rw (e, f, g) refl

  pub plain_small : (q : Quoting) (p b : ℕ) → eqb b (quote_of q.use_) ≡ false → eqb (bound σ.rules.mode q.use_) 0 ≡ false → eqb b 92 ≡ false → ltb b 0x80 ≡ true
      → step_place σ (Quote q Plain) fs p b ≡ with_point fs q b
  unfolding step_place step_quote step_plain
  plain_small q p b e f g h = rw (e, f, g, h) refl

  pub plain_lead : (q : Quoting) (p b : ℕ) → eqb b (quote_of q.use_) ≡ false → eqb (bound σ.rules.mode q.use_) 0 ≡ false → eqb b 92 ≡ false → ltb b 0x80 ≡ false
      → step_place σ (Quote q Plain) fs p b ≡ lead fs q (bound σ.rules.mode q.use_) b
  unfolding step_place step_quote step_plain
  plain_lead q p b e f g h = rw (e, f, g, h) refl

  -- the first byte of several
  lead_case : (q : Quoting) (p b : ℕ) (bytes : List ℕ) → step_place σ (Quote q Plain) fs p b ≡ lead fs q (bound σ.rules.mode q.use_) b → Later (suc p) bytes → QuoteReads q Plain p (b ∷ bytes)
  lead_case q p b bytes leads more = go
      (is_within 0xC2 0xDF b && ltb ((b - 0xC0) * 64) B) (eqb b 0xE0 && ltb 0x800 B) (eqb b 0xED && ltb 0x800 B) (is_within 0xE1 0xEF b && ltb 0x800 B)
      (eqb b 0xF0 && ltb 0x10000 B) (eqb b 0xF4 && ltb 0x10000 B) (is_within 0xF1 0xF3 b && ltb 0x10000 B) refl refl refl refl refl refl refl
    where
      B : ℕ
      B = bound σ.rules.mode q.use_

      small : quote_of q.use_ < 128
      small = quote_small q.use_

      follow : (n low high v : ℕ) → step_place σ (Quote q Plain) fs p b ≡ at (Quote q (Follow n low high v)) fs → ValidFollow (bound σ.rules.mode q.use_) n low high v
          → ((first : List ℕ) (c : ℕ) → Follows n (low, high) v first c → IsScalar c → Character (quote_of q.use_) (b ∷ first) c) → QuoteReads q Plain p (b ∷ bytes)
      follow n low high v goes valid complete =
          inner_then q Plain (Follow n low high v) p b bytes goes (λ text points h. point_first σ.rules.mode q (Follow n low high v) (b ∷ []) text points complete h) (more q (Follow n low high v) valid)

      go : (t u v w x y z : Bool) → (is_within 0xC2 0xDF b && ltb ((b - 0xC0) * 64) (bound σ.rules.mode q.use_)) ≡ t → (eqb b 0xE0 && ltb 0x800 (bound σ.rules.mode q.use_)) ≡ u
          → (eqb b 0xED && ltb 0x800 (bound σ.rules.mode q.use_)) ≡ v → (is_within 0xE1 0xEF b && ltb 0x800 (bound σ.rules.mode q.use_)) ≡ w → (eqb b 0xF0 && ltb 0x10000 (bound σ.rules.mode q.use_)) ≡ x
          → (eqb b 0xF4 && ltb 0x10000 (bound σ.rules.mode q.use_)) ≡ y → (is_within 0xF1 0xF3 b && ltb 0x10000 (bound σ.rules.mode q.use_)) ≡ z → QuoteReads q Plain p (b ∷ bytes)
      go true u v w x y z e1 e2 e3 e4 e5 e6 e7 =
          let parts = and_parts (is_within 0xC2 0xDF b) (ltb ((b - 0xC0) * 64) (bound σ.rules.mode q.use_)) e1 in
          let range = within_parts 0xC2 0xDF b parts.0 in
          let room = ltb-true ((b - 0xC0) * 64) (bound σ.rules.mode q.use_) parts.1 in
          follow 0 0x80 0xBF (b - 0xC0) (leads ∙ rw e1 refl)
          (record { few = omega arith; from = omega arith; order = omega arith; to = omega arith; safe = inl (omega (arith, range.0, range.1)); under = omega (arith, room, range.0, bound_64 σ.rules.mode q.use_) })
          (λ first c h scalar. two_bytes (quote_of q.use_) b first c small range.0 range.1 scalar h)
      go false true v w x y z e1 e2 e3 e4 e5 e6 e7 =
          let parts = and_parts (eqb b 0xE0) (ltb 0x800 (bound σ.rules.mode q.use_)) e2 in
          let is = eqb-true b 0xE0 parts.0 in
          let room = wide_bound σ.rules.mode q.use_ (ltb-true 0x800 (bound σ.rules.mode q.use_) parts.1) in
          follow 1 0xA0 0xBF 0 (leads ∙ rw (e1, e2) refl)
          (record { few = omega arith; from = omega arith; order = omega arith; to = omega arith; safe = inl (omega arith); under = omega (arith, room) })
          (λ first c h scalar. three_bytes (quote_of q.use_) b 0 0xA0 0xBF first c small (omega (arith, is)) (omega arith) (omega arith) (omega arith) (omega arith) scalar h)
      go false false true w x y z e1 e2 e3 e4 e5 e6 e7 =
          let parts = and_parts (eqb b 0xED) (ltb 0x800 (bound σ.rules.mode q.use_)) e3 in
          let is = eqb-true b 0xED parts.0 in
          let room = wide_bound σ.rules.mode q.use_ (ltb-true 0x800 (bound σ.rules.mode q.use_) parts.1) in
          follow 1 0x80 0x9F 13 (leads ∙ rw (e1, e2, e3) refl)
          (record { few = omega arith; from = omega arith; order = omega arith; to = omega arith; safe = inl (omega arith); under = omega (arith, room) })
          (λ first c h scalar. three_bytes (quote_of q.use_) b 13 0x80 0x9F first c small (omega (arith, is)) (omega arith) (omega arith) (omega arith) (omega arith) scalar h)
      go false false false true x y z e1 e2 e3 e4 e5 e6 e7 =
          let parts = and_parts (is_within 0xE1 0xEF b) (ltb 0x800 (bound σ.rules.mode q.use_)) e4 in
          let range = within_parts 0xE1 0xEF b parts.0 in
          let room = wide_bound σ.rules.mode q.use_ (ltb-true 0x800 (bound σ.rules.mode q.use_) parts.1) in
          let other : b ≡ 0xED → ⊥ = λ same. absurd (let yes : (eqb b 0xED && ltb 0x800 (bound σ.rules.mode q.use_)) ≡ true = and_from (eqb b 0xED) (ltb 0x800 (bound σ.rules.mode q.use_)) (eq-eqb b 0xED same) parts.1 in cc) in
          follow 1 0x80 0xBF (b - 0xE0) (leads ∙ rw (e1, e2, e3, e4) refl)
          (record { few = omega arith; from = omega arith; order = omega arith; to = omega arith; safe = sides (cases_order b 0xED) range.0 range.1; under = omega (arith, room, range.1) })
          (λ first c h scalar. three_bytes (quote_of q.use_) b (b - 0xE0) 0x80 0xBF first c small (omega (arith, range.0)) (omega (arith, range.1)) (omega arith) (omega arith) (omega (arith, range.0)) scalar h)
        where
          sides : (b ≡ 0xED) ⊎ ((b < 0xED) ⊎ (0xED < b)) → 0xE1 ≤ b → b ≤ 0xEF
              → (most 1 ((b - 0xE0) * 64 + (0xBF - 128)) < 0xD800) ⊎ (0xE000 ≤ least 1 ((b - 0xE0) * 64 + (0x80 - 128)))
          sides (inl same) low high = absurd (let yes : (eqb b 0xED && ltb 0x800 (bound σ.rules.mode q.use_)) ≡ true = and_from (eqb b 0xED) (ltb 0x800 (bound σ.rules.mode q.use_)) (eq-eqb b 0xED same) (and_parts (is_within 0xE1 0xEF b) (ltb 0x800 (bound σ.rules.mode q.use_)) e4).1 in cc)
          sides (inr (inl less)) low high = inl (omega arith)
          sides (inr (inr greater)) low high = inr (omega arith)
      go false false false false true y z e1 e2 e3 e4 e5 e6 e7 =
          let parts = and_parts (eqb b 0xF0) (ltb 0x10000 (bound σ.rules.mode q.use_)) e5 in
          let is = eqb-true b 0xF0 parts.0 in
          let room = widest_bound σ.rules.mode q.use_ (ltb-true 0x10000 (bound σ.rules.mode q.use_) parts.1) in
          follow 2 0x90 0xBF 0 (leads ∙ rw (e1, e2, e3, e4, e5) refl)
          (record { few = omega arith; from = omega arith; order = omega arith; to = omega arith; safe = inr (omega arith); under = omega (arith, room) })
          (λ first c h scalar. four_bytes (quote_of q.use_) b 0 0x90 0xBF first c small (omega (arith, is)) (omega arith) (omega arith) (omega arith) (omega arith) scalar h)
      go false false false false false true z e1 e2 e3 e4 e5 e6 e7 =
          let parts = and_parts (eqb b 0xF4) (ltb 0x10000 (bound σ.rules.mode q.use_)) e6 in
          let is = eqb-true b 0xF4 parts.0 in
          let room = widest_bound σ.rules.mode q.use_ (ltb-true 0x10000 (bound σ.rules.mode q.use_) parts.1) in
          follow 2 0x80 0x8F 4 (leads ∙ rw (e1, e2, e3, e4, e5, e6) refl)
          (record { few = omega arith; from = omega arith; order = omega arith; to = omega arith; safe = inr (omega arith); under = omega (arith, room) })
          (λ first c h scalar. four_bytes (quote_of q.use_) b 4 0x80 0x8F first c small (omega (arith, is)) (omega arith) (omega arith) (omega arith) (omega arith) scalar h)
      go false false false false false false true e1 e2 e3 e4 e5 e6 e7 =
          let parts = and_parts (is_within 0xF1 0xF3 b) (ltb 0x10000 (bound σ.rules.mode q.use_)) e7 in
          let range = within_parts 0xF1 0xF3 b parts.0 in
          let room = widest_bound σ.rules.mode q.use_ (ltb-true 0x10000 (bound σ.rules.mode q.use_) parts.1) in
          follow 2 0x80 0xBF (b - 0xF0) (leads ∙ rw (e1, e2, e3, e4, e5, e6, e7) refl)
          (record { few = omega arith; from = omega arith; order = omega arith; to = omega arith; safe = inr (omega (arith, range.0)); under = omega (arith, room, range.1) })
          (λ first c h scalar. four_bytes (quote_of q.use_) b (b - 0xF0) 0x80 0xBF first c small (omega (arith, range.0)) (omega (arith, range.1)) (omega arith) (omega arith) (omega (arith, range.0)) scalar h)
      go false false false false false false false e1 e2 e3 e4 e5 e6 e7 = faulty q Plain p b bytes (leads ∙ rw (e1, e2, e3, e4, e5, e6, e7) refl)

  plain_case : (q : Quoting) (p b : ℕ) (bytes : List ℕ) → Later (suc p) bytes → QuoteReads q Plain p (b ∷ bytes)
  plain_case q p b bytes more = go (eqb b (quote_of q.use_)) (eqb (bound σ.rules.mode q.use_) 0) (eqb b 92) (ltb b 0x80) refl refl refl refl (ends_well q.use_ q.points) refl
    where
      go : (t u v w : Bool) → eqb b (quote_of q.use_) ≡ t → eqb (bound σ.rules.mode q.use_) 0 ≡ u → eqb b 92 ≡ v → ltb b 0x80 ≡ w → (x : Bool) → ends_well q.use_ q.points ≡ x → QuoteReads q Plain p (b ∷ bytes)
      go true u v w e f g h true k =
          whole (b ∷ []) bytes q.points (suc p) refl
          (subst (λ (c : ℕ). PlainRest σ.rules.mode q (c ∷ []) q.points) (sym (eqb-true _ _ e)) (plain_sample σ.rules.mode q)) refl
          (byte_goes σ (Quote q Plain) fs p b bytes _ (plain_ends q p b e k)) (omega arith)
      go true u v w e f g h false k = faulty q Plain p b bytes (plain_ends_badly q p b e k)
      go false true v w e f g h x k = faulty q Plain p b bytes (plain_none q p b e f)
      go false false true w e f g h x k =
          inner_then q Plain Slash p b bytes (plain_slash q p b e f g)
          (λ text points r. subst (λ (c : ℕ). PlainRest σ.rules.mode q (c ∷ text) points) (sym (eqb-true b 92 g)) (point_first σ.rules.mode q Slash (92 ∷ []) text points (λ first c complete scalar. complete) r))
          (more q Slash (some_bound σ.rules.mode q.use_ f))
      go false false false true e f g h x k =
          let low = ltb-true b 0x80 h in
          point_then q Plain b p b bytes (plain_small q p b e f g h)
          (λ text points r. character_first σ.rules.mode q (b ∷ []) text b points (b ∷ text)
          (as_it_is (b ∷ []) b (low_scalar b (omega arith)) (not_from_false _ e) (not_from_false _ g) (sym (encode_ascii b low)))
          (omega (arith, low, some_bound σ.rules.mode q.use_ f)) r refl)
          (more (with_one q b) Plain tt)
      go false false false false e f g h x k = lead_case q p b bytes (plain_lead q p b e f g h) more

  -- ---- behind a backslash

  pub slash_brace : (q : Quoting) (p b : ℕ) → eqb b 120 ≡ true → step_place σ (Quote q Slash) fs p b ≡ at (Quote q Brace) fs
  unfolding step_place step_quote step_slash
  slash_brace q p b e = rw e refl

  pub slash_named : (q : Quoting) (p b : ℕ) → eqb b 120 ≡ false → step_place σ (Quote q Slash) fs p b ≡ named fs q (escaped b)
  unfolding step_place step_quote step_slash
  slash_named q p b e = rw e refl

  slash_case : (q : Quoting) (p b : ℕ) (bytes : List ℕ) → 0x80 ≤ bound σ.rules.mode q.use_ → Later (suc p) bytes → QuoteReads q Slash p (b ∷ bytes)
  slash_case q p b bytes some more = go (eqb b 120) (escaped b) refl refl
    where
      go : (t : Bool) (c : Option ℕ) → eqb b 120 ≡ t → escaped b ≡ c → QuoteReads q Slash p (b ∷ bytes)
      go true c e f =
          inner_then q Slash Brace p b bytes (slash_brace q p b e)
          (λ text points r. point_step σ.rules.mode q Slash Brace b text points (λ first d complete. subst (λ (k : ℕ). Character (quote_of q.use_) (92 ∷ k ∷ first) d) (sym (eqb-true b 120 e)) complete) r)
          (more q Brace some)
      go false (Some c) e f =
          let small = escaped_small b c f in
          point_then q Slash c p b bytes (slash_named q p b e ∙ ap (named fs q) f)
          (λ text points r. point_last σ.rules.mode q Slash (b ∷ []) text c points (by_letter (92 ∷ b ∷ []) b c f refl) (record { scalar = low_scalar c (omega arith); under = omega (arith, small, some) }) r)
          (more (with_one q c) Plain tt)
      go false None e f = faulty q Slash p b bytes (slash_named q p b e ∙ ap (named fs q) f)

  pub brace_code : (q : Quoting) (p b : ℕ) → eqb b 123 ≡ true → step_place σ (Quote q Brace) fs p b ≡ at (Quote q (Code 0 0)) fs
  unfolding step_place step_quote
  brace_code q p b e = rw e refl

  brace_fault : (q : Quoting) (p b : ℕ) → eqb b 123 ≡ false → step_place σ (Quote q Brace) fs p b ≡ fault
  unfolding step_place step_quote
  brace_fault q p b e = rw e refl

  code_text : (quote : ℕ) (first : List ℕ) (c : ℕ) → IsScalar c → CodeRest 0 0 first c → Character quote (92 ∷ 120 ∷ 123 ∷ first) c
  code_text quote first c scalar h =
      by_code _ h.digits c (and_from _ _ (and_from _ _ (le-leb 1 (length h.digits) (omega (arith, h.some))) (le-leb (length h.digits) 6 (omega (arith, h.few)))) h.each) (sym h.is) scalar (ap (λ (t : List ℕ). 92 ∷ 120 ∷ 123 ∷ t) h.parts)

  brace_case : (q : Quoting) (p b : ℕ) (bytes : List ℕ) → 0x80 ≤ bound σ.rules.mode q.use_ → Later (suc p) bytes → QuoteReads q Brace p (b ∷ bytes)
  brace_case q p b bytes some more = go (eqb b 123) refl
    where
      go : (t : Bool) → eqb b 123 ≡ t → QuoteReads q Brace p (b ∷ bytes)
      go true e =
          inner_then q Brace (Code 0 0) p b bytes (brace_code q p b e)
          (λ text points r. record {
            first = b ∷ r.first;
            rest = r.rest;
            point = r.point;
            completes = subst (λ (k : ℕ). Character (quote_of q.use_) (92 ∷ 120 ∷ k ∷ r.first) r.point) (sym (eqb-true b 123 e)) (code_text (quote_of q.use_) r.first r.point r.is.scalar r.completes);
            is = r.is;
            more = r.more;
            parts = ap (λ (t : List ℕ). b ∷ t) r.parts;
          })
          (more q (Code 0 0) (some, inl (refl, refl)))
      go false e = faulty q Brace p b bytes (brace_fault q p b e)

  -- ---- the digits of a code

  abbrev pub fits_code : Quoting → ℕ → ℕ → ℕ → Bool
  fits_code q count value b = ltb count 6 && can_be_code (bound σ.rules.mode q.use_) (count + 1) (value * 16 + digit_value b)

  pub code_more : (q : Quoting) (count value p b : ℕ) → is_ascii_hexdigit b ≡ true → fits_code q count value b ≡ true
      → step_place σ (Quote q (Code count value)) fs p b ≡ at (Quote q (Code (count + 1) (value * 16 + digit_value b))) fs
  unfolding step_place step_quote step_code
  code_more q count value p b e f = rw (e, f) refl

  code_no_more : (q : Quoting) (count value p b : ℕ) → is_ascii_hexdigit b ≡ true → fits_code q count value b ≡ false → step_place σ (Quote q (Code count value)) fs p b ≡ fault
  unfolding step_place step_quote step_code
  code_no_more q count value p b e f = rw (e, f) refl

  pub code_ends : (q : Quoting) (count value p b : ℕ) → is_ascii_hexdigit b ≡ false → (eqb b 125 && ltb 0 count && not (is_surrogate value)) ≡ true
      → step_place σ (Quote q (Code count value)) fs p b ≡ with_point fs q value
  unfolding step_place step_quote step_code
  code_ends q count value p b e f = rw (e, f) refl

  code_faults : (q : Quoting) (count value p b : ℕ) → is_ascii_hexdigit b ≡ false → (eqb b 125 && ltb 0 count && not (is_surrogate value)) ≡ false
      → step_place σ (Quote q (Code count value)) fs p b ≡ fault
  unfolding step_place step_quote step_code
  code_faults q count value p b e f = rw (e, f) refl

  digit_first : (count value b : ℕ) (first : List ℕ) (c : ℕ) → is_ascii_hexdigit b ≡ true → CodeRest (count + 1) (value * 16 + digit_value b) first c → CodeRest count value (b ∷ first) c
  digit_first count value b first c e h = record {
    digits = b ∷ h.digits;
    each = and_from _ _ e h.each;
    some = omega arith;
    few = omega (arith, h.few);
    is = h.is;
    parts = ap (λ (t : List ℕ). b ∷ t) h.parts;
  }

  code_point : (q : Quoting) (count value : ℕ) → ltb 0 count ≡ true → not (is_surrogate value) ≡ true → ValidCode (bound σ.rules.mode q.use_) count value → IsPoint (bound σ.rules.mode q.use_) value
  code_point q count value some plain (inl none) = absurd (omega (arith, ltb-true _ _ some, none.0))
  code_point q count value some plain (inr begun) =
      let under = ltb-true _ _ (and_parts _ _ begun.2).0 in
      record { scalar = go (no_surrogate value (not-true _ plain)) under; under = under }
    where
      go : (value < 0xD800) ⊎ (0xE000 ≤ value) → value < bound σ.rules.mode q.use_ → IsScalar value
      go (inl h) under = low_scalar value h
      go (inr h) under = high_scalar value h (omega (arith, under, most_bound σ.rules.mode q.use_))

  code_case : (q : Quoting) (count value p b : ℕ) (bytes : List ℕ) → 0x80 ≤ bound σ.rules.mode q.use_ → ValidCode (bound σ.rules.mode q.use_) count value → Later (suc p) bytes
      → QuoteReads q (Code count value) p (b ∷ bytes)
  code_case q count value p b bytes room valid more = go (is_ascii_hexdigit b) (fits_code q count value b) (eqb b 125 && ltb 0 count && not (is_surrogate value)) refl refl refl
    where
      go : (t u v : Bool) → is_ascii_hexdigit b ≡ t → fits_code q count value b ≡ u → (eqb b 125 && ltb 0 count && not (is_surrogate value)) ≡ v → QuoteReads q (Code count value) p (b ∷ bytes)
      go true true v e f g =
          let parts = and_parts _ _ f in
          let few = ltb-true count 6 parts.0 in
          inner_then q (Code count value) (Code (count + 1) (value * 16 + digit_value b)) p b bytes (code_more q count value p b e f)
          (λ text points r. point_step σ.rules.mode q (Code count value) (Code (count + 1) (value * 16 + digit_value b)) b text points (λ first c h. digit_first count value b first c e h) r)
          (more q (Code (count + 1) (value * 16 + digit_value b)) (room, inr (omega arith, omega arith, parts.1)))
      go true false v e f g = faulty q (Code count value) p b bytes (code_no_more q count value p b e f)
      go false u true e f g =
          let outer = and_parts _ _ g in
          let inner = and_parts _ _ outer.0 in
          let some = ltb-true _ _ inner.1 in
          point_then q (Code count value) value p b bytes (code_ends q count value p b e g)
          (λ text points r. point_last σ.rules.mode q (Code count value) (b ∷ []) text value points
          (record { digits = []; each = refl; some = omega arith; few = few valid some; is = refl; parts = ap (λ (k : ℕ). k ∷ []) (eqb-true b 125 inner.0) })
          (code_point q count value inner.1 outer.1 valid) r)
          (more (with_one q value) Plain tt)
        where
          few : ValidCode (bound σ.rules.mode q.use_) count value → 0 < count → count + length {A = ℕ} [] ≤ 6
          few (inl none) some = absurd (omega (arith, none.0))
          few (inr begun) some = omega (arith, begun.1)
      go false u false e f g = faulty q (Code count value) p b bytes (code_faults q count value p b e g)

  -- ---- the further bytes of a code point

  pub follow_goes : (q : Quoting) (n low high v p b : ℕ) → is_within low high b ≡ true → step_place σ (Quote q (Follow n low high v)) fs p b ≡ followed fs q n (v * 64 + (b - 0x80))
  unfolding step_place step_quote
  follow_goes q n low high v p b e = rw e refl

  follow_faults : (q : Quoting) (n low high v p b : ℕ) → is_within low high b ≡ false → step_place σ (Quote q (Follow n low high v)) fs p b ≡ fault
  unfolding step_place step_quote
  follow_faults q n low high v p b e = rw e refl

  follow_case : (q : Quoting) (n low high v p b : ℕ) (bytes : List ℕ) → ValidFollow (bound σ.rules.mode q.use_) n low high v → Later (suc p) bytes → QuoteReads q (Follow n low high v) p (b ∷ bytes)
  follow_case q zero low high v p b bytes valid more = go (is_within low high b) refl
    where
      go : (t : Bool) → is_within low high b ≡ t → QuoteReads q (Follow zero low high v) p (b ∷ bytes)
      go true e =
          let range = within_parts low high b e in
          point_then q (Follow zero low high v) (v * 64 + (b - 128)) p b bytes (follow_goes q zero low high v p b e)
          (λ text points r. point_last σ.rules.mode q (Follow zero low high v) (b ∷ []) text (v * 64 + (b - 128)) points (b, range.0, range.1, refl, refl)
          (last_point (bound σ.rules.mode q.use_) low high v b (most_bound σ.rules.mode q.use_) valid range.0 range.1) r)
          (more (with_one q (v * 64 + (b - 128))) Plain tt)
      go false e = faulty q (Follow zero low high v) p b bytes (follow_faults q zero low high v p b e)
  follow_case q (suc n) low high v p b bytes valid more = go (is_within low high b) refl
    where
      go : (t : Bool) → is_within low high b ≡ t → QuoteReads q (Follow (suc n) low high v) p (b ∷ bytes)
      go true e =
          let range = within_parts low high b e in
          inner_then q (Follow (suc n) low high v) (Follow n 128 191 (v * 64 + (b - 128))) p b bytes (follow_goes q (suc n) low high v p b e)
          (λ text points r. point_step σ.rules.mode q (Follow (suc n) low high v) (Follow n 128 191 (v * 64 + (b - 128))) b text points (λ first c h. (b, first, range.0, range.1, refl, h)) r)
          (more q (Follow n 128 191 (v * 64 + (b - 128))) (valid_next (bound σ.rules.mode q.use_) n low high v b valid range.0 range.1))
      go false e = faulty q (Follow (suc n) low high v) p b bytes (follow_faults q (suc n) low high v p b e)

  -- ---- all of them

  pub quoted : (text : List ℕ) (q : Quoting) (inner : Inner) (p : ℕ) → Valid (bound σ.rules.mode q.use_) inner → QuoteReads q inner p text
  quoted [] q Plain p valid = part (quote_of q.use_ ∷ []) q.points (at_the_end σ (spot (Quote q Plain) fs) p) (plain_sample σ.rules.mode q)
  quoted [] q Slash p valid = part _ _ (at_the_end σ (spot (Quote q Slash) fs) p) (then_quote σ.rules.mode q Slash (slash_has σ.rules.mode q valid))
  quoted [] q Brace p valid = part _ _ (at_the_end σ (spot (Quote q Brace) fs) p) (then_quote σ.rules.mode q Brace (brace_has σ.rules.mode q valid))
  quoted [] q (Code count value) p valid =
      part _ _ (at_the_end σ (spot (Quote q (Code count value)) fs) p) (then_quote σ.rules.mode q (Code count value) (code_has σ.rules.mode q count value valid.0 valid.1))
  quoted [] q (Follow n low high v) p valid =
      part _ _ (at_the_end σ (spot (Quote q (Follow n low high v)) fs) p) (then_quote σ.rules.mode q (Follow n low high v) (follow_has σ.rules.mode q n low high v valid))
  quoted (b ∷ bytes) q Plain p valid = plain_case q p b bytes (λ r inner ok. quoted bytes r inner (suc p) ok)
  quoted (b ∷ bytes) q Slash p valid = slash_case q p b bytes valid (λ r inner ok. quoted bytes r inner (suc p) ok)
  quoted (b ∷ bytes) q Brace p valid = brace_case q p b bytes valid (λ r inner ok. quoted bytes r inner (suc p) ok)
  quoted (b ∷ bytes) q (Code count value) p valid = code_case q count value p b bytes valid.0 valid.1 (λ r inner ok. quoted bytes r inner (suc p) ok)
  quoted (b ∷ bytes) q (Follow n low high v) p valid = follow_case q n low high v p b bytes valid (λ r inner ok. quoted bytes r inner (suc p) ok)
