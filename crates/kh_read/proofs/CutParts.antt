-- The parts of a form that are cut short, made whole.
use Rattle.std.proofs.Common.{◌≡◌, ℕ, zero, suc, ◌≤◌, Bool, true, false, ◌||◌, not, cond, eqb, leb, List, [], ◌∷◌, ◌++◌, length, take, Ok, Err, inl, refl, append_assoc, length-append, arith}
use Rattle.std.specs.Prelude.{pos, neg_ℤ}
use Rattle.std.specs.Char.{is_ascii_digit, is_ascii_lowercase}
use Rattle.std.specs.List.{prefix_len, list_all, list_any}
use Rattle.std.specs.Str.{bytes_eq}
use Rattle.std.specs.Str.Parse.{digits_value}
use Rattle.std.proofs.lemmas.Bool.{ltb-false, leb-true, eqb-true, or_from, and_left, and_parts, and_right, not-true, not-false}
use Rattle.std.proofs.lemmas.List.{take_all}
use Rattle.std.proofs.lemmas.List.Folds.{list_all-append}
use Rattle.std.proofs.lemmas.Slice.Eq.{bytes_eq-Decides}
use Rattle.kh_term.specs.declared.name.Name.{Name}
use Rattle.kh_term.specs.declared.name.Name.TheVariants as name
use Rattle.kh_text_defs.specs.Atoms.{is_word_byte, is_reserved, reserved_words}
use Rattle.kh_read.specs.Reading.{◌>>=◌, Read, Cut, Fault, front_at, word_at, name_at, comma_at, names_at, digits_at, integer_at}
use Rattle.kh_read.proofs.Digits.{are_digits_from}
use Rattle.kh_read.proofs.Fronts.{front_passes}
use Rattle.kh_read.proofs.Grows.{name_grows, negative_at, positive_at, behind_name}
use Rattle.kh_read.proofs.Again.{word_again, digits_again, integer_again}
use Rattle.kh_read.proofs.Mends.{IsWhole, Mends, Opens, then_mends, map_mends}

-- a test for a fault that didn't come
cut_behind : {A : Type 0} (test : Bool) (read : Read A) → cond test (Err Fault) read ≡ Err Cut → (test ≡ false) × (read ≡ Err Cut)
cut_behind true read cut = absurd cc
cut_behind false read cut = (refl, cut)

cut_here : {A : Type 0} (test : Bool) (x : A × List ℕ) → cond test (Err Cut) (Ok x) ≡ Err Cut → test ≡ true
cut_here true x cut = refl
cut_here false x cut = absurd cc

-- a front that is cut short is all there is
front_cut : (test : ℕ → Bool) (most : ℕ) (bytes : List ℕ) → front_at test most bytes ≡ Err Cut → (list_all test bytes ≡ true) × (length bytes ≤ most)
front_cut test most bytes cut =
    let len = prefix_len test bytes in
    let a = cut_behind _ _ cut in
    let all = eqb-true len (length bytes) (cut_here (eqb len (length bytes)) _ a.1) in
    let few = ltb-false most len a.0 in
    let front : take len bytes ≡ bytes = take_all len bytes (omega arith) in
    (rw front at (front_passes test bytes), omega arith)

not_tested : (is_fault : Bool) (x : List ℕ × List ℕ) → cond is_fault (Err Fault) (Ok x) ≡ Err Cut → ⊥
not_tested true x cut = absurd cc
not_tested false x cut = absurd cc

-- a test of a front that was read cuts nothing short
tested_cut : (test : List ℕ → Bool) (front : Read (List ℕ)) → (front >>= λ x. cond (test x.0) (Err Fault) (Ok x)) ≡ Err Cut → front ≡ Err Cut
tested_cut test (Ok x) cut = absurd (not_tested (test x.0) x cut)
tested_cut test (Err Cut) cut = refl
tested_cut test (Err Fault) cut = cut

abbrev has_no_underscore : List ℕ → Bool
has_no_underscore = list_all (λ b. not (eqb 95 b))

-- a word that doesn't have `_` doesn't end in it
other_word : (text word : List ℕ) → has_no_underscore word ≡ true → bytes_eq (text ++ 95 ∷ []) word ≡ false
other_word [] [] free = refl
other_word [] (b ∷ word) free = and_left _ _ (not-true _ (and_parts (not (eqb 95 b)) (has_no_underscore word) free).0)
other_word (t ∷ text) [] free = refl
other_word (t ∷ text) (b ∷ word) free = and_right _ _ (other_word text word (and_parts (not (eqb 95 b)) (has_no_underscore word) free).1)

other_words : (text : List ℕ) (words : List (List ℕ)) → list_all has_no_underscore words ≡ true → list_any (bytes_eq (text ++ 95 ∷ [])) words ≡ false
other_words text [] free = refl
other_words text (word ∷ words) free =
    let parts = and_parts (has_no_underscore word) (list_all has_no_underscore words) free in
    or_from _ _ (other_word text word parts.0) (other_words text words parts.1)

short_step : (text word : List ℕ) (words : List (List ℕ)) (same : Bool) → bytes_eq text word ≡ same → length word ≤ 254
    → (list_any (bytes_eq text) words ≡ true → length text ≤ 254) → (same || list_any (bytes_eq text) words) ≡ true → length text ≤ 254
short_step text word words true is few next among = let e : text ≡ word = (bytes_eq-Decides text word).0 is in rw e few
short_step text word words false is few next among = next among

-- a word as long as one of these at most
short_word : (text : List ℕ) (words : List (List ℕ)) → list_all (λ w. leb (length w) 254) words ≡ true → list_any (bytes_eq text) words ≡ true → length text ≤ 254
short_word text [] short among = absurd cc
short_word text (word ∷ words) short among =
    let parts = and_parts (leb (length word) 254) (list_all (λ w. leb (length w) 254) words) short in
    short_step text word words (bytes_eq text word) refl (leb-true _ _ parts.0) (short_word text words parts.1) among

-- a plain word, reserved or not, made whole
word_whole : (first : ℕ) (others : List ℕ) (reserved : Bool) → is_reserved (first ∷ others) ≡ reserved → is_ascii_lowercase first ≡ true
    → list_all is_word_byte others ≡ true → length (first ∷ others) ≤ 255 → IsWhole word_at (first ∷ others)
word_whole first others false is small each few = record {
  more = [];
  value = first ∷ others;
  reads = λ end rest other. word_again (first ∷ others) end rest (rw (small, each, is) refl) few other;
}
word_whole first others true is small each few =
    let text = (first ∷ others) ++ 95 ∷ [] in
    let free : is_reserved text ≡ false = other_words (first ∷ others) reserved_words refl in
    let room = short_word (first ∷ others) reserved_words refl is in
    let longer : list_all is_word_byte (others ++ 95 ∷ []) ≡ true = rw (list_all-append is_word_byte others (95 ∷ []), each) refl in
    let within : length text ≤ 255 = omega (arith, length-append (first ∷ others) (95 ∷ [])) in
    record {
      more = 95 ∷ [];
      value = text;
      reads = λ end rest other. rw (append_assoc (first ∷ others) (95 ∷ []) (end ∷ rest)) at (word_again text end rest (rw (small, longer, free) refl) within other);
    }

pub word_mends : Mends word_at
unfolding word_at
word_mends [] cut = record { more = 97 ∷ []; value = 97 ∷ []; reads = λ end rest other. word_again (97 ∷ []) end rest refl (omega arith) other }
word_mends (first ∷ others) cut =
    let a = cut_behind (not (is_ascii_lowercase first)) _ cut in
    let front = front_cut is_word_byte 255 (first ∷ others) (tested_cut is_reserved _ a.1) in
    let each = and_parts (is_word_byte first) (list_all is_word_byte others) front.0 in
    word_whole first others (is_reserved (first ∷ others)) refl (not-false _ a.0) each.1 front.1

pub name_mends : Mends name_at
unfolding name_at
name_mends = map_mends word_at name.Atom word_mends

-- what stands behind a name can begin with the bracket
behind_opens : (room : ℕ) (first : Name) → Opens (λ after. comma_at after >>= λ comma. behind_name room first comma.0 comma.1)
unfolding behind_name
behind_opens room first = record { byte = 93; other = refl; whole = record { more = []; value = first ∷ []; reads = λ end rest other. refl } }

abbrev by_comma : Bool → Bool → List ℕ → Read Bool
by_comma comma bracket bytes = cond comma (Ok (true, bytes)) (cond bracket (Ok (false, bytes)) (Err Fault))

comma_cut : (room : ℕ) (first : Name) (byte : ℕ) (bytes : List ℕ) (comma bracket : Bool) → eqb byte 44 ≡ comma → Mends (names_at room)
    → (by_comma comma bracket bytes >>= λ comma. behind_name room first comma.0 comma.1) ≡ Err Cut
    → IsWhole (λ after. comma_at after >>= λ comma. behind_name room first comma.0 comma.1) (byte ∷ bytes)
unfolding behind_name
comma_cut room first byte bytes true bracket is next cut =
    let whole = map_mends (names_at room) (λ others. first ∷ others) next bytes cut in
    record { more = whole.more; value = whole.value; reads = λ end rest other. rw is (whole.reads end rest other) }
comma_cut room first byte bytes false true is next cut = absurd cc
comma_cut room first byte bytes false false is next cut = absurd cc

behind_mends : (room : ℕ) → Mends (names_at room) → (first : Name) → Mends (λ after. comma_at after >>= λ comma. behind_name room first comma.0 comma.1)
unfolding behind_name
behind_mends room next first [] cut = record { more = 93 ∷ []; value = first ∷ []; reads = λ end rest other. refl }
behind_mends room next first (byte ∷ bytes) cut = comma_cut room first byte bytes (eqb byte 44) (eqb byte 93) refl next cut

pub names_mends : (room : ℕ) → Mends (names_at room)
unfolding names_at behind_name
names_mends zero = λ bytes cut. absurd cc
names_mends (suc room) =
    then_mends name_at (λ first after. comma_at after >>= λ comma. behind_name room first comma.0 comma.1) name_grows name_mends
    (behind_mends room (names_mends room)) (behind_opens room)

pub digits_mends : Mends digits_at
unfolding digits_at
digits_mends [] cut = record { more = 48 ∷ []; value = 48 ∷ []; reads = λ end rest other. digits_again (48 ∷ []) end rest refl other }
digits_mends (byte ∷ bytes) cut =
    let front = front_cut is_ascii_digit 18 (byte ∷ bytes) (tested_cut (λ text. eqb (length text) 0) _ cut) in
    let are = are_digits_from (byte ∷ bytes) (omega arith) front.1 front.0 in
    record { more = []; value = byte ∷ bytes; reads = λ end rest other. digits_again (byte ∷ bytes) end rest are other }

sign_cut : (byte : ℕ) (bytes : List ℕ) (minus : Bool) → eqb byte 45 ≡ minus → cond minus (negative_at bytes) (positive_at (byte ∷ bytes)) ≡ Err Cut
    → IsWhole integer_at (byte ∷ bytes)
unfolding integer_at
sign_cut byte bytes true is cut =
    let whole = map_mends digits_at (λ digits. neg_ℤ (pos (digits_value 10 digits))) digits_mends bytes cut in
    record { more = whole.more; value = whole.value; reads = λ end rest other. rw is (whole.reads end rest other) }
sign_cut byte bytes false is cut =
    let whole = map_mends digits_at (λ digits. pos (digits_value 10 digits)) digits_mends (byte ∷ bytes) cut in
    record { more = whole.more; value = whole.value; reads = λ end rest other. rw is (whole.reads end rest other) }

pub integer_mends : Mends integer_at
unfolding integer_at
integer_mends [] cut = record {
  more = 48 ∷ [];
  value = pos (digits_value 10 (48 ∷ []));
  reads = λ end rest other. integer_again (48 ∷ []) (pos (digits_value 10 (48 ∷ []))) end rest (48 ∷ [], refl, inl (refl, refl)) other;
}
integer_mends (byte ∷ bytes) cut = sign_cut byte bytes (eqb byte 45) refl cut
