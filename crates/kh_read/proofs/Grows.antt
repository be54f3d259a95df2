-- Bytes that come later change nothing that was read, and mend no fault.
use Rattle.std.proofs.Common.{◌≡◌, ◌≢◌, ℕ, zero, suc, ◌+◌, ◌≤◌, Bool, true, false, not, cond, ltb, eqb, List, [], ◌∷◌, ◌++◌, length, take, drop, Ok, Err, refl, arith}
use Rattle.std.specs.Prelude.{ℤ, pos, neg_ℤ, codes}
use Rattle.std.specs.Char.{is_ascii_digit, is_ascii_lowercase}
use Rattle.std.specs.List.{prefix_len}
use Rattle.std.specs.Str.Parse.{digits_value}
use Rattle.std.proofs.lemmas.Bool.{ltb-true, lt-ltb, eqb-false, eqb-true, ne_eqb}
use Rattle.std.proofs.lemmas.List.{length-append, take-append-le, drop-append-le}
use Rattle.std.proofs.lemmas.List.Folds.{prefix_len-append}
use Rattle.std.proofs.lemmas.List.Sums.{prefix_len-le-length}
use Rattle.kh_term.specs.declared.name.Name.{Name}
use Rattle.kh_term.specs.declared.name.Name.TheVariants as name
use Rattle.kh_text_defs.specs.Atoms.{is_word_byte, is_reserved}
use Rattle.kh_read.specs.declared.form.Form.TheVariants as form
use Rattle.kh_read.specs.Reading.{◌>>=◌, Read, Cut, Fault, literal_at, split_front, front_at, word_at, name_at, comma_at, names_at, digits_at, integer_at, put_at, get_at, by_keyword, form_at, extended, Grows}

step_grows : {A B : Type 0} (more : List ℕ) (now later : Read A) (k : A → List ℕ → Read B) → ((x : A) → Grows (k x))
    → (now ≢ Err Cut → later ≡ extended more now) → (now >>= λ x. k x.0 x.1) ≢ Err Cut
    → (later >>= λ x. k x.0 x.1) ≡ extended more (now >>= λ x. k x.0 x.1)
step_grows more (Ok x) later k next first uncut =
    let e = first (λ same. cc) in rw e (next x.0 x.1 more uncut)
step_grows more (Err Cut) later k next first uncut = absurd (uncut refl)
step_grows more (Err Fault) later k next first uncut =
    let e = first (λ same. cc) in rw e refl

-- one step after another
pub then_grows : {A B : Type 0} (f : List ℕ → Read A) (k : A → List ℕ → Read B) → Grows f → ((x : A) → Grows (k x))
    → Grows (λ bytes. f bytes >>= λ x. k x.0 x.1)
then_grows f k first next bytes more uncut = step_grows more (f bytes) (f (bytes ++ more)) k next (first bytes more) uncut

-- what reads nothing
pub value_grows : {A : Type 0} (x : A) → Grows (λ bytes. Ok (x, bytes))
value_grows x bytes more uncut = refl

pub fault_grows : {A : Type 0} → Grows {A = A} (λ bytes. Err Fault)
fault_grows bytes more uncut = refl

literal_case : {B : Type 0} (wanted bytes more : List ℕ) (k : List ℕ → Read B) (test : Bool)
    → ((literal_at wanted bytes >>= k) ≢ Err Cut → (literal_at wanted (bytes ++ more) >>= k) ≡ extended more (literal_at wanted bytes >>= k))
    → ((cond test (literal_at wanted bytes) (Err Fault)) >>= k) ≢ Err Cut
    → ((cond test (literal_at wanted (bytes ++ more)) (Err Fault)) >>= k) ≡ extended more ((cond test (literal_at wanted bytes) (Err Fault)) >>= k)
literal_case wanted bytes more k true next uncut = next uncut
literal_case wanted bytes more k false next uncut = refl

-- a literal, and what is read behind it
pub literal_then : {B : Type 0} (wanted : List ℕ) (k : List ℕ → Read B) → Grows k → Grows (λ bytes. literal_at wanted bytes >>= k)
literal_then [] k next bytes more uncut = next bytes more uncut
literal_then (w ∷ wanted) k next [] more uncut = absurd (uncut refl)
literal_then (w ∷ wanted) k next (byte ∷ bytes) more uncut =
    literal_case wanted bytes more k (eqb byte w) (literal_then wanted k next bytes more) uncut

-- a split by what its two tests say
abbrev split_by : Bool → Bool → ℕ → List ℕ → Read (List ℕ)
split_by long whole len bytes = cond long (Err Fault) (cond whole (Err Cut) (Ok (take len bytes, drop len bytes)))

-- how long a front is with more bytes behind it: as it was, or longer where it was all there was
record IsLater (len later : ℕ) (bytes : List ℕ) : Type 0 where
  same : eqb len (length bytes) ≡ false → later ≡ len
  longer : len ≤ later
  within : len ≤ length bytes

split_case : (bytes more : List ℕ) (len later most : ℕ) (long whole : Bool) → ltb most len ≡ long → eqb len (length bytes) ≡ whole
    → IsLater len later bytes → split_by long whole len bytes ≢ Err Cut → split_front later most (bytes ++ more) ≡ extended more (split_by long whole len bytes)
split_case bytes more len later most true whole is_long is_whole is_later uncut =
    let over = ltb-true most len is_long in
    let still : ltb most later ≡ true = lt-ltb most later (let longer = is_later.longer in omega arith) in
    rw still refl
split_case bytes more len later most false true is_long is_whole is_later uncut = absurd (uncut refl)
split_case bytes more len later most false false is_long is_whole is_later uncut =
    let apart = eqb-false len (length bytes) is_whole in
    let within = is_later.within in
    let not_all : eqb len (length (bytes ++ more)) ≡ false = ne_eqb _ _ (λ e. apart (omega (arith, length-append bytes more))) in
    rw (is_later.same is_whole, is_long, not_all, take-append-le len bytes more within, drop-append-le len bytes more within) refl

later_len : (test : ℕ → Bool) (bytes more : List ℕ) (whole : Bool) → eqb (prefix_len test bytes) (length bytes) ≡ whole
    → IsLater (prefix_len test bytes) (cond whole (length bytes + prefix_len test more) (prefix_len test bytes)) bytes
later_len test bytes more true is_whole = record {
  same = λ e. absurd cc;
  longer = (let all = eqb-true _ _ is_whole in omega arith);
  within = prefix_len-le-length test bytes;
}
later_len test bytes more false is_whole = record { same = λ e. refl; longer = omega arith; within = prefix_len-le-length test bytes }

pub front_grows : (test : ℕ → Bool) (most : ℕ) → Grows (front_at test most)
front_grows test most bytes more uncut =
    rw (prefix_len-append test bytes more)
    (split_case bytes more (prefix_len test bytes) _ most (ltb most (prefix_len test bytes)) (eqb (prefix_len test bytes) (length bytes)) refl refl
    (later_len test bytes more (eqb (prefix_len test bytes) (length bytes)) refl) uncut)

-- what was read, or a fault by a test of it
abbrev tested : {A : Type 0} → Bool → A → List ℕ → Read A
tested is_fault x bytes = cond is_fault (Err Fault) (Ok (x, bytes))

tested_grows : {A : Type 0} (is_fault : Bool) (x : A) → Grows (tested is_fault x)
tested_grows true x bytes more uncut = refl
tested_grows false x bytes more uncut = refl

word_case : (first : ℕ) (others more : List ℕ) (test : Bool)
    → cond test (Err Fault) (front_at is_word_byte 255 (first ∷ others) >>= λ word. cond (is_reserved word.0) (Err Fault) (Ok word)) ≢ Err Cut
    → cond test (Err Fault) (front_at is_word_byte 255 ((first ∷ others) ++ more) >>= λ word. cond (is_reserved word.0) (Err Fault) (Ok word))
    ≡ extended more (cond test (Err Fault) (front_at is_word_byte 255 (first ∷ others) >>= λ word. cond (is_reserved word.0) (Err Fault) (Ok word)))
word_case first others more true uncut = refl
word_case first others more false uncut =
    then_grows (front_at is_word_byte 255) (λ text bytes. cond (is_reserved text) (Err Fault) (Ok (text, bytes))) (front_grows is_word_byte 255) (λ text. tested_grows (is_reserved text) text) (first ∷ others) more uncut

pub word_grows : Grows word_at
unfolding word_at
word_grows [] more uncut = absurd (uncut refl)
word_grows (first ∷ others) more uncut = word_case first others more (not (is_ascii_lowercase first)) uncut

pub name_grows : Grows name_at
unfolding name_at
name_grows = then_grows word_at (λ text bytes. Ok (name.Atom text, bytes)) word_grows (λ text. value_grows (name.Atom text))

comma_case : (bytes more : List ℕ) (comma bracket : Bool)
    → cond comma (Ok (true, bytes ++ more)) (cond bracket (Ok (false, bytes ++ more)) (Err Fault)) ≡ extended more (cond comma (Ok (true, bytes)) (cond bracket (Ok (false, bytes)) (Err Fault)))
comma_case bytes more true bracket = refl
comma_case bytes more false true = refl
comma_case bytes more false false = refl

pub comma_grows : Grows comma_at
comma_grows [] more uncut = absurd (uncut refl)
comma_grows (byte ∷ bytes) more uncut = comma_case bytes more (eqb byte 44) (eqb byte 93)

-- what stands behind a name
unfoldable pub behind_name : (room : ℕ) → Name → Bool → List ℕ → Read (List Name)
behind_name room first comma bytes =
    cond comma (names_at room bytes >>= λ others. Ok (first ∷ others.0, others.1)) (Ok (first ∷ [], bytes))

behind_name_grows : (room : ℕ) → Grows (names_at room) → (first : Name) (comma : Bool) → Grows (behind_name room first comma)
unfolding behind_name
behind_name_grows room next first true =
    then_grows (names_at room) (λ others bytes. Ok (first ∷ others, bytes)) next (λ others. value_grows (first ∷ others))
behind_name_grows room next first false = value_grows (first ∷ [])

pub names_grows : (room : ℕ) → Grows (names_at room)
unfolding names_at behind_name
names_grows zero = fault_grows
names_grows (suc room) =
    then_grows name_at (λ first after. comma_at after >>= λ comma. behind_name room first comma.0 comma.1) name_grows
    (λ first. then_grows comma_at (behind_name room first) comma_grows (behind_name_grows room (names_grows room) first))

pub digits_grows : Grows digits_at
unfolding digits_at
digits_grows = then_grows (front_at is_ascii_digit 18) (λ text bytes. cond (eqb (length text) 0) (Err Fault) (Ok (text, bytes))) (front_grows is_ascii_digit 18) (λ text. tested_grows (eqb (length text) 0) text)

-- an integer behind a minus sign, and one without
abbrev pub negative_at : List ℕ → Read ℤ
negative_at bytes = digits_at bytes >>= λ digits. Ok (neg_ℤ (pos (digits_value 10 digits.0)), digits.1)

abbrev pub positive_at : List ℕ → Read ℤ
positive_at bytes = digits_at bytes >>= λ digits. Ok (pos (digits_value 10 digits.0), digits.1)

negative_grows : Grows negative_at
negative_grows = then_grows digits_at (λ text bytes. Ok (neg_ℤ (pos (digits_value 10 text)), bytes)) digits_grows (λ text. value_grows (neg_ℤ (pos (digits_value 10 text))))

positive_grows : Grows positive_at
positive_grows = then_grows digits_at (λ text bytes. Ok (pos (digits_value 10 text), bytes)) digits_grows (λ text. value_grows (pos (digits_value 10 text)))

integer_case : (byte : ℕ) (bytes more : List ℕ) (minus : Bool)
    → cond minus (negative_at bytes) (positive_at (byte ∷ bytes)) ≢ Err Cut
    → cond minus (negative_at (bytes ++ more)) (positive_at ((byte ∷ bytes) ++ more)) ≡ extended more (cond minus (negative_at bytes) (positive_at (byte ∷ bytes)))
integer_case byte bytes more true uncut = negative_grows bytes more uncut
integer_case byte bytes more false uncut = positive_grows (byte ∷ bytes) more uncut

no_digits : digits_at [] ≡ Err Cut
unfolding digits_at
no_digits = refl

pub integer_grows : Grows integer_at
unfolding integer_at
integer_grows [] more uncut = absurd (uncut (rw no_digits refl))
integer_grows (byte ∷ bytes) more uncut = integer_case byte bytes more (eqb byte 45) uncut

pub put_grows : Grows put_at
unfolding put_at
put_grows =
    literal_then (codes "put,[") (λ names. names_at 32 names >>= λ path. literal_at (codes ",") path.1 >>= λ rest. integer_at rest >>= λ number. literal_at (codes "}.") number.1 >>= λ rest. Ok (form.Put path.0 number.0, rest))
    (then_grows (names_at 32) (λ path bytes. literal_at (codes ",") bytes >>= λ rest. integer_at rest >>= λ number. literal_at (codes "}.") number.1 >>= λ rest. Ok (form.Put path number.0, rest)) (names_grows 32) (λ path.
    literal_then (codes ",") (λ rest. integer_at rest >>= λ number. literal_at (codes "}.") number.1 >>= λ rest. Ok (form.Put path number.0, rest))
    (then_grows integer_at (λ number bytes. literal_at (codes "}.") bytes >>= λ rest. Ok (form.Put path number, rest)) integer_grows (λ number.
    literal_then (codes "}.") (λ rest. Ok (form.Put path number, rest)) (value_grows (form.Put path number))))))

pub get_grows : Grows get_at
unfolding get_at
get_grows =
    literal_then (codes "get,[") (λ names. names_at 32 names >>= λ path. literal_at (codes "}.") path.1 >>= λ rest. Ok (form.Get path.0, rest))
    (then_grows (names_at 32) (λ path bytes. literal_at (codes "}.") bytes >>= λ rest. Ok (form.Get path, rest)) (names_grows 32) (λ path.
    literal_then (codes "}.") (λ rest. Ok (form.Get path, rest)) (value_grows (form.Get path))))

keyword_case : (byte : ℕ) (bytes more : List ℕ) (is_put is_get : Bool)
    → cond is_put (put_at (byte ∷ bytes)) (cond is_get (get_at (byte ∷ bytes)) (Err Fault)) ≢ Err Cut
    → cond is_put (put_at ((byte ∷ bytes) ++ more)) (cond is_get (get_at ((byte ∷ bytes) ++ more)) (Err Fault))
    ≡ extended more (cond is_put (put_at (byte ∷ bytes)) (cond is_get (get_at (byte ∷ bytes)) (Err Fault)))
keyword_case byte bytes more true is_get uncut = put_grows (byte ∷ bytes) more uncut
keyword_case byte bytes more false true uncut = get_grows (byte ∷ bytes) more uncut
keyword_case byte bytes more false false uncut = refl

pub keyword_grows : Grows by_keyword
keyword_grows [] more uncut = absurd (uncut refl)
keyword_grows (byte ∷ bytes) more uncut = keyword_case byte bytes more (eqb byte 112) (eqb byte 103) uncut

pub form_grows : Grows form_at
unfolding form_at
form_grows = literal_then (codes "{") by_keyword keyword_grows
