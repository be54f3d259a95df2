-- What a form that was read is.
use Rattle.std.proofs.Common.{◌≡◌, ℕ, Bool, true, false, cond, eqb, List, [], ◌∷◌, ◌++◌, length, drop, map, Ok, Err, refl, sym, ap, subst, ◌∙◌, append_assoc, ℤ, pos, inl, inr, arith}
use Rattle.std.specs.Prelude.{neg_ℤ, codes, Result}
use Rattle.std.specs.Char.{is_ascii_digit}
use Rattle.std.specs.Str.Parse.{starts_with_minus, digits_value}
use Rattle.std.proofs.lemmas.Bool.{le-leb, eqb-true, eqb-false}
use Rattle.kh_term.specs.declared.name.Name.{Name}
use Rattle.kh_term.specs.Name.{name_text}
use Rattle.kh_text_defs.specs.Shown.{with_commas}
use Rattle.kh_read.specs.declared.form.Form.{Form}
use Rattle.kh_read.specs.declared.form.Form.TheVariants as form
use Rattle.kh_read.specs.Form.{is_plain_path, path_text, are_digits, IsInteger, IsForm}
use Rattle.kh_read.specs.Reading.{◌>>=◌, Read, Stop, Fault, literal_at, names_at, front_at, digits_at, integer_at, put_at, get_at, by_keyword, form_at}
use Rattle.kh_read.proofs.Digits.{are_digits_from}
use Rattle.kh_read.proofs.Fronts.{front_read}
use Rattle.kh_read.proofs.Steps.{passed, bind_ok, ok_is}
use Rattle.kh_read.proofs.NamesRead.{names_read}

abbrev left : List ℕ → Result (List ℕ) Stop
left rest = Ok rest

left_is : (x y : List ℕ) → left x ≡ left y → x ≡ y
left_is x y e = cc

literal_step : (wanted : ℕ) (others : List ℕ) (byte : ℕ) (bytes rest : List ℕ) (test : Bool) → eqb byte wanted ≡ test
    → ((x : List ℕ) → literal_at others bytes ≡ Ok x → bytes ≡ others ++ x)
    → cond test (literal_at others bytes) (Err Fault) ≡ Ok rest → byte ∷ bytes ≡ (wanted ∷ others) ++ rest
literal_step wanted others byte bytes rest true same next e =
    ap (λ (b : ℕ). b ∷ bytes) (eqb-true byte wanted same) ∙ ap (λ (r : List ℕ). wanted ∷ r) (next rest e)
literal_step wanted others byte bytes rest false same next e = absurd cc

pub literal_read : (wanted bytes rest : List ℕ) → literal_at wanted bytes ≡ Ok rest → bytes ≡ wanted ++ rest
literal_read [] bytes rest e = left_is bytes rest e
literal_read (wanted ∷ others) [] rest e = absurd cc
literal_read (wanted ∷ others) (byte ∷ bytes) rest e =
    literal_step wanted others byte bytes rest (eqb byte wanted) refl (λ x. literal_read others bytes x) e

-- the rest of a step that gives only what is left
pub bind_left : {B : Type 0} (read : Result (List ℕ) Stop) (next : List ℕ → Read B) (y : B × List ℕ) → (read >>= next) ≡ Ok y → (x : List ℕ) × (read ≡ Ok x) × (next x ≡ Ok y)
bind_left (Ok x) next y e = (x, refl, e)
bind_left (Err stop) next y e = absurd cc

pub digits_read : (bytes : List ℕ) (x : List ℕ × List ℕ) → digits_at bytes ≡ Ok x → (are_digits x.0 ≡ true) × (bytes ≡ x.0 ++ x.1)
unfolding digits_at
digits_read bytes x e =
    let a = bind_ok (front_at is_ascii_digit 18 bytes) _ x e in
    let b = passed (eqb (length a.0.0) 0) Fault (Ok a.0) x a.2 in
    let front = front_read is_ascii_digit 18 bytes a.0 a.1 in
    let some = eqb-false (length a.0.0) 0 b.0 in
    subst (λ (y : List ℕ × List ℕ). (are_digits y.0 ≡ true) × (bytes ≡ y.0 ++ y.1)) (ok_is a.0 x b.1)
    (are_digits_from a.0.0 (omega arith) front.few front.passes, front.parts)

-- an integer and its text
pub record IsRead (bytes : List ℕ) (number : ℤ) (rest : List ℕ) : Type 0 where
  pub text : List ℕ
  pub is : IsInteger text number
  pub parts : bytes ≡ text ++ rest

minus_is : (bytes : List ℕ) → starts_with_minus bytes ≡ true → bytes ≡ 45 ∷ drop 1 bytes
minus_is [] h = absurd cc
minus_is (byte ∷ bytes) h = ap (λ (b : ℕ). b ∷ bytes) (eqb-true byte 45 h)

by_sign : (bytes : List ℕ) (x : ℤ × List ℕ) (minus : Bool) → starts_with_minus bytes ≡ minus
    → cond minus (digits_at (drop 1 bytes) >>= λ digits. Ok (neg_ℤ (pos (digits_value 10 digits.0)), digits.1)) (digits_at bytes >>= λ digits. Ok (pos (digits_value 10 digits.0), digits.1)) ≡ Ok x
    → IsRead bytes x.0 x.1
by_sign bytes x true sign e =
    let a = bind_ok (digits_at (drop 1 bytes)) (λ digits. Ok (neg_ℤ (pos (digits_value 10 digits.0)), digits.1)) x e in
    let digits = digits_read (drop 1 bytes) a.0 a.1 in
    subst (λ (y : ℤ × List ℕ). IsRead bytes y.0 y.1) (ok_is (neg_ℤ (pos (digits_value 10 a.0.0)), a.0.1) x a.2)
    (record { text = 45 ∷ a.0.0; is = (a.0.0, digits.0, inr (refl, refl)); parts = minus_is bytes sign ∙ ap (λ (r : List ℕ). 45 ∷ r) digits.1 })
by_sign bytes x false sign e =
    let a = bind_ok (digits_at bytes) (λ digits. Ok (pos (digits_value 10 digits.0), digits.1)) x e in
    let digits = digits_read bytes a.0 a.1 in
    subst (λ (y : ℤ × List ℕ). IsRead bytes y.0 y.1) (ok_is (pos (digits_value 10 a.0.0), a.0.1) x a.2)
    (record { text = a.0.0; is = (a.0.0, digits.0, inl (refl, refl)); parts = digits.1 })

pub integer_read : (bytes : List ℕ) (x : ℤ × List ℕ) → integer_at bytes ≡ Ok x → IsRead bytes x.0 x.1
unfolding integer_at
integer_read bytes x e = by_sign bytes x (starts_with_minus bytes) refl e

-- a form, and the bytes behind it
pub record IsFormRead (bytes : List ℕ) (f : Form) (rest : List ℕ) : Type 0 where
  pub text : List ℕ
  pub is : IsForm text f
  pub parts : bytes ≡ text ++ rest

-- a path is plain where its names were read
plain_path : (bytes : List ℕ) (x : List Name × List ℕ) → names_at 32 bytes ≡ Ok x → (is_plain_path x.0 ≡ true) × (bytes ≡ with_commas (map name_text x.0) ++ 93 ∷ x.1)
plain_path bytes x e =
    let read = names_read 32 bytes x e in
    (rw (le-leb _ _ read.some, le-leb _ _ read.few, read.plain) refl, read.text)

-- the text of a `put` form, with these names and this integer, and of a `get` form
abbrev pub put_text : List Name → List ℕ → List ℕ
put_text path integer = codes "{put," ++ (path_text path ++ (codes "," ++ (integer ++ codes "}.")))

abbrev pub get_text : List Name → List ℕ
get_text path = codes "{get," ++ (path_text path ++ codes "}.")

pub put_text-append : (path : List Name) (integer rest : List ℕ)
    → put_text path integer ++ rest ≡ codes "{put,[" ++ (with_commas (map name_text path) ++ (codes "]," ++ (integer ++ (codes "}." ++ rest))))
put_text-append path integer rest = simp append_assoc

pub get_text-append : (path : List Name) (rest : List ℕ)
    → get_text path ++ rest ≡ codes "{get,[" ++ (with_commas (map name_text path) ++ (codes "]}." ++ rest))
get_text-append path rest = simp append_assoc

put_read : (bytes : List ℕ) (x : Form × List ℕ) → put_at bytes ≡ Ok x → IsFormRead (123 ∷ bytes) x.0 x.1
unfolding put_at
put_read bytes x e =
    let a = bind_left (literal_at (codes "put,[") bytes) _ x e in
    let b = bind_ok (names_at 32 a.0) _ x a.2 in
    let c = bind_left (literal_at (codes ",") b.0.1) _ x b.2 in
    let d = bind_ok (integer_at c.0) _ x c.2 in
    let f = bind_left (literal_at (codes "}.") d.0.1) (λ rest. Ok (form.Put b.0.0 d.0.0, rest)) x d.2 in
    let path = plain_path a.0 b.0 b.1 in
    let integer = integer_read c.0 d.0 d.1 in
    let last = literal_read (codes "}.") d.0.1 f.0 f.1 in
    let behind : c.0 ≡ integer.text ++ (codes "}." ++ f.0) = integer.parts ∙ ap (λ (r : List ℕ). integer.text ++ r) last in
    let comma : b.0.1 ≡ codes "," ++ (integer.text ++ (codes "}." ++ f.0)) =
    literal_read (codes ",") b.0.1 c.0 c.1 ∙ ap (λ (r : List ℕ). codes "," ++ r) behind in
    let names : a.0 ≡ with_commas (map name_text b.0.0) ++ (codes "]," ++ (integer.text ++ (codes "}." ++ f.0))) =
    path.1 ∙ ap (λ (r : List ℕ). with_commas (map name_text b.0.0) ++ 93 ∷ r) comma in
    let whole : bytes ≡ codes "put,[" ++ (with_commas (map name_text b.0.0) ++ (codes "]," ++ (integer.text ++ (codes "}." ++ f.0)))) =
    literal_read (codes "put,[") bytes a.0 a.1 ∙ ap (λ (r : List ℕ). codes "put,[" ++ r) names in
    subst (λ (y : Form × List ℕ). IsFormRead (123 ∷ bytes) y.0 y.1) (ok_is (form.Put b.0.0 d.0.0, f.0) x f.2)
    (record {
      text = put_text b.0.0 integer.text;
      is = (integer.text, integer.is, path.0, refl);
      parts = ap (λ (r : List ℕ). 123 ∷ r) whole ∙ sym (put_text-append b.0.0 integer.text f.0);
    })

get_read : (bytes : List ℕ) (x : Form × List ℕ) → get_at bytes ≡ Ok x → IsFormRead (123 ∷ bytes) x.0 x.1
unfolding get_at
get_read bytes x e =
    let a = bind_left (literal_at (codes "get,[") bytes) _ x e in
    let b = bind_ok (names_at 32 a.0) _ x a.2 in
    let f = bind_left (literal_at (codes "}.") b.0.1) (λ rest. Ok (form.Get b.0.0, rest)) x b.2 in
    let path = plain_path a.0 b.0 b.1 in
    let last = literal_read (codes "}.") b.0.1 f.0 f.1 in
    let names : a.0 ≡ with_commas (map name_text b.0.0) ++ (codes "]}." ++ f.0) =
    path.1 ∙ ap (λ (r : List ℕ). with_commas (map name_text b.0.0) ++ 93 ∷ r) last in
    let whole : bytes ≡ codes "get,[" ++ (with_commas (map name_text b.0.0) ++ (codes "]}." ++ f.0)) =
    literal_read (codes "get,[") bytes a.0 a.1 ∙ ap (λ (r : List ℕ). codes "get,[" ++ r) names in
    subst (λ (y : Form × List ℕ). IsFormRead (123 ∷ bytes) y.0 y.1) (ok_is (form.Get b.0.0, f.0) x f.2)
    (record { text = get_text b.0.0; is = (path.0, refl); parts = ap (λ (r : List ℕ). 123 ∷ r) whole ∙ sym (get_text-append b.0.0 f.0) })

by_byte : (byte : ℕ) (bytes : List ℕ) (x : Form × List ℕ) (is_put is_get : Bool)
    → cond is_put (put_at (byte ∷ bytes)) (cond is_get (get_at (byte ∷ bytes)) (Err Fault)) ≡ Ok x → IsFormRead (123 ∷ byte ∷ bytes) x.0 x.1
by_byte byte bytes x true is_get e = put_read (byte ∷ bytes) x e
by_byte byte bytes x false true e = get_read (byte ∷ bytes) x e
by_byte byte bytes x false false e = absurd cc

keyword_read : (bytes : List ℕ) (x : Form × List ℕ) → by_keyword bytes ≡ Ok x → IsFormRead (123 ∷ bytes) x.0 x.1
keyword_read [] x e = absurd cc
keyword_read (byte ∷ bytes) x e = by_byte byte bytes x (eqb byte 112) (eqb byte 103) e

pub form_read : (bytes : List ℕ) (x : Form × List ℕ) → form_at bytes ≡ Ok x → IsFormRead bytes x.0 x.1
unfolding form_at
form_read bytes x e =
    let a = bind_left (literal_at (codes "{") bytes) by_keyword x e in
    let brace = literal_read (codes "{") bytes a.0 a.1 in
    subst (λ (b : List ℕ). IsFormRead b x.0 x.1) (sym brace) (keyword_read a.0 x a.2)
