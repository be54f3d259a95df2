-- Forms that are cut short, made whole.
use Rattle.std.proofs.Common.{◌≡◌, ◌≢◌, ℕ, Bool, true, false, cond, eqb, List, [], ◌∷◌, ◌++◌, Ok, Err, refl, sym, ap, ◌∙◌, append_assoc, append-nil}
use Rattle.std.specs.Prelude.{codes}
use Rattle.std.proofs.lemmas.List.{append_cancel_right}
use Rattle.kh_term.specs.declared.name.Name.{Name}
use Rattle.kh_read.specs.declared.form.Form.{Form}
use Rattle.kh_read.specs.declared.form.Form.TheVariants as form
use Rattle.kh_read.specs.Form.{IsForm, BeginsForm}
use Rattle.kh_read.specs.Reading.{◌>>=◌, Read, Cut, Fault, literal_at, word_at, name_at, names_at, digits_at, integer_at, put_at, get_at, by_keyword, form_at}
use Rattle.kh_read.proofs.Grows.{names_grows, integer_grows}
use Rattle.kh_read.proofs.FormRead.{form_read}
use Rattle.kh_read.proofs.Again.{form_again}
use Rattle.kh_read.proofs.Steps.{done}
use Rattle.kh_read.proofs.Mends.{IsWhole, Mends, Opens, value_mends, value_ready, literal_mends, then_mends}
use Rattle.kh_read.proofs.CutParts.{names_mends, integer_mends}

-- a literal at the end of a form
abbrev ends_with : List ℕ → Form → List ℕ → Read Form
ends_with wanted f bytes = literal_at wanted bytes >>= λ rest. Ok (f, rest)

end_mends : (wanted : List ℕ) (f : Form) → Mends (ends_with wanted f)
end_mends wanted f = literal_mends wanted (λ rest. Ok (f, rest)) (value_ready f) (value_mends f)

end_opens : (f : Form) → Opens (ends_with (codes "}.") f)
end_opens f = record { byte = 125; other = refl; whole = record { more = 46 ∷ []; value = f; reads = λ end rest other. refl } }

no_integer : integer_at [] ≡ Err Cut
unfolding integer_at digits_at
no_integer = refl

no_names : names_at 32 [] ≡ Err Cut
unfolding names_at name_at word_at
no_names = refl

-- what stands behind the comma, and from the comma on
abbrev number_at : List Name → List ℕ → Read Form
number_at path bytes = integer_at bytes >>= λ number. ends_with (codes "}.") (form.Put path number.0) number.1

abbrev comma_number_at : List Name → List ℕ → Read Form
comma_number_at path bytes = literal_at (codes ",") bytes >>= number_at path

number_mends : (path : List Name) → Mends (number_at path)
number_mends path =
    then_mends integer_at (λ number. ends_with (codes "}.") (form.Put path number)) integer_grows integer_mends
    (λ number. end_mends (codes "}.") (form.Put path number)) (λ number. end_opens (form.Put path number))

number_ready : (path : List Name) → IsWhole (number_at path) []
number_ready path = number_mends path [] (rw no_integer refl)

comma_opens : (path : List Name) → Opens (comma_number_at path)
comma_opens path =
    let ready = number_ready path in
    record { byte = 44; other = refl; whole = record { more = ready.more; value = ready.value; reads = ready.reads } }

put_names_mends : Mends (λ bytes. names_at 32 bytes >>= λ path. comma_number_at path.0 path.1)
put_names_mends =
    then_mends (names_at 32) comma_number_at (names_grows 32) (names_mends 32)
    (λ path. literal_mends (codes ",") (number_at path) (number_ready path) (number_mends path)) comma_opens

put_mends : Mends put_at
unfolding put_at
put_mends =
    literal_mends (codes "put,[") (λ names. names_at 32 names >>= λ path. comma_number_at path.0 path.1) (put_names_mends [] (rw no_names refl)) put_names_mends

get_names_mends : Mends (λ bytes. names_at 32 bytes >>= λ path. ends_with (codes "}.") (form.Get path.0) path.1)
get_names_mends =
    then_mends (names_at 32) (λ path. ends_with (codes "}.") (form.Get path)) (names_grows 32) (names_mends 32)
    (λ path. end_mends (codes "}.") (form.Get path)) (λ path. end_opens (form.Get path))

get_mends : Mends get_at
unfolding get_at
get_mends =
    literal_mends (codes "get,[") (λ names. names_at 32 names >>= λ path. ends_with (codes "}.") (form.Get path.0) path.1) (get_names_mends [] (rw no_names refl)) get_names_mends

keyword_cut : (byte : ℕ) (bytes : List ℕ) (is_put is_get : Bool) → eqb byte 112 ≡ is_put → eqb byte 103 ≡ is_get
    → cond is_put (put_at (byte ∷ bytes)) (cond is_get (get_at (byte ∷ bytes)) (Err Fault)) ≡ Err Cut → IsWhole by_keyword (byte ∷ bytes)
keyword_cut byte bytes true is_get put get cut =
    let whole = put_mends (byte ∷ bytes) cut in
    record { more = whole.more; value = whole.value; reads = λ end rest other. rw put (whole.reads end rest other) }
keyword_cut byte bytes false true put get cut =
    let whole = get_mends (byte ∷ bytes) cut in
    record { more = whole.more; value = whole.value; reads = λ end rest other. rw (put, get) (whole.reads end rest other) }
keyword_cut byte bytes false false put get cut = absurd cc

keyword_ready : IsWhole by_keyword []
unfolding get_at
keyword_ready =
    let whole = get_mends (103 ∷ []) refl in
    record { more = 103 ∷ whole.more; value = whole.value; reads = λ end rest other. whole.reads end rest other }

keyword_mends : Mends by_keyword
keyword_mends [] cut = keyword_ready
keyword_mends (byte ∷ bytes) cut = keyword_cut byte bytes (eqb byte 112) (eqb byte 103) refl refl cut

pub form_mends : Mends form_at
unfolding form_at
form_mends = literal_mends (codes "{") by_keyword keyword_ready keyword_mends

-- What is cut short isn't whole yet.
not_whole : (bytes more : List ℕ) (f : Form) → form_at bytes ≡ Err Cut → IsForm (bytes ++ more) f → more ≢ []
not_whole bytes more f cut is none =
    let same : (bytes ++ more) ++ [] ≡ bytes = simp (none, append-nil) in
    let e : done (f, []) ≡ Err Cut = sym (form_again (bytes ++ more) f [] is) ∙ ap form_at same ∙ cut in
    cc

-- Bytes that are cut short begin a form.
pub begins_form : (bytes : List ℕ) → form_at bytes ≡ Err Cut → BeginsForm bytes
begins_form bytes cut =
    let whole = form_mends bytes cut in
    let read = form_read (bytes ++ (whole.more ++ 0 ∷ [])) (whole.value, 0 ∷ []) (whole.reads 0 [] refl) in
    let text : bytes ++ whole.more ≡ read.text =
    append_cancel_right (bytes ++ whole.more) read.text (0 ∷ []) (append_assoc bytes whole.more (0 ∷ []) ∙ read.parts) in
    let is : IsForm (bytes ++ whole.more) whole.value = rw text read.is in
    (whole.more, whole.value, not_whole bytes whole.more whole.value cut is, is)
