-- A form that was read can be executed.
use Rattle.std.proofs.Common.{◌≡◌, ℕ, Bool, true, false, cond, leb, eqb, List, [], ◌∷◌, length, Ok, Err, refl, ap, subst}
use Rattle.std.specs.Prelude.{IsTrue, ◌&&◌}
use Rattle.std.specs.List.{list_all}
use Rattle.kh_term.specs.declared.name.Name.{Name}
use Rattle.kh_term.specs.declared.name.Name.TheVariants as name
use Rattle.kh_read.specs.declared.form.Form.{Form}
use Rattle.kh_read.specs.declared.form.Form.TheVariants as form
use Rattle.kh_read.specs.Form.{is_plain_name, is_plain_path, IsForm}
use Rattle.kh_read.specs.Reading.{Cut, Fault, form_at}
use Rattle.std.proofs.lemmas.Bool.{and_parts}
use Rattle.kh_read.proofs.{form_read, plain_names_are_names, bind_ok, ok_is}
use Rattle.kh_store.specs.Command.{is_atom, is_atom_path, is_command}
use Rattle.khepri.specs.Script.{behind_form, line_at}

plain_name_is_atom : (n : Name) → is_plain_name n ≡ true → is_atom n ≡ true
plain_name_is_atom (name.Atom text) h = refl
plain_name_is_atom (name.Bin bytes) h = absurd cc

plain_names_are_atoms : (names : List Name) → list_all is_plain_name names ≡ true → list_all is_atom names ≡ true
plain_names_are_atoms [] h = refl
plain_names_are_atoms (n ∷ names) h =
    let parts = and_parts (is_plain_name n) (list_all is_plain_name names) h in
    rw (plain_name_is_atom n parts.0, plain_names_are_atoms names parts.1) refl

plain_path_is_atoms : (path : List Name) → is_plain_path path ≡ true → is_atom_path path ≡ true
plain_path_is_atoms path h =
    let parts = and_parts (leb 1 (length path) && leb (length path) 32) (list_all is_plain_name path) h in
    let lengths = and_parts (leb 1 (length path)) (leb (length path) 32) parts.0 in
    rw (lengths.0, lengths.1, plain_names_are_names path parts.1, plain_names_are_atoms path parts.1) refl

is_command_of : (text : List ℕ) (f : Form) → IsForm text f → IsTrue (is_command f)
is_command_of text (form.Put path number) is = plain_path_is_atoms path is.2
is_command_of text (form.Get path) is = refl

-- a form at the front of bytes
pub form_is_command : (bytes : List ℕ) (f : Form) (rest : List ℕ) → form_at bytes ≡ Ok (f, rest) → IsTrue (is_command f)
form_is_command bytes f rest e = let read = form_read bytes (f, rest) e in is_command_of read.text f read.is

at_end : (is_end : Bool) (f : Form) (x : Form × List ℕ) → cond is_end (Ok (f, [])) (Err Cut) ≡ Ok x → f ≡ x.0
at_end true f x e = ap (λ (y : Form × List ℕ). y.0) (ok_is (f, []) x e)
at_end false f x e = absurd cc

at_newline : (test : Bool) (f : Form) (rest : List ℕ) (x : Form × List ℕ) → cond test (Ok (f, rest)) (Err Fault) ≡ Ok x → f ≡ x.0
at_newline true f rest x e = ap (λ (y : Form × List ℕ). y.0) (ok_is (f, rest) x e)
at_newline false f rest x e = absurd cc

same_form : (is_end : Bool) (f : Form) (bytes : List ℕ) (x : Form × List ℕ) → behind_form is_end f bytes ≡ Ok x → f ≡ x.0
same_form is_end f [] x e = at_end is_end f x e
same_form is_end f (byte ∷ rest) x e = at_newline (eqb byte 10) f rest x e

-- the form of a line
pub line_is_command : (is_end : Bool) (bytes : List ℕ) (f : Form) (rest : List ℕ) → line_at is_end bytes ≡ Ok (f, rest) → IsTrue (is_command f)
line_is_command is_end bytes f rest e =
    let a = bind_ok (form_at bytes) (λ x. behind_form is_end x.0 x.1) (f, rest) e in
    subst (λ (g : Form). IsTrue (is_command g)) (same_form is_end a.0.0 a.0.1 (f, rest) a.2) (form_is_command bytes a.0.0 a.0.1 a.1)
