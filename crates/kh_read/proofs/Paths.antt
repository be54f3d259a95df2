-- The names of a form are a path.
use Rattle.std.proofs.Common.{◌≡◌, ℕ, ◌≤◌, true, false, not, leb, eqb, List, [], ◌∷◌, length, Ok, refl, arith}
use Rattle.std.specs.Char.{is_ascii_lowercase}
use Rattle.std.specs.List.{list_all}
use Rattle.std.proofs.lemmas.Bool.{and_parts, le-leb}
use Rattle.std.proofs.lemmas.Bool.Decides.{nat_tests}
use Rattle.kh_term.specs.declared.name.Name.{Name}
use Rattle.kh_term.specs.declared.name.Name.TheVariants as name
use Rattle.kh_term.specs.Name.{is_name, is_path}
use Rattle.kh_text_defs.specs.Atoms.{is_word_byte, is_plain_word, is_reserved, is_plain}
use Rattle.kh_read.specs.Form.{is_plain_name}
use Rattle.kh_read.specs.Reading.{names_at}
use Rattle.kh_read.proofs.NamesRead.{names_read}

small_is_other : (byte other : ℕ) → is_ascii_lowercase byte ≡ true → other ≤ 96 → eqb byte other ≡ false
small_is_other byte other small low = grind (arith, nat_tests)

-- a plain atom is no `.` and no `^`, and isn't empty
plain_text : (text : List ℕ) → is_plain text ≡ true → leb (length text) 255 ≡ true → is_name (name.Atom text) ≡ true
plain_text [] plain short = absurd cc
plain_text (first ∷ rest) plain short =
    let word = and_parts (is_plain_word (first ∷ rest)) (not (is_reserved (first ∷ rest))) plain in
    let small = and_parts (is_ascii_lowercase first) (list_all is_word_byte rest) word.0 in
    let some : leb 1 (length (first ∷ rest)) ≡ true = le-leb _ _ (omega arith) in
    rw (some, short, small_is_other first 46 small.0 (omega arith), small_is_other first 94 small.0 (omega arith)) refl

pub plain_name_is_name : (n : Name) → is_plain_name n ≡ true → is_name n ≡ true
plain_name_is_name (name.Atom text) h =
    let parts = and_parts (is_plain text) (leb (length text) 255) h in plain_text text parts.0 parts.1
plain_name_is_name (name.Bin bytes) h = absurd cc

pub plain_names_are_names : (names : List Name) → list_all is_plain_name names ≡ true → list_all is_name names ≡ true
plain_names_are_names [] h = refl
plain_names_are_names (n ∷ names) h =
    let parts = and_parts (is_plain_name n) (list_all is_plain_name names) h in
    rw (plain_name_is_name n parts.0, plain_names_are_names names parts.1) refl

pub names_are_path : (bytes : List ℕ) (x : List Name × List ℕ) → names_at 32 bytes ≡ Ok x → is_path x.0 ≡ true
names_are_path bytes x e =
    let read = names_read 32 bytes x e in
    rw (le-leb _ _ read.few, plain_names_are_names x.0 read.plain) refl
