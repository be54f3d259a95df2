-- What names that were read are.
use Rattle.std.proofs.Common.{◌≡◌, ℕ, zero, suc, ◌≤◌, Bool, true, false, cond, eqb, List, [], ◌∷◌, ◌++◌, length, map, Ok, Err, refl, sym, ap, subst, ◌∙◌, append_assoc, arith}
use Rattle.std.specs.List.{list_all}
use Rattle.std.proofs.lemmas.Bool.{le-leb, eqb-true}
use Rattle.kh_term.specs.declared.name.Name.{Name}
use Rattle.kh_term.specs.declared.name.Name.TheVariants as name
use Rattle.kh_term.specs.Name.{name_text}
use Rattle.kh_text_defs.specs.Shown.{with_commas}
use Rattle.kh_read.specs.Form.{is_plain_name}
use Rattle.kh_read.specs.Reading.{◌>>=◌, Fault, word_at, name_at, comma_at, names_at}
use Rattle.kh_read.proofs.Steps.{bind_ok, ok_is}
use Rattle.kh_read.proofs.Words.{word_read}

pub name_read : (bytes : List ℕ) (x : Name × List ℕ) → name_at bytes ≡ Ok x → (is_plain_name x.0 ≡ true) × (bytes ≡ name_text x.0 ++ x.1)
unfolding name_at
name_read bytes x e =
    let a = bind_ok (word_at bytes) (λ word. Ok (name.Atom word.0, word.1)) x e in
    let word = word_read bytes a.0 a.1 in
    subst (λ (y : Name × List ℕ). (is_plain_name y.0 ≡ true) × (bytes ≡ name_text y.0 ++ y.1)) (ok_is (name.Atom a.0.0, a.0.1) x a.2)
    (rw (word.0.plain, le-leb _ _ word.0.short) refl, word.1)

-- the byte of a comma or of the bracket
abbrev pub separator : Bool → ℕ
separator more = cond more 44 93

comma_is : (byte : ℕ) (bytes : List ℕ) (x : Bool × List ℕ) (comma bracket : Bool) → eqb byte 44 ≡ comma → eqb byte 93 ≡ bracket
    → cond comma (Ok (true, bytes)) (cond bracket (Ok (false, bytes)) (Err Fault)) ≡ Ok x → byte ∷ bytes ≡ separator x.0 ∷ x.1
comma_is byte bytes x true bracket is_comma is_bracket e =
    subst (λ (y : Bool × List ℕ). byte ∷ bytes ≡ separator y.0 ∷ y.1) (ok_is (true, bytes) x e) (ap (λ (b : ℕ). b ∷ bytes) (eqb-true byte 44 is_comma))
comma_is byte bytes x false true is_comma is_bracket e =
    subst (λ (y : Bool × List ℕ). byte ∷ bytes ≡ separator y.0 ∷ y.1) (ok_is (false, bytes) x e) (ap (λ (b : ℕ). b ∷ bytes) (eqb-true byte 93 is_bracket))
comma_is byte bytes x false false is_comma is_bracket e = absurd cc

pub comma_read : (bytes : List ℕ) (x : Bool × List ℕ) → comma_at bytes ≡ Ok x → bytes ≡ separator x.0 ∷ x.1
comma_read [] x e = absurd cc
comma_read (byte ∷ bytes) x e = comma_is byte bytes x (eqb byte 44) (eqb byte 93) refl refl e

-- names in the text of a path
pub record AreRead (room : ℕ) (bytes : List ℕ) (names : List Name) (rest : List ℕ) : Type 0 where
  pub some : 1 ≤ length names
  pub few : length names ≤ room
  pub plain : list_all is_plain_name names ≡ true
  pub text : bytes ≡ with_commas (map name_text names) ++ 93 ∷ rest

-- a name in front of others
joined : (first : Name) (names : List Name) → 1 ≤ length names
    → with_commas (map name_text (first ∷ names)) ≡ name_text first ++ (44 ∷ with_commas (map name_text names))
joined first [] some = absurd (omega arith)
joined first (second ∷ names) some = refl

more_text : (bytes after rest : List ℕ) (first : Name) (names : List Name) (end : List ℕ) → 1 ≤ length names
    → bytes ≡ name_text first ++ after → after ≡ 44 ∷ rest → rest ≡ with_commas (map name_text names) ++ 93 ∷ end
    → bytes ≡ with_commas (map name_text (first ∷ names)) ++ 93 ∷ end
more_text bytes after rest first names end some named comma others =
    named ∙ ap (λ (r : List ℕ). name_text first ++ r) (comma ∙ ap (λ (r : List ℕ). 44 ∷ r) others)
    ∙ sym (ap (λ (t : List ℕ). t ++ 93 ∷ end) (joined first names some)
    ∙ append_assoc (name_text first) (44 ∷ with_commas (map name_text names)) (93 ∷ end))

one_read : (room : ℕ) (bytes : List ℕ) (first : Name) (after : List ℕ) (more : Bool) (rest : List ℕ) (x : List Name × List ℕ)
    → is_plain_name first ≡ true → bytes ≡ name_text first ++ after → after ≡ separator more ∷ rest
    → ((y : List Name × List ℕ) → names_at room rest ≡ Ok y → AreRead room rest y.0 y.1)
    → cond more (names_at room rest >>= λ others. Ok (first ∷ others.0, others.1)) (Ok (first ∷ [], rest)) ≡ Ok x
    → AreRead (suc room) bytes x.0 x.1
one_read room bytes first after true rest x plain named comma others e =
    let a = bind_ok (names_at room rest) (λ others. Ok (first ∷ others.0, others.1)) x e in
    let more = others a.0 a.1 in
    subst (λ (y : List Name × List ℕ). AreRead (suc room) bytes y.0 y.1) (ok_is (first ∷ a.0.0, a.0.1) x a.2)
    (record { some = omega arith; few = (let few = more.few in omega arith); plain = rw (plain, more.plain) refl; text = more_text bytes after rest first a.0.0 a.0.1 more.some named comma more.text })
one_read room bytes first after false rest x plain named comma others e =
    subst (λ (y : List Name × List ℕ). AreRead (suc room) bytes y.0 y.1) (ok_is (first ∷ [], rest) x e)
    (record { some = omega arith; few = omega arith; plain = rw plain refl; text = named ∙ ap (λ (r : List ℕ). name_text first ++ r) comma })

pub names_read : (room : ℕ) (bytes : List ℕ) (x : List Name × List ℕ) → names_at room bytes ≡ Ok x → AreRead room bytes x.0 x.1
unfolding names_at
names_read zero bytes x e = absurd cc
names_read (suc room) bytes x e =
    let a = bind_ok (name_at bytes) _ x e in
    let b = bind_ok (comma_at a.0.1) _ x a.2 in
    let first = name_read bytes a.0 a.1 in
    one_read room bytes a.0.0 a.0.1 b.0.0 b.0.1 x first.0 first.1 (comma_read a.0.1 b.0 b.1) (names_read room b.0.1) b.2
