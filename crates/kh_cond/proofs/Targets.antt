-- The names of exact patterns.
use Rattle.std.proofs.Common.{◌≡◌, ◌<◌, ◌≤◌, ◌+◌, ℕ, suc, Bool, true, false, true≢false, IsTrue, List, [], ◌∷◌, length, get_or, drop, Option, Some, None, is_some, refl, ap, sym, ◌∙◌, if◌then◌else◌, add-one, drop-cons, arith}
use Rattle.std.proofs.lemmas.Option.{none-some, same_Some}
use Rattle.std.proofs.lemmas.Bool.{and_from}
use borrow.Author.Tests.{le-leb}
use Rattle.std.specs.List.{list_all}
use Rattle.kh_term.specs.declared.name.Name.{Name}
use Rattle.kh_term.specs.Name.{is_name, is_path}
use Rattle.kh_term.specs.Parts.{named}
use Rattle.kh_cond.specs.declared.cond.Cond.{Cond, out-Cond}
use Rattle.kh_cond.specs.declared.cond.Cond.TheOpen.{Cond-F}
use Rattle.kh_cond.specs.declared.cond.Cond.TheOpen as layer
use Rattle.kh_cond.specs.declared.component.Component.{Component}
use Rattle.kh_cond.specs.declared.component.Component.TheVariants as component
use Rattle.kh_cond.specs.Reading.{before}
use Rattle.kh_cond.proofs.ReadLayers.{next_read, none_read, none_in_front}
use Rattle.kh_cond.specs.Exact.{target_of, is_exact, component_name, exact_name, first_name, plain_name}

named_is : (n m : Name) → named n ≡ Some m → IsTrue (is_name m)
named_is n m e = go (is_name n) refl e
  where
    go : (b : Bool) → is_name n ≡ b → (if b then Some n else None) ≡ Some m → is_name m ≡ true
    go true is e = ap is_name (sym (same_Some _ _ e)) ∙ is
    go false is e = absurd (none-some m e)

plain_named : (l : Cond-F Cond) (n : Name) → plain_name l ≡ Some n → IsTrue (is_name n)
plain_named (layer.Name m) n e = named_is m n e
plain_named l n e = absurd (none-some n e)

first_named : (cs : List Cond) (n : Name) → first_name cs ≡ Some n → IsTrue (is_name n)
first_named [] n e = absurd (none-some n e)
first_named (c ∷ cs) n e = plain_named (out-Cond c) n e

exact_named : (l : Cond-F Cond) (n : Name) → exact_name l ≡ Some n → IsTrue (is_name n)
exact_named (layer.Name m) n e = named_is m n e
exact_named (layer.All cs) n e = first_named cs n e
exact_named l n e = absurd (none-some n e)

component_named : (c : Component) (n : Name) → component_name c ≡ Some n → IsTrue (is_name n)
component_named (component.One c) n e = exact_named (out-Cond c) n e
component_named c n e = absurd (none-some n e)

-- the names are names, and one of each component
Named : List Component → List Name → Type 0
Named cs ns = IsTrue (list_all is_name ns) × (length ns ≡ length cs)

one_named : (c : Component) (cs : List Component) (ns : List Name) (o : Option Name) (rest : Option (List Name)) → component_name c ≡ o → target_of cs ≡ rest →
    before o rest ≡ Some ns → ((ms : List Name) → target_of cs ≡ Some ms → Named cs ms) → Named (c ∷ cs) ns
unfolding Named
one_named c cs ns None rest e f h more = absurd (none-some ns h)
one_named c cs ns (Some n) None e f h more = absurd (none-some ns h)
one_named c cs ns (Some n) (Some ms) e f h more =
    let is : n ∷ ms ≡ ns = same_Some _ _ h in
    let m = more ms f in
    (ap (list_all is_name) (sym is) ∙ and_from _ _ (component_named c n e) m.0, ap length (sym is) ∙ ap suc m.1)

all_named : (cs : List Component) (ns : List Name) → target_of cs ≡ Some ns → Named cs ns
unfolding Named
all_named [] ns h = let is : [] ≡ ns = same_Some _ _ h in (ap (list_all is_name) (sym is), ap length (sym is))
all_named (c ∷ cs) ns h = one_named c cs ns (component_name c) (target_of cs) refl refl h (all_named cs)

-- the names of at most 32 components are a path
pub target_is_path : (cs : List Component) (ns : List Name) → target_of cs ≡ Some ns → length cs ≤ 32 → IsTrue (is_path ns)
unfolding Named
target_is_path cs ns h le =
    let n = all_named cs ns h in
    let short : length ns ≤ 32 = omega (arith, n.1) in
    and_from _ _ (le-leb _ _ short) n.0

-- a component with a name, and one without
pub exact_next : (cs : List Component) (i : ℕ) (c : Component) → i < length cs → c ≡ get_or cs i c → is_some (component_name c) ≡ true →
    is_exact (drop i cs) ≡ is_exact (drop (i + 1) cs)
exact_next cs i c h e is =
    rw (add-one i, drop-cons cs i c h, ← e) (go (component_name c) (target_of (drop (suc i) cs)) is)
  where
    go : (o : Option Name) (rest : Option (List Name)) → is_some o ≡ true → is_some (before o rest) ≡ is_some rest
    go None rest is = absurd (true≢false (sym is))
    go (Some n) None is = refl
    go (Some n) (Some ns) is = refl

pub exact_none : (cs : List Component) (i : ℕ) (c : Component) → i < length cs → c ≡ get_or cs i c → component_name c ≡ None → is_exact (drop i cs) ≡ false
exact_none cs i c h e is =
    rw (drop-cons cs i c h, ← e) (ap (λ o. is_some (before o (target_of (drop (suc i) cs)))) is)

pub ruleset targets = (exact_next, exact_none, target_is_path, next_read, none_read, none_in_front)
