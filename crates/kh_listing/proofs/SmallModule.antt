-- The literals of the module of small forms are small.
use Rattle.std.proofs.Common.{◌≡◌, ℕ, Bool, true, false, ◌&&◌, ◌||◌, if◌then◌else◌, codes, List, [], ◌∷◌, ◌++◌, map, Option, Some, None, option_map, unwrap_or, refl, ap, sym, ◌∙◌, subst}
use Rattle.std.proofs.lemmas.Bool.{and_parts}
use Rattle.std.specs.List.{list_all, flat_map}
use Rattle.std.specs.Str.{bytes_eq}
use Rattle.kh_term.specs.declared.term.Term.{Term}
use Rattle.kh_term.specs.declared.tree.TermTree.{TermTree}
use Rattle.kh_term.specs.Lemmas.Fits.{fits_front, fits_behind}
use Rattle.kh_term.specs.Limits.{is_small}
use Rattle.kh_term.specs.WellFormed.{IsTerm, AreTerms}
use Rattle.kh_instr.specs.Operands.{any_of, atom_of, arity_of, count_of, parts_of, list_by, one, three}
use Rattle.kh_instr.specs.Rows.{first_word, instr_read}
use Rattle.kh_instr.specs.Syntax.{literals}
use Rattle.kh_instr.specs.Written.{all_literals, HasSmallLiterals}
use Rattle.kh_listing.specs.declared.form.Form.{Form}
use Rattle.kh_listing.specs.declared.form.Form.TheVariants as form
use Rattle.kh_listing.specs.Forms.{module_form, export_of, exports_form, lone_form, function_form, header_of, headed, tuple_form, is_skipped, worded, form_of, forms_of}
use Rattle.kh_listing.specs.Made.{code_of, functions_of, name_of, module_of}
use Rattle.kh_listing.proofs.Small.{Fine, fine, Small, chosen, bound, appended}
use Rattle.kh_listing.proofs.SmallRows.{read_small}

-- the literals of a form
abbrev form_literals : Form → List Term
form_literals (form.Instr i) = literals i
form_literals f = []

-- what is made of what was found, or another form
made : {A : Type 0} (make : A → Form) (other : Form) → ((x : A) → Small (form_literals (make x))) → Small (form_literals other) → (o : Option A) → Small (form_literals (unwrap_or (option_map make o) other))
made make other each none None = none
made make other each none (Some x) = each x

taken : (f g : Form) → Small (form_literals f) → Some f ≡ Some g → Small (form_literals g)
taken f g h e = let same : f ≡ g = cc in subst (λ x. Small (form_literals x)) same h

header_small : (word : List ℕ) (parts : List TermTree) (f : Form) → header_of word parts ≡ Some f → Small (form_literals f)
header_small word parts f e =
    chosen form_literals (bytes_eq word (codes "module")) (Some (module_form parts)) _ f e
    (taken (module_form parts) f (made (λ name. form.Module name) form.NoForm (λ name. refl) refl (one atom_of parts)))
    (λ k. chosen form_literals (bytes_eq word (codes "exports")) (Some (exports_form parts)) _ f k
    (taken (exports_form parts) f (made (λ pairs. form.Exports pairs) form.NoForm (λ pairs. refl) refl (one (list_by export_of) parts)))
    (λ l. chosen form_literals (bytes_eq word (codes "attributes")) (Some (lone_form form.Attributes parts)) _ f l
    (taken (lone_form form.Attributes parts) f (made (λ u. form.Attributes) form.NoForm (λ u. refl) refl (one any_of parts)))
    (λ m. chosen form_literals (bytes_eq word (codes "labels")) (Some (lone_form form.Labels parts)) _ f m
    (taken (lone_form form.Labels parts) f (made (λ u. form.Labels) form.NoForm (λ u. refl) refl (one any_of parts)))
    (λ n. chosen form_literals (bytes_eq word (codes "function")) (Some (function_form parts)) None f n
    (taken (function_form parts) f (made (λ p. form.Function (record { name = p.0; arity = p.1; entry = p.2 })) form.NoFunction (λ p. refl) refl (three atom_of arity_of count_of parts)))
    (λ o. absurd (cc))))))

headed_small : (word : List ℕ) (parts : List TermTree) (f : Form) → headed word parts ≡ Some f → Small (form_literals f)
headed_small word [] f e = absurd (cc)
headed_small word (first ∷ parts) f e = header_small word parts f e

tuple_small : (word : List ℕ) (t : TermTree) (f : Form) → tuple_form word t ≡ Some f → Small (form_literals f)
tuple_small word t f e = bound form_literals (headed word) (parts_of t) f e (λ parts k l. headed_small word parts f l)

form_small : (t : TermTree) → Fine t → Small (form_literals (form_of t))
form_small t h = go (first_word t)
  where
    other : (o : Option Form) (word : List ℕ) → tuple_form word t ≡ o → Small (form_literals (unwrap_or o (form.Instr (instr_read t))))
    other None word e = read_small t h
    other (Some f) word e = tuple_small word t f e

    skipped : (b : Bool) (word : List ℕ) → Small (form_literals (if b then form.Skipped else unwrap_or (tuple_form word t) (form.Instr (instr_read t))))
    skipped true word = refl
    skipped false word = other (tuple_form word t) word refl

    go : (o : Option (List ℕ)) → Small (form_literals (worded t o))
    go None = refl
    go (Some word) = skipped (is_skipped word) word

abbrev AllSmall : List Form → Type 0
AllSmall [] = Unit {0}
AllSmall (f ∷ fs) = Small (form_literals f) × AllSmall fs

all_small : (ts : List TermTree) → AreTerms ts → list_all is_small ts ≡ true → AllSmall (forms_of ts)
all_small [] h s = tt
all_small (t ∷ ts) h s =
    let these : (is_small t ≡ true) × (list_all is_small ts ≡ true) = and_parts _ _ s in
    (form_small t (fine t (fits_front t ts h) these.0), all_small ts (fits_behind t ts h) these.1)

code_small : (m : List ℕ) (fs : List Form) → AllSmall fs → Small (flat_map literals (code_of fs)) × Small (all_literals (functions_of m fs))
code_small m [] h = (refl, refl)
code_small m (form.Function k ∷ fs) h =
    let rest = code_small m fs h.1 in (refl, appended (flat_map literals (code_of fs)) (all_literals (functions_of m fs)) rest.0 rest.1)
code_small m (form.NoFunction ∷ fs) h = (refl, (code_small m fs h.1).1)
code_small m (form.Instr i ∷ fs) h =
    let rest = code_small m fs h.1 in (appended (literals i) (flat_map literals (code_of fs)) h.0 rest.0, rest.1)
code_small m (f ∷ fs) h = code_small m fs h.1

pub small_literals : (ts : List TermTree) → AreTerms ts → list_all is_small ts ≡ true → HasSmallLiterals (module_of (forms_of ts))
small_literals ts h s = (code_small (name_of (forms_of ts)) (forms_of ts) (all_small ts h s)).1
