-- Making a module from the last form on.
use Rattle.std.proofs.Common.{◌≡◌, ℕ, List, [], ◌∷◌, ◌++◌, reverse, Option, Some, unwrap_or, refl, ap, sym, ◌∙◌, subst, append_assoc, append-nil}
use Rattle.std.proofs.lemmas.List.{reverse-append}
use Rattle.kh_listing.specs.declared.draft.Draft.{Draft}
use Rattle.kh_listing.specs.declared.form.Form.{Form}
use Rattle.kh_instr.specs.declared.instr.Instr.{Instr}
use Rattle.kh_instr.specs.declared.module.Export.{Export}
use Rattle.kh_instr.specs.declared.module.Function.{Function}
use Rattle.kh_instr.specs.declared.module.Module.{Module}
use Rattle.kh_listing.specs.declared.form.Form.TheVariants as form
use Rattle.kh_listing.specs.declared.form.Header.{Header}
use Rattle.kh_listing.specs.Drafts.{IsDraft, Drafted}
use Rattle.kh_listing.specs.Made.{code_of, function_with, functions_of, exports_of, module_name, name_of, module_of}
use Rattle.kh_listing.specs.Places.{form_at}

pub drafted_none : (m : List ℕ) (d : Draft) (fs : List Form) → IsDraft m d [] → Drafted m d fs fs
drafted_none m d fs h = record { behind = []; parts = sym (append-nil fs); drafted = h }

pub drafted_more : (m : List ℕ) (old new : Draft) (front rest all : List Form) (f : Form) → front ≡ rest ++ f ∷ [] → ((fs : List Form) → IsDraft m old fs → IsDraft m new (f ∷ fs)) → Drafted m old front all → Drafted m new rest all
drafted_more m old new front rest all f e step h = record {
  behind = f ∷ h.behind;
  parts = h.parts ∙ (ap (λ (xs : List Form). xs ++ h.behind) e ∙ append_assoc rest (f ∷ []) h.behind);
  drafted = step h.behind h.drafted;
}

pub drafted_all : (m : List ℕ) (d : Draft) (front all : List Form) → front ≡ [] → Drafted m d front all → IsDraft m d all
drafted_all m d front all e h =
    let whole : h.behind ≡ all = sym (h.parts ∙ ap (λ (xs : List Form). xs ++ h.behind) e) in
    subst (λ (fs : List Form). IsDraft m d fs) whole h.drafted

-- one more at the end of what is turned
pub turned_more : {A : Type 0} (xs : List A) (x : A) → reverse (xs ++ x ∷ []) ≡ x ∷ reverse xs
turned_more xs x = reverse-append xs (x ∷ [])

-- ---- one form more in front

module _ (m : List ℕ) (d new : Draft) (fs : List Form) (k : IsDraft m d fs) where
  pub without_function : (f : Form) → f ≡ form.NoFunction → new.functions.items ≡ d.functions.items → new.exports ≡ d.exports → new.code.items ≡ [] → IsDraft m new (f ∷ fs)
  without_function f e a b c = subst (λ (g : Form). IsDraft m new (g ∷ fs)) (sym e) (record {
    functions = ap (λ (xs : List Function). reverse xs) a ∙ k.functions;
    exports = b ∙ k.exports;
    code = ap (λ (xs : List Instr). reverse xs) c;
  })

  pub with_exports : (f : Form) (pairs : List Export) → f ≡ form.Exports pairs → new.functions.items ≡ d.functions.items → new.exports ≡ pairs → new.code.items ≡ d.code.items → IsDraft m new (f ∷ fs)
  with_exports f pairs e a b c = subst (λ (g : Form). IsDraft m new (g ∷ fs)) (sym e) (record {
    functions = ap (λ (xs : List Function). reverse xs) a ∙ k.functions;
    exports = b;
    code = ap (λ (xs : List Instr). reverse xs) c ∙ k.code;
  })

-- ---- the module

abbrev module_with : List ℕ → List Export → List Function → Module
module_with name exports functions = record { name = name; exports = exports; functions = functions }

pub module_made : (fs : List Form) (name : List ℕ) (exports : List Export) (functions : List Function) → Some name ≡ module_name (form_at fs 0) → exports ≡ exports_of fs → functions ≡ functions_of name fs → module_with name exports functions ≡ module_of fs
module_made fs name exports functions e a b =
    let n : name ≡ name_of fs = ap (λ (o : Option (List ℕ)). unwrap_or o []) e in
    let all : functions ≡ functions_of (name_of fs) fs = b ∙ ap (λ (m : List ℕ). functions_of m fs) n in
    λ i. module_with (n i) (a i) (all i)
