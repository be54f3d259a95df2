-- Where a value has to come: each bracket, by whether something was read in it.
use Rattle.std.proofs.Common.{◌≡◌, ℕ, zero, suc, Bool, true, false, not, ◌&&◌, cond, eqb, List, [], ◌∷◌, length, refl, sym, ap, ◌∙◌, arith, ℤ}
use Rattle.std.proofs.lemmas.Bool.{ne_eqb}
use Rattle.kh_term.specs.declared.tree.TermTree.{TermTree}
use Rattle.kh_term.specs.declared.tree.TermTree.TheVariants as tree
use Rattle.kh_text_defs.specs.Spelled.{KeyValues}
use Rattle.kh_text_defs.specs.declared.mode.Mode.{Mode}
use Rattle.kh_text_defs.specs.declared.mode.Mode.TheVariants.{Script, Listing}
use Rattle.kh_read.specs.Views.{setting}
use Rattle.kh_read.specs.State.{Frame, InList, InTail, InTuple, InKey, InValue, InModule, InName, InArity, InOpening, InCaptured, InClosing, InBinary, InReference, InReferenceName, Before, After, Setting, Step}
use Rattle.kh_read.specs.Steps.{at, begin_term, step_before, step_sharp}

some : (n : ℕ) → eqb (suc n) 0 ≡ false
some n = ne_eqb (suc n) 0 (λ e. absurd (omega (arith, e)))

pub before-list : (σ : Setting) (parts : List TermTree) (fs : List Frame) (p b : ℕ)
    → step_before σ (InList parts ∷ fs) p b ≡ cond (eqb (length parts) 0 && eqb b 93) (at (After tree.Nil) fs) (begin_term σ (InList parts ∷ fs) p b)
unfolding step_before
before-list σ [] fs p b = refl
before-list σ (x ∷ xs) fs p b = ap (λ (t : Bool). cond (t && eqb b 93) (at (After tree.Nil) fs) (begin_term σ (InList (x ∷ xs) ∷ fs) p b)) (sym (some (length xs)))

pub before-tuple : (σ : Setting) (parts : List TermTree) (fs : List Frame) (p b : ℕ)
    → step_before σ (InTuple parts ∷ fs) p b ≡ cond (eqb (length parts) 0 && eqb b 125) (at (After (tree.Tuple [])) fs) (begin_term σ (InTuple parts ∷ fs) p b)
unfolding step_before
before-tuple σ [] fs p b = refl
before-tuple σ (x ∷ xs) fs p b = ap (λ (t : Bool). cond (t && eqb b 125) (at (After (tree.Tuple [])) fs) (begin_term σ (InTuple (x ∷ xs) ∷ fs) p b)) (sym (some (length xs)))

pub before-key : (σ : Setting) (pairs : KeyValues) (fs : List Frame) (p b : ℕ)
    → step_before σ (InKey pairs ∷ fs) p b ≡ cond (eqb (length pairs) 0 && eqb b 125) (at (After (tree.Map [])) fs) (begin_term σ (InKey pairs ∷ fs) p b)
unfolding step_before
before-key σ [] fs p b = refl
before-key σ (x ∷ xs) fs p b = ap (λ (t : Bool). cond (t && eqb b 125) (at (After (tree.Map [])) fs) (begin_term σ (InKey (x ∷ xs) ∷ fs) p b)) (sym (some (length xs)))

pub before-captured : (σ : Setting) (m f : List ℕ) (z : ℤ) (env : List TermTree) (fs : List Frame) (p b : ℕ)
    → step_before σ (InCaptured m f z env ∷ fs) p b
    ≡ cond (eqb (length env) 0 && eqb b 93) (at Before (InClosing m f z env ∷ fs)) (begin_term σ (InCaptured m f z env ∷ fs) p b)
unfolding step_before
before-captured σ m f z [] fs p b = refl
before-captured σ m f z (x ∷ xs) fs p b =
    ap (λ (t : Bool). cond (t && eqb b 93) (at Before (InClosing m f z (x ∷ xs) ∷ fs)) (begin_term σ (InCaptured m f z (x ∷ xs) ∷ fs) p b)) (sym (some (length xs)))

-- where it doesn't close at once, a captured value has to come
pub captured_more : (σ : Setting) (m f : List ℕ) (z : ℤ) (env : List TermTree) (fs : List Frame) (p b : ℕ) → (eqb (length env) 0 && eqb b 93) ≡ false
    → step_before σ (InCaptured m f z env ∷ fs) p b ≡ begin_term σ (InCaptured m f z env ∷ fs) p b
captured_more σ m f z env fs p b e =
    before-captured σ m f z env fs p b ∙ ap (λ (t : Bool). cond t (at Before (InClosing m f z env ∷ fs)) (begin_term σ (InCaptured m f z env ∷ fs) p b)) e

-- a setting's mode says nothing where a value comes
pub any_mode : (mode : Mode) (fs : List Frame) (p b : ℕ) → step_before (setting mode) fs p b ≡ step_before (setting Script) fs p b
unfolding step_before begin_term
any_mode Script fs p b = refl
any_mode Listing [] p b = refl
any_mode Listing (InList [] ∷ fs) p b = refl
any_mode Listing (InList (x ∷ xs) ∷ fs) p b = refl
any_mode Listing (InTail xs ∷ fs) p b = refl
any_mode Listing (InTuple [] ∷ fs) p b = refl
any_mode Listing (InTuple (x ∷ xs) ∷ fs) p b = refl
any_mode Listing (InKey [] ∷ fs) p b = refl
any_mode Listing (InKey (x ∷ xs) ∷ fs) p b = refl
any_mode Listing (InValue xs k ∷ fs) p b = refl
any_mode Listing (InModule ∷ fs) p b = refl
any_mode Listing (InName m ∷ fs) p b = refl
any_mode Listing (InArity m f ∷ fs) p b = refl
any_mode Listing (InOpening m f z ∷ fs) p b = refl
any_mode Listing (InCaptured m f z [] ∷ fs) p b = refl
any_mode Listing (InCaptured m f z (x ∷ xs) ∷ fs) p b = refl
any_mode Listing (InClosing m f z xs ∷ fs) p b = refl
any_mode Listing (InBinary c bs s ∷ fs) p b = refl
any_mode Listing (InReference ∷ fs) p b = refl
any_mode Listing (InReferenceName ∷ fs) p b = refl

pub sharp_any_mode : (mode : Mode) (fs : List Frame) (n b : ℕ) → step_sharp (setting mode) fs n b ≡ step_sharp (setting Script) fs n b
unfolding step_sharp
sharp_any_mode mode fs zero b = refl
sharp_any_mode mode fs (suc zero) b = refl
sharp_any_mode mode fs (suc (suc zero)) b = refl
sharp_any_mode mode fs (suc (suc (suc n))) b = refl

pub ruleset befores = (before-list, before-tuple, before-key, before-captured)
