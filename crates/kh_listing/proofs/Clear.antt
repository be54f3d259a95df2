-- What holds of each form where none is at fault.
use Rattle.std.proofs.Common.{◌≡◌, ◌<◌, ◌≤◌, ◌+◌, ℕ, zero, Bool, true, false, ◌&&◌, ◌||◌, not, nat_eq, List, [], ◌∷◌, ◌++◌, length, take, refl, ap, sym, ◌∙◌, subst, arith, IsSome}
use Rattle.std.proofs.lemmas.Bool.{or_parts, not-false, false≢true}
use Rattle.std.specs.List.{list_any, list_all}
use Rattle.kh_instr.specs.declared.instr.Instr.{Instr}
use Rattle.kh_instr.specs.Syntax.{labels}
use Rattle.kh_instr.specs.Written.{leads_to}
use Rattle.kh_listing.specs.declared.form.Form.{Form}
use Rattle.kh_listing.specs.declared.form.Form.TheVariants as form
use Rattle.kh_listing.specs.declared.form.Header.{Header}
use Rattle.kh_listing.specs.Faults.{seen_before, may_stand, is_misplaced, defines, is_named, is_defined_again, enters, lacks_entry, has_number, is_labelled_again, jumps, jumps_out, leads, leads_astray}
use Rattle.kh_listing.specs.Made.{functions_of, module_name, name_of}
use Rattle.kh_listing.specs.Outcome.{IsFaultless}
use Rattle.kh_listing.specs.Places.{form_at, before, is_function, label_at, stands_by}
use Rattle.kh_listing.proofs.Pieces.{within, form_here, front_here}

pub record Clear (fs : List Form) (i : ℕ) (g : Form) : Type 0 where
  pub placed : may_stand (seen_before fs i) i g ≡ true
  pub new : is_named (λ name arity. before (defines name arity) fs i) g ≡ false
  pub entered : enters (stands_by fs i) g ≡ true
  pub label : list_any (λ n. before (has_number n) fs i) (label_at g) ≡ false
  pub stays : jumps (stands_by fs i) g ≡ true
  pub led : leads (leads_to (functions_of (name_of fs) fs)) g ≡ true

clear_at : (fs : List Form) → IsFaultless fs → (i : ℕ) → i < length fs → Clear fs i (form_at fs i)
clear_at fs none i l =
    let a : (is_misplaced fs i ≡ false) × ((is_defined_again fs i || (lacks_entry fs i || (is_labelled_again fs i || (jumps_out fs i || leads_astray fs i)))) ≡ false) = or_parts _ _ (none i l) in
    let b : (is_defined_again fs i ≡ false) × ((lacks_entry fs i || (is_labelled_again fs i || (jumps_out fs i || leads_astray fs i))) ≡ false) = or_parts _ _ a.1 in
    let c : (lacks_entry fs i ≡ false) × ((is_labelled_again fs i || (jumps_out fs i || leads_astray fs i)) ≡ false) = or_parts _ _ b.1 in
    let d : (is_labelled_again fs i ≡ false) × ((jumps_out fs i || leads_astray fs i) ≡ false) = or_parts _ _ c.1 in
    let e : (jumps_out fs i ≡ false) × (leads_astray fs i ≡ false) = or_parts _ _ d.1 in
    record {
      placed = not-false (may_stand (seen_before fs i) i (form_at fs i)) a.0;
      new = b.0;
      entered = not-false (enters (stands_by fs i) (form_at fs i)) c.0;
      label = d.0;
      stays = not-false (jumps (stands_by fs i) (form_at fs i)) e.0;
      led = not-false (leads (leads_to (functions_of (name_of fs) fs)) (form_at fs i)) e.1;
    }

pub clear : (fs qs gs : List Form) (g : Form) → IsFaultless fs → fs ≡ qs ++ g ∷ gs → Clear fs (length qs) g
clear fs qs gs g none e =
    subst (λ (f : Form). Clear fs (length qs) f) (form_here fs qs gs g e) (clear_at fs none (length qs) (within fs qs gs g e))

-- no function in front has the name and arity of this one
pub new_here : (fs qs gs : List Form) (h : Header) → IsFaultless fs → fs ≡ qs ++ form.Function h ∷ gs → list_any (defines h.name h.arity) qs ≡ false
new_here fs qs gs h none e =
    subst (λ (xs : List Form). list_any (defines h.name h.arity) xs ≡ false) (front_here fs qs gs (form.Function h) e) (clear fs qs gs (form.Function h) none e).new

-- no label in front has the number of this one
pub label_here : (fs qs gs : List Form) (g : Form) → IsFaultless fs → fs ≡ qs ++ g ∷ gs → list_any (λ n. list_any (has_number n) qs) (label_at g) ≡ false
label_here fs qs gs g none e =
    subst (λ (xs : List Form). list_any (λ n. list_any (has_number n) xs) (label_at g) ≡ false) (front_here fs qs gs g e) (clear fs qs gs g none e).label

-- a function form is well formed
pub well_formed : (fs qs gs : List Form) → IsFaultless fs → fs ≡ qs ++ form.NoFunction ∷ gs → ⊥
well_formed fs qs gs none e = false≢true (clear fs qs gs form.NoFunction none e).placed

-- the first form is the module's
pub begun : (fs : List Form) → IsFaultless fs → 0 < length fs → IsSome (module_name (form_at fs 0))
begun fs none l = go (form_at fs 0) (clear_at fs none 0 l).placed
  where
    go : (g : Form) → may_stand (seen_before fs 0) 0 g ≡ true → IsSome (module_name g)
    go (form.Module name) h = refl
    go (form.Exports pairs) h = absurd (false≢true h)
    go form.Attributes h = absurd (false≢true h)
    go form.Labels h = absurd (false≢true h)
    go (form.Function k) h = absurd (false≢true h)
    go form.NoFunction h = absurd (false≢true h)
    go form.Skipped h = absurd (false≢true h)
    go (form.Instr i) h = absurd (false≢true h)
    go form.NoForm h = absurd (false≢true h)
