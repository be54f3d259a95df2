-- A reading and the form that it reads: each says the other.
use Rattle.std.proofs.Common.{◌≡◌, ◌≤◌, ◌<◌, ℕ, zero, suc, ◌+◌, Bool, true, false, not, ◌&&◌, ◌||◌, cond, eqb, ltb, List, [], ◌∷◌, ◌++◌, length, inl, inr, refl, sym, ap, subst, ◌∙◌, arith, append_assoc, IsTrue}
use Rattle.std.proofs.lemmas.Bool.{ltb-false, le-ltb}
use Rattle.std.proofs.lemmas.List.{append-nil}
use Rattle.kh_term.specs.declared.tree.TermTree.{TermTree}
use Rattle.kh_term.specs.Size.{size_of}
use Rattle.kh_text_defs.specs.declared.mode.Mode.{Mode}
use Rattle.kh_text_defs.specs.Blanks.{may_follow}
use Rattle.kh_text_defs.specs.Faults.{max_levels, max_size, BeginsWithin, IsReadable}
use Rattle.kh_text_defs.specs.Spelled.{Rules, within_limits, IsForm}
use Rattle.kh_read.specs.State.{Frame, Place, Dotted, State, Setting, Halt, Syntax, Large, Step, Done, Stop, Reading, Ended, Cut, Halted}
use Rattle.kh_read.specs.Steps.{step, step_place, step_dotted, at_end, continued, read_on, fresh}
use Rattle.kh_read.proofs.TextCore.{at_the_end}
use Rattle.kh_read.proofs.TextReads.{Reads, whole, part, halted, any}
use Rattle.kh_read.proofs.TextForms.{dotted, forms}
use Rattle.kh_read.proofs.TextLeadsForms.{form_read, large_form}
use Rattle.kh_read.proofs.TextTrace.{one_step}
use Rattle.kh_read.proofs.TextWider.{make}
use Rattle.kh_read.proofs.TextAnswers.{within}

pub ended_end : (t u : TermTree) (m n : ℕ) → Ended t m ≡ Ended u n → m ≡ n
ended_end t u m n e = cc

pub ended_term : (t u : TermTree) (m n : ℕ) → Ended t m ≡ Ended u n → t ≡ u
ended_term t u m n e = cc

-- what was read: a form within all limits, behind which what comes may follow
pub record Found (mode : Mode) (p : ℕ) (text : List ℕ) (t : TermTree) (end : ℕ) : Type 0 where
  pub form : List ℕ
  pub rest : List ℕ
  pub parts : text ≡ form ++ rest
  pub readable : IsReadable mode form t
  pub follows : may_follow rest ≡ true
  pub place : end ≡ p + length form

-- what is behind the dot
pub data Behind (t : TermTree) (q : ℕ) (rest : List ℕ) (r : Reading) : Type 0 where
  may : may_follow rest ≡ true → r ≡ Ended t q → Behind t q rest r
  may_not : r ≡ Halted Syntax q → Behind t q rest r

pub behind : (σ : Setting) (t : TermTree) (q : ℕ) (rest : List ℕ) → Behind t q rest (read_on σ (dotted t) q rest)
unfolding step step_place
behind σ t q [] = may refl (at_the_end σ (dotted t) q)
behind σ t q (b ∷ rest) = go (may_follow (b ∷ rest)) refl
  where
    dot_step : (f : Bool) → may_follow (b ∷ rest) ≡ f → step σ (dotted t) q b ≡ cond f (Done t) (Stop Syntax)
    dot_step f e = rw e refl

    go : (f : Bool) → may_follow (b ∷ rest) ≡ f → Behind t q (b ∷ rest) (read_on σ (dotted t) q (b ∷ rest))
    go true e = may e (one_step σ (dotted t) q b rest (Done t) (dot_step true e))
    go false e = may_not (one_step σ (dotted t) q b rest (Stop Syntax) (dot_step false e))

-- a form that was read is small enough
small_read : (mode : Mode) (form rest : List ℕ) (t u : TermTree) (p n : ℕ) → IsForm (within mode).rules max_levels form t → read_on (within mode) fresh p (form ++ rest) ≡ Ended u n → may_follow rest ≡ true → size_of t ≤ max_size
small_read mode form rest t u p n h e follows = go (ltb max_size (size_of t)) refl
  where
    go : (big : Bool) → ltb max_size (size_of t) ≡ big → size_of t ≤ max_size
    go false f = ltb-false max_size (size_of t) f
    go true f = let k = large_form (within mode) form rest t p h f follows in absurd (let clash : Ended u n ≡ Halted Large k.0 = sym e ∙ k.1 in cc)

pub found : (mode : Mode) (p : ℕ) (text : List ℕ) (t : TermTree) (end : ℕ) → read_on (within mode) fresh p text ≡ Ended t end → Found mode p text t end
found mode p text t end e = go (forms (within mode) p text)
  where
    go : Reads (within mode) any (IsForm (within mode).rules max_levels) dotted p text (read_on (within mode) fresh p text) → Found mode p text t end
    go (whole form rest u q parts stands good f place) = on (behind (within mode) u q rest)
      where
        on : Behind u q rest (read_on (within mode) (dotted u) q rest) → Found mode p text t end
        on (may follows g) =
            let same : Ended t end ≡ Ended u q = sym e ∙ (f ∙ g) in
            let read : read_on (within mode) fresh p (form ++ rest) ≡ Ended t end = ap (λ (w : List ℕ). read_on (within mode) fresh p w) (sym parts) ∙ e in
            record {
              form = form;
              rest = rest;
              parts = parts;
              readable = subst (λ (v : TermTree). IsReadable mode form v) (sym (ended_term t u end q same)) (stands, small_read mode form rest u t p end stands read follows);
              follows = follows;
              place = ended_end t u end q same ∙ place;
            }
        on (may_not g) = absurd (let clash : Ended t end ≡ Halted Syntax q = sym e ∙ (f ∙ g) in cc)
    go (part more u f stands) = absurd (let clash : Ended t end ≡ Cut = sym e ∙ f in cc)
    go (halted halt q f) = absurd (let clash : Ended t end ≡ Halted halt q = sym e ∙ f in cc)

-- what is a form within all limits, behind which what comes may follow, is read
pub only : (mode : Mode) (form rest : List ℕ) (t : TermTree) (p : ℕ) → IsReadable mode form t → may_follow rest ≡ true → read_on (within mode) fresh p (form ++ rest) ≡ Ended t (p + length form)
only mode form rest t p h follows = form_read (within mode) form rest t p h.0 (le-ltb max_size (size_of t) h.1) follows

-- what is cut begins a form and is none
pub cut_begins : (mode : Mode) (p : ℕ) (text : List ℕ) → read_on (within mode) fresh p text ≡ Cut → BeginsWithin mode text
cut_begins mode p text e = go (forms (within mode) p text)
  where
    go : Reads (within mode) any (IsForm (within mode).rules max_levels) dotted p text (read_on (within mode) fresh p text) → BeginsWithin mode text
    go (whole form rest u q parts stands good f place) = on (behind (within mode) u q rest)
      where
        on : Behind u q rest (read_on (within mode) (dotted u) q rest) → BeginsWithin mode text
        on (may follows g) = absurd (let clash : Cut ≡ Ended u q = sym e ∙ (f ∙ g) in cc)
        on (may_not g) = absurd (let clash : Cut ≡ Halted Syntax q = sym e ∙ (f ∙ g) in cc)
    go (part more u f stands) = (more, u, stands)
    go (halted halt q f) = absurd (let clash : Cut ≡ Halted halt q = sym e ∙ f in cc)

pub cut_is_none : (mode : Mode) (p : ℕ) (text : List ℕ) (t : TermTree) → read_on (within mode) fresh p text ≡ Cut → IsForm (within mode).rules max_levels text t → ⊥
cut_is_none mode p text t e h = go (ltb max_size (size_of t)) refl
  where
    reading : read_on (within mode) fresh p (text ++ []) ≡ Cut
    reading = ap (λ (w : List ℕ). read_on (within mode) fresh p w) (append-nil text) ∙ e

    go : (big : Bool) → ltb max_size (size_of t) ≡ big → ⊥
    go false f = absurd (let clash : Cut ≡ Ended t (p + length text) = sym reading ∙ form_read (within mode) text [] t p h f refl in cc)
    go true f = let k = large_form (within mode) text [] t p h f refl in absurd (let clash : Cut ≡ Halted Large k.0 = sym reading ∙ k.1 in cc)
