-- How far reading comes.
use Rattle.std.proofs.Common.{◌≡◌, ℕ, suc, ◌+◌, Bool, true, false, List, [], ◌∷◌, ◌++◌, length, refl, sym, ap, subst, ◌∙◌, arith}
use Rattle.kh_term.specs.declared.tree.TermTree.{TermTree}
use Rattle.kh_read.specs.State.{State, Setting, Halt, Step, Go, Done, Stop, Reading, Ended, Cut, Halted}
use Rattle.kh_read.specs.Steps.{step, at_end, continued, read_on}

-- with every byte reading goes on, up to a state
abbrev pub Path : Setting → State → State → ℕ → List ℕ → Type 0
Path σ reached s p [] = s ≡ reached
Path σ reached s p (b ∷ text) = (next : State) × (step σ s p b ≡ Go next) × Path σ reached next (suc p) text

-- all bytes are read, the form has ended before a byte, or a byte is a fault
pub data Trace (σ : Setting) (s : State) (p : ℕ) (text : List ℕ) : Type 0 where
  runs_out : (reached : State) → Path σ reached s p text → Trace σ s p text
  ends_before : (front : List ℕ) (b : ℕ) (behind : List ℕ) (reached : State) (t : TermTree) → text ≡ front ++ b ∷ behind → Path σ reached s p front
      → step σ reached (p + length front) b ≡ Done t → Trace σ s p text
  halts_at : (front : List ℕ) (b : ℕ) (behind : List ℕ) (reached : State) (halt : Halt) → text ≡ front ++ b ∷ behind → Path σ reached s p front
      → step σ reached (p + length front) b ≡ Stop halt → Trace σ s p text

pub one_step : (σ : Setting) (s : State) (p b : ℕ) (bytes : List ℕ) (st : Step) → step σ s p b ≡ st → read_on σ s p (b ∷ bytes) ≡ continued st (λ next. read_on σ next (suc p) bytes) p
unfolding read_on
one_step σ s p b bytes st e = ap (λ (x : Step). continued x (λ next. read_on σ next (suc p) bytes) p) e

pub goes : (σ : Setting) (reached s : State) (p : ℕ) (text more : List ℕ) → Path σ reached s p text → read_on σ s p (text ++ more) ≡ read_on σ reached (p + length text) more
goes σ reached s p [] more h = ap (λ (x : State). read_on σ x p more) h ∙ ap (λ (n : ℕ). read_on σ reached n more) (same p)
  where
    same : (n : ℕ) → n ≡ n + length {A = ℕ} []
    same n = omega arith
goes σ reached s p (b ∷ text) more h =
    let place : suc p + length text ≡ p + length (b ∷ text) = omega arith in
    one_step σ s p b (text ++ more) (Go h.0) h.1 ∙ (goes σ reached h.0 (suc p) text more h.2 ∙ ap (λ (n : ℕ). read_on σ reached n more) place)

pub trace : (σ : Setting) (s : State) (p : ℕ) (text : List ℕ) → Trace σ s p text
trace σ s p [] = runs_out s refl
trace σ s p (b ∷ text) = go (step σ s p b) refl (λ next. trace σ next (suc p) text)
  where
    place : (front : List ℕ) → suc p + length front ≡ p + length (b ∷ front)
    place front = omega arith

    same : (n : ℕ) → n + length {A = ℕ} [] ≡ n
    same n = omega arith

    onwards : (next : State) → step σ s p b ≡ Go next → Trace σ next (suc p) text → Trace σ s p (b ∷ text)
    onwards next e (runs_out reached h) = runs_out reached (next, e, h)
    onwards next e (ends_before front c behind reached t parts h done) =
        ends_before (b ∷ front) c behind reached t (ap (λ (w : List ℕ). b ∷ w) parts) (next, e, h) (ap (λ (n : ℕ). step σ reached n c) (sym (place front)) ∙ done)
    onwards next e (halts_at front c behind reached halt parts h stops) =
        halts_at (b ∷ front) c behind reached halt (ap (λ (w : List ℕ). b ∷ w) parts) (next, e, h) (ap (λ (n : ℕ). step σ reached n c) (sym (place front)) ∙ stops)

    go : (st : Step) → step σ s p b ≡ st → ((next : State) → Trace σ next (suc p) text) → Trace σ s p (b ∷ text)
    go (Go next) e more = onwards next e (more next)
    go (Done t) e more = ends_before [] b text s t refl refl (ap (λ (n : ℕ). step σ s n b) (same p) ∙ e)
    go (Stop halt) e more = halts_at [] b text s halt refl refl (ap (λ (n : ℕ). step σ s n b) (same p) ∙ e)
