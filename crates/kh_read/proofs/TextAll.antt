-- What a reading says of the bytes, case by case.
use Rattle.std.proofs.Common.{◌≡◌, ◌≤◌, ◌<◌, ℕ, zero, suc, ◌+◌, Bool, true, false, List, [], ◌∷◌, ◌++◌, length, refl, sym, ap, subst, ◌∙◌, arith}
use Rattle.kh_term.specs.declared.tree.TermTree.{TermTree}
use Rattle.kh_text_defs.specs.declared.mode.Mode.{Mode}
use Rattle.kh_read.specs.State.{State, Halt, Syntax, Number, Deep, Large, Step, Done, Stop, Reading, Ended, Cut, Halted}
use Rattle.kh_read.specs.Steps.{step, read_on, fresh}
use Rattle.kh_read.specs.Exact.{Found, IsReading, reading}
use Rattle.kh_read.proofs.TextEnds.{end_of}
use Rattle.kh_read.proofs.TextTrace.{Path, Trace, runs_out, ends_before, halts_at, one_step, goes, trace}
use Rattle.kh_read.proofs.TextAnswers.{within, no_halt, syntax_fault}
use Rattle.kh_read.proofs.TextExact.{found, cut_begins, cut_is_none}
use Rattle.kh_read.proofs.TextFaults.{depth_fault}
use Rattle.kh_read.proofs.TextNumbers.{number_fault}
use Rattle.kh_read.proofs.TextSizes.{size_fault}

same_halted : (h k : Halt) (m n : ℕ) → Halted h m ≡ Halted k n → (h ≡ k) × (m ≡ n)
same_halted h k m n e = (cc, cc)

halted_there : (mode : Mode) (front : List ℕ) (b : ℕ) (behind : List ℕ) (reached : State) (halt : Halt) → Path (within mode) reached fresh 0 front → step (within mode) reached (0 + length front) b ≡ Stop halt
    → IsReading mode (front ++ b ∷ behind) (Halted halt (length front))
unfolding IsReading
halted_there mode front b behind reached Syntax path stops = syntax_fault mode reached 0 front path b behind stops
halted_there mode front b behind reached (Number first) path stops = number_fault mode reached front path b behind first stops
halted_there mode front b behind reached Deep path stops = depth_fault mode reached 0 front path b behind stops
halted_there mode front b behind reached Large path stops = size_fault mode reached 0 front path b behind stops

halted_is : (mode : Mode) (bytes front : List ℕ) (b : ℕ) (behind : List ℕ) (reached : State) (halt k : Halt) (n : ℕ) → bytes ≡ front ++ b ∷ behind → Path (within mode) reached fresh 0 front
    → step (within mode) reached (0 + length front) b ≡ Stop halt → reading mode bytes ≡ Halted k n → IsReading mode bytes (Halted k n)
halted_is mode bytes front b behind reached halt k n parts path stops e =
    let halts : read_on (within mode) fresh 0 (front ++ b ∷ behind) ≡ Halted halt (0 + length front) =
    goes (within mode) reached fresh 0 front (b ∷ behind) path ∙ one_step (within mode) reached (0 + length front) b behind (Stop halt) stops in
    let both = same_halted halt k (0 + length front) n (sym halts ∙ (ap (λ (w : List ℕ). read_on (within mode) fresh 0 w) (sym parts) ∙ e)) in
    let place : length front ≡ n = omega (arith, both.1) in
    subst (λ (w : List ℕ). IsReading mode w (Halted k n)) (sym parts)
    (subst (λ (m : ℕ). IsReading mode (front ++ b ∷ behind) (Halted k m)) place
    (subst (λ (h : Halt). IsReading mode (front ++ b ∷ behind) (Halted h (length front))) both.0 (halted_there mode front b behind reached halt path stops)))

found_is : (mode : Mode) (bytes : List ℕ) (t : TermTree) (end : ℕ) → reading mode bytes ≡ Ended t end → Found mode bytes t end
found_is mode bytes t end e =
    let f = found mode 0 bytes t end e in
    record { form = f.form; rest = f.rest; parts = f.parts; readable = f.readable; follows = f.follows; place = omega (arith, f.place) }

pub exact : (mode : Mode) (bytes : List ℕ) → IsReading mode bytes (reading mode bytes)
unfolding IsReading
exact mode bytes = go (trace (within mode) fresh 0 bytes) (reading mode bytes) refl
  where
    go : Trace (within mode) fresh 0 bytes → (r : Reading) → reading mode bytes ≡ r → IsReading mode bytes r
    go tr (Ended t end) e = found_is mode bytes t end e
    go tr Cut e = (cut_begins mode 0 bytes e, λ t h. cut_is_none mode 0 bytes t e h)
    go (halts_at front b behind reached halt parts path stops) (Halted k n) e = halted_is mode bytes front b behind reached halt k n parts path stops e
    go (runs_out reached path) (Halted k n) e = absurd (no_halt (within mode) reached 0 bytes path k n (end_of reached.place reached.frames (0 + length bytes)) e)
    go (ends_before front b behind reached t parts path done) (Halted k n) e =
        let ended : read_on (within mode) fresh 0 (front ++ b ∷ behind) ≡ Ended t (0 + length front) =
        goes (within mode) reached fresh 0 front (b ∷ behind) path ∙ one_step (within mode) reached (0 + length front) b behind (Done t) done in
        absurd (let clash : Ended t (0 + length front) ≡ Halted k n = sym ended ∙ (ap (λ (w : List ℕ). read_on (within mode) fresh 0 w) (sym parts) ∙ e) in cc)
