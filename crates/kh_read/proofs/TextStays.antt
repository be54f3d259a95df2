-- Later bytes change nothing that was read.
use Rattle.std.proofs.Common.{◌≡◌, ◌≤◌, ◌<◌, ℕ, zero, suc, ◌+◌, Bool, true, false, List, [], ◌∷◌, ◌++◌, length, inl, inr, refl, sym, ap, subst, ◌∙◌, arith, append_assoc}
use Rattle.std.specs.Prelude.{◌⊎◌}
use Rattle.std.proofs.lemmas.List.{append-nil, length-append}
use Rattle.kh_term.specs.declared.tree.TermTree.{TermTree}
use Rattle.kh_text_defs.specs.declared.mode.Mode.{Mode}
use Rattle.kh_text_defs.specs.Blanks.{may_follow}
use Rattle.kh_read.specs.State.{State, Halt, Step, Done, Stop, Reading, Ended, Cut, Halted}
use Rattle.kh_read.specs.Steps.{step, read_on, fresh}
use Rattle.kh_read.specs.Exact.{IsSettled, reading}
use Rattle.kh_read.proofs.TextEnds.{end_of}
use Rattle.kh_read.proofs.TextTrace.{Path, Trace, runs_out, ends_before, halts_at, one_step, goes, trace}
use Rattle.kh_read.proofs.TextAnswers.{within, no_halt}
use Rattle.kh_read.proofs.TextExact.{Found, found, only}

follows_on : (bytes more form rest : List ℕ) (end : ℕ) → bytes ≡ form ++ rest → end ≡ length form → may_follow rest ≡ true → (end < length bytes) ⊎ (may_follow more ≡ true) → may_follow (rest ++ more) ≡ true
follows_on bytes more form (b ∷ rest) end parts place follows settled = follows
follows_on bytes more form [] end parts place follows (inr may) = may
follows_on bytes more form [] end parts place follows (inl less) =
    let n : length bytes ≡ length form = ap length (parts ∙ append-nil form) in
    absurd (omega (arith, n, place, less))

ended_stays : (mode : Mode) (bytes more : List ℕ) (t : TermTree) (end : ℕ) → reading mode bytes ≡ Ended t end → (end < length bytes) ⊎ (may_follow more ≡ true) → reading mode (bytes ++ more) ≡ Ended t end
ended_stays mode bytes more t end e settled =
    let f = found mode 0 bytes t end e in
    let place : end ≡ length f.form = omega (arith, f.place) in
    let there : 0 + length f.form ≡ end = omega (arith, f.place) in
    ap (λ (w : List ℕ). reading mode (w ++ more)) f.parts ∙ (ap (λ (w : List ℕ). reading mode w) (append_assoc f.form f.rest more)
    ∙ (only mode f.form (f.rest ++ more) t 0 f.readable (follows_on bytes more f.form f.rest end f.parts place f.follows settled) ∙ ap (λ (n : ℕ). Ended t n) there))

halted_stays : (mode : Mode) (bytes more : List ℕ) (k : Halt) (n : ℕ) → reading mode bytes ≡ Halted k n → reading mode (bytes ++ more) ≡ Halted k n
halted_stays mode bytes more k n e = go (trace (within mode) fresh 0 bytes)
  where
    go : Trace (within mode) fresh 0 bytes → reading mode (bytes ++ more) ≡ Halted k n
    go (halts_at front b behind reached halt parts path stops) =
        let now : reading mode (front ++ b ∷ behind) ≡ Halted halt (0 + length front) =
        goes (within mode) reached fresh 0 front (b ∷ behind) path ∙ one_step (within mode) reached (0 + length front) b behind (Stop halt) stops in
        let later : reading mode (front ++ b ∷ (behind ++ more)) ≡ Halted halt (0 + length front) =
        goes (within mode) reached fresh 0 front (b ∷ (behind ++ more)) path ∙ one_step (within mode) reached (0 + length front) b (behind ++ more) (Stop halt) stops in
        ap (λ (w : List ℕ). reading mode (w ++ more)) parts ∙ (ap (λ (w : List ℕ). reading mode w) (append_assoc front (b ∷ behind) more)
        ∙ (later ∙ (sym now ∙ (ap (λ (w : List ℕ). reading mode w) (sym parts) ∙ e))))
    go (runs_out reached path) = absurd (no_halt (within mode) reached 0 bytes path k n (end_of reached.place reached.frames (0 + length bytes)) e)
    go (ends_before front b behind reached t parts path done) =
        let ended : reading mode (front ++ b ∷ behind) ≡ Ended t (0 + length front) =
        goes (within mode) reached fresh 0 front (b ∷ behind) path ∙ one_step (within mode) reached (0 + length front) b behind (Done t) done in
        absurd (let clash : Ended t (0 + length front) ≡ Halted k n = sym ended ∙ (ap (λ (w : List ℕ). reading mode w) (sym parts) ∙ e) in cc)

pub stays : (mode : Mode) (bytes more : List ℕ) → IsSettled bytes more (reading mode bytes) → reading mode (bytes ++ more) ≡ reading mode bytes
stays mode bytes more settled = go (reading mode bytes) refl settled
  where
    go : (r : Reading) → reading mode bytes ≡ r → IsSettled bytes more r → reading mode (bytes ++ more) ≡ reading mode bytes
    go (Ended t end) e s = ended_stays mode bytes more t end e s ∙ sym e
    go Cut e s = absurd s
    go (Halted k n) e s = halted_stays mode bytes more k n e ∙ sym e
