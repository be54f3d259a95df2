-- One command: it is executed, and then its reply is given.
use Rattle.std.proofs.Common.{◌≡◌, ◌⊎◌, ℕ, ◌≤◌, List, [], ◌++◌, Option, refl, sym, ap, subst, inl, inr, ◌∙◌, arith}
use Rattle.std.proofs.lemmas.List.{append-nil}
use Rattle.kh_io.specs.declared.files.Files.{Files}
use Rattle.kh_io.specs.Told.{Kept, Extends, IsFrontOf}
use Rattle.kh_io.specs.View.{View}
use Rattle.kh_io.specs.Frames.{During, Untouched}
use Rattle.kh_io.proofs.{both, weakened, told_map, told_both}
use Rattle.kh_read.specs.declared.form.Form.{Form}
use Rattle.kh_store.specs.State.{State, store_after}
use Rattle.kh_store.specs.Recovery.{Recovered, Recovers}
use Rattle.kh_store.specs.Store.{Opened, state_of, Stands, Executing}
use Rattle.khepri.specs.Session.{RecoversAt, RecoversBy}
use Rattle.kh_store.proofs.{stands_recovers}

-- nothing was given yet
pub none_given : (old new : Option (List ℕ)) (piece : List ℕ) → Kept old new → Extends old new (λ more. IsFrontOf more piece)
none_given old new piece kept = told_map old new kept (λ x y same. ([], same ∙ sym (append-nil x), (piece, refl)))

-- a front of the reply was given
pub front_given : (a b c : Option (List ℕ)) (line piece : List ℕ) → line ≡ piece → Kept a b → Extends b c (λ more. IsFrontOf more line)
    → Extends a c (λ more. IsFrontOf more piece)
front_given a b c line piece is kept given = told_both a b c kept given (λ x y z same p.
    (p.0, p.1 ∙ ap (λ (t : List ℕ). t ++ p.0) same, subst (IsFrontOf p.0) is p.2))

-- a command whose reply wasn't begun
pub not_answered : {v w : View} (x : View) (form : Form) (old : State) → v.stamp ≤ x.stamp → During (Executing form old v.stamp) v w
    → During (λ files s. RecoversAt old v files s ⊎ RecoversBy (store_after form old) x files s) v w
not_answered x form old le executed = weakened executed (λ files s is. elim is.recovers [
  | inl before ↦ inl (is.stamp, before)
  | inr behind ↦ inr (omega (arith, is.stamp, le), behind)
])

-- a command whose reply is given
pub answered : {u v w : View} (form : Form) (old : State) (store : Opened) → v.stamp ≡ u.stamp → v.stamp ≤ w.stamp → Stands store v → state_of store ≡ store_after form old
    → During (Executing form old u.stamp) u v → During (Untouched v w) v w → During (λ files s. RecoversAt old u files s ⊎ RecoversBy (store_after form old) w files s) u w
answered {u} {v} {w} form old store same le stands is executed giving =
    both (not_answered w form old (omega (arith, same, le)) executed) giving (λ files s given.
    inr (given.at_most, subst (λ (t : State). Recovers files (Recovered t)) is (stands_recovers store v stands files given.images)))
