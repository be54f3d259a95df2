-- What is told, for the crates above: over two calls, one after the other.
use Rattle.std.proofs.Common.{◌≡◌, List, ◌++◌, Option, Some, None, refl, ap, ◌∙◌, append_assoc}
use Rattle.kh_io.specs.Told.{Told, Kept, Extends}

-- what is told at exit was told at entry
pub told_before : {A : Type 0} (P : A → A → Type 0) (old : Option A) (new : A) → Told old (Some new) P → (was : A) × (old ≡ Some was) × P was new
told_before P (Some was) new holds = (was, refl, holds)
told_before P None new holds = absurd holds

-- a fact of what is told, where its parts are facts
pub told_map : {A : Type 0} {P Q : A → A → Type 0} (old new : Option A) → Told old new P → ((a b : A) → P a b → Q a b) → Told old new Q
told_map (Some a) (Some b) holds is = is a b holds
told_map (Some a) None holds is = tt
told_map None (Some b) holds is = absurd holds
told_map None None holds is = tt

-- a fact over no call
pub told_same : {A : Type 0} (P : A → A → Type 0) (o : Option A) → ((a : A) → P a a) → Told o o P
told_same P (Some a) same = same a
told_same P None same = tt

pub kept_same : {A : Type 0} (o : Option A) → Kept o o
kept_same o = told_same _ o (λ a. refl)

-- a fact over two calls
pub told_both : {A : Type 0} {P Q R : A → A → Type 0} (a b c : Option A) → Told a b P → Told b c Q → ((x y z : A) → P x y → Q y z → R x z) → Told a c R
told_both (Some x) (Some y) (Some z) p q is = is x y z p q
told_both None (Some y) (Some z) p q is = absurd p
told_both a None (Some z) p q is = absurd q
told_both (Some x) b None p q is = tt
told_both None b None p q is = tt

pub kept_both : {A : Type 0} (a b c : Option A) → Kept a b → Kept b c → Kept a c
kept_both a b c first second = told_both a b c first second (λ x y z e f. f ∙ e)

pub extends_both : {A : Type 0} (P Q R : List A → Type 0) (a b c : Option (List A)) → Extends a b P → Extends b c Q
    → ((more later : List A) → P more → Q later → R (more ++ later)) → Extends a c R
extends_both P Q R a b c first second is = told_both a b c first second (λ x y z p q.
    (p.0 ++ q.0, q.1 ∙ ap (λ l. l ++ q.0) p.1 ∙ append_assoc x p.0 q.0, is p.0 q.0 p.2 q.2))
