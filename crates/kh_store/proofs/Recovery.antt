-- Files recover to exactly one thing.
use Rattle.std.proofs.Common.{◌≡◌, ◌⊎◌, ℕ, ℤ, ◌+◌, IsTrue, List, [], ◌∷◌, ◌++◌, Option, Some, None, inl, inr, refl, sym, subst, ◌∙◌}
use Rattle.std.proofs.lemmas.Bool.{cases_Bool}
use Rattle.kh_term.specs.declared.name.Name.{Name}
use Rattle.kh_io.specs.declared.files.Files.{Files}
use Rattle.kh_log.specs.Records.{records_of, lacking_in}
use Rattle.kh_read.specs.declared.form.Form.TheVariants as form
use Rattle.kh_store.specs.Command.{IsPut}
use Rattle.kh_store.specs.State.{State, empty, store_logs, store_after}
use Rattle.kh_store.specs.Recovery.{Recovery, Recovered, Damaged, IsNoRecord, Replays, ends, applies, refuses, ReplaysUnless, Recovers}
use Rattle.kh_store.proofs.Puts.{put_is_one, untrue}
use Rattle.kh_store.proofs.Deciding.{put_or_not}

-- ---- what the first record does

-- a record that is applied, and what the records behind it lead to
record Applies (s : State) (bytes : List ℕ) (more : List (List ℕ)) (end : Recovery) : Type 0 where
  path : List Name
  number : ℤ
  is : IsPut bytes path number
  logs : IsTrue (store_logs (form.Put path number) s)
  behind : Replays (store_after (form.Put path number) s) more end

abbrev Next : State → List (List ℕ) → Recovery → Type 0
Next s [] end = end ≡ Recovered s
Next s (bytes ∷ more) end = Applies s bytes more end ⊎ (IsNoRecord bytes s × (end ≡ Damaged 1 (s.span + 1)))

next : (s : State) (records : List (List ℕ)) (end : Recovery) → Replays s records end → Next s records end
next s records end (ends t) = refl
next s records end (applies t bytes path number more last is logs behind) =
    inl record { path = path; number = number; is = is; logs = logs; behind = behind }
next s records end (refuses t bytes more none) = inr (none, refl)

-- records lead to one thing
pub replays_one : (s : State) (records : List (List ℕ)) (end last : Recovery) → Replays s records end → Replays s records last → end ≡ last
replays_one s [] end last first second = next s [] end first ∙ sym (next s [] last second)
replays_one s (bytes ∷ more) end last first second =
    elim (next s (bytes ∷ more) end first) [
      | inl a ↦ elim (next s (bytes ∷ more) last second) [
        | inl b ↦
            let one = put_is_one bytes b.path a.path b.number a.number b.is a.is in
            let other : Replays (store_after (form.Put a.path a.number) s) more last =
            subst (λ (p : List Name × ℤ). Replays (store_after (form.Put p.0 p.1) s) more last) (λ i. (one.0 i, one.1 i)) b.behind in
            replays_one (store_after (form.Put a.path a.number) s) more end last a.behind other
        | inr b ↦ absurd (b.0 a.path a.number a.is a.logs)
      ]
      | inr a ↦ elim (next s (bytes ∷ more) last second) [
        | inl b ↦ absurd (a.0 b.path b.number b.is b.logs)
        | inr b ↦ a.1 ∙ sym b.1
      ]
    ]

-- what files recover to is one thing
pub recovery_one : (files : Files) (end last : Recovery) → Recovers files end → Recovers files last → end ≡ last
recovery_one files end last = go (lacking_in files.l0) (records_of files.l0)
  where
    go : (lacking : Option ℕ) (records : List (List ℕ)) → ReplaysUnless lacking records end → ReplaysUnless lacking records last → end ≡ last
    go (Some offset) records first second = first ∙ sym second
    go None records first second = replays_one empty records end last first second

-- ---- more records

recovered_same : (s t : State) → Recovered s ≡ Recovered t → s ≡ t
recovered_same s t e = cc

not_damaged : (file offset : ℕ) (s : State) → Damaged file offset ≡ Recovered s → ⊥
not_damaged file offset s e = cc

-- records behind others go on from the state that those lead to
pub replays_then : (s : State) (records more : List (List ℕ)) (mid : State) (end : Recovery) → Replays s records (Recovered mid) → Replays mid more end
    → Replays s (records ++ more) end
replays_then s [] more mid end first second =
    subst (λ (t : State). Replays t more end) (recovered_same mid s (next s [] (Recovered mid) first)) second
replays_then s (bytes ∷ records) more mid end first second =
    elim (next s (bytes ∷ records) (Recovered mid) first) [
      | inl a ↦ applies s bytes a.path a.number (records ++ more) end a.is a.logs
          (replays_then (store_after (form.Put a.path a.number) s) records more mid end a.behind second)
      | inr a ↦ absurd (not_damaged 1 (s.span + 1) mid (sym a.1))
    ]

-- ---- something

-- what a record that is a put leads to
some_put : (s : State) (bytes : List ℕ) (path : List Name) (number : ℤ) (more : List (List ℕ)) → IsPut bytes path number
    → ((end : Recovery) × Replays (store_after (form.Put path number) s) more end) → (end : Recovery) × Replays s (bytes ∷ more) end
some_put s bytes path number more is behind =
    elim (cases_Bool (store_logs (form.Put path number) s)) [
      | inl holds ↦ (behind.0, applies s bytes path number more behind.0 is holds behind.1)
      | inr fails ↦ (
        Damaged 1 (s.span + 1),
        refuses s bytes more (λ other last second logs.
            let one = put_is_one bytes path other number last is second in
            untrue (sym fails ∙ ((λ i. store_logs (form.Put (one.0 i) (one.1 i)) s) ∙ logs))),
      )
    ]

-- records lead to something
pub replays_some : (s : State) (records : List (List ℕ)) → (end : Recovery) × Replays s records end
replays_some s [] = (Recovered s, ends s)
replays_some s (bytes ∷ more) =
    elim (put_or_not bytes) [
      | inl p ↦ some_put s bytes p.0.0 p.0.1 more p.1 (replays_some (store_after (form.Put p.0.0 p.0.1) s) more)
      | inr none ↦ (Damaged 1 (s.span + 1), refuses s bytes more (λ path number is logs. none (path, number) is))
    ]

-- files recover to something
pub recovery_some : (files : Files) → (end : Recovery) × Recovers files end
recovery_some files = go (lacking_in files.l0) (records_of files.l0)
  where
    go : (lacking : Option ℕ) (records : List (List ℕ)) → (end : Recovery) × ReplaysUnless lacking records end
    go (Some offset) records = (Damaged 1 offset, refl)
    go None records = replays_some empty records
