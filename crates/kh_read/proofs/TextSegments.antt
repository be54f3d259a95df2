-- The segments of a binary that were read, and what they make.
use Rattle.std.proofs.Common.{◌≡◌, ℕ, Bool, true, false, cond, List, [], ◌∷◌, ◌++◌, Option, Some, None, refl, sym, ap, ◌∙◌, append_assoc}
use Rattle.std.proofs.lemmas.List.{append-nil}
use Rattle.kh_term.specs.declared.tree.TermTree.{TermTree}
use Rattle.kh_term.specs.declared.tree.TermTree.TheVariants as tree
use Rattle.kh_text_defs.specs.Spelled.{unsupported, all_bytes, bytes_behind, binary_of, binary_or_unsupported}
use Rattle.kh_read.specs.State.{Frame, InBinary}
use Rattle.kh_read.specs.Steps.{binary_term}

-- the bytes with a segment more, and whether a segment had a size
abbrev pub grown_bytes : List ℕ → Option (List ℕ) → List ℕ
grown_bytes bytes (Some more) = bytes ++ more
grown_bytes bytes None = bytes

abbrev pub grown_sized : Bool → Option (List ℕ) → Bool
grown_sized sized (Some more) = sized
grown_sized sized None = true

abbrev pub run_bytes : List ℕ → List (Option (List ℕ)) → List ℕ
run_bytes bytes [] = bytes
run_bytes bytes (s ∷ ss) = run_bytes (grown_bytes bytes s) ss

abbrev pub run_sized : Bool → List (Option (List ℕ)) → Bool
run_sized sized [] = sized
run_sized sized (s ∷ ss) = run_sized (grown_sized sized s) ss

abbrev pub some_segment : List (Option (List ℕ)) → Bool
some_segment [] = false
some_segment (s ∷ ss) = true

abbrev pub in_binary : List (Option (List ℕ)) → Frame
in_binary ss = InBinary (some_segment ss) (run_bytes [] ss) (run_sized false ss)

bytes-push : (bytes : List ℕ) (ss : List (Option (List ℕ))) (s : Option (List ℕ)) → run_bytes bytes (ss ++ s ∷ []) ≡ grown_bytes (run_bytes bytes ss) s
bytes-push bytes [] s = refl
bytes-push bytes (x ∷ ss) s = bytes-push (grown_bytes bytes x) ss s

sized-push : (sized : Bool) (ss : List (Option (List ℕ))) (s : Option (List ℕ)) → run_sized sized (ss ++ s ∷ []) ≡ grown_sized (run_sized sized ss) s
sized-push sized [] s = refl
sized-push sized (x ∷ ss) s = sized-push (grown_sized sized x) ss s

some-push : (ss : List (Option (List ℕ))) (s : Option (List ℕ)) → some_segment (ss ++ s ∷ []) ≡ true
some-push [] s = refl
some-push (x ∷ ss) s = refl

pub pushed : (ss : List (Option (List ℕ))) (s : Option (List ℕ)) → in_binary (ss ++ s ∷ []) ≡ InBinary true (grown_bytes (run_bytes [] ss) s) (grown_sized (run_sized false ss) s)
pushed ss s = λ i. InBinary (some-push ss s i) (bytes-push [] ss s i) (sized-push false ss s i)

-- with a segment more the binary has begun
pub begun_now : (ss : List (Option (List ℕ))) (s : Option (List ℕ)) → InBinary true (run_bytes [] (ss ++ s ∷ [])) (run_sized false (ss ++ s ∷ [])) ≡ in_binary (ss ++ s ∷ [])
begun_now ss s = λ i. InBinary (sym (some-push ss s) i) (run_bytes [] (ss ++ s ∷ [])) (run_sized false (ss ++ s ∷ []))

-- ---- the term

behind_both : (bytes more : List ℕ) (o : Option (List ℕ)) → bytes_behind (bytes ++ more) o ≡ bytes_behind bytes (bytes_behind more o)
behind_both bytes more (Some others) = ap Some (append_assoc bytes more others)
behind_both bytes more None = refl

behind_nothing : (o : Option (List ℕ)) → bytes_behind [] o ≡ o
behind_nothing (Some others) = refl
behind_nothing None = refl

no_segment : (bytes : List ℕ) (sized : Bool) → binary_term bytes sized ≡ binary_or_unsupported (cond sized None (Some (bytes ++ [])))
no_segment bytes true = refl
no_segment bytes false = ap tree.Bin (sym (append-nil bytes))

none_anyhow : (sized : Bool) → binary_or_unsupported None ≡ binary_or_unsupported (cond sized None None)
none_anyhow true = refl
none_anyhow false = refl

pub joined_from : (bytes : List ℕ) (sized : Bool) (ss : List (Option (List ℕ))) → binary_term (run_bytes bytes ss) (run_sized sized ss) ≡ binary_or_unsupported (cond sized None (bytes_behind bytes (all_bytes ss)))
joined_from bytes sized [] = no_segment bytes sized
joined_from bytes sized (Some more ∷ ss) =
    joined_from (bytes ++ more) sized ss ∙ ap (λ (o : Option (List ℕ)). binary_or_unsupported (cond sized None o)) (behind_both bytes more (all_bytes ss))
joined_from bytes sized (None ∷ ss) = joined_from bytes true ss ∙ none_anyhow sized

pub joined : (ss : List (Option (List ℕ))) → binary_term (run_bytes [] ss) (run_sized false ss) ≡ binary_of ss
joined ss = joined_from [] false ss ∙ ap binary_or_unsupported (behind_nothing (all_bytes ss))
