-- What changed labels leave of an instruction.
use Rattle.std.proofs.Common.{◌≡◌, ◌≤◌, ℕ, zero, suc, List, [], ◌∷◌, map, refl, ap, arith}
use Rattle.kh_instr.specs.declared.instr.Instr.{Instr}
use Rattle.kh_instr.specs.declared.instr.Instr.TheVariants as instr
use Rattle.kh_instr.specs.Laws.{RelabelKeepsBare, RelabelMapsLabels, RelabelMovesCallee, RelabelKeepsLabels}
use Rattle.kh_instr.specs.Syntax.{relabel, bare, labels, callee, move_callee, is_any_label, change, whether, jump_unless_0}

cases_bare : {A : Type 0} (f : ℕ → ℕ) (cs : List (A × ℕ)) → map {A = A × ℕ} {B = A × ℕ} (λ c. (c.0, 0)) (map (λ c. (c.0, f c.1)) cs) ≡ map (λ c. (c.0, 0)) cs
cases_bare f [] = refl
cases_bare f (c ∷ cs) = ap (λ xs. (c.0, 0) ∷ xs) (cases_bare f cs)

cases_labels : {A : Type 0} (f : ℕ → ℕ) (cs : List (A × ℕ)) → map {A = A × ℕ} {B = ℕ} (λ c. c.1) (map (λ c. (c.0, f c.1)) cs) ≡ map f (map (λ c. c.1) cs)
cases_labels f [] = refl
cases_labels f (c ∷ cs) = ap (λ xs. f c.1 ∷ xs) (cases_labels f cs)

positive_whether : (n : ℕ) → 1 ≤ n → whether n ≡ 1
positive_whether zero h = absurd (omega arith)
positive_whether (suc n) h = refl

positive_jump : (n : ℕ) → 1 ≤ n → jump_unless_0 n ≡ n ∷ []
positive_jump zero h = absurd (omega arith)
positive_jump (suc n) h = refl

whether_kept : (f : ℕ → ℕ) → ((n : ℕ) → 1 ≤ f n) → (l : ℕ) → whether (change f l) ≡ whether l
whether_kept f h zero = refl
whether_kept f h (suc n) = positive_whether (f (suc n)) (h (suc n))

jumps_mapped : (f : ℕ → ℕ) → ((n : ℕ) → 1 ≤ f n) → (l : ℕ) → jump_unless_0 (change f l) ≡ map f (jump_unless_0 l)
jumps_mapped f h zero = refl
jumps_mapped f h (suc n) = positive_jump (f (suc n)) (h (suc n))

pub keeps_bare : RelabelKeepsBare
keeps_bare f (instr.SelectVal s l cases) h = ap (instr.SelectVal s 0) (cases_bare f cases)
keeps_bare f (instr.SelectTupleArity s l cases) h = ap (instr.SelectTupleArity s 0) (cases_bare f cases)
keeps_bare f (instr.Bif name l parts r) h = ap (λ m. instr.Bif name m parts r) (whether_kept f h l)
keeps_bare f (instr.GcBif name l live parts r) h = ap (λ m. instr.GcBif name m live parts r) (whether_kept f h l)
keeps_bare f (instr.PutMapAssoc l s r live pairs) h = ap (λ m. instr.PutMapAssoc m s r live pairs) (whether_kept f h l)
keeps_bare f (instr.PutMapExact l s r live pairs) h = ap (λ m. instr.PutMapExact m s r live pairs) (whether_kept f h l)
keeps_bare f i h = refl

pub maps_labels : RelabelMapsLabels
maps_labels f (instr.SelectVal s l cases) h = ap (λ ls. f l ∷ ls) (cases_labels f cases)
maps_labels f (instr.SelectTupleArity s l cases) h = ap (λ ls. f l ∷ ls) (cases_labels f cases)
maps_labels f (instr.Bif name l parts r) h = jumps_mapped f h l
maps_labels f (instr.GcBif name l live parts r) h = jumps_mapped f h l
maps_labels f (instr.PutMapAssoc l s r live pairs) h = jumps_mapped f h l
maps_labels f (instr.PutMapExact l s r live pairs) h = jumps_mapped f h l
maps_labels f i h = refl

pub moves_callee : RelabelMovesCallee
moves_callee f i = by_cases i
  where
    by_cases : (i : Instr) → callee (relabel f i) ≡ move_callee f (callee i)
    by_cases (instr.Label n) = refl
    by_cases i = refl

pub keeps_labels : RelabelKeepsLabels
keeps_labels f (instr.Label n) = refl
keeps_labels f i = refl
