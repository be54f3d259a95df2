-- Modules whose functions are labels.
use Rattle.std.proofs.Common.{◌≡◌, ◌∙◌, ℕ, true, ◌&&◌, List, [], ◌∷◌, ◌++◌, refl}
use Rattle.std.proofs.lemmas.Slice.Eq.{bytes_eq-Decides}
use Rattle.std.specs.Str.{bytes_eq}
use Rattle.kh_instr.specs.Tables.{function_of}
use Rattle.kh_instr.specs.Written.{IsWritten, HasSmallLiterals}
use Rattle.kh_instr.specs.declared.instr.Instr.TheVariants as instr
use Rattle.kh_instr.specs.declared.module.Export.{Export}
use Rattle.kh_instr.specs.declared.module.Function.{Function}
use Rattle.kh_instr.specs.declared.module.Module.{Module}

abbrev pub labelled : List ℕ → List ℕ → ℕ → ℕ → Function
labelled m n arity entry = record { name = n; arity = arity; entry = entry; origin = function_of m n arity; code = instr.Label entry ∷ [] }

-- the module with functions of 0 and of 2 arguments of one name
abbrev pub two_functions : List ℕ → List ℕ → List Export → Module
two_functions m n exports = record { name = m; exports = exports; functions = labelled m n 0 1 ∷ labelled m n 2 7 ∷ [] }

same : (text : List ℕ) → bytes_eq text text ≡ true
same text = (bytes_eq-Decides text text).1 refl

pub two_written : (m n : List ℕ) (exports : List Export) → IsWritten (two_functions m n exports)
two_written m n exports = record {
  functions_once = refl;
  labels_once = refl;
  entries = refl;
  leads = refl;
  origins = λ i. (same m i && same n i) && ((same m i && same n i) && true);
}

pub two_small : (m n : List ℕ) (exports : List Export) → HasSmallLiterals (two_functions m n exports)
two_small m n exports = refl

-- the two functions, pushed one behind the other
pub both_pushed : (all second first none : List Function) (f g : Function) (m n : List ℕ) → all ≡ second → second ≡ first ++ g ∷ []
    → first ≡ none ++ f ∷ [] → none ≡ [] → f ≡ labelled m n 0 1 → g ≡ labelled m n 2 7 → all ≡ labelled m n 0 1 ∷ labelled m n 2 7 ∷ []
both_pushed all second first none f g m n a b c d e h = a ∙ (b ∙ (λ i. (c ∙ (λ j. d j ++ e j ∷ [])) i ++ h i ∷ []))
