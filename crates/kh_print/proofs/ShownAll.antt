-- The shown text of every term spells it, in a script and in a listing.
use Rattle.std.proofs.Common.{◌≡◌, ◌<◌, ◌≤◌, ℕ, zero, suc, true, ◌&&◌, List, [], ◌∷◌, ◌++◌, length, map, codes, decimal, inl, refl, sym, ap, subst, ◌∙◌, append_assoc, ℤ, pos, arith, if◌then◌else◌}
use Rattle.std.specs.Prelude.{nat_le, nat_lt}
use Rattle.std.proofs.lemmas.Bool.{and_parts, and_from, ltb-true, lt-ltb}
use Rattle.kh_term.specs.declared.name.Origin.{Origin}
use Rattle.kh_term.specs.declared.tree.TermTree.{TermTree}
use Rattle.kh_term.specs.declared.tree.TermTree.TheVariants as tree
use Rattle.kh_term.specs.Lemmas.Fits.{parts_of_closure, origin_of_closure, holds}
use Rattle.kh_term.specs.Lemmas.Induction.{Each, by_parts}
use Rattle.kh_term.proofs.Layers.{faults-Int, faults-Atom, faults-Bin, depth-Nil, depth-Closure}
use Rattle.kh_term.specs.Size.{depth_of}
use Rattle.kh_term.specs.Text.{is_atom_text, are_bytes}
use Rattle.kh_term.specs.WellFormed.{IsTerm, fits_128, is_origin}
use Rattle.kh_text_defs.specs.declared.mode.Mode.{Mode}
use Rattle.kh_text_defs.specs.Blanks.{no_blank}
use Rattle.kh_text_defs.specs.Shown.{shown, shown_atom, with_commas}
use Rattle.kh_text_defs.specs.Spelled.{within_limits, SpellsInteger, SpellsFlat, integer, atom, binary, SpellsCaptured, closure_end, closure_of, SpellsDeep, list, closure, Spells}
use Rattle.kh_text_defs.specs.Tokens.{SpellsAtom}
use Rattle.kh_print.specs.Parts.{shown_origin}
use Rattle.kh_print.proofs.Layers.{shown-Int, shown-Atom, shown-Bin, shown-Nil, shown-Closure}
use Rattle.kh_print.proofs.ShownTokens.{shown_integer, shown_name}
use Rattle.kh_print.proofs.ShownTerms.{bare, flat, deep, IsShown, Segments, segments_of, elements_of, shown_tuple, shown_list}
use Rattle.kh_print.proofs.ShownMaps.{shown_map}

shown_int : (mode : Mode) (z : ℤ) → IsShown mode (tree.Int z)
shown_int mode z fit levels low =
    let fits = holds _ (sym (faults-Int z) ∙ fit) in
    subst (λ (t : List ℕ). Spells (within_limits mode) levels t (tree.Int z)) (sym (shown-Int z))
    (flat (within_limits mode) levels _ _ (integer _ z (shown_integer z fits, fits)))

shown_word : (mode : Mode) (text : List ℕ) → IsShown mode (tree.Atom text)
shown_word mode text fit levels low =
    subst (λ (t : List ℕ). Spells (within_limits mode) levels t (tree.Atom text)) (sym (shown-Atom text))
    (flat (within_limits mode) levels _ _ (atom _ text (shown_name text (holds _ (sym (faults-Atom text) ∙ fit)))))

shown_binary : (mode : Mode) (bytes : List ℕ) → IsShown mode (tree.Bin bytes)
shown_binary mode bytes fit levels low =
    let segments = segments_of (within_limits mode) bytes (holds _ (sym (faults-Bin bytes) ∙ fit)) in
    flat (within_limits mode) levels _ _ (subst (λ (t : TermTree). SpellsFlat (within_limits mode) (shown (tree.Bin bytes)) t) segments.value
    (binary _ _ segments.segments segments.elements (shown-Bin bytes ∙ append_assoc (codes "<<") _ (codes ">>"))))

shown_nil : (mode : Mode) → IsShown mode tree.Nil
shown_nil mode fit zero low = absurd (omega (arith, depth-Nil, low))
shown_nil mode fit (suc levels) low =
    deep (within_limits mode) levels _ _ (list _ [] [] (inl (no_blank, refl)) shown-Nil)

abbrev closure_text : List ℕ → List ℕ → List ℕ → List ℕ → List ℕ
closure_text home name arity env =
    codes "#fun{" ++ (home ++ 44 ∷ (name ++ 44 ∷ (arity ++ 44 ∷ ((91 ∷ (env ++ 93 ∷ [])) ++ 125 ∷ []))))

regrouped : (home name arity env : List ℕ)
    → codes "#fun{" ++ (home ++ codes "," ++ name ++ codes "," ++ arity ++ codes ",") ++ codes "[" ++ env ++ codes "]}" ≡ closure_text home name arity env
regrouped home name arity env = simp append_assoc

shown_function : (mode : Mode) (origin : Origin) (env : List TermTree) → Each (IsShown mode) env → IsShown mode (tree.Closure origin env)
shown_function mode origin env each fit zero low = absurd (omega (arith, depth-Closure origin env))
shown_function mode origin env each fit (suc levels) low =
    let is = and_parts (is_origin origin) (nat_le (length env) origin.arity) (origin_of_closure origin env fit) in
    let whole = and_parts (is_atom_text origin.module && is_atom_text origin.name) (nat_lt origin.arity 256) is.0 in
    let names = and_parts (is_atom_text origin.module) (is_atom_text origin.name) whole.0 in
    let fits : fits_128 (pos origin.arity) ≡ true = lt-ltb origin.arity _ (omega (arith, ltb-true origin.arity 256 whole.1)) in
    let one = Spells (within_limits mode) levels in
    let inside = with_commas (map shown env) in
    let captured : SpellsCaptured one (91 ∷ (inside ++ 93 ∷ [])) env =
    (inside, elements_of mode env levels each (parts_of_closure origin env fit) (omega (arith, depth-Closure origin env, low)), refl) in
    let ends : closure_end (pos origin.arity) env ≡ 125 = ap (λ b. if b then 125 else 256) (and_from _ _ whole.1 is.1) in
    deep (within_limits mode) levels _ _ (closure _ (shown_atom origin.module) (shown_atom origin.name) (decimal origin.arity) (91 ∷ (inside ++ 93 ∷ [])) origin.module origin.name (pos origin.arity) env
    (bare SpellsAtom _ _ (shown_name origin.module names.0)) (bare SpellsAtom _ _ (shown_name origin.name names.1))
    (bare (SpellsInteger (within_limits mode)) _ _ (shown_integer (pos origin.arity) fits, fits)) (bare (SpellsCaptured one) _ _ captured)
    (shown-Closure origin env ∙ (regrouped (shown_atom origin.module) (shown_atom origin.name) (decimal origin.arity) inside
    ∙ ap (λ e. codes "#fun{" ++ (shown_atom origin.module ++ 44 ∷ (shown_atom origin.name ++ 44 ∷ (decimal origin.arity ++ 44 ∷ ((91 ∷ (inside ++ 93 ∷ [])) ++ e ∷ []))))) (sym ends))))

pub shown_spells : (mode : Mode) (t : TermTree) → IsShown mode t
shown_spells mode = by_parts (IsShown mode) record {
  at_int = shown_int mode;
  at_atom = shown_word mode;
  at_bin = shown_binary mode;
  at_nil = shown_nil mode;
  at_list = shown_list mode;
  at_tuple = shown_tuple mode;
  at_map = shown_map mode;
  at_closure = shown_function mode;
}
