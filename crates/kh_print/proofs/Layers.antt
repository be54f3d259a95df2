-- The text of each kind of term.
use Rattle.std.proofs.Common.{◌≡◌, ℕ, List, [], ◌∷◌, ◌++◌, map, codes, decimal, append_assoc, refl, ap, sym, ◌∙◌, ℤ}
use Rattle.std.specs.Fmt.{signed_decimal}
use Rattle.kh_term.specs.declared.name.Origin.{Origin}
use Rattle.kh_term.specs.declared.tree.TermTree.{TermTree}
use Rattle.kh_term.specs.declared.tree.TermTree.TheVariants as tree
use Rattle.kh_term.specs.declared.tree.TermTree.TheVariants.{rolls-Int, rolls-Atom, rolls-Bin, rolls-Nil, rolls-List, rolls-Tuple, rolls-Map, rolls-Closure}
use Rattle.kh_term.specs.declared.tree.TermTree.TheOpen as layer
use Rattle.kh_term.specs.declared.tree.TermTree.TheFolds.{para-roll-TermTree}
use Rattle.kh_text_defs.specs.Shown.{shown, shown_step, shown_atom, shown_bytes, with_commas, texts_of, Printed}
use Rattle.kh_print.specs.Parts.{shown_origin, shown_pair, shown_tail_of}

texts : (parts : List TermTree) → texts_of (map (λ t. (t, shown t)) parts) ≡ map shown parts
texts [] = refl
texts (part ∷ parts) = ap (λ ts. shown part ∷ ts) (texts parts)

abbrev Both : Type 0
Both = Printed × Printed

pair_texts : (pairs : List (TermTree × TermTree)) → map (λ p. p.0.1 ++ codes " => " ++ p.1.1) (map {B = Both} (λ p. ((p.0, shown p.0), (p.1, shown p.1))) pairs) ≡ map shown_pair pairs
pair_texts [] = refl
pair_texts (pair ∷ pairs) = ap (λ ts. shown_pair pair ∷ ts) (pair_texts pairs)

abbrev origin_text : List ℕ → List ℕ → List ℕ → List ℕ
origin_text home name arity = home ++ codes "," ++ name ++ codes "," ++ arity ++ codes ","

pub shown-Int : (n : ℤ) → shown (tree.Int n) ≡ signed_decimal n
shown-Int n = ap shown (sym (rolls-Int n)) ∙ para-roll-TermTree (List ℕ) shown_step (layer.Int n)

pub shown-Atom : (text : List ℕ) → shown (tree.Atom text) ≡ shown_atom text
shown-Atom text = ap shown (sym (rolls-Atom text)) ∙ para-roll-TermTree (List ℕ) shown_step (layer.Atom text)

pub shown-Bin : (bytes : List ℕ) → shown (tree.Bin bytes) ≡ codes "<<" ++ shown_bytes bytes ++ codes ">>"
shown-Bin bytes = ap shown (sym (rolls-Bin bytes)) ∙ para-roll-TermTree (List ℕ) shown_step (layer.Bin bytes)

pub shown-Nil : shown tree.Nil ≡ codes "[]"
shown-Nil = ap shown (sym rolls-Nil) ∙ para-roll-TermTree (List ℕ) shown_step layer.Nil

pub shown-Tuple : (parts : List TermTree) → shown (tree.Tuple parts) ≡ codes "{" ++ with_commas (map shown parts) ++ codes "}"
shown-Tuple parts = ap shown (sym (rolls-Tuple parts)) ∙ (para-roll-TermTree (List ℕ) shown_step (layer.Tuple parts) ∙ ap (λ ts. codes "{" ++ with_commas ts ++ codes "}") (texts parts))

pub shown-List : (parts : List TermTree) (tail : TermTree) → shown (tree.List parts tail) ≡ codes "[" ++ with_commas (map shown parts) ++ shown_tail_of tail ++ codes "]"
shown-List parts tail = ap shown (sym (rolls-List parts tail)) ∙ (para-roll-TermTree (List ℕ) shown_step (layer.List parts tail) ∙ ap (λ ts. codes "[" ++ with_commas ts ++ shown_tail_of tail ++ codes "]") (texts parts))

pub shown-Map : (pairs : List (TermTree × TermTree)) → shown (tree.Map pairs) ≡ codes "#{" ++ with_commas (map shown_pair pairs) ++ codes "}"
shown-Map pairs = ap shown (sym (rolls-Map pairs)) ∙ (para-roll-TermTree (List ℕ) shown_step (layer.Map pairs) ∙ ap (λ ts. codes "#{" ++ with_commas ts ++ codes "}") (pair_texts pairs))

abbrev closure_text : Origin → List (List ℕ) → List ℕ
closure_text origin ts = codes "#fun{" ++ with_commas (shown_atom origin.module ∷ shown_atom origin.name ∷ decimal origin.arity
    ∷ (codes "[" ++ with_commas ts ++ codes "]") ∷ []) ++ codes "}"

-- the text of an origin, and then the captured values in brackets
origin_then : (home name arity rest : List ℕ) → with_commas (home ∷ name ∷ arity ∷ rest ∷ []) ≡ origin_text home name arity ++ rest
origin_then home name arity rest =
    let comma = codes "," in
    sym (append_assoc (home ++ comma ++ name ++ comma ++ arity) comma rest
    ∙ (append_assoc (home ++ comma ++ name ++ comma) arity (44 ∷ rest)
    ∙ (append_assoc (home ++ comma ++ name) comma (arity ++ (44 ∷ rest))
    ∙ (append_assoc (home ++ comma) name (44 ∷ (arity ++ (44 ∷ rest)))
    ∙ append_assoc home comma (name ++ (44 ∷ (arity ++ (44 ∷ rest))))))))

captured_then : (before env : List ℕ) → before ++ (codes "[" ++ env ++ codes "]") ++ codes "}" ≡ before ++ codes "[" ++ env ++ codes "]}"
captured_then before env =
    append_assoc before (codes "[" ++ env ++ codes "]") (codes "}")
    ∙ (ap (λ w. before ++ (91 ∷ w)) (append_assoc env (codes "]") (codes "}"))
    ∙ sym (append_assoc (before ++ codes "[") env (codes "]}") ∙ append_assoc before (codes "[") (env ++ codes "]}")))

closure_parts : (home name arity env : List ℕ)
    → codes "#fun{" ++ with_commas (home ∷ name ∷ arity ∷ (codes "[" ++ env ++ codes "]") ∷ []) ++ codes "}"
    ≡ codes "#fun{" ++ origin_text home name arity ++ codes "[" ++ env ++ codes "]}"
closure_parts home name arity env =
    ap (λ w. codes "#fun{" ++ w ++ codes "}") (origin_then home name arity (codes "[" ++ env ++ codes "]"))
    ∙ ap (λ w. codes "#fun{" ++ w) (captured_then (origin_text home name arity) env)

pub shown-Closure : (origin : Origin) (env : List TermTree) → shown (tree.Closure origin env) ≡ codes "#fun{" ++ shown_origin origin ++ codes "[" ++ with_commas (map shown env) ++ codes "]}"
shown-Closure origin env = ap shown (sym (rolls-Closure origin env)) ∙ (para-roll-TermTree (List ℕ) shown_step (layer.Closure origin env) ∙ (ap (λ ts. closure_text origin ts) (texts env) ∙ closure_parts (shown_atom origin.module) (shown_atom origin.name) (decimal origin.arity) (with_commas (map shown env))))

pub ruleset layers = (shown-Int, shown-Atom, shown-Bin, shown-Nil, shown-Tuple, shown-List, shown-Map, shown-Closure)
