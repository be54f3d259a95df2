-- The first byte of packed bytes.
use Rattle.std.proofs.Common.{◌≡◌, ℕ, List, ◌∷◌, ap, sym, ◌∙◌}
use Rattle.kh_term.specs.declared.tree.TermTree.{TermTree, out-TermTree}
use Rattle.kh_term.specs.declared.tree.TermTree.TheVariants.{outs-Int, outs-Atom, outs-Bin, outs-Nil, outs-List, outs-Tuple, outs-Map, outs-Closure}
use Rattle.kh_term.specs.declared.tree.TermTree.TheOpen.{TermTree-F}
use Rattle.kh_term.specs.declared.tree.TermTree.TheOpen as layer
use Rattle.kh_term.specs.Lemmas.Induction.{by_parts}
use Rattle.kh_term.proofs.Layers.{packed-Int, packed-Atom, packed-Bin, packed-Nil, packed-List, packed-Tuple, packed-Map, packed-Closure}
use Rattle.kh_term.specs.Packed.{packed_of}

-- the first byte of the packed bytes of each kind
abbrev pub tag_of : {A : Type 0} → TermTree-F A → ℕ
tag_of (layer.Int n) = 1
tag_of (layer.Atom text) = 2
tag_of (layer.Bin bytes) = 3
tag_of layer.Nil = 4
tag_of (layer.List parts tail) = 5
tag_of (layer.Tuple parts) = 6
tag_of (layer.Map pairs) = 7
tag_of (layer.Closure origin env) = 8

-- packed bytes begin with the tag
abbrev pub Tagged : TermTree → Type 0
Tagged t = (rest : List ℕ) × (packed_of t ≡ tag_of (out-TermTree t) ∷ rest)

tagged_by : (t : TermTree) (l : TermTree-F TermTree) (rest : List ℕ) → out-TermTree t ≡ l → packed_of t ≡ tag_of l ∷ rest → Tagged t
tagged_by t l rest e k = (rest, k ∙ ap (λ m. tag_of m ∷ rest) (sym e))

-- the first byte is the tag
pub tagged : (t : TermTree) → Tagged t
tagged = by_parts Tagged record {
  at_int = λ n. tagged_by _ _ _ (outs-Int n) (packed-Int n);
  at_atom = λ text. tagged_by _ _ _ (outs-Atom text) (packed-Atom text);
  at_bin = λ bytes. tagged_by _ _ _ (outs-Bin bytes) (packed-Bin bytes);
  at_nil = tagged_by _ _ _ outs-Nil packed-Nil;
  at_list = λ xs t each f. tagged_by _ _ _ (outs-List xs t) (packed-List xs t);
  at_tuple = λ xs each. tagged_by _ _ _ (outs-Tuple xs) (packed-Tuple xs);
  at_map = λ ps each. tagged_by _ _ _ (outs-Map ps) (packed-Map ps);
  at_closure = λ origin xs each. tagged_by _ _ _ (outs-Closure origin xs) (packed-Closure origin xs);
}
