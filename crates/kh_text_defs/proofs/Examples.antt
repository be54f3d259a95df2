-- Worked rows of the definitions of text: texts and what they spell, written by hand.
use Rattle.std.proofs.Common.{◌≡◌, ◌≤◌, ℕ, zero, suc, List, [], ◌∷◌, inl, inr, refl, pos, negsuc, arith}
use Rattle.kh_term.specs.declared.tree.TermTree.{TermTree}
use Rattle.kh_term.specs.declared.tree.TermTree.TheVariants as tree
use Rattle.kh_text_defs.specs.declared.mode.Mode.TheVariants.{Script}
use Rattle.kh_text_defs.specs.Blanks.{IsBlank, no_blank, space, comment, Wide, last}
use Rattle.kh_text_defs.specs.Tokens.{IsInteger, by_letter, by_code, no_character, one_character, Quoted, SpellsAtom}
use Rattle.kh_text_defs.specs.Spelled.{within_limits, SpellsFlat, integer, atom, binary, one_byte, tuple, points, Spells, IsForm}

-- ---- blanks: `% .`, a newline, a tab

blanks : IsBlank (37 ∷ 32 ∷ 46 ∷ 10 ∷ 9 ∷ [])
blanks = comment _ (32 ∷ 46 ∷ []) (9 ∷ []) refl (space 9 [] refl no_blank) refl

-- ---- integers: `007`, `-1`, `-0`

leading_zeros : IsInteger (48 ∷ 48 ∷ 55 ∷ []) (pos 7)
leading_zeros = (48 ∷ 48 ∷ 55 ∷ [], refl, inl (refl, refl))

below_zero : IsInteger (45 ∷ 49 ∷ []) (negsuc 0)
below_zero = (49 ∷ [], refl, inr (refl, refl))

minus_zero : IsInteger (45 ∷ 48 ∷ []) (pos 0)
minus_zero = (48 ∷ [], refl, inr (refl, refl))

-- ---- texts in quotes: `'\n'`, `'\x{41}'`, and the atom `''`

newline : Quoted 39 (39 ∷ 92 ∷ 110 ∷ 39 ∷ []) (10 ∷ [])
newline = record {
  inside = 92 ∷ 110 ∷ [];
  characters = one_character _ (92 ∷ 110 ∷ []) [] 10 [] (by_letter _ 110 10 refl refl) no_character refl;
  parts = refl;
}

by_its_code : Quoted 39 (39 ∷ 92 ∷ 120 ∷ 123 ∷ 52 ∷ 49 ∷ 125 ∷ 39 ∷ []) (65 ∷ [])
by_its_code = record {
  inside = 92 ∷ 120 ∷ 123 ∷ 52 ∷ 49 ∷ 125 ∷ [];
  characters = one_character _ (92 ∷ 120 ∷ 123 ∷ 52 ∷ 49 ∷ 125 ∷ []) [] 65 [] (by_code _ (52 ∷ 49 ∷ []) 65 refl refl (grind (arith)) refl) no_character refl;
  parts = refl;
}

empty : SpellsAtom (39 ∷ 39 ∷ []) []
empty = (inr ([], record { inside = []; characters = no_character; parts = refl }, refl), omega (arith))

-- ---- terms: `<<7>>`, `{}`, `""`

one : SpellsFlat (within_limits Script) (49 ∷ []) (tree.Int (pos 1))
one = integer _ _ ((49 ∷ [], refl, inl (refl, refl)), refl)

a : SpellsFlat (within_limits Script) (97 ∷ []) (tree.Atom (97 ∷ []))
a = atom _ _ (inl (refl, refl), omega (arith))

one_byte_long : SpellsFlat (within_limits Script) (60 ∷ 60 ∷ 55 ∷ 62 ∷ 62 ∷ []) (tree.Bin (7 ∷ []))
one_byte_long = binary _ (55 ∷ []) _ (inr (last _ _ (record {
  before = [];
  inside = 55 ∷ [];
  behind = [];
  blank_before = no_blank;
  stands = one_byte _ 7 (55 ∷ [], refl, inl (refl, refl)) refl;
  blank_behind = no_blank;
  parts = refl;
}))) refl

empty_tuple : Spells (within_limits Script) 1 (123 ∷ 125 ∷ []) (tree.Tuple [])
unfolding Spells
empty_tuple = inr (tuple _ [] [] (inl (no_blank, refl)) refl)

empty_text : Spells (within_limits Script) 1 (34 ∷ 34 ∷ []) tree.Nil
unfolding Spells
empty_text = inr (points _ [] (record { inside = []; characters = no_character; parts = refl }))

-- ---- a form: `a .`

form : IsForm (within_limits Script) 0 (97 ∷ 32 ∷ 46 ∷ []) (tree.Atom (97 ∷ []))
unfolding Spells
form = (
  97 ∷ 32 ∷ [],
  record {
    before = [];
    inside = 97 ∷ [];
    behind = 32 ∷ [];
    blank_before = no_blank;
    stands = a;
    blank_behind = space 32 [] refl no_blank;
    parts = refl;
  },
  refl,
)
