-- What a term spells is what it is read as.
use Rattle.std.proofs.Common.{◌≡◌, ℕ, ◌&&◌, Bool, true, false, IsTrue, List, [], ◌∷◌, map, codes, Some, None, refl, ap, ◌∙◌, if◌then◌else◌, pos}
use Rattle.std.proofs.lemmas.Bool.{and_parts}
use Rattle.std.specs.Option.{option_map}
use Rattle.std.specs.Str.{all_scalars, encode_utf8_all}
use lib.Utf8.{scalar}
use Rattle.kh_term.proofs.Same.{whole_is}
use Rattle.kh_term.specs.declared.name.Name.{Name}
use Rattle.kh_term.specs.declared.name.Name.TheVariants as name
use Rattle.kh_term.specs.declared.tree.TermTree.{TermTree, out-TermTree}
use Rattle.kh_term.specs.declared.tree.TermTree.TheVariants as tree
use Rattle.kh_term.specs.declared.tree.TermTree.TheVariants.{outs-Int, outs-Atom, outs-Bin, outs-Nil, outs-List, outs-Tuple}
use Rattle.kh_term.specs.Make.{list_of, name_tree}
use Rattle.kh_term.specs.Name.{is_name}
use Rattle.kh_term.specs.Parts.{name_in}
use Rattle.kh_term.specs.Size.{is_nil}
use Rattle.kh_term.specs.Text.{is_text}
use Rattle.kh_cond.specs.declared.cond.Regex.{Regex}
use Rattle.kh_cond.specs.declared.cond.Regex.TheVariants as regex
use Rattle.kh_cond.specs.declared.cond.Operator.{Operator}
use Rattle.kh_cond.specs.declared.cond.Operator.TheVariants as operator
use Rattle.kh_cond.specs.declared.cond.Comparison.{Comparison}
use Rattle.kh_cond.specs.declared.cond.Cond.{Cond}
use Rattle.kh_cond.specs.declared.cond.Cond.TheVariants as cond
use Rattle.kh_cond.specs.declared.words.Word.{Word}
use Rattle.kh_cond.specs.declared.words.Word.TheVariants as word
use Rattle.kh_cond.specs.Words.{word_text, word_of, operator_of}
use Rattle.kh_cond.specs.Forms.{form, record_form, data_record_form, bool_tree, operator_word, points_tree}
use Rattle.kh_cond.specs.Spells.{SpellsRegex, SpellsComparison, SpellsCond, SpellConds}
use Rattle.kh_cond.specs.Spells as spells
use Rattle.kh_cond.specs.Reading.{cond_in, conds_in, each_in, part_of, form_in, record_in, data_record_in, word_in, regex_in, bool_in, comparison_in, comparison_by, operator_in, int_in, point_in, points_in, point_before, text_regex, is_word, is_undefined, before}
use Rattle.kh_cond.proofs.ReadLayers.{cond-Atom, cond-Bin, cond-Tuple, conds-Nil, conds-List}

pub chosen : {A : Type 0} (b : Bool) (x y : A) → b ≡ true → (if b then x else y) ≡ x
chosen true x y e = refl
chosen false x y e = cc

-- ---- the operands

point_read : (c : ℕ) → scalar c ≡ true → point_in (out-TermTree (tree.Int (pos c))) ≡ Some c
point_read c h = ap point_in (outs-Int (pos c)) ∙ chosen (scalar c) (Some c) None h

points_read : (points : List ℕ) → IsTrue (all_scalars points) → points_in (map (λ c. tree.Int (pos c)) points) ≡ Some (encode_utf8_all points)
points_read [] h = refl
points_read (c ∷ points) h =
    let both = and_parts (scalar c) (all_scalars points) h in
    λ i. point_before (point_read c both.0 i) (points_read points both.1 i)

pub nil_tail : is_nil (out-TermTree tree.Nil) ≡ true
nil_tail = ap is_nil outs-Nil

listed : (points : List ℕ) → IsTrue (all_scalars points) → IsTrue (is_text (encode_utf8_all points)) →
    regex_in (out-TermTree (points_tree points)) ≡ Some (regex.Text (encode_utf8_all points))
listed [] h k = ap regex_in outs-Nil ∙ chosen (is_text []) (Some (regex.Text [])) None k
listed (c ∷ points) h k =
    let ts : List TermTree = map (λ p. tree.Int (pos p)) (c ∷ points) in
    ap regex_in (outs-List ts tree.Nil)
    ∙ (chosen (is_nil (out-TermTree tree.Nil)) (text_regex (points_in ts)) None nil_tail
    ∙ (ap text_regex (points_read (c ∷ points) h)
    ∙ chosen (is_text (encode_utf8_all (c ∷ points))) (Some (regex.Text (encode_utf8_all (c ∷ points)))) None k))

pub regex_read : (t : TermTree) (r : Regex) → SpellsRegex t r → regex_in (out-TermTree t) ≡ Some r
regex_read t r spells.anything = ap regex_in (outs-Atom (codes "any"))
regex_read t r (spells.bytes text h) = ap regex_in (outs-Bin text) ∙ chosen (is_text text) (Some (regex.Text text)) None h
regex_read t r (spells.points points h k) = listed points h k

bool_read : (b : Bool) → bool_in (out-TermTree (bool_tree b)) ≡ Some b
bool_read true = ap bool_in (outs-Atom (codes "true"))
bool_read false = ap bool_in (outs-Atom (codes "false"))

operator_read : (op : Operator) → operator_of (operator_word op) ≡ Some op
operator_read operator.Equal = refl
operator_read operator.NotEqual = refl
operator_read operator.Less = refl
operator_read operator.AtMost = refl
operator_read operator.Greater = refl
operator_read operator.AtLeast = refl

comparison_read : (t : TermTree) (c : Comparison) → SpellsComparison t c → comparison_in (out-TermTree t) ≡ Some c
comparison_read t c (spells.is n) = ap comparison_in (outs-Int n)
comparison_read t c (spells.by op n) =
    ap comparison_in (outs-Tuple (tree.Atom (operator_word op) ∷ tree.Int n ∷ []))
    ∙ ((λ i. comparison_by (operator_in (outs-Atom (operator_word op) i)) (int_in (outs-Int n i)))
    ∙ ap (λ o. comparison_by o (Some n)) (operator_read op))

-- ---- the forms

word_read : (w : Word) → word_of (word_text w) ≡ Some w
word_read word.NodeExists = refl
word_read word.NameMatches = refl
word_read word.PathMatches = refl
word_read word.HasPayload = refl
word_read word.HasData = refl
word_read word.HasSproc = refl
word_read word.DataMatches = refl
word_read word.PayloadVersion = refl
word_read word.ChildListVersion = refl
word_read word.ChildListLength = refl
word_read word.Not = refl
word_read word.All = refl
word_read word.Any = refl

pub atom_read : (w : Word) → word_in (out-TermTree (tree.Atom (word_text w))) ≡ Some w
atom_read w = ap word_in (outs-Atom (word_text w)) ∙ word_read w

pub undefined_read : is_undefined (tree.Atom (codes "undefined")) ≡ true
undefined_read = ap (is_word (codes "undefined")) (outs-Atom (codes "undefined"))

pub form_read : (w : Word) (t : TermTree) → cond_in (form (word_text w) t) ≡ form_in (Some w) (part_of t)
form_read w t = cond-Tuple (tree.Atom (word_text w) ∷ t ∷ []) ∙ ap (λ o. form_in o (part_of t)) (atom_read w)

pub record_read : (w : Word) (t : TermTree) → cond_in (record_form (word_text w) t) ≡ record_in (Some w) t true
record_read w t =
    cond-Tuple (tree.Atom (word_text w) ∷ t ∷ tree.Atom (codes "undefined") ∷ [])
    ∙ (λ i. record_in (atom_read w i) t (undefined_read i))

data_record_read : (t : TermTree) → cond_in (data_record_form t) ≡ data_record_in (Some word.DataMatches) t true
data_record_read t =
    cond-Tuple (tree.Atom (codes "if_data_matches") ∷ t ∷ tree.Nil ∷ tree.Atom (codes "undefined") ∷ [])
    ∙ (λ i. data_record_in (atom_read word.DataMatches i) t (nil_tail i && undefined_read i))

pub list_read : (ts : List TermTree) → conds_in (list_of ts) ≡ each_in ts
list_read [] = conds-Nil
list_read (t ∷ ts) = conds-List (t ∷ ts) tree.Nil ∙ chosen (is_nil (out-TermTree tree.Nil)) (each_in (t ∷ ts)) None nil_tail

name_read : (n : Name) → IsTrue (is_name n) → cond_in (name_tree n) ≡ Some (cond.Name n)
name_read (name.Atom text) h =
    cond-Atom text ∙ (ap (λ l. option_map cond.Name (name_in {A = TermTree} l)) (outs-Atom text)
    ∙ ap (option_map cond.Name) (chosen (is_name (name.Atom text)) (Some (name.Atom text)) None h))
name_read (name.Bin bytes) h =
    cond-Bin bytes ∙ (ap (λ l. option_map cond.Name (name_in {A = TermTree} l)) (outs-Bin bytes)
    ∙ ap (option_map cond.Name) (chosen (is_name (name.Bin bytes)) (Some (name.Bin bytes)) None h))

-- ---- conditions

mutual
  pub cond_read : (t : TermTree) (c : Cond) → SpellsCond t c → cond_in t ≡ Some c
  cond_read t c (spells.name n h) = name_read n h
  cond_read t c (spells.node_exists b) = form_read word.NodeExists (bool_tree b) ∙ ap (option_map cond.NodeExists) (bool_read b)
  cond_read t c (spells.name_matches u r s) = form_read word.NameMatches u ∙ ap (option_map cond.NameMatches) (regex_read u r s)
  cond_read t c (spells.name_matches_record u r s) = record_read word.NameMatches u ∙ ap (option_map cond.NameMatches) (regex_read u r s)
  cond_read t c (spells.has_payload b) = form_read word.HasPayload (bool_tree b) ∙ ap (option_map cond.HasPayload) (bool_read b)
  cond_read t c (spells.has_data b) = form_read word.HasData (bool_tree b) ∙ ap (option_map cond.HasData) (bool_read b)
  cond_read t c (spells.has_sproc b) = form_read word.HasSproc (bool_tree b) ∙ ap (option_map cond.HasSproc) (bool_read b)
  cond_read t c (spells.data_matches x) = form_read word.DataMatches x.node ∙ ap (λ y. Some (cond.DataMatches y)) (whole_is x x.node refl)
  cond_read t c (spells.data_matches_record x) = data_record_read x.node ∙ ap (λ y. Some (cond.DataMatches y)) (whole_is x x.node refl)
  cond_read t c (spells.payload_version u n s) = form_read word.PayloadVersion u ∙ ap (option_map cond.PayloadVersion) (comparison_read u n s)
  cond_read t c (spells.child_list_version u n s) = form_read word.ChildListVersion u ∙ ap (option_map cond.ChildListVersion) (comparison_read u n s)
  cond_read t c (spells.child_list_length u n s) = form_read word.ChildListLength u ∙ ap (option_map cond.ChildListLength) (comparison_read u n s)
  cond_read t c (spells.not u x s) = form_read word.Not u ∙ ap (option_map cond.Not) (cond_read u x s)
  cond_read t c (spells.all us xs s) = form_read word.All (list_of us) ∙ ap (option_map cond.All) (list_read us ∙ each_read us xs s)
  cond_read t c (spells.any us xs s) = form_read word.Any (list_of us) ∙ ap (option_map cond.Any) (list_read us ∙ each_read us xs s)

  pub each_read : (ts : List TermTree) (cs : List Cond) → SpellConds ts cs → each_in ts ≡ Some cs
  each_read ts cs spells.none = refl
  each_read ts cs (spells.more u x us xs s ss) = λ i. before (cond_read u x s i) (each_read us xs ss i)
