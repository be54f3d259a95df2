-- Which terms spell which conditions and patterns. Each case is a row of the language.
use Rattle.std.specs.Prelude.{◌≡◌, ◌≤◌, ℕ, Bool, IsTrue, List, [], ◌∷◌, length, codes, ℤ}
use Rattle.std.specs.Str.{all_scalars, encode_utf8_all}
use Rattle.kh_term.specs.declared.name.Name.{Name}
use Rattle.kh_term.specs.declared.term.Term.{Term}
use Rattle.kh_term.specs.declared.tree.TermTree.{TermTree}
use Rattle.kh_term.specs.declared.tree.TermTree.TheVariants as tree
use Rattle.kh_term.specs.Make.{list_of, name_tree}
use Rattle.kh_term.specs.Name.{is_name}
use Rattle.kh_term.specs.Text.{is_text}
use Rattle.kh_cond.specs.declared.cond.Regex.{Regex}
use Rattle.kh_cond.specs.declared.cond.Regex.TheVariants as regex
use Rattle.kh_cond.specs.declared.cond.Operator.{Operator}
use Rattle.kh_cond.specs.declared.cond.Comparison.{Comparison}
use Rattle.kh_cond.specs.declared.cond.Comparison.TheVariants as comparison
use Rattle.kh_cond.specs.declared.cond.Cond.{Cond}
use Rattle.kh_cond.specs.declared.cond.Cond.TheVariants as cond
use Rattle.kh_cond.specs.declared.component.Component.{Component}
use Rattle.kh_cond.specs.declared.component.Component.TheVariants as component
use Rattle.kh_cond.specs.Forms.{form, record_form, data_record_form, bool_tree, operator_word, points_tree}

-- `any`, a binary, or a list of code points; a text is UTF-8 of at most 4,096 bytes
pub data SpellsRegex : TermTree → Regex → Type 0 where
  anything : SpellsRegex (tree.Atom (codes "any")) regex.Any
  bytes : (text : List ℕ) → IsTrue (is_text text) → SpellsRegex (tree.Bin text) (regex.Text text)
  points : (points : List ℕ) → IsTrue (all_scalars points) → IsTrue (is_text (encode_utf8_all points)) →
      SpellsRegex (points_tree points) (regex.Text (encode_utf8_all points))

-- an integer, or the word of an operator and one
pub data SpellsComparison : TermTree → Comparison → Type 0 where
  is : (n : ℤ) → SpellsComparison (tree.Int n) (comparison.Is n)
  by : (op : Operator) (n : ℤ) → SpellsComparison (form (operator_word op) (tree.Int n)) (comparison.By op n)

mutual
  -- a name, or a tuple; names and data have a record spelling beside the short one
  pub data SpellsCond : TermTree → Cond → Type 0 where
    name : (n : Name) → IsTrue (is_name n) → SpellsCond (name_tree n) (cond.Name n)
    node_exists : (b : Bool) → SpellsCond (form (codes "if_node_exists") (bool_tree b)) (cond.NodeExists b)
    name_matches : (t : TermTree) (r : Regex) → SpellsRegex t r →
        SpellsCond (form (codes "if_name_matches") t) (cond.NameMatches r)
    name_matches_record : (t : TermTree) (r : Regex) → SpellsRegex t r →
        SpellsCond (record_form (codes "if_name_matches") t) (cond.NameMatches r)
    has_payload : (b : Bool) → SpellsCond (form (codes "if_has_payload") (bool_tree b)) (cond.HasPayload b)
    has_data : (b : Bool) → SpellsCond (form (codes "if_has_data") (bool_tree b)) (cond.HasData b)
    has_sproc : (b : Bool) → SpellsCond (form (codes "if_has_sproc") (bool_tree b)) (cond.HasSproc b)
    data_matches : (pattern : Term) →
        SpellsCond (form (codes "if_data_matches") pattern.node) (cond.DataMatches pattern)
    data_matches_record : (pattern : Term) → SpellsCond (data_record_form pattern.node) (cond.DataMatches pattern)
    payload_version : (t : TermTree) (c : Comparison) → SpellsComparison t c →
        SpellsCond (form (codes "if_payload_version") t) (cond.PayloadVersion c)
    child_list_version : (t : TermTree) (c : Comparison) → SpellsComparison t c →
        SpellsCond (form (codes "if_child_list_version") t) (cond.ChildListVersion c)
    child_list_length : (t : TermTree) (c : Comparison) → SpellsComparison t c →
        SpellsCond (form (codes "if_child_list_length") t) (cond.ChildListLength c)
    not : (t : TermTree) (c : Cond) → SpellsCond t c → SpellsCond (form (codes "if_not") t) (cond.Not c)
    all : (ts : List TermTree) (cs : List Cond) → SpellConds ts cs → SpellsCond (form (codes "if_all") (list_of ts)) (cond.All cs)
    any : (ts : List TermTree) (cs : List Cond) → SpellConds ts cs → SpellsCond (form (codes "if_any") (list_of ts)) (cond.Any cs)

  -- each term spells the condition at its place
  pub data SpellConds : List TermTree → List Cond → Type 0 where
    none : SpellConds [] []
    more : (t : TermTree) (c : Cond) (ts : List TermTree) (cs : List Cond) → SpellsCond t c → SpellConds ts cs → SpellConds (t ∷ ts) (c ∷ cs)

-- the regular expression of names joined by `/`
pub data SpellsPathRegex : TermTree → Regex → Type 0 where
  short : (t : TermTree) (r : Regex) → SpellsRegex t r → SpellsPathRegex (form (codes "if_path_matches") t) r
  record_spelling : (t : TermTree) (r : Regex) → SpellsRegex t r → SpellsPathRegex (record_form (codes "if_path_matches") t) r

-- a condition, or what takes many names: a path's regular expression, or an `if_all` that begins with one
pub data SpellsComponent : TermTree → Component → Type 0 where
  one : (t : TermTree) (c : Cond) → SpellsCond t c → SpellsComponent t (component.One c)
  many : (t : TermTree) (r : Regex) → SpellsPathRegex t r → SpellsComponent t (component.Many r)
  many_all : (t : TermTree) (r : Regex) (ts : List TermTree) (cs : List Cond) → SpellsPathRegex t r → SpellConds ts cs →
      SpellsComponent (form (codes "if_all") (list_of (t ∷ ts))) (component.ManyAll r cs)

pub data SpellComponents : List TermTree → List Component → Type 0 where
  end : SpellComponents [] []
  next : (t : TermTree) (c : Component) (ts : List TermTree) (cs : List Component) → SpellsComponent t c → SpellComponents ts cs →
      SpellComponents (t ∷ ts) (c ∷ cs)

-- a list of at most 32 components
abbrev pub SpellsPattern : TermTree → List Component → Type 0
SpellsPattern t cs = (ts : List TermTree) × (t ≡ list_of ts) × SpellComponents ts cs × (length cs ≤ 32)
