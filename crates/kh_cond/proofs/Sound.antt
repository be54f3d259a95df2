-- What a term is read as is what it spells.
use Rattle.std.proofs.Common.{◌≡◌, ℕ, ◌&&◌, Bool, true, false, true≢false, cond as choose, List, [], ◌∷◌, ◌++◌, map, codes, Option, Some, None, refl, ap, sym, subst, ◌∙◌, if◌then◌else◌, find, ℤ, pos}
use Rattle.std.proofs.lemmas.Option.{none-some, same_Some}
use Rattle.std.proofs.lemmas.Bool.{and_from, and_parts}
use Rattle.std.proofs.lemmas.Slice.Eq.{bytes_eq-Decides}
use Rattle.std.specs.Option.{option_map}
use Rattle.std.specs.Str.{all_scalars, encode_utf8_all, bytes_eq}
use Rattle.std.specs.Char.{encode_utf8}
use lib.Utf8.{scalar}
use Rattle.kh_term.specs.Lemmas.Fits.{parts_of_tuple, parts_of_list, fits_front, fits_behind, ends_list}
use Rattle.kh_term.specs.Lemmas.Induction.{Each, OfBoth, by_parts}
use Rattle.kh_term.specs.declared.name.Name.{Name}
use Rattle.kh_term.specs.declared.name.Origin.{Origin}
use Rattle.kh_term.specs.declared.name.Name.TheVariants as name
use Rattle.kh_term.specs.declared.term.Term.{Term}
use Rattle.kh_term.specs.declared.tree.TermTree.{TermTree, out-TermTree}
use Rattle.kh_term.specs.declared.tree.TermTree.TheOpen.{TermTree-F}
use Rattle.kh_term.specs.declared.tree.TermTree.TheOpen as layer
use Rattle.kh_term.specs.declared.tree.TermTree.TheVariants as tree
use Rattle.kh_term.specs.declared.tree.TermTree.TheVariants.{outs-Atom, outs-Bin, rolls-Int, rolls-Atom, rolls-Bin, rolls-Nil, rolls-List, rolls-Tuple}
use Rattle.kh_term.specs.Make.{list_of, name_tree}
use Rattle.kh_term.specs.Name.{is_name}
use Rattle.kh_term.specs.Parts.{name_in, named}
use Rattle.kh_term.specs.Size.{is_nil}
use Rattle.kh_term.specs.Text.{is_text}
use Rattle.kh_term.specs.WellFormed.{IsTerm, AreTerms}
use Rattle.kh_term.specs.Whole.{whole}
use Rattle.kh_term.specs.Lemmas.Total.{layered}
use Rattle.kh_term.proofs.Same.{whole_is}
use Rattle.kh_cond.specs.declared.cond.Regex.{Regex}
use Rattle.kh_cond.specs.declared.cond.Regex.TheVariants as regex
use Rattle.kh_cond.specs.declared.cond.Operator.{Operator}
use Rattle.kh_cond.specs.declared.cond.Comparison.{Comparison}
use Rattle.kh_cond.specs.declared.cond.Cond.{Cond}
use Rattle.kh_cond.specs.declared.cond.Cond.TheVariants as cond
use Rattle.kh_cond.specs.declared.words.Word.{Word}
use Rattle.kh_cond.specs.declared.words.Word.TheVariants as word
use Rattle.kh_cond.specs.Words.{word_text, word_of, operator_of, all_words, all_operators}
use Rattle.kh_cond.specs.Forms.{form, record_form, data_record_form, bool_tree, operator_word, points_tree}
use Rattle.kh_cond.specs.Spells.{SpellsRegex, SpellsComparison, SpellsCond, SpellConds}
use Rattle.kh_cond.specs.Spells as spells
use Rattle.kh_cond.specs.Reading.{cond_in, conds_in, each_in, part_of, form_in, row_in, record_in, data_record_in, word_in, regex_in, bool_in, bool_of, comparison_in, comparison_by, comparison_of_parts, operator_in, int_in, point_in, points_in, point_before, text_regex, is_word, is_undefined, before, tuple_in}
use Rattle.kh_cond.proofs.ReadLayers.{cond-Int, cond-Atom, cond-Bin, cond-Nil, cond-List, cond-Tuple, cond-Map, cond-Closure, conds-Int, conds-Atom, conds-Bin, conds-Nil, conds-List, conds-Tuple, conds-Map, conds-Closure}

-- ---- options

if_some : {A : Type 0} (b : Bool) (x r : A) → (if b then Some x else None) ≡ Some r → (b ≡ true) × (x ≡ r)
if_some true x r e = (refl, same_Some _ _ e)
if_some false x r e = absurd (none-some r e)

pub if_then : {A : Type 0} (b : Bool) (o : Option A) (r : A) → (if b then o else None) ≡ Some r → (b ≡ true) × (o ≡ Some r)
if_then true o r e = (refl, e)
if_then false o r e = absurd (none-some r e)

mapped : {A B : Type 0} (f : A → B) (o : Option A) (r : B) → option_map f o ≡ Some r → (x : A) × (o ≡ Some x) × (f x ≡ r)
mapped f None r e = absurd (none-some r e)
mapped f (Some x) r e = (x, refl, same_Some _ _ e)

here : {A : Type 0} (p : A → Bool) (y : A) (ys : List A) (x : A) → (find p ys ≡ Some x → p x ≡ true) → (b : Bool) → p y ≡ b →
    choose b (Some y) (find p ys) ≡ Some x → p x ≡ true
here p y ys x further true is e = ap p (sym (same_Some _ _ e)) ∙ is
here p y ys x further false is e = further e

-- what is found passes the test
found : {A : Type 0} (p : A → Bool) (ys : List A) (x : A) → find p ys ≡ Some x → p x ≡ true
found p [] x e = absurd (none-some x e)
found p (y ∷ ys) x e = here p y ys x (found p ys x) (p y) refl e

-- ---- words

word_found : (text : List ℕ) (w : Word) → word_of text ≡ Some w → text ≡ word_text w
word_found text w e = (bytes_eq-Decides text (word_text w)).0 (found (λ v. bytes_eq text (word_text v)) all_words w e)

operator_found : (text : List ℕ) (op : Operator) → operator_of text ≡ Some op → text ≡ operator_word op
operator_found text op e = (bytes_eq-Decides text (operator_word op)).0 (found (λ v. bytes_eq text (operator_word v)) all_operators op e)

pub word_inverse : (t : TermTree) (w : Word) → word_in (out-TermTree t) ≡ Some w → t ≡ tree.Atom (word_text w)
word_inverse t w h = go (out-TermTree t) refl h
  where
    go : (l : TermTree-F TermTree) → out-TermTree t ≡ l → word_in l ≡ Some w → t ≡ tree.Atom (word_text w)
    go (layer.Atom text) e h = layered t _ e ∙ (rolls-Atom text ∙ ap tree.Atom (word_found text w h))
    go l e h = absurd (none-some w h)

operator_inverse : (t : TermTree) (op : Operator) → operator_in (out-TermTree t) ≡ Some op → t ≡ tree.Atom (operator_word op)
operator_inverse t op h = go (out-TermTree t) refl h
  where
    go : (l : TermTree-F TermTree) → out-TermTree t ≡ l → operator_in l ≡ Some op → t ≡ tree.Atom (operator_word op)
    go (layer.Atom text) e h = layered t _ e ∙ (rolls-Atom text ∙ ap tree.Atom (operator_found text op h))
    go l e h = absurd (none-some op h)

int_inverse : (t : TermTree) (n : ℤ) → int_in (out-TermTree t) ≡ Some n → t ≡ tree.Int n
int_inverse t n h = go (out-TermTree t) refl h
  where
    go : (l : TermTree-F TermTree) → out-TermTree t ≡ l → int_in l ≡ Some n → t ≡ tree.Int n
    go (layer.Int m) e h = layered t _ e ∙ (rolls-Int m ∙ ap tree.Int (same_Some _ _ h))
    go l e h = absurd (none-some n h)

pub atom_inverse : (t : TermTree) (text : List ℕ) → is_word text (out-TermTree t) ≡ true → t ≡ tree.Atom text
atom_inverse t text h = go (out-TermTree t) refl h
  where
    go : (l : TermTree-F TermTree) → out-TermTree t ≡ l → is_word text l ≡ true → t ≡ tree.Atom text
    go (layer.Atom u) e h = layered t _ e ∙ (rolls-Atom u ∙ ap tree.Atom ((bytes_eq-Decides u text).0 h))
    go l e h = absurd (true≢false (sym h))

nil_inverse : (t : TermTree) → is_nil (out-TermTree t) ≡ true → t ≡ tree.Nil
nil_inverse t h = go (out-TermTree t) refl h
  where
    go : (l : TermTree-F TermTree) → out-TermTree t ≡ l → is_nil l ≡ true → t ≡ tree.Nil
    go layer.Nil e h = layered t _ e ∙ rolls-Nil
    go l e h = absurd (true≢false (sym h))

-- a list whose tail is nil is the list of its elements
pub list_shape : (ts : List TermTree) (tail : TermTree) → IsTerm (tree.List ts tail) → is_nil (out-TermTree tail) ≡ true → tree.List ts tail ≡ list_of ts
list_shape [] tail h n = absurd (true≢false (sym (ends_list [] tail h)))
list_shape (t ∷ ts) tail h n = ap (tree.List (t ∷ ts)) (nil_inverse tail n)

bool_found : (text : List ℕ) (b : Bool) → bool_of text ≡ Some b → text ≡ (if b then codes "true" else codes "false")
bool_found text b h = go (bytes_eq text (codes "true")) (bytes_eq text (codes "false")) refl refl h
  where
    go : (x y : Bool) → bytes_eq text (codes "true") ≡ x → bytes_eq text (codes "false") ≡ y → (if x then Some true else (if y then Some false else None)) ≡ Some b → text ≡ (if b then codes "true" else codes "false")
    go true y e f h = subst (λ (c : Bool). text ≡ (if c then codes "true" else codes "false")) (same_Some _ _ h) ((bytes_eq-Decides text (codes "true")).0 e)
    go false true e f h = subst (λ (c : Bool). text ≡ (if c then codes "true" else codes "false")) (same_Some _ _ h) ((bytes_eq-Decides text (codes "false")).0 f)
    go false false e f h = absurd (none-some b h)

bool_inverse : (t : TermTree) (b : Bool) → bool_in (out-TermTree t) ≡ Some b → t ≡ bool_tree b
bool_inverse t b h = go (out-TermTree t) refl h
  where
    go : (l : TermTree-F TermTree) → out-TermTree t ≡ l → bool_in l ≡ Some b → t ≡ bool_tree b
    go (layer.Atom text) e h = layered t _ e ∙ (rolls-Atom text ∙ ap tree.Atom (bool_found text b h))
    go l e h = absurd (none-some b h)

-- ---- regular expressions

Points : List TermTree → List ℕ → Type 0
Points ts text = (ps : List ℕ) × (ts ≡ map (λ c. tree.Int (pos c)) ps) × (all_scalars ps ≡ true) × (text ≡ encode_utf8_all ps)

point_inverse : (t : TermTree) (c : ℕ) → point_in (out-TermTree t) ≡ Some c → (t ≡ tree.Int (pos c)) × (scalar c ≡ true)
point_inverse t c h = go (out-TermTree t) refl h
  where
    go : (l : TermTree-F TermTree) → out-TermTree t ≡ l → point_in l ≡ Some c → (t ≡ tree.Int (pos c)) × (scalar c ≡ true)
    go (layer.Int (pos n)) e h =
        let p = if_some (scalar n) n c h in
        (layered t _ e ∙ (rolls-Int (pos n) ∙ ap (λ k. tree.Int (pos k)) p.1), ap scalar (sym p.1) ∙ p.0)
    go l e h = absurd (none-some c h)

one_more : (t : TermTree) (ts : List TermTree) (text : List ℕ) (o : Option ℕ) (rest : Option (List ℕ)) → point_in (out-TermTree t) ≡ o → points_in ts ≡ rest →
    point_before o rest ≡ Some text → ((u : List ℕ) → points_in ts ≡ Some u → Points ts u) → Points (t ∷ ts) text
unfolding Points
one_more t ts text None rest e f h more = absurd (none-some text h)
one_more t ts text (Some c) None e f h more = absurd (none-some text h)
one_more t ts text (Some c) (Some u) e f h more =
    let p = point_inverse t c e in
    let q = more u f in
    (c ∷ q.0, (λ i. p.0 i ∷ q.1 i), and_from _ _ p.1 q.2, sym (same_Some _ _ h) ∙ ap (λ v. encode_utf8 c ++ v) q.3)

points_inverse : (ts : List TermTree) (text : List ℕ) → points_in ts ≡ Some text → Points ts text
unfolding Points
points_inverse [] text h = ([], refl, refl, sym (same_Some _ _ h))
points_inverse (t ∷ ts) text h = one_more t ts text (point_in (out-TermTree t)) (points_in ts) refl refl h (points_inverse ts)

text_inverse : (o : Option (List ℕ)) (r : Regex) → text_regex o ≡ Some r → (text : List ℕ) × (o ≡ Some text) × (is_text text ≡ true) × (regex.Text text ≡ r)
text_inverse None r h = absurd (none-some r h)
text_inverse (Some text) r h = let p = if_some (is_text text) (regex.Text text) r h in (text, refl, p.0, p.1)

listed : (t : TermTree) (r : Regex) (ts : List TermTree) (text : List ℕ) → Points ts text → t ≡ list_of ts → is_text text ≡ true → regex.Text text ≡ r → SpellsRegex t r
unfolding Points
listed t r ts text ps is fits same =
    let tree_is : t ≡ points_tree ps.0 = is ∙ ap list_of ps.1 in
    let text_is : regex.Text (encode_utf8_all ps.0) ≡ r = ap regex.Text (sym ps.3) ∙ same in
    let fits_so : is_text (encode_utf8_all ps.0) ≡ true = ap is_text (sym ps.3) ∙ fits in
    subst (λ u. SpellsRegex u r) (sym tree_is) (subst (SpellsRegex (points_tree ps.0)) text_is (spells.points ps.0 ps.2 fits_so))

pub regex_sound : (t : TermTree) (r : Regex) → IsTerm t → regex_in (out-TermTree t) ≡ Some r → SpellsRegex t r
regex_sound t r fits h = go (out-TermTree t) refl h
  where
    go : (l : TermTree-F TermTree) → out-TermTree t ≡ l → regex_in l ≡ Some r → SpellsRegex t r
    go (layer.Atom text) e h =
        let p = if_some (bytes_eq text (codes "any")) regex.Any r h in
        let is : t ≡ tree.Atom (codes "any") = layered t _ e ∙ (rolls-Atom text ∙ ap tree.Atom ((bytes_eq-Decides text (codes "any")).0 p.0)) in
        subst (λ u. SpellsRegex u r) (sym is) (subst (SpellsRegex (tree.Atom (codes "any"))) p.1 spells.anything)
    go (layer.Bin bytes) e h =
        let p = text_inverse (Some bytes) r h in
        let is : t ≡ tree.Bin p.0 = layered t _ e ∙ (rolls-Bin bytes ∙ ap tree.Bin (same_Some _ _ p.1)) in
        subst (λ u. SpellsRegex u r) (sym is) (subst (SpellsRegex (tree.Bin p.0)) p.3 (spells.bytes p.0 p.2))
    go layer.Nil e h =
        let p = text_inverse (Some []) r h in
        let is : t ≡ tree.Nil = layered t _ e ∙ rolls-Nil in
        let same : regex.Text [] ≡ r = ap regex.Text (same_Some _ _ p.1) ∙ p.3 in
        subst (λ u. SpellsRegex u r) (sym is) (subst (SpellsRegex tree.Nil) same (spells.points [] refl (ap is_text (same_Some _ _ p.1) ∙ p.2)))
    go (layer.List ts tail) e h =
        let is : t ≡ tree.List ts tail = layered t _ e ∙ rolls-List ts tail in
        let p = if_then (is_nil (out-TermTree tail)) (text_regex (points_in ts)) r h in
        let q = text_inverse (points_in ts) r p.1 in
        listed t r ts q.0 (points_inverse ts q.0 q.1) (is ∙ list_shape ts tail (subst IsTerm is fits) p.0) q.2 q.3
    go l e h = absurd (none-some r h)

-- ---- comparisons

comparison_sound : (t : TermTree) (c : Comparison) → comparison_in (out-TermTree t) ≡ Some c → SpellsComparison t c
comparison_sound t c h = go (out-TermTree t) refl h
  where
    by_parts_of : (a b : TermTree) (o : Option Operator) (z : Option ℤ) → operator_in (out-TermTree a) ≡ o → int_in (out-TermTree b) ≡ z →
        comparison_by o z ≡ Some c → SpellsComparison (tree.Tuple (a ∷ b ∷ [])) c
    by_parts_of a b (Some op) (Some n) e f h =
        subst (λ u. SpellsComparison (tree.Tuple (u ∷ b ∷ [])) c) (sym (operator_inverse a op e))
        (subst (λ u. SpellsComparison (tree.Tuple (tree.Atom (operator_word op) ∷ u ∷ [])) c) (sym (int_inverse b n f))
        (subst (SpellsComparison (form (operator_word op) (tree.Int n))) (same_Some _ _ h) (spells.by op n)))
    by_parts_of a b None z e f h = absurd (none-some c h)
    by_parts_of a b (Some op) None e f h = absurd (none-some c h)

    of_tuple : (parts : List TermTree) → comparison_of_parts parts ≡ Some c → SpellsComparison (tree.Tuple parts) c
    of_tuple (a ∷ b ∷ []) h = by_parts_of a b (operator_in (out-TermTree a)) (int_in (out-TermTree b)) refl refl h
    of_tuple [] h = absurd (none-some c h)
    of_tuple (a ∷ []) h = absurd (none-some c h)
    of_tuple (a ∷ b ∷ d ∷ ts) h = absurd (none-some c h)

    go : (l : TermTree-F TermTree) → out-TermTree t ≡ l → comparison_in l ≡ Some c → SpellsComparison t c
    go (layer.Int n) e h =
        subst (λ u. SpellsComparison u c) (sym (layered t _ e ∙ rolls-Int n)) (subst (SpellsComparison (tree.Int n)) (same_Some _ _ h) (spells.is n))
    go (layer.Tuple parts) e h = subst (λ u. SpellsComparison u c) (sym (layered t _ e ∙ rolls-Tuple parts)) (of_tuple parts h)
    go l e h = absurd (none-some c h)

-- ---- conditions

-- a list whose elements spell conditions
abbrev pub Listed : TermTree → List Cond → Type 0
Listed t cs = (ts : List TermTree) × (t ≡ list_of ts) × SpellConds ts cs

-- what a term is read as, it spells
abbrev pub Sound : TermTree → Type 0
Sound t = IsTerm t → ((c : Cond) → cond_in t ≡ Some c → SpellsCond t c) × ((cs : List Cond) → conds_in t ≡ Some cs → Listed t cs)

-- a row of a boolean, of a regular expression, of a comparison
bool_row : (w : Word) (f : Bool → Cond) → ((b : Bool) → SpellsCond (form (word_text w) (bool_tree b)) (f b)) →
    (t : TermTree) (c : Cond) → option_map f (bool_in (out-TermTree t)) ≡ Some c → SpellsCond (form (word_text w) t) c
bool_row w f rule t c h =
    let m = mapped f (bool_in (out-TermTree t)) c h in
    subst (λ u. SpellsCond (form (word_text w) u) c) (sym (bool_inverse t m.0 m.1)) (subst (SpellsCond (form (word_text w) (bool_tree m.0))) m.2 (rule m.0))

regex_row : (f : Regex → Cond) (u : TermTree) → (t : TermTree) → ((r : Regex) → SpellsRegex t r → SpellsCond u (f r)) →
    (c : Cond) → IsTerm t → option_map f (regex_in (out-TermTree t)) ≡ Some c → SpellsCond u c
regex_row f u t rule c fits h =
    let m = mapped f (regex_in (out-TermTree t)) c h in
    subst (SpellsCond u) m.2 (rule m.0 (regex_sound t m.0 fits m.1))

comparison_row : (f : Comparison → Cond) (u : TermTree) → (t : TermTree) → ((n : Comparison) → SpellsComparison t n → SpellsCond u (f n)) →
    (c : Cond) → option_map f (comparison_in (out-TermTree t)) ≡ Some c → SpellsCond u c
comparison_row f u t rule c h =
    let m = mapped f (comparison_in (out-TermTree t)) c h in
    subst (SpellsCond u) m.2 (rule m.0 (comparison_sound t m.0 m.1))

-- a term's own tree
term_of : (t : TermTree) → IsTerm t → Term
term_of t h = record { node = t; fits = h }

data_row : (u t : TermTree) → ((x : Term) → x.node ≡ t → SpellsCond u (cond.DataMatches x)) → (c : Cond) (h : IsTerm t) → Some (cond.DataMatches (whole t)) ≡ Some c → SpellsCond u c
unfolding term_of
data_row u t rule c h e =
    subst (SpellsCond u) (ap cond.DataMatches (sym (whole_is (term_of t h) t refl)) ∙ same_Some _ _ e) (rule (term_of t h) refl)

data_rule : (t : TermTree) (x : Term) → x.node ≡ t → SpellsCond (form (codes "if_data_matches") t) (cond.DataMatches x)
data_rule t x e = subst (λ u. SpellsCond (form (codes "if_data_matches") u) (cond.DataMatches x)) e (spells.data_matches x)

data_record_rule : (t : TermTree) (x : Term) → x.node ≡ t → SpellsCond (data_record_form t) (cond.DataMatches x)
data_record_rule t x e = subst (λ u. SpellsCond (data_record_form u) (cond.DataMatches x)) e (spells.data_matches_record x)

row_sound : (w : Word) (t : TermTree) (c : Cond) → IsTerm t → row_in w t ≡ Some c → SpellsCond (form (word_text w) t) c
row_sound word.NodeExists t c fits h = bool_row word.NodeExists cond.NodeExists spells.node_exists t c h
row_sound word.NameMatches t c fits h = regex_row cond.NameMatches _ t (spells.name_matches t) c fits h
row_sound word.HasPayload t c fits h = bool_row word.HasPayload cond.HasPayload spells.has_payload t c h
row_sound word.HasData t c fits h = bool_row word.HasData cond.HasData spells.has_data t c h
row_sound word.HasSproc t c fits h = bool_row word.HasSproc cond.HasSproc spells.has_sproc t c h
row_sound word.DataMatches t c fits h = data_row _ t (data_rule t) c fits h
row_sound word.PayloadVersion t c fits h = comparison_row cond.PayloadVersion _ t (spells.payload_version t) c h
row_sound word.ChildListVersion t c fits h = comparison_row cond.ChildListVersion _ t (spells.child_list_version t) c h
row_sound word.ChildListLength t c fits h = comparison_row cond.ChildListLength _ t (spells.child_list_length t) c h
row_sound w t c fits h = absurd (none-some c h)

combined : (u t : TermTree) (f : List Cond → Cond) → ((ts : List TermTree) (cs : List Cond) → t ≡ list_of ts → SpellConds ts cs → SpellsCond u (f cs)) →
    Sound t → IsTerm t → (c : Cond) → option_map f (conds_in t) ≡ Some c → SpellsCond u c
combined u t f rule sound fits c h =
    let m = mapped f (conds_in t) c h in
    let l = (sound fits).1 m.0 m.1 in
    subst (SpellsCond u) m.2 (rule l.0 m.0 l.1 l.2)

all_rule : (t : TermTree) (ts : List TermTree) (cs : List Cond) → t ≡ list_of ts → SpellConds ts cs → SpellsCond (form (codes "if_all") t) (cond.All cs)
all_rule t ts cs e s = subst (λ u. SpellsCond (form (codes "if_all") u) (cond.All cs)) (sym e) (spells.all ts cs s)

any_rule : (t : TermTree) (ts : List TermTree) (cs : List Cond) → t ≡ list_of ts → SpellConds ts cs → SpellsCond (form (codes "if_any") t) (cond.Any cs)
any_rule t ts cs e s = subst (λ u. SpellsCond (form (codes "if_any") u) (cond.Any cs)) (sym e) (spells.any ts cs s)

form_sound : (w : Word) (t : TermTree) (c : Cond) → Sound t → IsTerm t → form_in (Some w) (part_of t) ≡ Some c → SpellsCond (form (word_text w) t) c
form_sound word.Not t c sound fits h =
    let m = mapped cond.Not (cond_in t) c h in
    subst (SpellsCond (form (codes "if_not") t)) m.2 (spells.not t m.0 ((sound fits).0 m.0 m.1))
form_sound word.All t c sound fits h = combined _ t cond.All (all_rule t) sound fits c h
form_sound word.Any t c sound fits h = combined _ t cond.Any (any_rule t) sound fits c h
form_sound word.NodeExists t c sound fits h = row_sound word.NodeExists t c fits h
form_sound word.NameMatches t c sound fits h = row_sound word.NameMatches t c fits h
form_sound word.PathMatches t c sound fits h = row_sound word.PathMatches t c fits h
form_sound word.HasPayload t c sound fits h = row_sound word.HasPayload t c fits h
form_sound word.HasData t c sound fits h = row_sound word.HasData t c fits h
form_sound word.HasSproc t c sound fits h = row_sound word.HasSproc t c fits h
form_sound word.DataMatches t c sound fits h = row_sound word.DataMatches t c fits h
form_sound word.PayloadVersion t c sound fits h = row_sound word.PayloadVersion t c fits h
form_sound word.ChildListVersion t c sound fits h = row_sound word.ChildListVersion t c fits h
form_sound word.ChildListLength t c sound fits h = row_sound word.ChildListLength t c fits h

two_sound : (w t : TermTree) (c : Cond) → Sound t → IsTerm t → (o : Option Word) → word_in (out-TermTree w) ≡ o → form_in o (part_of t) ≡ Some c →
    SpellsCond (tree.Tuple (w ∷ t ∷ [])) c
two_sound w t c sound fits None e h = absurd (none-some c h)
two_sound w t c sound fits (Some k) e h =
    subst (λ u. SpellsCond (tree.Tuple (u ∷ t ∷ [])) c) (sym (word_inverse w k e)) (form_sound k t c sound fits h)

three_sound : (w t last : TermTree) (c : Cond) → IsTerm t → (o : Option Word) (b : Bool) → word_in (out-TermTree w) ≡ o → is_undefined last ≡ b →
    record_in o t b ≡ Some c → SpellsCond (tree.Tuple (w ∷ t ∷ last ∷ [])) c
three_sound w t last c fits (Some word.NameMatches) true e f h =
    subst (λ u. SpellsCond (tree.Tuple (u ∷ t ∷ last ∷ [])) c) (sym (word_inverse w word.NameMatches e))
    (subst (λ u. SpellsCond (tree.Tuple (tree.Atom (codes "if_name_matches") ∷ t ∷ u ∷ [])) c) (sym (atom_inverse last (codes "undefined") f))
    (regex_row cond.NameMatches (record_form (codes "if_name_matches") t) t (spells.name_matches_record t) c fits h))
three_sound w t last c fits o b e f h = absurd (none-some c h)

four_sound : (w t options last : TermTree) (c : Cond) → IsTerm t → (o : Option Word) (b : Bool) → word_in (out-TermTree w) ≡ o →
    (is_nil (out-TermTree options) && is_undefined last) ≡ b → data_record_in o t b ≡ Some c → SpellsCond (tree.Tuple (w ∷ t ∷ options ∷ last ∷ [])) c
four_sound w t options last c fits (Some word.DataMatches) true e f h =
    let both = and_parts (is_nil (out-TermTree options)) (is_undefined last) f in
    subst (λ u. SpellsCond (tree.Tuple (u ∷ t ∷ options ∷ last ∷ [])) c) (sym (word_inverse w word.DataMatches e))
    (subst (λ u. SpellsCond (tree.Tuple (tree.Atom (codes "if_data_matches") ∷ t ∷ u ∷ last ∷ [])) c) (sym (nil_inverse options both.0))
    (subst (λ u. SpellsCond (tree.Tuple (tree.Atom (codes "if_data_matches") ∷ t ∷ tree.Nil ∷ u ∷ [])) c) (sym (atom_inverse last (codes "undefined") both.1))
    (data_row (data_record_form t) t (data_record_rule t) c fits h)))
four_sound w t options last c fits o b e f h = absurd (none-some c h)

tuple_sound : (ts : List TermTree) → Each Sound ts → AreTerms ts → (c : Cond) → tuple_in (map part_of ts) ≡ Some c → SpellsCond (tree.Tuple ts) c
tuple_sound [] each fit c h = absurd (none-some c h)
tuple_sound (w ∷ []) each fit c h = absurd (none-some c h)
tuple_sound (w ∷ t ∷ []) each fit c h =
    two_sound w t c each.1.0 (fits_front t [] (fits_behind w (t ∷ []) fit)) (word_in (out-TermTree w)) refl h
tuple_sound (w ∷ t ∷ last ∷ []) each fit c h =
    three_sound w t last c (fits_front t (last ∷ []) (fits_behind w (t ∷ last ∷ []) fit)) (word_in (out-TermTree w)) (is_undefined last) refl refl h
tuple_sound (w ∷ t ∷ options ∷ last ∷ []) each fit c h =
    four_sound w t options last c (fits_front t (options ∷ last ∷ []) (fits_behind w (t ∷ options ∷ last ∷ []) fit)) (word_in (out-TermTree w))
    (is_nil (out-TermTree options) && is_undefined last) refl refl h
tuple_sound (w ∷ t ∷ options ∷ last ∷ other ∷ ts) each fit c h = absurd (none-some c h)

one_sound : (t : TermTree) (ts : List TermTree) (cs : List Cond) → Sound t → IsTerm t → ((ds : List Cond) → each_in ts ≡ Some ds → SpellConds ts ds) →
    (o : Option Cond) (rest : Option (List Cond)) → cond_in t ≡ o → each_in ts ≡ rest → before o rest ≡ Some cs → SpellConds (t ∷ ts) cs
one_sound t ts cs sound fits more None rest e f h = absurd (none-some cs h)
one_sound t ts cs sound fits more (Some c) None e f h = absurd (none-some cs h)
one_sound t ts cs sound fits more (Some c) (Some ds) e f h =
    subst (SpellConds (t ∷ ts)) (same_Some _ _ h) (spells.more t c ts ds ((sound fits).0 c e) (more ds f))

pub each_sound : (ts : List TermTree) → Each Sound ts → AreTerms ts → (cs : List Cond) → each_in ts ≡ Some cs → SpellConds ts cs
each_sound [] each fit cs h = subst (SpellConds []) (same_Some _ _ h) spells.none
each_sound (t ∷ ts) each fit cs h =
    one_sound t ts cs each.0 (fits_front t ts fit) (each_sound ts each.1 (fits_behind t ts fit)) (cond_in t) (each_in ts) refl refl h

name_sound : (n : Name) (c : Cond) → option_map cond.Name (named n) ≡ Some c → SpellsCond (name_tree n) c
name_sound n c h =
    let m = mapped cond.Name (named n) c h in
    let p = if_some (is_name n) n m.0 m.1 in
    subst (SpellsCond (name_tree n)) (ap cond.Name p.1 ∙ m.2) (spells.name n p.0)

-- each term is read as what it spells
pub sound : (t : TermTree) → Sound t
sound = by_parts Sound record {
  at_int = at_int;
  at_atom = at_atom;
  at_bin = at_bin;
  at_nil = at_nil;
  at_list = at_list;
  at_tuple = at_tuple;
  at_map = at_map;
  at_closure = at_closure;
}
  where
    at_int : (n : ℤ) → Sound (tree.Int n)
    at_int n fits = (λ c h. absurd (none-some c (sym (cond-Int n) ∙ h)), λ cs h. absurd (none-some cs (sym (conds-Int n) ∙ h)))

    at_atom : (text : List ℕ) → Sound (tree.Atom text)
    at_atom text fits = (
      λ c h. name_sound (name.Atom text) c (ap (λ l. option_map cond.Name (name_in {A = TermTree} l)) (sym (outs-Atom text)) ∙ (sym (cond-Atom text) ∙ h)),
      λ cs h. absurd (none-some cs (sym (conds-Atom text) ∙ h)),
    )

    at_bin : (bytes : List ℕ) → Sound (tree.Bin bytes)
    at_bin bytes fits = (
      λ c h. name_sound (name.Bin bytes) c (ap (λ l. option_map cond.Name (name_in {A = TermTree} l)) (sym (outs-Bin bytes)) ∙ (sym (cond-Bin bytes) ∙ h)),
      λ cs h. absurd (none-some cs (sym (conds-Bin bytes) ∙ h)),
    )

    at_nil : Sound tree.Nil
    at_nil fits = (
      λ c h. absurd (none-some c (sym cond-Nil ∙ h)),
      λ cs h. ([], refl, subst (SpellConds []) (same_Some _ _ (sym conds-Nil ∙ h)) spells.none),
    )

    at_list : (ts : List TermTree) (tail : TermTree) → Each Sound ts → Sound tail → Sound (tree.List ts tail)
    at_list ts tail each t fits = (
      λ c h. absurd (none-some c (sym (cond-List ts tail) ∙ h)),
      λ cs h. let p = if_then (is_nil (out-TermTree tail)) (each_in ts) cs (sym (conds-List ts tail) ∙ h) in
          (ts, list_shape ts tail fits p.0, each_sound ts each (parts_of_list ts tail fits) cs p.1),
    )

    at_tuple : (ts : List TermTree) → Each Sound ts → Sound (tree.Tuple ts)
    at_tuple ts each fits = (
      λ c h. tuple_sound ts each (parts_of_tuple ts fits) c (sym (cond-Tuple ts) ∙ h),
      λ cs h. absurd (none-some cs (sym (conds-Tuple ts) ∙ h)),
    )

    at_map : (ps : List (TermTree × TermTree)) → Each (OfBoth Sound) ps → Sound (tree.Map ps)
    at_map ps each fits = (λ c h. absurd (none-some c (sym (cond-Map ps) ∙ h)), λ cs h. absurd (none-some cs (sym (conds-Map ps) ∙ h)))

    at_closure : (origin : Origin) (env : List TermTree) → Each Sound env → Sound (tree.Closure origin env)
    at_closure origin env each fits = (λ c h. absurd (none-some c (sym (cond-Closure origin env) ∙ h)), λ cs h. absurd (none-some cs (sym (conds-Closure origin env) ∙ h)))
