-- What the definitions over conditions say of each row.
use Rattle.std.proofs.Common.{◌≡◌, ◌<◌, ℕ, suc, ◌+◌, Bool, true, false, not, List, [], ◌∷◌, ◌++◌, codes, map, sum, length, get_or, drop, Option, Some, None, is_some, refl, ap, sym, ◌∙◌, add-one, drop-cons}
use Rattle.std.specs.List.{list_all, list_any, flat_map}
use Rattle.kh_term.specs.declared.name.Name.{Name}
use Rattle.kh_term.specs.declared.term.Term.{Term}
use Rattle.kh_term.specs.declared.view.NodeView.{NodeView}
use Rattle.kh_term.specs.Lemmas.Fits.{sum-cons}
use Rattle.kh_cond.specs.declared.cond.Regex.{Regex}
use Rattle.kh_cond.specs.declared.cond.Comparison.{Comparison}
use Rattle.kh_cond.specs.declared.cond.Cond.{Cond, out-Cond}
use Rattle.kh_cond.specs.declared.cond.Cond.TheVariants as cond
use Rattle.kh_cond.specs.declared.cond.Cond.TheVariants.{outs-Name, outs-NodeExists, outs-NameMatches, outs-PathMatches, outs-HasPayload, outs-HasData, outs-HasSproc, outs-DataMatches, outs-PayloadVersion, outs-ChildListVersion, outs-ChildListLength, outs-Not, outs-All, outs-Any, rolls-Name, rolls-NodeExists, rolls-NameMatches, rolls-PathMatches, rolls-HasPayload, rolls-HasData, rolls-HasSproc, rolls-DataMatches, rolls-PayloadVersion, rolls-ChildListVersion, rolls-ChildListLength, rolls-Not, rolls-All, rolls-Any}
use Rattle.kh_cond.specs.declared.cond.Cond.TheOpen as layer
use Rattle.kh_cond.specs.declared.cond.Cond.TheFolds.{fold-roll-Cond}
use Rattle.kh_cond.specs.Holds.{Search, holds, holds_step, if_there, row, agree}
use Rattle.kh_cond.specs.Texts.{lacking, lacking_step, lacking_regex, texts_of, texts_step, regex_texts}
use Rattle.kh_cond.specs.Forms.{form, bool_tree}
use Rattle.kh_cond.specs.Short.{cond_tree, short_step, regex_tree, comparison_tree}
use Rattle.kh_term.specs.declared.text.Text.{Text}
use Rattle.kh_term.specs.declared.tree.TermTree.{TermTree}
use Rattle.kh_term.specs.Make.{name_tree, list_of}

-- all and any of the mapped are those of the parts
all_mapped : {A : Type 0} (f : A → Bool) (xs : List A) → list_all (λ x. x) (map f xs) ≡ list_all f xs
all_mapped f [] = refl
all_mapped f (x ∷ xs) = search (all_mapped f xs)

any_mapped : {A : Type 0} (f : A → Bool) (xs : List A) → list_any (λ x. x) (map f xs) ≡ list_any f xs
any_mapped f [] = refl
any_mapped f (x ∷ xs) = search (any_mapped f xs)

-- ---- when they hold

pub holds-Name : (s : Search) (v : Option NodeView) (n : Name) → holds s v (cond.Name n) ≡ if_there s v (out-Cond (cond.Name n))
holds-Name s None n = ap (holds s None) (sym (rolls-Name n)) ∙ fold-roll-Cond Bool (holds_step s None) (layer.Name n)
holds-Name s (Some w) n = ap (holds s (Some w)) (sym (rolls-Name n)) ∙ (fold-roll-Cond Bool (holds_step s (Some w)) (layer.Name n) ∙ ap (row s w) (sym (outs-Name n)))

pub holds-NameMatches : (s : Search) (v : Option NodeView) (r : Regex) → holds s v (cond.NameMatches r) ≡ if_there s v (out-Cond (cond.NameMatches r))
holds-NameMatches s None r = ap (holds s None) (sym (rolls-NameMatches r)) ∙ fold-roll-Cond Bool (holds_step s None) (layer.NameMatches r)
holds-NameMatches s (Some w) r = ap (holds s (Some w)) (sym (rolls-NameMatches r)) ∙ (fold-roll-Cond Bool (holds_step s (Some w)) (layer.NameMatches r) ∙ ap (row s w) (sym (outs-NameMatches r)))

pub holds-PathMatches : (s : Search) (v : Option NodeView) (r : Regex) → holds s v (cond.PathMatches r) ≡ if_there s v (out-Cond (cond.PathMatches r))
holds-PathMatches s None r = ap (holds s None) (sym (rolls-PathMatches r)) ∙ fold-roll-Cond Bool (holds_step s None) (layer.PathMatches r)
holds-PathMatches s (Some w) r = ap (holds s (Some w)) (sym (rolls-PathMatches r)) ∙ (fold-roll-Cond Bool (holds_step s (Some w)) (layer.PathMatches r) ∙ ap (row s w) (sym (outs-PathMatches r)))

pub holds-HasPayload : (s : Search) (v : Option NodeView) (b : Bool) → holds s v (cond.HasPayload b) ≡ if_there s v (out-Cond (cond.HasPayload b))
holds-HasPayload s None b = ap (holds s None) (sym (rolls-HasPayload b)) ∙ fold-roll-Cond Bool (holds_step s None) (layer.HasPayload b)
holds-HasPayload s (Some w) b = ap (holds s (Some w)) (sym (rolls-HasPayload b)) ∙ (fold-roll-Cond Bool (holds_step s (Some w)) (layer.HasPayload b) ∙ ap (row s w) (sym (outs-HasPayload b)))

pub holds-HasData : (s : Search) (v : Option NodeView) (b : Bool) → holds s v (cond.HasData b) ≡ if_there s v (out-Cond (cond.HasData b))
holds-HasData s None b = ap (holds s None) (sym (rolls-HasData b)) ∙ fold-roll-Cond Bool (holds_step s None) (layer.HasData b)
holds-HasData s (Some w) b = ap (holds s (Some w)) (sym (rolls-HasData b)) ∙ (fold-roll-Cond Bool (holds_step s (Some w)) (layer.HasData b) ∙ ap (row s w) (sym (outs-HasData b)))

pub holds-HasSproc : (s : Search) (v : Option NodeView) (b : Bool) → holds s v (cond.HasSproc b) ≡ if_there s v (out-Cond (cond.HasSproc b))
holds-HasSproc s None b = ap (holds s None) (sym (rolls-HasSproc b)) ∙ fold-roll-Cond Bool (holds_step s None) (layer.HasSproc b)
holds-HasSproc s (Some w) b = ap (holds s (Some w)) (sym (rolls-HasSproc b)) ∙ (fold-roll-Cond Bool (holds_step s (Some w)) (layer.HasSproc b) ∙ ap (row s w) (sym (outs-HasSproc b)))

pub holds-DataMatches : (s : Search) (v : Option NodeView) (pattern : Term) → holds s v (cond.DataMatches pattern) ≡ if_there s v (out-Cond (cond.DataMatches pattern))
holds-DataMatches s None pattern = ap (holds s None) (sym (rolls-DataMatches pattern)) ∙ fold-roll-Cond Bool (holds_step s None) (layer.DataMatches pattern)
holds-DataMatches s (Some w) pattern = ap (holds s (Some w)) (sym (rolls-DataMatches pattern)) ∙ (fold-roll-Cond Bool (holds_step s (Some w)) (layer.DataMatches pattern) ∙ ap (row s w) (sym (outs-DataMatches pattern)))

pub holds-PayloadVersion : (s : Search) (v : Option NodeView) (c : Comparison) → holds s v (cond.PayloadVersion c) ≡ if_there s v (out-Cond (cond.PayloadVersion c))
holds-PayloadVersion s None c = ap (holds s None) (sym (rolls-PayloadVersion c)) ∙ fold-roll-Cond Bool (holds_step s None) (layer.PayloadVersion c)
holds-PayloadVersion s (Some w) c = ap (holds s (Some w)) (sym (rolls-PayloadVersion c)) ∙ (fold-roll-Cond Bool (holds_step s (Some w)) (layer.PayloadVersion c) ∙ ap (row s w) (sym (outs-PayloadVersion c)))

pub holds-ChildListVersion : (s : Search) (v : Option NodeView) (c : Comparison) → holds s v (cond.ChildListVersion c) ≡ if_there s v (out-Cond (cond.ChildListVersion c))
holds-ChildListVersion s None c = ap (holds s None) (sym (rolls-ChildListVersion c)) ∙ fold-roll-Cond Bool (holds_step s None) (layer.ChildListVersion c)
holds-ChildListVersion s (Some w) c = ap (holds s (Some w)) (sym (rolls-ChildListVersion c)) ∙ (fold-roll-Cond Bool (holds_step s (Some w)) (layer.ChildListVersion c) ∙ ap (row s w) (sym (outs-ChildListVersion c)))

pub holds-ChildListLength : (s : Search) (v : Option NodeView) (c : Comparison) → holds s v (cond.ChildListLength c) ≡ if_there s v (out-Cond (cond.ChildListLength c))
holds-ChildListLength s None c = ap (holds s None) (sym (rolls-ChildListLength c)) ∙ fold-roll-Cond Bool (holds_step s None) (layer.ChildListLength c)
holds-ChildListLength s (Some w) c = ap (holds s (Some w)) (sym (rolls-ChildListLength c)) ∙ (fold-roll-Cond Bool (holds_step s (Some w)) (layer.ChildListLength c) ∙ ap (row s w) (sym (outs-ChildListLength c)))

pub holds-NodeExists : (s : Search) (v : Option NodeView) (b : Bool) → holds s v (cond.NodeExists b) ≡ agree b (is_some v)
holds-NodeExists s v b = ap (holds s v) (sym (rolls-NodeExists b)) ∙ fold-roll-Cond Bool (holds_step s v) (layer.NodeExists b)

pub holds-Not : (s : Search) (v : Option NodeView) (x : Cond) → holds s v (cond.Not x) ≡ not (holds s v x)
holds-Not s v x = ap (holds s v) (sym (rolls-Not x)) ∙ fold-roll-Cond Bool (holds_step s v) (layer.Not x)

pub holds-All : (s : Search) (v : Option NodeView) (xs : List Cond) → holds s v (cond.All xs) ≡ list_all (holds s v) xs
holds-All s v xs = ap (holds s v) (sym (rolls-All xs)) ∙ (fold-roll-Cond Bool (holds_step s v) (layer.All xs) ∙ all_mapped (holds s v) xs)

pub holds-Any : (s : Search) (v : Option NodeView) (xs : List Cond) → holds s v (cond.Any xs) ≡ list_any (holds s v) xs
holds-Any s v xs = ap (holds s v) (sym (rolls-Any xs)) ∙ (fold-roll-Cond Bool (holds_step s v) (layer.Any xs) ∙ any_mapped (holds s v) xs)

-- ---- what isn't prepared

pub lacking-NameMatches : (known : List (List ℕ)) (r : Regex) → lacking known (cond.NameMatches r) ≡ lacking_regex known r
lacking-NameMatches known r = ap (lacking known) (sym (rolls-NameMatches r)) ∙ fold-roll-Cond ℕ (lacking_step known) (layer.NameMatches r)

pub lacking-PathMatches : (known : List (List ℕ)) (r : Regex) → lacking known (cond.PathMatches r) ≡ lacking_regex known r
lacking-PathMatches known r = ap (lacking known) (sym (rolls-PathMatches r)) ∙ fold-roll-Cond ℕ (lacking_step known) (layer.PathMatches r)

pub lacking-Not : (known : List (List ℕ)) (x : Cond) → lacking known (cond.Not x) ≡ lacking known x
lacking-Not known x = ap (lacking known) (sym (rolls-Not x)) ∙ fold-roll-Cond ℕ (lacking_step known) (layer.Not x)

pub lacking-All : (known : List (List ℕ)) (xs : List Cond) → lacking known (cond.All xs) ≡ sum (map (lacking known) xs)
lacking-All known xs = ap (lacking known) (sym (rolls-All xs)) ∙ fold-roll-Cond ℕ (lacking_step known) (layer.All xs)

pub lacking-Any : (known : List (List ℕ)) (xs : List Cond) → lacking known (cond.Any xs) ≡ sum (map (lacking known) xs)
lacking-Any known xs = ap (lacking known) (sym (rolls-Any xs)) ∙ fold-roll-Cond ℕ (lacking_step known) (layer.Any xs)

pub lacking-drop : (known : List (List ℕ)) (xs : List Cond) (i : ℕ) (d : Cond) → i < length xs →
    sum (map (lacking known) (drop i xs)) ≡ lacking known (get_or xs i d) + sum (map (lacking known) (drop (i + 1) xs))
lacking-drop known xs i d h = rw (add-one i, drop-cons xs i d h) (sum-cons (lacking known (get_or xs i d)) (map (lacking known) (drop (suc i) xs)))

-- a part that holds, or doesn't, leaves what the others say
pub all_next : {A : Type 0} (f : A → Bool) (xs : List A) (i : ℕ) (x : A) → i < length xs → x ≡ get_or xs i x → f x ≡ true →
    list_all f (drop i xs) ≡ list_all f (drop (i + 1) xs)
all_next f xs i x h e holds =
    let first : f (get_or xs i x) ≡ true = ap f (sym e) ∙ holds in
    rw (add-one i, drop-cons xs i x h) (rw first refl)

pub any_next : {A : Type 0} (f : A → Bool) (xs : List A) (i : ℕ) (x : A) → i < length xs → x ≡ get_or xs i x → f x ≡ false →
    list_any f (drop i xs) ≡ list_any f (drop (i + 1) xs)
any_next f xs i x h e holds =
    let first : f (get_or xs i x) ≡ false = ap f (sym e) ∙ holds in
    rw (add-one i, drop-cons xs i x h) (rw first refl)

pub ruleset outs = (outs-Name, outs-NodeExists, outs-NameMatches, outs-PathMatches, outs-HasPayload, outs-HasData, outs-HasSproc, outs-DataMatches, outs-PayloadVersion, outs-ChildListVersion, outs-ChildListLength, outs-Not, outs-All, outs-Any)

pub ruleset judging = (outs, holds-NodeExists, holds-Not, holds-All, holds-Any, holds-Name, holds-NameMatches, holds-PathMatches, holds-HasPayload, holds-HasData, holds-HasSproc, holds-DataMatches, holds-PayloadVersion, holds-ChildListVersion, holds-ChildListLength, lacking-NameMatches, lacking-PathMatches, lacking-Not, lacking-All, lacking-Any, lacking-drop, all_next, any_next)

-- ---- texts

pieces_joined : {A B : Type 0} (f : A → List B) (xs : List A) → flat_map (λ x. x) (map f xs) ≡ flat_map f xs
pieces_joined f [] = refl
pieces_joined f (x ∷ xs) = ap (λ ys. f x ++ ys) (pieces_joined f xs)

pub texts-Name : (n : Name) → texts_of (cond.Name n) ≡ []
texts-Name n = ap texts_of (sym (rolls-Name n)) ∙ fold-roll-Cond (List Text) texts_step (layer.Name n)

pub texts-NodeExists : (b : Bool) → texts_of (cond.NodeExists b) ≡ []
texts-NodeExists b = ap texts_of (sym (rolls-NodeExists b)) ∙ fold-roll-Cond (List Text) texts_step (layer.NodeExists b)

pub texts-NameMatches : (r : Regex) → texts_of (cond.NameMatches r) ≡ regex_texts r
texts-NameMatches r = ap texts_of (sym (rolls-NameMatches r)) ∙ fold-roll-Cond (List Text) texts_step (layer.NameMatches r)

pub texts-PathMatches : (r : Regex) → texts_of (cond.PathMatches r) ≡ regex_texts r
texts-PathMatches r = ap texts_of (sym (rolls-PathMatches r)) ∙ fold-roll-Cond (List Text) texts_step (layer.PathMatches r)

pub texts-HasPayload : (b : Bool) → texts_of (cond.HasPayload b) ≡ []
texts-HasPayload b = ap texts_of (sym (rolls-HasPayload b)) ∙ fold-roll-Cond (List Text) texts_step (layer.HasPayload b)

pub texts-HasData : (b : Bool) → texts_of (cond.HasData b) ≡ []
texts-HasData b = ap texts_of (sym (rolls-HasData b)) ∙ fold-roll-Cond (List Text) texts_step (layer.HasData b)

pub texts-HasSproc : (b : Bool) → texts_of (cond.HasSproc b) ≡ []
texts-HasSproc b = ap texts_of (sym (rolls-HasSproc b)) ∙ fold-roll-Cond (List Text) texts_step (layer.HasSproc b)

pub texts-DataMatches : (pattern : Term) → texts_of (cond.DataMatches pattern) ≡ []
texts-DataMatches pattern = ap texts_of (sym (rolls-DataMatches pattern)) ∙ fold-roll-Cond (List Text) texts_step (layer.DataMatches pattern)

pub texts-PayloadVersion : (c : Comparison) → texts_of (cond.PayloadVersion c) ≡ []
texts-PayloadVersion c = ap texts_of (sym (rolls-PayloadVersion c)) ∙ fold-roll-Cond (List Text) texts_step (layer.PayloadVersion c)

pub texts-ChildListVersion : (c : Comparison) → texts_of (cond.ChildListVersion c) ≡ []
texts-ChildListVersion c = ap texts_of (sym (rolls-ChildListVersion c)) ∙ fold-roll-Cond (List Text) texts_step (layer.ChildListVersion c)

pub texts-ChildListLength : (c : Comparison) → texts_of (cond.ChildListLength c) ≡ []
texts-ChildListLength c = ap texts_of (sym (rolls-ChildListLength c)) ∙ fold-roll-Cond (List Text) texts_step (layer.ChildListLength c)

pub texts-Not : (x : Cond) → texts_of (cond.Not x) ≡ texts_of x
texts-Not x = ap texts_of (sym (rolls-Not x)) ∙ fold-roll-Cond (List Text) texts_step (layer.Not x)

pub texts-All : (xs : List Cond) → texts_of (cond.All xs) ≡ flat_map texts_of xs
texts-All xs = ap texts_of (sym (rolls-All xs)) ∙ (fold-roll-Cond (List Text) texts_step (layer.All xs) ∙ pieces_joined texts_of xs)

pub texts-Any : (xs : List Cond) → texts_of (cond.Any xs) ≡ flat_map texts_of xs
texts-Any xs = ap texts_of (sym (rolls-Any xs)) ∙ (fold-roll-Cond (List Text) texts_step (layer.Any xs) ∙ pieces_joined texts_of xs)

pub ruleset texts = (texts-Name, texts-NodeExists, texts-NameMatches, texts-PathMatches, texts-HasPayload, texts-HasData, texts-HasSproc, texts-DataMatches, texts-PayloadVersion, texts-ChildListVersion, texts-ChildListLength, texts-Not, texts-All, texts-Any)

-- ---- the short spelling

pub tree-Name : (n : Name) → cond_tree (cond.Name n) ≡ name_tree n
tree-Name n = ap cond_tree (sym (rolls-Name n)) ∙ fold-roll-Cond TermTree short_step (layer.Name n)

pub tree-NodeExists : (b : Bool) → cond_tree (cond.NodeExists b) ≡ form (codes "if_node_exists") (bool_tree b)
tree-NodeExists b = ap cond_tree (sym (rolls-NodeExists b)) ∙ fold-roll-Cond TermTree short_step (layer.NodeExists b)

pub tree-NameMatches : (r : Regex) → cond_tree (cond.NameMatches r) ≡ form (codes "if_name_matches") (regex_tree r)
tree-NameMatches r = ap cond_tree (sym (rolls-NameMatches r)) ∙ fold-roll-Cond TermTree short_step (layer.NameMatches r)

pub tree-PathMatches : (r : Regex) → cond_tree (cond.PathMatches r) ≡ form (codes "if_path_matches") (regex_tree r)
tree-PathMatches r = ap cond_tree (sym (rolls-PathMatches r)) ∙ fold-roll-Cond TermTree short_step (layer.PathMatches r)

pub tree-HasPayload : (b : Bool) → cond_tree (cond.HasPayload b) ≡ form (codes "if_has_payload") (bool_tree b)
tree-HasPayload b = ap cond_tree (sym (rolls-HasPayload b)) ∙ fold-roll-Cond TermTree short_step (layer.HasPayload b)

pub tree-HasData : (b : Bool) → cond_tree (cond.HasData b) ≡ form (codes "if_has_data") (bool_tree b)
tree-HasData b = ap cond_tree (sym (rolls-HasData b)) ∙ fold-roll-Cond TermTree short_step (layer.HasData b)

pub tree-HasSproc : (b : Bool) → cond_tree (cond.HasSproc b) ≡ form (codes "if_has_sproc") (bool_tree b)
tree-HasSproc b = ap cond_tree (sym (rolls-HasSproc b)) ∙ fold-roll-Cond TermTree short_step (layer.HasSproc b)

pub tree-DataMatches : (pattern : Term) → cond_tree (cond.DataMatches pattern) ≡ form (codes "if_data_matches") pattern.node
tree-DataMatches pattern = ap cond_tree (sym (rolls-DataMatches pattern)) ∙ fold-roll-Cond TermTree short_step (layer.DataMatches pattern)

pub tree-PayloadVersion : (c : Comparison) → cond_tree (cond.PayloadVersion c) ≡ form (codes "if_payload_version") (comparison_tree c)
tree-PayloadVersion c = ap cond_tree (sym (rolls-PayloadVersion c)) ∙ fold-roll-Cond TermTree short_step (layer.PayloadVersion c)

pub tree-ChildListVersion : (c : Comparison) → cond_tree (cond.ChildListVersion c) ≡ form (codes "if_child_list_version") (comparison_tree c)
tree-ChildListVersion c = ap cond_tree (sym (rolls-ChildListVersion c)) ∙ fold-roll-Cond TermTree short_step (layer.ChildListVersion c)

pub tree-ChildListLength : (c : Comparison) → cond_tree (cond.ChildListLength c) ≡ form (codes "if_child_list_length") (comparison_tree c)
tree-ChildListLength c = ap cond_tree (sym (rolls-ChildListLength c)) ∙ fold-roll-Cond TermTree short_step (layer.ChildListLength c)

pub tree-Not : (x : Cond) → cond_tree (cond.Not x) ≡ form (codes "if_not") (cond_tree x)
tree-Not x = ap cond_tree (sym (rolls-Not x)) ∙ fold-roll-Cond TermTree short_step (layer.Not x)

pub tree-All : (xs : List Cond) → cond_tree (cond.All xs) ≡ form (codes "if_all") (list_of (map cond_tree xs))
tree-All xs = ap cond_tree (sym (rolls-All xs)) ∙ fold-roll-Cond TermTree short_step (layer.All xs)

pub tree-Any : (xs : List Cond) → cond_tree (cond.Any xs) ≡ form (codes "if_any") (list_of (map cond_tree xs))
tree-Any xs = ap cond_tree (sym (rolls-Any xs)) ∙ fold-roll-Cond TermTree short_step (layer.Any xs)

pub ruleset trees = (tree-Name, tree-NodeExists, tree-NameMatches, tree-PathMatches, tree-HasPayload, tree-HasData, tree-HasSproc, tree-DataMatches, tree-PayloadVersion, tree-ChildListVersion, tree-ChildListLength, tree-Not, tree-All, tree-Any)
