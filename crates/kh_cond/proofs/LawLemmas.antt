-- Why the laws hold.
use Rattle.std.proofs.Common.{◌≡◌, Bool, not, List, [], ◌∷◌, map, None, codes, refl, ap, sym, subst, ◌∙◌}
use Rattle.std.proofs.lemmas.Option.{same_Some}
use Rattle.std.specs.List.{list_all, list_any}
use Rattle.kh_term.specs.Lemmas.Induction.{Each}
use Rattle.kh_term.specs.declared.name.Name.{Name}
use Rattle.kh_term.specs.declared.term.Term.{Term}
use Rattle.kh_term.specs.declared.tree.TermTree.{TermTree}
use Rattle.kh_cond.specs.declared.cond.Regex.{Regex}
use Rattle.kh_cond.specs.declared.cond.Comparison.{Comparison}
use Rattle.kh_cond.specs.declared.cond.Cond.{Cond}
use Rattle.kh_cond.specs.declared.cond.Cond.TheVariants as cond
use Rattle.kh_cond.specs.Holds.{Search, holds}
use Rattle.kh_cond.specs.Laws.{NotTurns, EmptyAllHolds, EmptyAnyFails, MissingNeedsNoSearch, UnderscoreMatchesAll, SpellsAtMostOne, ShortIsSpelling}
use Rattle.kh_cond.specs.Short.{cond_tree, regex_tree, comparison_tree}
use Rattle.kh_cond.specs.Spells.{SpellsRegex, SpellsComparison, SpellsCond, SpellConds}
use Rattle.kh_cond.specs.Spells as spells
use Rattle.kh_cond.proofs.Complete.{cond_read}
use Rattle.kh_cond.proofs.CondInduction.{by_rows}
use Rattle.kh_cond.proofs.CondLayers.{holds-Name, holds-NodeExists, holds-NameMatches, holds-PathMatches, holds-HasPayload, holds-HasData, holds-HasSproc, holds-DataMatches, holds-PayloadVersion, holds-ChildListVersion, holds-ChildListLength, holds-Not, holds-All, holds-Any, tree-Name, tree-NodeExists, tree-NameMatches, tree-HasPayload, tree-HasData, tree-HasSproc, tree-DataMatches, tree-PayloadVersion, tree-ChildListVersion, tree-ChildListLength, tree-Not, tree-All, tree-Any}
use Rattle.kh_cond.proofs.MatchLayers.{matches-Atom}

pub not_turns_round : NotTurns
not_turns_round s v c = holds-Not s v c

pub empty_all : EmptyAllHolds
empty_all s v = holds-All s v []

pub empty_any : EmptyAnyFails
empty_any s v = holds-Any s v []

pub underscore : UnderscoreMatchesAll
underscore x = matches-Atom (codes "_") x.node

pub at_most_one : SpellsAtMostOne
at_most_one t c d s r = same_Some _ _ (sym (cond_read t c s) ∙ cond_read t d r)

-- ---- of a missing node

Alike : Search → Search → Cond → Type 0
Alike s u c = holds s None c ≡ holds u None c

all_alike : (s u : Search) (cs : List Cond) → Each (Alike s u) cs → list_all (holds s None) cs ≡ list_all (holds u None) cs
unfolding Alike
all_alike s u [] each = refl
all_alike s u (c ∷ cs) each = rw (each.0, all_alike s u cs each.1) refl

any_alike : (s u : Search) (cs : List Cond) → Each (Alike s u) cs → list_any (holds s None) cs ≡ list_any (holds u None) cs
unfolding Alike
any_alike s u [] each = refl
any_alike s u (c ∷ cs) each = rw (each.0, any_alike s u cs each.1) refl

at_name : (s u : Search) (n : Name) → Alike s u (cond.Name n)
unfolding Alike
at_name s u n = holds-Name s None n ∙ sym (holds-Name u None n)

at_node_exists : (s u : Search) (b : Bool) → Alike s u (cond.NodeExists b)
unfolding Alike
at_node_exists s u b = holds-NodeExists s None b ∙ sym (holds-NodeExists u None b)

at_name_matches : (s u : Search) (r : Regex) → Alike s u (cond.NameMatches r)
unfolding Alike
at_name_matches s u r = holds-NameMatches s None r ∙ sym (holds-NameMatches u None r)

at_path_matches : (s u : Search) (r : Regex) → Alike s u (cond.PathMatches r)
unfolding Alike
at_path_matches s u r = holds-PathMatches s None r ∙ sym (holds-PathMatches u None r)

at_has_payload : (s u : Search) (b : Bool) → Alike s u (cond.HasPayload b)
unfolding Alike
at_has_payload s u b = holds-HasPayload s None b ∙ sym (holds-HasPayload u None b)

at_has_data : (s u : Search) (b : Bool) → Alike s u (cond.HasData b)
unfolding Alike
at_has_data s u b = holds-HasData s None b ∙ sym (holds-HasData u None b)

at_has_sproc : (s u : Search) (b : Bool) → Alike s u (cond.HasSproc b)
unfolding Alike
at_has_sproc s u b = holds-HasSproc s None b ∙ sym (holds-HasSproc u None b)

at_data_matches : (s u : Search) (pattern : Term) → Alike s u (cond.DataMatches pattern)
unfolding Alike
at_data_matches s u pattern = holds-DataMatches s None pattern ∙ sym (holds-DataMatches u None pattern)

at_payload_version : (s u : Search) (c : Comparison) → Alike s u (cond.PayloadVersion c)
unfolding Alike
at_payload_version s u c = holds-PayloadVersion s None c ∙ sym (holds-PayloadVersion u None c)

at_child_list_version : (s u : Search) (c : Comparison) → Alike s u (cond.ChildListVersion c)
unfolding Alike
at_child_list_version s u c = holds-ChildListVersion s None c ∙ sym (holds-ChildListVersion u None c)

at_child_list_length : (s u : Search) (c : Comparison) → Alike s u (cond.ChildListLength c)
unfolding Alike
at_child_list_length s u c = holds-ChildListLength s None c ∙ sym (holds-ChildListLength u None c)

at_not : (s u : Search) (c : Cond) → Alike s u c → Alike s u (cond.Not c)
unfolding Alike
at_not s u c h = holds-Not s None c ∙ (ap not h ∙ sym (holds-Not u None c))

at_all : (s u : Search) (cs : List Cond) → Each (Alike s u) cs → Alike s u (cond.All cs)
unfolding Alike
at_all s u cs each = holds-All s None cs ∙ (all_alike s u cs each ∙ sym (holds-All u None cs))

at_any : (s u : Search) (cs : List Cond) → Each (Alike s u) cs → Alike s u (cond.Any cs)
unfolding Alike
at_any s u cs each = holds-Any s None cs ∙ (any_alike s u cs each ∙ sym (holds-Any u None cs))

pub alike : MissingNeedsNoSearch
unfolding Alike
alike s u = by_rows (Alike s u) record {
  at_name = at_name s u;
  at_node_exists = at_node_exists s u;
  at_name_matches = at_name_matches s u;
  at_path_matches = at_path_matches s u;
  at_has_payload = at_has_payload s u;
  at_has_data = at_has_data s u;
  at_has_sproc = at_has_sproc s u;
  at_data_matches = at_data_matches s u;
  at_payload_version = at_payload_version s u;
  at_child_list_version = at_child_list_version s u;
  at_child_list_length = at_child_list_length s u;
  at_not = at_not s u;
  at_all = at_all s u;
  at_any = at_any s u;
}

-- ---- the short spelling

pub regex_short : (t : TermTree) (r : Regex) → SpellsRegex t r → SpellsRegex (regex_tree r) r
regex_short t r spells.anything = spells.anything
regex_short t r (spells.bytes text h) = spells.bytes text h
regex_short t r (spells.points points h k) = spells.bytes _ k

comparison_short : (t : TermTree) (c : Comparison) → SpellsComparison t c → SpellsComparison (comparison_tree c) c
comparison_short t c (spells.is n) = spells.is n
comparison_short t c (spells.by op n) = spells.by op n

spelt : (c : Cond) (t u : TermTree) → t ≡ u → SpellsCond u c → SpellsCond t c
spelt c t u e s = subst (λ w. SpellsCond w c) (sym e) s

mutual
  pub cond_short : (t : TermTree) (c : Cond) → SpellsCond t c → SpellsCond (cond_tree c) c
  cond_short t c (spells.name n h) = spelt (cond.Name n) _ _ (tree-Name n) (spells.name n h)
  cond_short t c (spells.node_exists b) = spelt (cond.NodeExists b) _ _ (tree-NodeExists b) (spells.node_exists b)
  cond_short t c (spells.name_matches u r s) = spelt (cond.NameMatches r) _ _ (tree-NameMatches r) (spells.name_matches (regex_tree r) r (regex_short u r s))
  cond_short t c (spells.name_matches_record u r s) = spelt (cond.NameMatches r) _ _ (tree-NameMatches r) (spells.name_matches (regex_tree r) r (regex_short u r s))
  cond_short t c (spells.has_payload b) = spelt (cond.HasPayload b) _ _ (tree-HasPayload b) (spells.has_payload b)
  cond_short t c (spells.has_data b) = spelt (cond.HasData b) _ _ (tree-HasData b) (spells.has_data b)
  cond_short t c (spells.has_sproc b) = spelt (cond.HasSproc b) _ _ (tree-HasSproc b) (spells.has_sproc b)
  cond_short t c (spells.data_matches x) = spelt (cond.DataMatches x) _ _ (tree-DataMatches x) (spells.data_matches x)
  cond_short t c (spells.data_matches_record x) = spelt (cond.DataMatches x) _ _ (tree-DataMatches x) (spells.data_matches x)
  cond_short t c (spells.payload_version u n s) = spelt (cond.PayloadVersion n) _ _ (tree-PayloadVersion n) (spells.payload_version (comparison_tree n) n (comparison_short u n s))
  cond_short t c (spells.child_list_version u n s) = spelt (cond.ChildListVersion n) _ _ (tree-ChildListVersion n) (spells.child_list_version (comparison_tree n) n (comparison_short u n s))
  cond_short t c (spells.child_list_length u n s) = spelt (cond.ChildListLength n) _ _ (tree-ChildListLength n) (spells.child_list_length (comparison_tree n) n (comparison_short u n s))
  cond_short t c (spells.not u x s) = spelt (cond.Not x) _ _ (tree-Not x) (spells.not (cond_tree x) x (cond_short u x s))
  cond_short t c (spells.all us xs s) = spelt (cond.All xs) _ _ (tree-All xs) (spells.all (map cond_tree xs) xs (conds_short us xs s))
  cond_short t c (spells.any us xs s) = spelt (cond.Any xs) _ _ (tree-Any xs) (spells.any (map cond_tree xs) xs (conds_short us xs s))

  pub conds_short : (ts : List TermTree) (cs : List Cond) → SpellConds ts cs → SpellConds (map cond_tree cs) cs
  conds_short ts cs spells.none = spells.none
  conds_short ts cs (spells.more u x us xs s ss) = spells.more (cond_tree x) x (map cond_tree xs) xs (cond_short u x s) (conds_short us xs ss)

pub short : ShortIsSpelling
short t c s = cond_short t c s
