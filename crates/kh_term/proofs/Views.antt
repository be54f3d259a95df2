-- Views of nodes that are equal are the same.
use borrow.Author.Tests.{eqb-true}
use denote.Enum.Bare.{sameb}
use Rattle.std.proofs.Common.{◌≡◌, ℕ, Bool, true, false, ◌&&◌, nat_eq, is_some, IsTrue, Option, Some, None, refl, ap, sym, ◌∙◌, subst}
use Rattle.std.proofs.Math.Bool.{Bool-set}
use Rattle.std.specs.Option.{option_eq}
use Rattle.std.specs.Ordering.{eq_by_cmp}
use Rattle.std.proofs.lemmas.Bool.{and_parts}
use Rattle.kh_term.specs.contracts.kinds.Kind.{the_type}
use Rattle.kh_term.specs.contracts.view.NodeViewEq.TheImpl.Laws.{laws-law}
use Rattle.kh_term.specs.declared.kinds.Kind.{Kind}
use Rattle.kh_term.specs.declared.kinds.Kind.TheVariants as kind
use Rattle.kh_term.specs.declared.name.Name.{Name}
use Rattle.kh_term.specs.declared.term.Term.{Term}
use Rattle.kh_term.specs.declared.view.NodeView.{NodeView}
use Rattle.kh_term.specs.Name.{name_cmp}
use Rattle.kh_term.specs.View.{is_data}
use Rattle.kh_term.specs.Lemmas.Alike.{names, is_equal}
use Rattle.kh_term.specs.Lemmas.Total.{cmp_terms}
use Rattle.kh_term.proofs.OneTree.{same_node}
use Rattle.kh_term.proofs.Same.{same}

options : {A : Type 0} (test : A → A → Bool) → ((x y : A) → test x y ≡ true → x ≡ y) → (a b : Option A) → option_eq test a b ≡ true → a ≡ b
options test alike None None e = refl
options test alike None (Some y) e = absurd (cc)
options test alike (Some x) None e = absurd (cc)
options test alike (Some x) (Some y) e = ap Some (alike x y e)

kinds : (a b : Kind) → sameb the_type a b ≡ true → a ≡ b
kinds kind.Empty kind.Empty e = refl
kinds kind.Empty kind.Data e = absurd (cc)
kinds kind.Empty kind.Sproc e = absurd (cc)
kinds kind.Data kind.Empty e = absurd (cc)
kinds kind.Data kind.Data e = refl
kinds kind.Data kind.Sproc e = absurd (cc)
kinds kind.Sproc kind.Empty e = absurd (cc)
kinds kind.Sproc kind.Data e = absurd (cc)
kinds kind.Sproc kind.Sproc e = refl

terms : (x y : Term) → eq_by_cmp cmp_terms x y ≡ true → x ≡ y
terms x y e = same_node x y (same x.node y.node x.fits y.fits (is_equal (cmp_terms x y) e))

-- the test of each field, in order
abbrev fields_equal : NodeView → NodeView → Bool
fields_equal a b =
    option_eq (eq_by_cmp name_cmp) a.name b.name && (sameb the_type a.payload b.payload && (option_eq (eq_by_cmp cmp_terms) a.datum b.datum
    && (nat_eq a.payload_version b.payload_version && (nat_eq a.child_list_version b.child_list_version && nat_eq a.children b.children))))

-- a view with an equal payload and an equal datum
held_alike : (a : NodeView) (p : Kind) → a.payload ≡ p → (d : Option Term) → a.datum ≡ d → (s : is_some d ≡ is_data p) → a ≡ record { name = a.name; payload = p; datum = d; payload_version = a.payload_version; child_list_version = a.child_list_version; children = a.children; data_stands = s }
held_alike a p e =
    subst (λ q. (d : Option Term) → a.datum ≡ d → (s : is_some d ≡ is_data q) → a ≡ record { name = a.name; payload = q; datum = d; payload_version = a.payload_version; child_list_version = a.child_list_version; children = a.children; data_stands = s }) e
    (λ d f. subst (λ x. (s : is_some x ≡ is_data a.payload) → a ≡ record { name = a.name; payload = a.payload; datum = x; payload_version = a.payload_version; child_list_version = a.child_list_version; children = a.children; data_stands = s }) f
    (λ s. ap (λ t. record { name = a.name; payload = a.payload; datum = a.datum; payload_version = a.payload_version; child_list_version = a.child_list_version; children = a.children; data_stands = t }) (Bool-set (is_some a.datum) (is_data a.payload) a.data_stands s)))

pub views_same : (a b : NodeView) → fields_equal a b ≡ true → a ≡ b
views_same a b e =
    let first = and_parts (option_eq (eq_by_cmp name_cmp) a.name b.name) _ e in
    let second = and_parts (sameb the_type a.payload b.payload) _ first.1 in
    let third = and_parts (option_eq (eq_by_cmp cmp_terms) a.datum b.datum) _ second.1 in
    let fourth = and_parts (nat_eq a.payload_version b.payload_version) _ third.1 in
    let fifth = and_parts (nat_eq a.child_list_version b.child_list_version) (nat_eq a.children b.children) fourth.1 in
    let name : a.name ≡ b.name = options (eq_by_cmp name_cmp) (λ m n h. names m n (is_equal (name_cmp m n) h)) a.name b.name first.0 in
    let version : a.payload_version ≡ b.payload_version = eqb-true a.payload_version b.payload_version fourth.0 in
    let list_version : a.child_list_version ≡ b.child_list_version = eqb-true a.child_list_version b.child_list_version fifth.0 in
    let number : a.children ≡ b.children = eqb-true a.children b.children fifth.1 in
    held_alike a b.payload (kinds a.payload b.payload second.0) b.datum (options (eq_by_cmp cmp_terms) terms a.datum b.datum third.0) b.data_stands
    ∙ (λ i. record { name = name i; payload = b.payload; datum = b.datum; payload_version = version i; child_list_version = list_version i; children = number i; data_stands = b.data_stands })

pub views_equal : (a b : NodeView) → a ≡ b → fields_equal a b ≡ true
views_equal a b e = subst (λ v. fields_equal a v ≡ true) e (laws-law.refl a)
