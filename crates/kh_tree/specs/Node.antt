-- What stands at a path, and how it is seen.
use Rattle.std.specs.Prelude.{◌≡◌, ℕ, ◌+◌, Bool, true, false, List, length, Option, Some, None, ◌⊎◌, is_some, refl, if◌then◌else◌}
use Rattle.std.proofs.Common.{inl, inr}
use Rattle.std.specs.Ordering.{eq_by_cmp}
use Rattle.std.specs.Coded.{Coded, code_by, coded×, coded⊎, coded_option, coded_ℕ}
use Rattle.kh_term.specs.declared.kinds.Kind.{Kind}
use Rattle.kh_term.specs.declared.kinds.Kind.TheVariants as kind
use Rattle.kh_term.specs.declared.name.Name.{Name}
use Rattle.kh_term.specs.declared.term.Term.{Term}
use Rattle.kh_term.specs.declared.view.NodeView.{NodeView}
use Rattle.kh_term.specs.Lemmas.Total.{cmp_terms}
use Rattle.kh_term.specs.Packed.{packed_of}
use Rattle.kh_term.specs.View.{is_data}
use Rattle.kh_tree.specs.declared.payload.Payload.{Payload}
use Rattle.kh_tree.specs.declared.payload.Payload.TheVariants as payload

module _ {S : Type 0} where
  -- nothing, data or a procedure
  abbrev pub kind_of : Payload S → Kind
  kind_of payload.Empty = kind.Empty
  kind_of (payload.Data t) = kind.Data
  kind_of (payload.Sproc s) = kind.Sproc

  -- the data, where it is data
  abbrev pub data_of : Payload S → Option Term
  data_of payload.Empty = None
  data_of (payload.Data t) = Some t
  data_of (payload.Sproc s) = None

  -- there are data where the kind says so
  abbrev pub data_stands : (p : Payload S) → is_some (data_of p) ≡ is_data (kind_of p)
  data_stands payload.Empty = refl
  data_stands (payload.Data t) = refl
  data_stands (payload.Sproc s) = refl

  -- Whether two payloads are equal: of one kind, data as terms, procedures by their own test.
  abbrev pub same_payload : (S → S → Bool) → Payload S → Payload S → Bool
  same_payload same payload.Empty payload.Empty = true
  same_payload same (payload.Data t) (payload.Data u) = eq_by_cmp cmp_terms t u
  same_payload same (payload.Sproc s) (payload.Sproc r) = same s r
  same_payload same p q = false

  -- the packed length of data, or the weight of a procedure
  abbrev pub payload_weight : (S → ℕ) → Payload S → ℕ
  payload_weight weight payload.Empty = 0
  payload_weight weight (payload.Data t) = length (packed_of t.node)
  payload_weight weight (payload.Sproc s) = weight s

-- A payload, how often another one was set, and how often a child came or went, both counted from 1.
pub record Node (S : Type 0) : Type 0 where
  pub payload : Payload S
  pub payload_version : ℕ
  pub child_list_version : ℕ

module _ {S : Type 0} where
  -- a payload as an option of data or a procedure
  abbrev parts_of : Payload S → Option (Term ⊎ S)
  parts_of payload.Empty = None
  parts_of (payload.Data t) = Some (inl t)
  parts_of (payload.Sproc s) = Some (inr s)

  abbrev payload_of : Option (Term ⊎ S) → Payload S
  payload_of None = payload.Empty
  payload_of (Some (inl t)) = payload.Data t
  payload_of (Some (inr s)) = payload.Sproc s

  abbrev same_parts : (p : Payload S) → payload_of (parts_of p) ≡ p
  same_parts payload.Empty = refl
  same_parts (payload.Data t) = refl
  same_parts (payload.Sproc s) = refl

  abbrev pub payload_code : Coded Term → Coded S → Coded (Payload S)
  payload_code t s = code_by (Option (Term ⊎ S)) (coded_option (coded⊎ t s)) parts_of payload_of same_parts

  -- a node as its payload and its two versions
  abbrev pub node_code : Coded (Payload S) → Coded (Node S)
  node_code p =
      code_by (Payload S × (ℕ × ℕ)) (coded× p (coded× coded_ℕ coded_ℕ)) (λ n. (n.payload, (n.payload_version, n.child_list_version)))
      (λ t. record { payload = t.0; payload_version = t.1.0; child_list_version = t.1.1 }) (λ _. refl)

  -- a node with both versions 1
  abbrev pub new_node : Payload S → Node S
  new_node p = record { payload = p; payload_version = 1; child_list_version = 1 }

  -- a node once it has one child more
  abbrev pub with_child : Node S → Node S
  with_child n = record n { child_list_version = n.child_list_version + 1 }

  -- a node with a payload: its payload version is one more where the payload differs
  abbrev pub with_payload : (S → S → Bool) → Payload S → Node S → Node S
  with_payload same p n =
      record { payload = p; payload_version = if same_payload same n.payload p then n.payload_version else n.payload_version + 1; child_list_version = n.child_list_version }

  -- a node as conditions see it, by its last name and the number of its children
  abbrev pub shown : Option Name → ℕ → Node S → NodeView
  shown name children n =
      record {
        name = name;
        payload = kind_of n.payload;
        datum = data_of n.payload;
        payload_version = n.payload_version;
        child_list_version = n.child_list_version;
        children = children;
        data_stands = data_stands n.payload;
      }
