-- Walks along the tails of a list.
use Rattle.std.proofs.Common.{◌≡◌, ℕ, ◌+◌, ◌<◌, ◌≤◌, Bool, true, false, ◌||◌, List, [], ◌∷◌, ◌++◌, length, refl, sym, ap, ◌∙◌, arith}
use Rattle.std.proofs.lemmas.List.{append_assoc, append-nil, map-append}
use Rattle.std.proofs.Math.Bool.{or_assoc}
use Rattle.std.specs.List.{find, list_any}
use Rattle.std.specs.Prelude.{Option, Some, None, if◌then◌else◌, cond}
use Rattle.kh_term.specs.MapOf.{later}
use Rattle.kh_term.specs.declared.tree.TermTree.{TermTree}
use Rattle.kh_term.specs.Size.{size_of}
use Rattle.kh_heap.specs.declared.view.View.{View}
use Rattle.kh_heap.specs.declared.view.View.TheVariants as view
use Rattle.kh_heap.specs.Heap.{term_at, terms_at, Holds}
use Rattle.kh_heap.specs.View.{IsSeen}
use Rattle.kh_bif_base.proofs.Seen.{layer_at, layer_seen}
use Rattle.kh_bif_data.specs.Lists.{elements, elements_on, ends_in_nil, ends_on}
use Rattle.kh_bif_data.proofs.Conses.{elements-cons, ends-cons, size-cons}

-- what is left of a list, which ends as the whole does
pub record Along (heap : List TermTree) (a left : ℕ) : Type 0 where
  pub held : Holds heap left
  pub ending : ends_in_nil (term_at heap left) ≡ ends_in_nil (term_at heap a)

pub Along-start : (heap : List TermTree) (a : ℕ) → Holds heap a → Along heap a a
Along-start heap a h = record { held = h; ending = refl }

later_found : (o : Option TermTree) (b : Bool) (x : TermTree) (r : Option TermTree) → later (later o (if b then Some x else None)) r ≡ later o (cond b (Some x) r)
later_found (Some y) b x r = refl
later_found None true x r = refl
later_found None false x r = refl

-- what is left of a walk that is at its end
pub nothing_behind : (xs ys zs : List TermTree) → ys ≡ [] → xs ++ ys ≡ zs → xs ≡ zs
nothing_behind xs ys zs e h = sym (append-nil xs) ∙ ap (λ us. xs ++ us) (sym e) ∙ h

pub nothing_counted : (n m : ℕ) (ys : List TermTree) → ys ≡ [] → n + length ys ≡ m → n ≡ m
nothing_counted n m ys e h = omega (arith, h, ap length e)

pub none_behind : (test : TermTree → Bool) (b r : Bool) (ys : List TermTree) → ys ≡ [] → (b || list_any test ys) ≡ r → b ≡ r
none_behind test true r ys e h = h
none_behind test false r ys e h = sym (ap (list_any test) e) ∙ h

pub none_found : (test : TermTree → Bool) (o r : Option TermTree) (ys : List TermTree) → ys ≡ [] → later o (find test ys) ≡ r → o ≡ r
none_found test (Some x) r ys e h = h
none_found test None r ys e h = sym (ap (find test) e) ∙ h

module _ (heap : List TermTree) (a left head rest : ℕ) (seen : IsSeen heap (term_at heap left) (view.Cons head rest)) where
  pub Along-next : Along heap a left → Along heap a rest
  Along-next c = record {
    held = seen.2;
    ending = sym (ap ends_in_nil seen.0 ∙ ends-cons (term_at heap head) (term_at heap rest)) ∙ c.ending;
  }

  -- one element more
  pub one_more : elements (term_at heap left) ≡ term_at heap head ∷ elements (term_at heap rest)
  one_more = ap elements seen.0 ∙ elements-cons (term_at heap head) (term_at heap rest)

  pub elements_more : (rs items : List ℕ) → items ≡ rs ++ head ∷ [] → terms_at heap rs ++ elements (term_at heap left) ≡ elements (term_at heap a)
      → terms_at heap items ++ elements (term_at heap rest) ≡ elements (term_at heap a)
  elements_more rs items e h =
      ap (λ us. terms_at heap us ++ elements (term_at heap rest)) e
      ∙ ap (λ ts. ts ++ elements (term_at heap rest)) (map-append (term_at heap) rs (head ∷ []))
      ∙ append_assoc (terms_at heap rs) (term_at heap head ∷ []) (elements (term_at heap rest))
      ∙ ap (λ ts. terms_at heap rs ++ ts) (sym one_more) ∙ h

  pub count_more : (n : ℕ) → n + length (elements (term_at heap left)) ≡ length (elements (term_at heap a)) → n + 1 + length (elements (term_at heap rest)) ≡ length (elements (term_at heap a))
  count_more n h = omega (arith, h, ap length one_more)

  pub any_more : (test : TermTree → Bool) (b : Bool) → (b || list_any test (elements (term_at heap left))) ≡ list_any test (elements (term_at heap a))
      → (b || test (term_at heap head) || list_any test (elements (term_at heap rest))) ≡ list_any test (elements (term_at heap a))
  any_more test b h =
      or_assoc b (test (term_at heap head)) (list_any test (elements (term_at heap rest)))
      ∙ ap (λ ts. b || list_any test ts) (sym one_more) ∙ h

  pub find_more : (test : TermTree → Bool) (o p : Option TermTree) → p ≡ later o (if test (term_at heap head) then Some (term_at heap head) else None)
      → later o (find test (elements (term_at heap left))) ≡ find test (elements (term_at heap a))
      → later p (find test (elements (term_at heap rest))) ≡ find test (elements (term_at heap a))
  find_more test o p e h =
      ap (λ q. later q (find test (elements (term_at heap rest)))) e
      ∙ later_found o (test (term_at heap head)) (term_at heap head) (find test (elements (term_at heap rest)))
      ∙ ap (λ ts. later o (find test ts)) (sym one_more) ∙ h

  pub shorter : size_of (term_at heap rest) < size_of (term_at heap left)
  shorter = omega (arith, ap size_of seen.0, size-cons (term_at heap head) (term_at heap rest))

-- where the walk ends
pub at_nil : (heap : List TermTree) (t : TermTree) → IsSeen heap t view.Nil → elements t ≡ []
at_nil heap t s = ap elements_on (layer_seen heap t view.Nil s)

pub nil_ends : (heap : List TermTree) (t : TermTree) → IsSeen heap t view.Nil → ends_in_nil t ≡ true
nil_ends heap t s = ap ends_on (layer_seen heap t view.Nil s)

no_elements : (heap : List TermTree) (t : TermTree) (v : View) → ((h r : ℕ) → v ≡ view.Cons h r → ⊥) → elements_on (layer_at heap t v) ≡ []
no_elements heap t (view.Cons h r) n = absurd (n h r refl)
no_elements heap t v n = refl

pub at_end : (heap : List TermTree) (t : TermTree) (v : View) → IsSeen heap t v → ((h r : ℕ) → v ≡ view.Cons h r → ⊥) → elements t ≡ []
at_end heap t v s n = ap elements_on (layer_seen heap t v s) ∙ no_elements heap t v n

no_end : (heap : List TermTree) (t : TermTree) (v : View) → (v ≡ view.Nil → ⊥) → ((h r : ℕ) → v ≡ view.Cons h r → ⊥) → ends_on (layer_at heap t v) ≡ false
no_end heap t view.Nil m n = absurd (m refl)
no_end heap t (view.Cons h r) m n = absurd (n h r refl)
no_end heap t v m n = refl

pub other_ends : (heap : List TermTree) (t : TermTree) (v : View) → IsSeen heap t v → (v ≡ view.Nil → ⊥) → ((h r : ℕ) → v ≡ view.Cons h r → ⊥) → ends_in_nil t ≡ false
other_ends heap t v s m n = ap ends_on (layer_seen heap t v s) ∙ no_end heap t v m n
