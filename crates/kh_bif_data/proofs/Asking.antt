-- What a view tells of the kind that is asked for.
use Rattle.std.proofs.Common.{◌≡◌, ℕ, Bool, true, false, List, ap, refl, sym, ◌∙◌}
use Rattle.std.specs.Prelude.{length, Option, Some, None, is_some, option_map, if◌then◌else◌}
use Rattle.kh_term.specs.declared.tree.TermTree.{TermTree}
use Rattle.kh_heap.specs.declared.view.View.{View}
use Rattle.kh_heap.specs.declared.view.View.TheVariants as view
use Rattle.kh_heap.specs.Parts.{text_in, bytes_in, pairs_in, parts_in}
use Rattle.kh_heap.specs.View.{IsSeen}
use Rattle.kh_bif_base.specs.Answer.{Answer, Value, badarg, badmap}
use Rattle.kh_bif_base.proofs.Seen.{layer_at, layer_seen}
use Rattle.kh_bif_data.specs.Answer.{pair_count, element_count, where_map, where_binary}
use Rattle.kh_bif_data.specs.Asked.{of_some, of_map, of_tuple, of_text, of_bytes, pairs_of, pairs_on, tuple_of, tuple_on, text_of, text_on, bytes_of, bytes_on}
use Rattle.kh_bif_data.specs.Lists.{elements, ends_in_nil, of_list, proper}

module _ (heap : List TermTree) (t : TermTree) where
  pub map_seen : (n : ℕ) → IsSeen heap t (view.Map n) → pairs_of t ≡ Some (pairs_in t)
  map_seen n s = ap pairs_on (layer_seen heap t (view.Map n) s)

  no_pairs : (v : View) → ((n : ℕ) → v ≡ view.Map n → ⊥) → pairs_on (layer_at heap t v) ≡ None
  no_pairs (view.Map n) h = absurd (h n refl)
  no_pairs v h = refl

  pub no_map : (v : View) → IsSeen heap t v → ((n : ℕ) → v ≡ view.Map n → ⊥) → pairs_of t ≡ None
  no_map v s h = ap pairs_on (layer_seen heap t v s) ∙ no_pairs v h

  pub tuple_seen : (n : ℕ) → IsSeen heap t (view.Tuple n) → tuple_of t ≡ Some (parts_in t)
  tuple_seen n s = ap tuple_on (layer_seen heap t (view.Tuple n) s)

  no_parts : (v : View) → ((n : ℕ) → v ≡ view.Tuple n → ⊥) → tuple_on (layer_at heap t v) ≡ None
  no_parts (view.Tuple n) h = absurd (h n refl)
  no_parts v h = refl

  pub no_tuple : (v : View) → IsSeen heap t v → ((n : ℕ) → v ≡ view.Tuple n → ⊥) → tuple_of t ≡ None
  no_tuple v s h = ap tuple_on (layer_seen heap t v s) ∙ no_parts v h

  pub atom_seen : IsSeen heap t view.Atom → text_of t ≡ Some (text_in t)
  atom_seen s = ap text_on (layer_seen heap t view.Atom s)

  no_text : (v : View) → (v ≡ view.Atom → ⊥) → text_on (layer_at heap t v) ≡ None
  no_text view.Atom h = absurd (h refl)
  no_text v h = refl

  pub no_atom : (v : View) → IsSeen heap t v → (v ≡ view.Atom → ⊥) → text_of t ≡ None
  no_atom v s h = ap text_on (layer_seen heap t v s) ∙ no_text v h

  pub bin_seen : (n : ℕ) → IsSeen heap t (view.Bin n) → bytes_of t ≡ Some (bytes_in t)
  bin_seen n s = ap bytes_on (layer_seen heap t (view.Bin n) s)

  no_bytes : (v : View) → ((n : ℕ) → v ≡ view.Bin n → ⊥) → bytes_on (layer_at heap t v) ≡ None
  no_bytes (view.Bin n) h = absurd (h n refl)
  no_bytes v h = refl

  pub no_bin : (v : View) → IsSeen heap t v → ((n : ℕ) → v ≡ view.Bin n → ⊥) → bytes_of t ≡ None
  no_bin v s h = ap bytes_on (layer_seen heap t v s) ∙ no_bytes v h

  -- ---- what is answered of it

  pub map_answer : (n : ℕ) (f : List (TermTree × TermTree) → Answer) → IsSeen heap t (view.Map n) → f (pairs_in t) ≡ of_map t f
  map_answer n f s = sym (ap (λ (o : Option (List (TermTree × TermTree))). of_some o (badmap t) f) (map_seen n s))

  pub no_map_answer : (v : View) (f : List (TermTree × TermTree) → Answer) → IsSeen heap t v → ((n : ℕ) → v ≡ view.Map n → ⊥) → badmap t ≡ of_map t f
  no_map_answer v f s h = sym (ap (λ (o : Option (List (TermTree × TermTree))). of_some o (badmap t) f) (no_map v s h))

  pub tuple_answer : (n : ℕ) (f : List TermTree → Answer) → IsSeen heap t (view.Tuple n) → f (parts_in t) ≡ of_tuple t f
  tuple_answer n f s = sym (ap (λ (o : Option (List TermTree)). of_some o badarg f) (tuple_seen n s))

  pub no_tuple_answer : (v : View) (f : List TermTree → Answer) → IsSeen heap t v → ((n : ℕ) → v ≡ view.Tuple n → ⊥) → badarg ≡ of_tuple t f
  no_tuple_answer v f s h = sym (ap (λ (o : Option (List TermTree)). of_some o badarg f) (no_tuple v s h))

  pub text_answer : (f : List ℕ → Answer) → IsSeen heap t view.Atom → f (text_in t) ≡ of_text t f
  text_answer f s = sym (ap (λ (o : Option (List ℕ)). of_some o badarg f) (atom_seen s))

  pub no_text_answer : (v : View) (f : List ℕ → Answer) → IsSeen heap t v → (v ≡ view.Atom → ⊥) → badarg ≡ of_text t f
  no_text_answer v f s h = sym (ap (λ (o : Option (List ℕ)). of_some o badarg f) (no_atom v s h))

  pub bin_answer : (n : ℕ) (f : List ℕ → Answer) → IsSeen heap t (view.Bin n) → f (bytes_in t) ≡ of_bytes t f
  bin_answer n f s = sym (ap (λ (o : Option (List ℕ)). of_some o badarg f) (bin_seen n s))

  pub no_bin_answer : (v : View) (f : List ℕ → Answer) → IsSeen heap t v → ((n : ℕ) → v ≡ view.Bin n → ⊥) → badarg ≡ of_bytes t f
  no_bin_answer v f s h = sym (ap (λ (o : Option (List ℕ)). of_some o badarg f) (no_bin v s h))

  -- ---- what is counted of it

  pub pairs_counted : (n : ℕ) → IsSeen heap t (view.Map n) → pair_count t ≡ n
  pairs_counted n s = ap (λ (o : Option (List (TermTree × TermTree))). of_some o 0 (λ ps. length ps)) (map_seen n s) ∙ s.1

  pub no_pairs_counted : (v : View) → IsSeen heap t v → ((n : ℕ) → v ≡ view.Map n → ⊥) → pair_count t ≡ 0
  no_pairs_counted v s h = ap (λ (o : Option (List (TermTree × TermTree))). of_some o 0 (λ ps. length ps)) (no_map v s h)

  pub where_map_seen : (n k : ℕ) → IsSeen heap t (view.Map n) → where_map t k ≡ k
  where_map_seen n k s = ap (λ (o : Option (List (TermTree × TermTree))). of_some o 0 (λ ps. k)) (map_seen n s)

  pub where_no_map : (v : View) (k : ℕ) → IsSeen heap t v → ((n : ℕ) → v ≡ view.Map n → ⊥) → where_map t k ≡ 0
  where_no_map v k s h = ap (λ (o : Option (List (TermTree × TermTree))). of_some o 0 (λ ps. k)) (no_map v s h)

  pub elements_counted : (n : ℕ) → IsSeen heap t (view.Tuple n) → element_count t ≡ n
  elements_counted n s = ap (λ (o : Option (List TermTree)). of_some o 0 (λ ts. length ts)) (tuple_seen n s) ∙ s.1

  pub no_elements_counted : (v : View) → IsSeen heap t v → ((n : ℕ) → v ≡ view.Tuple n → ⊥) → element_count t ≡ 0
  no_elements_counted v s h = ap (λ (o : Option (List TermTree)). of_some o 0 (λ ts. length ts)) (no_tuple v s h)

  pub where_bin_seen : (n k : ℕ) → IsSeen heap t (view.Bin n) → where_binary t k ≡ k
  where_bin_seen n k s = ap (λ (o : Option (List ℕ)). of_some o 0 (λ bytes. k)) (bin_seen n s)

  pub where_no_bin : (v : View) (k : ℕ) → IsSeen heap t v → ((n : ℕ) → v ≡ view.Bin n → ⊥) → where_binary t k ≡ 0
  where_no_bin v k s h = ap (λ (o : Option (List ℕ)). of_some o 0 (λ bytes. k)) (no_bin v s h)

pub is_proper : (t : TermTree) → ends_in_nil t ≡ true → proper t ≡ Some (elements t)
is_proper t e = ap (λ (b : Bool). if b then Some (elements t) else None) e

pub is_improper : (t : TermTree) → ends_in_nil t ≡ false → proper t ≡ None
is_improper t e = ap (λ (b : Bool). if b then Some (elements t) else None) e

pub list_answer : (t : TermTree) (f : List TermTree → Answer) (b : Bool) → b ≡ ends_in_nil t → b ≡ true → f (elements t) ≡ of_list t f
list_answer t f b e g = sym (ap (λ (o : Option (List TermTree)). of_some o badarg f) (is_proper t (sym e ∙ g)))

pub no_list_answer : (t : TermTree) (f : List TermTree → Answer) (b : Bool) → b ≡ ends_in_nil t → b ≡ false → badarg ≡ of_list t f
no_list_answer t f b e g = sym (ap (λ (o : Option (List TermTree)). of_some o badarg f) (is_improper t (sym e ∙ g)))

pub is_some_map : {A B : Type 0} (f : A → B) (o : Option A) → is_some (option_map f o) ≡ is_some o
is_some_map f (Some x) = refl
is_some_map f None = refl

pub value_of_some : (o : Option TermTree) (other : TermTree) (f : TermTree → TermTree) → Value (of_some o other f) ≡ of_some o (Value other) (λ x. Value (f x))
value_of_some (Some x) other f = refl
value_of_some None other f = refl

-- ---- the elements of a list that ends in nil

pub proper_are : (t : TermTree) (ts : List TermTree) → Some ts ≡ proper t → ts ≡ elements t
proper_are t ts e = go (ends_in_nil t) e
  where
    go : (b : Bool) → Some ts ≡ (if b then Some (elements t) else None) → ts ≡ elements t
    go true e = cc
    go false e = absurd (cc)

pub proper_answer : (t : TermTree) (f : List TermTree → Answer) (ts : List TermTree) → Some ts ≡ proper t → f ts ≡ of_list t f
proper_answer t f ts e = ap (λ (o : Option (List TermTree)). of_some o badarg f) e

pub improper_answer : (t : TermTree) (f : List TermTree → Answer) → None ≡ proper t → badarg ≡ of_list t f
improper_answer t f e = ap (λ (o : Option (List TermTree)). of_some o badarg f) e
