-- Reading tuples, lists, and texts as lists.
use Rattle.std.proofs.Common.{◌≡◌, ◌≤◌, ◌<◌, ℕ, zero, suc, ◌+◌, Bool, true, false, not, ◌&&◌, ◌||◌, cond, eqb, ltb, List, [], ◌∷◌, ◌++◌, length, inl, inr, refl, sym, ap, subst, ◌∙◌, arith, append_assoc}
use Rattle.std.specs.Prelude.{◌⊎◌}
use Rattle.std.proofs.lemmas.Bool.{eqb-true, lt-ltb}
use Rattle.std.proofs.lemmas.List.{append-nil}
use Rattle.kh_term.specs.declared.tree.TermTree.{TermTree}
use Rattle.kh_term.specs.declared.tree.TermTree.TheVariants as tree
use Rattle.kh_term.specs.Make.{list_of, list_with_tail}
use Rattle.kh_text_defs.specs.Blanks.{Wide, Commas, Elements, begins_no_blank}
use Rattle.kh_text_defs.specs.Spelled.{Rules, list_of_points, SpellsDeep, list, list_and_tail, points, tuple, Spells}
use Rattle.kh_text_defs.specs.Tokens.{Characters, Quoted}
use Rattle.kh_read.specs.State.{Frame, InList, InTail, InTuple, Quoting, ForList, Plain, Place, Before, After, Quote, State, Setting, Halt, Syntax, Step, Stop, Reading}
use Rattle.kh_read.specs.Steps.{at, fault, quote_ended, begin_term, step_before, step_after, step_mark, step_between, step_place, read_on}
use Rattle.kh_read.proofs.TextCore.{spot, byte_goes, byte_stops, is_blank_byte}
use Rattle.kh_read.proofs.TextReads.{Reads, whole, part, halted, any, reads_as, reads_then, Then, Sample, Marked, only_mark, Run, Body, bare, filled}
use Rattle.kh_read.proofs.TextQuotes.{reads_byte, PlainRest}
use Rattle.kh_read.proofs.TextQuoted.{quoted}
use Rattle.kh_read.proofs.TextBrackets.{deep, zero_text, before_step, after_step, after_cut, Ready, behind_term, TermReads, wide_term, Bracket, bracket, Closing, closing_sample, reads_closing}

module _ (σ : Setting) (l : ℕ) (fs : List Frame) (reads : TermReads σ l) (ready : Ready σ fs (suc l)) where
  abbrev one : List ℕ → TermTree → Type 0
  one = Spells σ.rules l

  -- ---- tuples

  pub tuple_begin : (xs : List TermTree) (x : TermTree) (p b : ℕ) → step_before σ (InTuple (xs ++ x ∷ []) ∷ fs) p b ≡ begin_term σ (InTuple (xs ++ x ∷ []) ∷ fs) p b
  unfolding step_before
  tuple_begin [] x p b = refl
  tuple_begin (y ∷ ys) x p b = refl

  pub tuple_first : (p b : ℕ) → eqb b 125 ≡ false → step_before σ (InTuple [] ∷ fs) p b ≡ begin_term σ (InTuple [] ∷ fs) p b
  unfolding step_before
  tuple_first p b e = rw e refl

  pub tuple_empty : (q : ℕ) → step_place σ Before (InTuple [] ∷ fs) q 125 ≡ at (After (tree.Tuple [])) fs
  unfolding step_place step_between step_mark step_before
  tuple_empty q = refl

  pub tuple_comma : (xs : List TermTree) (t : TermTree) (q : ℕ) → step_place σ (After t) (InTuple xs ∷ fs) q 44 ≡ at Before (InTuple (xs ++ t ∷ []) ∷ fs)
  unfolding step_place step_between step_mark step_after
  tuple_comma xs t q = refl

  pub tuple_close : (xs : List TermTree) (t : TermTree) (b : ℕ) → eqb b 44 ≡ false → eqb b 125 ≡ true → step_after σ.sized (InTuple xs ∷ fs) t b ≡ at (After (tree.Tuple (xs ++ t ∷ []))) fs
  unfolding step_after
  tuple_close xs t b e f = rw (e, f) refl

  pub tuple_fault : (xs : List TermTree) (t : TermTree) (b : ℕ) → eqb b 44 ≡ false → eqb b 125 ≡ false → step_after σ.sized (InTuple xs ∷ fs) t b ≡ fault
  unfolding step_after
  tuple_fault xs t b e f = rw (e, f) refl

  tuple_bracket : Bracket σ l fs reads InTuple (Wide (Spells σ.rules l)) (λ xs t. spot (After t) (InTuple xs ∷ fs)) (λ xs. Closing 125 (tree.Tuple xs)) 125 (tree.Tuple []) (behind_term fs)
  tuple_bracket = record {
    ready = λ xs. record { room = omega (arith, ready.room); segment = refl; arity = refl; name = refl };
    begin_some = tuple_begin;
    begin_none = tuple_first;
    close_none = λ q rest. byte_goes σ Before (InTuple [] ∷ fs) q 125 rest _ (tuple_empty q);
    item_from = λ xs p text start h. h;
    comma = λ xs x q rest. byte_goes σ (After x) (InTuple xs ∷ fs) q 44 rest _ (tuple_comma xs x q);
    finish = λ xs x q b rest no_comma mark. reads_closing σ 125 (tree.Tuple (xs ++ x ∷ [])) (behind_term fs) (After x) (InTuple xs ∷ fs) q b rest _
        (λ e. after_step σ x (InTuple xs ∷ fs) q b mark ∙ tuple_close xs x b no_comma e) refl (λ e. after_step σ x (InTuple xs ∷ fs) q b mark ∙ tuple_fault xs x b no_comma e);
    ends = λ xs x q. after_cut σ x (InTuple xs ∷ fs) q;
    sample = λ xs. closing_sample 125 (tree.Tuple xs);
  }

  tuple_of : (text : List ℕ) (t : TermTree) → Body (Wide (Spells σ.rules l)) (λ xs. Closing 125 (tree.Tuple xs)) 125 (tree.Tuple []) text t → Spells σ.rules (suc l) (123 ∷ text) t
  tuple_of text t (bare blank blanks parts same) =
      subst (λ (u : TermTree). Spells σ.rules (suc l) (123 ∷ text) u) (sym same)
      (deep σ.rules l _ _ (tuple (123 ∷ text) blank [] (inl (blanks, refl)) (ap (λ (w : List ℕ). 123 ∷ w) parts)))
  tuple_of text t (filled run) =
      subst (λ (u : TermTree). Spells σ.rules (suc l) (123 ∷ text) u) (sym run.ends.same)
      (deep σ.rules l _ _ (tuple (123 ∷ text) run.inside run.values (inr run.commas) (ap (λ (w : List ℕ). 123 ∷ w) (run.parts ∙ ap (λ (w : List ℕ). run.inside ++ w) run.ends.is))))

  pub tuples : (p : ℕ) (rest : List ℕ) (start : Reading) → start ≡ read_on σ (spot Before (InTuple [] ∷ fs)) (suc p) rest → Reads σ any (Spells σ.rules (suc l)) (behind_term fs) p (123 ∷ rest) start
  tuples p rest start goes =
      reads_byte σ any (Body (Wide (Spells σ.rules l)) (λ xs. Closing 125 (tree.Tuple xs)) 125 (tree.Tuple [])) (Spells σ.rules (suc l)) (behind_term fs) (behind_term fs) (λ t. t) p 123 rest start _
      tuple_of (λ t. refl) goes
      (bracket σ l fs reads InTuple (Wide (Spells σ.rules l)) (λ xs t. spot (After t) (InTuple xs ∷ fs)) (λ xs. Closing 125 (tree.Tuple xs)) 125 (tree.Tuple []) (behind_term fs) tuple_bracket (suc p) rest)

  -- ---- lists

  abbrev TailText : List TermTree → List ℕ → TermTree → Type 0
  TailText xs = Then (Wide (Spells σ.rules l)) (λ t. Closing 93 (list_with_tail xs t))

  data ListEnd (xs : List TermTree) (text : List ℕ) (y : TermTree) : Type 0 where
    closes : Closing 93 (list_of xs) text y → ListEnd xs text y
    has_tail : Marked 124 (TailText xs) text y → ListEnd xs text y

  pub list_begin : (xs : List TermTree) (x : TermTree) (p b : ℕ) → step_before σ (InList (xs ++ x ∷ []) ∷ fs) p b ≡ begin_term σ (InList (xs ++ x ∷ []) ∷ fs) p b
  unfolding step_before
  list_begin [] x p b = refl
  list_begin (y ∷ ys) x p b = refl

  pub list_first : (p b : ℕ) → eqb b 93 ≡ false → step_before σ (InList [] ∷ fs) p b ≡ begin_term σ (InList [] ∷ fs) p b
  unfolding step_before
  list_first p b e = rw e refl

  pub list_empty : (q : ℕ) → step_place σ Before (InList [] ∷ fs) q 93 ≡ at (After tree.Nil) fs
  unfolding step_place step_between step_mark step_before
  list_empty q = refl

  pub list_comma : (xs : List TermTree) (t : TermTree) (q : ℕ) → step_place σ (After t) (InList xs ∷ fs) q 44 ≡ at Before (InList (xs ++ t ∷ []) ∷ fs)
  unfolding step_place step_between step_mark step_after
  list_comma xs t q = refl

  pub list_bar : (xs : List TermTree) (t : TermTree) (b : ℕ) → eqb b 44 ≡ false → eqb b 124 ≡ true → step_after σ.sized (InList xs ∷ fs) t b ≡ at Before (InTail (xs ++ t ∷ []) ∷ fs)
  unfolding step_after
  list_bar xs t b e f = rw (e, f) refl

  pub list_close : (xs : List TermTree) (t : TermTree) (b : ℕ) → eqb b 44 ≡ false → eqb b 124 ≡ false → eqb b 93 ≡ true → step_after σ.sized (InList xs ∷ fs) t b ≡ at (After (list_of (xs ++ t ∷ []))) fs
  unfolding step_after
  list_close xs t b e f g = rw (e, f, g) refl

  pub list_fault : (xs : List TermTree) (t : TermTree) (b : ℕ) → eqb b 44 ≡ false → eqb b 124 ≡ false → eqb b 93 ≡ false → step_after σ.sized (InList xs ∷ fs) t b ≡ fault
  unfolding step_after
  list_fault xs t b e f g = rw (e, f, g) refl

  pub tail_begin : (xs : List TermTree) (p b : ℕ) → step_before σ (InTail xs ∷ fs) p b ≡ begin_term σ (InTail xs ∷ fs) p b
  unfolding step_before
  tail_begin xs p b = refl

  pub tail_close : (xs : List TermTree) (t : TermTree) (b : ℕ) → eqb b 93 ≡ true → step_after σ.sized (InTail xs ∷ fs) t b ≡ at (After (list_with_tail xs t)) fs
  unfolding step_after
  tail_close xs t b e = rw e refl

  pub tail_fault : (xs : List TermTree) (t : TermTree) (b : ℕ) → eqb b 93 ≡ false → step_after σ.sized (InTail xs ∷ fs) t b ≡ fault
  unfolding step_after
  tail_fault xs t b e = rw e refl

  tails : (xs : List TermTree) (p : ℕ) (text : List ℕ) → Reads σ any (TailText xs) (behind_term fs) p text (read_on σ (spot Before (InTail xs ∷ fs)) p text)
  tails xs p text =
      reads_then σ any (Wide (Spells σ.rules l)) (λ t. Closing 93 (list_with_tail xs t)) (behind_term (InTail xs ∷ fs)) (behind_term fs)
      (λ t q. after_cut σ t (InTail xs ∷ fs) q) (λ t. closing_sample 93 (list_with_tail xs t))
      (λ t q b rest mark. reads_closing σ 93 (list_with_tail xs t) (behind_term fs) (After t) (InTail xs ∷ fs) q b rest _
      (λ e. after_step σ t (InTail xs ∷ fs) q b mark ∙ tail_close xs t b e) refl (λ e. after_step σ t (InTail xs ∷ fs) q b mark ∙ tail_fault xs t b e))
      p text _ (wide_term σ l (InTail xs ∷ fs) reads (record { room = omega (arith, ready.room); segment = refl; arity = refl; name = refl }) (tail_begin xs) p text)

  list_finish : (xs : List TermTree) (x : TermTree) (q b : ℕ) (rest : List ℕ) → eqb b 44 ≡ false → is_blank_byte b ≡ false
      → Reads σ any (ListEnd (xs ++ x ∷ [])) (behind_term fs) q (b ∷ rest) (read_on σ (spot (After x) (InList xs ∷ fs)) q (b ∷ rest))
  list_finish xs x q b rest no_comma mark = go (eqb b 124) refl
    where
      go : (t : Bool) → eqb b 124 ≡ t → Reads σ any (ListEnd (xs ++ x ∷ [])) (behind_term fs) q (b ∷ rest) (read_on σ (spot (After x) (InList xs ∷ fs)) q (b ∷ rest))
      go true e =
          reads_byte σ any (TailText (xs ++ x ∷ [])) (ListEnd (xs ++ x ∷ [])) (behind_term fs) (behind_term fs) (λ t. t) q b rest _ _
          (λ u t r. has_tail (record { behind = u; stands = r; parts = ap (λ (k : ℕ). k ∷ u) (eqb-true b 124 e) })) (λ t. refl)
          (byte_goes σ (After x) (InList xs ∷ fs) q b rest _ (after_step σ x (InList xs ∷ fs) q b mark ∙ list_bar xs x b no_comma e))
          (tails (xs ++ x ∷ []) (suc q) rest)
      go false e =
          reads_as σ any (Closing 93 (list_of (xs ++ x ∷ []))) (ListEnd (xs ++ x ∷ [])) (behind_term fs) (behind_term fs) (λ t. t) q (b ∷ rest) _ _
          (λ u t r. closes r) (λ t. refl) refl
          (reads_closing σ 93 (list_of (xs ++ x ∷ [])) (behind_term fs) (After x) (InList xs ∷ fs) q b rest _
          (λ f. after_step σ x (InList xs ∷ fs) q b mark ∙ list_close xs x b no_comma e f) refl (λ f. after_step σ x (InList xs ∷ fs) q b mark ∙ list_fault xs x b no_comma e f))

  list_bracket : Bracket σ l fs reads InList (Wide (Spells σ.rules l)) (λ xs t. spot (After t) (InList xs ∷ fs)) ListEnd 93 tree.Nil (behind_term fs)
  list_bracket = record {
    ready = λ xs. record { room = omega (arith, ready.room); segment = refl; arity = refl; name = refl };
    begin_some = list_begin;
    begin_none = list_first;
    close_none = λ q rest. byte_goes σ Before (InList [] ∷ fs) q 93 rest _ (list_empty q);
    item_from = λ xs p text start h. h;
    comma = λ xs x q rest. byte_goes σ (After x) (InList xs ∷ fs) q 44 rest _ (list_comma xs x q);
    finish = list_finish;
    ends = λ xs x q. after_cut σ x (InList xs ∷ fs) q;
    sample = λ xs. record { text = 93 ∷ []; value = list_of xs; stands = closes (record { is = refl; same = refl }) };
  }

  list_run : (text : List ℕ) (t : TermTree) (run : Run (Wide (Spells σ.rules l)) ListEnd [] text t) → ListEnd run.values run.end t → Spells σ.rules (suc l) (91 ∷ text) t
  list_run text t run (closes c) =
      subst (λ (u : TermTree). Spells σ.rules (suc l) (91 ∷ text) u) (sym c.same)
      (deep σ.rules l _ _ (list (91 ∷ text) run.inside run.values (inr run.commas) (ap (λ (w : List ℕ). 91 ∷ w) (run.parts ∙ ap (λ (w : List ℕ). run.inside ++ w) c.is))))
  list_run text t run (has_tail m) =
      let h = m.stands in
      subst (λ (u : TermTree). Spells σ.rules (suc l) (91 ∷ text) u) (sym h.is_second.same)
      (deep σ.rules l _ _ (list_and_tail (91 ∷ text) run.inside h.first run.values h.value run.commas h.is_first
      (ap (λ (w : List ℕ). 91 ∷ w) (run.parts ∙ ap (λ (w : List ℕ). run.inside ++ w) (m.parts ∙ ap (λ (w : List ℕ). 124 ∷ w) (h.parts ∙ ap (λ (w : List ℕ). h.first ++ w) h.is_second.is))))))

  list_text : (text : List ℕ) (t : TermTree) → Body (Wide (Spells σ.rules l)) ListEnd 93 tree.Nil text t → Spells σ.rules (suc l) (91 ∷ text) t
  list_text text t (bare blank blanks parts same) =
      subst (λ (u : TermTree). Spells σ.rules (suc l) (91 ∷ text) u) (sym same)
      (deep σ.rules l _ _ (list (91 ∷ text) blank [] (inl (blanks, refl)) (ap (λ (w : List ℕ). 91 ∷ w) parts)))
  list_text text t (filled run) = list_run text t run run.ends

  pub lists : (p : ℕ) (rest : List ℕ) (start : Reading) → start ≡ read_on σ (spot Before (InList [] ∷ fs)) (suc p) rest → Reads σ any (Spells σ.rules (suc l)) (behind_term fs) p (91 ∷ rest) start
  lists p rest start goes =
      reads_byte σ any (Body (Wide (Spells σ.rules l)) ListEnd 93 tree.Nil) (Spells σ.rules (suc l)) (behind_term fs) (behind_term fs) (λ t. t) p 91 rest start _
      list_text (λ t. refl) goes
      (bracket σ l fs reads InList (Wide (Spells σ.rules l)) (λ xs t. spot (After t) (InList xs ∷ fs)) ListEnd 93 tree.Nil (behind_term fs) list_bracket (suc p) rest)

  -- ---- a text as the list of its code points

  abbrev empty_list : Quoting
  empty_list = record { use_ = ForList; points = [] }

  points_text : (text cs : List ℕ) → PlainRest σ.rules.mode (record { use_ = ForList; points = [] }) text cs → Spells σ.rules (suc l) (34 ∷ text) (list_of_points cs)
  points_text text cs h =
      deep σ.rules l _ _ (points (34 ∷ text) cs (record {
        inside = h.inside;
        characters = subst (λ (ds : List ℕ). Characters 34 h.inside ds) (sym h.value) h.characters;
        parts = ap (λ (w : List ℕ). 34 ∷ w) h.parts;
      }))

  pub texts : (p : ℕ) (rest : List ℕ) (start : Reading) → start ≡ read_on σ (spot (Quote (record { use_ = ForList; points = [] }) Plain) fs) (suc p) rest
      → Reads σ any (Spells σ.rules (suc l)) (behind_term fs) p (34 ∷ rest) start
  texts p rest start goes =
      reads_byte σ any (PlainRest σ.rules.mode (record { use_ = ForList; points = [] })) (Spells σ.rules (suc l)) (λ cs. spot (quote_ended fs ForList cs) fs) (behind_term fs) list_of_points p 34 rest start _
      points_text (λ cs. refl) goes (quoted σ fs rest (record { use_ = ForList; points = [] }) Plain (suc p) tt)
