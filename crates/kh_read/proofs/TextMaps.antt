-- Reading maps.
use Rattle.std.proofs.Common.{◌≡◌, ◌≤◌, ◌<◌, ℕ, zero, suc, ◌+◌, Bool, true, false, not, ◌&&◌, ◌||◌, cond, eqb, ltb, List, [], ◌∷◌, ◌++◌, length, inl, inr, refl, sym, ap, subst, ◌∙◌, arith, append_assoc, pos}
use Rattle.std.specs.Prelude.{◌⊎◌}
use Rattle.std.proofs.lemmas.Bool.{eqb-true}
use Rattle.kh_term.specs.declared.tree.TermTree.{TermTree}
use Rattle.kh_term.specs.declared.tree.TermTree.TheVariants as tree
use Rattle.kh_text_defs.specs.Blanks.{no_blank, Wide, Commas, begins_no_blank}
use Rattle.kh_term.specs.MapOf.{map_of}
use Rattle.kh_text_defs.specs.Spelled.{Rules, KeyValues, SpellsPair, SpellsDeep, map_text, Spells}
use Rattle.kh_read.specs.State.{Frame, InKey, InValue, Place, Before, After, Arrow, State, Setting, Halt, Syntax, Step, Stop, Reading, Cut}
use Rattle.kh_read.specs.Steps.{at, fault, begin_term, step_before, step_after, step_arrow, step_mark, step_between, step_place, read_on}
use Rattle.kh_read.proofs.TextCore.{spot, byte_goes, byte_stops, is_blank_byte, at_the_end}
use Rattle.kh_read.proofs.TextReads.{Reads, whole, part, halted, any, reads_as, reads_then, Then, Sample, Marked, only_mark, Run, Body, bare, filled}
use Rattle.kh_read.proofs.TextQuotes.{reads_byte}
use Rattle.kh_read.proofs.TextBrackets.{deep, zero_text, before_step, after_step, after_cut, Ready, behind_term, TermReads, wide_term, Bracket, bracket, Closing, closing_sample, reads_closing}

module _ (σ : Setting) (l : ℕ) (fs : List Frame) (reads : TermReads σ l) (ready : Ready σ fs (suc l)) where
  abbrev after_pair : KeyValues → TermTree × TermTree → State
  after_pair ps kv = spot (After kv.1) (InValue ps kv.0 ∷ fs)

  -- a value behind its key
  record ValueOf (k : TermTree) (text : List ℕ) (kv : TermTree × TermTree) : Type 0 where
    value : Wide (Spells σ.rules l) text kv.1
    key : kv.0 ≡ k

  abbrev Arrowed : TermTree → List ℕ → TermTree × TermTree → Type 0
  Arrowed k = Marked 61 (Marked 62 (ValueOf k))

  pub value_begin : (ps : KeyValues) (k : TermTree) (p b : ℕ) → step_before σ (InValue ps k ∷ fs) p b ≡ begin_term σ (InValue ps k ∷ fs) p b
  unfolding step_before
  value_begin ps k p b = refl

  values : (ps : KeyValues) (k : TermTree) (p : ℕ) (text : List ℕ) → Reads σ begins_no_blank (ValueOf k) (after_pair ps) p text (read_on σ (spot Before (InValue ps k ∷ fs)) p text)
  values ps k p text =
      reads_as σ begins_no_blank (Wide (Spells σ.rules l)) (ValueOf k) (behind_term (InValue ps k ∷ fs)) (after_pair ps) (λ v. (k, v)) p text _ _
      (λ u v r. record { value = r; key = refl }) (λ v. refl) refl
      (wide_term σ l (InValue ps k ∷ fs) reads (record { room = omega (arith, ready.room); segment = refl; arity = refl; name = refl }) (value_begin ps k) p text)

  wide_zero : Wide (Spells σ.rules l) (48 ∷ []) (tree.Int (pos 0))
  wide_zero = record { before = []; inside = 48 ∷ []; behind = []; blank_before = no_blank; stands = zero_text σ.rules l; blank_behind = no_blank; parts = refl }

  pub key_equals : (ps : KeyValues) (k : TermTree) (b : ℕ) → eqb b 61 ≡ true → step_after σ.sized (InKey ps ∷ fs) k b ≡ at (Arrow k) (InKey ps ∷ fs)
  unfolding step_after
  key_equals ps k b e = rw e refl

  pub key_fault : (ps : KeyValues) (k : TermTree) (b : ℕ) → eqb b 61 ≡ false → step_after σ.sized (InKey ps ∷ fs) k b ≡ fault
  unfolding step_after
  key_fault ps k b e = rw e refl

  pub arrow_goes : (ps : KeyValues) (k : TermTree) (q b : ℕ) → eqb b 62 ≡ true → step_place σ (Arrow k) (InKey ps ∷ fs) q b ≡ at Before (InValue ps k ∷ fs)
  unfolding step_place step_arrow
  arrow_goes ps k q b e = rw e refl

  arrow_fault : (ps : KeyValues) (k : TermTree) (q b : ℕ) → eqb b 62 ≡ false → step_place σ (Arrow k) (InKey ps ∷ fs) q b ≡ fault
  unfolding step_place step_arrow
  arrow_fault ps k q b e = rw e refl

  arrows : (ps : KeyValues) (k : TermTree) (q : ℕ) (text : List ℕ) → Reads σ begins_no_blank (Marked 62 (ValueOf k)) (after_pair ps) q text (read_on σ (spot (Arrow k) (InKey ps ∷ fs)) q text)
  arrows ps k q [] =
      part (62 ∷ 48 ∷ []) (k, tree.Int (pos 0)) (at_the_end σ (spot (Arrow k) (InKey ps ∷ fs)) q)
      (record { behind = 48 ∷ []; stands = record { value = wide_zero; key = refl }; parts = refl })
  arrows ps k q (b ∷ rest) =
      only_mark σ begins_no_blank 62 (ValueOf k) (after_pair ps) q b rest _ _ Syntax
      (λ e. byte_goes σ (Arrow k) (InKey ps ∷ fs) q b rest _ (arrow_goes ps k q b e)) (λ e. byte_stops σ (Arrow k) (InKey ps ∷ fs) q b rest _ (arrow_fault ps k q b e))
      (values ps k (suc q) rest)

  pair_of : (text : List ℕ) (kv : TermTree × TermTree) → Then (Wide (Spells σ.rules l)) Arrowed text kv → SpellsPair (Spells σ.rules l) text kv
  pair_of text kv h =
      let m = h.is_second in
      let n = m.stands in
      record {
        key = h.first;
        value = n.behind;
        is_key = subst (λ (k : TermTree). Wide (Spells σ.rules l) h.first k) (sym n.stands.key) h.is_first;
        is_value = n.stands.value;
        parts = h.parts ∙ ap (λ (w : List ℕ). h.first ++ w) (m.parts ∙ ap (λ (w : List ℕ). 61 ∷ w) n.parts);
      }

  pairs_from : (ps : KeyValues) (p : ℕ) (text : List ℕ) (start : Reading) → Reads σ begins_no_blank (Wide (Spells σ.rules l)) (behind_term (InKey ps ∷ fs)) p text start
      → Reads σ begins_no_blank (SpellsPair (Spells σ.rules l)) (after_pair ps) p text start
  pairs_from ps p text start h =
      reads_as σ begins_no_blank (Then (Wide (Spells σ.rules l)) Arrowed) (SpellsPair (Spells σ.rules l)) (after_pair ps) (after_pair ps) (λ kv. kv) p text start start
      pair_of (λ kv. refl) refl
      (reads_then σ begins_no_blank (Wide (Spells σ.rules l)) Arrowed (behind_term (InKey ps ∷ fs)) (after_pair ps) (λ k q. after_cut σ k (InKey ps ∷ fs) q)
      (λ k. record { text = 61 ∷ 62 ∷ 48 ∷ []; value = (k, tree.Int (pos 0)); stands = record { behind = 62 ∷ 48 ∷ []; stands = record { behind = 48 ∷ []; stands = record { value = wide_zero; key = refl }; parts = refl }; parts = refl } })
      (λ k q b rest mark. only_mark σ begins_no_blank 61 (Marked 62 (ValueOf k)) (after_pair ps) q b rest _ _ Syntax
      (λ e. byte_goes σ (After k) (InKey ps ∷ fs) q b rest _ (after_step σ k (InKey ps ∷ fs) q b mark ∙ key_equals ps k b e))
      (λ e. byte_stops σ (After k) (InKey ps ∷ fs) q b rest _ (after_step σ k (InKey ps ∷ fs) q b mark ∙ key_fault ps k b e))
      (arrows ps k (suc q) rest))
      p text start h)

  pub key_begin : (xs : KeyValues) (x : TermTree × TermTree) (p b : ℕ) → step_before σ (InKey (xs ++ x ∷ []) ∷ fs) p b ≡ begin_term σ (InKey (xs ++ x ∷ []) ∷ fs) p b
  unfolding step_before
  key_begin [] x p b = refl
  key_begin (y ∷ ys) x p b = refl

  pub key_first : (p b : ℕ) → eqb b 125 ≡ false → step_before σ (InKey [] ∷ fs) p b ≡ begin_term σ (InKey [] ∷ fs) p b
  unfolding step_before
  key_first p b e = rw e refl

  pub map_empty : (q : ℕ) → step_place σ Before (InKey [] ∷ fs) q 125 ≡ at (After (tree.Map [])) fs
  unfolding step_place step_between step_mark step_before
  map_empty q = refl

  pub map_comma : (ps : KeyValues) (kv : TermTree × TermTree) (q : ℕ) → step_place σ (After kv.1) (InValue ps kv.0 ∷ fs) q 44 ≡ at Before (InKey (ps ++ kv ∷ []) ∷ fs)
  unfolding step_place step_between step_mark step_after
  map_comma ps kv q = refl

  pub map_close : (ps : KeyValues) (kv : TermTree × TermTree) (b : ℕ) → eqb b 44 ≡ false → eqb b 125 ≡ true → step_after σ.sized (InValue ps kv.0 ∷ fs) kv.1 b ≡ at (After (tree.Map (map_of (ps ++ kv ∷ [])))) fs
  unfolding step_after
  map_close ps kv b e f = rw (e, f) refl

  pub map_fault : (ps : KeyValues) (kv : TermTree × TermTree) (b : ℕ) → eqb b 44 ≡ false → eqb b 125 ≡ false → step_after σ.sized (InValue ps kv.0 ∷ fs) kv.1 b ≡ fault
  unfolding step_after
  map_fault ps kv b e f = rw (e, f) refl

  abbrev MapEnd : KeyValues → List ℕ → TermTree → Type 0
  MapEnd ps = Closing 125 (tree.Map (map_of ps))

  map_bracket : Bracket σ l fs reads InKey (SpellsPair (Spells σ.rules l)) after_pair MapEnd 125 (tree.Map []) (behind_term fs)
  map_bracket = record {
    ready = λ xs. record { room = omega (arith, ready.room); segment = refl; arity = refl; name = refl };
    begin_some = key_begin;
    begin_none = key_first;
    close_none = λ q rest. byte_goes σ Before (InKey [] ∷ fs) q 125 rest _ (map_empty q);
    item_from = pairs_from;
    comma = λ xs x q rest. byte_goes σ (After x.1) (InValue xs x.0 ∷ fs) q 44 rest _ (map_comma xs x q);
    finish = λ xs x q b rest no_comma mark. reads_closing σ 125 (tree.Map (map_of (xs ++ x ∷ []))) (behind_term fs) (After x.1) (InValue xs x.0 ∷ fs) q b rest _
        (λ e. after_step σ x.1 (InValue xs x.0 ∷ fs) q b mark ∙ map_close xs x b no_comma e) refl (λ e. after_step σ x.1 (InValue xs x.0 ∷ fs) q b mark ∙ map_fault xs x b no_comma e);
    ends = λ xs x q. after_cut σ x.1 (InValue xs x.0 ∷ fs) q;
    sample = λ xs. closing_sample 125 (tree.Map (map_of xs));
  }

  map_read : (text : List ℕ) (t : TermTree) → Body (SpellsPair (Spells σ.rules l)) MapEnd 125 (tree.Map []) text t → Spells σ.rules (suc l) (35 ∷ 123 ∷ text) t
  map_read text t (bare blank blanks parts same) =
      subst (λ (u : TermTree). Spells σ.rules (suc l) (35 ∷ 123 ∷ text) u) (sym same)
      (deep σ.rules l _ _ (map_text (35 ∷ 123 ∷ text) blank [] (inl (blanks, refl)) (ap (λ (w : List ℕ). 35 ∷ 123 ∷ w) parts)))
  map_read text t (filled run) =
      subst (λ (u : TermTree). Spells σ.rules (suc l) (35 ∷ 123 ∷ text) u) (sym run.ends.same)
      (deep σ.rules l _ _ (map_text (35 ∷ 123 ∷ text) run.inside run.values (inr run.commas) (ap (λ (w : List ℕ). 35 ∷ 123 ∷ w) (run.parts ∙ ap (λ (w : List ℕ). run.inside ++ w) run.ends.is))))

  pub maps : (p : ℕ) (rest : List ℕ) → Reads σ any (λ text t. Spells σ.rules (suc l) (35 ∷ 123 ∷ text) t) (behind_term fs) p rest (read_on σ (spot Before (InKey [] ∷ fs)) p rest)
  maps p rest =
      reads_as σ any (Body (SpellsPair (Spells σ.rules l)) MapEnd 125 (tree.Map [])) (λ text t. Spells σ.rules (suc l) (35 ∷ 123 ∷ text) t) (behind_term fs) (behind_term fs) (λ t. t) p rest _ _
      map_read (λ t. refl) refl
      (bracket σ l fs reads InKey (SpellsPair (Spells σ.rules l)) after_pair MapEnd 125 (tree.Map []) (behind_term fs) map_bracket p rest)
