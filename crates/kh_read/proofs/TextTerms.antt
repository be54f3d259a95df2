-- Reading terms.
use Rattle.std.proofs.Common.{◌≡◌, ◌≤◌, ◌<◌, ℕ, zero, suc, ◌+◌, Bool, true, false, not, ◌&&◌, ◌||◌, cond, eqb, ltb, List, [], ◌∷◌, ◌++◌, length, inl, inr, refl, sym, ap, subst, ◌∙◌, arith, append_assoc}
use Rattle.std.specs.Prelude.{◌⊎◌, codes}
use Rattle.std.specs.Char.{is_ascii_digit, is_ascii_lowercase}
use Rattle.std.proofs.lemmas.Bool.{eqb-true, lt-ltb, le-ltb}
use Rattle.kh_term.specs.declared.tree.TermTree.{TermTree}
use Rattle.kh_term.specs.declared.tree.TermTree.TheVariants as tree
use Rattle.kh_text_defs.specs.declared.mode.Mode.{Mode}
use Rattle.kh_text_defs.specs.declared.mode.Mode.TheVariants.{Script, Listing}
use Rattle.kh_text_defs.specs.Blanks.{no_blank, Wide}
use Rattle.kh_text_defs.specs.Spelled.{Rules, SpellsFlat, is_begun_sharp, begun_sharp, Spells}
use Rattle.kh_read.specs.State.{Frame, InList, InTuple, InKey, InModule, ForList, Plain, Place, Before, After, Quote, Angle, Sharp, State, Setting, Halt, Syntax, Deep, Step, Go, Stop, Reading, Cut}
use Rattle.kh_read.specs.Steps.{at, fault, is_listing, opened, begin_name, begin_integer, begin_term, step_sharp, step_place, read_on}
use Rattle.kh_read.proofs.TextCore.{spot, byte_goes, byte_stops, at_the_end}
use Rattle.kh_read.proofs.TextReads.{Reads, whole, part, halted, any, reads_as}
use Rattle.kh_read.proofs.TextQuotes.{reads_byte}
use Rattle.kh_read.proofs.TextDigits.{integer}
use Rattle.kh_read.proofs.TextFloats.{TakesTerm, integer_ends}
use Rattle.kh_read.proofs.TextReferences.{atoms}
use Rattle.kh_read.proofs.TextBrackets.{flat, deep, Ready, behind_term, TermReads}
use Rattle.kh_read.proofs.TextLists.{tuples, lists, texts}
use Rattle.kh_read.proofs.TextMaps.{maps}
use Rattle.kh_read.proofs.TextClosures.{closures}
use Rattle.kh_read.proofs.TextBinaries.{binaries}

module _ (σ : Setting) where
  module _ (fs : List Frame) (p b : ℕ) where
    pub begins_integer : (eqb b 45 || is_ascii_digit b) ≡ true → begin_term σ fs p b ≡ begin_integer σ.rules fs p b
    unfolding begin_term
    begins_integer e = rw e refl

    pub begins_name : (eqb b 45 || is_ascii_digit b) ≡ false → (is_ascii_lowercase b || eqb b 39) ≡ true → begin_term σ fs p b ≡ begin_name fs b
    unfolding begin_term
    begins_name e f = rw (e, f) refl

    pub begins_list : (eqb b 45 || is_ascii_digit b) ≡ false → (is_ascii_lowercase b || eqb b 39) ≡ false → eqb b 91 ≡ true → begin_term σ fs p b ≡ opened σ.levels (InList []) fs
    unfolding begin_term
    begins_list e f g = rw (e, f, g) refl

    pub begins_tuple : (eqb b 45 || is_ascii_digit b) ≡ false → (is_ascii_lowercase b || eqb b 39) ≡ false → eqb b 91 ≡ false → eqb b 123 ≡ true → begin_term σ fs p b ≡ opened σ.levels (InTuple []) fs
    unfolding begin_term
    begins_tuple e f g h = rw (e, f, g, h) refl

    pub begins_text : (eqb b 45 || is_ascii_digit b) ≡ false → (is_ascii_lowercase b || eqb b 39) ≡ false → eqb b 91 ≡ false → eqb b 123 ≡ false → eqb b 34 ≡ true
        → begin_term σ fs p b ≡ cond (ltb (length fs) σ.levels) (at (Quote (record { use_ = ForList; points = [] }) Plain) fs) (Stop Deep)
    unfolding begin_term
    begins_text e f g h i = rw (e, f, g, h, i) refl

    pub begins_binary : (eqb b 45 || is_ascii_digit b) ≡ false → (is_ascii_lowercase b || eqb b 39) ≡ false → eqb b 91 ≡ false → eqb b 123 ≡ false → eqb b 34 ≡ false → eqb b 60 ≡ true
        → begin_term σ fs p b ≡ at Angle fs
    unfolding begin_term
    begins_binary e f g h i j = rw (e, f, g, h, i, j) refl

    pub begins_sharp : (eqb b 45 || is_ascii_digit b) ≡ false → (is_ascii_lowercase b || eqb b 39) ≡ false → eqb b 91 ≡ false → eqb b 123 ≡ false → eqb b 34 ≡ false → eqb b 60 ≡ false → eqb b 35 ≡ true
        → begin_term σ fs p b ≡ at (Sharp 0) fs
    unfolding begin_term
    begins_sharp e f g h i j k = rw (e, f, g, h, i, j, k) refl

    pub begins_nothing : (eqb b 45 || is_ascii_digit b) ≡ false → (is_ascii_lowercase b || eqb b 39) ≡ false → eqb b 91 ≡ false → eqb b 123 ≡ false → eqb b 34 ≡ false → eqb b 60 ≡ false → eqb b 35 ≡ false
        → begin_term σ fs p b ≡ fault
    unfolding begin_term
    begins_nothing e f g h i j k = rw (e, f, g, h, i, j, k) refl

  -- ---- behind `#`

  record Deeper (l : ℕ) (fs : List Frame) : Type 0 where
    pub list_read : (p : ℕ) (rest : List ℕ) (start : Reading) → start ≡ read_on σ (spot Before (InList [] ∷ fs)) (suc p) rest → Reads σ any (Spells σ.rules l) (behind_term fs) p (91 ∷ rest) start
    pub tuple_read : (p : ℕ) (rest : List ℕ) (start : Reading) → start ≡ read_on σ (spot Before (InTuple [] ∷ fs)) (suc p) rest → Reads σ any (Spells σ.rules l) (behind_term fs) p (123 ∷ rest) start
    pub text_read : (p : ℕ) (rest : List ℕ) (start : Reading) → start ≡ read_on σ (spot (Quote (record { use_ = ForList; points = [] }) Plain) fs) (suc p) rest
        → Reads σ any (Spells σ.rules l) (behind_term fs) p (34 ∷ rest) start
    pub map_read : (p : ℕ) (rest : List ℕ) → Reads σ any (λ u t. Spells σ.rules l (35 ∷ 123 ∷ u) t) (behind_term fs) p rest (read_on σ (spot Before (InKey [] ∷ fs)) p rest)
    pub closure_read : (p : ℕ) (rest : List ℕ) → Reads σ any (λ u t. Spells σ.rules l (35 ∷ 102 ∷ 117 ∷ 110 ∷ 123 ∷ u) t) (behind_term fs) p rest (read_on σ (spot Before (InModule ∷ fs)) p rest)

  -- a level is left, and what it opens is read; or none is left
  abbrev Level : ℕ → List Frame → Type 0
  Level l fs = ((ltb (length fs) σ.levels ≡ true) × Deeper l fs) ⊎ (ltb (length fs) σ.levels ≡ false)

  module _ (l : ℕ) (fs : List Frame) (level : Level l fs) where
    -- an opening byte
    open_at : (here : Place) (F : Frame) (front : List ℕ) (p b c : ℕ) (rest : List ℕ) → step_place σ here fs p b ≡ opened σ.levels F fs → b ≡ c
        → (Deeper l fs → Reads σ any (λ u t. Spells σ.rules l (front ++ c ∷ u) t) (behind_term fs) (suc p) rest (read_on σ (spot Before (F ∷ fs)) (suc p) rest))
        → Reads σ any (λ u t. Spells σ.rules l (front ++ u) t) (behind_term fs) p (b ∷ rest) (read_on σ (spot here fs) p (b ∷ rest))
    open_at here F front p b c rest opens is more = go level
      where
        go : Level l fs → Reads σ any (λ u t. Spells σ.rules l (front ++ u) t) (behind_term fs) p (b ∷ rest) (read_on σ (spot here fs) p (b ∷ rest))
        go (inl h) =
            reads_byte σ any (λ u t. Spells σ.rules l (front ++ c ∷ u) t) (λ u t. Spells σ.rules l (front ++ u) t) (behind_term fs) (behind_term fs) (λ t. t) p b rest _ _
            (λ u t r. subst (λ (k : ℕ). Spells σ.rules l (front ++ k ∷ u) t) (sym is) r) (λ t. refl)
            (byte_goes σ here fs p b rest _ (opens ∙ ap (λ (t : Bool). cond t (at Before (F ∷ fs)) (Stop Deep)) h.0)) (more h.1)
        go (inr none) = halted Deep p (byte_stops σ here fs p b rest _ (opens ∙ ap (λ (t : Bool). cond t (at Before (F ∷ fs)) (Stop Deep)) none))

    -- one more byte of `#fun`
    sharp_on : (count next : ℕ) (front : List ℕ) (p b c : ℕ) (rest : List ℕ) → step_place σ (Sharp count) fs p b ≡ at (Sharp next) fs → b ≡ c
        → Reads σ any (λ u t. Spells σ.rules l (front ++ c ∷ u) t) (behind_term fs) (suc p) rest (read_on σ (spot (Sharp next) fs) (suc p) rest)
        → Reads σ any (λ u t. Spells σ.rules l (front ++ u) t) (behind_term fs) p (b ∷ rest) (read_on σ (spot (Sharp count) fs) p (b ∷ rest))
    sharp_on count next front p b c rest goes is more =
        reads_byte σ any (λ u t. Spells σ.rules l (front ++ c ∷ u) t) (λ u t. Spells σ.rules l (front ++ u) t) (behind_term fs) (behind_term fs) (λ t. t) p b rest _ _
        (λ u t r. subst (λ (k : ℕ). Spells σ.rules l (front ++ k ∷ u) t) (sym is) r) (λ t. refl) (byte_goes σ (Sharp count) fs p b rest _ goes) more

    only_begun : (front : List ℕ) → is_begun_sharp front ≡ true → Spells σ.rules l (front ++ 256 ∷ []) tree.Nil
    only_begun front is = flat σ.rules l _ _ (begun_sharp (front ++ 256 ∷ []) front is refl)

    sharp_end : (count : ℕ) (front : List ℕ) (p b : ℕ) (rest : List ℕ) → is_begun_sharp front ≡ true → eqb b 256 ≡ true → step_place σ (Sharp count) fs p b ≡ at (After tree.Nil) fs
        → Reads σ any (λ u t. Spells σ.rules l (front ++ u) t) (behind_term fs) p (b ∷ rest) (read_on σ (spot (Sharp count) fs) p (b ∷ rest))
    sharp_end count front p b rest begun is goes =
        whole (b ∷ []) rest tree.Nil (suc p) refl (subst (λ (k : ℕ). Spells σ.rules l (front ++ k ∷ []) tree.Nil) (sym (eqb-true b 256 is)) (only_begun front begun)) refl
        (byte_goes σ (Sharp count) fs p b rest _ goes) (omega arith)

    sharp3_open : (p b : ℕ) → eqb b 123 ≡ true → step_place σ (Sharp 3) fs p b ≡ opened σ.levels InModule fs
    unfolding step_place step_sharp
    sharp3_open p b e = rw e refl

    sharp3_end : (p b : ℕ) → eqb b 123 ≡ false → eqb b 256 ≡ true → step_place σ (Sharp 3) fs p b ≡ at (After tree.Nil) fs
    unfolding step_place step_sharp
    sharp3_end p b e f = rw (e, f) refl

    sharp3_fault : (p b : ℕ) → eqb b 123 ≡ false → eqb b 256 ≡ false → step_place σ (Sharp 3) fs p b ≡ fault
    unfolding step_place step_sharp
    sharp3_fault p b e f = rw (e, f) refl

    sharp3 : (p : ℕ) (rest : List ℕ) → Reads σ any (λ u t. Spells σ.rules l (codes "#fun" ++ u) t) (behind_term fs) p rest (read_on σ (spot (Sharp 3) fs) p rest)
    sharp3 p [] = part (256 ∷ []) tree.Nil (at_the_end σ (spot (Sharp 3) fs) p) (only_begun (codes "#fun") refl)
    sharp3 p (b ∷ rest) = go (eqb b 123) (eqb b 256) refl refl
      where
        go : (t u : Bool) → eqb b 123 ≡ t → eqb b 256 ≡ u → Reads σ any (λ w v. Spells σ.rules l (codes "#fun" ++ w) v) (behind_term fs) p (b ∷ rest) (read_on σ (spot (Sharp 3) fs) p (b ∷ rest))
        go true u e f = open_at (Sharp 3) InModule (codes "#fun") p b 123 rest (sharp3_open p b e) (eqb-true b 123 e) (λ d. d.closure_read (suc p) rest)
        go false true e f = sharp_end 3 (codes "#fun") p b rest refl f (sharp3_end p b e f)
        go false false e f = halted Syntax p (byte_stops σ (Sharp 3) fs p b rest _ (sharp3_fault p b e f))

    sharp2_on : (p b : ℕ) → eqb b 110 ≡ true → step_place σ (Sharp 2) fs p b ≡ at (Sharp 3) fs
    unfolding step_place step_sharp
    sharp2_on p b e = rw e refl

    sharp2_end : (p b : ℕ) → eqb b 110 ≡ false → eqb b 256 ≡ true → step_place σ (Sharp 2) fs p b ≡ at (After tree.Nil) fs
    unfolding step_place step_sharp
    sharp2_end p b e f = rw (e, f) refl

    sharp2_fault : (p b : ℕ) → eqb b 110 ≡ false → eqb b 256 ≡ false → step_place σ (Sharp 2) fs p b ≡ fault
    unfolding step_place step_sharp
    sharp2_fault p b e f = rw (e, f) refl

    sharp2 : (p : ℕ) (rest : List ℕ) → Reads σ any (λ u t. Spells σ.rules l (codes "#fu" ++ u) t) (behind_term fs) p rest (read_on σ (spot (Sharp 2) fs) p rest)
    sharp2 p [] = part (256 ∷ []) tree.Nil (at_the_end σ (spot (Sharp 2) fs) p) (only_begun (codes "#fu") refl)
    sharp2 p (b ∷ rest) = go (eqb b 110) (eqb b 256) refl refl
      where
        go : (t u : Bool) → eqb b 110 ≡ t → eqb b 256 ≡ u → Reads σ any (λ w v. Spells σ.rules l (codes "#fu" ++ w) v) (behind_term fs) p (b ∷ rest) (read_on σ (spot (Sharp 2) fs) p (b ∷ rest))
        go true u e f = sharp_on 2 3 (codes "#fu") p b 110 rest (sharp2_on p b e) (eqb-true b 110 e) (sharp3 (suc p) rest)
        go false true e f = sharp_end 2 (codes "#fu") p b rest refl f (sharp2_end p b e f)
        go false false e f = halted Syntax p (byte_stops σ (Sharp 2) fs p b rest _ (sharp2_fault p b e f))

    sharp1_on : (p b : ℕ) → eqb b 117 ≡ true → step_place σ (Sharp 1) fs p b ≡ at (Sharp 2) fs
    unfolding step_place step_sharp
    sharp1_on p b e = rw e refl

    sharp1_end : (p b : ℕ) → eqb b 117 ≡ false → eqb b 256 ≡ true → step_place σ (Sharp 1) fs p b ≡ at (After tree.Nil) fs
    unfolding step_place step_sharp
    sharp1_end p b e f = rw (e, f) refl

    sharp1_fault : (p b : ℕ) → eqb b 117 ≡ false → eqb b 256 ≡ false → step_place σ (Sharp 1) fs p b ≡ fault
    unfolding step_place step_sharp
    sharp1_fault p b e f = rw (e, f) refl

    sharp1 : (p : ℕ) (rest : List ℕ) → Reads σ any (λ u t. Spells σ.rules l (codes "#f" ++ u) t) (behind_term fs) p rest (read_on σ (spot (Sharp 1) fs) p rest)
    sharp1 p [] = part (256 ∷ []) tree.Nil (at_the_end σ (spot (Sharp 1) fs) p) (only_begun (codes "#f") refl)
    sharp1 p (b ∷ rest) = go (eqb b 117) (eqb b 256) refl refl
      where
        go : (t u : Bool) → eqb b 117 ≡ t → eqb b 256 ≡ u → Reads σ any (λ w v. Spells σ.rules l (codes "#f" ++ w) v) (behind_term fs) p (b ∷ rest) (read_on σ (spot (Sharp 1) fs) p (b ∷ rest))
        go true u e f = sharp_on 1 2 (codes "#f") p b 117 rest (sharp1_on p b e) (eqb-true b 117 e) (sharp2 (suc p) rest)
        go false true e f = sharp_end 1 (codes "#f") p b rest refl f (sharp1_end p b e f)
        go false false e f = halted Syntax p (byte_stops σ (Sharp 1) fs p b rest _ (sharp1_fault p b e f))

    sharp0_open : (p b : ℕ) → eqb b 123 ≡ true → step_place σ (Sharp 0) fs p b ≡ opened σ.levels (InKey []) fs
    unfolding step_place step_sharp
    sharp0_open p b e = rw e refl

    sharp0_on : (p b : ℕ) → eqb b 123 ≡ false → eqb b 102 ≡ true → step_place σ (Sharp 0) fs p b ≡ at (Sharp 1) fs
    unfolding step_place step_sharp
    sharp0_on p b e f = rw (e, f) refl

    sharp0_end : (p b : ℕ) → eqb b 123 ≡ false → eqb b 102 ≡ false → eqb b 256 ≡ true → step_place σ (Sharp 0) fs p b ≡ at (After tree.Nil) fs
    unfolding step_place step_sharp
    sharp0_end p b e f g = rw (e, f, g) refl

    sharp0_fault : (p b : ℕ) → eqb b 123 ≡ false → eqb b 102 ≡ false → eqb b 256 ≡ false → step_place σ (Sharp 0) fs p b ≡ fault
    unfolding step_place step_sharp
    sharp0_fault p b e f g = rw (e, f, g) refl

    sharp0 : (p : ℕ) (rest : List ℕ) → Reads σ any (λ u t. Spells σ.rules l (codes "#" ++ u) t) (behind_term fs) p rest (read_on σ (spot (Sharp 0) fs) p rest)
    sharp0 p [] = part (256 ∷ []) tree.Nil (at_the_end σ (spot (Sharp 0) fs) p) (only_begun (codes "#") refl)
    sharp0 p (b ∷ rest) = go (eqb b 123) (eqb b 102) (eqb b 256) refl refl refl
      where
        go : (t u v : Bool) → eqb b 123 ≡ t → eqb b 102 ≡ u → eqb b 256 ≡ v → Reads σ any (λ w x. Spells σ.rules l (codes "#" ++ w) x) (behind_term fs) p (b ∷ rest) (read_on σ (spot (Sharp 0) fs) p (b ∷ rest))
        go true u v e f g = open_at (Sharp 0) (InKey []) (codes "#") p b 123 rest (sharp0_open p b e) (eqb-true b 123 e) (λ d. d.map_read (suc p) rest)
        go false true v e f g = sharp_on 0 1 (codes "#") p b 102 rest (sharp0_on p b e f) (eqb-true b 102 f) (sharp1 (suc p) rest)
        go false false true e f g = sharp_end 0 (codes "#") p b rest refl g (sharp0_end p b e f g)
        go false false false e f g = halted Syntax p (byte_stops σ (Sharp 0) fs p b rest _ (sharp0_fault p b e f g))

    -- ---- a term

    abbrev TermFrom : Place → ℕ → ℕ → List ℕ → Type 0
    TermFrom here p b rest = Reads σ any (Spells σ.rules l) (behind_term fs) p (b ∷ rest) (read_on σ (spot here fs) p (b ∷ rest))

    of_flat : (p : ℕ) (text : List ℕ) (start : Reading) → Reads σ any (SpellsFlat σ.rules) (behind_term fs) p text start → Reads σ any (Spells σ.rules l) (behind_term fs) p text start
    of_flat p text start h = reads_as σ any (SpellsFlat σ.rules) (Spells σ.rules l) (behind_term fs) (behind_term fs) (λ t. t) p text start start (λ u t r. flat σ.rules l u t r) (λ t. refl) refl h

    opening : (here : Place) (step_is : Step) (next : State) (p b c : ℕ) (rest : List ℕ) → step_place σ here fs p b ≡ cond (ltb (length fs) σ.levels) (Go next) (Stop Deep) → b ≡ c
        → (Deeper l fs → (start : Reading) → start ≡ read_on σ next (suc p) rest → Reads σ any (Spells σ.rules l) (behind_term fs) p (c ∷ rest) start) → TermFrom here p b rest
    opening here step_is next p b c rest opens is more = go level
      where
        go : Level l fs → TermFrom here p b rest
        go (inl h) =
            subst (λ (k : ℕ). Reads σ any (Spells σ.rules l) (behind_term fs) p (k ∷ rest) (read_on σ (spot here fs) p (b ∷ rest))) (sym is)
            (more h.1 _ (byte_goes σ here fs p b rest _ (opens ∙ ap (λ (t : Bool). cond t (Go next) (Stop Deep)) h.0)))
        go (inr none) = halted Deep p (byte_stops σ here fs p b rest _ (opens ∙ ap (λ (t : Bool). cond t (Go next) (Stop Deep)) none))

    term_case : Ready σ fs l → (here : Place) (p b : ℕ) (rest : List ℕ) → step_place σ here fs p b ≡ begin_term σ fs p b → TermFrom here p b rest
    term_case ready here p b rest begins =
        go (eqb b 45 || is_ascii_digit b) (is_ascii_lowercase b || eqb b 39) (eqb b 91) (eqb b 123) (eqb b 34) (eqb b 60) (eqb b 35) refl refl refl refl refl refl refl
      where
        go : (t u v w x y z : Bool) → (eqb b 45 || is_ascii_digit b) ≡ t → (is_ascii_lowercase b || eqb b 39) ≡ u → eqb b 91 ≡ v → eqb b 123 ≡ w → eqb b 34 ≡ x → eqb b 60 ≡ y → eqb b 35 ≡ z → TermFrom here p b rest
        go true u v w x y z e f g h i j k =
            of_flat p (b ∷ rest) _ (integer_ends σ fs (record { segment = ready.segment; arity = ready.arity }) p p (b ∷ rest) _
            (integer σ fs p b rest here (begins ∙ begins_integer fs p b e)))
        go false true v w x y z e f g h i j k = of_flat p (b ∷ rest) _ (atoms σ fs ready.name here p b rest (begins ∙ begins_name fs p b e f))
        go false false true w x y z e f g h i j k =
            opening here fault (spot Before (InList [] ∷ fs)) p b 91 rest (begins ∙ begins_list fs p b e f g) (eqb-true b 91 g) (λ d start is. d.list_read p rest start is)
        go false false false true x y z e f g h i j k =
            opening here fault (spot Before (InTuple [] ∷ fs)) p b 123 rest (begins ∙ begins_tuple fs p b e f g h) (eqb-true b 123 h) (λ d start is. d.tuple_read p rest start is)
        go false false false false true y z e f g h i j k =
            opening here fault (spot (Quote (record { use_ = ForList; points = [] }) Plain) fs) p b 34 rest (begins ∙ begins_text fs p b e f g h i) (eqb-true b 34 i) (λ d start is. d.text_read p rest start is)
        go false false false false false true z e f g h i j k =
            reads_byte σ any (λ u t. SpellsFlat σ.rules (60 ∷ u) t) (Spells σ.rules l) (behind_term fs) (behind_term fs) (λ t. t) p b rest _ _
            (λ u t r. subst (λ (c : ℕ). Spells σ.rules l (c ∷ u) t) (sym (eqb-true b 60 j)) (flat σ.rules l (60 ∷ u) t r)) (λ t. refl)
            (byte_goes σ here fs p b rest _ (begins ∙ begins_binary fs p b e f g h i j)) (binaries σ fs (suc p) rest)
        go false false false false false false true e f g h i j k =
            reads_byte σ any (λ u t. Spells σ.rules l (35 ∷ u) t) (Spells σ.rules l) (behind_term fs) (behind_term fs) (λ t. t) p b rest _ _
            (λ u t r. subst (λ (c : ℕ). Spells σ.rules l (c ∷ u) t) (sym (eqb-true b 35 k)) r) (λ t. refl)
            (byte_goes σ here fs p b rest _ (begins ∙ begins_sharp fs p b e f g h i j k)) (sharp0 (suc p) rest)
        go false false false false false false false e f g h i j k = halted Syntax p (byte_stops σ here fs p b rest _ (begins ∙ begins_nothing fs p b e f g h i j k))

  pub terms : (l : ℕ) → TermReads σ l
  terms zero fs ready p b rest begins = term_case zero fs (inr (le-ltb (length fs) σ.levels (omega (arith, ready.room)))) ready Before p b rest begins
  terms (suc l) fs ready p b rest begins =
      term_case (suc l) fs (inl (
        lt-ltb (length fs) σ.levels (omega (arith, ready.room)),
        record {
          list_read = lists σ l fs (terms l) ready;
          tuple_read = tuples σ l fs (terms l) ready;
          text_read = texts σ l fs (terms l) ready;
          map_read = maps σ l fs (terms l) ready;
          closure_read = closures σ l fs (terms l) ready;
        },
      )) ready Before p b rest begins
