-- Terms are read as they are spelled.
use Rattle.std.proofs.Common.{◌≡◌, ◌≤◌, ◌<◌, ℕ, zero, suc, ◌+◌, Bool, true, false, not, ◌&&◌, ◌||◌, cond, eqb, ltb, leb, List, [], ◌∷◌, ◌++◌, length, Option, Some, None, inl, inr, refl, sym, ap, subst, ◌∙◌, arith, append_assoc, ℤ, pos}
use Rattle.std.specs.Prelude.{◌⊎◌, codes}
use Rattle.std.specs.Char.{is_ascii_digit, is_ascii_lowercase}
use Rattle.std.specs.Str.{bytes_eq}
use Rattle.std.proofs.lemmas.Bool.{and_parts, and_from, or_left, or_right, or_cases, eqb-true, lt-ltb, le-ltb, not-true}
use Rattle.std.proofs.lemmas.List.{length-append, append-nil}
use Rattle.std.proofs.lemmas.Slice.Eq.{bytes_eq-Decides}
use Rattle.kh_term.specs.declared.tree.TermTree.{TermTree}
use Rattle.kh_term.specs.declared.tree.TermTree.TheVariants as tree
use Rattle.kh_term.specs.Make.{list_of, list_with_tail}
use Rattle.kh_text_defs.specs.declared.mode.Mode.{Mode}
use Rattle.kh_text_defs.specs.declared.mode.Mode.TheVariants.{Script, Listing}
use Rattle.kh_text_defs.specs.Atoms.{is_word_byte}
use Rattle.kh_text_defs.specs.Blanks.{IsBlank, Wide, Commas, Elements}
use Rattle.kh_term.specs.MapOf.{map_of}
use Rattle.kh_text_defs.specs.Spelled.{Rules, allows, SpellsInteger, is_begun_sharp, SpellsFlat, integer, atom, binary, float, reference, begun_sharp, list_of_points, SpellsPair, KeyValues, SpellsPairs, SpellsCaptured, is_arity, closure_end, closure_of, SpellsDeep, list, list_and_tail, points, tuple, map_text, closure, Spells, IsForm}
use Rattle.kh_text_defs.specs.Tokens.{Quoted, SpellsAtom}
use Rattle.kh_read.specs.State.{Frame, InList, InTail, InTuple, InKey, InValue, InModule, InName, InArity, InOpening, InCaptured, InClosing, Use, ForList, Quoting, Plain, Place, Before, After, AfterName, AfterArity, Digits, Quote, Angle, Sharp, Arrow, Dotted, State, Setting, Step, Go, Stop, Deep, Reading}
use Rattle.kh_read.specs.Steps.{at, is_listing, signed, is_byte, takes_segment, takes_arity, takes_name, takes_fraction, fits_here, opened, bound, begin_name, begin_integer, begin_term, step_before, step_after, step_after_name, step_after_arity, step_arrow, step_sharp, step_mark, step_between, step_place, read_on}
use Rattle.kh_read.proofs.TextCore.{spot, same_step, at_the_end, IsBetween}
use Rattle.kh_read.proofs.TextReads.{any}
use Rattle.kh_read.proofs.TextWords.{no_word}
use Rattle.kh_read.proofs.TextDigits.{no_digit}
use Rattle.kh_read.proofs.TextFloats.{TakesTerm, digits_off, ends_alike}
use Rattle.kh_read.proofs.TextQuotes.{AreBelow}
use Rattle.kh_read.proofs.TextBrackets.{between_before, between_after, before_step, Ready, behind_term}
use Rattle.kh_read.proofs.TextClosures.{between_name, between_arity, arity_off}
use Rattle.kh_read.proofs.TextTerms.{begins_list, begins_tuple, begins_text, begins_binary, begins_sharp}
use Rattle.kh_read.proofs.TextLeads.{Leads, leads_first, leads_byte, leads_nothing, leads_then, no_name, is_top, good_end, good_quiet, blank_good, wide_leads_to, wide_leads}
use Rattle.kh_read.proofs.TextLeadsFlat.{leads_turn, no_word_no_digit, IsSigned, signed_of, integer_leads, AreScalars, scalars_of, scalar_top, quoted_leads, name_leads, term_atom_leads}
use Rattle.kh_read.proofs.TextLeadsBinaries.{starts_term, starts_other, starts_mark, Begins, begins_by, commas_lead, elements_lead, angle_step, inside_leads, int_begins, name_begins}
use Rattle.kh_read.proofs.TextLeadsListing.{float_leads, reference_leads}

below_list : (mode : Mode) (cs : List ℕ) → AreScalars cs → AreBelow mode ForList cs
unfolding AreScalars
below_list mode [] scalars = tt
below_list mode (c ∷ cs) scalars = (scalar_top c scalars.0, below_list mode cs scalars.1)

module _ (σ : Setting) where
  abbrev pub TermLeads : ℕ → Type 0
  TermLeads l = (fs : List Frame) → Ready σ fs l → Begins σ fs → (text : List ℕ) (t : TermTree) → Spells σ.rules l text t → Leads σ (spot Before fs) text (behind_term fs t) (good_end (is_top fs))

  -- ---- without levels

  module _ (l : ℕ) (fs : List Frame) (ready : Ready σ fs l) (begins : Begins σ fs) where
    takes : TakesTerm fs
    takes = record { segment = ready.segment; arity = ready.arity }

    top_is : (gs : List Frame) → is_top gs ≡ true → gs ≡ []
    top_is [] top = refl
    top_is (g ∷ gs) top = absurd (let clash : false ≡ true = top in cc)

    int_turn : (neg : Bool) (n first q : ℕ) (rest : List ℕ) → good_end (is_top fs) rest ≡ true → read_on σ (spot (Digits first neg n) fs) q rest ≡ read_on σ (behind_term fs (tree.Int (signed neg n))) q rest
    int_turn neg n first q [] good = at_the_end σ (spot (Digits first neg n) fs) q ∙ sym (at_the_end σ (spot (After (tree.Int (signed neg n))) fs) q)
    int_turn neg n first q (b ∷ rest) good = choose (eqb b 46 && takes_fraction σ.rules fs) refl
      where
        quiet : is_word_byte b ≡ false
        quiet = not-true (is_word_byte b) (good_quiet (is_top fs) (b ∷ rest) good)

        dotted_end : eqb b 46 ≡ true → (is_top fs && no_digit rest) ≡ true
        dotted_end e = ap (λ (t : Bool). not t || (is_top fs && no_digit rest)) (sym e) ∙ (and_parts (no_name false (b ∷ rest)) (not (eqb b 46) || (is_top fs && no_digit rest)) (and_parts (not (is_word_byte b)) (no_name false (b ∷ rest) && (not (eqb b 46) || (is_top fs && no_digit rest))) good).1).1

        choose : (t : Bool) → (eqb b 46 && takes_fraction σ.rules fs) ≡ t → read_on σ (spot (Digits first neg n) fs) q (b ∷ rest) ≡ read_on σ (behind_term fs (tree.Int (signed neg n))) q (b ∷ rest)
        choose false e =
            same_step σ (Digits first neg n) (After (tree.Int (signed neg n))) fs fs q b rest
            (digits_off σ fs (record { segment = ready.segment; arity = ready.arity }) first q b (neg, n) (no_word_no_digit b quiet) e)
        choose true e =
            let both = and_parts (eqb b 46) (takes_fraction σ.rules fs) e in
            let end = and_parts (is_top fs) (no_digit rest) (dotted_end both.0) in
            subst (λ (k : ℕ). read_on σ (spot (Digits first neg n) fs) q (k ∷ rest) ≡ read_on σ (behind_term fs (tree.Int (signed neg n))) q (k ∷ rest)) (sym (eqb-true b 46 both.0))
            (ends_alike σ fs (record { segment = ready.segment; arity = ready.arity }) first q (neg, n) rest (top_is fs end.0) both.1 end.1)

    any_good : (s later : State) (text : List ℕ) → Leads σ s text later any → Leads σ s text later (good_end (is_top fs))
    any_good s later text h p rest good = h p rest refl

    word_good : (s later : State) (text : List ℕ) → Leads σ s text later no_word → Leads σ s text later (good_end (is_top fs))
    word_good s later text h p rest good = h p rest (good_quiet (is_top fs) rest good)

    sharp_begins : (p : ℕ) → step_place σ Before fs p 35 ≡ at (Sharp 0) fs
    sharp_begins p = begins p 35 refl ∙ begins_sharp σ fs p 35 refl refl refl refl refl refl refl

    sharp_0 : (p : ℕ) → step_place σ (Sharp 0) fs p 102 ≡ at (Sharp 1) fs
    unfolding step_place step_sharp
    sharp_0 p = refl

    sharp_1 : (p : ℕ) → step_place σ (Sharp 1) fs p 117 ≡ at (Sharp 2) fs
    unfolding step_place step_sharp
    sharp_1 p = refl

    sharp_2 : (p : ℕ) → step_place σ (Sharp 2) fs p 110 ≡ at (Sharp 3) fs
    unfolding step_place step_sharp
    sharp_2 p = refl

    sharp_none_0 : (p : ℕ) → step_place σ (Sharp 0) fs p 256 ≡ at (After tree.Nil) fs
    unfolding step_place step_sharp
    sharp_none_0 p = refl

    sharp_none_1 : (p : ℕ) → step_place σ (Sharp 1) fs p 256 ≡ at (After tree.Nil) fs
    unfolding step_place step_sharp
    sharp_none_1 p = refl

    sharp_none_2 : (p : ℕ) → step_place σ (Sharp 2) fs p 256 ≡ at (After tree.Nil) fs
    unfolding step_place step_sharp
    sharp_none_2 p = refl

    sharp_none_3 : (p : ℕ) → step_place σ (Sharp 3) fs p 256 ≡ at (After tree.Nil) fs
    unfolding step_place step_sharp
    sharp_none_3 p = refl

    sharp_leads_0 : Leads σ (spot Before fs) (codes "#" ++ 256 ∷ []) (behind_term fs tree.Nil) any
    sharp_leads_0 = leads_first σ Before fs 35 (256 ∷ []) (spot (Sharp 0) fs) (behind_term fs tree.Nil) any sharp_begins (leads_byte σ (Sharp 0) fs 256 (behind_term fs tree.Nil) sharp_none_0)

    sharp_leads_1 : Leads σ (spot Before fs) (codes "#f" ++ 256 ∷ []) (behind_term fs tree.Nil) any
    sharp_leads_1 =
        leads_first σ Before fs 35 (102 ∷ 256 ∷ []) (spot (Sharp 0) fs) (behind_term fs tree.Nil) any sharp_begins
        (leads_first σ (Sharp 0) fs 102 (256 ∷ []) (spot (Sharp 1) fs) (behind_term fs tree.Nil) any sharp_0 (leads_byte σ (Sharp 1) fs 256 (behind_term fs tree.Nil) sharp_none_1))

    sharp_leads_2 : Leads σ (spot Before fs) (codes "#fu" ++ 256 ∷ []) (behind_term fs tree.Nil) any
    sharp_leads_2 =
        leads_first σ Before fs 35 (102 ∷ 117 ∷ 256 ∷ []) (spot (Sharp 0) fs) (behind_term fs tree.Nil) any sharp_begins
        (leads_first σ (Sharp 0) fs 102 (117 ∷ 256 ∷ []) (spot (Sharp 1) fs) (behind_term fs tree.Nil) any sharp_0
        (leads_first σ (Sharp 1) fs 117 (256 ∷ []) (spot (Sharp 2) fs) (behind_term fs tree.Nil) any sharp_1 (leads_byte σ (Sharp 2) fs 256 (behind_term fs tree.Nil) sharp_none_2)))

    sharp_leads_3 : Leads σ (spot Before fs) (codes "#fun" ++ 256 ∷ []) (behind_term fs tree.Nil) any
    sharp_leads_3 =
        leads_first σ Before fs 35 (102 ∷ 117 ∷ 110 ∷ 256 ∷ []) (spot (Sharp 0) fs) (behind_term fs tree.Nil) any sharp_begins
        (leads_first σ (Sharp 0) fs 102 (117 ∷ 110 ∷ 256 ∷ []) (spot (Sharp 1) fs) (behind_term fs tree.Nil) any sharp_0
        (leads_first σ (Sharp 1) fs 117 (110 ∷ 256 ∷ []) (spot (Sharp 2) fs) (behind_term fs tree.Nil) any sharp_1
        (leads_first σ (Sharp 2) fs 110 (256 ∷ []) (spot (Sharp 3) fs) (behind_term fs tree.Nil) any sharp_2 (leads_byte σ (Sharp 3) fs 256 (behind_term fs tree.Nil) sharp_none_3))))

    sharps_lead : (text front : List ℕ) → is_begun_sharp front ≡ true → text ≡ front ++ 256 ∷ [] → Leads σ (spot Before fs) text (behind_term fs tree.Nil) any
    sharps_lead text front is parts = subst (λ (t : List ℕ). Leads σ (spot Before fs) t (behind_term fs tree.Nil) any) (sym parts) (go (or_cases _ _ is))
      where
        from : (word : List ℕ) → bytes_eq front word ≡ true → Leads σ (spot Before fs) (word ++ 256 ∷ []) (behind_term fs tree.Nil) any → Leads σ (spot Before fs) (front ++ 256 ∷ []) (behind_term fs tree.Nil) any
        from word e h = subst (λ (t : List ℕ). Leads σ (spot Before fs) (t ++ 256 ∷ []) (behind_term fs tree.Nil) any) (sym ((bytes_eq-Decides front word).0 e)) h

        go1 : (bytes_eq front (codes "#") ≡ true) ⊎ (bytes_eq front (codes "#f") ≡ true) → Leads σ (spot Before fs) (front ++ 256 ∷ []) (behind_term fs tree.Nil) any
        go1 (inl e) = from (codes "#") e sharp_leads_0
        go1 (inr e) = from (codes "#f") e sharp_leads_1

        go2 : ((bytes_eq front (codes "#") || bytes_eq front (codes "#f")) ≡ true) ⊎ (bytes_eq front (codes "#fu") ≡ true) → Leads σ (spot Before fs) (front ++ 256 ∷ []) (behind_term fs tree.Nil) any
        go2 (inl e) = go1 (or_cases _ _ e)
        go2 (inr e) = from (codes "#fu") e sharp_leads_2

        go : ((bytes_eq front (codes "#") || bytes_eq front (codes "#f") || bytes_eq front (codes "#fu")) ≡ true) ⊎ (bytes_eq front (codes "#fun") ≡ true) → Leads σ (spot Before fs) (front ++ 256 ∷ []) (behind_term fs tree.Nil) any
        go (inl e) = go2 (or_cases _ _ e)
        go (inr e) = from (codes "#fun") e sharp_leads_3

    flat_leads : (text : List ℕ) (t : TermTree) → SpellsFlat σ.rules text t → Leads σ (spot Before fs) text (behind_term fs t) (good_end (is_top fs))
    flat_leads text t (integer u z h) =
        let k = signed_of σ.rules fs text z h.0 in
        let fits : fits_here σ.rules fs k.negative k.magnitude ≡ true = (λ i. cond (ready.segment i) (is_byte k.negative k.magnitude) (allows σ.rules (k.same i))) ∙ h.1 in
        integer_leads σ fs Before text z (good_end (is_top fs)) (behind_term fs (tree.Int z)) (int_begins σ fs (record { segment = ready.segment; arity = ready.arity }) ready.name begins) k fits
        (λ first q rest good. int_turn k.negative k.magnitude first q rest good ∙ ap (λ (y : ℤ). read_on σ (behind_term fs (tree.Int y)) q rest) k.same)
    flat_leads text t (atom u name h) =
        term_atom_leads σ fs Before text name ready.name (name_begins σ fs (record { segment = ready.segment; arity = ready.arity }) ready.name begins) h
    flat_leads text t (binary u inside segments h parts) =
        any_good (spot Before fs) (behind_term fs t) text
        (subst (λ (w : List ℕ). Leads σ (spot Before fs) w (behind_term fs t) any) (sym parts)
        (leads_first σ Before fs 60 (60 ∷ (inside ++ 62 ∷ 62 ∷ [])) (spot Angle fs) (behind_term fs t) any (λ p. begins p 60 refl ∙ begins_binary σ fs p 60 refl refl refl refl refl refl)
        (leads_first σ Angle fs 60 (inside ++ 62 ∷ 62 ∷ []) _ (behind_term fs t) any (angle_step σ fs) (inside_leads σ fs inside segments h))))
    flat_leads text t (float u whole_ fraction exponent z listing h f e parts) =
        word_good (spot Before fs) (behind_term fs t) text
        (subst (λ (w : List ℕ). Leads σ (spot Before fs) w (behind_term fs t) no_word) (sym parts)
        (float_leads σ fs (record { segment = ready.segment; arity = ready.arity }) (ap is_listing listing) Before whole_ fraction exponent z
        (int_begins σ fs (record { segment = ready.segment; arity = ready.arity }) ready.name begins) h f e))
    flat_leads text t (reference u home name gap digits m f listing h n g d b parts) =
        word_good (spot Before fs) (behind_term fs t) text
        (subst (λ (w : List ℕ). Leads σ (spot Before fs) w (behind_term fs t) no_word) (sym parts)
        (reference_leads σ fs Before home name gap digits m f ready.name (ap is_listing listing)
        (name_begins σ fs (record { segment = ready.segment; arity = ready.arity }) ready.name begins) h n g d b))
    flat_leads text t (begun_sharp u front is parts) = any_good (spot Before fs) (behind_term fs tree.Nil) text (sharps_lead text front is parts)

  -- ---- with levels

  module _ (l : ℕ) (one : TermLeads l) (fs : List Frame) (ready : Ready σ fs (suc l)) (begins : Begins σ fs) where
    room : ltb (length fs) σ.levels ≡ true
    room = lt-ltb (length fs) σ.levels (omega (arith, ready.room))

    inner : (F : Frame) → takes_segment (F ∷ fs) ≡ false → takes_arity (F ∷ fs) ≡ false → takes_name (F ∷ fs) ≡ false → Ready σ (F ∷ fs) l
    inner F s a n = record { room = omega (arith, ready.room); segment = s; arity = a; name = n }

    -- a term with its blanks, in a frame
    wide_one : (F : Frame) → Ready σ (F ∷ fs) l → Begins σ (F ∷ fs) → (text : List ℕ) (t : TermTree) → Wide (Spells σ.rules l) text t → Leads σ (spot Before (F ∷ fs)) text (behind_term (F ∷ fs) t) (good_end false)
    wide_one F r b text t w =
        wide_leads_to σ (Spells σ.rules l) Before (F ∷ fs) After (λ u. F ∷ fs) text t (good_end false) (blank_good false) (between_before σ (F ∷ fs)) (between_after σ t (F ∷ fs)) (λ u h. one (F ∷ fs) r b u t h) w

    begins_in : (F : Frame) → ((p b : ℕ) → starts_term b ≡ true → step_before σ (F ∷ fs) p b ≡ begin_term σ (F ∷ fs) p b) → Begins σ (F ∷ fs)
    begins_in F = begins_by σ (F ∷ fs)

    -- ---- lists

    list_starts : (ps : List TermTree) (p b : ℕ) → starts_term b ≡ true → step_before σ (InList ps ∷ fs) p b ≡ begin_term σ (InList ps ∷ fs) p b
    unfolding step_before
    list_starts [] p b sure = rw (starts_other 93 b refl sure) refl
    list_starts (x ∷ ps) p b sure = refl

    list_comma : (ps : List TermTree) (t : TermTree) (p : ℕ) → step_place σ (After t) (InList ps ∷ fs) p 44 ≡ at Before (InList (ps ++ t ∷ []) ∷ fs)
    unfolding step_place step_between step_mark step_after
    list_comma ps t p = refl

    list_bar : (ps : List TermTree) (t : TermTree) (p : ℕ) → step_place σ (After t) (InList ps ∷ fs) p 124 ≡ at Before (InTail (ps ++ t ∷ []) ∷ fs)
    unfolding step_place step_between step_mark step_after
    list_bar ps t p = refl

    list_close : (ps : List TermTree) (t : TermTree) (p : ℕ) → step_place σ (After t) (InList ps ∷ fs) p 93 ≡ at (After (list_of (ps ++ t ∷ []))) fs
    unfolding step_place step_between step_mark step_after
    list_close ps t p = refl

    list_empty : (p : ℕ) → step_place σ Before (InList [] ∷ fs) p 93 ≡ at (After tree.Nil) fs
    unfolding step_place step_between step_mark step_before
    list_empty p = refl

    tail_starts : (ps : List TermTree) (p b : ℕ) → starts_term b ≡ true → step_before σ (InTail ps ∷ fs) p b ≡ begin_term σ (InTail ps ∷ fs) p b
    unfolding step_before
    tail_starts ps p b sure = refl

    tail_close : (ps : List TermTree) (t : TermTree) (p : ℕ) → step_place σ (After t) (InTail ps ∷ fs) p 93 ≡ at (After (list_with_tail ps t)) fs
    unfolding step_place step_between step_mark step_after
    tail_close ps t p = refl

    list_item : (ps : List TermTree) (t : TermTree) (text : List ℕ) → Wide (Spells σ.rules l) text t → Leads σ (spot Before (InList ps ∷ fs)) text (spot (After t) (InList ps ∷ fs)) (good_end false)
    list_item ps t text w = wide_one (InList ps) (inner (InList ps) refl refl refl) (begins_in (InList ps) (list_starts ps)) text t w

    list_commas : (ps : List TermTree) (t : TermTree) → Leads σ (spot (After t) (InList ps ∷ fs)) (44 ∷ []) (spot Before (InList (ps ++ t ∷ []) ∷ fs)) any
    list_commas ps t = leads_byte σ (After t) (InList ps ∷ fs) 44 (spot Before (InList (ps ++ t ∷ []) ∷ fs)) (list_comma ps t)

    opens_list : (p : ℕ) → step_place σ Before fs p 91 ≡ at Before (InList [] ∷ fs)
    opens_list p = begins p 91 refl ∙ (begins_list σ fs p 91 refl refl refl ∙ ap (λ (k : Bool). cond k (at Before (InList [] ∷ fs)) (Stop Deep)) room)

    lists_lead : (inside : List ℕ) (parts : List TermTree) → Elements (Spells σ.rules l) inside parts → Leads σ (spot Before fs) (91 ∷ (inside ++ 93 ∷ [])) (behind_term fs (list_of parts)) any
    lists_lead inside parts h =
        leads_first σ Before fs 91 (inside ++ 93 ∷ []) (spot Before (InList [] ∷ fs)) (behind_term fs (list_of parts)) any opens_list
        (elements_lead σ (Wide (Spells σ.rules l)) (λ ps. spot Before (InList ps ∷ fs)) (λ ps t. spot (After t) (InList ps ∷ fs)) (behind_term fs (list_of parts)) (93 ∷ []) (good_end false) list_item (λ rest. refl) list_commas (λ rest. refl)
        (InList [] ∷ fs) refl inside parts h
        (λ none. subst (λ (ts : List TermTree). Leads σ (spot Before (InList [] ∷ fs)) (93 ∷ []) (behind_term fs (list_of ts)) any) (sym none) (leads_byte σ Before (InList [] ∷ fs) 93 (behind_term fs tree.Nil) list_empty))
        (λ front x same. subst (λ (ts : List TermTree). Leads σ (spot (After x) (InList front ∷ fs)) (93 ∷ []) (behind_term fs (list_of ts)) any) same
        (leads_byte σ (After x) (InList front ∷ fs) 93 (behind_term fs (list_of (front ++ x ∷ []))) (list_close front x))))

    tails_lead : (inside last_ : List ℕ) (parts : List TermTree) (t : TermTree) → Commas (Wide (Spells σ.rules l)) inside parts → Wide (Spells σ.rules l) last_ t
        → Leads σ (spot Before fs) (91 ∷ (inside ++ 124 ∷ (last_ ++ 93 ∷ []))) (behind_term fs (list_with_tail parts t)) any
    tails_lead inside last_ parts t h w =
        leads_first σ Before fs 91 (inside ++ 124 ∷ (last_ ++ 93 ∷ [])) (spot Before (InList [] ∷ fs)) (behind_term fs (list_with_tail parts t)) any opens_list
        (commas_lead σ (Wide (Spells σ.rules l)) (λ ps. spot Before (InList ps ∷ fs)) (λ ps u. spot (After u) (InList ps ∷ fs)) (behind_term fs (list_with_tail parts t)) (124 ∷ (last_ ++ 93 ∷ [])) (good_end false) list_item (λ rest. refl) list_commas (λ rest. refl)
        [] inside parts h
        (λ front x same. subst (λ (ts : List TermTree). Leads σ (spot (After x) (InList front ∷ fs)) (124 ∷ (last_ ++ 93 ∷ [])) (behind_term fs (list_with_tail ts t)) any) same
        (leads_first σ (After x) (InList front ∷ fs) 124 (last_ ++ 93 ∷ []) (spot Before (InTail (front ++ x ∷ []) ∷ fs)) (behind_term fs (list_with_tail (front ++ x ∷ []) t)) any (list_bar front x)
        (leads_then σ (spot Before (InTail (front ++ x ∷ []) ∷ fs)) (behind_term (InTail (front ++ x ∷ []) ∷ fs) t) (behind_term fs (list_with_tail (front ++ x ∷ []) t)) last_ (93 ∷ []) (good_end false) any
        (wide_one (InTail (front ++ x ∷ [])) (inner (InTail (front ++ x ∷ [])) refl refl refl) (begins_in (InTail (front ++ x ∷ [])) (tail_starts (front ++ x ∷ []))) last_ t w)
        (leads_byte σ (After t) (InTail (front ++ x ∷ []) ∷ fs) 93 (behind_term fs (list_with_tail (front ++ x ∷ []) t)) (tail_close (front ++ x ∷ []) t)) (λ rest q. refl)))))

    -- ---- texts and tuples

    points_begin : (p : ℕ) → step_place σ Before fs p 34 ≡ at (Quote (record { use_ = ForList; points = [] }) Plain) fs
    points_begin p = begins p 34 refl ∙ (begins_text σ fs p 34 refl refl refl refl refl ∙ ap (λ (k : Bool). cond k (at (Quote (record { use_ = ForList; points = [] }) Plain) fs) (Stop Deep)) room)

    points_lead : (text cs : List ℕ) → Quoted 34 text cs → Leads σ (spot Before fs) text (behind_term fs (list_of_points cs)) any
    points_lead text cs h = quoted_leads σ fs Before ForList text cs h (below_list σ.rules.mode cs (scalars_of 34 h.inside cs h.characters)) refl points_begin

    tuple_starts : (ps : List TermTree) (p b : ℕ) → starts_term b ≡ true → step_before σ (InTuple ps ∷ fs) p b ≡ begin_term σ (InTuple ps ∷ fs) p b
    unfolding step_before
    tuple_starts [] p b sure = rw (starts_other 125 b refl sure) refl
    tuple_starts (x ∷ ps) p b sure = refl

    tuple_comma : (ps : List TermTree) (t : TermTree) (p : ℕ) → step_place σ (After t) (InTuple ps ∷ fs) p 44 ≡ at Before (InTuple (ps ++ t ∷ []) ∷ fs)
    unfolding step_place step_between step_mark step_after
    tuple_comma ps t p = refl

    tuple_close : (ps : List TermTree) (t : TermTree) (p : ℕ) → step_place σ (After t) (InTuple ps ∷ fs) p 125 ≡ at (After (tree.Tuple (ps ++ t ∷ []))) fs
    unfolding step_place step_between step_mark step_after
    tuple_close ps t p = refl

    tuple_empty : (p : ℕ) → step_place σ Before (InTuple [] ∷ fs) p 125 ≡ at (After (tree.Tuple [])) fs
    unfolding step_place step_between step_mark step_before
    tuple_empty p = refl

    opens_tuple : (p : ℕ) → step_place σ Before fs p 123 ≡ at Before (InTuple [] ∷ fs)
    opens_tuple p = begins p 123 refl ∙ (begins_tuple σ fs p 123 refl refl refl refl ∙ ap (λ (k : Bool). cond k (at Before (InTuple [] ∷ fs)) (Stop Deep)) room)

    tuples_lead : (inside : List ℕ) (parts : List TermTree) → Elements (Spells σ.rules l) inside parts → Leads σ (spot Before fs) (123 ∷ (inside ++ 125 ∷ [])) (behind_term fs (tree.Tuple parts)) any
    tuples_lead inside parts h =
        leads_first σ Before fs 123 (inside ++ 125 ∷ []) (spot Before (InTuple [] ∷ fs)) (behind_term fs (tree.Tuple parts)) any opens_tuple
        (elements_lead σ (Wide (Spells σ.rules l)) (λ ps. spot Before (InTuple ps ∷ fs)) (λ ps t. spot (After t) (InTuple ps ∷ fs)) (behind_term fs (tree.Tuple parts)) (125 ∷ []) (good_end false)
        (λ ps t text w. wide_one (InTuple ps) (inner (InTuple ps) refl refl refl) (begins_in (InTuple ps) (tuple_starts ps)) text t w) (λ rest. refl)
        (λ ps t. leads_byte σ (After t) (InTuple ps ∷ fs) 44 (spot Before (InTuple (ps ++ t ∷ []) ∷ fs)) (tuple_comma ps t)) (λ rest. refl)
        (InTuple [] ∷ fs) refl inside parts h
        (λ none. subst (λ (ts : List TermTree). Leads σ (spot Before (InTuple [] ∷ fs)) (125 ∷ []) (behind_term fs (tree.Tuple ts)) any) (sym none) (leads_byte σ Before (InTuple [] ∷ fs) 125 (behind_term fs (tree.Tuple [])) tuple_empty))
        (λ front x same. subst (λ (ts : List TermTree). Leads σ (spot (After x) (InTuple front ∷ fs)) (125 ∷ []) (behind_term fs (tree.Tuple ts)) any) same
        (leads_byte σ (After x) (InTuple front ∷ fs) 125 (behind_term fs (tree.Tuple (front ++ x ∷ []))) (tuple_close front x))))

    -- ---- maps

    key_starts : (ps : KeyValues) (p b : ℕ) → starts_term b ≡ true → step_before σ (InKey ps ∷ fs) p b ≡ begin_term σ (InKey ps ∷ fs) p b
    unfolding step_before
    key_starts [] p b sure = rw (starts_other 125 b refl sure) refl
    key_starts (x ∷ ps) p b sure = refl

    value_starts : (ps : KeyValues) (k : TermTree) (p b : ℕ) → starts_term b ≡ true → step_before σ (InValue ps k ∷ fs) p b ≡ begin_term σ (InValue ps k ∷ fs) p b
    unfolding step_before
    value_starts ps k p b sure = refl

    key_equals : (ps : KeyValues) (k : TermTree) (p : ℕ) → step_place σ (After k) (InKey ps ∷ fs) p 61 ≡ at (Arrow k) (InKey ps ∷ fs)
    unfolding step_place step_between step_mark step_after
    key_equals ps k p = refl

    arrow_goes : (ps : KeyValues) (k : TermTree) (p : ℕ) → step_place σ (Arrow k) (InKey ps ∷ fs) p 62 ≡ at Before (InValue ps k ∷ fs)
    unfolding step_place step_arrow
    arrow_goes ps k p = refl

    map_comma : (ps : KeyValues) (kv : TermTree × TermTree) (p : ℕ) → step_place σ (After kv.1) (InValue ps kv.0 ∷ fs) p 44 ≡ at Before (InKey (ps ++ kv ∷ []) ∷ fs)
    unfolding step_place step_between step_mark step_after
    map_comma ps kv p = refl

    map_close : (ps : KeyValues) (kv : TermTree × TermTree) (p : ℕ) → step_place σ (After kv.1) (InValue ps kv.0 ∷ fs) p 125 ≡ at (After (tree.Map (map_of (ps ++ kv ∷ [])))) fs
    unfolding step_place step_between step_mark step_after
    map_close ps kv p = refl

    map_empty : (p : ℕ) → step_place σ Before (InKey [] ∷ fs) p 125 ≡ at (After (tree.Map [])) fs
    unfolding step_place step_between step_mark step_before
    map_empty p = refl

    sharp_map : (p : ℕ) → step_place σ (Sharp 0) fs p 123 ≡ opened σ.levels (InKey []) fs
    unfolding step_place step_sharp
    sharp_map p = refl

    opens_sharp : (p : ℕ) → step_place σ Before fs p 35 ≡ at (Sharp 0) fs
    opens_sharp p = begins p 35 refl ∙ begins_sharp σ fs p 35 refl refl refl refl refl refl refl

    pair_item : (ps : KeyValues) (kv : TermTree × TermTree) (text : List ℕ) → SpellsPair (Spells σ.rules l) text kv → Leads σ (spot Before (InKey ps ∷ fs)) text (spot (After kv.1) (InValue ps kv.0 ∷ fs)) (good_end false)
    pair_item ps kv text h =
        subst (λ (t : List ℕ). Leads σ (spot Before (InKey ps ∷ fs)) t (spot (After kv.1) (InValue ps kv.0 ∷ fs)) (good_end false)) (sym h.parts)
        (leads_then σ (spot Before (InKey ps ∷ fs)) (behind_term (InKey ps ∷ fs) kv.0) (spot (After kv.1) (InValue ps kv.0 ∷ fs)) h.key (61 ∷ 62 ∷ h.value) (good_end false) (good_end false)
        (wide_one (InKey ps) (inner (InKey ps) refl refl refl) (begins_in (InKey ps) (key_starts ps)) h.key kv.0 h.is_key)
        (leads_first σ (After kv.0) (InKey ps ∷ fs) 61 (62 ∷ h.value) (spot (Arrow kv.0) (InKey ps ∷ fs)) (spot (After kv.1) (InValue ps kv.0 ∷ fs)) (good_end false) (key_equals ps kv.0)
        (leads_first σ (Arrow kv.0) (InKey ps ∷ fs) 62 h.value (spot Before (InValue ps kv.0 ∷ fs)) (spot (After kv.1) (InValue ps kv.0 ∷ fs)) (good_end false) (arrow_goes ps kv.0)
        (wide_one (InValue ps kv.0) (inner (InValue ps kv.0) refl refl refl) (begins_in (InValue ps kv.0) (value_starts ps kv.0)) h.value kv.1 h.is_value)))
        (λ rest q. refl))

    maps_lead : (inside : List ℕ) (pairs : KeyValues) → SpellsPairs (Spells σ.rules l) inside pairs → Leads σ (spot Before fs) (35 ∷ 123 ∷ (inside ++ 125 ∷ [])) (behind_term fs (tree.Map (map_of pairs))) any
    maps_lead inside pairs h =
        leads_first σ Before fs 35 (123 ∷ (inside ++ 125 ∷ [])) (spot (Sharp 0) fs) (behind_term fs (tree.Map (map_of pairs))) any opens_sharp
        (leads_first σ (Sharp 0) fs 123 (inside ++ 125 ∷ []) (spot Before (InKey [] ∷ fs)) (behind_term fs (tree.Map (map_of pairs))) any (λ p. sharp_map p ∙ ap (λ (k : Bool). cond k (at Before (InKey [] ∷ fs)) (Stop Deep)) room)
        (elements_lead σ (SpellsPair (Spells σ.rules l)) (λ ps. spot Before (InKey ps ∷ fs)) (λ ps kv. spot (After kv.1) (InValue ps kv.0 ∷ fs)) (behind_term fs (tree.Map (map_of pairs))) (125 ∷ []) (good_end false) pair_item (λ rest. refl)
        (λ ps kv. leads_byte σ (After kv.1) (InValue ps kv.0 ∷ fs) 44 (spot Before (InKey (ps ++ kv ∷ []) ∷ fs)) (map_comma ps kv)) (λ rest. refl)
        (InKey [] ∷ fs) refl inside pairs h
        (λ none. subst (λ (ts : KeyValues). Leads σ (spot Before (InKey [] ∷ fs)) (125 ∷ []) (behind_term fs (tree.Map (map_of ts))) any) (sym none) (leads_byte σ Before (InKey [] ∷ fs) 125 (behind_term fs (tree.Map [])) map_empty))
        (λ front x same. subst (λ (ts : KeyValues). Leads σ (spot (After x.1) (InValue front x.0 ∷ fs)) (125 ∷ []) (behind_term fs (tree.Map (map_of ts))) any) same
        (leads_byte σ (After x.1) (InValue front x.0 ∷ fs) 125 (behind_term fs (tree.Map (map_of (front ++ x ∷ [])))) (map_close front x)))))

    -- ---- closures

    sharp_closure : (p : ℕ) → step_place σ (Sharp 3) fs p 123 ≡ opened σ.levels InModule fs
    unfolding step_place step_sharp
    sharp_closure p = refl

    sharp_1_on : (p : ℕ) → step_place σ (Sharp 0) fs p 102 ≡ at (Sharp 1) fs
    unfolding step_place step_sharp
    sharp_1_on p = refl

    sharp_2_on : (p : ℕ) → step_place σ (Sharp 1) fs p 117 ≡ at (Sharp 2) fs
    unfolding step_place step_sharp
    sharp_2_on p = refl

    sharp_3_on : (p : ℕ) → step_place σ (Sharp 2) fs p 110 ≡ at (Sharp 3) fs
    unfolding step_place step_sharp
    sharp_3_on p = refl

    name_first : (F : Frame) → ((p b : ℕ) → step_before σ (F ∷ fs) p b ≡ begin_name (F ∷ fs) b) → (p b : ℕ) → (is_ascii_lowercase b || eqb b 39) ≡ true → step_place σ Before (F ∷ fs) p b ≡ begin_name (F ∷ fs) b
    name_first F steps p b sure = before_step σ (F ∷ fs) p b (starts_mark b (or_right _ _ (or_left _ _ sure))) ∙ steps p b

    module_first : (p b : ℕ) → step_before σ (InModule ∷ fs) p b ≡ begin_name (InModule ∷ fs) b
    unfolding step_before
    module_first p b = refl

    name_second : (m : List ℕ) (p b : ℕ) → step_before σ (InName m ∷ fs) p b ≡ begin_name (InName m ∷ fs) b
    unfolding step_before
    name_second m p b = refl

    wide_name : (F : Frame) → takes_name (F ∷ fs) ≡ true → ((p b : ℕ) → step_before σ (F ∷ fs) p b ≡ begin_name (F ∷ fs) b) → (text name : List ℕ) → Wide SpellsAtom text name
        → Leads σ (spot Before (F ∷ fs)) text (spot (AfterName name) (F ∷ fs)) no_word
    wide_name F takes_ steps text name w =
        wide_leads σ SpellsAtom (F ∷ fs) AfterName (λ n. F ∷ fs) text name (between_before σ (F ∷ fs)) (between_name σ name (F ∷ fs)) (λ u h. name_leads σ (F ∷ fs) Before u name takes_ (name_first F steps) h) w

    module_comma : (m : List ℕ) (p : ℕ) → step_place σ (AfterName m) (InModule ∷ fs) p 44 ≡ at Before (InName m ∷ fs)
    unfolding step_place step_between step_mark step_after_name
    module_comma m p = refl

    name_comma : (m f : List ℕ) (p : ℕ) → step_place σ (AfterName f) (InName m ∷ fs) p 44 ≡ at Before (InArity m f ∷ fs)
    unfolding step_place step_between step_mark step_after_name
    name_comma m f p = refl

    arity_comma : (m f : List ℕ) (z : ℤ) (p : ℕ) → step_place σ (AfterArity z) (InArity m f ∷ fs) p 44 ≡ at Before (InOpening m f z ∷ fs)
    unfolding step_place step_between step_mark step_after_arity
    arity_comma m f z p = refl

    arity_first : (m f : List ℕ) (p b : ℕ) → step_before σ (InArity m f ∷ fs) p b ≡ begin_integer σ.rules (InArity m f ∷ fs) p b
    unfolding step_before
    arity_first m f p b = refl

    arity_turn : (m f : List ℕ) (neg : Bool) (n first q : ℕ) (rest : List ℕ) → no_word rest ≡ true
        → read_on σ (spot (Digits first neg n) (InArity m f ∷ fs)) q rest ≡ read_on σ (spot (AfterArity (signed neg n)) (InArity m f ∷ fs)) q rest
    arity_turn m f neg n first q [] quiet = at_the_end σ (spot (Digits first neg n) (InArity m f ∷ fs)) q ∙ sym (at_the_end σ (spot (AfterArity (signed neg n)) (InArity m f ∷ fs)) q)
    arity_turn m f neg n first q (b ∷ rest) quiet =
        same_step σ (Digits first neg n) (AfterArity (signed neg n)) (InArity m f ∷ fs) (InArity m f ∷ fs) q b rest (arity_off σ m f fs first q b (neg, n) (no_word_no_digit b (not-true _ quiet)))

    arity_core : (m f text : List ℕ) (z : ℤ) → SpellsInteger σ.rules text z → Leads σ (spot Before (InArity m f ∷ fs)) text (spot (AfterArity z) (InArity m f ∷ fs)) no_word
    arity_core m f text z h =
        let k = signed_of σ.rules (InArity m f ∷ fs) text z h.0 in
        integer_leads σ (InArity m f ∷ fs) Before text z no_word (spot (AfterArity z) (InArity m f ∷ fs))
        (λ p b sure. before_step σ (InArity m f ∷ fs) p b (starts_mark b (or_left _ _ sure)) ∙ arity_first m f p b) k (ap (allows σ.rules) k.same ∙ h.1)
        (λ first q rest quiet. arity_turn m f k.negative k.magnitude first q rest quiet ∙ ap (λ (y : ℤ). read_on σ (spot (AfterArity y) (InArity m f ∷ fs)) q rest) k.same)

    wide_arity : (m f text : List ℕ) (z : ℤ) → Wide (SpellsInteger σ.rules) text z → Leads σ (spot Before (InArity m f ∷ fs)) text (spot (AfterArity z) (InArity m f ∷ fs)) no_word
    wide_arity m f text z w =
        wide_leads σ (SpellsInteger σ.rules) (InArity m f ∷ fs) AfterArity (λ y. InArity m f ∷ fs) text z (between_before σ (InArity m f ∷ fs)) (between_arity σ z (InArity m f ∷ fs)) (λ u h. arity_core m f u z h) w

    opening_goes : (m f : List ℕ) (z : ℤ) (p : ℕ) → step_place σ Before (InOpening m f z ∷ fs) p 91 ≡ at Before (InCaptured m f z [] ∷ fs)
    unfolding step_place step_between step_mark step_before
    opening_goes m f z p = refl

    captured_starts : (m f : List ℕ) (z : ℤ) (env : List TermTree) (p b : ℕ) → starts_term b ≡ true → step_before σ (InCaptured m f z env ∷ fs) p b ≡ begin_term σ (InCaptured m f z env ∷ fs) p b
    unfolding step_before
    captured_starts m f z [] p b sure = rw (starts_other 93 b refl sure) refl
    captured_starts m f z (x ∷ env) p b sure = refl

    captured_comma : (m f : List ℕ) (z : ℤ) (env : List TermTree) (t : TermTree) (p : ℕ) → step_place σ (After t) (InCaptured m f z env ∷ fs) p 44 ≡ at Before (InCaptured m f z (env ++ t ∷ []) ∷ fs)
    unfolding step_place step_between step_mark step_after
    captured_comma m f z env t p = refl

    captured_close : (m f : List ℕ) (z : ℤ) (env : List TermTree) (t : TermTree) (p : ℕ) → step_place σ (After t) (InCaptured m f z env ∷ fs) p 93 ≡ at Before (InClosing m f z (env ++ t ∷ []) ∷ fs)
    unfolding step_place step_between step_mark step_after
    captured_close m f z env t p = refl

    captured_empty : (m f : List ℕ) (z : ℤ) (p : ℕ) → step_place σ Before (InCaptured m f z [] ∷ fs) p 93 ≡ at Before (InClosing m f z [] ∷ fs)
    unfolding step_place step_between step_mark step_before
    captured_empty m f z p = refl

    captured_core : (m f : List ℕ) (z : ℤ) (env : List TermTree) (text : List ℕ) → SpellsCaptured (Spells σ.rules l) text env → Leads σ (spot Before (InOpening m f z ∷ fs)) text (spot Before (InClosing m f z env ∷ fs)) no_word
    captured_core m f z env text h p rest quiet =
        subst (λ (t : List ℕ). Leads σ (spot Before (InOpening m f z ∷ fs)) t (spot Before (InClosing m f z env ∷ fs)) any) (sym h.2)
        (leads_first σ Before (InOpening m f z ∷ fs) 91 (h.0 ++ 93 ∷ []) (spot Before (InCaptured m f z [] ∷ fs)) (spot Before (InClosing m f z env ∷ fs)) any (opening_goes m f z)
        (elements_lead σ (Wide (Spells σ.rules l)) (λ ps. spot Before (InCaptured m f z ps ∷ fs)) (λ ps t. spot (After t) (InCaptured m f z ps ∷ fs)) (spot Before (InClosing m f z env ∷ fs)) (93 ∷ []) (good_end false)
        (λ ps t u w. wide_one (InCaptured m f z ps) (inner (InCaptured m f z ps) refl refl refl) (begins_in (InCaptured m f z ps) (captured_starts m f z ps)) u t w) (λ rest. refl)
        (λ ps t. leads_byte σ (After t) (InCaptured m f z ps ∷ fs) 44 (spot Before (InCaptured m f z (ps ++ t ∷ []) ∷ fs)) (captured_comma m f z ps t)) (λ r. refl)
        (InCaptured m f z [] ∷ fs) refl h.0 env h.1
        (λ none. subst (λ (ts : List TermTree). Leads σ (spot Before (InCaptured m f z [] ∷ fs)) (93 ∷ []) (spot Before (InClosing m f z ts ∷ fs)) any) (sym none) (leads_byte σ Before (InCaptured m f z [] ∷ fs) 93 (spot Before (InClosing m f z [] ∷ fs)) (captured_empty m f z)))
        (λ front x same. subst (λ (ts : List TermTree). Leads σ (spot (After x) (InCaptured m f z front ∷ fs)) (93 ∷ []) (spot Before (InClosing m f z ts ∷ fs)) any) same
        (leads_byte σ (After x) (InCaptured m f z front ∷ fs) 93 (spot Before (InClosing m f z (front ++ x ∷ []) ∷ fs)) (captured_close m f z front x)))))
        p rest refl

    wide_captured : (m f : List ℕ) (z : ℤ) (env : List TermTree) (text : List ℕ) → Wide (SpellsCaptured (Spells σ.rules l)) text env → Leads σ (spot Before (InOpening m f z ∷ fs)) text (spot Before (InClosing m f z env ∷ fs)) no_word
    wide_captured m f z env text w =
        wide_leads σ (SpellsCaptured (Spells σ.rules l)) (InOpening m f z ∷ fs) (λ e. Before) (λ e. InClosing m f z e ∷ fs) text env (between_before σ (InOpening m f z ∷ fs)) (between_before σ (InClosing m f z env ∷ fs))
        (λ u h. captured_core m f z env u h) w

    right_end : (m f : List ℕ) (z : ℤ) (env : List TermTree) (p : ℕ) → is_arity z (length env) ≡ true → step_place σ Before (InClosing m f z env ∷ fs) p 125 ≡ at (After (closure_of m f z env)) fs
    unfolding step_place step_between step_mark step_before
    right_end m f z env p e = rw e refl

    bad_end : (m f : List ℕ) (z : ℤ) (env : List TermTree) (p : ℕ) → is_arity z (length env) ≡ false → step_place σ Before (InClosing m f z env ∷ fs) p 256 ≡ at (After (closure_of m f z env)) fs
    unfolding step_place step_between step_mark step_before
    bad_end m f z env p e = rw e refl

    end_step : (m f : List ℕ) (z : ℤ) (env : List TermTree) (p : ℕ) → step_place σ Before (InClosing m f z env ∷ fs) p (closure_end z env) ≡ at (After (closure_of m f z env)) fs
    end_step m f z env p = go (is_arity z (length env)) refl
      where
        go : (a : Bool) → is_arity z (length env) ≡ a → step_place σ Before (InClosing m f z env ∷ fs) p (closure_end z env) ≡ at (After (closure_of m f z env)) fs
        go true e = ap (λ (a : Bool). step_place σ Before (InClosing m f z env ∷ fs) p (cond a 125 256)) e ∙ right_end m f z env p e
        go false e = ap (λ (a : Bool). step_place σ Before (InClosing m f z env ∷ fs) p (cond a 125 256)) e ∙ bad_end m f z env p e

    end_quiet : (z : ℤ) (env : List TermTree) (rest : List ℕ) → no_word (closure_end z env ∷ rest) ≡ true
    end_quiet z env rest = go (is_arity z (length env))
      where
        go : (a : Bool) → no_word (cond a 125 256 ∷ rest) ≡ true
        go true = refl
        go false = refl

    closures_lead : (home name number captured : List ℕ) (m f : List ℕ) (z : ℤ) (env : List TermTree) → Wide SpellsAtom home m → Wide SpellsAtom name f → Wide (SpellsInteger σ.rules) number z → Wide (SpellsCaptured (Spells σ.rules l)) captured env
        → Leads σ (spot Before fs) (codes "#fun{" ++ (home ++ 44 ∷ (name ++ 44 ∷ (number ++ 44 ∷ (captured ++ closure_end z env ∷ []))))) (behind_term fs (closure_of m f z env)) any
    closures_lead home name number captured m f z env wm wf wz we =
        let target : State = behind_term fs (closure_of m f z env) in
        let t4 = captured ++ closure_end z env ∷ [] in
        let t3 = number ++ 44 ∷ t4 in
        let t2 = name ++ 44 ∷ t3 in
        let t1 = home ++ 44 ∷ t2 in
        leads_first σ Before fs 35 (102 ∷ 117 ∷ 110 ∷ 123 ∷ t1) (spot (Sharp 0) fs) target any opens_sharp
        (leads_first σ (Sharp 0) fs 102 (117 ∷ 110 ∷ 123 ∷ t1) (spot (Sharp 1) fs) target any sharp_1_on
        (leads_first σ (Sharp 1) fs 117 (110 ∷ 123 ∷ t1) (spot (Sharp 2) fs) target any sharp_2_on
        (leads_first σ (Sharp 2) fs 110 (123 ∷ t1) (spot (Sharp 3) fs) target any sharp_3_on
        (leads_first σ (Sharp 3) fs 123 t1 (spot Before (InModule ∷ fs)) target any (λ p. sharp_closure p ∙ ap (λ (k : Bool). cond k (at Before (InModule ∷ fs)) (Stop Deep)) room)
        (leads_then σ (spot Before (InModule ∷ fs)) (spot (AfterName m) (InModule ∷ fs)) target home (44 ∷ t2) no_word any (wide_name InModule refl module_first home m wm)
        (leads_first σ (AfterName m) (InModule ∷ fs) 44 t2 (spot Before (InName m ∷ fs)) target any (module_comma m)
        (leads_then σ (spot Before (InName m ∷ fs)) (spot (AfterName f) (InName m ∷ fs)) target name (44 ∷ t3) no_word any (wide_name (InName m) refl (name_second m) name f wf)
        (leads_first σ (AfterName f) (InName m ∷ fs) 44 t3 (spot Before (InArity m f ∷ fs)) target any (name_comma m f)
        (leads_then σ (spot Before (InArity m f ∷ fs)) (spot (AfterArity z) (InArity m f ∷ fs)) target number (44 ∷ t4) no_word any (wide_arity m f number z wz)
        (leads_first σ (AfterArity z) (InArity m f ∷ fs) 44 t4 (spot Before (InOpening m f z ∷ fs)) target any (arity_comma m f z)
        (leads_then σ (spot Before (InOpening m f z ∷ fs)) (spot Before (InClosing m f z env ∷ fs)) target captured (closure_end z env ∷ []) no_word any (wide_captured m f z env captured we)
        (leads_byte σ Before (InClosing m f z env ∷ fs) (closure_end z env) target (end_step m f z env)) (λ rest q. end_quiet z env rest)))
        (λ rest q. refl)))
        (λ rest q. refl)))
        (λ rest q. refl))))))

    deep_leads : (text : List ℕ) (t : TermTree) → SpellsDeep σ.rules (Spells σ.rules l) text t → Leads σ (spot Before fs) text (behind_term fs t) any
    deep_leads text t (list u inside parts h is) = subst (λ (w : List ℕ). Leads σ (spot Before fs) w (behind_term fs t) any) (sym is) (lists_lead inside parts h)
    deep_leads text t (list_and_tail u inside last_ parts v h w is) = subst (λ (x : List ℕ). Leads σ (spot Before fs) x (behind_term fs t) any) (sym is) (tails_lead inside last_ parts v h w)
    deep_leads text t (points u cs h) = points_lead text cs h
    deep_leads text t (tuple u inside parts h is) = subst (λ (w : List ℕ). Leads σ (spot Before fs) w (behind_term fs t) any) (sym is) (tuples_lead inside parts h)
    deep_leads text t (map_text u inside pairs h is) = subst (λ (w : List ℕ). Leads σ (spot Before fs) w (behind_term fs t) any) (sym is) (maps_lead inside pairs h)
    deep_leads text t (closure u home name number captured m f z env wm wf wz we is) =
        subst (λ (w : List ℕ). Leads σ (spot Before fs) w (behind_term fs t) any) (sym is) (closures_lead home name number captured m f z env wm wf wz we)

  pub term_leads : (l : ℕ) → TermLeads l
  unfolding Spells
  term_leads zero fs ready begins text t h = λ p rest good. flat_leads zero fs ready begins text t h p rest good
  term_leads (suc l) fs ready begins text t (inl h) = λ p rest good. flat_leads (suc l) fs ready begins text t h p rest good
  term_leads (suc l) fs ready begins text t (inr h) = λ p rest good. deep_leads l (term_leads l) fs ready begins text t h p rest refl
