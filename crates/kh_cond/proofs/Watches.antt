-- What watched paths a term spells is what it is read as, and the other way round.
use Rattle.std.proofs.Common.{◌≡◌, ◌&&◌, ◌+◌, ◌<◌, ℕ, Bool, true, false, not, IsTrue, List, [], ◌∷◌, ◌++◌, length, get_or, map, take, drop, drop-cons, suc, codes, Option, Some, None, refl, ap, sym, subst, ◌∙◌, if◌then◌else◌}
use Rattle.std.proofs.lemmas.Option.{none-some, same_Some}
use Rattle.std.proofs.lemmas.Bool.{and_parts}
use Rattle.std.proofs.lemmas.List.{take-append-drop}
use Rattle.std.proofs.lemmas.Slice.Eq.{bytes_eq-Decides}
use Rattle.std.specs.List.{list_all}
use Rattle.std.specs.Str.{bytes_eq}
use Rattle.kh_term.specs.Lemmas.Fits.{fits_front, fits_behind, keys_of_map, values_of_map, keys_rise_in}
use Rattle.kh_term.specs.Lemmas.Total.{layered}
use Rattle.kh_term.specs.Lookup.{rises_after}
use Rattle.kh_term.specs.Make.{list_of, name_tree}
use Rattle.kh_term.specs.Name.{is_name, has_name_length}
use Rattle.kh_term.specs.Parts.{in_front, name_in, name_of, named, names_of}
use Rattle.kh_term.specs.WellFormed.{IsTerm, AreTerms, ArePairs, keys_rise}
use Rattle.kh_term.specs.declared.name.Name.{Name}
use Rattle.kh_term.specs.declared.name.Name.TheVariants as name
use Rattle.kh_term.specs.declared.tree.TermTree.{TermTree, out-TermTree}
use Rattle.kh_term.specs.declared.tree.TermTree.TheOpen.{TermTree-F}
use Rattle.kh_term.specs.declared.tree.TermTree.TheOpen as layer
use Rattle.kh_term.specs.declared.tree.TermTree.TheVariants as tree
use Rattle.kh_term.specs.declared.tree.TermTree.TheVariants.{outs-Atom, outs-Bin, outs-Map, rolls-Atom, rolls-Bin, rolls-Map}
use Rattle.kh_cond.specs.declared.cond.Cond.{Cond}
use Rattle.kh_cond.specs.declared.watching.Start.{Start}
use Rattle.kh_cond.specs.declared.watching.Start.TheVariants as start
use Rattle.kh_cond.specs.Reading.{before, cond_in, each, elements_of}
use Rattle.kh_cond.specs.Short.{cond_tree}
use Rattle.kh_cond.specs.Watched.{Watched, SpellEntries, SpellsWatching, entries_in, entry_in, entry_with, is_watched, pairs_in, paths_rise, start_in, start_of, start_terms, watched_by, watched_elements, watched_in, watched_of, watched_tree, watched_with}
use Rattle.kh_cond.specs.Watched as watched
use Rattle.kh_cond.proofs.Complete.{chosen, cond_read}
use Rattle.kh_cond.proofs.PatternReads.{elements_list, list_elements}
use Rattle.kh_cond.proofs.Sound.{if_then, sound}

-- ---- names

name_inverse : (t : TermTree) (n : Name) → name_of t ≡ Some n → t ≡ name_tree n
name_inverse t n h = go (out-TermTree t) refl h
  where
    go : (l : TermTree-F TermTree) → out-TermTree t ≡ l → name_in l ≡ Some n → t ≡ name_tree n
    go (layer.Atom text) e h =
        let p = if_then (is_name (name.Atom text)) (Some (name.Atom text)) n h in
        layered t _ e ∙ (rolls-Atom text ∙ ap name_tree (same_Some _ _ p.1))
    go (layer.Bin bytes) e h =
        let p = if_then (is_name (name.Bin bytes)) (Some (name.Bin bytes)) n h in
        layered t _ e ∙ (rolls-Bin bytes ∙ ap name_tree (same_Some _ _ p.1))
    go l e h = absurd (none-some n h)

names_inverse : (ts : List TermTree) (ns : List Name) → names_of ts ≡ Some ns → ts ≡ map name_tree ns
names_inverse [] ns h = ap (map name_tree) (same_Some _ _ h)
names_inverse (t ∷ ts) ns h = go (name_of t) (names_of ts) refl refl (names_inverse ts) h
  where
    go : (m : Option Name) (ms : Option (List Name)) → name_of t ≡ m → names_of ts ≡ ms → ((us : List Name) → names_of ts ≡ Some us → ts ≡ map name_tree us) →
        in_front m ms ≡ Some ns → t ∷ ts ≡ map name_tree ns
    go (Some m) (Some ms) e f behind h = (λ i. name_inverse t m e i ∷ behind ms f i) ∙ ap (map name_tree) (same_Some _ _ h)
    go (Some m) None e f behind h = absurd (none-some ns h)
    go None ms e f behind h = absurd (none-some ns h)

name_back : (n : Name) → is_name n ≡ true → name_of (name_tree n) ≡ Some n
name_back (name.Atom text) h = ap name_in (outs-Atom text) ∙ chosen (is_name (name.Atom text)) (Some (name.Atom text)) None h
name_back (name.Bin bytes) h = ap name_in (outs-Bin bytes) ∙ chosen (is_name (name.Bin bytes)) (Some (name.Bin bytes)) None h

names_back : (ns : List Name) → list_all is_name ns ≡ true → names_of (map name_tree ns) ≡ Some ns
names_back [] h = refl
names_back (n ∷ ns) h =
    let both = and_parts (is_name n) (list_all is_name ns) h in λ i. in_front (name_back n both.0 i) (names_back ns both.1 i)

-- ---- where a path begins

start_found : (text : List ℕ) (s : Start) → start_of text ≡ Some s → tree.Atom text ∷ [] ≡ start_terms s
start_found text s h = node (bytes_eq text (codes ".")) refl h
  where
    parent : (b : Bool) → bytes_eq text (codes "^") ≡ b → (if b then Some start.Parent else None) ≡ Some s → tree.Atom text ∷ [] ≡ start_terms s
    parent true e h = (λ i. tree.Atom ((bytes_eq-Decides text (codes "^")).0 e i) ∷ []) ∙ ap start_terms (same_Some _ _ h)
    parent false e h = absurd (none-some s h)

    node : (b : Bool) → bytes_eq text (codes ".") ≡ b → (if b then Some start.Node else (if bytes_eq text (codes "^") then Some start.Parent else None)) ≡ Some s →
        tree.Atom text ∷ [] ≡ start_terms s
    node true e h = (λ i. tree.Atom ((bytes_eq-Decides text (codes ".")).0 e i) ∷ []) ∙ ap start_terms (same_Some _ _ h)
    node false e h = parent (bytes_eq text (codes "^")) refl h

start_inverse : (t : TermTree) (s : Start) → start_in (out-TermTree t) ≡ Some s → t ∷ [] ≡ start_terms s
start_inverse t s h = go (out-TermTree t) refl h
  where
    go : (l : TermTree-F TermTree) → out-TermTree t ≡ l → start_in l ≡ Some s → t ∷ [] ≡ start_terms s
    go (layer.Atom text) e h = ap (λ u. u ∷ []) (layered t _ e ∙ rolls-Atom text) ∙ start_found text s h
    go l e h = absurd (none-some s h)

neither : (a b : Bool) → not a ≡ true → not b ≡ true → (if a then Some start.Node else (if b then Some start.Parent else None)) ≡ None
neither false false h k = refl
neither false true h k = absurd (cc)
neither true b h k = absurd (cc)

-- a name is no start
no_start : (n : Name) → is_name n ≡ true → start_in (out-TermTree (name_tree n)) ≡ None
no_start (name.Bin bytes) h = ap start_in (outs-Bin bytes)
no_start (name.Atom text) h =
    let p = and_parts (has_name_length text && not (bytes_eq text (codes "."))) (not (bytes_eq text (codes "^"))) h in
    let q = and_parts (has_name_length text) (not (bytes_eq text (codes "."))) p.0 in
    ap start_in (outs-Atom text) ∙ neither (bytes_eq text (codes ".")) (bytes_eq text (codes "^")) q.1 p.1

-- ---- watched paths

with_sound : (s : Start) (o : Option (List Name)) (w : Watched) → watched_with s o ≡ Some w →
    (ns : List Name) × (o ≡ Some ns) × ((s, ns) ≡ w) × IsTrue (is_watched w)
with_sound s None w h = absurd (none-some w h)
with_sound s (Some ns) w h =
    let p = if_then (is_watched (s, ns)) (Some (s, ns)) w h in
    let same : (s, ns) ≡ w = same_Some _ _ p.1 in
    (ns, refl, same, subst (λ v. IsTrue (is_watched v)) same p.0)

parts_of : Watched → List TermTree
parts_of w = start_terms w.0 ++ map name_tree w.1

of_sound : (ts : List TermTree) (w : Watched) → watched_of ts ≡ Some w → (ts ≡ parts_of w) × IsTrue (is_watched w)
unfolding parts_of
of_sound [] w h =
    let same : (start.Root, []) ≡ w = same_Some _ _ h in (ap parts_of same, subst (λ v. IsTrue (is_watched v)) same refl)
of_sound (t ∷ ts) w h = go (start_in (out-TermTree t)) refl h
  where
    go : (o : Option Start) → start_in (out-TermTree t) ≡ o → watched_by o t ts ≡ Some w → (t ∷ ts ≡ parts_of w) × IsTrue (is_watched w)
    go None e h = let p = with_sound start.Root (names_of (t ∷ ts)) w h in (names_inverse (t ∷ ts) p.0 p.1 ∙ ap parts_of p.2, p.3)
    go (Some s) e h =
        let p = with_sound s (names_of ts) w h in
        ((λ i. start_inverse t s e i ++ names_inverse ts p.0 p.1 i) ∙ ap parts_of p.2, p.3)

path_sound : (t : TermTree) (w : Watched) → IsTerm t → watched_in t ≡ Some w → (t ≡ watched_tree w) × IsTrue (is_watched w)
unfolding parts_of
path_sound t w fits h = go (elements_of (out-TermTree t)) refl h
  where
    go : (o : Option (List TermTree)) → elements_of (out-TermTree t) ≡ o → watched_elements o ≡ Some w → (t ≡ watched_tree w) × IsTrue (is_watched w)
    go None e h = absurd (none-some w h)
    go (Some ts) e h = let p = of_sound ts w h in (elements_list t ts fits e ∙ ap list_of p.0, p.1)

with_back : (s : Start) (ns : List Name) → IsTrue (is_watched (s, ns)) → watched_with s (names_of (map name_tree ns)) ≡ Some (s, ns)
with_back s ns h =
    let both = and_parts _ (list_all is_name ns) h in
    ap (watched_with s) (names_back ns both.1) ∙ chosen (is_watched (s, ns)) (Some (s, ns)) None h

of_back : (s : Start) (ns : List Name) → IsTrue (is_watched (s, ns)) → watched_of (start_terms s ++ map name_tree ns) ≡ Some (s, ns)
of_back start.Node ns h = ap (λ o. watched_by o (tree.Atom (codes ".")) (map name_tree ns)) (ap start_in (outs-Atom (codes "."))) ∙ with_back start.Node ns h
of_back start.Parent ns h = ap (λ o. watched_by o (tree.Atom (codes "^")) (map name_tree ns)) (ap start_in (outs-Atom (codes "^"))) ∙ with_back start.Parent ns h
of_back start.Root [] h = refl
of_back start.Root (n ∷ ns) h =
    let both = and_parts _ (list_all is_name (n ∷ ns)) h in
    let first = and_parts (is_name n) (list_all is_name ns) both.1 in
    ap (λ o. watched_by o (name_tree n) (map name_tree ns)) (no_start n first.0) ∙ with_back start.Root (n ∷ ns) h

path_back : (w : Watched) → IsTrue (is_watched w) → watched_in (watched_tree w) ≡ Some w
path_back (s, ns) h = ap watched_elements (list_elements (start_terms s ++ map name_tree ns)) ∙ of_back s ns h

-- ---- paths with their conditions

entries_sound : (ps : List (TermTree × TermTree)) (ws : List (Watched × Cond)) → AreTerms (map (λ p. p.0) ps) → AreTerms (map (λ p. p.1) ps) →
    entries_in ps ≡ Some ws → SpellEntries ps ws
entries_sound [] ws ks vs h = subst (SpellEntries []) (same_Some _ _ h) watched.end
entries_sound (p ∷ ps) ws ks vs h = go (watched_in p.0) (cond_in p.1) (entries_in ps) refl refl refl (entries_sound ps) h
  where
    go : (o : Option Watched) (c : Option Cond) (rest : Option (List (Watched × Cond))) → watched_in p.0 ≡ o → cond_in p.1 ≡ c → entries_in ps ≡ rest →
        ((us : List (Watched × Cond)) → AreTerms (map (λ q. q.0) ps) → AreTerms (map (λ q. q.1) ps) → entries_in ps ≡ Some us → SpellEntries ps us) →
        before (entry_with o c) rest ≡ Some ws → SpellEntries (p ∷ ps) ws
    go (Some w) (Some c) (Some us) e f g behind h =
        let fits = fits_front p.1 (map (λ q. q.1) ps) vs in
        let is = path_sound p.0 w (fits_front p.0 (map (λ q. q.0) ps) ks) e in
        let rest = behind us (fits_behind p.0 (map (λ q. q.0) ps) ks) (fits_behind p.1 (map (λ q. q.1) ps) vs) g in
        subst (λ k. SpellEntries ((k, p.1) ∷ ps) ws) (sym is.0)
        (subst (SpellEntries ((watched_tree w, p.1) ∷ ps)) (same_Some _ _ h) (watched.next w p.1 c ps us is.1 ((sound p.1 fits).0 c f) rest))
    go (Some w) (Some c) None e f g behind h = absurd (none-some ws h)
    go (Some w) None rest e f g behind h = absurd (none-some ws h)
    go None c rest e f g behind h = absurd (none-some ws h)

pub entries_read : (ps : List (TermTree × TermTree)) (ws : List (Watched × Cond)) → SpellEntries ps ws → entries_in ps ≡ Some ws
entries_read ps ws watched.end = refl
entries_read ps ws (watched.next w t c qs us is s rest) =
    λ i. before (entry_with (path_back w is i) (cond_read t c s i)) (entries_read qs us rest i)

-- the keys are the paths
same_keys : (ps : List (TermTree × TermTree)) (ws : List (Watched × Cond)) → SpellEntries ps ws → map (λ p. p.0) ps ≡ map (λ e. watched_tree e.0) ws
same_keys ps ws watched.end = refl
same_keys ps ws (watched.next w t c qs us is s rest) = ap (λ ks. watched_tree w ∷ ks) (same_keys qs us rest)

-- what is read of a map, and that the paths rise
pub entries_spelled : (ps : List (TermTree × TermTree)) (ws : List (Watched × Cond)) → ArePairs ps → entries_in ps ≡ Some ws →
    SpellEntries ps ws × IsTrue (paths_rise ws)
entries_spelled ps ws fit h =
    let spelled = entries_sound ps ws (keys_of_map ps fit) (values_of_map ps fit) h in
    (spelled, subst (λ ks. IsTrue (keys_rise ks)) (same_keys ps ws spelled) (keys_rise_in ps fit))

pub map_of_pairs : (t : TermTree) (ps : List (TermTree × TermTree)) → pairs_in (out-TermTree t) ≡ Some ps → t ≡ tree.Map ps
map_of_pairs t ps h = go (out-TermTree t) refl h
  where
    go : (l : TermTree-F TermTree) → out-TermTree t ≡ l → pairs_in l ≡ Some ps → t ≡ tree.Map ps
    go (layer.Map qs) e h = layered t _ e ∙ (rolls-Map qs ∙ ap tree.Map (same_Some _ _ h))
    go l e h = absurd (none-some ps h)

pub pairs_of_map : (ps : List (TermTree × TermTree)) → pairs_in (out-TermTree (tree.Map ps)) ≡ Some ps
pairs_of_map ps = ap pairs_in (outs-Map ps)

-- no map, so nothing is spelled
pub no_map : (t : TermTree) (ws : List (Watched × Cond)) → pairs_in (out-TermTree t) ≡ None → SpellsWatching t ws → ⊥
no_map t ws e s = none-some s.0 (sym e ∙ (ap (λ u. pairs_in (out-TermTree u)) s.1 ∙ pairs_of_map s.0))

-- where the pairs aren't read, nothing is spelled
pub no_entries : (t : TermTree) (ps : List (TermTree × TermTree)) (ws : List (Watched × Cond)) → pairs_in (out-TermTree t) ≡ Some ps → entries_in ps ≡ None →
    SpellsWatching t ws → ⊥
no_entries t ps ws e none s =
    let same : ps ≡ s.0 = same_Some _ _ (sym e ∙ (ap (λ u. pairs_in (out-TermTree u)) s.1 ∙ pairs_of_map s.0)) in
    none-some ws (sym none ∙ (ap entries_in same ∙ entries_read s.0 ws s.2))

-- ---- the short spelling

rises_at : (us : List (Watched × Cond)) (e : Watched × Cond) (vs : List (Watched × Cond)) → IsTrue (paths_rise (us ++ e ∷ vs)) →
    rises_after (map (λ u. (watched_tree u.0, cond_tree u.1)) us) (watched_tree e.0) ≡ true
rises_at [] e vs h = refl
rises_at (u ∷ []) e vs h = (and_parts _ _ h).0
rises_at (u ∷ v ∷ us) e vs h = rises_at (v ∷ us) e vs (and_parts _ _ h).1

-- the next path is above those before it
pub next_rises : (ws : List (Watched × Cond)) (i : ℕ) (e : Watched × Cond) (ps : List (TermTree × TermTree)) (k : TermTree) → i < length ws → e ≡ get_or ws i e →
    IsTrue (paths_rise ws) → ps ≡ map (λ u. (watched_tree u.0, cond_tree u.1)) (take i ws) → k ≡ watched_tree e.0 → IsTrue (rises_after ps k)
next_rises ws i e ps k h is rise front key =
    let split : ws ≡ take i ws ++ e ∷ drop (suc i) ws =
    sym (take-append-drop i ws) ∙ ap (λ xs. take i ws ++ xs) (drop-cons ws i e h ∙ ap (λ x. x ∷ drop (suc i) ws) (sym is)) in
    (λ j. rises_after (front j) (key j)) ∙ rises_at (take i ws) e (drop (suc i) ws) (subst (λ xs. IsTrue (paths_rise xs)) split rise)

pub ruleset written = next_rises
