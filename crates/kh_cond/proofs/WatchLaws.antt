-- Why the laws of watched paths hold.
use Rattle.std.proofs.Common.{◌≡◌, List, [], ◌∷◌, map, Some, refl, ap, sym, ◌∙◌}
use Rattle.std.proofs.lemmas.Option.{same_Some}
use Rattle.kh_term.specs.declared.tree.TermTree.{TermTree, out-TermTree}
use Rattle.kh_cond.specs.declared.cond.Cond.{Cond}
use Rattle.kh_cond.specs.Laws.{WatchingSpellsAtMostOne, ShortWatchingIsSpelling}
use Rattle.kh_cond.specs.Short.{cond_tree}
use Rattle.kh_cond.specs.Watched.{Watched, SpellEntries, entries_in, pairs_in, watched_tree}
use Rattle.kh_cond.specs.Watched as watched
use Rattle.kh_cond.proofs.LawLemmas.{cond_short}
use Rattle.kh_cond.proofs.Watches.{entries_read, pairs_of_map}

pub one_watching : WatchingSpellsAtMostOne
one_watching t p q s r =
    let same : s.0 ≡ r.0 =
    same_Some _ _ (sym (pairs_of_map s.0) ∙ (ap (λ u. pairs_in (out-TermTree u)) (sym s.1 ∙ r.1) ∙ pairs_of_map r.0)) in
    same_Some _ _ (sym (entries_read s.0 p s.2) ∙ (ap entries_in same ∙ entries_read r.0 q r.2))

entries_short : (ps : List (TermTree × TermTree)) (ws : List (Watched × Cond)) → SpellEntries ps ws → SpellEntries (map (λ e. (watched_tree e.0, cond_tree e.1)) ws) ws
entries_short ps ws watched.end = watched.end
entries_short ps ws (watched.next w t c qs us is s rest) =
    watched.next w (cond_tree c) c (map (λ e. (watched_tree e.0, cond_tree e.1)) us) us is (cond_short t c s) (entries_short qs us rest)

pub watching_short : ShortWatchingIsSpelling
watching_short t ws s = (map (λ e. (watched_tree e.0, cond_tree e.1)) ws, refl, entries_short s.0 ws s.2)
