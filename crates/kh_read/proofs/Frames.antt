-- What stands open, innermost first.
use Rattle.std.proofs.Common.{◌≡◌, List, [], ◌∷◌, ◌++◌, map, reverse, Option, Some, None, refl, sym, ap, ◌∙◌, length, ℕ}
use Rattle.std.specs.Prelude.{MatchOption}
use Rattle.std.proofs.lemmas.List.{map-append, reverse-append, length-map, length-reverse}
use Rattle.kh_term.specs.declared.term.Term.{Term}
use Rattle.kh_term.specs.MapOf.{trees_of}
use Rattle.kh_read.specs.declared.places.Frame.{Frame as CodeFrame}
use Rattle.kh_read.specs.Views.{frame_of, frames_of}

pub pushed : (frames : List CodeFrame) (f : CodeFrame) → frames_of (frames ++ f ∷ []) ≡ frame_of f ∷ frames_of frames
pushed frames f = ap (λ xs. reverse xs) (map-append frame_of frames (f ∷ [])) ∙ reverse-append (map frame_of frames) (frame_of f ∷ [])

pub popped : (r : Option CodeFrame) (old new : List CodeFrame) → MatchOption r ((old ≡ []) × (new ≡ [])) (λ last. old ≡ new ++ last ∷ [])
    → MatchOption r ((frames_of old ≡ []) × (frames_of new ≡ [])) (λ f. frames_of old ≡ frame_of f ∷ frames_of new)
popped (Some f) old new is = ap frames_of is ∙ pushed new f
popped None old new is = (ap frames_of is.0, ap frames_of is.1)

pub length-frames : (frames : List CodeFrame) → length (frames_of frames) ≡ length frames
length-frames frames = length-reverse (map frame_of frames) ∙ length-map frames frame_of

pub pairs_more : (pairs : List (Term × Term)) (p : Term × Term) → trees_of (pairs ++ p ∷ []) ≡ trees_of pairs ++ (p.0.node, p.1.node) ∷ []
pairs_more pairs p = map-append (λ (q : Term × Term). (q.0.node, q.1.node)) pairs (p ∷ [])

pub length_trees : (pairs : List (Term × Term)) → length (trees_of pairs) ≡ length pairs
length_trees pairs = length-map pairs (λ (q : Term × Term). (q.0.node, q.1.node))

pub ruleset stacks = (pushed, length-frames)
