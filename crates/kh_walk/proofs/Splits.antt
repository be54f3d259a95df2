-- A pattern cut in two.
use Rattle.std.proofs.Common.{◌≡◌, ℕ, ◌+◌, ◌<◌, ◌≤◌, List, [], ◌∷◌, ◌++◌, length, take, drop, refl, ap, sym, subst, ◌∙◌, append_assoc, append-nil, length-append, take_at, drop_at, take-append-drop, arith}
use Rattle.kh_cond.specs.declared.component.Component.{Component}
use Rattle.kh_cond.specs.Holds.{Search}
use Rattle.kh_term.specs.declared.name.Name.{Name}
use Rattle.kh_tree.specs.Nodes.{Nodes}
use Rattle.kh_walk.specs.Takes.{Parts, Takes, AllTake}

module _ {S : Type 0} (search : Search) (m : Nodes S) where
  -- what components and then others take
  abbrev pub BothTake : List Name → List Component → List Component → List Name → Type 0
  BothTake above cs ds names = Parts (AllTake search m above cs) (λ front rest. AllTake search m (above ++ front) ds rest) names

  pub cut : (cs ds : List Component) (above names : List Name) → AllTake search m above (cs ++ ds) names → BothTake above cs ds names
  cut [] ds above names t = record {
    front = [];
    rest = names;
    whole = refl;
    front_is = refl;
    rest_is = subst (λ a. AllTake search m a ds names) (sym (append-nil above)) t;
  }
  cut (c ∷ cs) ds above names t =
      let more : BothTake (above ++ t.front) cs ds t.rest = cut cs ds (above ++ t.front) t.rest t.rest_is in
      record {
        front = t.front ++ more.front;
        rest = more.rest;
        whole = t.whole ∙ ap (λ r. t.front ++ r) more.whole ∙ sym (append_assoc t.front more.front more.rest);
        front_is = record { front = t.front; rest = more.front; whole = refl; front_is = t.front_is; rest_is = more.front_is };
        rest_is = subst (λ a. AllTake search m a ds more.rest) (append_assoc above t.front more.front) more.rest_is;
      }

  pub joined_up : (cs ds : List Component) (above front rest : List Name) → AllTake search m above cs front → AllTake search m (above ++ front) ds rest → AllTake search m above (cs ++ ds) (front ++ rest)
  joined_up [] ds above front rest f r =
      subst (λ x. AllTake search m above ds (x ++ rest)) (sym f)
      (subst (λ a. AllTake search m a ds rest) (ap (λ x. above ++ x) f ∙ append-nil above) r)
  joined_up (c ∷ cs) ds above front rest f r =
      let behind : AllTake search m ((above ++ f.front) ++ f.rest) ds rest =
      subst (λ a. AllTake search m a ds rest) (ap (λ x. above ++ x) f.whole ∙ sym (append_assoc above f.front f.rest)) r in
      record {
        front = f.front;
        rest = f.rest ++ rest;
        whole = ap (λ x. x ++ rest) f.whole ∙ append_assoc f.front f.rest rest;
        front_is = f.front_is;
        rest_is = joined_up cs ds (above ++ f.front) f.rest rest f.rest_is behind;
      }

  -- one component takes what it takes
  pub alone : (c : Component) (above names : List Name) → AllTake search m above (c ∷ []) names → Takes search m above c names
  alone c above names t = subst (Takes search m above c) (sym (t.whole ∙ ap (λ r. t.front ++ r) t.rest_is ∙ append-nil t.front)) t.front_is

  pub only : (c : Component) (above names : List Name) → Takes search m above c names → AllTake search m above (c ∷ []) names
  only c above names t = record { front = names; rest = []; whole = sym (append-nil names); front_is = t; rest_is = refl }

  -- components take a front of a path, and one more takes the rest
  pub record LastTakes (cs : List Component) (c : Component) (path : List Name) : Type 0 where
    pub at : ℕ
    pub within : at ≤ length path
    pub before : AllTake search m [] cs (take at path)
    pub last : Takes search m (take at path) c (drop at path)

  module _ (cs : List Component) (c : Component) where
    pub last_of : (path : List Name) → AllTake search m [] (cs ++ c ∷ []) path → LastTakes cs c path
    last_of path t = subst (LastTakes cs c) (sym p.whole) whole where
      p : BothTake [] cs (c ∷ []) path
      p = cut cs (c ∷ []) [] path t

      front : take (length p.front) (p.front ++ p.rest) ≡ p.front
      front = take_at p.front p.rest (length p.front) refl

      rest : drop (length p.front) (p.front ++ p.rest) ≡ p.rest
      rest = drop_at p.front p.rest (length p.front) refl

      whole : LastTakes cs c (p.front ++ p.rest)
      whole = record {
        at = length p.front;
        within = let long = length-append p.front p.rest in omega (arith, long);
        before = subst (AllTake search m [] cs) (sym front) p.front_is;
        last = subst (λ a. Takes search m a c (drop (length p.front) (p.front ++ p.rest))) (sym front) (subst (Takes search m p.front c) (sym rest) (alone c p.front p.rest p.rest_is));
      }

    pub with_last : (path : List Name) → LastTakes cs c path → AllTake search m [] (cs ++ c ∷ []) path
    with_last path l =
        subst (AllTake search m [] (cs ++ c ∷ [])) (take-append-drop l.at path)
        (joined_up cs (c ∷ []) [] (take l.at path) (drop l.at path) l.before (only c (take l.at path) (drop l.at path) l.last))
