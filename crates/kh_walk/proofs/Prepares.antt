-- What is prepared lacks nothing.
use Rattle.std.proofs.Common.{◌≡◌, ℕ, zero, suc, ◌+◌, ◌<◌, List, [], ◌∷◌, ◌++◌, map, sum, get_or, length, refl, ap, sym, ◌∙◌, arith}
use Rattle.std.specs.List.{flat_map}
use Rattle.kh_term.specs.Lemmas.Fits.{sum-cons}
use Rattle.kh_term.specs.declared.text.Text.{Text}
use Rattle.kh_cond.specs.declared.component.Component.{Component}
use Rattle.kh_cond.specs.declared.component.Component.TheVariants as component
use Rattle.kh_cond.specs.declared.cond.Cond.{Cond}
use Rattle.kh_cond.specs.declared.cond.Cond.TheVariants as cond
use Rattle.kh_cond.specs.declared.cond.Cond.TheVariants.{rolls-PathMatches, rolls-All}
use Rattle.kh_cond.specs.declared.cond.Cond.TheOpen as layer
use Rattle.kh_cond.specs.declared.cond.Cond.TheFolds.{fold-roll-Cond}
use Rattle.kh_cond.specs.declared.cond.Regex.{Regex}
use Rattle.kh_cond.specs.Texts.{added, component_texts, lacking, lacking_regex, lacking_step, pattern_texts, regex_texts, texts_of, texts_step}
use Rattle.kh_cond.proofs.Prepared.{prepared}
use Rattle.kh_walk.specs.Prepared.{lacking_in, lacking_of}

-- no component lacks what its pattern doesn't
pub component_prepared : (known : List (List ℕ)) (q : List Component) (i : ℕ) (d : Component) → i < length q → lacking_in known q ≡ 0 → lacking_of known (get_or q i d) ≡ 0
component_prepared known [] i d h e = absurd (omega (arith, h))
component_prepared known (c ∷ q) zero d h e = let s = sum-cons (lacking_of known c) (map (lacking_of known) q) in omega (arith, s, e)
component_prepared known (c ∷ q) (suc i) d h e =
    component_prepared known q i d (omega (arith, h)) (let s = sum-cons (lacking_of known c) (map (lacking_of known) q) in omega (arith, s, e))

-- a condition with the texts of a component
as_cond : Component → Cond
as_cond (component.One c) = c
as_cond (component.Many regex) = cond.PathMatches regex
as_cond (component.ManyAll regex further) = cond.All (cond.PathMatches regex ∷ further)

pieces_joined : {A B : Type 0} (f : A → List B) (xs : List A) → flat_map (λ x. x) (map f xs) ≡ flat_map f xs
pieces_joined f [] = refl
pieces_joined f (x ∷ xs) = ap (λ ys. f x ++ ys) (pieces_joined f xs)

texts_of_path : (r : Regex) → texts_of (cond.PathMatches r) ≡ regex_texts r
texts_of_path r = ap texts_of (sym (rolls-PathMatches r)) ∙ fold-roll-Cond (List Text) texts_step (layer.PathMatches r)

texts_of_all : (cs : List Cond) → texts_of (cond.All cs) ≡ flat_map texts_of cs
texts_of_all cs = ap texts_of (sym (rolls-All cs)) ∙ (fold-roll-Cond (List Text) texts_step (layer.All cs) ∙ pieces_joined texts_of cs)

lacking_path : (known : List (List ℕ)) (r : Regex) → lacking known (cond.PathMatches r) ≡ lacking_regex known r
lacking_path known r = ap (lacking known) (sym (rolls-PathMatches r)) ∙ fold-roll-Cond ℕ (lacking_step known) (layer.PathMatches r)

lacking_all : (known : List (List ℕ)) (cs : List Cond) → lacking known (cond.All cs) ≡ sum (map (lacking known) cs)
lacking_all known cs = ap (lacking known) (sym (rolls-All cs)) ∙ fold-roll-Cond ℕ (lacking_step known) (layer.All cs)

same_texts : (c : Component) → texts_of (as_cond c) ≡ component_texts c
unfolding as_cond
same_texts (component.One c) = refl
same_texts (component.Many regex) = texts_of_path regex
same_texts (component.ManyAll regex further) = texts_of_all (cond.PathMatches regex ∷ further) ∙ ap (λ ts. ts ++ flat_map texts_of further) (texts_of_path regex)

same_lacking : (known : List (List ℕ)) (c : Component) → lacking known (as_cond c) ≡ lacking_of known c
unfolding as_cond
same_lacking known (component.One c) = refl
same_lacking known (component.Many regex) = lacking_path known regex
same_lacking known (component.ManyAll regex further) =
    lacking_all known (cond.PathMatches regex ∷ further) ∙ sum-cons (lacking known (cond.PathMatches regex)) (map (lacking known) further) ∙ ap (λ n. n + sum (map (lacking known) further)) (lacking_path known regex)

all_texts : (q : List Component) → flat_map texts_of (map as_cond q) ≡ pattern_texts q
all_texts [] = refl
all_texts (c ∷ q) = λ i. same_texts c i ++ all_texts q i

all_lacking : (known : List (List ℕ)) (q : List Component) → map (lacking known) (map as_cond q) ≡ map (lacking_of known) q
all_lacking known [] = refl
all_lacking known (c ∷ q) = λ i. same_lacking known c i ∷ all_lacking known q i

-- a pattern whose texts were prepared lacks nothing
pub pattern_prepared : (known : List (List ℕ)) (q : List Component) → lacking_in (known ++ added known (pattern_texts q)) q ≡ 0
pattern_prepared known q =
    let texts : texts_of (cond.All (map as_cond q)) ≡ pattern_texts q = texts_of_all (map as_cond q) ∙ all_texts q in
    let all : List (List ℕ) = known ++ added known (pattern_texts q) in
    sym (lacking_all all (map as_cond q) ∙ ap sum (all_lacking all q))
    ∙ ap (λ ts. lacking (known ++ added known ts) (cond.All (map as_cond q))) (sym texts)
    ∙ prepared known (cond.All (map as_cond q))
