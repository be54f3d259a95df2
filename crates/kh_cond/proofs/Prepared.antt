-- What is prepared lacks nothing.
use Rattle.std.proofs.Common.{◌≡◌, ℕ, ◌+◌, ◌||◌, Bool, true, false, true≢false, List, [], ◌∷◌, ◌++◌, map, sum, refl, ap, sym, subst, ◌∙◌, append_assoc, if◌then◌else◌, arith, nat_eq}
use Rattle.std.proofs.lemmas.Slice.Eq.{bytes_eq-Decides}
use Rattle.std.specs.Cmp.Lexicographic.{pointwise}
use Rattle.std.specs.List.{flat_map}
use Rattle.kh_term.specs.Lemmas.Fits.{sum-cons}
use Rattle.kh_term.specs.Lemmas.Induction.{Each}
use Rattle.kh_term.specs.declared.name.Name.{Name}
use Rattle.kh_term.specs.declared.term.Term.{Term}
use Rattle.kh_cond.specs.declared.cond.Regex.{Regex}
use Rattle.kh_cond.specs.declared.cond.Regex.TheVariants as regex
use Rattle.kh_cond.specs.declared.cond.Comparison.{Comparison}
use Rattle.kh_cond.specs.declared.cond.Cond.{Cond}
use Rattle.kh_cond.specs.declared.cond.Cond.TheVariants as cond
use Rattle.kh_cond.specs.declared.cond.Cond.TheVariants.{rolls-Name, rolls-NodeExists, rolls-HasPayload, rolls-HasData, rolls-HasSproc, rolls-DataMatches, rolls-PayloadVersion, rolls-ChildListVersion, rolls-ChildListLength}
use Rattle.kh_cond.specs.declared.cond.Cond.TheOpen as layer
use Rattle.kh_cond.specs.declared.cond.Cond.TheFolds.{fold-roll-Cond}
use Rattle.kh_cond.specs.Texts.{added, is_known, lacking, lacking_regex, lacking_step, regex_texts, texts_of}
use Rattle.kh_cond.proofs.CondInduction.{by_rows}
use Rattle.kh_cond.proofs.CondLayers.{lacking-NameMatches, lacking-PathMatches, lacking-Not, lacking-All, lacking-Any, texts-Name, texts-NodeExists, texts-NameMatches, texts-PathMatches, texts-HasPayload, texts-HasData, texts-HasSproc, texts-DataMatches, texts-PayloadVersion, texts-ChildListVersion, texts-ChildListLength, texts-Not, texts-All, texts-Any}

-- how many of some texts aren't known
unknown : List (List ℕ) → List (List ℕ) → ℕ
unknown known [] = 0
unknown known (t ∷ ts) = (if is_known known t then 0 else 1) + unknown known ts

unknown-append : (known ts us : List (List ℕ)) → unknown known (ts ++ us) ≡ unknown known ts + unknown known us
unfolding unknown
unknown-append known [] us = omega arith
unknown-append known (t ∷ ts) us = omega (arith, unknown-append known ts us)

-- a condition lacks the texts of it that aren't known
Lacks : List (List ℕ) → Cond → Type 0
Lacks known c = lacking known c ≡ unknown known (texts_of c)

lacks_each : (known : List (List ℕ)) (cs : List Cond) → Each (Lacks known) cs → sum (map (lacking known) cs) ≡ unknown known (flat_map texts_of cs)
unfolding Lacks unknown
lacks_each known [] each = refl
lacks_each known (c ∷ cs) each =
    omega (arith, sum-cons (lacking known c) (map (lacking known) cs), each.0, lacks_each known cs each.1, unknown-append known (texts_of c) (flat_map texts_of cs))

lacks_regex : (known : List (List ℕ)) (r : Regex) → lacking_regex known r ≡ unknown known (regex_texts r)
unfolding unknown
lacks_regex known regex.Any = refl
lacks_regex known (regex.Text text) = omega arith

lacking-Name : (known : List (List ℕ)) (n : Name) → Lacks known (cond.Name n)
unfolding Lacks unknown
lacking-Name known n = ap (lacking known) (sym (rolls-Name n)) ∙ (fold-roll-Cond ℕ (lacking_step known) (layer.Name n) ∙ sym (ap (unknown known) (texts-Name n)))

lacking-NodeExists : (known : List (List ℕ)) (b : Bool) → Lacks known (cond.NodeExists b)
unfolding Lacks unknown
lacking-NodeExists known b = ap (lacking known) (sym (rolls-NodeExists b)) ∙ (fold-roll-Cond ℕ (lacking_step known) (layer.NodeExists b) ∙ sym (ap (unknown known) (texts-NodeExists b)))

lacking-HasPayload : (known : List (List ℕ)) (b : Bool) → Lacks known (cond.HasPayload b)
unfolding Lacks unknown
lacking-HasPayload known b = ap (lacking known) (sym (rolls-HasPayload b)) ∙ (fold-roll-Cond ℕ (lacking_step known) (layer.HasPayload b) ∙ sym (ap (unknown known) (texts-HasPayload b)))

lacking-HasData : (known : List (List ℕ)) (b : Bool) → Lacks known (cond.HasData b)
unfolding Lacks unknown
lacking-HasData known b = ap (lacking known) (sym (rolls-HasData b)) ∙ (fold-roll-Cond ℕ (lacking_step known) (layer.HasData b) ∙ sym (ap (unknown known) (texts-HasData b)))

lacking-HasSproc : (known : List (List ℕ)) (b : Bool) → Lacks known (cond.HasSproc b)
unfolding Lacks unknown
lacking-HasSproc known b = ap (lacking known) (sym (rolls-HasSproc b)) ∙ (fold-roll-Cond ℕ (lacking_step known) (layer.HasSproc b) ∙ sym (ap (unknown known) (texts-HasSproc b)))

lacking-DataMatches : (known : List (List ℕ)) (pattern : Term) → Lacks known (cond.DataMatches pattern)
unfolding Lacks unknown
lacking-DataMatches known pattern = ap (lacking known) (sym (rolls-DataMatches pattern)) ∙ (fold-roll-Cond ℕ (lacking_step known) (layer.DataMatches pattern) ∙ sym (ap (unknown known) (texts-DataMatches pattern)))

lacking-PayloadVersion : (known : List (List ℕ)) (c : Comparison) → Lacks known (cond.PayloadVersion c)
unfolding Lacks unknown
lacking-PayloadVersion known c = ap (lacking known) (sym (rolls-PayloadVersion c)) ∙ (fold-roll-Cond ℕ (lacking_step known) (layer.PayloadVersion c) ∙ sym (ap (unknown known) (texts-PayloadVersion c)))

lacking-ChildListVersion : (known : List (List ℕ)) (c : Comparison) → Lacks known (cond.ChildListVersion c)
unfolding Lacks unknown
lacking-ChildListVersion known c = ap (lacking known) (sym (rolls-ChildListVersion c)) ∙ (fold-roll-Cond ℕ (lacking_step known) (layer.ChildListVersion c) ∙ sym (ap (unknown known) (texts-ChildListVersion c)))

lacking-ChildListLength : (known : List (List ℕ)) (c : Comparison) → Lacks known (cond.ChildListLength c)
unfolding Lacks unknown
lacking-ChildListLength known c = ap (lacking known) (sym (rolls-ChildListLength c)) ∙ (fold-roll-Cond ℕ (lacking_step known) (layer.ChildListLength c) ∙ sym (ap (unknown known) (texts-ChildListLength c)))

lacks_name : (known : List (List ℕ)) (r : Regex) → Lacks known (cond.NameMatches r)
unfolding Lacks
lacks_name known r = lacking-NameMatches known r ∙ (lacks_regex known r ∙ sym (ap (unknown known) (texts-NameMatches r)))

lacks_path : (known : List (List ℕ)) (r : Regex) → Lacks known (cond.PathMatches r)
unfolding Lacks
lacks_path known r = lacking-PathMatches known r ∙ (lacks_regex known r ∙ sym (ap (unknown known) (texts-PathMatches r)))

lacks_not : (known : List (List ℕ)) (c : Cond) → Lacks known c → Lacks known (cond.Not c)
unfolding Lacks
lacks_not known c h = lacking-Not known c ∙ (h ∙ sym (ap (unknown known) (texts-Not c)))

lacks_all : (known : List (List ℕ)) (cs : List Cond) → Each (Lacks known) cs → Lacks known (cond.All cs)
unfolding Lacks
lacks_all known cs each = lacking-All known cs ∙ (lacks_each known cs each ∙ sym (ap (unknown known) (texts-All cs)))

lacks_any : (known : List (List ℕ)) (cs : List Cond) → Each (Lacks known) cs → Lacks known (cond.Any cs)
unfolding Lacks
lacks_any known cs each = lacking-Any known cs ∙ (lacks_each known cs each ∙ sym (ap (unknown known) (texts-Any cs)))

lacks : (known : List (List ℕ)) (c : Cond) → Lacks known c
lacks known = by_rows (Lacks known) record {
  at_name = lacking-Name known;
  at_node_exists = lacking-NodeExists known;
  at_name_matches = lacks_name known;
  at_path_matches = lacks_path known;
  at_has_payload = lacking-HasPayload known;
  at_has_data = lacking-HasData known;
  at_has_sproc = lacking-HasSproc known;
  at_data_matches = lacking-DataMatches known;
  at_payload_version = lacking-PayloadVersion known;
  at_child_list_version = lacking-ChildListVersion known;
  at_child_list_length = lacking-ChildListLength known;
  at_not = lacks_not known;
  at_all = lacks_all known;
  at_any = lacks_any known;
}

-- what is known stays so
or_behind : (x y : Bool) → y ≡ true → (x || y) ≡ true
or_behind true y h = refl
or_behind false y h = h

or_more : (x y z : Bool) → (y ≡ true → z ≡ true) → (x || y) ≡ true → (x || z) ≡ true
or_more true y z f h = refl
or_more false y z f h = f h

known_stays : (known more : List (List ℕ)) (t : List ℕ) → is_known known t ≡ true → is_known (known ++ more) t ≡ true
known_stays [] more t h = absurd (true≢false (sym h))
known_stays (u ∷ known) more t h =
    or_more (pointwise nat_eq u t) (is_known known t) (is_known (known ++ more) t) (known_stays known more t) h

known_at_end : (known : List (List ℕ)) (t : List ℕ) → is_known (known ++ t ∷ []) t ≡ true
known_at_end [] t = rw ((bytes_eq-Decides t t).1 refl) refl
known_at_end (u ∷ known) t = or_behind (pointwise nat_eq u t) (is_known (known ++ t ∷ []) t) (known_at_end known t)

-- of the texts that were added, and those that were known, none lacks
none_unknown : (known ts : List (List ℕ)) → unknown (known ++ added known ts) ts ≡ 0
unfolding unknown
none_unknown known [] = refl
none_unknown known (t ∷ ts) = go (is_known known t) refl (none_unknown known ts) (none_unknown (known ++ t ∷ []) ts)
  where
    go : (b : Bool) → is_known known t ≡ b → unknown (known ++ added known ts) ts ≡ 0 → unknown ((known ++ t ∷ []) ++ added (known ++ t ∷ []) ts) ts ≡ 0 →
        (if is_known (known ++ (if b then added known ts else t ∷ added (known ++ t ∷ []) ts)) t then 0 else 1)
        + unknown (known ++ (if b then added known ts else t ∷ added (known ++ t ∷ []) ts)) ts ≡ 0
    go true is with_known with_new =
        let first : ◌≡◌ {A = ℕ} (if is_known (known ++ added known ts) t then 0 else 1) 0 = rw (known_stays known (added known ts) t is) refl in
        omega (arith, first, with_known)
    go false is with_known with_new =
        let all : List (List ℕ) = (known ++ t ∷ []) ++ added (known ++ t ∷ []) ts in
        let same : all ≡ known ++ (t ∷ added (known ++ t ∷ []) ts) = append_assoc known (t ∷ []) (added (known ++ t ∷ []) ts) in
        let first : ◌≡◌ {A = ℕ} (if is_known all t then 0 else 1) 0 =
        rw (known_stays (known ++ t ∷ []) (added (known ++ t ∷ []) ts) t (known_at_end known t)) refl in
        let both : ◌≡◌ {A = ℕ} ((if is_known all t then 0 else 1) + unknown all ts) 0 = omega (arith, first, with_new) in
        let P : List (List ℕ) → Type 0 = λ us. ◌≡◌ {A = ℕ} ((if is_known us t then 0 else 1) + unknown us ts) 0 in
        subst P same both

-- a condition whose texts were prepared lacks nothing
pub prepared : (known : List (List ℕ)) (c : Cond) → lacking (known ++ added known (texts_of c)) c ≡ 0
unfolding Lacks
prepared known c = lacks (known ++ added known (texts_of c)) c ∙ none_unknown known (texts_of c)
