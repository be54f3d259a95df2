use Rattle.std.proofs.Common.{◌≡◌, ◌+◌, ◌<◌, ◌≤◌, ◌&&◌, false, [], length, drop, get_or, refl, ap, ◌∙◌, arith}
use Rattle.std.proofs.lemmas.List.{get_or_default}
use Rattle.kh_cond.specs.Holds.{is_found}
use Rattle.kh_term.specs.Name.{name_text}
use Rattle.kh_walk.specs.Takes.{joined}
use Rattle.kh_walk.proofs.Judged.{found_nowhere, found_so, none_more}
use Rattle.kh_walk.proofs.Names.{next_behind}
use Rattle.kh_walk.proofs.judging.found_behind.Goals as goal

pub loop-at-init : goal.loop-at-init
loop-at-init g c = record {
  rest = c.requires.text;
  none = λ f h. absurd (omega (arith, h));
  texts = refl;
  refusals = refl;
  refused = refl;
}

pub loop-at-preserved : goal.loop-at-preserved
loop-at-preserved g c =
    let search = g.P.Patterns.search in
    let path = c.args.place.now.path.now in
    let rows = c.args.place.now.rows.now in
    let at = c.loop-at.at in
    let name = c.index-names-at.result in
    let inside : at < length rows = omega (arith, c.loop-at-test.true) in
    let fits : at < length path = omega (arith, inside, c.requires.long) in
    let name_is : name ≡ get_or path at name = c.index-names-at.is ∙ ap (λ ns. get_or ns at name) c.names-names.ensures.names in
    let row_is : get_or rows at c.index-place-at.result ≡ get_or rows at [] = get_or_default rows at c.index-place-at.result [] inside in
    let held : c.in_ok-found_at.field-0 ≡ (get_or (get_or rows at []) c.args.i false && is_found search c.args.regex.now (joined (drop at path))) =
    c.in_ok-found_at.ensures.found ∙ (λ t. get_or (row_is t) c.args.i false && is_found search c.args.regex.now (c.loop-at.invariant.rest t)) in
    let next : drop (length (name_text name) + 1) c.loop-at.rest.now ≡ joined (drop (at + 1) path) =
    ap (drop (length (name_text name) + 1)) c.loop-at.invariant.rest ∙ next_behind path at name fits name_is in
    record {
      rest = cc (c.behind_name-rest.ensures, next);
      none = none_more search rows path c.args.i c.args.regex.now at c.in_ok-found_at.field-0 held c.if-branch.false c.loop-at.invariant.none;
      texts = c.in_ok-found_at.ensures.engine.0 ∙ c.loop-at.invariant.texts;
      refusals = c.in_ok-found_at.ensures.engine.1 ∙ c.loop-at.invariant.refusals;
      refused = c.in_ok-found_at.ensures.engine.2 ∙ c.loop-at.invariant.refused;
    }

pub returns-then-branch-clause-found : goal.returns-then-branch-clause-found
returns-then-branch-clause-found g c =
    let search = g.P.Patterns.search in
    let path = c.args.place.now.path.now in
    let rows = c.args.place.now.rows.now in
    let at = c.loop-at.at in
    let inside : at < length rows = omega (arith, c.loop-at-test.true) in
    let row_is : get_or rows at c.index-place-at.result ≡ get_or rows at [] = get_or_default rows at c.index-place-at.result [] inside in
    let held : c.in_ok-found_at.field-0 ≡ (get_or (get_or rows at []) c.args.i false && is_found search c.args.regex.now (joined (drop at path))) =
    c.in_ok-found_at.ensures.found ∙ (λ t. get_or (row_is t) c.args.i false && is_found search c.args.regex.now (c.loop-at.invariant.rest t)) in
    found_so search rows path c.args.i c.args.regex.now at c.in_ok-found_at.field-0 held c.if-branch.true (omega (arith, inside, c.requires.long))

pub returns-clause-found : goal.returns-clause-found
returns-clause-found g c =
    let path = c.args.place.now.path.now in
    let long : length path ≤ c.loop-at.at = omega (arith, c.requires.long, c.loop-at-test.false) in
    found_nowhere g.P.Patterns.search c.args.place.now.rows.now path c.args.i c.args.regex.now c.loop-at.at long c.loop-at.invariant.none
