use Rattle.std.proofs.Common.{◌≡◌, ℤ, false, SFits, List, Option, rules, sym, ap, ◌∙◌}
use Rattle.std.specs.Prelude.{is_some, unwrap_or}
use Rattle.std.proofs.lemmas.Int.{to_z-of_z}
use Rattle.std.specs.Int.{w128}
use Rattle.kh_read.specs.declared.form.Form.TheVariants as form
use Rattle.kh_store.specs.Tree.{Node}
use Rattle.kh_store.specs.Machine.{is_logged}
use Rattle.kh_store.proofs.Replaying.{unlogged, recorded, if_some_by, if_none_by}
use Rattle.kh_store.proofs.replay.apply_record.Goals as goal

pub returns-clause-applied : goal.returns-clause-applied
returns-clause-applied c =
    let put = rw c.in-Some.is at c.in_ok-path.ensures.found in
    let fits : SFits w128 c.in-Some.number = search rules in
    if_some_by c.in_ok-applied.applied.tree (λ new is.
    recorded c.args.bytes.now c.in-Some.path c.in-Some.number _ c.args.tree.now new c.args.span (to_z-of_z _ _ fits) put
    (sym c.has_room.ensures ∙ c.if-not-has_room.false) (sym c.in_ok-applied.ensures.logged ∙ ap is_some is)
    (ap (λ (o : Option (List Node)). unwrap_or o c.args.tree.now) (sym is) ∙ c.in_ok-applied.ensures.after))

pub returns-clause-refused : goal.returns-clause-refused
returns-clause-refused c =
    let put = rw c.in-Some.is at c.in_ok-path.ensures.found in
    let fits : SFits w128 c.in-Some.number = search rules in
    if_none_by c.in_ok-applied.applied.tree (λ none.
    let not_logged : is_logged (form.Put c.in-Some.path c.in-Some.number) c.args.tree.now ≡ false =
    ap (λ (z : ℤ). is_logged (form.Put c.in-Some.path z) c.args.tree.now) (sym (to_z-of_z _ _ fits)) ∙ sym c.in_ok-applied.ensures.logged ∙ none in
    unlogged c.args.bytes.now c.in-Some.path c.in-Some.number c.args.tree.now c.args.span put not_logged)
