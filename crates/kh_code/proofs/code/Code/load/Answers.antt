use Rattle.std.proofs.Common.{◌≡◌, ◌∙◌, ap, sym, subst, not, true, false}
use Rattle.std.specs.Map.{lookup}
use Rattle.std.specs.Str.{bytes_eq}
use Rattle.indexmap.specs.IndexMap.{insert_entry}
use Rattle.kh_code.specs.Loading.{loaded_over, with_module}
use Rattle.kh_code.specs.Totals.{are_within, code_totals}
use Rattle.kh_code.proofs.Finds.{named}
use Rattle.kh_code.proofs.Within.{counted_loaded, kept_loaded, loaded_fits, whole_loaded}
use Rattle.kh_code.proofs.code.Code.load.Goals as goal

pub returns-then-not-are_within-clause-too_much : goal.returns-then-not-are_within-clause-too_much
returns-then-not-are_within-clause-too_much c =
    let total = c.totals_with-totals.result in
    let counted = counted_loaded c.args.self.now c.args.«module» total c.of-own.result c.totals_with-totals.ensures.code c.of-own.ensures c.totals_with-totals.ensures.totals in
    ap not (loaded_fits c.args.self.now c.args.«module» total false counted (sym c.are_within.ensures ∙ c.if-not-are_within.true))

pub invariant_of-self-2 : goal.invariant_of-self-2
invariant_of-self-2 c =
    let total = c.totals_with-totals.result in
    let counted = counted_loaded c.args.self.now c.args.«module» total c.of-own.result c.totals_with-totals.ensures.code c.of-own.ensures c.totals_with-totals.ensures.totals in
    let made = c.in_ok-old.ensures.entries ∙ (λ j. insert_entry bytes_eq c.self.inside.modules.entries (c.in_ok-name.ensures j) (c.in_ok-module.ensures j)) in
    kept_loaded c.self.inside.modules.entries c.insert.new.self.entries c.self.inside.totals total c.args.«module» c.args.self.now c.self.view_is c.self.invariant
    c.requires.written c.requires.small made c.in_ok-old.ensures.unique counted
    (loaded_fits c.args.self.now c.args.«module» total true counted (sym c.are_within.ensures ∙ c.if-not-are_within.false))

pub returns-clause-ok : goal.returns-clause-ok
returns-clause-ok c =
    let made = c.in_ok-old.ensures.entries ∙ (λ j. insert_entry bytes_eq c.self.inside.modules.entries (c.in_ok-name.ensures j) (c.in_ok-module.ensures j)) in
    whole_loaded c.self.inside.modules.entries c.insert.new.self.entries c.self.inside.totals c.args.«module» c.args.self.now c.self.view_is c.self.invariant made

pub returns-clause-how : goal.returns-clause-how
returns-clause-how c =
    c.loaded_over.ensures ∙ ap loaded_over (sym (named c.self.inside.modules.entries c.self.inside.totals c.self.invariant c.args.self.now c.self.view_is c.args.«module».name c.in_ok-old.old
    (sym (c.in_ok-old.ensures.old ∙ ap (λ n. lookup (bytes_eq n) c.self.inside.modules.entries) c.in_ok-name.ensures))))

pub returns-clause-fits : goal.returns-clause-fits
returns-clause-fits c =
    let total = c.totals_with-totals.result in
    let counted = counted_loaded c.args.self.now c.args.«module» total c.of-own.result c.totals_with-totals.ensures.code c.of-own.ensures c.totals_with-totals.ensures.totals in
    loaded_fits c.args.self.now c.args.«module» total true counted (sym c.are_within.ensures ∙ c.if-not-are_within.false)
