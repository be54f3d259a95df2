use Rattle.std.proofs.Common.{refl}
use Rattle.kh_listing.proofs.Drafting.{without_function, with_exports}
use Rattle.kh_listing.proofs.making.with_form.Goals as goal

pub returns-in-NoFunction : goal.returns-in-NoFunction
returns-in-NoFunction c = λ fs k. without_function c.args.module_name.now c.args.draft _ fs k c.args.form c.in-NoFunction.is refl refl c.new.ensures.items

pub returns-in-Exports : goal.returns-in-Exports
returns-in-Exports c = λ fs k. with_exports c.args.module_name.now c.args.draft _ fs k c.args.form c.in-Exports.pairs c.in-Exports.is refl refl refl
