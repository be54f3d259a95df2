use Rattle.kh_listing.proofs.Keys.{name_known, name_added, unnamed, no_name}
use Rattle.kh_listing.specs.Sets.{has_name}
use Rattle.kh_listing.proofs.names.add_name.Goals as goal

pub returns-in_ok-is_new-in-Function : goal.returns-in_ok-is_new-in-Function
returns-in_ok-is_new-in-Function c = record {
  known = name_known c.args.names.now c.in_ok-name-in-Function.name c.in-Function.header c.args.form.now c.in_ok-is_new-in-Function.is_new c.in-Function.is c.in_ok-name-in-Function.ensures c.in_ok-is_new-in-Function.ensures.added;
  after = name_added c.args.names.now c.insert.new.self c.in_ok-name-in-Function.name c.in-Function.header c.args.form.now c.in-Function.is c.in_ok-name-in-Function.ensures c.in_ok-is_new-in-Function.ensures.updates;
}

pub returns-in_default : goal.returns-in_default
returns-in_default c = record {
  known = unnamed (has_name c.args.names.now) c.args.form.now c.in_default.not-Function;
  after = λ name arity. no_name (has_name c.args.names.now name arity) name arity c.args.form.now c.in_default.not-Function;
}
