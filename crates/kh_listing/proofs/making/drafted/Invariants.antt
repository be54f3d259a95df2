use Rattle.std.proofs.Common.{vec_len}
use Rattle.kh_listing.specs.Drafts.{Drafted}
use Rattle.kh_listing.proofs.making.drafted.Given as goal

abbrev pub invariant-loop-form : goal.invariant-loop-form
invariant-loop-form l = Drafted l.fn.module_name l.draft l.forms.items l.initial.forms.items

abbrev pub decreases-loop-form : goal.decreases-loop-form
decreases-loop-form l = vec_len l.forms
