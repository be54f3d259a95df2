use Rattle.std.proofs.Common.{◌≡◌, map, take}
use Rattle.kh_listing.specs.Forms.{form_of}
use Rattle.kh_listing.proofs.reading.forms_of.Given as goal

abbrev pub invariant-loop-tree : goal.invariant-loop-tree
invariant-loop-tree l = l.forms.items ≡ map form_of (take l.tree-index l.trees)
