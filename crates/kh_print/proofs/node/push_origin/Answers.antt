use Rattle.std.proofs.Common.{◌++◌, codes, decimal, refl}
use Rattle.kh_text_defs.specs.Shown.{shown_atom}
use Rattle.kh_print.specs.Parts.{shown_origin}
use Rattle.kh_term.proofs.InTurn.{joined, closed}
use Rattle.kh_print.proofs.Joined.{read_as}
use Rattle.kh_print.proofs.node.push_origin.Goals as goal

pub returns : goal.returns
returns c =
    let start = c.args.out.now.items in
    let one = c.push_atom.new.out.items in
    let two = c.push_byte.new.out.items in
    let three = c.push_atom-2.new.out.items in
    let four = c.push_byte-2.new.out.items in
    let five = c.push_decimal.new.out.items in
    let comma = codes "," in
    let home = shown_atom c.args.origin.now.module in
    let name = shown_atom c.args.origin.now.name in
    let arity = decimal c.args.origin.now.arity in
    let first = read_as shown_atom start one _ c.args.origin.now.module c.as_slice.ensures.text c.in_ok-push_atom.ensures in
    let second = read_as shown_atom two three _ c.args.origin.now.name c.as_slice-2.ensures.text c.in_ok-push_atom-2.ensures in
    let to_two = joined start one two home comma first c.in_ok-push_byte.ensures in
    let to_three = joined start two three (home ++ comma) name to_two second in
    let to_four = joined start three four (home ++ comma ++ name) comma to_three c.in_ok-push_byte-2.ensures in
    let to_five = joined start four five (home ++ comma ++ name ++ comma) arity to_four c.in_ok-push_decimal.ensures in
    closed c.push_byte-3.result start five c.push_byte-3.new.out.items (home ++ comma ++ name ++ comma ++ arity) comma (shown_origin c.args.origin.now)
    refl to_five c.push_byte-3.ensures
