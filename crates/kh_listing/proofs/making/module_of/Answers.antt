use Rattle.std.proofs.Common.{◌≡◌, ◌∙◌, List, Some, ap}
use Rattle.kh_listing.specs.declared.form.Form.{Form}
use Rattle.kh_listing.specs.Made.{module_name}
use Rattle.kh_listing.specs.Places.{form_at}
use Rattle.kh_listing.proofs.Drafting.{module_made}
use Rattle.kh_listing.proofs.making.module_of.Goals as goal

pub returns : goal.returns
returns c =
    let named : Some c.in_ok-name.name ≡ module_name (form_at c.args.forms.items 0) = c.in_ok-name.ensures ∙ ap (λ (f : Form). module_name f) (c.form_at.ensures ∙ ap (λ (fs : List Form). form_at fs 0) c.as_slice.ensures.value) in
    module_made c.args.forms.items c.in_ok-name.name c.in_ok-draft.draft.exports c.in_ok-functions.functions named c.in_ok-draft.ensures.exports
    (c.in_ok-functions.ensures ∙ (c.from_vec.ensures ∙ (c.reverse.ensures.items ∙ c.in_ok-draft.ensures.functions)))
