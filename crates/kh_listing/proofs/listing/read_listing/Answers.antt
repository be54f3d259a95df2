use Rattle.std.proofs.Common.{◌≡◌, ◌≤◌, ◌∙◌, ℕ, List, length, sym, subst, ap}
use Rattle.std.proofs.lemmas.List.{length-map}
use Rattle.kh_term.specs.declared.tree.TermTree.{TermTree}
use Rattle.kh_instr.specs.declared.module.Module.{Module}
use Rattle.kh_instr.specs.Written.{IsWritten, HasSmallLiterals}
use Rattle.kh_listing.specs.declared.form.Form.{Form}
use Rattle.kh_listing.specs.Faults.{is_at_fault}
use Rattle.kh_listing.specs.Forms.{form_of, forms_of}
use Rattle.kh_listing.specs.Made.{module_of, name_of, code_len}
use Rattle.kh_listing.specs.Outcome.{IsFirst, IsFaultless}
use Rattle.kh_listing.proofs.Outcomes.{faultless}
use Rattle.kh_listing.proofs.SmallModule.{small_literals}
use Rattle.kh_listing.proofs.Written.{few, written}
use Rattle.kh_listing.proofs.listing.read_listing.Goals as goal

pub returns-in_ok-module_of-in-None-clause-written : goal.returns-in_ok-module_of-in-None-clause-written
returns-in_ok-module_of-in-None-clause-written c =
    let found : IsFirst (is_at_fault c.in_ok-read.read.items) (length c.in_ok-read.read.items) c.in_ok-fault.fault = subst (λ (fs : List Form). IsFirst (is_at_fault fs) (length fs) c.in_ok-fault.fault) c.as_slice-2.ensures.value c.in_ok-fault.ensures in
    let none : IsFaultless c.in_ok-read.read.items = faultless c.in_ok-read.read.items c.in_ok-fault.fault found c.in-None.is in
    subst (λ (m : Module). IsWritten m) (sym c.in_ok-module_of-in-None.ensures) (written c.in_ok-read.read.items none)

pub returns-in_ok-module_of-in-None-clause-small : goal.returns-in_ok-module_of-in-None-clause-small
returns-in_ok-module_of-in-None-clause-small c =
    let read : c.in_ok-read.read.items ≡ forms_of c.args.forms.now.nodes = c.in_ok-read.ensures ∙ ap (λ (ts : List TermTree). forms_of ts) c.as_slice.ensures.terms in
    let made : c.in_ok-module_of-in-None.field-0 ≡ module_of (forms_of c.args.forms.now.nodes) = c.in_ok-module_of-in-None.ensures ∙ ap (λ (fs : List Form). module_of fs) read in
    λ s. subst (λ (m : Module). HasSmallLiterals m) (sym made) (small_literals c.args.forms.now.nodes c.as_slice.ensures.fit s)

pub returns-in_ok-module_of-in-None-clause-kept : goal.returns-in_ok-module_of-in-None-clause-kept
returns-in_ok-module_of-in-None-clause-kept c =
    let read : c.in_ok-read.read.items ≡ forms_of c.args.forms.now.nodes = c.in_ok-read.ensures ∙ ap (λ (ts : List TermTree). forms_of ts) c.as_slice.ensures.terms in
    let made : c.in_ok-module_of-in-None.field-0 ≡ module_of (forms_of c.args.forms.now.nodes) = c.in_ok-module_of-in-None.ensures ∙ ap (λ (fs : List Form). module_of fs) read in
    let len : length (forms_of c.args.forms.now.nodes) ≡ length c.args.forms.now.nodes = length-map c.args.forms.now.nodes form_of in
    subst (λ (n : ℕ). code_len c.in_ok-module_of-in-None.field-0.functions ≤ n) len
    (subst (λ (m : Module). code_len m.functions ≤ length (forms_of c.args.forms.now.nodes)) (sym made) (few (name_of (forms_of c.args.forms.now.nodes)) (forms_of c.args.forms.now.nodes)))
