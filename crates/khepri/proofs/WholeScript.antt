-- A plain session of a whole script in memory.
use Rattle.std.proofs.Common.{◌≡◌, ◌≢◌, ℕ, true, List, [], ◌∷◌, ◌++◌, length, drop, Ok, Err, refl, sym, ap, subst, ◌∙◌, append_assoc, arith}
use Rattle.std.proofs.lemmas.List.{append-nil, drop_all}
use Rattle.kh_text_defs.specs.Shown.{shown_line}
use Rattle.kh_read.specs.declared.form.Form.{Form}
use Rattle.kh_read.specs.Reading.{Cut, Fault}
use Rattle.kh_store.specs.Tree.{Node, root}
use Rattle.kh_store.specs.Machine.{reply_to, after}
use Rattle.khepri.specs.Script.{Ending, AtEnd, AtFault, line_at, Script, ends, faulty, cut, Reads}
use Rattle.khepri.specs.Plain.{tree_after, tree_text, TextAndStatus}
use Rattle.khepri.proofs.Scripts.{reads_starts, reads_on}

-- the lines so far were answered
pub record PlainSoFar (script left : List ℕ) (tree : List Node) (text : List ℕ) : Type 0 where
  pub forms : List Form
  pub reads : Reads true script left forms
  pub replies : text ≡ tree_text forms root
  pub nodes : tree ≡ tree_after forms root

pub plain_starts : (script : List ℕ) → PlainSoFar script script root []
plain_starts script = record { forms = []; reads = reads_starts true script; replies = refl; nodes = refl }

tree_after-append : (forms others : List Form) (nodes : List Node) → tree_after (forms ++ others) nodes ≡ tree_after others (tree_after forms nodes)
tree_after-append [] others nodes = refl
tree_after-append (form ∷ forms) others nodes = tree_after-append forms others (after form nodes)

tree_text-append : (forms others : List Form) (nodes : List Node) → tree_text (forms ++ others) nodes ≡ tree_text forms nodes ++ tree_text others (tree_after forms nodes)
tree_text-append [] others nodes = refl
tree_text-append (form ∷ forms) others nodes =
    ap (λ (t : List ℕ). shown_line (reply_to form nodes) ++ t) (tree_text-append forms others (after form nodes))
    ∙ sym (append_assoc (shown_line (reply_to form nodes)) (tree_text forms (after form nodes)) (tree_text others (tree_after forms (after form nodes))))

-- one line more
pub plain_on : (script left : List ℕ) (tree : List Node) (text : List ℕ) (form : Form) (rest : List ℕ) → PlainSoFar script left tree text
    → line_at true left ≡ Ok (form, rest) → PlainSoFar script rest (after form tree) (text ++ shown_line (reply_to form tree))
plain_on script left tree text form rest so_far is = record {
  forms = so_far.forms ++ form ∷ [];
  reads = reads_on true script left so_far.forms form rest so_far.reads is;
  replies = ap (λ (t : List ℕ). t ++ shown_line (reply_to form tree)) so_far.replies
      ∙ ap (λ (nodes : List Node). tree_text so_far.forms root ++ shown_line (reply_to form nodes)) so_far.nodes
      ∙ sym (ap (λ (t : List ℕ). tree_text so_far.forms root ++ t) (append-nil (shown_line (reply_to form (tree_after so_far.forms root)))))
      ∙ sym (tree_text-append so_far.forms (form ∷ []) root);
  nodes = ap (after form) so_far.nodes ∙ sym (tree_after-append so_far.forms (form ∷ []) root);
}

ends_as : (script left : List ℕ) (forms : List Form) → Reads true script left forms → (ending : Ending) → Script true left [] ending → Script true script forms ending
ends_as script left forms reads ending last =
    let here : Script true (left ++ []) [] ending = subst (λ (b : List ℕ). Script true b [] ending) (sym (append-nil left)) last in
    subst (λ (b : List ℕ). Script true b forms ending) (append-nil script)
    (subst (λ (fs : List Form). Script true (script ++ []) fs ending) (append-nil forms) (reads.goes_on true [] [] ending (refl, refl) here))

pub at_end : (script : List ℕ) (at : ℕ) (tree : List Node) (text : List ℕ) → PlainSoFar script (drop at script) tree text → at ≡ length script
    → TextAndStatus script text 0
at_end script at tree text so_far is =
    let none : drop at script ≡ [] = drop_all at script (omega arith) in
    record {
      forms = so_far.forms;
      ending = AtEnd;
      reads = ends_as script (drop at script) so_far.forms so_far.reads AtEnd (rw none ends);
      replies = so_far.replies;
      how = refl;
    }

pub at_fault : (script left : List ℕ) (tree : List Node) (text : List ℕ) → PlainSoFar script left tree text → line_at true left ≡ Err Fault
    → TextAndStatus script text 2
at_fault script left tree text so_far is = record {
  forms = so_far.forms;
  ending = AtFault;
  reads = ends_as script left so_far.forms so_far.reads AtFault (faulty left is);
  replies = so_far.replies;
  how = refl;
}

pub at_cut : (script left : List ℕ) (tree : List Node) (text : List ℕ) → PlainSoFar script left tree text → left ≢ [] → line_at true left ≡ Err Cut
    → TextAndStatus script text 2
at_cut script left tree text so_far some is = record {
  forms = so_far.forms;
  ending = AtFault;
  reads = ends_as script left so_far.forms so_far.reads AtFault (cut left some is);
  replies = so_far.replies;
  how = refl;
}
