-- What is made of forms from the last one on.
use Rattle.std.specs.Prelude.{◌≡◌, ℕ, List, ◌++◌, reverse}
use Rattle.kh_listing.specs.declared.draft.Draft.{Draft}
use Rattle.kh_listing.specs.declared.form.Form.{Form}
use Rattle.kh_listing.specs.Made.{code_of, functions_of, exports_of}

pub record IsDraft (module_name : List ℕ) (d : Draft) (fs : List Form) : Type 0 where
  pub functions : reverse d.functions.items ≡ functions_of module_name fs
  pub exports : d.exports ≡ exports_of fs
  pub code : reverse d.code.items ≡ code_of fs

-- a draft of what stands behind a front of some forms
pub record Drafted (module_name : List ℕ) (d : Draft) (front all : List Form) : Type 0 where
  pub behind : List Form
  pub parts : all ≡ front ++ behind
  pub drafted : IsDraft module_name d behind
