-- The bytes of four files, with room for more.
use Rattle.std.specs.Prelude.{ℕ, zero, suc, List}
use Rattle.kh_io.specs.declared.files.Files.{Files}

pub record Held : Type 0 where
  pub files : Files
  -- how many bytes more each has memory for
  pub free : ℕ

-- the files with these bytes in the one of this number
abbrev pub with_file : Files → ℕ → List ℕ → Files
with_file files zero bytes = record files { s0 = bytes }
with_file files (suc zero) bytes = record files { l0 = bytes }
with_file files (suc (suc zero)) bytes = record files { s1 = bytes }
with_file files (suc (suc (suc _))) bytes = record files { l1 = bytes }
