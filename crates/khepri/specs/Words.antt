-- The words that the program is called with.
use Rattle.std.specs.Prelude.{Bool, false, List, [], ◌∷◌, codes, String, string_bytes}
use Rattle.std.specs.Global.{Global}
use Rattle.std.specs.Str.{bytes_eq}

-- the one word `run`
abbrev pub are_right : List (String Global) → Bool
are_right [] = false
are_right (word ∷ []) = bytes_eq (string_bytes word) (codes "run")
are_right (word ∷ second ∷ words) = false
