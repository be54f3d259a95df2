-- The words with which conditions begin.
use Rattle.std.specs.Prelude.{ℕ, List, [], ◌∷◌, Option, codes, find}
use Rattle.std.specs.Str.{bytes_eq}
use Rattle.kh_cond.specs.declared.words.Word.{Word}
use Rattle.kh_cond.specs.declared.words.Word.TheVariants as word
use Rattle.kh_cond.specs.declared.words.Shape.{Shape}
use Rattle.kh_cond.specs.declared.words.Shape.TheVariants as shape
use Rattle.kh_cond.specs.declared.cond.Operator.{Operator}
use Rattle.kh_cond.specs.declared.cond.Operator.TheVariants as operator
use Rattle.kh_cond.specs.Forms.{operator_word}

-- the text of each
abbrev pub word_text : Word → List ℕ
word_text word.NodeExists = codes "if_node_exists"
word_text word.NameMatches = codes "if_name_matches"
word_text word.PathMatches = codes "if_path_matches"
word_text word.HasPayload = codes "if_has_payload"
word_text word.HasData = codes "if_has_data"
word_text word.HasSproc = codes "if_has_sproc"
word_text word.DataMatches = codes "if_data_matches"
word_text word.PayloadVersion = codes "if_payload_version"
word_text word.ChildListVersion = codes "if_child_list_version"
word_text word.ChildListLength = codes "if_child_list_length"
word_text word.Not = codes "if_not"
word_text word.All = codes "if_all"
word_text word.Any = codes "if_any"

-- what a word makes of its operand
abbrev pub shape_of : Word → Shape
shape_of word.Not = shape.Not
shape_of word.All = shape.All
shape_of word.Any = shape.Any
shape_of w = shape.Row w

abbrev pub all_words : List Word
all_words =
    word.NodeExists ∷ word.NameMatches ∷ word.PathMatches ∷ word.HasPayload ∷ word.HasData ∷ word.HasSproc ∷ word.DataMatches
    ∷ word.PayloadVersion ∷ word.ChildListVersion ∷ word.ChildListLength ∷ word.Not ∷ word.All ∷ word.Any ∷ []

-- the word of a text, where it is one
abbrev pub word_of : List ℕ → Option Word
word_of text = find (λ w. bytes_eq text (word_text w)) all_words

abbrev pub all_operators : List Operator
all_operators =
    operator.Equal ∷ operator.NotEqual ∷ operator.Less ∷ operator.AtMost ∷ operator.Greater ∷ operator.AtLeast ∷ []

-- the operator of a text, where it is one's
abbrev pub operator_of : List ℕ → Option Operator
operator_of text = find (λ op. bytes_eq text (operator_word op)) all_operators
