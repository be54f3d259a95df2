-- The size of what is answered.
use Rattle.std.proofs.Common.{◌≡◌, ℕ, suc, ◌+◌, ◌*◌, ◌/◌, ◌<◌, ◌≤◌, max, Bool, true, false, ◌&&◌, nat_le, IsTrue, List, [], ◌∷◌, length, map, sum, refl, sym, ap, ◌∙◌, pos, arith}
use Rattle.std.specs.Prelude.{Option, Some, None, if◌then◌else◌, option_map}
use Rattle.std.proofs.lemmas.Bool.{and_parts}
use Rattle.std.proofs.lemmas.Bool.Decides.{nat_tests}
use Rattle.kh_term.specs.declared.kinds.Class.{Class}
use Rattle.kh_term.specs.declared.tree.TermTree.{TermTree}
use Rattle.kh_term.specs.declared.tree.TermTree.TheVariants as tree
use Rattle.kh_term.specs.declared.tree.TermTree.TheVariants.{outs-Nil}
use Rattle.kh_term.specs.Lemmas.Fits.{sum-cons}
use Rattle.kh_term.specs.Limits.{is_small, most_size, most_depth}
use Rattle.kh_term.specs.Make.{list_of}
use Rattle.kh_term.specs.declared.limits.TheConstants.{MOST_NAME_BYTES}
use Rattle.kh_term.specs.Text.{is_atom_text}
use Rattle.std.specs.Str.{is_utf8}
use Rattle.kh_term.specs.Size.{size_of, depth_of, sizes_of, greatest, is_nil}
use Rattle.kh_term.proofs.Layers.{size-Int, size-Bin, size-Nil, size-List, depth-Int, depth-Bin, depth-Nil, depth-List}
use Rattle.kh_bif_base.specs.Answer.{Answer, Value, Raise, badarg, system_limit, limited}
use Rattle.kh_bif_base.proofs.Answering.{small}
use Rattle.kh_bif_data.specs.Answer.{size_answered}
use Rattle.kh_bif_data.specs.Asked.{of_some}
use Rattle.kh_bif_data.specs.Binaries.{byte_tree}
use Rattle.kh_bif_data.specs.Iolists.{iolist, iolist_bytes, iolist_to_binary}

-- ---- limits

pub raised_size : (c : Class) (t : TermTree) → size_answered (limited (Raise c t)) ≡ 0
raised_size c t = go (is_small t)
  where
    go : (b : Bool) → size_answered (if b then Raise c t else system_limit) ≡ 0
    go true = refl
    go false = refl

pub small_size : (t : TermTree) → is_small t ≡ true → size_answered (limited (Value t)) ≡ size_of t
small_size t e = ap (λ (b : Bool). size_answered (if b then Value t else system_limit)) e

large_size : (t : TermTree) → is_small t ≡ false → size_answered (limited (Value t)) ≡ 0
large_size t e = ap (λ (b : Bool). size_answered (if b then Value t else system_limit)) e

-- a size, where it is within the limit, else 0
abbrev pub within : ℕ → ℕ
within n = if nat_le n most_size then n else 0

pub within_size : (t : TermTree) (n : ℕ) → size_of t ≡ n → depth_of t ≤ most_depth → size_answered (limited (Value t)) ≡ within n
within_size t n s d = go (nat_le n most_size) refl
  where
    go : (b : Bool) → nat_le n most_size ≡ b → size_answered (limited (Value t)) ≡ (if b then n else 0)
    go true e = small_size t (small t (grind (arith, nat_tests, e, s)) d) ∙ s
    go false e = large_size t (not_small (is_small t) refl)
      where
        not_small : (c : Bool) → is_small t ≡ c → is_small t ≡ false
        not_small false f = f
        not_small true f = absurd (grind (arith, nat_tests, e, f, s))

-- ---- binaries

-- the text of an atom is short
pub text_few : (text : List ℕ) → IsTrue (is_atom_text text) → length text ≤ 255
text_few text h = grind (arith, nat_tests, (and_parts (nat_le (length text) MOST_NAME_BYTES) (is_utf8 text) h).0)

pub bin_small : (bytes : List ℕ) → 1 + (length bytes + 7) / 8 ≤ most_size → is_small (tree.Bin bytes) ≡ true
bin_small bytes l = small (tree.Bin bytes) (omega (arith, l, size-Bin bytes)) (omega (arith, depth-Bin bytes))

pub bin_size : (bytes : List ℕ) → 1 + (length bytes + 7) / 8 ≤ most_size → size_answered (limited (Value (tree.Bin bytes))) ≡ 1 + (length bytes + 7) / 8
bin_size bytes l = small_size (tree.Bin bytes) (bin_small bytes l) ∙ size-Bin bytes

pub bin_within : (bytes : List ℕ) (n : ℕ) → length bytes ≡ n → size_answered (limited (Value (tree.Bin bytes))) ≡ within (1 + (n + 7) / 8)
bin_within bytes n e = within_size (tree.Bin bytes) (1 + (n + 7) / 8) (size-Bin bytes ∙ ap (λ k. 1 + (k + 7) / 8) e) (omega (arith, depth-Bin bytes))

-- ---- lists of bytes

bytes_sizes : (bytes : List ℕ) → sizes_of (map byte_tree bytes) ≡ length bytes
bytes_sizes [] = refl
bytes_sizes (b ∷ bytes) = omega (arith, sum-cons (size_of (byte_tree b)) (map size_of (map byte_tree bytes)), bytes_sizes bytes, size-Int (pos b))

bytes_low : (bytes : List ℕ) → greatest (map depth_of (map byte_tree bytes)) ≡ 0
bytes_low [] = refl
bytes_low (b ∷ bytes) = omega (arith, bytes_low bytes, depth-Int (pos b))

count_bytes : (bytes : List ℕ) → length (map byte_tree bytes) ≡ length bytes
count_bytes [] = refl
count_bytes (b ∷ bytes) = omega (arith, count_bytes bytes)

pub bytes_size : (bytes : List ℕ) → size_of (list_of (map byte_tree bytes)) ≡ 2 * length bytes + 1
bytes_size [] = size-Nil
bytes_size (b ∷ bytes) =
    omega (arith, size-List (map byte_tree (b ∷ bytes)) tree.Nil, bytes_sizes (b ∷ bytes), count_bytes (b ∷ bytes), size-Nil)

pub bytes_depth : (bytes : List ℕ) → depth_of (list_of (map byte_tree bytes)) ≤ most_depth
bytes_depth [] = omega (arith, depth-Nil)
bytes_depth (b ∷ bytes) =
    omega (arith, depth-List (map byte_tree (b ∷ bytes)) tree.Nil, bytes_low (b ∷ bytes), ap (λ l. if is_nil l then 0 else depth_of tree.Nil) outs-Nil)

pub list_small : (bytes : List ℕ) → 2 * length bytes + 1 ≤ most_size → is_small (list_of (map byte_tree bytes)) ≡ true
list_small bytes l = small (list_of (map byte_tree bytes)) (omega (arith, l, bytes_size bytes)) (bytes_depth bytes)

pub past_size : (t : TermTree) → most_size < size_of t → is_small t ≡ false
past_size t l = go (is_small t) refl
  where
    go : (c : Bool) → is_small t ≡ c → is_small t ≡ false
    go false f = f
    go true f = absurd (grind (arith, nat_tests, l, f))

pub list_large : (bytes : List ℕ) → most_size < 2 * length bytes + 1 → is_small (list_of (map byte_tree bytes)) ≡ false
list_large bytes l = past_size (list_of (map byte_tree bytes)) (omega (arith, l, bytes_size bytes))

pub bin_large : (bytes : List ℕ) → most_size < 1 + (length bytes + 7) / 8 → is_small (tree.Bin bytes) ≡ false
bin_large bytes l = past_size (tree.Bin bytes) (omega (arith, l, size-Bin bytes))

pub list_within : (bytes : List ℕ) (n : ℕ) → length bytes ≡ n → size_answered (limited (Value (list_of (map byte_tree bytes)))) ≡ within (2 * n + 1)
list_within bytes n e = within_size (list_of (map byte_tree bytes)) (2 * n + 1) (bytes_size bytes ∙ ap (λ k. 2 * k + 1) e) (bytes_depth bytes)

-- ---- what a list of bytes costs

abbrev pub made : Option (List ℕ) → Answer
made o = of_some o badarg (λ bytes. Value (tree.Bin bytes))

-- the bytes of which there are so many
pub some_bytes : (o : Option (List ℕ)) (n : ℕ) → Some n ≡ option_map (λ bytes. length bytes) o → (bytes : List ℕ) × (o ≡ Some bytes) × (length bytes ≡ n)
some_bytes (Some bytes) n e = (bytes, refl, cc)
some_bytes None n e = absurd (cc)

no_bytes : (o : Option (List ℕ)) → None ≡ option_map (λ bytes. length bytes) o → o ≡ None
no_bytes (Some bytes) e = absurd (cc)
no_bytes None e = refl

pub bytes_answer : (t : TermTree) (bytes : List ℕ) → iolist t ≡ Some bytes → Value (tree.Bin bytes) ≡ iolist_to_binary t
bytes_answer t bytes e = sym (ap made e)

pub bytes_given : (t : TermTree) (bytes : List ℕ) → iolist t ≡ Some bytes → iolist_bytes t ≡ bytes
bytes_given t bytes e = ap (λ o. of_some o [] (λ bs. bs)) e

pub given_bytes : (t : TermTree) (bytes : List ℕ) → iolist t ≡ Some bytes → iolist t ≡ Some (iolist_bytes t)
given_bytes t bytes e = e ∙ ap (λ bs. Some bs) (sym (bytes_given t bytes e))

pub no_bytes_answer : (t : TermTree) → None ≡ option_map (λ bytes. length bytes) (iolist t) → badarg ≡ iolist_to_binary t
no_bytes_answer t e = sym (ap made (no_bytes (iolist t) e))

pub iolist_cost : (t : TermTree) (bytes : List ℕ) → iolist t ≡ Some bytes → 1 + (length bytes + 7) / 8 ≤ most_size → size_answered (limited (iolist_to_binary t)) ≡ 1 + (length bytes + 7) / 8
iolist_cost t bytes e l = ap (λ o. size_answered (limited (made o))) e ∙ bin_size bytes l

pub some_within : (o : Option (List ℕ)) (n : ℕ) → Some n ≡ option_map (λ bytes. length bytes) o → size_answered (limited (made o)) ≡ within (1 + (n + 7) / 8)
some_within (Some bytes) n e =
    let same : length bytes ≡ n = cc in
    bin_within bytes n same
some_within None n e = absurd (cc)

pub none_within : (o : Option (List ℕ)) → None ≡ option_map (λ bytes. length bytes) o → size_answered (limited (made o)) ≡ 0
none_within (Some bytes) e = absurd (cc)
none_within None e = raised_size _ _
