-- Where bytes are cut short, others behind them make them whole.
use Rattle.std.proofs.Common.{◌≡◌, ℕ, Bool, true, false, cond, eqb, List, [], ◌∷◌, ◌++◌, Ok, Err, refl, ap, ◌∙◌, append_assoc}
use Rattle.std.specs.Prelude.{Result}
use Rattle.std.proofs.lemmas.Bool.{eq-eqb}
use Rattle.kh_text_defs.specs.Atoms.{is_word_byte}
use Rattle.kh_read.specs.Reading.{◌>>=◌, Read, Stop, Cut, Fault, literal_at, extended, Grows}

-- With more bytes behind these a value is read, whatever comes then, as long as it doesn't begin with a word byte.
pub record IsWhole {A : Type 0} (read : List ℕ → Read A) (bytes : List ℕ) : Type 0 where
  pub more : List ℕ
  pub value : A
  pub reads : (end : ℕ) (rest : List ℕ) → is_word_byte end ≡ false → read (bytes ++ (more ++ end ∷ rest)) ≡ Ok (value, end ∷ rest)

-- what is cut short can be made whole
abbrev pub Mends : {A : Type 0} → (List ℕ → Read A) → Type 0
Mends read = (bytes : List ℕ) → read bytes ≡ Err Cut → IsWhole read bytes

-- something is read, and it can begin with a byte that is no word byte
pub record Opens {A : Type 0} (read : List ℕ → Read A) : Type 0 where
  pub byte : ℕ
  pub other : is_word_byte byte ≡ false
  pub whole : IsWhole read (byte ∷ [])

pub value_mends : {A : Type 0} (x : A) → Mends (λ bytes. Ok (x, bytes))
value_mends x bytes cut = absurd cc

pub value_ready : {A : Type 0} (x : A) → IsWhole (λ bytes. Ok (x, bytes)) []
value_ready x = record { more = []; value = x; reads = λ end rest other. refl }

same_byte : (byte : ℕ) → eqb byte byte ≡ true
same_byte byte = eq-eqb byte byte refl

-- a literal is read off its own bytes
literal_again : (wanted rest : List ℕ) → literal_at wanted (wanted ++ rest) ≡ Ok rest
literal_again [] rest = refl
literal_again (w ∷ wanted) rest = rw (same_byte w) (literal_again wanted rest)

-- a literal and what is behind it
literal_ready : {B : Type 0} (wanted : List ℕ) (k : List ℕ → Read B) → IsWhole k [] → IsWhole (λ bytes. literal_at wanted bytes >>= k) []
literal_ready wanted k next = record {
  more = wanted ++ next.more;
  value = next.value;
  reads = λ end rest other. ap (λ (t : List ℕ). literal_at wanted t >>= k) (append_assoc wanted next.more (end ∷ rest))
      ∙ ap (λ (r : Result (List ℕ) Stop). r >>= k) (literal_again wanted (next.more ++ end ∷ rest)) ∙ next.reads end rest other;
}

literal_more : {B : Type 0} (w byte : ℕ) (wanted bytes : List ℕ) (k : List ℕ → Read B) (test : Bool) → eqb byte w ≡ test
    → ((literal_at wanted bytes >>= k) ≡ Err Cut → IsWhole (λ b. literal_at wanted b >>= k) bytes)
    → ((cond test (literal_at wanted bytes) (Err Fault)) >>= k) ≡ Err Cut → IsWhole (λ b. literal_at (w ∷ wanted) b >>= k) (byte ∷ bytes)
literal_more w byte wanted bytes k true same next cut =
    let whole = next cut in
    record { more = whole.more; value = whole.value; reads = λ end rest other. rw same (whole.reads end rest other) }
literal_more w byte wanted bytes k false same next cut = absurd cc

pub literal_mends : {B : Type 0} (wanted : List ℕ) (k : List ℕ → Read B) → IsWhole k [] → Mends k → Mends (λ bytes. literal_at wanted bytes >>= k)
literal_mends [] k ready next bytes cut = next bytes cut
literal_mends (w ∷ wanted) k ready next [] cut = literal_ready (w ∷ wanted) k ready
literal_mends (w ∷ wanted) k ready next (byte ∷ bytes) cut =
    literal_more w byte wanted bytes k (eqb byte w) refl (literal_mends wanted k ready next bytes) cut

-- one step after another
then_whole : {A B : Type 0} (f : List ℕ → Read A) (k : A → List ℕ → Read B) (bytes : List ℕ) → IsWhole f bytes → ((x : A) → Opens (k x))
    → IsWhole (λ b. f b >>= λ x. k x.0 x.1) bytes
then_whole {A = A} f k bytes whole opens =
    let next = opens whole.value in
    record {
      more = whole.more ++ (next.byte ∷ next.whole.more);
      value = next.whole.value;
      reads = λ end rest other.
          ap (λ (t : List ℕ). f (bytes ++ t) >>= λ x. k x.0 x.1) (append_assoc whole.more (next.byte ∷ next.whole.more) (end ∷ rest))
          ∙ ap (λ (r : Read A). r >>= λ x. k x.0 x.1) (whole.reads next.byte (next.whole.more ++ end ∷ rest) next.other)
          ∙ next.whole.reads end rest other;
    }

then_step : {A B : Type 0} (f : List ℕ → Read A) (k : A → List ℕ → Read B) (bytes : List ℕ) (now : Read A) → f bytes ≡ now
    → ((more : List ℕ) → (x : A × List ℕ) → now ≡ Ok x → f (bytes ++ more) ≡ Ok (x.0, x.1 ++ more)) → (f bytes ≡ Err Cut → IsWhole f bytes)
    → ((x : A) → Mends (k x)) → ((x : A) → Opens (k x)) → (now >>= λ x. k x.0 x.1) ≡ Err Cut → IsWhole (λ b. f b >>= λ x. k x.0 x.1) bytes
then_step f k bytes (Ok x) is grows first next opens cut =
    let whole = next x.0 x.1 cut in
    record {
      more = whole.more;
      value = whole.value;
      reads = λ end rest other. rw (grows (whole.more ++ end ∷ rest) x refl) (whole.reads end rest other);
    }
then_step f k bytes (Err Cut) is grows first next opens cut = then_whole f k bytes (first is) opens
then_step f k bytes (Err Fault) is grows first next opens cut = absurd cc

pub then_mends : {A B : Type 0} (f : List ℕ → Read A) (k : A → List ℕ → Read B) → Grows f → Mends f → ((x : A) → Mends (k x)) → ((x : A) → Opens (k x))
    → Mends (λ bytes. f bytes >>= λ x. k x.0 x.1)
then_mends f k grows first next opens bytes cut =
    then_step f k bytes (f bytes) refl (λ more x is. grows bytes more (λ e. absurd cc) ∙ ap (extended more) is) (first bytes) next opens cut

-- a value made of what is read
abbrev pub mapped : {A B : Type 0} → (A → B) → A × List ℕ → Read B
mapped h x = Ok (h x.0, x.1)

map_step : {A B : Type 0} (f : List ℕ → Read A) (h : A → B) (bytes : List ℕ) (now : Read A) → f bytes ≡ now → (f bytes ≡ Err Cut → IsWhole f bytes)
    → (now >>= mapped h) ≡ Err Cut → IsWhole (λ b. f b >>= mapped h) bytes
map_step f h bytes (Ok x) is first cut = absurd cc
map_step f h bytes (Err Cut) is first cut =
    let whole = first is in
    record { more = whole.more; value = h whole.value; reads = λ end rest other. rw (whole.reads end rest other) refl }
map_step f h bytes (Err Fault) is first cut = absurd cc

pub map_mends : {A B : Type 0} (f : List ℕ → Read A) (h : A → B) → Mends f → Mends (λ bytes. f bytes >>= mapped h)
map_mends f h first bytes cut = map_step f h bytes (f bytes) refl (first bytes) cut
