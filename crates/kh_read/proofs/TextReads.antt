-- Reading what stands for a value: it was read, it is begun, or reading halts.
use Rattle.std.proofs.Common.{◌≡◌, ◌≤◌, ◌<◌, ℕ, zero, suc, ◌+◌, Bool, true, false, not, ◌||◌, cond, eqb, List, [], ◌∷◌, ◌++◌, length, inl, inr, refl, sym, ap, subst, ◌∙◌, arith, append_assoc}
use Rattle.std.proofs.lemmas.Bool.{eqb-true, not_from_false}
use Rattle.std.proofs.lemmas.List.{length-append, append-nil}
use Rattle.kh_text_defs.specs.Blanks.{IsBlank, no_blank, Wide, Commas, last, then_more, begins_no_blank}
use Rattle.kh_read.specs.State.{Frame, Place, Before, State, Setting, Halt, Reading, Ended, Cut, Halted}
use Rattle.kh_read.specs.Steps.{read_on}
use Rattle.kh_read.proofs.TextCore.{spot, IsBetween, is_blank_byte, Skips, to_mark, to_end, skips, at_the_end}

pub data Reads {A : Type 0} (σ : Setting) (Good : List ℕ → Bool) (Stands : List ℕ → A → Type 0) (next : A → State) (p : ℕ) (text : List ℕ) (start : Reading) : Type 0 where
  whole : (u rest : List ℕ) (x : A) (q : ℕ) → text ≡ u ++ rest → Stands u x → Good rest ≡ true → start ≡ read_on σ (next x) q rest → q ≡ p + length u
      → Reads σ Good Stands next p text start
  part : (more : List ℕ) (x : A) → start ≡ Cut → Stands (text ++ more) x → Reads σ Good Stands next p text start
  halted : (halt : Halt) (q : ℕ) → start ≡ Halted halt q → Reads σ Good Stands next p text start

abbrev pub any : List ℕ → Bool
any rest = true

-- the same, seen otherwise
pub reads_as : {A B : Type 0} (σ : Setting) (Good : List ℕ → Bool) (R : List ℕ → A → Type 0) (S : List ℕ → B → Type 0) (next : A → State) (later : B → State)
    (f : A → B) (p : ℕ) (text : List ℕ) (start begun : Reading)
    → ((u : List ℕ) (x : A) → R u x → S u (f x)) → ((x : A) → next x ≡ later (f x)) → begun ≡ start
    → Reads σ Good R next p text start → Reads σ Good S later p text begun
reads_as σ Good R S next later f p text start begun stands goes same (whole u rest x q parts r good e place) =
    whole u rest (f x) q parts (stands u x r) good (same ∙ (e ∙ ap (λ (s : State). read_on σ s q rest) (goes x))) place
reads_as σ Good R S next later f p text start begun stands goes same (part more x e r) = part more (f x) (same ∙ e) (stands _ x r)
reads_as σ Good R S next later f p text start begun stands goes same (halted halt q e) = halted halt q (same ∙ e)

-- ---- blanks round what stands for a value

module _ {A : Type 0} (σ : Setting) (R : List ℕ → A → Type 0) (fs : List Frame) (here : A → Place) (over : A → List Frame) where
  abbrev pub behind_value : A → State
  behind_value x = spot (here x) (over x)

  trailing : (blank : List ℕ) (text u rest : List ℕ) (x : A) (p q : ℕ) (start : Reading) → IsBlank blank → text ≡ blank ++ (u ++ rest) → R u x
      → start ≡ read_on σ (behind_value x) q rest → q ≡ p + (length blank + length u) → Skips σ (here x) (over x) false q rest
      → Reads σ begins_no_blank (Wide R) behind_value p text start
  trailing blank text u rest x p q start blanks parts r e place (to_end more cut blanks2 ends) =
      part more x (e ∙ cut) (record {
        before = blank;
        inside = u;
        behind = rest ++ more;
        blank_before = blanks;
        stands = r;
        blank_behind = blanks2;
        parts = ap (λ (t : List ℕ). t ++ more) parts ∙ (append_assoc blank (u ++ rest) more ∙ ap (λ (t : List ℕ). blank ++ t) (append_assoc u rest more));
      })
  trailing blank text u rest x p q start blanks parts r e place (to_mark blank2 b rest2 q2 parts2 blanks2 mark goes place2) =
      whole (blank ++ (u ++ blank2)) (b ∷ rest2) x q2
      (parts ∙ (ap (λ (t : List ℕ). blank ++ (u ++ t)) parts2 ∙ (ap (λ (t : List ℕ). blank ++ t) (sym (append_assoc u blank2 (b ∷ rest2))) ∙ sym (append_assoc blank (u ++ blank2) (b ∷ rest2)))))
      (record { before = blank; inside = u; behind = blank2; blank_before = blanks; stands = r; blank_behind = blanks2; parts = refl })
      (not_from_false _ mark) (e ∙ goes)
      (omega (arith, place, place2, length-append blank (u ++ blank2), length-append u blank2))

  pub leading_from : (begin : Place) (blank : List ℕ) (text rest : List ℕ) (b p q : ℕ) (start : Reading) → IsBlank blank → text ≡ blank ++ b ∷ rest
      → start ≡ read_on σ (spot begin fs) q (b ∷ rest) → q ≡ p + length blank → ((x : A) → IsBetween σ (here x) (over x))
      → Reads σ any R behind_value q (b ∷ rest) (read_on σ (spot begin fs) q (b ∷ rest)) → Reads σ begins_no_blank (Wide R) behind_value p text start
  leading_from begin blank text rest b p q start blanks parts e place betweens (halted halt q2 h) = halted halt q2 (e ∙ h)
  leading_from begin blank text rest b p q start blanks parts e place betweens (part more x h r) =
      part more x (e ∙ h) (record {
        before = blank;
        inside = (b ∷ rest) ++ more;
        behind = [];
        blank_before = blanks;
        stands = r;
        blank_behind = no_blank;
        parts = ap (λ (t : List ℕ). t ++ more) parts ∙ (append_assoc blank (b ∷ rest) more ∙ ap (λ (t : List ℕ). blank ++ t) (sym (append-nil ((b ∷ rest) ++ more))));
      })
  leading_from begin blank text rest b p q start blanks parts e place betweens (whole u rest2 x q2 parts2 r good h place2) =
      trailing blank text u rest2 x p q2 start blanks (parts ∙ ap (λ (t : List ℕ). blank ++ t) parts2) r (e ∙ h) (omega (arith, place, place2))
      (skips σ (here x) (over x) (betweens x) false q2 rest2)

  pub wide_from : (begin : Place) → IsBetween σ begin fs → ((x : A) → IsBetween σ (here x) (over x)) → (sample : List ℕ) (x : A) → R sample x
      → ((b : ℕ) (rest : List ℕ) (q : ℕ) → is_blank_byte b ≡ false → Reads σ any R behind_value q (b ∷ rest) (read_on σ (spot begin fs) q (b ∷ rest)))
      → (p : ℕ) (text : List ℕ) → Reads σ begins_no_blank (Wide R) behind_value p text (read_on σ (spot begin fs) p text)
  wide_from begin between betweens sample x r core p text = go (skips σ begin fs between false p text)
    where
      go : Skips σ begin fs false p text → Reads σ begins_no_blank (Wide R) behind_value p text (read_on σ (spot begin fs) p text)
      go (to_end more cut blanks ends) =
          part (more ++ sample) x cut (record {
            before = text ++ more;
            inside = sample;
            behind = [];
            blank_before = blanks;
            stands = r;
            blank_behind = no_blank;
            parts = sym (append_assoc text more sample) ∙ ap (λ (t : List ℕ). (text ++ more) ++ t) (sym (append-nil sample));
          })
      go (to_mark blank b rest q parts blanks mark goes place) =
          leading_from begin blank text rest b p q _ blanks parts goes place betweens (core b rest q mark)

  -- the same where a value has to come
  pub leading : (blank : List ℕ) (text rest : List ℕ) (b p q : ℕ) (start : Reading) → IsBlank blank → text ≡ blank ++ b ∷ rest
      → start ≡ read_on σ (spot Before fs) q (b ∷ rest) → q ≡ p + length blank → ((x : A) → IsBetween σ (here x) (over x))
      → Reads σ any R behind_value q (b ∷ rest) (read_on σ (spot Before fs) q (b ∷ rest)) → Reads σ begins_no_blank (Wide R) behind_value p text start
  leading = leading_from Before

  pub wide : IsBetween σ Before fs → ((x : A) → IsBetween σ (here x) (over x)) → (sample : List ℕ) (x : A) → R sample x
      → ((b : ℕ) (rest : List ℕ) (q : ℕ) → is_blank_byte b ≡ false → Reads σ any R behind_value q (b ∷ rest) (read_on σ (spot Before fs) q (b ∷ rest)))
      → (p : ℕ) (text : List ℕ) → Reads σ begins_no_blank (Wide R) behind_value p text (read_on σ (spot Before fs) p text)
  wide = wide_from Before

-- ---- one after another

pub record Then {A B : Type 0} (S : List ℕ → A → Type 0) (T : A → List ℕ → B → Type 0) (text : List ℕ) (y : B) : Type 0 where
  pub first : List ℕ
  pub value : A
  pub second : List ℕ
  pub is_first : S first value
  pub is_second : T value second y
  pub parts : text ≡ first ++ second

-- something of what comes behind
pub record Sample {B : Type 0} (T : List ℕ → B → Type 0) : Type 0 where
  pub text : List ℕ
  pub value : B
  pub stands : T text value

then_rest : {A B : Type 0} (σ : Setting) (Good : List ℕ → Bool) (S : List ℕ → A → Type 0) (T : A → List ℕ → B → Type 0) (later : B → State)
    (p q : ℕ) (text u rest : List ℕ) (x : A) (start : Reading) → text ≡ u ++ rest → S u x → q ≡ p + length u
    → Reads σ Good (T x) later q rest start → Reads σ Good (Then S T) later p text start
then_rest σ Good S T later p q text u rest x start parts s place (whole v rest2 y q2 parts2 t good e place2) =
    whole (u ++ v) rest2 y q2 (parts ∙ (ap (λ (w : List ℕ). u ++ w) parts2 ∙ sym (append_assoc u v rest2)))
    (record { first = u; value = x; second = v; is_first = s; is_second = t; parts = refl }) good e (omega (arith, place, place2, length-append u v))
then_rest σ Good S T later p q text u rest x start parts s place (part more y e t) =
    part more y e (record { first = u; value = x; second = rest ++ more; is_first = s; is_second = t; parts = ap (λ (w : List ℕ). w ++ more) parts ∙ append_assoc u rest more })
then_rest σ Good S T later p q text u rest x start parts s place (halted halt q2 e) = halted halt q2 e

not_blank_of : (b : ℕ) (rest : List ℕ) → begins_no_blank (b ∷ rest) ≡ true → is_blank_byte b ≡ false
not_blank_of b rest e = go (is_blank_byte b) e
  where
    go : (t : Bool) → not t ≡ true → t ≡ false
    go true h = absurd (cc)
    go false h = refl

module _ {A B : Type 0} (σ : Setting) (Good : List ℕ → Bool) (S : List ℕ → A → Type 0) (T : A → List ℕ → B → Type 0) (next : A → State) (later : B → State) where
  pub reads_then : ((x : A) (q : ℕ) → read_on σ (next x) q [] ≡ Cut) → ((x : A) → Sample (T x))
      → ((x : A) (q b : ℕ) (rest : List ℕ) → is_blank_byte b ≡ false → Reads σ Good (T x) later q (b ∷ rest) (read_on σ (next x) q (b ∷ rest)))
      → (p : ℕ) (text : List ℕ) (start : Reading) → Reads σ begins_no_blank S next p text start → Reads σ Good (Then S T) later p text start
  reads_then ends sample second p text start (halted halt q e) = halted halt q e
  reads_then ends sample second p text start (part more x e s) =
      let m = sample x in
      part (more ++ m.text) m.value e (record { first = text ++ more; value = x; second = m.text; is_first = s; is_second = m.stands; parts = sym (append_assoc text more m.text) })
  reads_then ends sample second p text start (whole u [] x q parts s good e place) =
      let m = sample x in
      part m.text m.value (e ∙ ends x q) (record { first = u; value = x; second = m.text; is_first = s; is_second = m.stands; parts = ap (λ (w : List ℕ). w ++ m.text) (parts ∙ append-nil u) })
  reads_then ends sample second p text start (whole u (b ∷ rest) x q parts s good e place) =
      then_rest σ Good S T later p q text u (b ∷ rest) x start parts s place
      (subst (λ (r : Reading). Reads σ Good (T x) later q (b ∷ rest) r) (sym e) (second x q b rest (not_blank_of b rest good)))

-- the same where blanks aren't passed before
module _ {A B : Type 0} (σ : Setting) (S : List ℕ → A → Type 0) (T : A → List ℕ → B → Type 0) (next : A → State) (later : B → State) where
  pub reads_next : ((x : A) (q : ℕ) → read_on σ (next x) q [] ≡ Cut) → ((x : A) → Sample (T x))
      → ((x : A) (q b : ℕ) (rest : List ℕ) → Reads σ any (T x) later q (b ∷ rest) (read_on σ (next x) q (b ∷ rest)))
      → (p : ℕ) (text : List ℕ) (start : Reading) → Reads σ any S next p text start → Reads σ any (Then S T) later p text start
  reads_next ends sample second p text start (halted halt q e) = halted halt q e
  reads_next ends sample second p text start (part more x e s) =
      let m = sample x in
      part (more ++ m.text) m.value e (record { first = text ++ more; value = x; second = m.text; is_first = s; is_second = m.stands; parts = sym (append_assoc text more m.text) })
  reads_next ends sample second p text start (whole u [] x q parts s good e place) =
      let m = sample x in
      part m.text m.value (e ∙ ends x q) (record { first = u; value = x; second = m.text; is_first = s; is_second = m.stands; parts = ap (λ (w : List ℕ). w ++ m.text) (parts ∙ append-nil u) })
  reads_next ends sample second p text start (whole u (b ∷ rest) x q parts s good e place) =
      then_rest σ any S T later p q text u (b ∷ rest) x start parts s place
      (subst (λ (r : Reading). Reads σ any (T x) later q (b ∷ rest) r) (sym e) (second x q b rest))

-- a mark, and what comes behind it
pub record Marked {B : Type 0} (c : ℕ) (T : List ℕ → B → Type 0) (text : List ℕ) (y : B) : Type 0 where
  pub behind : List ℕ
  pub stands : T behind y
  pub parts : text ≡ c ∷ behind

pub reads_mark : {B : Type 0} (σ : Setting) (Good : List ℕ → Bool) (c : ℕ) (T : List ℕ → B → Type 0) (later : B → State) (p : ℕ) (rest : List ℕ) (start on : Reading)
    → start ≡ on → Reads σ Good T later (suc p) rest on → Reads σ Good (Marked c T) later p (c ∷ rest) start
reads_mark σ Good c T later p rest start on same (whole u rest2 y q parts t good e place) =
    whole (c ∷ u) rest2 y q (ap (λ (w : List ℕ). c ∷ w) parts) (record { behind = u; stands = t; parts = refl }) good (same ∙ e) (omega (arith, place))
reads_mark σ Good c T later p rest start on same (part more y e t) = part more y (same ∙ e) (record { behind = rest ++ more; stands = t; parts = refl })
reads_mark σ Good c T later p rest start on same (halted halt q e) = halted halt q (same ∙ e)

-- this mark, or a fault
pub only_mark : {B : Type 0} (σ : Setting) (Good : List ℕ → Bool) (c : ℕ) (T : List ℕ → B → Type 0) (later : B → State) (p b : ℕ) (rest : List ℕ) (start on : Reading) (halt : Halt)
    → (eqb b c ≡ true → start ≡ on) → (eqb b c ≡ false → start ≡ Halted halt p) → Reads σ Good T later (suc p) rest on → Reads σ Good (Marked c T) later p (b ∷ rest) start
only_mark σ Good c T later p b rest start on halt goes stops second = go (eqb b c) refl
  where
    go : (t : Bool) → eqb b c ≡ t → Reads σ Good (Marked c T) later p (b ∷ rest) start
    go true e = subst (λ (x : ℕ). Reads σ Good (Marked c T) later p (x ∷ rest) start) (sym (eqb-true b c e)) (reads_mark σ Good c T later p rest start on (goes e) second)
    go false e = halted halt p (stops e)

-- what stands behind a front
pub reads_front : {B : Type 0} (σ : Setting) (Good : List ℕ → Bool) (S : List ℕ → B → Type 0) (later : B → State) (front : List ℕ) (p q : ℕ) (all text : List ℕ) (start : Reading)
    → all ≡ front ++ text → q ≡ p + length front → Reads σ Good (λ u y. S (front ++ u) y) later q text start → Reads σ Good S later p all start
reads_front σ Good S later front p q all text start is place (whole u rest y q2 parts s good e place2) =
    whole (front ++ u) rest y q2 (is ∙ (ap (λ (w : List ℕ). front ++ w) parts ∙ sym (append_assoc front u rest))) s good e (omega (arith, place, place2, length-append front u))
reads_front σ Good S later front p q all text start is place (part more y e s) =
    part more y e (subst (λ (w : List ℕ). S w y) (sym (ap (λ (w : List ℕ). w ++ more) is ∙ append_assoc front text more)) s)
reads_front σ Good S later front p q all text start is place (halted halt q2 e) = halted halt q2 e

-- this very text, and a value
abbrev pub Exactly : {B : Type 0} → List ℕ → B → List ℕ → B → Type 0
Exactly word x text y = (text ≡ word) × (y ≡ x)

-- nothing more, and a value
pub record Nothing {B : Type 0} (x : B) (text : List ℕ) (y : B) : Type 0 where
  pub empty : text ≡ []
  pub same : y ≡ x

pub reads_nothing : {B : Type 0} (σ : Setting) (x : B) (later : B → State) (p : ℕ) (rest : List ℕ) → Reads σ any (Nothing x) later p rest (read_on σ (later x) p rest)
reads_nothing σ x later p rest = whole [] rest x p refl (record { empty = refl; same = refl }) refl refl (omega arith)

-- ---- values with commas between them, and their end

pub record Run {A B : Type 0} (S : List ℕ → A → Type 0) (End : List A → List ℕ → B → Type 0) (before : List A) (text : List ℕ) (y : B) : Type 0 where
  pub inside : List ℕ
  pub values : List A
  pub end : List ℕ
  pub commas : Commas S inside values
  pub ends : End (before ++ values) end y
  pub parts : text ≡ inside ++ end

-- behind a value: a comma and more of them, or the end
pub data Behind {A B : Type 0} (S : List ℕ → A → Type 0) (End : List A → List ℕ → B → Type 0) (before : List A) (x : A) (text : List ℕ) (y : B) : Type 0 where
  a_comma : (rest : List ℕ) → text ≡ 44 ∷ rest → Run S End (before ++ x ∷ []) rest y → Behind S End before x text y
  an_end : End (before ++ x ∷ []) text y → Behind S End before x text y

run_of : {A B : Type 0} (S : List ℕ → A → Type 0) (End : List A → List ℕ → B → Type 0) (before : List A) (text : List ℕ) (y : B)
    → Then S (Behind S End before) text y → Run S End before text y
run_of S End before text y h = go h.is_second
  where
    go : Behind S End before h.value h.second y → Run S End before text y
    go (an_end e) = record { inside = h.first; values = h.value ∷ []; end = h.second; commas = last h.first h.value h.is_first; ends = e; parts = h.parts }
    go (a_comma rest parts run) = record {
      inside = h.first ++ 44 ∷ run.inside;
      values = h.value ∷ run.values;
      end = run.end;
      commas = then_more _ h.first run.inside h.value run.values h.is_first run.commas refl;
      ends = subst (λ xs. End xs run.end y) (append_assoc before (h.value ∷ []) run.values) run.ends;
      parts = h.parts ∙ (ap (λ (w : List ℕ). h.first ++ w) (parts ∙ ap (λ (w : List ℕ). 44 ∷ w) run.parts) ∙ sym (append_assoc h.first (44 ∷ run.inside) run.end));
    }

module _ {A B : Type 0} (σ : Setting) (S : List ℕ → A → Type 0) (End : List A → List ℕ → B → Type 0) (begin : List A → State) (after : List A → A → State) (later : B → State) where
  pub record Loop : Type 0 where
    pub item : (xs : List A) (x : A) (q : ℕ) (rest : List ℕ) → Reads σ begins_no_blank S (after (xs ++ x ∷ [])) q rest (read_on σ (begin (xs ++ x ∷ [])) q rest)
    pub comma : (xs : List A) (x : A) (q : ℕ) (rest : List ℕ) → read_on σ (after xs x) q (44 ∷ rest) ≡ read_on σ (begin (xs ++ x ∷ [])) (suc q) rest
    pub finish : (xs : List A) (x : A) (q b : ℕ) (rest : List ℕ) → eqb b 44 ≡ false → is_blank_byte b ≡ false
        → Reads σ any (End (xs ++ x ∷ [])) later q (b ∷ rest) (read_on σ (after xs x) q (b ∷ rest))
    pub ends : (xs : List A) (x : A) (q : ℕ) → read_on σ (after xs x) q [] ≡ Cut
    pub sample : (xs : List A) → Sample (End xs)

  ended : (before : List A) (x : A) (p : ℕ) (text : List ℕ) (start : Reading) → Reads σ any (End (before ++ x ∷ [])) later p text start → Reads σ any (Behind S End before x) later p text start
  ended before x p text start h = reads_as σ any (End (before ++ x ∷ [])) (Behind S End before x) later later (λ y. y) p text start start (λ u y r. an_end r) (λ y. refl) refl h

  go_on : (before : List A) (x : A) (p : ℕ) (rest : List ℕ) (start on : Reading) → start ≡ on → Reads σ any (Run S End (before ++ x ∷ [])) later (suc p) rest on
      → Reads σ any (Behind S End before x) later p (44 ∷ rest) start
  go_on before x p rest start on same h =
      reads_as σ any (Marked 44 (Run S End (before ++ x ∷ []))) (Behind S End before x) later later (λ y. y) p (44 ∷ rest) start start
      (λ u y r. a_comma r.behind r.parts r.stands) (λ y. refl) refl (reads_mark σ any 44 (Run S End (before ++ x ∷ [])) later p rest start on same h)

  run_sample : Loop → (xs : List A) (x : A) → Sample (Behind S End xs x)
  run_sample loop xs x = let m = loop.sample (xs ++ x ∷ []) in record { text = m.text; value = m.value; stands = an_end m.stands }

  from_item : Loop → (before : List A) (p : ℕ) (text : List ℕ) (start : Reading)
      → ((x : A) (q : ℕ) (rest : List ℕ) → length rest < length text → Reads σ any (Run S End (before ++ x ∷ [])) later (suc q) rest (read_on σ (begin (before ++ x ∷ [])) (suc q) rest))
      → Reads σ begins_no_blank S (after before) p text start → Reads σ any (Then S (Behind S End before)) later p text start
  from_item loop before p text start more (halted halt q e) = halted halt q e
  from_item loop before p text start more (part m x e s) =
      let tail = run_sample loop before x in
      part (m ++ tail.text) tail.value e (record { first = text ++ m; value = x; second = tail.text; is_first = s; is_second = tail.stands; parts = sym (append_assoc text m tail.text) })
  from_item loop before p text start more (whole u [] x q parts s good e place) =
      let tail = run_sample loop before x in
      part tail.text tail.value (e ∙ loop.ends before x q) (record { first = u; value = x; second = tail.text; is_first = s; is_second = tail.stands; parts = ap (λ (w : List ℕ). w ++ tail.text) (parts ∙ append-nil u) })
  from_item loop before p text start more (whole u (b ∷ rest) x q parts s good e place) =
      then_rest σ any S (Behind S End before) later p q text u (b ∷ rest) x start parts s place
      (subst (λ (r : Reading). Reads σ any (Behind S End before x) later q (b ∷ rest) r) (sym e) (go (eqb b 44) refl))
    where
      shorter : length rest < length text
      shorter = omega (arith, ap length parts, length-append u (b ∷ rest))

      go : (t : Bool) → eqb b 44 ≡ t → Reads σ any (Behind S End before x) later q (b ∷ rest) (read_on σ (after before x) q (b ∷ rest))
      go true is =
          subst (λ (c : ℕ). Reads σ any (Behind S End before x) later q (c ∷ rest) (read_on σ (after before x) q (c ∷ rest))) (sym (eqb-true b 44 is))
          (go_on before x q rest _ _ (loop.comma before x q rest) (more x q rest shorter))
      go false is = ended before x q (b ∷ rest) _ (loop.finish before x q b rest is (not_blank_of b rest good))

  run : Loop → (n : ℕ) (before : List A) (x : A) (p : ℕ) (text : List ℕ) → length text ≤ n → Reads σ any (Run S End (before ++ x ∷ [])) later p text (read_on σ (begin (before ++ x ∷ [])) p text)
  run loop zero before x p text small =
      reads_as σ any (Then S (Behind S End (before ++ x ∷ []))) (Run S End (before ++ x ∷ [])) later later (λ y. y) p text _ _ (run_of S End (before ++ x ∷ [])) (λ y. refl) refl
      (from_item loop (before ++ x ∷ []) p text _ (λ y q rest shorter. absurd (omega arith)) (loop.item before x p text))
  run loop (suc n) before x p text small =
      reads_as σ any (Then S (Behind S End (before ++ x ∷ []))) (Run S End (before ++ x ∷ [])) later later (λ y. y) p text _ _ (run_of S End (before ++ x ∷ [])) (λ y. refl) refl
      (from_item loop (before ++ x ∷ []) p text _ (λ y q rest shorter. run loop n (before ++ x ∷ []) y (suc q) rest (omega arith)) (loop.item before x p text))

  -- the first value, and what comes behind it
  pub run_from : Loop → (p : ℕ) (text : List ℕ) (start : Reading) → Reads σ begins_no_blank S (after []) p text start → Reads σ any (Run S End []) later p text start
  run_from loop p text start item =
      reads_as σ any (Then S (Behind S End [])) (Run S End []) later later (λ y. y) p text _ _ (run_of S End []) (λ y. refl) refl
      (from_item loop [] p text start (λ x q rest shorter. run loop (length rest) [] x (suc q) rest (omega arith)) item)

-- ---- in brackets: nothing but blanks and the closing byte, or values

pub data Body {A B : Type 0} (S : List ℕ → A → Type 0) (End : List A → List ℕ → B → Type 0) (c : ℕ) (none : B) (text : List ℕ) (y : B) : Type 0 where
  bare : (blank : List ℕ) → IsBlank blank → text ≡ blank ++ c ∷ [] → y ≡ none → Body S End c none text y
  filled : Run S End [] text y → Body S End c none text y

module _ {A B : Type 0} (σ : Setting) (S : List ℕ → A → Type 0) (End : List A → List ℕ → B → Type 0) (c : ℕ) (none : B) (fs : List Frame) (later : B → State) where
  pub body : IsBetween σ Before fs
      → ((q : ℕ) (rest : List ℕ) → read_on σ (spot Before fs) q (c ∷ rest) ≡ read_on σ (later none) (suc q) rest)
      → ((blank : List ℕ) (b : ℕ) (rest : List ℕ) (p q : ℕ) (text : List ℕ) → IsBlank blank → text ≡ blank ++ b ∷ rest → is_blank_byte b ≡ false → eqb b c ≡ false → q ≡ p + length blank
      → Reads σ any (Run S End []) later p text (read_on σ (spot Before fs) q (b ∷ rest)))
      → (p : ℕ) (text : List ℕ) → Reads σ any (Body S End c none) later p text (read_on σ (spot Before fs) p text)
  body between closes core p text = go (skips σ Before fs between false p text)
    where
      go : Skips σ Before fs false p text → Reads σ any (Body S End c none) later p text (read_on σ (spot Before fs) p text)
      go (to_end more cut blanks ends) = part (more ++ c ∷ []) none cut (bare (text ++ more) blanks (sym (append_assoc text more (c ∷ []))) refl)
      go (to_mark blank b rest q parts blanks mark goes place) = choose (eqb b c) refl
        where
          choose : (t : Bool) → eqb b c ≡ t → Reads σ any (Body S End c none) later p text (read_on σ (spot Before fs) p text)
          choose true e =
              let same = eqb-true b c e in
              whole (blank ++ c ∷ []) rest none (suc q)
              (parts ∙ (ap (λ (k : ℕ). blank ++ k ∷ rest) same ∙ sym (append_assoc blank (c ∷ []) rest)))
              (bare blank blanks refl refl) refl
              (goes ∙ (ap (λ (k : ℕ). read_on σ (spot Before fs) q (k ∷ rest)) same ∙ closes q rest))
              (omega (arith, place, length-append blank (c ∷ [])))
          choose false e =
              reads_as σ any (Run S End []) (Body S End c none) later later (λ y. y) p text _ _ (λ u y r. filled r) (λ y. refl) goes
              (core blank b rest p q text blanks parts mark e place)
