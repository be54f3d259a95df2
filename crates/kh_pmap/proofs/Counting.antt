-- How many entries there are after a change.
use Rattle.std.proofs.Common.{◌≡◌, ◌+◌, ◌-◌, refl, sym, ap, ◌∙◌, cond, T, true, false, List, length, Some, None, Bor, arith}
use Rattle.std.specs.declared.cmp.Ordering.{Ordering}
use Rattle.std.specs.declared.option.Option.{Option}
use Rattle.std.specs.Option.{is_some, option_copied}
use Rattle.std.specs.Cmp.{IsTotalOrder}
use Rattle.std.specs.FinMap.{find, put, is_sorted}
use Rattle.std.specs.FinMap.Entries.{where_key, length-put, length_without}
use Rattle.kh_pmap.specs.Keyed.{is_other}

-- a reference is there where what it points to is
pub copied_is : {A : Type 0} (r : Option (Bor A)) → is_some (option_copied r) ≡ is_some r
copied_is None = refl
copied_is (Some x) = refl

pub missing : {A : Type 0} (r : Option A) → is_some r ≡ false → r ≡ None
missing None e = refl
missing (Some x) e = cc

module _ {K V : Type 0} {R : K → K → Ordering} (o : IsTotalOrder R) where
  pub as_many : (k : K) (v x : V) (es : List (K × V)) → T (is_sorted R es) → Some x ≡ find R k es → length es ≡ length (put R k v es)
  as_many k v x es s is = sym (length-put R o k v es s ∙ ap (λ r. cond (is_some r) (length es) (length es + 1)) (sym is))

  pub one_more : (k : K) (v : V) (es : List (K × V)) → T (is_sorted R es) → None ≡ find R k es → length es + 1 ≡ length (put R k v es)
  one_more k v es s is = sym (length-put R o k v es s ∙ ap (λ r. cond (is_some r) (length es) (length es + 1)) (sym is))

  pub one_less : (k : K) (es : List (K × V)) → T (is_sorted R es) → is_some (find R k es) ≡ true → length es - 1 ≡ length (where_key R (is_other R k) es)
  one_less k es s is =
      let all : 1 + length (where_key R (is_other R k) es) ≡ length es = ap (λ b. cond b 1 0 + length (where_key R (is_other R k) es)) (sym is) ∙ length_without R o k es s in
      omega (arith, all)
