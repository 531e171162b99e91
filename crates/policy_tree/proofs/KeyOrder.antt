-- The order of keys is total, and only equal keys tie.
use Rattle.std.proofs.Common.{◌≡◌, refl, subst, Bool, true, false, Decides}
use Rattle.std.specs.declared.cmp.Ordering.{Ordering}
use Rattle.std.specs.declared.cmp.Ordering.TheVariants.{Less, Equal, Greater}
use Rattle.std.specs.Ordering.{ordering_then, eq_by_cmp, nat_cmp, int_cmp}
use Rattle.std.specs.Cmp.{IsTotalOrder, Equal-is, nat_cmp_total, int_cmp_total}
use Rattle.std.specs.Cmp.Lexicographic.{slice_cmp}
use Rattle.std.proofs.lemmas.Cmp.{then_total, on_total, lists_total, tied_itself}
use Rattle.std.specs.FinMap.{IsAntisymmetric, nat_cmp-IsAntisymmetric, int_cmp-IsAntisymmetric, slice_cmp-IsAntisymmetric}
use Rattle.sopl_ast.specs.Policies.{Key, key_cmp}

pub key_total : IsTotalOrder key_cmp
key_total = then_total (on_total (λ (key : Key). key.0) nat_cmp_total) (on_total (λ (key : Key). key.1) (lists_total int_cmp_total))

both_tie : (r s : Ordering) → ordering_then r s ≡ Equal → (r ≡ Equal) × (s ≡ Equal)
both_tie Less s e = absurd (cc)
both_tie Equal s e = (refl, e)
both_tie Greater s e = absurd (cc)

pub key_antisymmetric : IsAntisymmetric key_cmp
key_antisymmetric x y e =
    let ties : (nat_cmp x.0 y.0 ≡ Equal) × (slice_cmp int_cmp x.1 y.1 ≡ Equal) = both_tie _ _ e in
    let numbers : x.0 ≡ y.0 = nat_cmp-IsAntisymmetric x.0 y.0 ties.0 in
    let seen : x.1 ≡ y.1 = slice_cmp-IsAntisymmetric int_cmp-IsAntisymmetric x.1 y.1 ties.1 in
    λ i. (numbers i, seen i)

pub same_key : (a b : Key) → Decides (eq_by_cmp key_cmp a b) (a ≡ b)
same_key a b = (
  λ t. key_antisymmetric a b ((Equal-is (key_cmp a b)).0 t),
  λ e. (Equal-is (key_cmp a b)).1 (let P : Key → Type 0 = λ k. key_cmp a k ≡ Equal in subst P e (tied_itself key_total a)),
)

-- a test of what does not hold is false
pub not_so : {P : Type 0} (b : Bool) → Decides b P → ¬ P → b ≡ false
not_so true d n = absurd (n (d.0 refl))
not_so false d n = refl
