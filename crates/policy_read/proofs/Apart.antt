-- Values of different cells stand where they were put.
use Rattle.std.proofs.Common.{arith, ◌≡◌, ◌≢◌, ◌∙◌, ◌<◌, ℕ, zero, suc, ℤ, pos, List, [], ◌∷◌, ◌++◌, set, length, get_or, refl, sym, ap, subst}
use Rattle.std.specs.List.{AllByRecursion}
use Rattle.sopl_base.proofs.Lists.{all_append}
use Rattle.policy_read.specs.declared.entry.Told.{Told}
use Rattle.policy_read.specs.Policies.{put_all_at, put_at}

pub put_long : (xs : List ℤ) (c : ℕ) (v : ℤ) → length (set xs c v) ≡ length xs
put_long [] c v = refl
put_long (x ∷ xs) zero v = refl
put_long (x ∷ xs) (suc c) v = ap suc (put_long xs c v)

put_here : (xs : List ℤ) (c : ℕ) (v : ℤ) → c < length xs → get_or (set xs c v) c (pos 0) ≡ v
put_here [] c v below = absurd (omega (arith, below))
put_here (x ∷ xs) zero v below = refl
put_here (x ∷ xs) (suc c) v below = put_here xs c v (omega (arith, below))

put_elsewhere : (xs : List ℤ) (c i : ℕ) (v : ℤ) → c ≢ i → get_or (set xs c v) i (pos 0) ≡ get_or xs i (pos 0)
put_elsewhere [] c i v differ = refl
put_elsewhere (x ∷ xs) zero zero v differ = absurd (differ refl)
put_elsewhere (x ∷ xs) zero (suc i) v differ = refl
put_elsewhere (x ∷ xs) (suc c) zero v differ = refl
put_elsewhere (x ∷ xs) (suc c) (suc i) v differ = put_elsewhere xs c i v (λ same. differ (ap suc same))

-- no two are of one cell
abbrev pub Apart : List Told → Type 0
Apart [] = Unit {0}
Apart (t ∷ ts) = AllByRecursion (λ (u : Told). u.cell ≢ t.cell) ts × Apart ts

all_elsewhere : (ts : List Told) (xs : List ℤ) (i : ℕ) → AllByRecursion (λ (u : Told). u.cell ≢ i) ts → get_or (put_all_at ts xs) i (pos 0) ≡ get_or xs i (pos 0)
all_elsewhere [] xs i all = refl
all_elsewhere (t ∷ ts) xs i all = all_elsewhere ts (put_at t xs) i all.1 ∙ put_elsewhere xs t.cell i t.value all.0

pub all_stand : (ts : List Told) (xs : List ℤ) → AllByRecursion (λ (t : Told). t.cell < length xs) ts → Apart ts
    → AllByRecursion (λ (t : Told). get_or (put_all_at ts xs) t.cell (pos 0) ≡ t.value) ts
all_stand [] xs below apart = tt
all_stand (t ∷ ts) xs below apart =
    let Below : ℕ → Type 0 = λ n. AllByRecursion (λ (u : Told). u.cell < n) ts in (
      all_elsewhere ts (put_at t xs) t.cell apart.0 ∙ put_here xs t.cell t.value below.0,
      all_stand ts (put_at t xs) (subst Below (sym (put_long xs t.cell t.value)) below.1) apart.1,
    )

pub weaker : {A : Type 0} (P Q : A → Type 0) (xs : List A) → ((x : A) → P x → Q x) → AllByRecursion P xs → AllByRecursion Q xs
weaker P Q [] so all = tt
weaker P Q (x ∷ xs) so all = (so x all.0, weaker P Q xs so all.1)

pub apart_both : (P Q : Told → Type 0) (xs ys : List Told) → ((x u : Told) → P x → Q u → u.cell ≢ x.cell) → Apart xs → Apart ys → AllByRecursion P xs → AllByRecursion Q ys
    → Apart (xs ++ ys)
apart_both P Q [] ys differ one two p q = two
apart_both P Q (x ∷ xs) ys differ one two p q = (
  all_append (λ (u : Told). u.cell ≢ x.cell) xs ys one.0 (weaker Q (λ (u : Told). u.cell ≢ x.cell) ys (λ u is. differ x u p.0 is) q),
  apart_both P Q xs ys differ one.1 two p.1 q,
)
