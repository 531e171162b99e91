-- Sums and products of whole numbers.
use Rattle.std.proofs.Common.{ℤ, ◌+ℤ◌, ◌≤ℤ◌, ◌⊎◌, inl, inr, ◌≡◌, refl, arith, ◌-ℤ◌, pos, zero, ◌*ℤ◌, ◌∙◌, sym, ap, suc, negsuc}
use Rattle.std.proofs.Math.IntN.{zero-*ℤ, suc_ℤ, suc_ℤ-*ℤ, pred_ℤ, pred_ℤ-*ℤ, *ℤ_comm}
use Rattle.std.proofs.lemmas.Int.{ints}

-- one of two numbers is at most the other
pub order_total : (x y : ℤ) → (x ≤ℤ y) ⊎ (y ≤ℤ x)
order_total x y = by (y -ℤ x) refl
  where
    by : (d : ℤ) → (y -ℤ x) ≡ d → (x ≤ℤ y) ⊎ (y ≤ℤ x)
    by (pos n) is = inl (omega (arith, ints, is))
    by (negsuc n) is = inr (omega (arith, ints, is))

pub four_parts : (a b c d : ℤ) → (a +ℤ b) +ℤ (c +ℤ d) ≡ (a +ℤ c) +ℤ (b +ℤ d)
four_parts a b c d = omega (arith, ints)

pub four_parts_less : (a b c d : ℤ) → (a +ℤ b) -ℤ (c +ℤ d) ≡ (a -ℤ c) +ℤ (b -ℤ d)
four_parts_less a b c d = omega (arith, ints)

pub zero_times : (b c : ℤ) → pos zero *ℤ (b +ℤ c) ≡ pos zero *ℤ b +ℤ pos zero *ℤ c
zero_times b c =
    zero-*ℤ (b +ℤ c) ∙ sym (ap (λ z. z +ℤ (pos zero *ℤ c)) (zero-*ℤ b) ∙ ap (λ z. pos zero +ℤ z) (zero-*ℤ c))

pub more_times : (a b c : ℤ) → a *ℤ (b +ℤ c) ≡ a *ℤ b +ℤ a *ℤ c → suc_ℤ a *ℤ (b +ℤ c) ≡ suc_ℤ a *ℤ b +ℤ suc_ℤ a *ℤ c
more_times a b c so_far =
    suc_ℤ-*ℤ a (b +ℤ c) ∙ (ap (λ z. z +ℤ (b +ℤ c)) so_far ∙ (four_parts (a *ℤ b) (a *ℤ c) b c ∙ sym (ap (λ z. z +ℤ (suc_ℤ a *ℤ c)) (suc_ℤ-*ℤ a b) ∙ ap (λ z. (a *ℤ b +ℤ b) +ℤ z) (suc_ℤ-*ℤ a c))))

pub less_times : (a b c : ℤ) → a *ℤ (b +ℤ c) ≡ a *ℤ b +ℤ a *ℤ c → pred_ℤ a *ℤ (b +ℤ c) ≡ pred_ℤ a *ℤ b +ℤ pred_ℤ a *ℤ c
less_times a b c so_far =
    pred_ℤ-*ℤ a (b +ℤ c) ∙ (ap (λ z. z -ℤ (b +ℤ c)) so_far ∙ (four_parts_less (a *ℤ b) (a *ℤ c) b c
    ∙ sym (ap (λ z. z +ℤ (pred_ℤ a *ℤ c)) (pred_ℤ-*ℤ a b) ∙ ap (λ z. (a *ℤ b -ℤ b) +ℤ z) (pred_ℤ-*ℤ a c))))

pub *ℤ-+ℤ : (a b c : ℤ) → a *ℤ (b +ℤ c) ≡ a *ℤ b +ℤ a *ℤ c
*ℤ-+ℤ (pos zero) b c = zero_times b c
*ℤ-+ℤ (pos (suc n)) b c = more_times (pos n) b c (*ℤ-+ℤ (pos n) b c)
*ℤ-+ℤ (negsuc zero) b c = less_times (pos zero) b c (zero_times b c)
*ℤ-+ℤ (negsuc (suc n)) b c = less_times (negsuc n) b c (*ℤ-+ℤ (negsuc n) b c)

pub +ℤ-*ℤ : (a b c : ℤ) → (a +ℤ b) *ℤ c ≡ a *ℤ c +ℤ b *ℤ c
+ℤ-*ℤ a b c =
    *ℤ_comm (a +ℤ b) c ∙ (*ℤ-+ℤ c a b ∙ (ap (λ z. z +ℤ (c *ℤ b)) (*ℤ_comm c a) ∙ ap (λ z. (a *ℤ c) +ℤ z) (*ℤ_comm c b)))

pub less_parts : (a b c d : ℤ) → a +ℤ b ≡ c → a ≡ c -ℤ b
less_parts a b c d is = omega (arith, ints)

pub back_and_forth : (a c : ℤ) → (a -ℤ c) +ℤ c ≡ a
back_and_forth a c = omega (arith, ints)

pub -ℤ-*ℤ : (a b c : ℤ) → (a -ℤ b) *ℤ c ≡ a *ℤ c -ℤ b *ℤ c
-ℤ-*ℤ a b c =
    less_parts ((a -ℤ b) *ℤ c) (b *ℤ c) (a *ℤ c) c (sym (+ℤ-*ℤ (a -ℤ b) b c) ∙ ap (λ z. z *ℤ c) (back_and_forth a b))

pub more_assoc : (a b c : ℤ) → (a *ℤ b) *ℤ c ≡ a *ℤ (b *ℤ c) → (suc_ℤ a *ℤ b) *ℤ c ≡ suc_ℤ a *ℤ (b *ℤ c)
more_assoc a b c so_far =
    ap (λ z. z *ℤ c) (suc_ℤ-*ℤ a b) ∙ (+ℤ-*ℤ (a *ℤ b) b c ∙ (ap (λ z. z +ℤ (b *ℤ c)) so_far ∙ sym (suc_ℤ-*ℤ a (b *ℤ c))))

pub less_assoc : (a b c : ℤ) → (a *ℤ b) *ℤ c ≡ a *ℤ (b *ℤ c) → (pred_ℤ a *ℤ b) *ℤ c ≡ pred_ℤ a *ℤ (b *ℤ c)
less_assoc a b c so_far =
    ap (λ z. z *ℤ c) (pred_ℤ-*ℤ a b) ∙ (-ℤ-*ℤ (a *ℤ b) b c ∙ (ap (λ z. z -ℤ (b *ℤ c)) so_far ∙ sym (pred_ℤ-*ℤ a (b *ℤ c))))

pub zero_assoc : (b c : ℤ) → (pos zero *ℤ b) *ℤ c ≡ pos zero *ℤ (b *ℤ c)
zero_assoc b c = ap (λ z. z *ℤ c) (zero-*ℤ b) ∙ (zero-*ℤ c ∙ sym (zero-*ℤ (b *ℤ c)))

pub *ℤ_assoc : (a b c : ℤ) → (a *ℤ b) *ℤ c ≡ a *ℤ (b *ℤ c)
*ℤ_assoc (pos zero) b c = zero_assoc b c
*ℤ_assoc (pos (suc n)) b c = more_assoc (pos n) b c (*ℤ_assoc (pos n) b c)
*ℤ_assoc (negsuc zero) b c = less_assoc (pos zero) b c (zero_assoc b c)
*ℤ_assoc (negsuc (suc n)) b c = less_assoc (negsuc n) b c (*ℤ_assoc (negsuc n) b c)

pub zero_plus : (z : ℤ) → pos 0 +ℤ z ≡ z
zero_plus z = omega (arith, ints)
