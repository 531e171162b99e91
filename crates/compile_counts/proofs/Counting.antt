-- Sums of term nodes, part by part.
use Rattle.std.proofs.Common.{◌≡◌, ap, subst, ◌∙◌, ℕ, ◌+◌, ℤ, List, [], ◌∷◌, ◌⊎◌, inl, inr, arith}
use Rattle.sopl_base.proofs.Naturals.{from_zero}
use Rattle.compile_counts.specs.Counted.{capped}

-- what is left to be counted holds what counting asks for, and with what is counted it makes up all
pub record IsLeft {A : Type 0} (Holds : List A → Type 0) (f : List A → ℕ) (counted : ℤ) (left : List A) (all : ℕ) : Type 0 where
  pub holds : Holds left
  pub prefix : ℕ
  pub is : counted ≡ capped prefix
  pub sum : prefix + f left ≡ all

-- at first, all is left
pub left_first : {A : Type 0} {Holds : List A → Type 0} {f : List A → ℕ} (xs : List A) (n : ℤ) → Holds xs → n ≡ capped 0 → IsLeft Holds f n xs (f xs)
left_first {A} {Holds} {f} xs n holds is = record { holds = holds; prefix = 0; is = is; sum = from_zero (f xs) }

module _ {A : Type 0} {Holds : List A → Type 0} {f : List A → ℕ} {left : List A} {all : ℕ} {n : ℤ} (l : IsLeft Holds f n left all) where
  -- the first of what is left may be counted
  pub left_holds : {x : A} {later : List A} → left ≡ x ∷ later → Holds (x ∷ later)
  left_holds is = subst Holds is l.holds

  -- one is counted
  pub left_more : {x : A} {later : List A} {m : ℤ} (one : ℕ) (new : ℤ) → left ≡ x ∷ later → ((xs : List A) → f (x ∷ xs) ≡ one + f xs) → (Holds (x ∷ later) → Holds later) → m ≡ capped one
      → ((a b : ℕ) → n ≡ capped a → m ≡ capped b → new ≡ capped (a + b)) → IsLeft Holds f new later all
  left_more {x} {later} one new is parted goes counted both =
      record { holds = goes (left_holds is); prefix = l.prefix + one; is = both l.prefix one l.is counted; sum = omega (arith, l.sum, ap f is, parted later) }

  -- nothing is left
  pub left_none : left ≡ [] → f [] ≡ 0 → n ≡ capped all
  left_none is nothing = l.is ∙ ap capped (omega (arith, l.sum, ap f is, nothing))

-- one of two ways
pub either : {A B C : Type 0} → (A → C) → (B → C) → A ⊎ B → C
either f g (inl a) = f a
either f g (inr b) = g b
