-- The first task of numbers, three for each task.
use Rattle.std.proofs.Common.{◌≡◌, refl, sym, ap, ◌∙◌, ◌<◌, ◌≤◌, ◌-◌, ℤ, pos, slice_index_or, List, [], ◌∷◌, length, take, drop, arith}
use Rattle.unfold_tables.specs.Tables.{tasks_of}

take_all : (xs : List ℤ) → take (length xs) xs ≡ xs
take_all [] = refl
take_all (x ∷ xs) = ap (λ rest. x ∷ rest) (take_all xs)

-- three numbers are the first task
pub first_task : (xs : List ℤ) (a b c : ℤ) → 3 ≤ length xs → a ≡ slice_index_or xs 0 (pos 0) → b ≡ slice_index_or xs 1 (pos 0) → c ≡ slice_index_or xs 2 (pos 0)
    → tasks_of xs ≡ (record { start = a; duration = b; demand = c }) ∷ tasks_of (take (length xs - 3) (drop 3 xs))
first_task [] a b c long p q r = absurd (omega arith)
first_task (x ∷ []) a b c long p q r = absurd (omega arith)
first_task (x ∷ y ∷ []) a b c long p q r = absurd (omega arith)
first_task (x ∷ y ∷ z ∷ xs) a b c long p q r =
    let n : length (x ∷ y ∷ z ∷ xs) - 3 ≡ length xs = omega arith in
    let rest : take (length (x ∷ y ∷ z ∷ xs) - 3) xs ≡ xs = ap (λ k. take k xs) n ∙ take_all xs in
    λ i. (record { start = sym p i; duration = sym q i; demand = sym r i }) ∷ tasks_of (sym rest i)

-- fewer numbers are no task
pub no_task : (xs : List ℤ) → length xs < 3 → tasks_of xs ≡ []
no_task [] short = refl
no_task (x ∷ []) short = refl
no_task (x ∷ y ∷ []) short = refl
no_task (x ∷ y ∷ z ∷ xs) short = absurd (omega arith)

pub ruleset prefixes = (first_task, no_task)
