-- The longest prefix of a text of each form.
use Rattle.std.proofs.Common.{◌≡◌, ℕ, suc, ◌+◌, ◌≤◌, Bool, true, false, cond, List, [], ◌∷◌, ◌++◌, length, take, refl, ap, ◌∙◌, subst, arith}
use Rattle.std.proofs.lemmas.Bool.{and_parts}
use Rattle.std.specs.List.{list_all, prefix_len}
use Rattle.sopl_ast.specs.Pieces.{before_close, begins_with}

-- a prefix whose bytes all pass is no longer than the run
pub prefix_longest : (p : ℕ → Bool) (xs ys : List ℕ) → list_all p xs ≡ true → length xs ≤ prefix_len p (xs ++ ys)
prefix_longest p [] ys e = omega arith
prefix_longest p (x ∷ xs) ys e =
    let parts = and_parts (p x) (list_all p xs) e in
    let ih = prefix_longest p xs ys parts.1 in
    rw (parts.0) (omega (arith, ih))

-- the bytes of the run all pass
pub run_passes : (p : ℕ → Bool) (xs : List ℕ) → list_all p (take (prefix_len p xs) xs) ≡ true
run_passes p [] = refl
run_passes p (x ∷ xs) = by_byte (p x) refl (run_passes p xs)
  where
    by_byte : (b : Bool) → p x ≡ b → list_all p (take (prefix_len p xs) xs) ≡ true → list_all p (take (cond b (1 + prefix_len p xs) 0) (x ∷ xs)) ≡ true
    by_byte true e ih =
        let one : 1 + prefix_len p xs ≡ suc (prefix_len p xs) = omega arith in
        rw (one, e) ih
    by_byte false e ih = refl

-- the first `*/` of a prefix that ends with it is the first of the text
pub close_append : (xs ys : List ℕ) → before_close xs + 2 ≤ length xs → before_close (xs ++ ys) ≡ before_close xs
close_append [] ys h = absurd (omega arith)
close_append (x ∷ []) ys h = absurd (omega arith)
close_append (x ∷ z ∷ zs) ys h = by_two (begins_with 42 47 (x ∷ z ∷ zs)) h (close_append (z ∷ zs) ys)
  where
    by_two : (b : Bool) → cond b 0 (1 + before_close (z ∷ zs)) + 2 ≤ length (x ∷ z ∷ zs) → (before_close (z ∷ zs) + 2 ≤ length (z ∷ zs) → before_close ((z ∷ zs) ++ ys) ≡ before_close (z ∷ zs))
        → cond b 0 (1 + before_close ((z ∷ zs) ++ ys)) ≡ cond b 0 (1 + before_close (z ∷ zs))
    by_two true h ih = refl
    by_two false h ih = ap (λ n. 1 + n) (ih (omega arith))

-- the prefix up to the first `*/` has it at its end
pub close_take : (xs : List ℕ) → before_close xs + 2 ≤ length xs → before_close (take (before_close xs + 2) xs) ≡ before_close xs
close_take [] h = absurd (omega arith)
close_take (x ∷ []) h = absurd (omega arith)
close_take (x ∷ z ∷ zs) h = by_two (begins_with 42 47 (x ∷ z ∷ zs)) refl h (close_take (z ∷ zs))
  where
    front : (n : ℕ) (b : Bool) → begins_with 42 47 (x ∷ z ∷ zs) ≡ b → before_close (x ∷ take (suc n) (z ∷ zs)) ≡ cond b 0 (1 + before_close (take (suc n) (z ∷ zs)))
    front n b e = ap (λ c. cond c 0 (1 + before_close (take (suc n) (z ∷ zs)))) e

    by_two : (b : Bool) → begins_with 42 47 (x ∷ z ∷ zs) ≡ b → cond b 0 (1 + before_close (z ∷ zs)) + 2 ≤ length (x ∷ z ∷ zs)
        → (before_close (z ∷ zs) + 2 ≤ length (z ∷ zs) → before_close (take (before_close (z ∷ zs) + 2) (z ∷ zs)) ≡ before_close (z ∷ zs))
        → before_close (take (cond b 0 (1 + before_close (z ∷ zs)) + 2) (x ∷ z ∷ zs)) ≡ cond b 0 (1 + before_close (z ∷ zs))
    by_two true e h more = front 0 true e
    by_two false e h more =
        let n = before_close (z ∷ zs) in
        let long : (1 + n) + 2 ≡ suc (suc (suc n)) = omega arith in
        let short : n + 2 ≡ suc (suc n) = omega arith in
        let ih = more (omega arith) in
        let P : ℕ → Type 0 = λ m. before_close (take m (z ∷ zs)) ≡ n in
        rw long (front (suc n) false e ∙ ap (λ m. 1 + m) (subst P short ih))
