-- What is left of a run, one byte on and at the end.
use Rattle.std.proofs.Common.{◌≡◌, ℕ, ◌+◌, ◌<◌, ◌≤◌, Bool, true, false, cond, List, [], ◌∷◌, length, get_or, drop, refl, ap, ◌∙◌, subst}
use Rattle.std.proofs.lemmas.List.{at_drop_more, at_drop_all, drop_more}
use Rattle.std.specs.List.{prefix_len}
use Rattle.sopl_ast.specs.Pieces.{before_close, begins_with}

module _ (p : ℕ → Bool) where
  pub run_more : (xs : List ℕ) (i d : ℕ) → i < length xs → p (get_or xs i d) ≡ true → prefix_len p (drop i xs) ≡ 1 + prefix_len p (drop (i + 1) xs)
  run_more xs i d h e = at_drop_more (prefix_len p) xs i d h ∙ ap (λ b. cond b (1 + prefix_len p (drop (i + 1) xs)) 0) e

  pub run_stops : (xs : List ℕ) (i d : ℕ) → i < length xs → p (get_or xs i d) ≡ false → prefix_len p (drop i xs) ≡ 0
  run_stops xs i d h e = at_drop_more (prefix_len p) xs i d h ∙ ap (λ b. cond b (1 + prefix_len p (drop (i + 1) xs)) 0) e

  pub run_end : (xs : List ℕ) (i : ℕ) → length xs ≤ i → prefix_len p (drop i xs) ≡ 0
  run_end xs i h = at_drop_all (prefix_len p) xs i h

-- the bytes before `*/` in what is left, where it begins with that and where it does not
pub close_here : (xs : List ℕ) (i : ℕ) → begins_with 42 47 (drop i xs) ≡ true → before_close (drop i xs) ≡ 0
close_here xs i e = here (drop i xs) e
  where
    here : (ys : List ℕ) → begins_with 42 47 ys ≡ true → before_close ys ≡ 0
    here [] e = refl
    here (y ∷ ys) e = ap (λ b. cond b 0 (1 + before_close ys)) e

pub close_more : (xs : List ℕ) (i d : ℕ) → i < length xs → begins_with 42 47 (drop i xs) ≡ false → before_close (drop i xs) ≡ 1 + before_close (drop (i + 1) xs)
close_more xs i d h e =
    let cut = drop_more xs i d h in
    let P : List ℕ → Type 0 = λ ys. begins_with 42 47 ys ≡ false in
    let seen = subst P cut e in
    ap before_close cut ∙ ap (λ b. cond b 0 (1 + before_close (drop (i + 1) xs))) seen

pub close_end : (xs : List ℕ) (i : ℕ) → length xs ≤ i → before_close (drop i xs) ≡ 0
close_end xs i h = at_drop_all before_close xs i h
