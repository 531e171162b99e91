-- The loops of a trial.
use Rattle.std.proofs.Common.{arith, ◌≡◌, refl, sym, ap, subst, ◌∙◌, ℕ, zero, suc, ◌+◌, ◌<◌, ℤ, pos, ◌+ℤ◌, ◌*ℤ◌, true, List, [], ◌∷◌, ◌++◌, drop, get_or, length, map, Option, Some, None, IsSome}
use Rattle.std.proofs.Math.IntN.{+ℤ_assoc}
use Rattle.std.proofs.lemmas.List.{at_drop_more}
use Rattle.std.proofs.lemmas.List.FromFn.{get_or-map-range_with_len, map-range_with_len_more}
use Rattle.std.specs.List.{range_with_len}
use Rattle.std.specs.Option.{is_some}
use Rattle.sopl_ast.specs.Numbers.{all_of, both_of}
use Rattle.policy_eval.specs.Tried.{FitOn, weighted}

-- A test at each number.

-- A number at each number.

pub one_listed : (f : ℕ → ℤ) (n : ℕ) (xs new : List ℤ) (x : ℤ) → xs ≡ map f (range_with_len 0 n) → x ≡ f n → new ≡ xs ++ x ∷ [] → new ≡ map f (range_with_len 0 (n + 1))
one_listed f n xs new x are is put = put ∙ (λ i. are i ++ is i ∷ []) ∙ sym (map-range_with_len_more f 0 n n (omega arith))

-- A value at each number.

abbrev pub there_all : List ℤ → List (Option ℤ)
there_all xs = map (λ x. Some x) xs

more_there : (xs : List ℤ) (x : ℤ) → there_all (xs ++ x ∷ []) ≡ there_all xs ++ Some x ∷ []
more_there [] x = refl
more_there (y ∷ xs) x = ap (λ rest. Some y ∷ rest) (more_there xs x)

pub one_valued : (f : ℕ → Option ℤ) (n : ℕ) (xs new : List ℤ) (x : ℤ) → map f (range_with_len 0 n) ≡ there_all xs → Some x ≡ f n → new ≡ xs ++ x ∷ [] → map f (range_with_len 0 (n + 1)) ≡ there_all new
one_valued f n xs new x are is put =
    map-range_with_len_more f 0 n n (omega arith) ∙ (λ i. are i ++ sym is i ∷ []) ∙ sym (more_there xs x) ∙ ap there_all (sym put)

all_from : (f : ℕ → Option ℤ) (ns : List ℕ) (xs : List ℤ) → map f ns ≡ there_all xs → all_of f ns ≡ Some xs
all_from f [] [] are = refl
all_from f [] (x ∷ xs) are = absurd (cc)
all_from f (n ∷ ns) [] are = absurd (cc)
all_from f (n ∷ ns) (x ∷ xs) are =
    let here : f n ≡ Some x = ap (λ (l : List (Option ℤ)). get_or l 0 None) are in
    let later : map f ns ≡ there_all xs = ap (λ (l : List (Option ℤ)). drop 1 l) are in
    λ i. both_of (λ y ys. y ∷ ys) (here i) (all_from f ns xs later i)

pub valued_all : (f : ℕ → Option ℤ) (n k : ℕ) (xs : List ℤ) → n ≡ k → map f (range_with_len 0 k) ≡ there_all xs → all_of f (range_with_len 0 n) ≡ Some xs
valued_all f n k xs same are = ap (λ m. all_of f (range_with_len 0 m)) same ∙ all_from f (range_with_len 0 k) xs are

some_at : (xs : List ℤ) (i : ℕ) → is_some (get_or (there_all xs) i (Some (pos 0))) ≡ true
some_at [] i = refl
some_at (x ∷ xs) zero = refl
some_at (x ∷ xs) (suc i) = some_at xs i

pub valued_before : (f : ℕ → Option ℤ) (k : ℕ) (xs : List ℤ) → map f (range_with_len 0 k) ≡ there_all xs → (i : ℕ) → i < k → IsSome (f i)
valued_before f k xs are i below =
    sym (ap is_some (get_or-map-range_with_len f 0 k i i (Some (pos 0)) below (omega arith)))
    ∙ ap (λ (l : List (Option ℤ)). is_some (get_or l i (Some (pos 0)))) are
    ∙ some_at xs i

-- Weights times numbers.

pub record IsWeighed (ws xs : List ℤ) (sum : ℤ) (i : ℕ) : Type 0 where
  pub fits : FitOn sum (drop i ws) (drop i xs)
  pub rest : sum +ℤ weighted (drop i ws) (drop i xs) ≡ weighted ws xs

module _ (ws xs : List ℤ) (sum : ℤ) (i : ℕ) (x : ℤ) (many : length xs ≡ length ws) (below : i < length xs) (at : x ≡ get_or xs i (pos 0)) where
  abbrev w : ℤ
  w = get_or ws i (pos 0)

  numbers_left : drop i xs ≡ x ∷ drop (i + 1) xs
  numbers_left = at_drop_more (λ l. l) xs i (pos 0) below ∙ ap (λ y. y ∷ drop (i + 1) xs) (sym at)

  weights_left : drop i ws ≡ w ∷ drop (i + 1) ws
  weights_left = at_drop_more (λ l. l) ws i (pos 0) (omega (arith, below, many))

  next_fits : IsWeighed ws xs sum i → FitOn sum (w ∷ drop (i + 1) ws) (x ∷ drop (i + 1) xs)
  next_fits l = subst (λ ys. FitOn sum (w ∷ drop (i + 1) ws) ys) numbers_left (subst (λ vs. FitOn sum vs (drop i xs)) weights_left l.fits)

  pub weighed_more : (new : ℤ) → new ≡ sum +ℤ (w *ℤ x) → IsWeighed ws xs sum i → IsWeighed ws xs new (i + 1)
  weighed_more new put l =
      record {
        fits = subst (λ z. FitOn z (drop (i + 1) ws) (drop (i + 1) xs)) (sym put) (next_fits l).2;
        rest = ap (λ z. z +ℤ weighted (drop (i + 1) ws) (drop (i + 1) xs)) put
            ∙ +ℤ_assoc sum (w *ℤ x) (weighted (drop (i + 1) ws) (drop (i + 1) xs))
            ∙ (λ j. sum +ℤ weighted (sym weights_left j) (sym numbers_left j))
            ∙ l.rest;
      }
