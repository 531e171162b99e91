-- Running products, one variable after the other.
use Rattle.std.proofs.Common.{◌≡◌, ◌+◌, ◌-◌, ◌≤◌, ◌<◌, ◌^◌, ℕ, ℤ, pos, ◌*ℤ◌, ◌≤ℤ◌, ◌<ℤ◌, cond, List, [], ◌∷◌, length, drop, get_or, Some, None, arith, sym, ap, subst, ◌∙◌}
use Rattle.std.proofs.lemmas.Int.{ints}
use Rattle.std.specs.Int.{int_min}
use Rattle.sopl_base.specs.declared.fault.Excess.{Excess}
use Rattle.sopl_base.proofs.Tests.{le_test, le_untest}
use Rattle.sopl_base.proofs.Integers.{*ℤ_assoc}
use Rattle.sopl_base.proofs.Lists.{drop_next}
use Rattle.sopl_ast.specs.Instances.{Stochastic}
use Rattle.sopl_ast.specs.UnfoldEvents.{excess}
use Rattle.sopl_ast.specs.Limits.{first_above}
use Rattle.scen_laws.specs.Laws.{first_passed, product_of}
use Rattle.scen_laws.proofs.Weights.{products_within}

-- how far a product has run
pub record IsRun (code limit : ℕ) (f : Stochastic → ℤ) (ss : List Stochastic) (so_far : ℤ) (left : List Stochastic) : Type 0 where
  pub run : first_passed code limit f so_far left ≡ first_passed code limit f (pos 1) ss
  pub product : so_far *ℤ product_of f left ≡ product_of f ss
  pub least : pos 1 ≤ℤ so_far
  pub few : so_far ≤ℤ pos limit

-- a product of numbers from 1 on
positive : (a b : ℤ) → pos 1 ≤ℤ a → pos 1 ≤ℤ b → pos 1 ≤ℤ (a *ℤ b)
positive a b one two = (products_within a a b b (one, omega (arith, ints)) (two, omega (arith, ints))).0

run_more : (code limit : ℕ) (f : Stochastic → ℤ) (ss : List Stochastic) (so_far : ℤ) (s : Stochastic) (later : List Stochastic)
    → pos 1 ≤ℤ f s → (so_far *ℤ f s) ≤ℤ pos limit → IsRun code limit f ss so_far (s ∷ later) → IsRun code limit f ss (so_far *ℤ f s) later
run_more code limit f ss so_far s later least few r =
    record {
      run =
          sym (λ i. cond (le_test (so_far *ℤ f s) (pos limit) few i)
          (first_passed code limit f (so_far *ℤ f s) later) (Some (excess code (int_min (so_far *ℤ f s) (pos (2 ^ 127 - 1))) (pos limit))))
          ∙ r.run;
      product = *ℤ_assoc so_far (f s) (product_of f later) ∙ r.product;
      least = positive so_far (f s) r.least least;
      few = few;
    }

pub run_next : (code limit : ℕ) (f : Stochastic → ℤ) (ss : List Stochastic) (i : ℕ) (s : Stochastic) (so_far factor now : ℤ)
    → i < length ss → s ≡ get_or ss i s → factor ≡ f s → pos 1 ≤ℤ f s → now ≡ so_far *ℤ factor → now ≤ℤ pos limit
    → IsRun code limit f ss so_far (drop i ss) → IsRun code limit f ss now (drop (i + 1) ss)
run_next code limit f ss i s so_far factor now within is by least made few r =
    let same : now ≡ so_far *ℤ f s = made ∙ ap (λ z. so_far *ℤ z) by in
    let left : drop i ss ≡ s ∷ drop (i + 1) ss = drop_next ss i s within is in
    subst (λ z. IsRun code limit f ss z (drop (i + 1) ss)) (sym same)
    (run_more code limit f ss so_far s (drop (i + 1) ss) least (subst (λ z. z ≤ℤ pos limit) same few)
    (subst (IsRun code limit f ss so_far) left r))

-- One number.

pub one_within : (code limit : ℕ) (n : ℤ) → n ≤ℤ pos limit → first_above code limit (n ∷ []) ≡ None
one_within code limit n few = λ i. cond (le_test n (pos limit) few i) None (Some (excess code (int_min n (pos (2 ^ 127 - 1))) (pos limit)))

pub one_above : (code limit : ℕ) (n : ℤ) (e : Excess) → pos limit <ℤ n → e ≡ excess code (int_min n (pos (2 ^ 127 - 1))) (pos limit)
    → first_above code limit (n ∷ []) ≡ Some e
one_above code limit n e more made =
    (λ i. cond (le_untest n (pos limit) more i) None (Some (excess code (int_min n (pos (2 ^ 127 - 1))) (pos limit)))) ∙ ap Some (sym made)
