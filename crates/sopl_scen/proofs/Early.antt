-- The limits that are tested first.
use Rattle.std.proofs.Common.{◌≡◌, ◌*◌, ◌≤◌, ℕ, ℤ, pos, ◌*ℤ◌, ◌≤ℤ◌, List, [], ◌∷◌, length, map, Option, Some, None, arith, sym, ap, subst, ◌∙◌}
use Rattle.std.proofs.Math.IntN.{pos-*ℤ-pos}
use Rattle.std.proofs.lemmas.Int.{ints}
use Rattle.sopl_base.specs.declared.fault.Excess.{Excess}
use Rattle.sopl_base.specs.declared.codes.TheConstants as codes
use Rattle.sopl_ast.specs.Numbers.{or_else}
use Rattle.sopl_ast.specs.Instances.{Stochastic}
use Rattle.sopl_ast.specs.Scenarios.{scenarios, total_weight}
use Rattle.sopl_ast.specs.Limits.{first_above, prefixes, usual_limits}
use Rattle.scen_laws.specs.Laws.{first_passed, product_of, weight_factor, count_factor}
use Rattle.scen_laws.proofs.Products.{products_run}
use Rattle.scen_laws.proofs.Counts.{counts_multiply}
use Rattle.scen_laws.proofs.Weights.{weights_multiply}
use Rattle.sopl_scen.specs.Sizes.{early_excess}

-- the running products, and the prefixes of the definitions
weights_run : (ss : List Stochastic) → first_above codes.WEIGHT usual_limits.weight (map total_weight (prefixes ss)) ≡ first_passed codes.WEIGHT usual_limits.weight weight_factor (pos 1) ss
weights_run ss =
    (λ i. first_above codes.WEIGHT usual_limits.weight (map (λ (prefix : List Stochastic). weights_multiply prefix i) (prefixes ss)))
    ∙ products_run codes.WEIGHT usual_limits.weight weight_factor ss

counts_run : (ss : List Stochastic)
    → first_above codes.SCENARIOS usual_limits.scenarios (map (λ prefix. pos (length (scenarios prefix))) (prefixes ss)) ≡ first_passed codes.SCENARIOS usual_limits.scenarios count_factor (pos 1) ss
counts_run ss =
    (λ i. first_above codes.SCENARIOS usual_limits.scenarios (map (λ (prefix : List Stochastic). counts_multiply prefix i) (prefixes ss)))
    ∙ products_run codes.SCENARIOS usual_limits.scenarios count_factor ss

first_is : (a b : Option Excess) (e : Excess) → a ≡ Some e → or_else a b ≡ Some e
first_is a b e is = ap (λ o. or_else o b) is

second_is : (a b : Option Excess) → a ≡ None → or_else a b ≡ b
second_is a b is = ap (λ o. or_else o b) is

-- what a product of scenarios is
pub count_is_product : (ss : List Stochastic) (v : ℤ) → v ≡ product_of count_factor ss → v ≡ pos (length (scenarios ss))
count_is_product ss v is = is ∙ sym (counts_multiply ss)

pub total_is_product : (ss : List Stochastic) (v : ℤ) → v ≡ product_of weight_factor ss → v ≡ total_weight ss
total_is_product ss v is = is ∙ sym (weights_multiply ss)

copies_are : (n : ℕ) (ss : List Stochastic) (v : ℤ) → v ≡ product_of count_factor ss → pos n *ℤ v ≡ pos (n * length (scenarios ss))
copies_are n ss v is = ap (λ z. pos n *ℤ z) (count_is_product ss v is) ∙ pos-*ℤ-pos n (length (scenarios ss))

pub early_weight : (n : ℕ) (ss : List Stochastic) (e : Excess) → first_passed codes.WEIGHT usual_limits.weight weight_factor (pos 1) ss ≡ Some e → early_excess n ss ≡ Some e
unfolding early_excess
early_weight n ss e is = first_is _ _ e (weights_run ss ∙ is)

pub early_count : (n : ℕ) (ss : List Stochastic) (e : Excess) → first_passed codes.WEIGHT usual_limits.weight weight_factor (pos 1) ss ≡ None
    → first_passed codes.SCENARIOS usual_limits.scenarios count_factor (pos 1) ss ≡ Some e → early_excess n ss ≡ Some e
unfolding early_excess
early_count n ss e light is = second_is _ _ (weights_run ss ∙ light) ∙ first_is _ _ e (counts_run ss ∙ is)

pub early_copies : (n : ℕ) (ss : List Stochastic) (v : ℤ) (o : Option Excess) → first_passed codes.WEIGHT usual_limits.weight weight_factor (pos 1) ss ≡ None
    → first_passed codes.SCENARIOS usual_limits.scenarios count_factor (pos 1) ss ≡ None → v ≡ product_of count_factor ss
    → first_above codes.COPIES usual_limits.copies ((pos n *ℤ v) ∷ []) ≡ o → early_excess n ss ≡ o
unfolding early_excess
early_copies n ss v o light few is at =
    second_is _ _ (weights_run ss ∙ light)
    ∙ (second_is _ _ (counts_run ss ∙ few) ∙ (ap (λ z. first_above codes.COPIES usual_limits.copies (z ∷ [])) (sym (copies_are n ss v is)) ∙ at))

pub count_few : (ss : List Stochastic) (v : ℤ) → v ≡ product_of count_factor ss → v ≤ℤ pos usual_limits.scenarios → length (scenarios ss) ≤ usual_limits.scenarios
count_few ss v is few = below (length (scenarios ss)) (subst (λ z. z ≤ℤ pos usual_limits.scenarios) (count_is_product ss v is) few)
  where
    below : (n : ℕ) → pos n ≤ℤ pos usual_limits.scenarios → n ≤ usual_limits.scenarios
    below n order = omega (arith, ints, order)

pub copies_few : (n : ℕ) (ss : List Stochastic) (v : ℤ) → v ≡ product_of count_factor ss → (pos n *ℤ v) ≤ℤ pos usual_limits.copies → n * length (scenarios ss) ≤ usual_limits.copies
copies_few n ss v is few = below (n * length (scenarios ss)) (subst (λ z. z ≤ℤ pos usual_limits.copies) (copies_are n ss v is) few)
  where
    below : (k : ℕ) → pos k ≤ℤ pos usual_limits.copies → k ≤ usual_limits.copies
    below k order = omega (arith, ints, order)

pub count_positive : (ss : List Stochastic) (v : ℤ) → v ≡ product_of count_factor ss → pos 0 ≤ℤ v
count_positive ss v is = subst (λ z. pos 0 ≤ℤ z) (sym (count_is_product ss v is)) (least (length (scenarios ss)))
  where
    least : (k : ℕ) → pos 0 ≤ℤ pos k
    least k = omega (arith, ints)
