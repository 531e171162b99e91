-- What it says of a whole list that none of its prefixes is above a limit.
use Rattle.std.proofs.Common.{arith, ◌≡◌, ◌∙◌, sym, ap, ℕ, ◌-◌, ◌^◌, ℤ, pos, ◌≤ℤ◌, int_le, List, [], ◌∷◌, map, None}
use Rattle.std.proofs.lemmas.Int.{ints}
use Rattle.std.proofs.lemmas.Simd.{map-map}
use Rattle.std.specs.Int.{int_min}
use Rattle.sopl_base.specs.declared.fault.Excess.{Excess}
use Rattle.sopl_base.proofs.Tests.{le_tested}
use Rattle.sopl_base.specs.declared.codes.TheConstants as codes
use Rattle.sopl_ast.specs.Instances.{Problem, Stochastic}
use Rattle.sopl_ast.specs.Limits.{first_above, prefixes, size_excess, usual_limits, weight_excess}
use Rattle.sopl_ast.specs.Scenarios.{total_weight}
use Rattle.sopl_ast.specs.UnfoldEvents.{excess}
use Rattle.lang_laws.proofs.Shared.{first_none, later_none, passed}

abbrev told : ℕ → ℕ → ℤ → Excess
told code limit n = excess code (int_min n (pos (2 ^ 127 - 1))) (pos limit)

pub whole_within : {A : Type 0} (code limit : ℕ) (f : List A → ℤ) (x : A) (xs : List A) → first_above code limit (map f (prefixes (x ∷ xs))) ≡ None → f (x ∷ xs) ≤ℤ pos limit
whole_within code limit f x [] none = le_tested (f (x ∷ [])) (pos limit) (passed (int_le (f (x ∷ [])) (pos limit)) (told code limit (f (x ∷ []))) None none)
whole_within {A} code limit f x (y ∷ ys) none =
    let behind : List A → ℤ = λ (prefix : List A). f (x ∷ prefix) in
    let later : first_above code limit (map f (map (λ (prefix : List A). x ∷ prefix) (prefixes (y ∷ ys)))) ≡ None =
    later_none (int_le (f (x ∷ [])) (pos limit)) (told code limit (f (x ∷ []))) (first_above code limit (map f (map (λ (prefix : List A). x ∷ prefix) (prefixes (y ∷ ys))))) none in
    whole_within code limit behind y ys (sym (ap (first_above code limit) (map-map f (λ (prefix : List A). x ∷ prefix) (prefixes (y ∷ ys)))) ∙ later)

-- the weight of all scenarios
pub light_within : (problem : Problem) → size_excess usual_limits problem ≡ None → total_weight problem.stochastics ≤ℤ pos (2 ^ 100)
light_within problem within = by problem.stochastics (first_none (weight_excess usual_limits problem) _ within)
  where
    by : (ss : List Stochastic) → first_above codes.WEIGHT usual_limits.weight (map total_weight (prefixes ss)) ≡ None → total_weight ss ≤ℤ pos (2 ^ 100)
    by [] none = omega (arith, ints)
    by (s ∷ ss) none = whole_within codes.WEIGHT usual_limits.weight total_weight s ss none
