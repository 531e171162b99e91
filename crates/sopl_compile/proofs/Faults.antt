-- The sizes of a problem's terms, part by part.
use Rattle.std.proofs.Common.{arith, ◌≡◌, ◌∙◌, refl, sym, ap, subst, ◌⊎◌, ◌+◌, ◌-◌, ◌^◌, min, ℤ, pos, negsuc, ◌*ℤ◌, ◌≤ℤ◌, ◌<ℤ◌, false, List, [], ◌++◌, Option, Some}
use Rattle.std.proofs.Common.{None, IfSome, option_map, Result}
use Rattle.std.proofs.lemmas.Int.{ints, clamps}
use Rattle.std.specs.Int.{int_min, saturate_signed, w128}
use Rattle.std.specs.List.{flat_map}
use Rattle.std.specs.Option.{option_map_or}
use Rattle.box_problem.specs.Box.{Box}
use Rattle.term_language.specs.Terms.{Term}
use Rattle.compile_laws.specs.Whole.{goal_terms, problem_terms}
use Rattle.term_problem.specs.Objective.{greatest_size}
use Rattle.term_problem.specs.Problems.{ChanceTerms, GoalTerms, ProblemTerms}
use Rattle.compile_laws.proofs.Measuring.{faults_end, faults_in_turn, goal_is_allowed, goal_is_refused, measures_in_turn}
use Rattle.compile_laws.specs.SizeLaws.{IsLargeGoal}
use Rattle.compile_laws.specs.Measured.{IsSizeFault, Measures, constraint_subterms, first_large, goal_excess, goal_number, goal_subterms, large_excess, measured_excess, measured_terms}
use Rattle.sopl_ast.specs.Instances.{Objective, Problem}
use Rattle.sopl_ast.specs.Numbers.{or_else}
use Rattle.sopl_ast.specs.UnfoldEvents.{excess}
use Rattle.sopl_base.specs.declared.fault.Excess.{Excess}
use Rattle.sopl_base.specs.declared.fault.Fault.{Fault}
use Rattle.sopl_base.specs.declared.fault.Fault.TheVariants.{Limit, NoMemory}
use Rattle.sopl_base.specs.declared.codes.TheConstants as codes
use Rattle.scen_laws.proofs.Splits.{times_one}
use Rattle.sopl_compile.specs.Begun.{worst_of}
use Rattle.sopl_compile.specs.Posed.{terms_asked}

-- out of memory, or the limit that is passed
abbrev pub IsLimitOf : Option Excess → Fault → Type 0
IsLimitOf told fault = (fault ≡ NoMemory) ⊎ ((e : Excess) × (fault ≡ Limit e) × (told ≡ Some e))

module _ (root : Box) (terms : ProblemTerms) where
  abbrev in_hards : List Term
  in_hards = flat_map constraint_subterms terms.hards

  abbrev in_chances : List Term
  in_chances = flat_map (λ (chance : ChanceTerms). constraint_subterms chance.conditions) terms.chances

  abbrev in_goal : List Term
  in_goal = option_map_or goal_subterms terms.goal []

  -- a fault in the hard constraints, and one in the chance constraints behind small hard ones
  pub hards_fault : (fault : Fault) → IsSizeFault root in_hards fault → IsSizeFault root (measured_terms terms) fault
  hards_fault fault large = faults_end root in_hards (in_chances ++ in_goal) fault large

  pub chances_fault : (fault : Fault) → first_large root in_hards ≡ None → IsSizeFault root in_chances fault → IsSizeFault root (measured_terms terms) fault
  chances_fault fault none large = faults_in_turn root in_hards (in_chances ++ in_goal) fault none (faults_end root in_chances in_goal fault large)

  -- the objective behind small constraints
  pub goal_measures : {A : Type 0} (result : Result A Fault) → first_large root in_hards ≡ None → first_large root in_chances ≡ None → Measures root in_goal result
      → Measures root (measured_terms terms) result
  goal_measures result hards chances measures =
      measures_in_turn root in_hards (in_chances ++ in_goal) result hards (measures_in_turn root in_chances in_goal result chances measures)

  -- behind terms that are small the objective's number counts
  pub goal_alone : first_large root (measured_terms terms) ≡ None → measured_excess root terms ≡ goal_excess root terms
  goal_alone none = ap (λ n. or_else (option_map large_excess n) (goal_excess root terms)) none

-- The objective's number.

-- the number of 128 bits that is nearest to one that is not negative
nearest : (z : ℤ) → pos 0 ≤ℤ z → saturate_signed w128 z ≡ int_min z (pos (2 ^ 127 - 1))
nearest (pos n) from =
    let capped : saturate_signed w128 (pos n) ≡ pos (min n (2 ^ 127 - 1)) = refl in
    capped ∙ omega (arith, ints, clamps)
nearest (negsuc n) from = absurd (omega (arith, ints, from))

none_larger : (z w : ℤ) → pos (2 ^ 126) <ℤ z → z ≡ w → w ≤ℤ pos (2 ^ 100) → ⊥
none_larger z w large is light = omega (arith, ints, large, is, light)

above_zero : (z : ℤ) → pos (2 ^ 126) <ℤ z → pos 0 ≤ℤ z
above_zero z large = omega (arith, ints, large)

module _ (root : Box) (problem : Problem) where
  abbrev pub asked_number : ℤ
  asked_number = (problem_terms problem).whole *ℤ pos (greatest_size root (terms_asked problem) + 1)

  -- an expected objective of at most this number is allowed
  pub goal_allowed : (worst_of problem ≡ false → asked_number ≤ℤ pos (2 ^ 126)) → goal_excess root (problem_terms problem) ≡ None
  goal_allowed most = (goal_is_allowed root (problem_terms problem)).1 (by problem.objective most)
    where
      by : (x : Option Objective)
          → (option_map_or (λ (o : Objective). o.worst) x false ≡ false
          → ((problem_terms problem).whole *ℤ pos (greatest_size root (option_map_or (λ (o : Objective). (goal_terms problem o).terms) x []) + 1)) ≤ℤ pos (2 ^ 126))
          → IfSome (option_map (goal_terms problem) x) (λ (g : GoalTerms). g.worst ≡ false → goal_number root (problem_terms problem) g ≤ℤ pos (2 ^ 126))
      by None h = tt
      by (Some o) h = h

  -- one of a greater number is refused, and there is one
  pub goal_refused : (problem_terms problem).whole ≤ℤ pos (2 ^ 100) → worst_of problem ≡ false → pos (2 ^ 126) <ℤ asked_number
      → goal_excess root (problem_terms problem) ≡ Some (excess codes.TERM_SIZE (saturate_signed w128 asked_number) (pos (2 ^ 126)))
  goal_refused light expected large = (goal_is_refused root (problem_terms problem) (excess codes.TERM_SIZE (saturate_signed w128 asked_number) (pos (2 ^ 126)))).1 (by problem.objective refl)
    where
      told : excess codes.TERM_SIZE (saturate_signed w128 asked_number) (pos (2 ^ 126)) ≡ excess codes.TERM_SIZE (int_min asked_number (pos (2 ^ 127 - 1))) (pos (2 ^ 126))
      told = ap (λ (n : ℤ). excess codes.TERM_SIZE n (pos (2 ^ 126))) (nearest asked_number (above_zero asked_number large))

      by : (x : Option Objective) → problem.objective ≡ x → IsLargeGoal root (problem_terms problem) (excess codes.TERM_SIZE (saturate_signed w128 asked_number) (pos (2 ^ 126)))
      by None none =
          let is : asked_number ≡ (problem_terms problem).whole *ℤ pos 1 =
          ap (λ (x : Option Objective). (problem_terms problem).whole *ℤ pos (greatest_size root (option_map_or (λ (o : Objective). (goal_terms problem o).terms) x []) + 1)) none in
          absurd (none_larger asked_number (problem_terms problem).whole large (is ∙ times_one (problem_terms problem).whole) light)
      by (Some o) some = record {
        objective = goal_terms problem o;
        stands = ap (option_map (goal_terms problem)) some;
        expected = sym (ap (λ (x : Option Objective). option_map_or (λ (o : Objective). o.worst) x false) some) ∙ expected;
        large = subst (λ (x : Option Objective). pos (2 ^ 126)
            <ℤ ((problem_terms problem).whole *ℤ pos (greatest_size root (option_map_or (λ (o : Objective). (goal_terms problem o).terms) x []) + 1))) some large;
        told = told
            ∙ ap (λ (x : Option Objective). excess codes.TERM_SIZE
            (int_min ((problem_terms problem).whole *ℤ pos (greatest_size root (option_map_or (λ (o : Objective). (goal_terms problem o).terms) x []) + 1)) (pos (2 ^ 127 - 1))) (pos (2 ^ 126))) some;
      }
