-- All arrays in instances have an item for each index, and no index twice.
use Rattle.std.proofs.Common.{ℕ, ℤ, pos, Bool, true, false, List, [], ◌∷◌, ◌++◌, map, Option, Some, None, IfSome, option_map, slice_get, if◌then◌else◌}
use Rattle.std.specs.List.{AllByRecursion}
use Rattle.std.specs.Option.{option_map_or}
use Rattle.std.specs.Ordering.{int_eq}
use Rattle.sopl_base.specs.declared.extreme.Extreme.{Extreme}
use Rattle.sopl_ast.specs.declared.operators.Function.{Function}
use Rattle.sopl_ast.specs.declared.operators.Function.TheVariants.{Negative, Size}
use Rattle.sopl_ast.specs.declared.operators.MulOp.TheVariants.{Times, Div, Mod}
use Rattle.sopl_ast.specs.Tree as t
use Rattle.sopl_ast.specs.Tree.{Tree, Shape, Trees, Factors, Node, no_tree, tree, no_factor, factor}
use Rattle.sopl_ast.specs.Known.{Binding}
use Rattle.sopl_ast.specs.Constants as constant
use Rattle.sopl_ast.specs.Instances.{Chance, Hard, Objective, Problem}
use Rattle.sopl_ast.specs.Scenarios.{Scenario, scenarios}
use Rattle.term_language.specs.Terms as c
use Rattle.term_language.specs.declared.made.Operation.{Operation}
use Rattle.term_language.specs.declared.made.Operation.TheVariants as unary
use Rattle.term_language.specs.declared.made.Divisor.{Divisor}
use Rattle.term_language.specs.Arrays.{item_in}
use Rattle.term_language.specs.Laws.{IsProper, AreProper, AreProperParts, AreProperTasks, AreProperConds, IsProperCond}
use Rattle.compile_laws.specs.Instances.{Place, TaskTerms, places, bound_elements, elements, undefined, item_term, named_term, terms_of, sum_of, tasks_of, function_of, extreme_of, divided}
use Rattle.compile_laws.specs.Instances.{number, condition, instance, shape_instance, instances, conditions, chain_instance, product_instance}
use Rattle.term_problem.specs.Problems.{ChanceTerms, GoalTerms}
use Rattle.compile_laws.specs.Whole.{place_at, condition_at, hard_terms, chance_terms, goal_terms}
use Rattle.compile_laws.specs.Tables.{IsProperInstance, InstancesAreProper, ProblemsAreProper}
use Rattle.compile_laws.proofs.Tables.{tables_are_sound}

number_proper : (x : c.Term) → IsProper x → IsProperInstance (number x)
number_proper x is = record { term = is; cond = tt }

condition_proper : (x : c.Cond) → IsProperCond x → IsProperInstance (condition x)
condition_proper x is = record { term = is; cond = is }

undefined_proper : IsProper undefined
undefined_proper = ((tables_are_sound []).1, tt)

item_proper : (o : Option c.Item) → IsProper (item_term o)
item_proper None = undefined_proper
item_proper (Some (c.Fixed z)) = tt
item_proper (Some (c.Free cell)) = tt

named_proper : (place : Place) (name : List ℕ) → IsProper (named_term place name)
named_proper place name = item_proper (item_in (bound_elements name place.known.bound ++ elements place name) [])

terms_proper : (f : Place → c.Term) → ((here : Place) → IsProper (f here)) → (ps : List Place) → AreProper (terms_of (map f ps))
terms_proper f each [] = tt
terms_proper f each (p ∷ ps) = (each p, terms_proper f each ps)

sum_proper : (f : Place → c.Term) → ((here : Place) → IsProper (f here)) → (ps : List Place) → AreProperParts (sum_of (map f ps))
sum_proper f each [] = tt
sum_proper f each (p ∷ ps) = (each p, sum_proper f each ps)

tasks_proper : (f : Place → TaskTerms) → ((here : Place) → IsProper (f here).start × IsProper (f here).duration × IsProper (f here).demand) → (ps : List Place)
    → AreProperTasks (tasks_of (map f ps))
tasks_proper f each [] = tt
tasks_proper f each (p ∷ ps) = let is = each p in (is.0, is.1, is.2, tasks_proper f each ps)

extreme_proper : (which : Extreme) (ts : c.Terms) → AreProper ts → IsProper (extreme_of which ts)
extreme_proper which c.no_term are = undefined_proper
extreme_proper which (c.term first later) are = are

called_proper : (f : Function) (a : c.Term) → IsProper a → IsProper (function_of f a)
called_proper Negative a is = (is, tt)
called_proper Size a is = is

pub divided_proper : (make : Divisor → Operation) (a : c.Term) → IsProper a → (d : Option ℤ) → IsProper (divided make a d)
divided_proper make a is None = undefined_proper
divided_proper make a is (Some z) = by_test (int_eq z (pos 0))
  where
    by_test : (b : Bool) → IsProper (if b then undefined else c.Made (make (record { number = z })) a)
    by_test true = undefined_proper
    by_test false = is

mutual
  proper : (e : Tree) (place : Place) → IsProperInstance (instance place e)
  proper (Node at shape) place = shape_proper shape place

  shape_proper : (shape : Shape) (place : Place) → IsProperInstance (shape_instance place shape)
  shape_proper (t.Lit z) place = number_proper (c.Constant z) tt
  shape_proper (t.Name name) place = number_proper (named_term place name) (named_proper place name)
  shape_proper (t.Index name no_tree) place = number_proper (named_term place name) (named_proper place name)
  shape_proper (t.Index name (tree e es)) place = number_proper _ ((tables_are_sound (elements place name)).1, ((proper e place).term, all_proper es place))
  shape_proper (t.Call f e) place = number_proper _ (called_proper f (instance place e).term (proper e place).term)
  shape_proper (t.Add parts) place = number_proper _ (chain_proper parts place)
  shape_proper (t.Mul first others) place = number_proper _ (product_proper others place (instance place first).term (proper first place).term)
  shape_proper (t.Cmp op a b) place = condition_proper _ ((proper a place).term, (proper b place).term)
  shape_proper (t.Not e) place = condition_proper _ (proper e place).cond
  shape_proper (t.And es) place = condition_proper _ (conditions_proper es place)
  shape_proper (t.Or es) place = condition_proper _ (conditions_proper es place)
  shape_proper (t.Implies a b) place = condition_proper _ ((proper a place).cond, (proper b place).cond)
  shape_proper (t.Sum bs e) place = number_proper _ (sum_proper (λ here. (instance here e).term) (λ here. (proper e here).term) (places place bs))
  shape_proper (t.Selected which es) place = number_proper _ (extreme_proper which (instances place es) (all_proper es place))
  shape_proper (t.AllDifferent bs e) place = condition_proper _ (terms_proper (λ here. (instance here e).term) (λ here. (proper e here).term) (places place bs))
  shape_proper (t.Cumulative bs start duration demand capacity) place =
      condition_proper _ (
        tasks_proper (λ here. record { start = (instance here start).term; duration = (instance here duration).term; demand = (instance here demand).term })
            (λ here. ((proper start here).term, (proper duration here).term, (proper demand here).term)) (places place bs),
        (proper capacity place).term,
      )

  all_proper : (es : Trees) (place : Place) → AreProper (instances place es)
  all_proper no_tree place = tt
  all_proper (tree e es) place = ((proper e place).term, all_proper es place)

  conditions_proper : (es : Trees) (place : Place) → AreProperConds (conditions place es)
  conditions_proper no_tree place = tt
  conditions_proper (tree e es) place = ((proper e place).cond, conditions_proper es place)

  chain_proper : (parts : t.Terms) (place : Place) → AreProperParts (chain_instance place parts)
  chain_proper t.no_term place = tt
  chain_proper (t.term minus e later) place = ((proper e place).term, chain_proper later place)

  product_proper : (others : Factors) (place : Place) (before : c.Term) → IsProper before → IsProper (product_instance place before others)
  product_proper no_factor place before is = is
  product_proper (factor Times e later) place before is = product_proper later place (c.Product before (instance place e).term) (is, (proper e place).term)
  product_proper (factor Div e later) place before is =
      product_proper later place (divided unary.Quotient before (constant.value place.known e)) (divided_proper unary.Quotient before is (constant.value place.known e))
  product_proper (factor Mod e later) place before is =
      product_proper later place (divided unary.Remainder before (constant.value place.known e)) (divided_proper unary.Remainder before is (constant.value place.known e))

pub instances_are_proper : InstancesAreProper
instances_are_proper place e = proper e place

-- Whole problems.

each_of : {A B : Type 0} (P : B → Type 0) (f : A → B) → ((x : A) → P (f x)) → (xs : List A) → AllByRecursion P (map f xs)
each_of P f each [] = tt
each_of P f each (x ∷ xs) = (each x, each_of P f each xs)

module _ (problem : Problem) where
  found_proper : (bound : List Binding) (s : Scenario) (found : Option Tree) → IsProperCond (option_map_or (λ e. (instance (place_at problem bound s) e).cond) found (c.Any c.no_cond))
  found_proper bound s None = tt
  found_proper bound s (Some e) = (proper e (place_at problem bound s)).cond

  conditions_are : (text : ℕ) (bound : List Binding) → AllByRecursion IsProperCond (map (condition_at problem text bound) (scenarios problem.stochastics))
  conditions_are text bound =
      each_of IsProperCond (condition_at problem text bound) (λ s. found_proper bound s (slice_get problem.conditions text)) (scenarios problem.stochastics)

  goal_are : (objective : Option Objective) → IfSome (option_map (goal_terms problem) objective) (λ (goal : GoalTerms). AllByRecursion IsProper goal.terms)
  goal_are None = tt
  goal_are (Some objective) =
      each_of IsProper (λ s. (instance (place_at problem [] s) objective.value).term) (λ s. (proper objective.value (place_at problem [] s)).term) (scenarios problem.stochastics)

pub problems_are_proper : ProblemsAreProper
problems_are_proper problem =
    record {
      hards = each_of (AllByRecursion IsProperCond) (hard_terms problem) (λ (h : Hard). conditions_are problem h.text h.bound) problem.hards;
      chances =
          each_of (λ (chance : ChanceTerms). AllByRecursion IsProperCond chance.conditions) (chance_terms problem)
          (λ (chance : Chance). conditions_are problem chance.text chance.bound) problem.chances;
      goal = goal_are problem problem.objective;
    }
