-- Walks over constraints.
use Rattle.std.proofs.Common.{◌≡◌, refl, ℕ, ◌+◌, ◌<◌, ◌≤◌, List, map, length, get_or, drop, Option}
use Rattle.sopl_base.specs.declared.fault.Refusal.{Refusal}
use Rattle.sopl_ast.proofs.Lighter.{weight-constraint}
use Rattle.sopl_ast.specs.declared.constraints.Cons.{Cons}
use Rattle.sopl_ast.specs.Constraints.{cons_tree}
use Rattle.sopl_ast.specs.Mistakes.{Scope, of_constraint, of_constraints}
use Rattle.sopl_ast.specs.Whole.{conses}
use Rattle.sopl_types.specs.Earliest.{earlier_of, earliest}
use Rattle.sopl_types.proofs.EarliestLemmas.{earlier_none, earlier_three, earliest_both}
use Rattle.sopl_types.proofs.Walks.{walk_more, walk_end}

module _ (scope : Scope) (first : Option Refusal) (xs : List Cons) (i : ℕ) where
  pub constraints_more : (x : Cons) → i < length xs → x ≡ get_or xs i x →
      earlier_of (earlier_of first (earliest (of_constraint scope (cons_tree x)))) (earliest (of_constraints scope (conses (map cons_tree (drop (i + 1) xs)))))
      ≡ earlier_of first (earliest (of_constraints scope (conses (map cons_tree (drop i xs)))))
  constraints_more x below at = walk_more (λ ys. of_constraints scope (conses (map cons_tree ys))) first xs i (of_constraint scope (cons_tree x)) x below at refl

  pub constraints_end : length xs ≤ i → earlier_of first (earliest (of_constraints scope (conses (map cons_tree (drop i xs))))) ≡ first
  constraints_end past = walk_end (λ ys. of_constraints scope (conses (map cons_tree ys))) first xs i refl past

pub ruleset cons_walks = (weight-constraint, earlier_none, earlier_three, earliest_both, constraints_more, constraints_end)
