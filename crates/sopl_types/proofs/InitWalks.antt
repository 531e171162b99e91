-- Walks over initial values.
use Rattle.std.proofs.Common.{◌≡◌, refl, ℕ, ◌+◌, ◌<◌, ◌≤◌, List, map, length, get_or, drop, Option}
use Rattle.sopl_base.specs.declared.fault.Refusal.{Refusal}
use Rattle.sopl_ast.specs.declared.inits.Init.{Init}
use Rattle.sopl_ast.specs.Inits.{init_tree}
use Rattle.sopl_ast.specs.Mistakes.{Scope, of_init, of_inits}
use Rattle.sopl_ast.specs.Whole.{inits}
use Rattle.sopl_ast.proofs.InitWeights.{weight-part}
use Rattle.sopl_types.specs.Earliest.{earlier_of, earliest}
use Rattle.sopl_types.proofs.EarliestLemmas.{earlier_none}
use Rattle.sopl_types.proofs.Walks.{walk_more, walk_end}

module _ (scope : Scope) (first : Option Refusal) (xs : List Init) (i : ℕ) where
  pub inits_more : (x : Init) → i < length xs → x ≡ get_or xs i x →
      earlier_of (earlier_of first (earliest (of_init scope (init_tree x)))) (earliest (of_inits scope (inits (map init_tree (drop (i + 1) xs)))))
      ≡ earlier_of first (earliest (of_inits scope (inits (map init_tree (drop i xs)))))
  inits_more x below at = walk_more (λ ys. of_inits scope (inits (map init_tree ys))) first xs i (of_init scope (init_tree x)) x below at refl

  pub inits_end : length xs ≤ i → earlier_of first (earliest (of_inits scope (inits (map init_tree (drop i xs))))) ≡ first
  inits_end past = walk_end (λ ys. of_inits scope (inits (map init_tree ys))) first xs i refl past

pub ruleset init_walks = (weight-part, earlier_none, inits_more, inits_end)
