-- Constraints, one by one.
use Rattle.std.proofs.Common.{◌≡◌, sym, ap, ◌∙◌, ℕ, ◌+◌, ◌<◌, ◌≤◌, List, ◌∷◌, ◌++◌, map, length, get_or, drop, arith}
use Rattle.std.proofs.lemmas.List.{at_drop_more, at_drop_all, append_assoc, append-nil, length-append}
use Rattle.sopl_ast.proofs.Lighter.{weight-constraint}
use Rattle.sopl_ast.specs.declared.constraints.Cons.{Cons}
use Rattle.sopl_ast.specs.Constraints.{cons_tree}
use Rattle.sopl_ast.specs.Tree.{Tree}
use Rattle.sopl_ast.specs.Unfolding.{conditions_of, all_conditions}
use Rattle.sopl_ast.specs.Whole.{conses}

-- the conditions of constraints
abbrev pub all_of : List Cons → List Tree
all_of xs = all_conditions (conses (map cons_tree xs))

module _ (xs : List Cons) (i : ℕ) where
  -- the conditions of the next one are counted
  pub numbered_more : (x : Cons) (n : ℕ) → i < length xs → x ≡ get_or xs i x
      → (n + length (conditions_of (cons_tree x))) + length (all_of (drop (i + 1) xs)) ≡ n + length (all_of (drop i xs))
  numbered_more x n below at =
      omega (
        arith,
        length-append (conditions_of (cons_tree x)) (all_of (drop (i + 1) xs)),
        ap (λ c. length (all_of (c ∷ drop (i + 1) xs))) at ∙ ap length (sym (at_drop_more all_of xs i x below)),
      )

  -- the conditions of none are left
  pub numbered_all : (n : ℕ) → length xs ≤ i → n + length (all_of (drop i xs)) ≡ n
  numbered_all n past = omega (arith, ap length (at_drop_all all_of xs i past))

  -- the conditions of the next one are added
  pub listed_more : (x : Cons) (found : List Tree) → i < length xs → x ≡ get_or xs i x
      → (found ++ conditions_of (cons_tree x)) ++ all_of (drop (i + 1) xs) ≡ found ++ all_of (drop i xs)
  listed_more x found below at =
      append_assoc found (conditions_of (cons_tree x)) (all_of (drop (i + 1) xs))
      ∙ ap (λ c. found ++ all_of (c ∷ drop (i + 1) xs)) at
      ∙ ap (λ rest. found ++ rest) (sym (at_drop_more all_of xs i x below))

  -- none is left to be added
  pub listed_all : (found : List Tree) → length xs ≤ i → found ++ all_of (drop i xs) ≡ found
  listed_all found past = ap (λ rest. found ++ rest) (at_drop_all all_of xs i past) ∙ append-nil found

pub ruleset parts = (weight-constraint, numbered_more, numbered_all, listed_more, listed_all)
