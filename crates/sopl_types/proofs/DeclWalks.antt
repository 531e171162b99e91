-- Walks over the parts of a declaration.
use Rattle.std.proofs.Common.{◌≡◌, refl, sym, ap, ◌∙◌, true, ℕ, ◌+◌, ◌<◌, ◌≤◌, List, ◌∷◌, ◌++◌, length, get_or, drop, Option, append_assoc}
use Rattle.std.proofs.lemmas.List.{at_drop_more, at_drop_all}
use Rattle.sopl_ast.specs.Tree.{Tree}
use Rattle.sopl_ast.specs.Whole.{DimTree}
use Rattle.sopl_base.specs.declared.fault.Refusal.{Refusal}
use Rattle.sopl_ast.specs.Mistakes.{Scope, bind_dim, bind_dims, of_dim_name, of_dims, of_range, of_number, of_outcomes}
use Rattle.sopl_types.specs.Earliest.{earlier_of, earliest}
use Rattle.sopl_types.proofs.EarliestLemmas.{earlier_none, earlier_three, earliest_both}
use Rattle.sopl_types.proofs.Walks.{walk_end}

module _ (scope names : Scope) (xs : List DimTree) (i : ℕ) where
  pub dims_bound : (x : DimTree) → i < length xs → x ≡ get_or xs i x →
      bind_dims (drop (i + 1) xs) (bind_dim x.binder names) ≡ bind_dims (drop i xs) names
  dims_bound x below at = ap (λ y. bind_dims (drop (i + 1) xs) (bind_dim y.binder names)) at ∙ sym (at_drop_more (λ ys. bind_dims ys names) xs i x below)

  pub dims_all_bound : length xs ≤ i → bind_dims (drop i xs) names ≡ names
  dims_all_bound past = at_drop_all (λ ys. bind_dims ys names) xs i past

  pub dims_more : (first : Option Refusal) (x : DimTree) → i < length xs → x ≡ get_or xs i x →
      earlier_of (earlier_of first (earliest (of_dim_name names x.binder x.at ++ of_range scope true x.range)))
      (earliest (of_dims scope (bind_dim x.binder names) (drop (i + 1) xs)))
      ≡ earlier_of first (earliest (of_dims scope names (drop i xs)))
  dims_more first x below at =
      let known = of_dim_name names x.binder x.at in
      let range = of_range scope true x.range in
      let rest = of_dims scope (bind_dim x.binder names) (drop (i + 1) xs) in
      earlier_three first (earliest (known ++ range)) (earliest rest)
      ∙ ap (earlier_of first) (sym (earliest_both (known ++ range) rest) ∙ ap earliest (append_assoc known range rest)
      ∙ ap (λ y. earliest (of_dims scope names (y ∷ drop (i + 1) xs))) at ∙ sym (ap earliest (at_drop_more (λ ys. of_dims scope names ys) xs i x below)))

  pub dims_end : (first : Option Refusal) → length xs ≤ i → earlier_of first (earliest (of_dims scope names (drop i xs))) ≡ first
  dims_end first past = walk_end (λ ys. of_dims scope names ys) first xs i refl past

module _ (scope : Scope) (xs : List (Tree × Tree)) (i : ℕ) (first : Option Refusal) where
  pub outcomes_more : (x : Tree × Tree) → i < length xs → x ≡ get_or xs i x →
      earlier_of (earlier_of first (earliest (of_number scope true x.0 ++ of_number scope true x.1))) (earliest (of_outcomes scope (drop (i + 1) xs)))
      ≡ earlier_of first (earliest (of_outcomes scope (drop i xs)))
  outcomes_more x below at =
      let rest = of_outcomes scope (drop (i + 1) xs) in
      earlier_three first (earliest (of_number scope true x.0 ++ of_number scope true x.1)) (earliest rest)
      ∙ ap (earlier_of first) (sym (earliest_both (of_number scope true x.0 ++ of_number scope true x.1) rest)
      ∙ ap earliest (append_assoc (of_number scope true x.0) (of_number scope true x.1) rest)
      ∙ ap (λ y. earliest (of_outcomes scope (y ∷ drop (i + 1) xs))) at ∙ sym (ap earliest (at_drop_more (of_outcomes scope) xs i x below)))

  pub outcomes_end : length xs ≤ i → earlier_of first (earliest (of_outcomes scope (drop i xs))) ≡ first
  outcomes_end past = walk_end (of_outcomes scope) first xs i refl past

pub ruleset decl_walks = (earlier_none, earlier_three, earliest_both, dims_bound, dims_all_bound, dims_more, dims_end, outcomes_more, outcomes_end)
