-- What is kept of a policy is its finite map.
use native.Mathlib.Omega.{arith}
use Rattle.std.proofs.Common.{◌≡◌, ◌∙◌, ◌+◌, ◌<◌, ◌≤◌, ℕ, zero, suc, ℤ, pos, List, [], ◌∷◌, ◌++◌, length, flat_map, get_or, slice_get, option_map, Some, refl, sym, ap, subst}
use Rattle.std.proofs.lemmas.List.{length-map, length-append}
use Rattle.std.proofs.lemmas.List.Quantifiers.{position-Some}
use Rattle.std.proofs.lemmas.Option.{slice_get-map, slice_get-get_or, slice_get_within}
use Rattle.std.specs.List.{AllByRecursion, enumerate_from}
use Rattle.std.specs.FinMap.{get}
use Rattle.sopl_base.proofs.Lists.{get_before, get_behind}
use Rattle.sopl_ast.specs.Cells.{Cell, IsPoint, cells, cells_of}
use Rattle.sopl_ast.specs.Histories.{histories, history, same_values}
use Rattle.sopl_ast.specs.Instances.{Decision, Problem, Stochastic}
use Rattle.sopl_ast.specs.Scenarios.{Scenario, scenarios}
use Rattle.sopl_ast.specs.Unfolding.{problem_of, text_events}
use Rattle.sopl_ast.specs.Whole.{ModelTree}
use Rattle.unfold_laws.specs.Passing.{NothingFails}
use Rattle.unfold_laws.proofs.Whole.{decisions_are_bounded}
use Rattle.policy_tree.proofs.Bijection.{cell_value}
use Rattle.policy_tree.proofs.Once.{same_is}
use Rattle.unfold_laws.specs.Bounds.{IsBoundedDecision, IsStage}
use Rattle.sopl_scen.specs.Layout.{IsTreeOf, Layout, cell_at, histories_in, history_in}
use Rattle.sopl_policy.specs.Kept.{IsPolicyFor, PolicyCells, firsts_from, first_cell, policy_map, value_kept}
use Rattle.sopl_policy.specs.Laid.{cells_end, laid_firsts}
use Rattle.sopl_policy.proofs.Laid.{each_before_end}

-- by the histories that a tree tells, the cells of each decision begin where those of the definition do
module _ (tree : Layout) (ss : List Stochastic) (counted : (stage : ℕ) → IsStage stage → histories_in tree stage ≡ length (histories stage ss)) where
  same_firsts : (first : ℕ) (ds : List Decision) → AllByRecursion IsBoundedDecision ds → laid_firsts tree first ds ≡ firsts_from ss first ds
  same_firsts first [] all = refl
  same_firsts first (d ∷ ds) all =
      ap (λ n. first ∷ laid_firsts tree (first + n) ds) (counted d.stage all.0.stage)
      ∙ ap (λ ns. first ∷ ns) (same_firsts (first + length (histories d.stage ss)) ds all.1)

  ends : (first n : ℕ) (ds : List Decision) → AllByRecursion IsBoundedDecision ds → cells_end tree first ds ≡ first + length (flat_map (cells_of ss) (enumerate_from n ds))
  ends first n [] all = omega arith
  ends first n (d ∷ ds) all =
      let many : length (cells_of ss (n, d)) ≡ length (histories d.stage ss) = length-map (histories d.stage ss) (cell_at n d) in
      let both : length (cells_of ss (n, d) ++ flat_map (cells_of ss) (enumerate_from (n + 1) ds))
      ≡ length (cells_of ss (n, d)) + length (flat_map (cells_of ss) (enumerate_from (n + 1) ds)) = length-append (cells_of ss (n, d)) (flat_map (cells_of ss) (enumerate_from (n + 1) ds)) in
      ends (first + histories_in tree d.stage) (n + 1) ds all.1 ∙ omega (arith, counted d.stage all.0.stage, many, both)

-- a point has a value for each cell
pub point_long : (cs : List Cell) (values : List ℤ) → IsPoint cs values → length values ≡ length cs
point_long [] [] is = refl
point_long [] (v ∷ values) is = absurd is
point_long (c ∷ cs) [] is = absurd is
point_long (c ∷ cs) (v ∷ values) is = ap suc (point_long cs values is.2)

-- the cells end where the values do
pub ends_there : (problem : Problem) (tree : Layout) (values : List ℤ) → IsTreeOf problem.decisions problem.stochastics tree → AllByRecursion IsBoundedDecision problem.decisions
    → IsPoint (cells problem) values → cells_end tree 0 problem.decisions ≡ length values
ends_there problem tree values laid bounded is =
    ends tree problem.stochastics laid.counted 0 0 problem.decisions bounded
    ∙ omega (arith, point_long (cells problem) values is)

-- what is made of a point's values is kept for its problem
pub kept_for : (problem : Problem) (tree : Layout) (kept : PolicyCells) → IsTreeOf problem.decisions problem.stochastics tree → AllByRecursion IsBoundedDecision problem.decisions
    → kept.firsts ≡ laid_firsts tree 0 problem.decisions → IsPoint (cells problem) kept.values → IsPolicyFor problem kept
kept_for problem tree kept laid bounded firsts is =
    record { firsts = firsts ∙ same_firsts tree problem.stochastics laid.counted 0 problem.decisions bounded; point = is }

-- and the cells of each decision are among all
pub all_within : (problem : Problem) (tree : Layout) (firsts : List ℕ) (values : List ℤ) → IsTreeOf problem.decisions problem.stochastics tree
    → AllByRecursion IsBoundedDecision problem.decisions → firsts ≡ laid_firsts tree 0 problem.decisions → IsPoint (cells problem) values
    → (k : ℕ) → get_or firsts k 0 ≤ length values
all_within problem tree firsts values laid bounded same is k =
    subst (λ ns. get_or ns k 0 ≤ length values) (sym same)
    (subst (λ n. get_or (laid_firsts tree 0 problem.decisions) k 0 ≤ n) (ends_there problem tree values laid bounded is) (each_before_end tree 0 problem.decisions k))

-- where the cell of a decision at a history stands, behind a number of cells
module _ (ss : List Stochastic) where
  placed : (first n : ℕ) (ds : List Decision) (j h : ℕ) (d : Decision) (seen : List ℤ) → slice_get ds j ≡ Some d → slice_get (histories d.stage ss) h ≡ Some seen
      → (k : ℕ) × (get_or (firsts_from ss first ds) j 0 ≡ first + k) × (get_or (firsts_from ss first ds) (suc j) 0 ≡ first + k + length (histories d.stage ss))
      × (slice_get (flat_map (cells_of ss) (enumerate_from n ds)) (k + h) ≡ Some (cell_at (n + j) d seen))
  placed first n [] j h d seen decided at = cc
  placed first n (e ∷ ds) zero h d seen decided at =
      let same : e ≡ d = cc in
      let here : slice_get (cells_of ss (n, d)) h ≡ Some (cell_at n d seen) = slice_get-map (cell_at n d) (histories d.stage ss) h ∙ ap (option_map (cell_at n d)) at in (
        0,
        omega arith,
        next_first (first + length (histories e.stage ss)) ds ∙ ap (λ (x : Decision). first + length (histories x.stage ss)) same ∙ omega arith,
        ap (λ (x : Decision). slice_get (cells_of ss (n, x) ++ flat_map (cells_of ss) (enumerate_from (n + 1) ds)) (0 + h)) same
            ∙ get_before (cells_of ss (n, d)) (flat_map (cells_of ss) (enumerate_from (n + 1) ds)) (0 + h) (cell_at n d seen) (ap (slice_get (cells_of ss (n, d))) (omega arith) ∙ here)
            ∙ ap (λ m. Some (cell_at m d seen)) (omega arith),
      )
    where
      next_first : (m : ℕ) (xs : List Decision) → get_or (firsts_from ss m xs) 0 0 ≡ m
      next_first m [] = refl
      next_first m (x ∷ xs) = refl
  placed first n (e ∷ ds) (suc j) h d seen decided at =
      let more = placed (first + length (histories e.stage ss)) (n + 1) ds j h d seen decided at in
      let many : length (cells_of ss (n, e)) ≡ length (histories e.stage ss) = length-map (histories e.stage ss) (cell_at n e) in
      let later : List Cell = flat_map (cells_of ss) (enumerate_from (n + 1) ds) in
      let where_is : length (histories e.stage ss) + more.0 + h ≡ length (cells_of ss (n, e)) + (more.0 + h) = omega (arith, many) in (
        length (histories e.stage ss) + more.0,
        more.1 ∙ omega arith,
        more.2 ∙ omega arith,
        ap (slice_get (cells_of ss (n, e) ++ later)) where_is ∙ get_behind (cells_of ss (n, e)) later (more.0 + h) ∙ more.3 ∙ ap (λ m. Some (cell_at m d seen)) (omega arith),
      )

module _ (problem : Problem) (kept : PolicyCells) (is : IsPolicyFor problem kept) where
  -- and there the map has the value that is kept
  pub value_mapped : (j h : ℕ) (d : Decision) (seen : List ℤ) → slice_get problem.decisions j ≡ Some d → slice_get (histories d.stage problem.stochastics) h ≡ Some seen
      → get (policy_map problem kept) (j, seen) ≡ Some (value_kept kept j h)
  value_mapped j h d seen decided at =
      let ss : List Stochastic = problem.stochastics in
      let there = placed ss 0 0 problem.decisions j h d seen decided at in
      let first : first_cell kept j ≡ there.0 = ap (λ ns. get_or ns j 0) is.firsts ∙ there.1 ∙ omega arith in
      let cell : slice_get (cells problem) (first_cell kept j + h) ≡ Some (cell_at j d seen) =
      ap (λ n. slice_get (cells problem) (n + h)) first ∙ there.3 ∙ ap (λ m. Some (cell_at m d seen)) (omega arith) in
      let inside : first_cell kept j + h < length kept.values =
      subst (λ n. first_cell kept j + h < n) (sym (point_long (cells problem) kept.values is.point)) (slice_get_within (cells problem) (first_cell kept j + h) (cell_at j d seen) cell) in
      cell_value problem kept.values (first_cell kept j + h) (cell_at j d seen) (value_kept kept j h) cell
      (slice_get-get_or kept.values (first_cell kept j + h) (pos 0) inside)

-- a tree tells the number of a scenario's history
pub history_told : (ds : List Decision) (ss : List Stochastic) (tree : Layout) → IsTreeOf ds ss tree → (stage i : ℕ) (s : Scenario) → IsStage stage
    → slice_get (scenarios ss) i ≡ Some s → slice_get (histories stage ss) (history_in tree stage i) ≡ Some (history stage ss s.values)
history_told ds ss tree laid stage i s staged at =
    let seen : List ℤ = history stage ss s.values in
    let found = position-Some (same_values seen) (histories stage ss) (history_in tree stage i) seen (laid.numbered stage i s staged at) in
    slice_get-get_or (histories stage ss) (history_in tree stage i) seen found.0
    ∙ ap Some (sym ((same_is seen (get_or (histories stage ss) (history_in tree stage i) seen)).0 found.1))

-- the decisions of a model that passes are bounded
pub bounded_in : (model : ModelTree) → NothingFails (text_events model) → (ds : List Decision) → ds ≡ (problem_of model).decisions → AllByRecursion IsBoundedDecision ds
bounded_in model passes ds is = subst (AllByRecursion IsBoundedDecision) (sym is) (decisions_are_bounded model passes)
