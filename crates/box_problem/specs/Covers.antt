-- What a search keeps of its open boxes.
use Rattle.std.specs.Prelude.{ℕ, ◌+◌, ◌-◌, ◌*◌, ◌≤◌, ℤ, List, Option, All, Any, sum_by}
use Rattle.box_problem.specs.Box.{Box, Inside, InBox, points}
use Rattle.box_problem.specs.BoxProblem.{BoxProblem, Beats}

-- the open boxes are parts of the root, and each point that beats v lies in one of them
pub record Covers (problem : BoxProblem) (v : Option ℤ) (opens : List Box) : Type 0 where
  pub inside : All (λ b. Inside b problem.root) opens
  pub cover : (point : List ℤ) → InBox problem.root point → Beats problem v point → Any (λ b. InBox b point) opens

-- a tree whose leaves have this many points together, one at least each, has at most so many nodes
abbrev pub nodes_for : ℕ → ℕ
nodes_for n = 2 * n - 1

-- the nodes that were finished, and all that may still come of the open boxes, are no more than the root's points allow
pub record Counts (problem : BoxProblem) (finished : ℕ) (opens : List Box) : Type 0 where
  pub count : finished + sum_by (λ b. nodes_for (points b)) opens ≤ nodes_for (points problem.root)
