-- How much room open boxes leave, for nodes and for leaves.
use Rattle.std.proofs.Common.{ℕ, ◌+◌, ◌≤◌, ℤ, List, [], ◌∷◌, ◌++◌, Option, sum_by, arith}
use Rattle.std.proofs.lemmas.List.Sums.{sum_by-append, sum_by-cons}
use Rattle.sopl_base.specs.declared.reason.Side.{Side}
use Rattle.sopl_base.specs.declared.reason.Step.{Step}
use Rattle.box_problem.specs.Box.{Box, IsBox, points}
use Rattle.box_problem.specs.Steps.{IsCut, after_steps, cut_away, narrowed}
use Rattle.box_problem.specs.BoxProblem.{BoxProblem}
use Rattle.box_problem.specs.Covers.{Counts}
use Rattle.box_problem.specs.Rightness.{AllRight}
use Rattle.box_problem.proofs.Counts.{cuts_count, points_alive}
use Rattle.box_problem.proofs.Opens.{counts_at_first, counts_in_any_order, counts_after_steps, counts_after_end, counts_after_split, points_after}

-- so many nodes are finished, so many of them leaves, and what may still come of the open boxes is no more than the root's points allow
pub record HasRoom (problem : BoxProblem) (finished leaves : ℕ) (opens : List Box) : Type 0 where
  pub for_nodes : Counts problem finished opens
  pub for_leaves : leaves + sum_by points opens ≤ points problem.root

pub room_at_first : (problem : BoxProblem) → HasRoom problem 0 0 (problem.root ∷ [])
room_at_first problem = record {
  for_nodes = counts_at_first problem;
  for_leaves = omega (arith, sum_by-cons points problem.root []);
}

pub room_to_head : (problem : BoxProblem) (finished leaves : ℕ) (b : Box) (prefix back : List Box) → HasRoom problem finished leaves (prefix ++ b ∷ back)
    → HasRoom problem finished leaves (b ∷ (prefix ++ back))
room_to_head problem finished leaves b prefix back room = record {
  for_nodes = (counts_in_any_order problem finished b prefix back).0 room.for_nodes;
  for_leaves = omega (arith, room.for_leaves, sum_by-append points prefix (b ∷ back), sum_by-cons points b back, sum_by-cons points b (prefix ++ back), sum_by-append points prefix back);
}

pub room_after_steps : (problem : BoxProblem) (v : Option ℤ) (finished leaves : ℕ) (b : Box) (steps : List Step) (opens : List Box) → IsBox b → AllRight problem v b steps
    → HasRoom problem finished leaves (b ∷ opens) → HasRoom problem finished leaves (after_steps b steps ∷ opens)
room_after_steps problem v finished leaves b steps opens is_box right room = record {
  for_nodes = counts_after_steps problem v finished b steps opens is_box right room.for_nodes;
  for_leaves = omega (arith, room.for_leaves, sum_by-cons points b opens, sum_by-cons points (after_steps b steps) opens, points_after problem v b steps is_box right);
}

pub room_after_end : (problem : BoxProblem) (finished leaves : ℕ) (b : Box) (opens : List Box) → HasRoom problem finished leaves (b ∷ opens) → HasRoom problem (finished + 1) (leaves + 1) opens
room_after_end problem finished leaves b opens room = record {
  for_nodes = counts_after_end problem finished b opens room.for_nodes;
  for_leaves = omega (arith, room.for_leaves, sum_by-cons points b opens, points_alive b.lows b.highs);
}

pub room_after_split : (problem : BoxProblem) (finished leaves : ℕ) (b : Box) (cell : ℕ) (side : Side) (k : ℤ) (opens : List Box) → IsBox b → IsCut b cell side k
    → HasRoom problem finished leaves (b ∷ opens) → HasRoom problem (finished + 1) leaves (narrowed b cell side k ∷ cut_away b cell side k ∷ opens)
room_after_split problem finished leaves b cell side k opens is_box cut room =
    let kept = narrowed b cell side k in
    let lost = cut_away b cell side k in
    record {
      for_nodes = counts_after_split problem finished b cell side k opens is_box cut room.for_nodes;
      for_leaves = omega (arith, room.for_leaves, sum_by-cons points b opens, sum_by-cons points kept (lost ∷ opens), sum_by-cons points lost opens, cuts_count b cell side k is_box cut);
    }
