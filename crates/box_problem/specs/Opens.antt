-- What a search knows while boxes are open.
use Rattle.std.specs.Prelude.{◌≡◌, ◌⊎◌, ℕ, ◌<◌, ℤ, List, Option, Some, None, IfSome, All, Any, length}
use Rattle.sopl_base.specs.declared.direction.Direction.{Direction}
use Rattle.sopl_base.specs.Better.{IsBetter}
use Rattle.box_problem.specs.Box.{Box}
use Rattle.box_problem.specs.BoxProblem.{BoxProblem}
use Rattle.box_problem.specs.Covers.{Covers, Counts}

-- these boxes are open where v is the best value that was found and so many nodes are finished
pub record AreOpen (problem : BoxProblem) (v : Option ℤ) (finished : ℕ) (opens : List Box) : Type 0 where
  pub covers : Covers problem v opens
  pub counts : Counts problem finished opens

-- the best of v and of the better ends over open boxes: none of these is better, and it is one of them
pub record IsBound (problem : BoxProblem) (v : Option ℤ) (opens : List Box) (bound : ℤ) : Type 0 where
  pub reached : IfSome v (λ w. ¬ IsBetter problem.direction w bound)
  pub ends : All (λ b. ¬ IsBetter problem.direction (problem.end b) bound) opens
  pub one_of_them : (v ≡ Some bound) ⊎ Any (λ b. bound ≡ problem.end b) opens

-- of an end and v the better one, or the end where there is no v
abbrev pub IsBetterOf : Direction → Option ℤ → ℤ → ℤ → Type 0
IsBetterOf direction None end best = best ≡ end
IsBetterOf direction (Some w) end best =
    ((best ≡ w) × (¬ IsBetter direction end w)) ⊎ ((best ≡ end) × IsBetter direction end w)

-- why nothing is settled after so many nodes: boxes are open, and nothing was found or the better end over one of them is better than what was
-- found; with the best of all these values
pub record IsUnsettled (problem : BoxProblem) (v : Option ℤ) (finished : ℕ) (bound : ℤ) : Type 0 where
  pub opens : List Box
  pub some : 0 < length opens
  pub are_open : AreOpen problem v finished opens
  pub is_bound : IsBound problem v opens bound
  pub hopeful : IfSome v (λ w. Any (λ b. IsBetter problem.direction (problem.end b) w) opens)
