-- Which values are better, and which claims follow.
use Rattle.std.proofs.Common.{ℤ, List, [], ◌∷◌, Option, Some, None, IfSome}
use Rattle.sopl_base.specs.declared.direction.Direction.{Direction}
use Rattle.sopl_base.specs.declared.reason.Step.{Step}
use Rattle.sopl_base.specs.Better.{IsBetter}
use Rattle.log_rows.specs.declared.rows.Footer.{Footer}
use Rattle.log_rows.specs.declared.rows.Footer.TheVariants.{Optimal, Infeasible, Bounded}
use Rattle.box_problem.specs.Box.{Box}
use Rattle.box_problem.specs.Steps.{after_step}
use Rattle.box_problem.specs.BoxProblem.{BoxProblem, Follows, Lawful}
use Rattle.box_problem.specs.Rightness.{AllRight}
use Rattle.box_problem.proofs.Opens.{not_better_than_itself, still_not_better}
use Rattle.log_rows.specs.Accepted.{claimed, IsClaimed}

pub follows_itself : (direction : Direction) (v : Option ℤ) → Follows direction v v
follows_itself direction None = tt
follows_itself direction (Some x) = not_better_than_itself direction x

pub follows_more : (direction : Direction) (u v w : Option ℤ) → Follows direction u v → Follows direction v w → Follows direction u w
follows_more direction u v None first second = tt
follows_more direction u None (Some z) first second = absurd second
follows_more direction None (Some y) (Some z) first second = absurd first
follows_more direction (Some x) (Some y) (Some z) first second = still_not_better direction z y x second first

-- steps that are right against a value are right against each one that follows it
pub right_later : (problem : BoxProblem) (v w : Option ℤ) (b : Box) (steps : List Step) → Lawful problem → Follows problem.direction v w → AllRight problem w b steps → AllRight problem v b steps
right_later problem v w b [] lawful follows right = tt
right_later problem v w b (s ∷ steps) lawful follows right =
    (record { cut = right.0.cut; refuted = lawful.later s.reason _ v w follows right.0.refuted }, right_later problem v w (after_step b s) steps lawful follows right.1)

-- the value that is claimed, and no better one
pub claims : (problem : BoxProblem) (footer : Footer) (x : ℤ) → Follows problem.direction (claimed footer) (Some x) → IsClaimed problem footer x
claims problem (Optimal v) x follows = follows
claims problem Infeasible x follows = follows
claims problem (Bounded None bound) x follows = follows
claims problem (Bounded (Some v) bound) x follows = follows

pub not_beaten : (problem : BoxProblem) (footer : Footer) (x : ℤ) → IsClaimed problem footer x → IfSome (claimed footer) (λ w. IsBetter problem.direction x w) → ⊥
not_beaten problem (Optimal v) x is better = is better
not_beaten problem Infeasible x is better = is
not_beaten problem (Bounded None bound) x is better = is
not_beaten problem (Bounded (Some v) bound) x is better = is better
