-- Which reasons close a box against no value.
use Rattle.std.specs.Prelude.{◌≡◌, ℕ, ◌<◌, ℤ, true, false, None, Contains}
use Rattle.sopl_base.specs.declared.reason.Reason.{Reason}
use Rattle.sopl_base.specs.declared.reason.Reason.TheVariants.{Hard, Chance, Undefined}
use Rattle.box_problem.specs.Box.{Box}
use Rattle.box_problem.specs.BoxProblem.{BoxProblem}
use Rattle.log_rows.specs.declared.rows.Footer.{Footer}
use Rattle.log_rows.specs.Accepted.{RightPoint}

-- a reason closes it
pub record IsClosing (problem : BoxProblem) (b : Box) (reason : Reason) : Type 0 where
  pub closed : problem.refutes reason b None ≡ true

-- the first scenarios of a hard constraint close nothing; nor do those of the first hard constraints
pub record HardOpen (problem : BoxProblem) (b : Box) (instance n : ℕ) : Type 0 where
  pub each : (s : ℕ) → s < n → problem.refutes (Hard instance s) b None ≡ false

pub record HardsOpen (problem : BoxProblem) (b : Box) (m n : ℕ) : Type 0 where
  pub each : (i : ℕ) → i < m → HardOpen problem b i n

-- the first chance constraints close nothing
pub record ChancesOpen (problem : BoxProblem) (b : Box) (n : ℕ) : Type 0 where
  pub each : (i : ℕ) → i < n → problem.refutes (Chance i) b None ≡ false

-- the objective closes nothing in the first scenarios
pub record DefinedOpen (problem : BoxProblem) (b : Box) (n : ℕ) : Type 0 where
  pub each : (s : ℕ) → s < n → problem.refutes (Undefined s) b None ≡ false

-- no reason closes it
pub record NoneCloses (problem : BoxProblem) (b : Box) : Type 0 where
  pub each : (reason : Reason) → Contains problem.reasons reason → problem.refutes reason b None ≡ false

-- a point that is rightly told, and its value; or one that is not
pub record IsPointOf (problem : BoxProblem) (footer : Footer) (b : Box) (value : ℤ) : Type 0 where
  pub right : RightPoint problem footer b
  pub is : value ≡ problem.value b.lows

pub record IsWrongPoint (problem : BoxProblem) (footer : Footer) (b : Box) : Type 0 where
  pub wrong : ¬ RightPoint problem footer b
