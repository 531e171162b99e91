-- Which numbers the lines of a log may have.
use Rattle.std.specs.Prelude.{◌<◌, ◌^◌, ℤ, Option, None, Some, All, FitsSigned}
use Rattle.std.specs.Int.{w64, w128}
use Rattle.sopl_base.specs.declared.reason.Reason.{Reason}
use Rattle.sopl_base.specs.declared.reason.Reason.TheVariants.{Hard, Chance, Undefined, Bound}
use Rattle.sopl_base.specs.declared.reason.Step.{Step}
use Rattle.log_rows.specs.declared.rows.Parent.{Parent}
use Rattle.log_rows.specs.declared.rows.Cut.{Cut}
use Rattle.log_rows.specs.declared.rows.Row.{Row}
use Rattle.log_rows.specs.declared.rows.EndLine.{EndLine}
use Rattle.log_rows.specs.declared.rows.EndLine.TheVariants.{Refuted, Split, Point, Unfinished}
use Rattle.log_rows.specs.declared.rows.Footer.{Footer}
use Rattle.log_rows.specs.declared.rows.Footer.TheVariants.{Optimal, Infeasible, Bounded}

-- numbers of nodes have 64 bits
abbrev pub ParentFits : Option Parent → Type 0
ParentFits None = Unit {0}
ParentFits (Some parent) = parent.node < 2 ^ 64

-- numbers of instances, scenarios and cells have 32 bits
abbrev pub ReasonFits : Reason → Type 0
ReasonFits (Hard instance scenario) = (instance < 2 ^ 32) × (scenario < 2 ^ 32)
ReasonFits (Chance instance) = instance < 2 ^ 32
ReasonFits (Undefined scenario) = scenario < 2 ^ 32
ReasonFits Bound = Unit {0}

-- where an end moves to and where a box is split has 64 bits, with its sign
pub record StepFits (step : Step) : Type 0 where
  pub reason_fits : ReasonFits step.reason
  pub cell_fits : step.cell < 2 ^ 32
  pub k_fits : FitsSigned w64 step.k

pub record CutFits (cut : Cut) : Type 0 where
  pub cell_fits : cut.cell < 2 ^ 32
  pub k_fits : FitsSigned w64 cut.k

abbrev pub EndFits : EndLine → Type 0
EndFits (Refuted reason) = ReasonFits reason
EndFits (Split cut) = CutFits cut
EndFits Point = Unit {0}
EndFits Unfinished = Unit {0}

pub record RowFits (row : Row) : Type 0 where
  pub parent_fits : ParentFits row.parent
  pub steps_fit : All StepFits row.steps
  pub end_fits : EndFits row.end

-- values and bounds have 128 bits, with their sign
abbrev pub FoundFits : Option ℤ → Type 0
FoundFits None = Unit {0}
FoundFits (Some v) = FitsSigned w128 v

abbrev pub FooterFits : Footer → Type 0
FooterFits (Optimal v) = FitsSigned w128 v
FooterFits Infeasible = Unit {0}
FooterFits (Bounded found bound) = FoundFits found × FitsSigned w128 bound
