-- What the propagator of a chance constraint stands for.
use Rattle.std.specs.Prelude.{◌≡◌, ◌<◌, List, [], ◌∷◌, length, map}
use Rattle.std.specs.List.Sorted.{IsStrictlySortedBy}
use Rattle.std.specs.Ordering.{nat_cmp}
use Rattle.sopl_base.specs.declared.reason.Reason.{Reason}
use Rattle.sopl_base.specs.declared.reason.Reason.TheVariants as reason
use Rattle.box_problem.specs.Box.{Box}
use Rattle.prop_core.specs.Watches.{HasRested}
use Rattle.prop_shave.specs.Probes.{HasAll}
use Rattle.prop_shave.specs.ChanceSums.{is_touched, left_over, touched_by}
use Rattle.term_problem.specs.Reasons.{reason_mentions}
use Rattle.term_program.specs.declared.program.Program.{Program}
use Rattle.term_program.specs.Programs.{IsMade, problem_in, root_in}
use Rattle.term_program.specs.Stated.{box_problem_of}
use Rattle.prop_chance.specs.KeptTurns.{KeepsTurns, KnowsTurns}
use Rattle.prop_chance.specs.KeptWeights.{KeepsWeight}
use Rattle.prop_chance.specs.UpToDate.{numbers_in}
use Rattle.prop_chance.specs.declared.chance_constraint.ChanceConstraint.{ChanceConstraint}
use Rattle.prop_chance.specs.declared.chances.Chance.{Chance}

-- the one reason: the constraint
abbrev pub reasons_of : Chance → List Reason
reasons_of p = reason.Chance p.constraint.instance ∷ []

-- the program has that constraint; the cells are all that its conditions mention, and no others, ascending, each with the scenarios in which the
-- condition mentions it
pub record IsConstraintOf (c : ChanceConstraint) (program : Program) : Type 0 where
  pub made : IsMade program
  pub exists : c.instance < length (problem_in program).chances
  pub touched : map numbers_in c.mentioning.items ≡ map (touched_by (root_in program) (problem_in program) c.instance) c.cells.items
  pub all : HasAll c.cells.items (reason_mentions (root_in program) (problem_in program) (reason.Chance c.instance))
  pub only : HasAll (reason_mentions (root_in program) (problem_in program) (reason.Chance c.instance)) c.cells.items
  pub ascend : IsStrictlySortedBy nat_cmp c.cells.items

-- and there is room for the truth of the condition in each scenario, for whether it waits, and for the turns of each cell
pub record Fits (p : Chance) (program : Program) : Type 0 where
  pub constraint : IsConstraintOf p.constraint program
  pub room : length p.weight.truths.items ≡ length (problem_in program).weights
  pub waits : length p.weight.outdated.waits.items ≡ length (problem_in program).weights
  pub turns : length p.turns.known.items ≡ length p.constraint.cells.items

-- what it keeps of the weight is right for a box, and what it keeps of turns
abbrev pub KeepsWeightOf : Chance → Program → Box → Type 0
KeepsWeightOf p program b = KeepsWeight (root_in program) (problem_in program) p.constraint.instance b p.weight

abbrev pub KeepsTurnsOf : Chance → Program → Box → Type 0
KeepsTurnsOf p program b =
    KeepsTurns (left_over (root_in program) (problem_in program) p.constraint.instance)
    (is_touched (root_in program) (problem_in program) p.constraint.instance) (length (problem_in program).weights) b p.weight.outdated
    p.constraint.cells.items p.turns

-- so both are, and it rests there, if it has rested
pub record InStep (p : Chance) (program : Program) (b : Box) : Type 0 where
  pub weight : KeepsWeightOf p program b
  pub turns : KeepsTurnsOf p program b
  pub rested : HasRested (box_problem_of program) (reasons_of p) p.rested b

-- it is of the same constraint, and keeps as much
pub record IsMadeAlike (old new : Chance) : Type 0 where
  pub constraint : new.constraint ≡ old.constraint
  pub room : length new.weight.truths.items ≡ length old.weight.truths.items
  pub waits : length new.weight.outdated.waits.items ≡ length old.weight.outdated.waits.items
  pub turns : length new.turns.known.items ≡ length old.turns.known.items

-- and what it keeps is right for a box, with no turns that are not
pub record HasLooked (old new : Chance) (program : Program) (b : Box) : Type 0 where
  pub weight : KeepsWeightOf new program b
  pub turns : KnowsTurns (left_over (root_in program) (problem_in program) new.constraint.instance) b new.constraint.cells.items new.turns
  pub alike : IsMadeAlike old new
