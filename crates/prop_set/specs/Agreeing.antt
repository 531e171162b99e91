-- The cells that a propagator of any kind watches, and boxes that agree on them.
use Rattle.std.specs.List.Sorted.{IsStrictlyIncreasing}
use Rattle.box_problem.specs.Box.{Box, Inside}
use Rattle.prop_alldiff.specs.Kinds as different
use Rattle.prop_chance.specs.Deciding.{chance_ascends, chance_looks, chance_steps}
use Rattle.prop_goal.specs.Deciding.{goal_ascends, goal_looks, goal_steps}
use Rattle.prop_core.specs.Alike.{rested_alike}
use Rattle.prop_core.specs.Watches.{AgreeOnCells, LooksAt}
use Rattle.prop_cumul.specs.Kinds as cumulative
use Rattle.prop_linear.specs.Deciding.{linear_steps}
use Rattle.prop_term.specs.Kinds as terms
use Rattle.prop_set.specs.Kinds.{Fits, IsInStep, reasons_of, watches_of}
use Rattle.prop_set.specs.declared.any_prop.AnyProp.{AnyProp}
use Rattle.prop_set.specs.declared.any_prop.AnyProp.TheVariants as kind
use Rattle.term_program.specs.declared.program.Program.{Program}
use Rattle.term_program.specs.Stated.{box_problem_of}

pub watches_ascend : (m : AnyProp) (program : Program) → Fits m program → IsStrictlyIncreasing (watches_of m)
watches_ascend (kind.Linear p) program fits = fits.listed.ascending
watches_ascend (kind.AllDiff p) program fits = fits.ascend
watches_ascend (kind.Cumul p) program fits = fits.ascend
watches_ascend (kind.AnyTerm p) program fits = fits.ascend
watches_ascend (kind.Chance p) program fits = chance_ascends p program fits
watches_ascend (kind.Goal p) program fits = goal_ascends p program fits

pub looks_alike : (m : AnyProp) (program : Program) → Fits m program → LooksAt (box_problem_of program) (reasons_of m) (watches_of m)
looks_alike (kind.Linear p) program fits = fits.looks
looks_alike (kind.AllDiff p) program fits = fits.looks
looks_alike (kind.Cumul p) program fits = fits.looks
looks_alike (kind.AnyTerm p) program fits = fits.looks
looks_alike (kind.Chance p) program fits = chance_looks p program fits
looks_alike (kind.Goal p) program fits = goal_looks p program fits

pub steps_alike : (m : AnyProp) (program : Program) (b c : Box) → Fits m program → Inside b (box_problem_of program).root → Inside c (box_problem_of program).root → AgreeOnCells (watches_of m) b c
    → IsInStep m program b → IsInStep m program c
steps_alike (kind.Linear p) program b c fits b_in c_in agree step = linear_steps p program b c fits b_in c_in agree step
steps_alike (kind.AllDiff p) program b c fits b_in c_in agree step =
    rested_alike (box_problem_of program) (different.reasons_of p.member) p.cells.items p.rested b c fits.looks b_in c_in agree step
steps_alike (kind.Cumul p) program b c fits b_in c_in agree step =
    rested_alike (box_problem_of program) (cumulative.reasons_of p.member) p.cells.items p.rested b c fits.looks b_in c_in agree step
steps_alike (kind.AnyTerm p) program b c fits b_in c_in agree step =
    rested_alike (box_problem_of program) (terms.reasons_of p.member) p.cells.items p.rested b c fits.looks b_in c_in agree step
steps_alike (kind.Chance p) program b c fits b_in c_in agree step = chance_steps p program b c fits b_in c_in agree step
steps_alike (kind.Goal p) program b c fits b_in c_in agree step = goal_steps p program b c fits b_in c_in agree step
