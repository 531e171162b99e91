-- What a propagator of any kind stands for.
use Rattle.std.specs.Prelude.{ℕ, List, [], ◌∷◌, ◌++◌, length, map}
use Rattle.std.specs.List.{flat_map}
use Rattle.sopl_base.specs.declared.reason.Reason.{Reason}
use Rattle.sopl_base.specs.declared.reason.Reason.TheVariants as reason
use Rattle.box_problem.specs.Box.{Box}
use Rattle.term_problem.specs.Problems.{ProblemTerms}
use Rattle.term_problem.specs.Search.{numbers_to}
use Rattle.prop_alldiff.specs.Kinds as different
use Rattle.prop_chance.specs.Chances as chances
use Rattle.prop_goal.specs.Goals as goals
use Rattle.prop_core.specs.Watches.{FitsAndLooksAt, HasRested}
use Rattle.prop_cumul.specs.Kinds as cumulative
use Rattle.prop_linear.specs.Kinds as linear
use Rattle.prop_term.specs.Kinds as terms
use Rattle.prop_set.specs.declared.any_prop.AnyProp.{AnyProp}
use Rattle.prop_set.specs.declared.any_prop.AnyProp.TheVariants as kind
use Rattle.term_program.specs.declared.program.Program.{Program}
use Rattle.term_program.specs.Stated.{box_problem_of}

-- the reasons for which it narrows boxes
abbrev pub reasons_of : AnyProp → List Reason
reasons_of (kind.Linear p) = linear.reasons_of p
reasons_of (kind.AllDiff p) = different.reasons_of p.member
reasons_of (kind.Cumul p) = cumulative.reasons_of p.member
reasons_of (kind.AnyTerm p) = terms.reasons_of p.member
reasons_of (kind.Chance p) = chances.reasons_of p
reasons_of (kind.Goal p) = goals.reasons_of p

-- the cells that it watches
abbrev pub watches_of : AnyProp → List ℕ
watches_of (kind.Linear p) = p.constraint.cells.items
watches_of (kind.AllDiff p) = p.cells.items
watches_of (kind.Cumul p) = p.cells.items
watches_of (kind.AnyTerm p) = p.cells.items
watches_of (kind.Chance p) = p.constraint.cells.items
watches_of (kind.Goal p) = p.watched.cells.items

-- it was made for a program, or might have been, and its reasons look at the watched cells alone
abbrev pub Fits : AnyProp → Program → Type 0
Fits (kind.Linear p) program = linear.Fits p program
Fits (kind.AllDiff p) program = FitsAndLooksAt (different.Fits p.member program) (box_problem_of program) (different.reasons_of p.member) p.cells.items
Fits (kind.Cumul p) program = FitsAndLooksAt (cumulative.Fits p.member program) (box_problem_of program) (cumulative.reasons_of p.member) p.cells.items
Fits (kind.AnyTerm p) program = FitsAndLooksAt (terms.Fits p.member program) (box_problem_of program) (terms.reasons_of p.member) p.cells.items
Fits (kind.Chance p) program = chances.Fits p program
Fits (kind.Goal p) program = goals.Fits p program

-- it rests on a box, if it has rested; and what it keeps is right for it
abbrev pub IsInStep : AnyProp → Program → Box → Type 0
IsInStep (kind.Linear p) program b = linear.InStep p program b
IsInStep (kind.AllDiff p) program b = HasRested (box_problem_of program) (different.reasons_of p.member) p.rested b
IsInStep (kind.Cumul p) program b = HasRested (box_problem_of program) (cumulative.reasons_of p.member) p.rested b
IsInStep (kind.AnyTerm p) program b = HasRested (box_problem_of program) (terms.reasons_of p.member) p.rested b
IsInStep (kind.Chance p) program b = chances.InStep p program b
IsInStep (kind.Goal p) program b = goals.InStep p program b

-- a hard constraint in each scenario, and all of them
abbrev pub instance_reasons : ProblemTerms → ℕ → List Reason
instance_reasons problem instance = map (reason.Hard instance) (numbers_to (length problem.weights))

abbrev pub hard_reasons : ProblemTerms → List Reason
hard_reasons problem = flat_map (instance_reasons problem) (numbers_to (length problem.hards))

-- all chance constraints, and the objective
abbrev pub chance_reasons : ProblemTerms → List Reason
chance_reasons problem = map reason.Chance (numbers_to (length problem.chances))

abbrev pub goal_reasons : ProblemTerms → List Reason
goal_reasons problem = map reason.Undefined (numbers_to (length problem.weights)) ++ reason.Bound ∷ []
