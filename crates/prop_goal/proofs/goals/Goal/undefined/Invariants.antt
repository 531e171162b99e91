use Rattle.std.proofs.Common.{take}
use Rattle.std.specs.List.{All}
use Rattle.sopl_base.specs.declared.reason.Reason.TheVariants.{Undefined}
use Rattle.term_program.specs.Stated.{box_problem_of}
use Rattle.prop_goal.specs.Goals.{IsOpenTo}
use Rattle.prop_goal.proofs.goals.Goal.undefined.Given as goal

abbrev pub invariant-scenarios : goal.invariant-scenarios
invariant-scenarios l = All (λ k. IsOpenTo (box_problem_of l.program) l.best l.store.box (Undefined k)) (take l.at l.self.partial.items)
