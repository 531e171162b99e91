use Rattle.sopl_base.specs.declared.reason.Reason.TheVariants.{Chance}
use Rattle.prop_shave.specs.Probes.{HasAll}
use Rattle.term_problem.specs.Reasons.{reason_mentions}
use Rattle.term_program.specs.Programs.{problem_in, root_in}
use Rattle.prop_chance.proofs.Conditions.{part_of}
use Rattle.prop_chance.proofs.Reached.{AreIn}
use Rattle.prop_chance.proofs.chance_constraint.chance_cells.Given as goal

abbrev pub invariant-scenarios : goal.invariant-scenarios
invariant-scenarios l = record {
  all : AreIn (part_of (root_in l.program) (problem_in l.program) l.instance) l.scenario l.cells.keys;
  only : HasAll (reason_mentions (root_in l.program) (problem_in l.program) (Chance l.instance)) l.cells.keys;
}
