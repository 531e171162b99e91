use Rattle.std.proofs.Common.{◌∙◌, ap, option_map, subst, sym}
use Rattle.box_problem.specs.Box.{Box, Inside}
use Rattle.box_problem.proofs.Boxes.{part_of_itself}
use Rattle.term_nodes.specs.Things.{term_at}
use Rattle.term_program.specs.Programs.{problem_in, root_in, things_in}
use Rattle.prop_goal.proofs.Defined.{defined_some}
use Rattle.prop_goal.proofs.goals.is_defined.Goals as goal

pub range_of-requires-clause-inside : goal.range_of-requires-clause-inside
range_of-requires-clause-inside c =
    subst (λ (b : Box). Inside b (root_in c.args.program.now)) (sym c.requires.root) (part_of_itself (root_in c.args.program.now) c.requires.made.draft.store.root_is_box)

pub returns-in-Some : goal.returns-in-Some
returns-in-Some c = record {
  defined = λ is.
      defined_some (root_in c.args.program.now) c.args.store.now.box (problem_in c.args.program.now) c.args.scenario _ c.range_of.result.defined
      (sym (ap (option_map (λ id. term_at (things_in c.args.program.now) id.0)) c.in-Some.is) ∙ c.goal.ensures.term) c.requires.root c.range_of.ensures.mark (c.is_always.ensures is);
}
