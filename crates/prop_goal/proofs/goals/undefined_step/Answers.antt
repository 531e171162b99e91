use Rattle.std.proofs.Common.{◌∙◌, ap, option_map, sym}
use Rattle.term_nodes.specs.Things.{term_at}
use Rattle.term_program.specs.Programs.{things_in}
use Rattle.prop_goal.proofs.goals.undefined_step.Goals as goal

pub term_step-requires-clause-term : goal.term_step-requires-clause-term
term_step-requires-clause-term c =
    sym (ap (option_map (λ id. term_at (things_in c.args.probe.now.program.now) id.0)) c.in-Some.is) ∙ c.goal.ensures.term
