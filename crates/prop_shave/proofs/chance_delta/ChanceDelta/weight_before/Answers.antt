use Rattle.term_program.specs.Programs.{problem_in, root_in}
use Rattle.prop_shave.proofs.Fractions.{truth_weighs}
use Rattle.prop_shave.proofs.chance_delta.ChanceDelta.weight_before.Goals as goal

pub returns : goal.returns
returns c = λ b known.
    truth_weighs (root_in c.args.program.now) b (problem_in c.args.program.now) c.args.self.now.instance c.args.scenario _ c.weight_unless_false.result.value
    (known.truths.each c.args.scenario _ c.requires.scenario) c.weight_unless_false.ensures
