use Rattle.std.proofs.Common.{ap, refl, ◌∙◌}
use Rattle.term_language.specs.declared.answers.Truth.{Truth}
use Rattle.term_problem.specs.Refuted.{is_false}
use Rattle.term_program.specs.Programs.{kept, problem_in}
use Rattle.prop_shave.specs.ChanceSums.{weight_at}
use Rattle.prop_chance.proofs.KeptWeights.{sum_set}
use Rattle.prop_chance.proofs.kept_weight.KeptWeight.set.Goals as goal

pub returns-clause-set : goal.returns-clause-set
returns-clause-set c =
    let terms = problem_in c.args.program.now in
    record {
      truths = refl;
      summed = λ summed. sum_set terms c.args.self.now.truths.items _ c.args.scenario c.args.truth c.index.result.now c.args.self.now.left.value c.in-Some.less.value
          c.in-Some-checked_plus.left.value c.weight_unless_false-before.result.value c.weight_unless_false-after.result.value c.requires.exists c.requires.room
          (c.weight_unless_false-before.ensures ∙ ap (λ (t : Truth). kept (is_false t) (weight_at terms c.args.scenario)) c.index.ensures)
          c.weight_unless_false-after.ensures c.in-Some.ensures.difference c.in-Some-checked_plus.ensures.sum refl summed;
      outdated = refl;
    }
