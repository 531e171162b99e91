use Rattle.std.proofs.Common.{◌∙◌}
use Rattle.sopl_ast.specs.Known.{known_value}
use Rattle.unfold_constants.specs.Here.{known_in}
use Rattle.policy_values.proofs.Seen.{unknown}
use Rattle.policy_values.proofs.played.PlayedScenario.named.Goals as goal

pub returns-in-None : goal.returns-in-None
returns-in-None c =
    record {
      value = c.variable.ensures.value (known_in c.args.known.now)
          ∙ unknown (known_value (known_in c.args.known.now) c.args.name.now c.args.index.now) c.value.result _ c.value.ensures c.in-None.is;
    }
