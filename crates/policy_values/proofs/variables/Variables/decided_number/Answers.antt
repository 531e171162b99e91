use Rattle.std.proofs.Common.{arith, map}
use Rattle.std.proofs.lemmas.List.{length-map}
use Rattle.policy_values.specs.Labels.{decided_label}
use Rattle.policy_values.proofs.Found.{named_fits, named_number}
use Rattle.policy_values.proofs.variables.Variables.decided_number.Goals as goal

pub as_number-requires : goal.as_number-requires
as_number-requires c =
    record {
      fits = named_fits c.args.name.now c.args.index.now (map decided_label c.args.self.now.decisions.now) _ c.element.result
          (omega (arith, length-map c.args.self.now.decisions.now decided_label, c.args.self.now.few_decided)) c.args.self.now.decided_numbered c.element.ensures;
    }

pub returns : goal.returns
returns c =
    record {
      number = named_number c.args.name.now c.args.index.now (map decided_label c.args.self.now.decisions.now) _ c.element.result c.as_number.result c.args.self.now.decided_numbered c.element.ensures
          c.as_number.ensures.same;
    }
