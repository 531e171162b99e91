use Rattle.std.proofs.Common.{rules, ap, sym, ◌∙◌, Some, SFits, w64}
use Rattle.std.proofs.lemmas.Int.{to_z-of_z}
use Rattle.policy_values.proofs.Found.{decided_exists}
use Rattle.policy_values.proofs.Seen.{decided_none, decided_some}
use Rattle.policy_values.proofs.played.PlayedScenario.decided_variable.Goals as goal

pub decided-requires-clause-exists : goal.decided-requires-clause-exists
decided-requires-clause-exists c =
    decided_exists c.args.name.now c.args.index.now c.args.self.now.variables.now.decisions.now c.decided_number.result c.in-Some.number c.decided_number.ensures.number c.in-Some.is

pub returns-in-Some : goal.returns-in-Some
returns-in-Some c =
    let fits : SFits w64 c.decided.result = search rules in
    record {
      value = λ known. ap Some (to_z-of_z w64 c.decided.result fits ∙ c.decided.ensures.value)
          ∙ sym (decided_some c.args.self.now c.requires.played c.args.name.now c.args.index.now known c.in-Some.number (sym c.decided_number.ensures.number ∙ c.in-Some.is));
    }

pub returns-in-None : goal.returns-in-None
returns-in-None c =
    record {
      value = λ known. sym (decided_none c.args.self.now c.requires.played c.args.name.now c.args.index.now known (sym c.decided_number.ensures.number ∙ c.in-None.is));
    }
