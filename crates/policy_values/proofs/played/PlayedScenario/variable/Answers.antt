use Rattle.std.proofs.Common.{rules, ap, sym, ◌∙◌, Some, SFits, w64}
use Rattle.std.proofs.lemmas.Int.{to_z-of_z}
use Rattle.sopl_ast.specs.Meanings.{decided_value}
use Rattle.policy_values.specs.Played.{place_of}
use Rattle.policy_values.proofs.Found.{drawn_exists}
use Rattle.policy_values.proofs.Seen.{variable_other, variable_seen}
use Rattle.policy_values.proofs.played.PlayedScenario.variable.Goals as goal

pub drawn-requires-clause-exists : goal.drawn-requires-clause-exists
drawn-requires-clause-exists c =
    drawn_exists c.args.name.now c.args.index.now c.args.self.now.variables.now.stochs.now c.drawn_number.result c.in-Some.number c.drawn_number.ensures.number c.in-Some.is

pub returns-in-Some : goal.returns-in-Some
returns-in-Some c =
    let fits : SFits w64 c.drawn.result = search rules in
    record {
      value = λ known. ap Some (to_z-of_z w64 c.drawn.result fits ∙ c.drawn.ensures.value)
          ∙ variable_seen c.args.self.now c.requires.played c.args.name.now c.args.index.now c.in-Some.number (decided_value c.args.name.now c.args.index.now (place_of c.args.self.now known))
          (sym c.drawn_number.ensures.number ∙ c.in-Some.is);
    }

pub returns-in-None : goal.returns-in-None
returns-in-None c =
    record {
      value = λ known. c.decided_variable.ensures.value known
          ∙ variable_other c.args.self.now c.requires.played c.args.name.now c.args.index.now (decided_value c.args.name.now c.args.index.now (place_of c.args.self.now known))
          (sym c.drawn_number.ensures.number ∙ c.in-None.is);
    }
