use Rattle.std.proofs.Common.{sym, ◌∙◌}
use Rattle.std.proofs.lemmas.Grind.{merely}
use Rattle.sopl_ast.specs.WholeModel.{whole}
use Rattle.sopl_types.proofs.Whole.{well_typed, first_refused}
use Rattle.sopl_types.proofs.check.check_types.Goals as goal

-- there is no mistake
pub invariant_of-result : goal.invariant_of-result
invariant_of-result c = record {
  origin = merely c.requires.origin;
  typed = well_typed (whole c.args.model) (sym c.in-None.is ∙ c.in_ok-first_mistake.ensures);
}

-- the mistake is the first
pub returns-in-Some-clause-refused : goal.returns-in-Some-clause-refused
returns-in-Some-clause-refused c =
    first_refused (whole c.args.model) c.in-Some.refusal (sym c.in-Some.is ∙ c.in_ok-first_mistake.ensures)
