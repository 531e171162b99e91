use Rattle.prop_goal.specs.KeptWorst.{AreScenarioTerms}
use Rattle.prop_goal.proofs.scenario_terms.scenario_terms.Given as goal

abbrev pub invariant-scenarios : goal.invariant-scenarios
invariant-scenarios l = AreScenarioTerms l.program l.scenario l.atoms.items
