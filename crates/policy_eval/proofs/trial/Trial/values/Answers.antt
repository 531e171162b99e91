use Rattle.std.proofs.Common.{arith, rules, ◌≡◌, sym, ◌∙◌, [], ◌∷◌, ◌++◌, None}
use Rattle.sopl_ast.specs.Meanings.{meaning}
use Rattle.unfold_tables.specs.Tables.{table_known}
use Rattle.policy_values.specs.Played.{place_of}
use Rattle.policy_eval.specs.Tried.{scenario_count, value_at}
use Rattle.policy_eval.proofs.TrialSteps.{one_valued, valued_all, valued_before}
use Rattle.policy_eval.proofs.trial.Trial.values.Goals as goal

pub returns-in_default : goal.returns-in_default
returns-in_default c =
    let none : c.in_ok-value.field-0 ≡ None = search rules in
    let is : c.in_ok-value.field-0 ≡ value_at c.args.self.now (table_known c.args.self.now.table.now) c.args.e.now c.scenarios.scenario =
    c.in_ok-value.ensures.value ∙ (λ i. (meaning (place_of (c.at.ensures.played i) (c.new-known.ensures i)) c.args.e.now).value) in
    record {
      values = (
        omega (arith, c.scenarios-test.true, c.count-scenario-end.ensures),
        sym is ∙ none,
        valued_before (value_at c.args.self.now (table_known c.args.self.now.table.now) c.args.e.now) c.scenarios.scenario c.scenarios.values.items c.scenarios.invariant,
      );
    }

pub scenarios-preserved : goal.scenarios-preserved
scenarios-preserved c =
    let put : c.add.new.numbers.items ≡ c.scenarios.values.items ++ c.in-Some.value ∷ [] = search rules in
    let is : c.in_ok-value.field-0 ≡ value_at c.args.self.now (table_known c.args.self.now.table.now) c.args.e.now c.scenarios.scenario =
    c.in_ok-value.ensures.value ∙ (λ i. (meaning (place_of (c.at.ensures.played i) (c.new-known.ensures i)) c.args.e.now).value) in
    one_valued (value_at c.args.self.now (table_known c.args.self.now.table.now) c.args.e.now) c.scenarios.scenario c.scenarios.values.items c.add.new.numbers.items c.in-Some.value c.scenarios.invariant
    (sym c.in-Some.is ∙ is) put

pub returns : goal.returns
returns c =
    record {
      values = valued_all (value_at c.args.self.now (table_known c.args.self.now.table.now) c.args.e.now) (scenario_count c.args.self.now) c.scenarios.scenario c.scenarios.values.items
          (omega (arith, c.scenarios-test.false, c.scenarios.auto.scenario-end, c.count-scenario-end.ensures)) c.scenarios.invariant;
    }
