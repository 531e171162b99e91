use Rattle.std.proofs.Common.{sym, ap, subst, ◌∙◌, length}
use Rattle.unfold_tables.specs.Tables.{table_known}
use Rattle.policy_eval.specs.Reports.{IsReport}
use Rattle.policy_eval.specs.Tried.{IsValuation, policy_of, posed, scenario_count, value_at}
use Rattle.policy_eval.specs.Valued.{is_worth}
use Rattle.policy_eval.proofs.Trials.{as_many_values, goal_told, goal_undefined}
use Rattle.policy_eval.proofs.trial.Trial.valued.Goals as goal

pub worth-requires-clause-many : goal.worth-requires-clause-many
worth-requires-clause-many c =
    let all = subst (IsValuation (value_at c.args.self.now (table_known c.args.self.now.table.now) c.args.goal.now.expr) (scenario_count c.args.self.now)) c.in-Valued.is c.in_ok-values.ensures.values in
    ap length c.as_slice.ensures.value
    ∙ as_many_values c.args.self.now c.requires.tried c.args.sums.items c.requires.held c.requires.reached c.args.goal.now c.requires.goal c.in-Valued.values.items all

pub returns-in-Valued : goal.returns-in-Valued
returns-in-Valued c =
    let all = subst (IsValuation (value_at c.args.self.now (table_known c.args.self.now.table.now) c.args.goal.now.expr) (scenario_count c.args.self.now)) c.in-Valued.is c.in_ok-values.ensures.values in
    record {
      told = subst (IsReport (posed c.args.self.now) (policy_of c.args.self.now)) (sym c.satisfied.ensures.told)
          (goal_told c.args.self.now c.requires.tried c.args.sums.items c.requires.held c.requires.reached c.args.goal.now c.requires.goal c.in-Valued.values.items all c.worth.result.value
          (c.worth.ensures.worth ∙ ap (is_worth c.args.goal.now.worst c.args.goal.now.direction c.args.self.now.tree.now.weights) c.as_slice.ensures.value));
    }

pub returns-in-Undefined : goal.returns-in-Undefined
returns-in-Undefined c =
    let first = subst (IsValuation (value_at c.args.self.now (table_known c.args.self.now.table.now) c.args.goal.now.expr) (scenario_count c.args.self.now)) c.in-Undefined.is c.in_ok-values.ensures.values in
    record {
      told = goal_undefined c.args.self.now c.requires.tried c.args.sums.items c.requires.held c.requires.reached c.args.goal.now c.requires.goal c.in-Undefined.scenario first.0 first.1 first.2;
    }
