use Rattle.std.proofs.Common.{arith, rules, ◌≡◌, subst, get_or, slice_get, Some, None}
use Rattle.std.proofs.lemmas.Option.{slice_get-get_or}
use Rattle.sopl_ast.specs.Instances.{Hard}
use Rattle.policy_eval.specs.Tried.{IsFirstFalse, holds_at, scenario_count}
use Rattle.policy_eval.proofs.Trials.{hard_fails, hard_held, hards_held, held_more}
use Rattle.policy_eval.proofs.trial.Trial.hards.Goals as goal

pub hards-preserved : goal.hards-preserved
hards-preserved c =
    let h : Hard = get_or c.args.self.now.hards.now c.hards.instance c.index-self-instance.result in
    let at : slice_get c.args.self.now.hards.now c.hards.instance ≡ Some h = slice_get-get_or c.args.self.now.hards.now c.hards.instance c.index-self-instance.result c.hards-test.true in
    let none : c.in_ok-scenario.field-0 ≡ None = search rules in
    held_more c.args.self.now c.requires.tried c.hards.instance h at
    (hard_held c.args.self.now c.requires.tried h
    (subst (IsFirstFalse (holds_at c.args.self.now h.text h.bound) (scenario_count c.args.self.now)) none c.in_ok-scenario.ensures.first))
    c.hards.invariant

pub returns-in-hards : goal.returns-in-hards
returns-in-hards c =
    let h : Hard = get_or c.args.self.now.hards.now c.hards.instance c.index-self-instance.result in
    let at : slice_get c.args.self.now.hards.now c.hards.instance ≡ Some h = slice_get-get_or c.args.self.now.hards.now c.hards.instance c.index-self-instance.result c.hards-test.true in
    record {
      told = hard_fails c.args.self.now c.requires.tried c.hards.instance c.in-Some.scenario h at
          (subst (IsFirstFalse (holds_at c.args.self.now h.text h.bound) (scenario_count c.args.self.now)) c.in-Some.is
          c.in_ok-scenario.ensures.first) c.hards.invariant;
    }

pub returns : goal.returns
returns c = record { told = hards_held c.args.self.now c.requires.tried (λ j g below at. c.hards.invariant j g (omega (arith, below, c.hards-test.false)) at) }
