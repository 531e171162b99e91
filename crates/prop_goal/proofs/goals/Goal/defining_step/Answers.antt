use Rattle.std.proofs.Common.{◌<◌, ◌≤◌, arith, length, rules, subst, sym, None}
use Rattle.std.specs.List.{Contains}
use Rattle.sopl_base.specs.declared.reason.Reason.TheVariants.{Bound, Undefined}
use Rattle.prop_shave.specs.declared.probes.Probe.{Probe}
use Rattle.term_program.specs.Stated.{box_problem_of}
use Rattle.prop_goal.specs.Goals.{RestsFor, lacks_of, reasons_of}
use Rattle.prop_goal.proofs.Defined.{defined_rests}
use Rattle.prop_goal.proofs.Objectives.{all_tried, every, has_lack, has_scenario, more_tried, one_of, whole_for}
use Rattle.prop_goal.proofs.goals.Goal.defining_step.Goals as goal

pub undefined_step-requires-clause-scenario : goal.undefined_step-requires-clause-scenario
undefined_step-requires-clause-scenario c =
    let exists : c.scenarios.at < length c.args.self.now.partial.items = search rules in
    let scenario = c.index-scenario.result.now in
    let below = c.requires.fits.partial.below scenario (one_of c.args.self.now.partial.items c.scenarios.at scenario exists c.index-scenario.ensures) in
    omega (arith, below, c.requires.fits.scenarios)

pub undefined_step-requires-clause-whole : goal.undefined_step-requires-clause-whole
undefined_step-requires-clause-whole c =
    let exists : c.scenarios.at < length c.args.self.now.partial.items = search rules in
    let scenario = c.index-scenario.result.now in
    let q : Probe = record { program = c.args.program; store = c.args.store; reason = Undefined scenario; best = c.args.best; weighed = None; counted = None } in
    whole_for q (lacks_of c.args.self.now) c.requires.whole
    (has_lack Undefined c.args.self.now.scenarios scenario
    (c.requires.fits.partial.below scenario (one_of c.args.self.now.partial.items c.scenarios.at scenario exists c.index-scenario.ensures)))

pub returns-in-Some-clause-own_reason : goal.returns-in-Some-clause-own_reason
returns-in-Some-clause-own_reason c =
    let exists : c.scenarios.at < length c.args.self.now.partial.items = search rules in
    let scenario = c.index-scenario.result.now in
    subst (Contains (reasons_of c.args.self.now)) (sym c.in-Some.ensures.own_reason)
    (has_scenario Undefined c.args.self.now.scenarios scenario Bound
    (c.requires.fits.partial.below scenario (one_of c.args.self.now.partial.items c.scenarios.at scenario exists c.index-scenario.ensures)))

pub scenarios-preserved : goal.scenarios-preserved
scenarios-preserved c =
    let exists : c.scenarios.at < length c.args.self.now.partial.items = search rules in
    more_tried (λ k. RestsFor (box_problem_of c.args.program.now) c.args.best c.args.store.now.box (Undefined k)) c.args.self.now.partial.items c.scenarios.at c.index-scenario.result.now
    c.scenarios.invariant exists c.index-scenario.ensures c.in_default.ensures.none

pub returns-clause-none : goal.returns-clause-none
returns-clause-none c =
    let past : length c.args.self.now.partial.items ≤ c.scenarios.at = omega (arith, c.scenarios-test.false) in
    let problem = box_problem_of c.args.program.now in
    let b = c.args.store.now.box in
    every (RestsFor problem c.args.best b) Undefined c.args.self.now.scenarios c.args.self.now.partial.items
    (all_tried (λ k. RestsFor problem c.args.best b (Undefined k)) c.args.self.now.partial.items c.scenarios.at past c.scenarios.invariant)
    (λ k below nowhere. defined_rests c.args.program.now b k c.args.best c.requires.fits.made c.requires.inside (c.requires.fits.partial.others k below nowhere))
