use Rattle.std.proofs.Common.{◌∙◌, ap, arith, get_or, length}
use Rattle.term_language.specs.declared.answers.Truth.{Truth}
use Rattle.term_program.specs.Programs.{problem_in, root_in}
use Rattle.prop_shave.specs.ChanceSums.{at_risk, is_touched, weight_at}
use Rattle.prop_shave.proofs.ChanceMentioned.{below_all}
use Rattle.prop_shave.proofs.Surely.{less_all, less_more, risk_in, sure_is}
use Rattle.prop_shave.proofs.probes.Probe.left_surely.Goals as goal

pub weight_if_unknown-here-requires : goal.weight_if_unknown-here-requires
weight_if_unknown-here-requires c = record {
  exists = below_all (is_touched (root_in c.args.self.now.program.now) (problem_in c.args.self.now.program.now) c.args.weighed.now.instance c.args.weighed.now.cell)
      (length (problem_in c.args.self.now.program.now).weights)
      c.args.weighed.now.scenarios.now c.scenarios.scenario-index 0 c.requires.known.known.scenarios c.scenarios-test.true;
}

pub bounds-weighed-scenario : goal.bounds-weighed-scenario
bounds-weighed-scenario c =
    let below = below_all (is_touched (root_in c.args.self.now.program.now) (problem_in c.args.self.now.program.now) c.args.weighed.now.instance c.args.weighed.now.cell)
    (length (problem_in c.args.self.now.program.now).weights) c.args.weighed.now.scenarios.now c.scenarios.scenario-index 0 c.requires.known.known.scenarios c.scenarios-test.true
    in
    omega (arith, below, c.requires.known.known.truths.as_many)

pub scenarios-preserved : goal.scenarios-preserved
scenarios-preserved c =
    let root = root_in c.args.self.now.program.now in
    let terms = problem_in c.args.self.now.program.now in
    let b = c.args.self.now.store.now.box in
    let w = c.args.weighed.now in
    let below = below_all (is_touched root terms w.instance w.cell) (length terms.weights) w.scenarios.now c.scenarios.scenario-index 0 c.requires.known.known.scenarios c.scenarios-test.true in
    less_more (risk_in root terms w.instance b) w.scenarios.now c.scenarios.scenario-index 0 _ c.scenarios.left.value c.in_ok-left.left.value c.weight_if_unknown-here.result.value
    c.scenarios-test.true c.scenarios.invariant
    (c.weight_if_unknown-here.ensures ∙ ap (λ (t : Truth). at_risk t (weight_at terms (get_or w.scenarios.now c.scenarios.scenario-index 0)))
    (c.requires.known.known.truths.each (get_or w.scenarios.now c.scenarios.scenario-index 0) _ below))
    c.in_ok-left.ensures.difference

pub returns : goal.returns
returns c =
    let root = root_in c.args.self.now.program.now in
    let terms = problem_in c.args.self.now.program.now in
    let b = c.args.self.now.store.now.box in
    let w = c.args.weighed.now in
    sure_is root b terms w.instance w.cell w.scenarios.now w.left.value c.scenarios.left.value c.requires.known.known.left c.requires.known.known.scenarios
    (less_all (risk_in root terms w.instance b) w.scenarios.now c.scenarios.scenario-index _ c.scenarios.left.value (omega (arith, c.scenarios-test.false)) c.scenarios.invariant)
