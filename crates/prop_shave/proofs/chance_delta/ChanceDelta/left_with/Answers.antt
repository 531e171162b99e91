use Rattle.std.proofs.Common.{arith, length}
use Rattle.term_program.specs.Programs.{problem_in, root_in, with_interval}
use Rattle.prop_shave.specs.ChanceSums.{is_touched, weight_over}
use Rattle.prop_shave.proofs.Adding.{turn_all, turn_more}
use Rattle.prop_shave.proofs.Leaving.{left_with}
use Rattle.prop_shave.proofs.ChanceMentioned.{below_all}
use Rattle.prop_shave.proofs.chance_delta.ChanceDelta.left_with.Goals as goal

pub weight_before-before-requires-clause-scenario : goal.weight_before-before-requires-clause-scenario
weight_before-before-requires-clause-scenario c =
    below_all (is_touched (root_in c.args.program.now) (problem_in c.args.program.now) c.args.self.now.instance c.args.self.now.cell) (length (problem_in c.args.program.now).weights)
    c.args.self.now.scenarios.now c.scenarios.scenario-index 0 c.requires.known.scenarios c.scenarios-test.true

pub weight_before-before-requires-clause-exists : goal.weight_before-before-requires-clause-exists
weight_before-before-requires-clause-exists c =
    let below = below_all (is_touched (root_in c.args.program.now) (problem_in c.args.program.now) c.args.self.now.instance c.args.self.now.cell) (length (problem_in c.args.program.now).weights)
    c.args.self.now.scenarios.now c.scenarios.scenario-index 0 c.requires.known.scenarios c.scenarios-test.true
    in
    omega (arith, below, c.requires.known.truths.as_many)

pub weight_with-after-requires-clause-scenario : goal.weight_with-after-requires-clause-scenario
weight_with-after-requires-clause-scenario c =
    below_all (is_touched (root_in c.args.program.now) (problem_in c.args.program.now) c.args.self.now.instance c.args.self.now.cell) (length (problem_in c.args.program.now).weights)
    c.args.self.now.scenarios.now c.scenarios.scenario-index 0 c.requires.known.scenarios c.scenarios-test.true

pub scenarios-preserved : goal.scenarios-preserved
scenarios-preserved c =
    let root = root_in c.args.program.now in
    let terms = problem_in c.args.program.now in
    let b = c.args.store.now.box in
    turn_more (weight_over root terms c.args.self.now.instance b) (weight_over root terms c.args.self.now.instance (with_interval b c.args.self.now.cell c.args.part.lo c.args.part.hi))
    c.args.self.now.scenarios.now c.scenarios.scenario-index 0 _ c.scenarios.left.value c.in_ok-left.left.value c.weight_before-before.result.value c.weight_with-after.result.value
    c.scenarios-test.true c.scenarios.invariant (c.weight_before-before.ensures b c.requires.known) c.weight_with-after.ensures c.in_ok-left.ensures

pub returns : goal.returns
returns c =
    let root = root_in c.args.program.now in
    let terms = problem_in c.args.program.now in
    let b = c.args.store.now.box in
    left_with root b terms c.args.self.now.instance c.args.self.now.cell c.args.part.lo c.args.part.hi c.args.self.now.scenarios.now c.args.self.now.left.value c.scenarios.left.value
    c.requires.known.left c.requires.known.scenarios
    (turn_all (weight_over root terms c.args.self.now.instance b) (weight_over root terms c.args.self.now.instance (with_interval b c.args.self.now.cell c.args.part.lo c.args.part.hi))
    c.args.self.now.scenarios.now c.scenarios.scenario-index _ c.scenarios.left.value
    (omega (arith, c.scenarios-test.false)) c.scenarios.invariant)
