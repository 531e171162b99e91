use Rattle.std.proofs.Common.{arith, get_or, length, rules, ◌<◌}
use Rattle.term_problem.specs.Problems.{direction_in}
use Rattle.term_program.specs.Programs.{problem_in, root_in, things_in}
use Rattle.prop_shave.specs.GoalSums.{part_at, touches_at}
use Rattle.prop_shave.proofs.ChanceMentioned.{below_all}
use Rattle.prop_shave.proofs.Reaching.{as_good_all, as_good_more, part_better, part_good}
use Rattle.prop_shave.proofs.probes.Probe.worst_end.Goals as goal

pub offset_bounds-counted-number : goal.offset_bounds-counted-number
offset_bounds-counted-number c =
    let below = below_all (touches_at (root_in c.args.self.now.program.now) (things_in c.args.self.now.program.now) c.args.counted.now.atoms.now c.args.counted.now.cell)
    (length c.args.counted.now.atoms.now) c.args.counted.now.numbers.now c.parts.number-index 0 c.requires.known.known.numbers c.parts-test.true
    in
    let exists : get_or c.args.counted.now.numbers.now c.parts.number-index 0 < length c.args.counted.now.ends.now = omega (arith, below, c.requires.known.known.ends.as_many) in
    search rules

pub bounds-counted-number : goal.bounds-counted-number
bounds-counted-number c =
    let below = below_all (touches_at (root_in c.args.self.now.program.now) (things_in c.args.self.now.program.now) c.args.counted.now.atoms.now c.args.counted.now.cell)
    (length c.args.counted.now.atoms.now) c.args.counted.now.numbers.now c.parts.number-index 0 c.requires.known.known.numbers c.parts-test.true
    in
    omega (arith, below, c.requires.known.known.ends.as_many)

pub parts-preserved : goal.parts-preserved
parts-preserved c = λ part inside.
    let program = c.args.self.now.program.now in
    let b = c.args.self.now.store.now.box in
    let k = c.args.counted.now in
    let known = c.requires.known.known in
    let at = get_or k.numbers.now c.parts.number-index 0 in
    let below = below_all (touches_at (root_in program) (things_in program) k.atoms.now k.cell) (length k.atoms.now) k.numbers.now c.parts.number-index 0 known.numbers c.parts-test.true in
    let worsened = c.in_ok-end.ensures in
    as_good_more (direction_in (problem_in program)) (part_at program k.atoms.now b) (part_at program k.atoms.now part) k.numbers.now c.parts.number-index 0 _ c.parts.end.value c.in_ok-end.end.value
    _ worsened.worse.value c.parts-test.true (c.parts.invariant part inside)
    (part_better program b k.atoms.now k.ends.now at _ known.ends below)
    (part_good program b part k.atoms.now k.ends.now at _ worsened.worse known.ends inside below worsened.told)
    worsened.sum

pub returns : goal.returns
returns c = record {
  as_good = λ part inside.
      let program = c.args.self.now.program.now in
      let k = c.args.counted.now in
      as_good_all (direction_in (problem_in program)) (part_at program k.atoms.now c.args.self.now.store.now.box) (part_at program k.atoms.now part) k.numbers.now c.parts.number-index _
      c.parts.end.value (omega (arith, c.parts-test.false)) (c.parts.invariant part inside);
}
