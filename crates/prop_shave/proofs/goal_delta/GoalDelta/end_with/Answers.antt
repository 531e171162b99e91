use Rattle.std.proofs.Common.{◌∙◌, None, ap, arith, get_or, length, rules, ◌<◌}
use Rattle.sopl_base.specs.declared.wide.Wide.{Wide}
use Rattle.term_program.specs.Programs.{root_in, things_in, with_interval}
use Rattle.prop_shave.specs.declared.part_ends.PartEnds.{PartEnds}
use Rattle.prop_shave.specs.GoalSums.{part_at, touches_at}
use Rattle.prop_shave.proofs.Adding.{turn_all, turn_more}
use Rattle.prop_shave.proofs.ChanceMentioned.{below_all}
use Rattle.prop_shave.proofs.Ending.{end_with}
use Rattle.prop_shave.proofs.GoalMentioned.{part_there, part_is}
use Rattle.prop_shave.proofs.Reaching.{part_better}
use Rattle.prop_shave.proofs.goal_delta.GoalDelta.end_with.Goals as goal

pub before-before-requires : goal.before-before-requires
before-before-requires c =
    let k = c.args.self.now in
    let below = below_all (touches_at (root_in c.args.program.now) (things_in c.args.program.now) k.atoms.now k.cell) (length k.atoms.now) k.numbers.now c.parts.number-index 0
    c.requires.known.numbers c.parts-test.true
    in
    record { exists = omega (arith, below, c.requires.known.ends.as_many) }

pub part_with-requires-clause-exists : goal.part_with-requires-clause-exists
part_with-requires-clause-exists c =
    let k = c.args.self.now in
    part_there (λ a. a.term < length (things_in c.args.program.now)) k.atoms.now (get_or k.numbers.now c.parts.number-index 0) _ c.requires.known.are.exist
    (below_all (touches_at (root_in c.args.program.now) (things_in c.args.program.now) k.atoms.now k.cell) (length k.atoms.now) k.numbers.now c.parts.number-index 0
    c.requires.known.numbers c.parts-test.true)

pub offset_bounds-self-number : goal.offset_bounds-self-number
offset_bounds-self-number c =
    let k = c.args.self.now in
    let exists : get_or k.numbers.now c.parts.number-index 0 < length k.atoms.now =
    below_all (touches_at (root_in c.args.program.now) (things_in c.args.program.now) k.atoms.now k.cell) (length k.atoms.now) k.numbers.now c.parts.number-index 0
    c.requires.known.numbers c.parts-test.true
    in
    search rules

pub bounds-self-number : goal.bounds-self-number
bounds-self-number c =
    let k = c.args.self.now in
    below_all (touches_at (root_in c.args.program.now) (things_in c.args.program.now) k.atoms.now k.cell) (length k.atoms.now) k.numbers.now c.parts.number-index 0
    c.requires.known.numbers c.parts-test.true

pub parts-preserved : goal.parts-preserved
parts-preserved c =
    let program = c.args.program.now in
    let b = c.args.store.now.box in
    let k = c.args.self.now in
    let at = get_or k.numbers.now c.parts.number-index 0 in
    let below = below_all (touches_at (root_in program) (things_in program) k.atoms.now k.cell) (length k.atoms.now) k.numbers.now c.parts.number-index 0 c.requires.known.numbers c.parts-test.true in
    let e : PartEnds = record { better = k.end; worse = None } in
    turn_more (part_at program k.atoms.now b) (part_at program k.atoms.now (with_interval b k.cell c.args.part.lo c.args.part.hi)) k.numbers.now c.parts.number-index 0 _
    c.parts.end.value c.in_ok-end.end.value c.before-before.result.value c.in_ok-after.after.value c.parts-test.true c.parts.invariant
    (ap (λ (w : Wide). w.value) (c.before-before.ensures e) ∙ part_better program b k.atoms.now k.ends.now at e c.requires.known.ends below)
    (c.in_ok-after.ensures ∙ part_is program k.atoms.now (with_interval b k.cell c.args.part.lo c.args.part.hi) at _ below)
    c.in_ok-end.ensures

pub returns : goal.returns
returns c =
    let program = c.args.program.now in
    let b = c.args.store.now.box in
    let k = c.args.self.now in
    end_with program b k.cell c.args.part.lo c.args.part.hi k.atoms.now k.numbers.now k.end.value c.parts.end.value c.requires.known.are c.requires.inside c.requires.from_low c.args.part.ordered
    c.requires.to_high c.requires.known.end c.requires.known.numbers
    (turn_all (part_at program k.atoms.now b) (part_at program k.atoms.now (with_interval b k.cell c.args.part.lo c.args.part.hi)) k.numbers.now c.parts.number-index _ c.parts.end.value
    (omega (arith, c.parts-test.false)) c.parts.invariant)
