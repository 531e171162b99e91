use Rattle.std.proofs.Common.{arith, refl}
use Rattle.std.proofs.lemmas.Int.{ints}
use Rattle.term_program.specs.Programs.{problem_in, root_in}
use Rattle.prop_shave.proofs.Leaving.{left_to_whole}
use Rattle.prop_shave.proofs.Finding.{weighed_open}
use Rattle.prop_shave.proofs.Surely.{sure_below_left, sure_from_zero}
use Rattle.prop_shave.proofs.probes.Probe.is_surely_enough.Goals as goal

pub is_too_little-requires-clause-low : goal.is_too_little-requires-clause-low
is_too_little-requires-clause-low c =
    sure_from_zero (root_in c.args.self.now.program.now) c.args.self.now.store.now.box (problem_in c.args.self.now.program.now) c.args.weighed.now.instance c.args.weighed.now.cell
    c.in-Some.left.value c.requires.asked.made.problem c.requires.asked.inside.is_box c.in-Some.ensures

pub is_too_little-requires-clause-high : goal.is_too_little-requires-clause-high
is_too_little-requires-clause-high c =
    let root = root_in c.args.self.now.program.now in
    let terms = problem_in c.args.self.now.program.now in
    let b = c.args.self.now.store.now.box in
    let w = c.args.weighed.now in
    let less = sure_below_left root b terms w.instance w.cell c.requires.asked.made.problem c.requires.asked.inside.is_box in
    let most = left_to_whole root b terms w.instance w.left.value c.requires.asked.made.problem c.requires.known.known.exists c.requires.known.known.left in
    let is = c.in-Some.ensures in
    let left = c.requires.known.known.left in
    omega (arith, ints, less, most, is, left)

pub returns-in-Some : goal.returns-in-Some
returns-in-Some c = record {
  stays = λ is.
      weighed_open c.args.self.now c.args.weighed.now c.args.weighed.now.cell c.in-Some.left.value c.is_too_little.result c.requires.asked c.requires.known refl c.in-Some.ensures
      c.is_too_little.ensures is;
}
