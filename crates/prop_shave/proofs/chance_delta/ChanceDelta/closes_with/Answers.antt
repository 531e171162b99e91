use Rattle.term_program.specs.Programs.{problem_in, root_in, with_interval}
use Rattle.prop_shave.proofs.Leaving.{closes_by, left_from_zero, left_to_whole}
use Rattle.prop_shave.proofs.chance_delta.ChanceDelta.closes_with.Goals as goal

pub is_too_little-requires-clause-low : goal.is_too_little-requires-clause-low
is_too_little-requires-clause-low c =
    left_from_zero (root_in c.args.program.now) (with_interval c.args.store.now.box c.args.self.now.cell c.args.part.lo c.args.part.hi) (problem_in c.args.program.now) c.args.self.now.instance
    c.in_ok-left.left.value c.requires.made.problem c.requires.known.exists c.in_ok-left.ensures

pub is_too_little-requires-clause-high : goal.is_too_little-requires-clause-high
is_too_little-requires-clause-high c =
    left_to_whole (root_in c.args.program.now) (with_interval c.args.store.now.box c.args.self.now.cell c.args.part.lo c.args.part.hi) (problem_in c.args.program.now) c.args.self.now.instance
    c.in_ok-left.left.value c.requires.made.problem c.requires.known.exists c.in_ok-left.ensures

pub returns : goal.returns
returns c = record {
  closed = closes_by (root_in c.args.program.now) (with_interval c.args.store.now.box c.args.self.now.cell c.args.part.lo c.args.part.hi) (problem_in c.args.program.now) c.args.self.now.instance
      c.in_ok-left.left.value c.is_too_little.result c.requires.made.problem c.requires.known.exists c.in_ok-left.ensures c.is_too_little.ensures;
}
