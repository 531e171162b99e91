use Rattle.std.proofs.Common.{◌≡◌, ℕ, ◌≤ℤ◌, rules, subst, sym}
use Rattle.box_problem.specs.Box.{high, low}
use Rattle.term_program.specs.Programs.{root_in}
use Rattle.prop_shave.proofs.Finding.{counted_is}
use Rattle.prop_shave.proofs.probes.Probe.closes_by_goal_delta.Goals as goal

pub closes_with-requires-clause-known : goal.closes_with-requires-clause-known
closes_with-requires-clause-known c = c.requires.known.known

pub closes_with-requires-clause-from_low : goal.closes_with-requires-clause-from_low
closes_with-requires-clause-from_low c =
    let same : c.args.counted.now.cell ≡ c.args.cell = search rules in
    subst (λ (n : ℕ). low (root_in c.args.self.now.program.now) n ≤ℤ c.args.part.lo) (sym same) c.requires.from_low

pub closes_with-requires-clause-to_high : goal.closes_with-requires-clause-to_high
closes_with-requires-clause-to_high c =
    let same : c.args.counted.now.cell ≡ c.args.cell = search rules in
    subst (λ (n : ℕ). c.args.part.hi ≤ℤ high (root_in c.args.self.now.program.now) n) (sym same) c.requires.to_high

pub returns : goal.returns
returns c =
    let same : c.args.counted.now.cell ≡ c.args.cell = search rules in
    counted_is c.args.self.now c.args.counted.now c.args.cell c.args.part.lo c.args.part.hi c.in_ok-best.best.value c.closes_with.result c.requires.known.reason c.in_ok-best.ensures.some
    same c.closes_with.ensures.closed
