use Rattle.std.proofs.Common.{◌∙◌, ℕ, ◌<◌, ap, length, subst}
use Rattle.box_problem.specs.Box.{high, low}
use Rattle.prop_shave.proofs.Opening.{fixed_open}
use Rattle.prop_shave.proofs.probes.Probe.bound_ends.Goals as goal

pub turns_at-requires-clause-exists : goal.turns_at-requires-clause-exists
turns_at-requires-clause-exists c = subst (λ (n : ℕ). n < length c.args.self.now.store.now.box.lows) c.in-Some.ensures.cell c.in-Some.ensures.end.exists

pub turns_at-requires-clause-lo : goal.turns_at-requires-clause-lo
turns_at-requires-clause-lo c = c.in-Some.ensures.end.low ∙ ap (low c.args.self.now.store.now.box) c.in-Some.ensures.cell

pub turns_at-requires-clause-hi : goal.turns_at-requires-clause-hi
turns_at-requires-clause-hi c = c.in-Some.ensures.end.high ∙ ap (high c.args.self.now.store.now.box) c.in-Some.ensures.cell

pub turns_at-requires-clause-known : goal.turns_at-requires-clause-known
turns_at-requires-clause-known c = c.requires.known.known

pub returns-in_default : goal.returns-in_default
returns-in_default c = fixed_open c.args.self.now c.args.counted.now.cell c.requires.whole c.in_default.ensures.none
