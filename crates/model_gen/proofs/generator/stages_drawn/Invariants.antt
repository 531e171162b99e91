use Rattle.std.proofs.Common.{◌≡◌, ◌++◌, ◌-◌}
use Rattle.model_gen.specs.Draws.{drawn_stages}
use Rattle.model_gen.proofs.generator.stages_drawn.Given as goal

abbrev pub invariant-stages : goal.invariant-stages
invariant-stages l = l.list.items ++ drawn_stages (l.fn.stages - l._stage) l.generator.state ≡ drawn_stages l.fn.stages l.fn.seed
