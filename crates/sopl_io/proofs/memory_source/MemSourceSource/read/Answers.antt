use Rattle.std.proofs.Common.{refl}
use Rattle.sopl_io.proofs.memory_source.MemSourceSource.read.Goals as goal

pub returns-then-is_next_listed-clause-fails : goal.returns-then-is_next_listed-clause-fails
returns-then-is_next_listed-clause-fails c = rw (← c.self.view_is) (λ _. c.is_next_listed.ensures.listed.0 c.if-is_next_listed.true, λ _. refl)
