use Rattle.std.proofs.Common.{arith}
use Rattle.std.proofs.lemmas.Int.{ints}
use Rattle.std.proofs.lemmas.Bool.Decides.{nat_tests}
use Rattle.term_windows.proofs.windows.Window.has.Goals as goal

-- src/windows.rt:24:13
pub returns-then-ends-self : goal.returns-then-ends-self
returns-then-ends-self c = grind (arith, ints, c.if-ends-self.true)

-- src/windows.rt:27:13
pub returns-then-ends-self-2 : goal.returns-then-ends-self-2
returns-then-ends-self-2 c = grind (arith, ints, c.if-ends-self.false, c.if-ends-self-2.true)

-- src/windows.rt:29:9
pub abs_diff-requires : goal.abs_diff-requires
abs_diff-requires c = tt

-- src/windows.rt:19:5
pub returns : goal.returns
returns c = grind (arith, ints, nat_tests, c.if-ends-self.false, c.if-ends-self-2.false, c.abs_diff.ensures)
