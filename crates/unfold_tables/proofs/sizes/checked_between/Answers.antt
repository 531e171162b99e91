use Rattle.sopl_ast.specs.Numbers.{count_between}
use Rattle.unfold_tables.proofs.sizes.checked_between.Goals as goal

pub returns : goal.returns
returns c count = c.checked_size.ensures (count_between c.args.ends.now.lo c.args.ends.now.hi) count c.size_of.ensures
