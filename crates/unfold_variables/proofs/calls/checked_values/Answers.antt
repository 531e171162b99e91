use Rattle.sopl_ast.specs.Numbers.{count_between}
use Rattle.sopl_ast.specs.UnfoldEvents.{too_many}
use Rattle.unfold_declarations.proofs.Values.{reached_so, counted_so}
use Rattle.unfold_variables.proofs.calls.checked_values.Goals as goal
use Rattle.sopl_base.specs.declared.codes.TheConstants as codes

pub returns : goal.returns
returns c count =
    reached_so (λ u. u) tt count count (too_many codes.DOMAIN (count_between c.args.ends.now.lo c.args.ends.now.hi)) c.checked_between.result (c.checked_between.ensures count)
    (counted_so c.checked_between.result)
