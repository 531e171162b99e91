use Rattle.std.proofs.Common.{[], ◌∷◌}
use Rattle.sopl_ast.specs.UnfoldEvents.{Counted}
use Rattle.unfold_declarations.proofs.Values.{reached_so, counted_so}
use Rattle.unfold_declarations.proofs.calls.count_one.Goals as goal

pub returns : goal.returns
returns c = reached_so (λ u. u) tt _ _ (Counted ∷ []) c.add.result c.add.ensures (counted_so c.add.result)
