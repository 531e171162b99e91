use Rattle.std.proofs.Common.{◌∙◌, length, drop}
use Rattle.sopl_ast.specs.Known.{bound_value}
use Rattle.unfold_constants.specs.Here.{bindings_in}
use Rattle.unfold_constants.specs.Starts.{start_in}
use Rattle.unfold_constants.proofs.Placing.{bound_passed}
use Rattle.unfold_constants.proofs.constant_scope.ConstantScope.bound_value.Goals as goal

pub returns : goal.returns
returns c =
    c.bound_value_of.ensures
    ∙ (λ i. bound_value c.args.name.now c.args.index.now (bindings_in (drop (c.start.ensures i) (c.as_slice.ensures.value i))))
    ∙ bound_passed c.args.name.now c.args.index.now
    (start_in c.args.self.now.indexed c.args.name.now c.args.self.now.places.entries (length c.args.self.now.bound.items)) c.args.self.now.bound.items
    (c.args.self.now.passed c.args.name.now)
