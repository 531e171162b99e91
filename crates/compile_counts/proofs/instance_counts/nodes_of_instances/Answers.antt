use Rattle.std.proofs.Common.{subst}
use Rattle.sopl_ast.specs.Unfolding.{text_events}
use Rattle.sopl_ast.specs.WholeModel.{whole}
use Rattle.sopl_types.specs.declared.check.Typed.{Typed}
use Rattle.unfold_laws.specs.Passing.{NothingFails}
use Rattle.compile_counts.proofs.Placed.{hards_ready, chances_ready}
use Rattle.compile_counts.proofs.instance_counts.nodes_of_instances.Goals as goal

pub nodes_of_hards-requires : goal.nodes_of_hards-requires
nodes_of_hards-requires c =
    record {
      met = hards_ready (whole c.args.ground.now.typed.model) _ _ _
          (subst (λ (t : Typed). NothingFails (text_events (whole t.model))) c.typed.ensures.same c.typed.ensures.passes)
          c.table-table.ensures.known c.requires.conditions c.hards.ensures.hards;
    }

pub nodes_of_chances-requires : goal.nodes_of_chances-requires
nodes_of_chances-requires c =
    record {
      met = chances_ready (whole c.args.ground.now.typed.model) _ _ _
          (subst (λ (t : Typed). NothingFails (text_events (whole t.model))) c.typed.ensures.same c.typed.ensures.passes)
          c.table-table.ensures.known c.requires.conditions c.chances.ensures.chances;
    }
