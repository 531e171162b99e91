use Rattle.std.proofs.Common.{sym, ap, subst, ◌∙◌, None}
use Rattle.sopl_ast.specs.Lists.{binders}
use Rattle.sopl_ast.specs.UnfoldEvents.{first_failure, expression_events}
use Rattle.sopl_ast.specs.Sight.{shape_of_kind}
use Rattle.sopl_ast.specs.Tree.{Node}
use Rattle.unfold_constants.specs.Here.{known_in}
use Rattle.compile_counts.specs.Walked.{AreMet}
use Rattle.compile_counts.proofs.Walking.{sum_met}
use Rattle.compile_tests.proofs.compile_counts_places.put_places.Goals as goal

pub all_places-requires : goal.all_places-requires
all_places-requires c =
    record {
      met = subst (λ bs. AreMet (known_in c.args.known.now) None (binders bs)) (sym c.as_slice.ensures.items)
          (sum_met (known_in c.args.known.now) c.args.e.now c.e.inside.at _ (binders c.in-Sum.over) _
          (sym c.e.view_is ∙ ap (λ k. Node c.e.inside.at (shape_of_kind k)) c.in-Sum.is)
          (ap (λ n. first_failure n (expression_events (known_in c.args.known.now) c.args.e.now)) (sym c.new-count.ensures) ∙ c.in_ok-expression.ensures.met));
    }
