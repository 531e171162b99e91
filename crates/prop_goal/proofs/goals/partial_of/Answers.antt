use Rattle.std.proofs.Common.{List, ap, arith, length, ◌∙◌}
use Rattle.sopl_base.specs.declared.interval.Interval.{Interval}
use Rattle.box_problem.specs.Box.{box_of}
use Rattle.prop_goal.proofs.goals.partial_of.Goals as goal

pub new-requires : goal.new-requires
new-requires c = record { few = omega (arith, ap (λ (xs : List Interval). length xs) c.as_slice.ensures.value, c.in_ok-roots.ensures.few) }

pub partial_scenarios-requires-clause-root : goal.partial_scenarios-requires-clause-root
partial_scenarios-requires-clause-root c =
    c.in_ok-store.ensures.root ∙ ap box_of c.as_slice.ensures.value ∙ c.in_ok-roots.ensures.root
