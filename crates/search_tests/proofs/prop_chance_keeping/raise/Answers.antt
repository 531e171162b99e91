use Rattle.std.proofs.Common.{◌∙◌, ap, pos}
use Rattle.sopl_base.specs.declared.reason.Side.TheVariants.{Ge}
use Rattle.box_problem.specs.Box.{Box}
use Rattle.box_problem.specs.Steps.{narrowed}
use Rattle.search_tests.proofs.GoingBack.{narrowed_elsewhere}
use Rattle.search_tests.proofs.prop_chance_keeping.raise.Goals as goal

pub returns-clause-in_step : goal.returns-clause-in_step
returns-clause-in_step c = λ program step.
    c.touched.ensures.in_step program c.args.store.now.box c.tighten.new.self.box
    (narrowed_elsewhere c.args.store.now.box c.tighten.new.self.box 0 Ge (pos 2)
    (c.tighten.ensures.narrowed ∙ ap (λ (b : Box). narrowed b 0 Ge (pos 2)) (c.mark.ensures.same_box ∙ c.in_ok-reserve.ensures.same_box)))
    step
