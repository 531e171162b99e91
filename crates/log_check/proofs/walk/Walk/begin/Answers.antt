use Rattle.std.proofs.Common.{◌∙◌, ap, length, sym}
use Rattle.box_problem.specs.Box.{Box}
use Rattle.log_check.proofs.walk.Walk.begin.Goals as goal

pub returns-clause-in_step : goal.returns-clause-in_step
returns-clause-in_step c = λ program. c.forget.ensures.in_step program c.mark.new.self.box (c.requires.cells ∙ ap (λ (b : Box). length b.lows) (sym c.mark.ensures.same_box))
