use Rattle.std.proofs.Common.{sym, ◌∙◌}
use Rattle.prop_linear.specs.Kinds.{reason_of}
use Rattle.prop_linear.proofs.Finding.{found_cut, found_dead, found_quiet}
use Rattle.prop_linear.proofs.Meeting.{met_cells}
use Rattle.prop_linear.proofs.linear_constraint.LinearConstraint.finding.Goals as goal

pub returns-then-is_closed : goal.returns-then-is_closed
returns-then-is_closed c = λ program v tells inside.
    found_dead program (reason_of c.args.self.now) c.args.balance.now.difference v tells inside c.reason-reason.result c.reason-reason.ensures (sym c.is_closed.ensures ∙ c.if-is_closed.true)

pub returns-then-is_met : goal.returns-then-is_met
returns-then-is_met c = λ program v tells inside.
    let d = c.args.balance.now.difference in
    found_quiet program (reason_of c.args.self.now) d v tells inside (sym c.is_closed.ensures ∙ c.if-is_closed.false)
    (met_cells d c.requires.summed.light (sym c.is_met.ensures ∙ c.if-is_met.true))

pub returns-in-Some : goal.returns-in-Some
returns-in-Some c = λ program v tells inside.
    found_cut program (reason_of c.args.self.now) c.args.balance.now.difference v tells inside c.in-Some.step (c.in-Some.ensures.own_reason ∙ c.reason-reason.ensures)
    (sym c.is_closed.ensures ∙ c.if-is_closed.false) c.in-Some.ensures.removes

pub returns-in-None : goal.returns-in-None
returns-in-None c = λ program v tells inside.
    found_quiet program (reason_of c.args.self.now) c.args.balance.now.difference v tells inside (sym c.is_closed.ensures ∙ c.if-is_closed.false) c.in-None.ensures.none
