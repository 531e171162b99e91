use Rattle.std.proofs.Common.{subst}
use Rattle.prop_set.specs.Kinds.{IsInStep}
use Rattle.prop_set.specs.declared.any_prop.AnyProp.{AnyProp}
use Rattle.prop_set.proofs.any_prop.AnyPropWatching.touched.Goals as goal

pub returns-in-Linear-clause-in_step : goal.returns-in-Linear-clause-in_step
returns-in-Linear-clause-in_step c = λ program before after agree step.
    c.touched.ensures.in_step program before after agree (subst (λ (m : AnyProp). IsInStep m program before) c.in-Linear.is step)

pub returns-in-Chance-clause-in_step : goal.returns-in-Chance-clause-in_step
returns-in-Chance-clause-in_step c = λ program before after agree step.
    c.touched-in-Chance.ensures.in_step program before after agree (subst (λ (m : AnyProp). IsInStep m program before) c.in-Chance.is step)

pub returns-in-Goal-clause-in_step : goal.returns-in-Goal-clause-in_step
returns-in-Goal-clause-in_step c = λ program before after agree step.
    c.touched-in-Goal.ensures.in_step program before after agree (subst (λ (m : AnyProp). IsInStep m program before) c.in-Goal.is step)
