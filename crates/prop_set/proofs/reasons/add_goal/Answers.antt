use Rattle.std.proofs.Common.{◌≡◌, ◌∷◌, ◌++◌, [], arith, rules}
use Rattle.prop_set.specs.Kinds.{Fits, IsInStep}
use Rattle.prop_set.proofs.Together.{fit_more}
use Rattle.prop_set.proofs.reasons.add_goal.Goals as goal

pub returns-clause-fit : goal.returns-clause-fit
returns-clause-fit c =
    let pushed : c.push.new.self.items ≡ c.args.list.now.items ++ c.in_ok-goal_prop.field-0 ∷ [] = first_of (search rules, grind arith) in
    fit_more (λ p. Fits p c.args.program.now) c.args.list.now.items c.push.new.self.items c.in_ok-goal_prop.field-0 c.requires.fit c.in_ok-goal_prop.ensures.fits pushed

pub returns-clause-in_step : goal.returns-clause-in_step
returns-clause-in_step c = λ b.
    let pushed : c.push.new.self.items ≡ c.args.list.now.items ++ c.in_ok-goal_prop.field-0 ∷ [] = first_of (search rules, grind arith) in
    fit_more (λ p. IsInStep p c.args.program.now b) c.args.list.now.items c.push.new.self.items c.in_ok-goal_prop.field-0 (c.requires.in_step b) (c.in_ok-goal_prop.ensures.in_step b) pushed
