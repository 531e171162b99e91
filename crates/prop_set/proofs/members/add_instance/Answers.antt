use Rattle.std.proofs.Common.{◌≡◌, ◌∷◌, ◌++◌, [], arith, map, rules}
use Rattle.sopl_base.specs.declared.reason.Reason.TheVariants.{Hard}
use Rattle.prop_core.specs.Members.{together}
use Rattle.prop_set.specs.Kinds.{Fits, IsInStep, reasons_of}
use Rattle.prop_set.proofs.Together.{fit_more, reasons_more}
use Rattle.prop_set.proofs.members.add_instance.Goals as goal

pub scenarios-preserved : goal.scenarios-preserved
scenarios-preserved c =
    let pushed : c.push.new.self.items ≡ c.scenarios.list.items ++ c.in_ok-prop_of.field-0 ∷ [] = first_of (search rules, grind arith) in
    record {
      fit = fit_more (λ p. Fits p c.args.program.now) c.scenarios.list.items c.push.new.self.items c.in_ok-prop_of.field-0 c.scenarios.invariant.fit c.in_ok-prop_of.ensures.fits pushed;
      in_step = λ b. fit_more (λ p. IsInStep p c.args.program.now b) c.scenarios.list.items c.push.new.self.items c.in_ok-prop_of.field-0 (c.scenarios.invariant.in_step b)
          (c.in_ok-prop_of.ensures.in_step b) pushed;
      reasons = reasons_more reasons_of (Hard c.args.instance) (together (map reasons_of c.args.list.now.items)) c.scenarios.list.items c.push.new.self.items c.in_ok-prop_of.field-0
          c.scenarios.scenario
          c.scenarios.invariant.reasons c.in_ok-prop_of.ensures.reasons pushed;
    }
