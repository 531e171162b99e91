use Rattle.std.proofs.Common.{◌≡◌, ◌∷◌, ◌++◌, [], arith, map, rules}
use Rattle.sopl_base.specs.declared.reason.Reason.TheVariants.{Chance}
use Rattle.prop_core.specs.Members.{together}
use Rattle.prop_set.specs.Kinds.{Fits, IsInStep, reasons_of}
use Rattle.prop_set.proofs.Together.{fit_more, reasons_more}
use Rattle.prop_set.proofs.reasons.add_chances.Goals as goal

pub instances-preserved : goal.instances-preserved
instances-preserved c =
    let pushed : c.push.new.self.items ≡ c.instances.list.items ++ c.in_ok-chance_prop.field-0 ∷ [] = first_of (search rules, grind arith) in
    record {
      fit = fit_more (λ p. Fits p c.args.program.now) c.instances.list.items c.push.new.self.items c.in_ok-chance_prop.field-0 c.instances.invariant.fit c.in_ok-chance_prop.ensures.fits pushed;
      in_step = λ b. fit_more (λ p. IsInStep p c.args.program.now b) c.instances.list.items c.push.new.self.items c.in_ok-chance_prop.field-0 (c.instances.invariant.in_step b)
          (c.in_ok-chance_prop.ensures.in_step b) pushed;
      reasons = reasons_more reasons_of Chance (together (map reasons_of c.args.list.now.items)) c.instances.list.items c.push.new.self.items c.in_ok-chance_prop.field-0 c.instances.instance
          c.instances.invariant.reasons c.in_ok-chance_prop.ensures.reasons pushed;
    }
