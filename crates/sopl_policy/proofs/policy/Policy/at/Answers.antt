use Rattle.std.proofs.lemmas.Grind.{common_steps}
use Rattle.std.proofs.lemmas.Int.{to_z-of_z}
use Rattle.std.proofs.Common.{rules, arith, ◌≡◌, ◌∙◌, SFits, ap, sym, Some, w64, to_z, of_z}
use Rattle.sopl_policy.specs.Kept.{value_kept}
use Rattle.sopl_policy.proofs.Keeping.{value_mapped}
use Rattle.sopl_policy.proofs.policy.Policy.at.Goals as goal

pub returns-clause-policy : goal.returns-clause-policy
returns-clause-policy c =
    let fits : SFits w64 c.index-2.result.now = search rules in
    let plain : to_z w64 (of_z w64 c.index-2.result.now) ≡ c.index-2.result.now = to_z-of_z w64 c.index-2.result.now fits in
    let same : to_z w64 (of_z w64 c.index-2.result.now) ≡ value_kept c.args.self.now c.args.decision c.args.history = grind (arith, common_steps) in
    λ problem d seen is decided at. value_mapped problem c.args.self.now is c.args.decision c.args.history d seen decided at ∙ ap Some (sym same)
