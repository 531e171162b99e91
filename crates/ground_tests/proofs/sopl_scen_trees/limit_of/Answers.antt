use Rattle.std.proofs.Common.{rules, w64, to_z, of_z, SFits, ◌≡◌, [], ◌∷◌, ◌∙◌, ◌^◌, ◌≤ℤ◌, pos, ap, sym, subst}
use Rattle.std.proofs.Math.ListN.{replicate}
use Rattle.std.proofs.lemmas.Int.{to_z-of_z}
use Rattle.sopl_ast.specs.Instances.{Decision}
use Rattle.sopl_scen.specs.Layout.{AreStated}
use Rattle.sopl_scen.specs.Samples.{decided, drawn}
use Rattle.sopl_scen.proofs.Samples.{many_stated}
use Rattle.ground_tests.proofs.sopl_scen_trees.limit_of.Goals as goal

pub of-requires : goal.of-requires
of-requires c =
    let one_least : pos 1 ≤ℤ c.args.one = search rules in
    let one_most : c.args.one ≤ℤ pos (2 ^ 40) = search rules in
    let three_least : pos 1 ≤ℤ c.args.three = search rules in
    let three_most : c.args.three ≤ℤ pos (2 ^ 40) = search rules in
    let hi_least : pos 0 ≤ℤ c.args.hi = search rules in
    let hi_most : c.args.hi ≤ℤ pos 65535 = search rules in
    let hi_fits : SFits w64 c.args.hi = search rules in
    let hi : to_z w64 (of_z w64 c.args.hi) ≡ c.args.hi = to_z-of_z w64 c.args.hi hi_fits in
    let one_fits : SFits w64 c.args.one = search rules in
    let three_fits : SFits w64 c.args.three = search rules in
    let one : to_z w64 (of_z w64 c.args.one) ≡ c.args.one = to_z-of_z w64 c.args.one one_fits in
    let three : to_z w64 (of_z w64 c.args.three) ≡ c.args.three = to_z-of_z w64 c.args.three three_fits in
    record {
      stated =
          subst (λ (d : Decision). AreStated (d ∷ []) c.deref.result.now c.args.constraints) (sym (c.decision.ensures ∙ ap (λ z. decided z 2) hi))
          (many_stated c.args.many c.args.one c.args.three c.args.hi c.args.constraints c.deref.result.now c.if-many-gt20.false
          (record { least = one_least; most = one_most }) (record { least = three_least; most = three_most })
          hi_least hi_most c.if-constraints-gt1000.false (c.deref.ensures.value ∙ (c.in-Ok.ensures ∙ (λ i. replicate c.args.many (drawn (one i) (three i) 1)))));
    }
