use Rattle.std.proofs.Common.{rules, ◌<◌, ◌+◌, length, map, drop}
use Rattle.std.proofs.lemmas.Result.{err_from_is_err_and}
use Rattle.sopl_ast.specs.References.{now_of}
use Rattle.compile_laws.specs.Whole.{chance_terms}
use Rattle.term_problem.specs.Problems.{ChanceTerms}
use Rattle.compile_laws.specs.Measured.{constraint_subterms}
use Rattle.compile_scene.specs.Scenes.{root_in}
use Rattle.sopl_compile.specs.Adding.{with_chances}
use Rattle.sopl_compile.specs.Posed.{posed}
use Rattle.sopl_compile.proofs.Additions.{chances_appended, next_item, to_add_more}
use Rattle.sopl_compile.proofs.Sizes.{sizes_fault}
use Rattle.sopl_compile.proofs.constraints.add_chances.Goals as goal

pub returns-in_err-add_chance-clause-measured : goal.returns-in_err-add_chance-clause-measured
returns-in_err-add_chance-clause-measured c =
    let below : c.chances.chance-index < length c.args.chances.now = search rules in
    let g = chance_terms (posed c.args.setting.now (map now_of c.args.conditions.now)) in
    let p = err_from_is_err_and c.from_residual.result c.from_residual.ensures.1 in
    rw (p.1, p.2)
    (sizes_fault (root_in c.args.setting.now) (λ (terms : ChanceTerms). constraint_subterms terms.conditions) (map g (drop c.chances.chance-index c.args.chances.now)) (map g c.args.chances.now)
    c.chances.invariant.sizes (g c.chance-item.result)
    (map g (drop (c.chances.chance-index + 1) c.args.chances.now)) c.in_err-add_chance.field-0.0
    (next_item g c.args.chances.now c.chances.chance-index c.chance-item.result _ below c.chance-item.is) c.in_err-add_chance.ensures.measured)

pub chances-preserved : goal.chances-preserved
chances-preserved c =
    let below : c.chances.chance-index < length c.args.chances.now = search rules in
    let g = chance_terms (posed c.args.setting.now (map now_of c.args.conditions.now)) in
    to_add_more with_chances (λ (terms : ChanceTerms). constraint_subterms terms.conditions) c.args.setting.now c.args.work.now chances_appended c.chances.work c.add_chance.new.work
    (g c.chance-item.result)
    (map g (drop c.chances.chance-index c.args.chances.now)) (map g (drop (c.chances.chance-index + 1) c.args.chances.now)) (map g c.args.chances.now)
    (next_item g c.args.chances.now c.chances.chance-index c.chance-item.result _ below c.chance-item.is) c.chances.invariant c.in_ok-add_chance.ensures.adds c.in_ok-add_chance.ensures.measured
