use Rattle.std.proofs.Common.{rules, ◌<◌, ◌+◌, length, map, drop}
use Rattle.std.proofs.lemmas.Result.{err_from_is_err_and}
use Rattle.sopl_ast.specs.References.{now_of}
use Rattle.compile_laws.specs.Whole.{hard_terms}
use Rattle.compile_laws.specs.Measured.{constraint_subterms}
use Rattle.compile_scene.specs.Scenes.{root_in}
use Rattle.sopl_compile.specs.Adding.{with_hards}
use Rattle.sopl_compile.specs.Posed.{posed}
use Rattle.sopl_compile.proofs.Additions.{hards_appended, next_item, to_add_more}
use Rattle.sopl_compile.proofs.Sizes.{sizes_fault}
use Rattle.sopl_compile.proofs.constraints.add_hards.Goals as goal

pub returns-in_err-add_hard-clause-measured : goal.returns-in_err-add_hard-clause-measured
returns-in_err-add_hard-clause-measured c =
    let below : c.hards.hard-index < length c.args.hards.now = search rules in
    let g = hard_terms (posed c.args.setting.now (map now_of c.args.conditions.now)) in
    let p = err_from_is_err_and c.from_residual.result c.from_residual.ensures.1 in
    rw (p.1, p.2)
    (sizes_fault (root_in c.args.setting.now) constraint_subterms (map g (drop c.hards.hard-index c.args.hards.now)) (map g c.args.hards.now) c.hards.invariant.sizes (g c.hard-item.result)
    (map g (drop (c.hards.hard-index + 1) c.args.hards.now)) c.in_err-add_hard.field-0.0
    (next_item g c.args.hards.now c.hards.hard-index c.hard-item.result _ below c.hard-item.is) c.in_err-add_hard.ensures.measured)

pub hards-preserved : goal.hards-preserved
hards-preserved c =
    let below : c.hards.hard-index < length c.args.hards.now = search rules in
    let g = hard_terms (posed c.args.setting.now (map now_of c.args.conditions.now)) in
    to_add_more with_hards constraint_subterms c.args.setting.now c.args.work.now hards_appended c.hards.work c.add_hard.new.work (g c.hard-item.result)
    (map g (drop c.hards.hard-index c.args.hards.now)) (map g (drop (c.hards.hard-index + 1) c.args.hards.now)) (map g c.args.hards.now)
    (next_item g c.args.hards.now c.hards.hard-index c.hard-item.result _ below c.hard-item.is) c.hards.invariant c.in_ok-add_hard.ensures.adds c.in_ok-add_hard.ensures.measured
