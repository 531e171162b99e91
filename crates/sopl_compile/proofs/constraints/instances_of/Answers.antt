use Rattle.std.proofs.Common.{List, map, subst, IfOk}
use Rattle.std.specs.declared.alloc.Global.{Global}
use Rattle.std.specs.declared.vec.Vec.{Vec}
use Rattle.sopl_ast.specs.References.{now_of}
use Rattle.term_language.specs.Terms.{Cond}
use Rattle.compile_laws.specs.Measured.{Measures, constraint_subterms}
use Rattle.compile_scene.specs.Scenes.{root_in}
use Rattle.compile_scene.specs.Works.{things_of}
use Rattle.sopl_compile.specs.Listed.{AreListed}
use Rattle.sopl_term.specs.Built.{cond_ids}
use Rattle.term_nodes.specs.Things.{cond_in}
use Rattle.term_store.specs.declared.ids.CondId.{CondId}
use Rattle.unfold_constants.specs.Here.{known_in}
use Rattle.sopl_compile.proofs.Places.{conditions_are}
use Rattle.sopl_compile.proofs.constraints.instances_of.Goals as goal

pub returns-clause-listed : goal.returns-clause-listed
returns-clause-listed c =
    subst (λ (list : List Cond). IfOk c.conditions_of.result (λ (ids : Vec CondId Global). AreListed cond_in (things_of c.conditions_of.new.work) (cond_ids ids.items) list))
    (conditions_are c.args.setting.now c.requires.ready.laid (map now_of c.args.conditions.now) c.args.text c.args.env.now (known_in c.in_ok-known.known) c.condition_at.result.now
    c.in_ok-known.ensures.known c.condition_at.ensures.at) c.conditions_of.ensures.listed

pub returns-clause-measured : goal.returns-clause-measured
returns-clause-measured c =
    subst (λ (list : List Cond). Measures (root_in c.args.setting.now) (constraint_subterms list) c.conditions_of.result)
    (conditions_are c.args.setting.now c.requires.ready.laid (map now_of c.args.conditions.now) c.args.text c.args.env.now (known_in c.in_ok-known.known) c.condition_at.result.now
    c.in_ok-known.ensures.known c.condition_at.ensures.at) c.conditions_of.ensures.measured
