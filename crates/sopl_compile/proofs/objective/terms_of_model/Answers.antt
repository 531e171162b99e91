use Rattle.std.proofs.Common.{List, ap, sym, subst, option_map, IfOk}
use Rattle.std.specs.List.{flat_map}
use Rattle.std.specs.declared.alloc.Global.{Global}
use Rattle.std.specs.declared.vec.Vec.{Vec}
use Rattle.term_language.specs.Terms.{Term}
use Rattle.compile_laws.specs.Measured.{Measures, first_large}
use Rattle.compile_laws.specs.Subterms.{subterms}
use Rattle.compile_scene.specs.Scenes.{root_in}
use Rattle.compile_scene.specs.Works.{things_of}
use Rattle.sopl_ast.specs.Unfolding.{problem_of}
use Rattle.sopl_ast.specs.WholeModel.{goal_tree, whole}
use Rattle.sopl_compile.specs.Listed.{AreListed}
use Rattle.sopl_compile.specs.Posed.{terms_asked}
use Rattle.sopl_term.specs.Built.{term_ids}
use Rattle.term_nodes.specs.Things.{term_in}
use Rattle.term_store.specs.declared.ids.TermId.{TermId}
use Rattle.unfold_tables.specs.Tables.{table_known}
use Rattle.sopl_compile.proofs.Listing.{none_listed}
use Rattle.sopl_compile.proofs.Objectives.{goal_listed, goal_passes, no_terms}
use Rattle.sopl_compile.proofs.objective.terms_of_model.Goals as goal

pub goal_terms-requires-clause-passes : goal.goal_terms-requires-clause-passes
goal_terms-requires-clause-passes c =
    goal_passes (whole c.args.model.now) (table_known c.args.setting.now.table.now) (goal_tree c.in-Some.goal) c.requires.passes c.requires.setting.known (ap (option_map goal_tree) c.in-Some.is)

pub returns-in-None-clause-listed : goal.returns-in-None-clause-listed
returns-in-None-clause-listed c =
    none_listed term_in (things_of c.args.work.now) _ (terms_asked (problem_of (whole c.args.model.now))) (ap term_ids c.new.ensures.items)
    (no_terms (whole c.args.model.now) (ap (option_map goal_tree) c.in-None.is))

pub returns-in-None-clause-measured : goal.returns-in-None-clause-measured
returns-in-None-clause-measured c =
    sym (ap (λ (terms : List Term). first_large (root_in c.args.setting.now) (flat_map subterms terms)) (no_terms (whole c.args.model.now) (ap (option_map goal_tree) c.in-None.is)))

pub returns-in-Some-clause-listed : goal.returns-in-Some-clause-listed
returns-in-Some-clause-listed c =
    subst (λ (list : List Term). IfOk c.goal_terms.result (λ (ids : Vec TermId Global). AreListed term_in (things_of c.goal_terms.new.work) (term_ids ids.items) list))
    (goal_listed (whole c.args.model.now) c.args.setting.now (goal_tree c.in-Some.goal) c.requires.ready.laid c.requires.setting (ap (option_map goal_tree) c.in-Some.is))
    c.goal_terms.ensures.listed

pub returns-in-Some-clause-measured : goal.returns-in-Some-clause-measured
returns-in-Some-clause-measured c =
    subst (λ (list : List Term). Measures (root_in c.args.setting.now) (flat_map subterms list) c.goal_terms.result)
    (goal_listed (whole c.args.model.now) c.args.setting.now (goal_tree c.in-Some.goal) c.requires.ready.laid c.requires.setting (ap (option_map goal_tree) c.in-Some.is))
    c.goal_terms.ensures.measured
