use Rattle.std.proofs.Common.{List, sym, subst}
use Rattle.compile_scene.specs.Scenes.{root_in}
use Rattle.compile_scene.specs.Works.{things_of}
use Rattle.sopl_ast.specs.Unfolding.{problem_of}
use Rattle.sopl_ast.specs.Whole.{ModelTree}
use Rattle.sopl_ast.specs.WholeModel.{whole}
use Rattle.sopl_compile.specs.Listed.{AreListed}
use Rattle.sopl_compile.specs.Posed.{terms_asked}
use Rattle.sopl_term.specs.Built.{term_ids}
use Rattle.term_nodes.specs.Things.{term_in}
use Rattle.term_store.specs.declared.ids.TermId.{TermId}
use Rattle.sopl_compile.proofs.Ending.{IsReadyToEnd, end_allowed, end_ready, end_refused, fits, problem_ended}
use Rattle.sopl_compile.proofs.whole.completed.Goals as goal

pub goal-requires-clause-fits : goal.goal-requires-clause-fits
goal-requires-clause-fits c =
    let model : ModelTree = whole c.args.ground.now.typed.model in
    let ids : List TermId = c.as_slice.result.now in
    let listed : AreListed term_in (things_of c.add_all.new.work) (term_ids ids) (terms_asked (problem_of model)) =
    subst (λ (list : List TermId). AreListed term_in (things_of c.add_all.new.work) (term_ids list) (terms_asked (problem_of model))) (sym c.as_slice.ensures.value) c.in_ok-terms.ensures.listed in
    let ready : IsReadyToEnd model (root_in c.args.setting.now) c.add_all.new.work.builder ids =
    end_ready model c.args.setting.now c.args.work c.add_all.new.work c.args.ground.now.typed.origin c.args.ground.now.unfolded.passes c.requires.within c.requires.setting c.requires.begun ids
    c.requires.direction c.requires.worst c.in_ok-terms.ensures.adds listed in
    fits model (root_in c.args.setting.now) c.add_all.new.work.builder ids ready

pub returns-clause-problem : goal.returns-clause-problem
returns-clause-problem c =
    let model : ModelTree = whole c.args.ground.now.typed.model in
    let ids : List TermId = c.as_slice.result.now in
    let listed : AreListed term_in (things_of c.add_all.new.work) (term_ids ids) (terms_asked (problem_of model)) =
    subst (λ (list : List TermId). AreListed term_in (things_of c.add_all.new.work) (term_ids list) (terms_asked (problem_of model))) (sym c.as_slice.ensures.value) c.in_ok-terms.ensures.listed in
    let ready : IsReadyToEnd model (root_in c.args.setting.now) c.add_all.new.work.builder ids =
    end_ready model c.args.setting.now c.args.work c.add_all.new.work c.args.ground.now.typed.origin c.args.ground.now.unfolded.passes c.requires.within c.requires.setting c.requires.begun ids
    c.requires.direction c.requires.worst c.in_ok-terms.ensures.adds listed in
    problem_ended model (root_in c.args.setting.now) c.add_all.new.work.builder ids ready c.goal.result c.goal.ensures.problem

pub returns-clause-allowed : goal.returns-clause-allowed
returns-clause-allowed c =
    let model : ModelTree = whole c.args.ground.now.typed.model in
    let ids : List TermId = c.as_slice.result.now in
    let listed : AreListed term_in (things_of c.add_all.new.work) (term_ids ids) (terms_asked (problem_of model)) =
    subst (λ (list : List TermId). AreListed term_in (things_of c.add_all.new.work) (term_ids list) (terms_asked (problem_of model))) (sym c.as_slice.ensures.value) c.in_ok-terms.ensures.listed in
    let ready : IsReadyToEnd model (root_in c.args.setting.now) c.add_all.new.work.builder ids =
    end_ready model c.args.setting.now c.args.work c.add_all.new.work c.args.ground.now.typed.origin c.args.ground.now.unfolded.passes c.requires.within c.requires.setting c.requires.begun ids
    c.requires.direction c.requires.worst c.in_ok-terms.ensures.adds listed in
    end_allowed model (root_in c.args.setting.now) c.add_all.new.work.builder ids ready c.in_ok-terms.ensures.measured c.goal.result c.goal.ensures.measured

pub returns-clause-limit : goal.returns-clause-limit
returns-clause-limit c =
    let model : ModelTree = whole c.args.ground.now.typed.model in
    let ids : List TermId = c.as_slice.result.now in
    let listed : AreListed term_in (things_of c.add_all.new.work) (term_ids ids) (terms_asked (problem_of model)) =
    subst (λ (list : List TermId). AreListed term_in (things_of c.add_all.new.work) (term_ids list) (terms_asked (problem_of model))) (sym c.as_slice.ensures.value) c.in_ok-terms.ensures.listed in
    let ready : IsReadyToEnd model (root_in c.args.setting.now) c.add_all.new.work.builder ids =
    end_ready model c.args.setting.now c.args.work c.add_all.new.work c.args.ground.now.typed.origin c.args.ground.now.unfolded.passes c.requires.within c.requires.setting c.requires.begun ids
    c.requires.direction c.requires.worst c.in_ok-terms.ensures.adds listed in
    end_refused model (root_in c.args.setting.now) c.add_all.new.work.builder ids ready c.in_ok-terms.ensures.measured c.goal.result c.goal.ensures.measured
