use Rattle.std.proofs.Common.{◌≡◌, ◌∙◌, List, map, ap, subst, None}
use Rattle.std.proofs.lemmas.Result.{err_from_is_err_and}
use Rattle.std.specs.List.{flat_map}
use Rattle.term_language.specs.Terms.{Cond, Term}
use Rattle.compile_laws.specs.Whole.{problem_terms}
use Rattle.term_problem.specs.Problems.{ChanceTerms, ProblemTerms}
use Rattle.compile_laws.specs.Measured.{IsSizeFault, Measures, constraint_subterms, first_large}
use Rattle.compile_laws.specs.Subterms.{subterms}
use Rattle.compile_scene.specs.Scenes.{root_in}
use Rattle.sopl_ast.specs.References.{now_of}
use Rattle.sopl_ast.specs.Unfolding.{problem_of}
use Rattle.sopl_ast.specs.WholeModel.{whole}
use Rattle.sopl_ast.specs.declared.whole.Model.{Model}
use Rattle.sopl_compile.specs.Adding.{Adds, with_chances, with_hards}
use Rattle.sopl_compile.specs.Posed.{terms_asked}
use Rattle.sopl_term.specs.Built.{problem_built}
use Rattle.sopl_types.specs.declared.check.Typed.{Typed}
use Rattle.unfold_tables.specs.Tables.{table_known}
use Rattle.sopl_compile.proofs.Additions.{adds_either, adds_twice}
use Rattle.sopl_compile.proofs.Faults.{chances_fault, goal_measures, hards_fault}
use Rattle.sopl_compile.proofs.Objectives.{goal_measured}
use Rattle.sopl_compile.proofs.Passed.{chances_met, hards_met}
use Rattle.sopl_compile.proofs.Places.{chances_are, hards_are}
use Rattle.sopl_compile.proofs.whole.add_all.Goals as goal
use Rattle.sopl_unfold.specs.GroundProblem.{ground_problem}

pub add_hards-requires-clause-met : goal.add_hards-requires-clause-met
add_hards-requires-clause-met c =
    hards_met (whole c.args.ground.now.typed.model) (table_known c.args.setting.now.table.now) (map now_of c.args.conditions.now) c.args.ground.now.unfolded.passes c.requires.setting.known
    c.requires.conditions c.hards.result.now c.hards.ensures.hards

pub returns-in_err-add_hards-clause-measured : goal.returns-in_err-add_hards-clause-measured
returns-in_err-add_hards-clause-measured c =
    let p = err_from_is_err_and c.from_residual.result c.from_residual.ensures.1 in
    rw (p.1, p.2)
    (hards_fault (root_in c.args.setting.now) (problem_terms (ground_problem c.args.ground.now)) c.in_err-add_hards.field-0.0
    (subst (λ (list : List (List Cond)). IsSizeFault (root_in c.args.setting.now) (flat_map constraint_subterms list) c.in_err-add_hards.field-0.0)
    (hards_are (ground_problem c.args.ground.now) c.args.setting.now c.requires.setting (map now_of c.args.conditions.now) c.hards.result.now c.requires.conditions
    c.hards.ensures.hards)
    c.in_err-add_hards.ensures.measured))

pub add_chances-requires-clause-met : goal.add_chances-requires-clause-met
add_chances-requires-clause-met c =
    chances_met (whole c.args.ground.now.typed.model) (table_known c.args.setting.now.table.now) (map now_of c.args.conditions.now) c.args.ground.now.unfolded.passes c.requires.setting.known
    c.requires.conditions c.chances.result.now c.chances.ensures.chances

pub returns-in_err-add_chances-clause-measured : goal.returns-in_err-add_chances-clause-measured
returns-in_err-add_chances-clause-measured c =
    let small : first_large (root_in c.args.setting.now) (flat_map constraint_subterms (problem_terms (ground_problem c.args.ground.now)).hards) ≡ None =
    subst (λ (list : List (List Cond)). first_large (root_in c.args.setting.now) (flat_map constraint_subterms list) ≡ None)
    (hards_are (ground_problem c.args.ground.now) c.args.setting.now c.requires.setting (map now_of c.args.conditions.now) c.hards.result.now c.requires.conditions
    c.hards.ensures.hards)
    c.in_ok-add_hards.ensures.measured in
    let p = err_from_is_err_and c.from_residual-in_err-add_chances.result c.from_residual-in_err-add_chances.ensures.1 in
    rw (p.1, p.2)
    (chances_fault (root_in c.args.setting.now) (problem_terms (ground_problem c.args.ground.now)) c.in_err-add_chances.field-0.0 small
    (subst (λ (list : List ChanceTerms). IsSizeFault (root_in c.args.setting.now) (flat_map (λ (chance : ChanceTerms). constraint_subterms chance.conditions) list) c.in_err-add_chances.field-0.0)
    (chances_are (ground_problem c.args.ground.now) c.args.setting.now c.requires.setting (map now_of c.args.conditions.now) c.chances.result.now c.requires.conditions
    c.chances.ensures.chances) c.in_err-add_chances.ensures.measured))

pub returns-clause-adds : goal.returns-clause-adds
returns-clause-adds c =
    let before : ProblemTerms = problem_built c.args.work.now.builder in
    let hards : List (List Cond) = (problem_terms (ground_problem c.args.ground.now)).hards in
    let chances : List ChanceTerms = (problem_terms (ground_problem c.args.ground.now)).chances in
    let first : Adds c.args.setting.now c.args.work.now c.add_hards.new.work (with_hards before hards) =
    subst (λ (list : List (List Cond)). Adds c.args.setting.now c.args.work.now c.add_hards.new.work (with_hards before list))
    (hards_are (ground_problem c.args.ground.now) c.args.setting.now c.requires.setting (map now_of c.args.conditions.now) c.hards.result.now c.requires.conditions
    c.hards.ensures.hards)
    c.in_ok-add_hards.ensures.adds in
    let second : Adds c.args.setting.now c.add_hards.new.work c.add_chances.new.work (with_chances (problem_built c.add_hards.new.work.builder) chances) =
    subst (λ (list : List ChanceTerms). Adds c.args.setting.now c.add_hards.new.work c.add_chances.new.work (with_chances (problem_built c.add_hards.new.work.builder) list))
    (chances_are (ground_problem c.args.ground.now) c.args.setting.now c.requires.setting (map now_of c.args.conditions.now) c.chances.result.now c.requires.conditions
    c.chances.ensures.chances) c.in_ok-add_chances.ensures.adds in
    adds_either c.terms_of_model.result c.args.setting.now c.args.work.now c.add_chances.new.work c.terms_of_model.new.work (with_chances (with_hards before hards) chances)
    (adds_twice with_chances c.args.setting.now c.args.work.now c.add_hards.new.work c.add_chances.new.work (with_hards before hards) chances first second) c.terms_of_model.ensures.extends

pub returns-clause-measured : goal.returns-clause-measured
returns-clause-measured c =
    let hards : first_large (root_in c.args.setting.now) (flat_map constraint_subterms (problem_terms (ground_problem c.args.ground.now)).hards) ≡ None =
    subst (λ (list : List (List Cond)). first_large (root_in c.args.setting.now) (flat_map constraint_subterms list) ≡ None)
    (hards_are (ground_problem c.args.ground.now) c.args.setting.now c.requires.setting (map now_of c.args.conditions.now) c.hards.result.now c.requires.conditions
    c.hards.ensures.hards)
    c.in_ok-add_hards.ensures.measured in
    let chances : first_large (root_in c.args.setting.now)
    (flat_map (λ (chance : ChanceTerms). constraint_subterms chance.conditions) (problem_terms (ground_problem c.args.ground.now)).chances) ≡ None =
    subst (λ (list : List ChanceTerms). first_large (root_in c.args.setting.now) (flat_map (λ (chance : ChanceTerms). constraint_subterms chance.conditions) list) ≡ None)
    (chances_are (ground_problem c.args.ground.now) c.args.setting.now c.requires.setting (map now_of c.args.conditions.now) c.chances.result.now c.requires.conditions
    c.chances.ensures.chances) c.in_ok-add_chances.ensures.measured in
    goal_measures (root_in c.args.setting.now) (problem_terms (ground_problem c.args.ground.now)) c.terms_of_model.result hards chances
    (subst (λ (terms : List Term). Measures (root_in c.args.setting.now) terms c.terms_of_model.result)
    (ap (λ (m : Model). flat_map subterms (terms_asked (problem_of (whole m)))) (c.model.ensures.same ∙ ap (λ (t : Typed). t.model) c.typed.ensures.same)
    ∙ goal_measured (ground_problem c.args.ground.now)) c.terms_of_model.ensures.measured)
