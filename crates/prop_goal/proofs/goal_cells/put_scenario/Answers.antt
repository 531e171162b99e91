use Rattle.std.proofs.Common.{◌∙◌, ap, option_map, sym}
use Rattle.term_nodes.specs.Things.{term_at}
use Rattle.term_program.specs.Programs.{problem_in, root_in, things_in}
use Rattle.prop_goal.proofs.Objectives.{only_through, put_through, undefined_cells, undefined_only}
use Rattle.prop_goal.proofs.goal_cells.put_scenario.Goals as goal

pub returns-in-Some-clause-put : goal.returns-in-Some-clause-put
returns-in-Some-clause-put c =
    put_through c.put_cells.result _ _ _
    (undefined_cells (root_in c.args.program.now) (problem_in c.args.program.now) c.args.scenario _ c.term_cells.result.now
    (sym (ap (option_map (λ id. term_at (things_in c.args.program.now) id.0)) c.in-Some.is) ∙ c.goal.ensures.term) c.term_cells.ensures.cells)
    c.put_cells.ensures.put

pub returns-in-Some-clause-only : goal.returns-in-Some-clause-only
returns-in-Some-clause-only c =
    only_through c.put_cells.result _ _ _ _
    (undefined_only (root_in c.args.program.now) (problem_in c.args.program.now) c.args.scenario _ c.term_cells.result.now
    (sym (ap (option_map (λ id. term_at (things_in c.args.program.now) id.0)) c.in-Some.is) ∙ c.goal.ensures.term) c.term_cells.ensures.cells)
    c.put_cells.ensures.only
