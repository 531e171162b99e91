use Rattle.std.proofs.Common.{◌∙◌, ap, sym}
use Rattle.box_problem.specs.Box.{box_of}
use Rattle.term_program.specs.Stated.{box_problem_of}
use Rattle.search_tests.proofs.ProgramResting.{root_inside, watched}
use Rattle.search_tests.proofs.prop_core_asking.calls_at_rest.Goals as goal

pub fixpoint_kept-requires-clause-watch : goal.fixpoint_kept-requires-clause-watch
fixpoint_kept-requires-clause-watch c =
    watched _ c.as_slice-2.result.now c.as_mut_slice.result.now c.in_ok-watch.watch c.cells.result c.args.program.now c.in_ok-store.store.box c.in_ok-watch.ensures
    (c.as_slice-2.ensures.value ∙ sym c.as_mut_slice.ensures.value) c.cells.ensures
    (root_inside (box_problem_of c.args.program.now).root c.in_ok-roots.roots.items c.in_ok-store.store.box c.in_ok-roots.ensures.root (c.in_ok-store.ensures.root ∙ ap box_of c.as_slice.ensures.value))
