use Rattle.std.proofs.Common.{◌∙◌, List, arith, rules, length, map, subst}
use Rattle.sopl_base.specs.declared.reason.Reason.{Reason}
use Rattle.box_problem.specs.Rightness.{IsRight}
use Rattle.prop_core.specs.Watches.{AreCalm}
use Rattle.prop_core.proofs.Members.{fit_twice, same_count}
use Rattle.prop_core.proofs.Rests.{all_rest_of, cut_right}
use Rattle.prop_core.proofs.Stepping.{inside_step, steps_more, width_step}
use Rattle.prop_core.proofs.kept.come_to_rest.Goals as goal

pub returns-in-Quiet-clause-rests : goal.returns-in-Quiet-clause-rests
returns-in-Quiet-clause-rests g c =
    all_rest_of g.P.Propagator.reasons c.cuts.list c.args.list.now (g.P.Propagator.problem c.args.program.now) c.args.best c.cuts.store.box c.find_kept-found.result.finding
    c.in-Quiet.is c.cuts.invariant.same_reasons c.find_kept-found.ensures.finds

pub cuts-smaller : goal.cuts-smaller
cuts-smaller g c =
    width_step (g.P.Propagator.problem c.args.program.now) c.args.best c.cuts.store.box c.go_on.new.store.box c.in-Cut.step c.cuts.invariant.inside.is_box
    (cut_right (g.P.Propagator.problem c.args.program.now) (map g.P.Propagator.reasons c.cuts.list) c.args.best c.cuts.store.box 0 (length c.cuts.list) c.find_kept-found.result.finding
    c.in-Cut.step c.in-Cut.is c.find_kept-found.ensures.finds)
    c.in_ok-go_on-in-Cut.ensures.made

pub cuts-preserved : goal.cuts-preserved
cuts-preserved g c =
    let problem = g.P.Propagator.problem c.args.program.now in
    let inv = c.cuts.invariant in
    let right : IsRight (g.P.Propagator.problem c.args.program.now) c.args.best c.cuts.store.box c.in-Cut.step =
    cut_right problem (map g.P.Propagator.reasons c.cuts.list) c.args.best c.cuts.store.box 0 (length c.cuts.list) c.find_kept-found.result.finding c.in-Cut.step c.in-Cut.is c.find_kept-found.ensures.finds in
    record {
      inside = inside_step problem c.args.best c.cuts.store.box c.go_on.new.store.box c.in-Cut.step inv.inside right c.in_ok-go_on-in-Cut.ensures.made;
      steps = steps_more problem c.args.best c.args.store.now.box c.cuts.store.box c.go_on.new.store.box c.args.steps.now c.cuts.steps c.go_on.new.steps c.in-Cut.step
          inv.steps right c.in_ok-go_on-in-Cut.ensures.added c.in_ok-go_on-in-Cut.ensures.made;
      marks = c.go_on.ensures.marks ∙ inv.marks;
      as_long = search rules;
      in_step = c.go_on.ensures.in_step;
      calm = subst (λ (lists : List (List Reason)). AreCalm problem lists c.args.best c.go_on.new.store.box c.go_on.new.waits)
          (c.find_kept-found.ensures.same_reasons ∙ inv.same_reasons) c.in_ok-go_on-in-Cut.ensures.calm;
      same_reasons = c.go_on.ensures.same_reasons ∙ (c.find_kept-found.ensures.same_reasons ∙ inv.same_reasons);
      same_watches = c.go_on.ensures.same_watches ∙ (c.find_kept-found.ensures.same_watches ∙ inv.same_watches);
      bound = omega (arith, c.find_kept-found.ensures.bound, same_count g.P.Propagator.reasons c.go_on.new.list c.cuts.list (c.go_on.ensures.same_reasons ∙ c.find_kept-found.ensures.same_reasons));
      still_fit = fit_twice g.P.Propagator.fits c.args.list.now c.find_kept-found.new.list c.go_on.new.list
          (fit_twice g.P.Propagator.fits c.args.list.now c.cuts.list c.find_kept-found.new.list inv.still_fit c.find_kept-found.ensures.still_fit) c.go_on.ensures.still_fit;
    }

pub returns-in_err-go_on-in-Cut-clause-still_fit : goal.returns-in_err-go_on-in-Cut-clause-still_fit
returns-in_err-go_on-in-Cut-clause-still_fit g c =
    fit_twice g.P.Propagator.fits c.args.list.now c.find_kept-found.new.list c.go_on.new.list
    (fit_twice g.P.Propagator.fits c.args.list.now c.cuts.list c.find_kept-found.new.list c.cuts.invariant.still_fit c.find_kept-found.ensures.still_fit) c.go_on.ensures.still_fit
