use Rattle.std.proofs.Common.{ℕ, List, Contains, arith, subst, length}
use Rattle.std.proofs.lemmas.List.{length-map}
use Rattle.prop_core.specs.Waking.{AreWoken}
use Rattle.prop_core.proofs.Onward.{calm_on, step_agrees}
use Rattle.prop_core.proofs.Stepping.{inside_step}
use Rattle.prop_core.proofs.kept.go_on.Goals as goal

pub touch-requires : goal.touch-requires
touch-requires g c = record { watch = (length c.args.store.now.box.lows, c.requires.right.cut.exists, c.requires.watch) }

pub places-requires : goal.places-requires
places-requires g c = record { exists = omega (arith, c.requires.right.cut.exists, c.requires.watch.as_long) }

pub let_wait-requires : goal.let_wait-requires
let_wait-requires g c = record {
  below = λ k has.
      omega (
        arith,
        length-map c.args.list.now g.P.Propagator.watches,
        c.requires.as_long,
        ((c.requires.watch.each c.args.step.now.cell k c.requires.right.cut.exists).0 (subst (λ (ps : List ℕ). Contains ps k) c.places.ensures has)).0,
      );
}

pub returns-clause-in_step : goal.returns-clause-in_step
returns-clause-in_step g c =
    let problem = g.P.Propagator.problem c.args.program.now in
    let b = c.args.store.now.box in
    let after = c.make.new.store.box in
    let c_in = inside_step problem c.args.best b after c.args.step.now c.requires.inside c.requires.right c.in_ok-make.ensures.made in
    c.touch.ensures.in_step c.args.program.now b after c.requires.fits c.requires.inside c_in (step_agrees b after c.args.step.now c.in_ok-make.ensures.made) c.requires.in_step

pub returns-clause-calm : goal.returns-clause-calm
returns-clause-calm g c =
    let problem = g.P.Propagator.problem c.args.program.now in
    let program = c.args.program.now in
    let b = c.args.store.now.box in
    let after = c.make.new.store.box in
    let c_in = inside_step problem c.args.best b after c.args.step.now c.requires.inside c.requires.right c.in_ok-make.ensures.made in
    calm_on problem g.P.Propagator.reasons g.P.Propagator.fits g.P.Propagator.watches program c.args.best b after c.args.watch.now (length c.args.store.now.box.lows) c.args.step.now.cell _
    c.args.list.now c.touch.new.list c.args.waits.now c.let_wait.new.waits
    (λ m fit. g.met.P.Watching.reasons_agree m program fit)
    (c.touch.ensures.still_fit program c.requires.fits) c.requires.right.cut.exists c.requires.watch c.touch.ensures.same_watches c.touch.ensures.same_reasons
    (step_agrees b after c.args.step.now c.in_ok-make.ensures.made)
    c.requires.inside c_in (subst (λ (ps : List ℕ). AreWoken ps c.args.waits.now c.let_wait.new.waits) c.places.ensures c.let_wait.ensures) c.requires.calm
