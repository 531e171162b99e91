use Rattle.std.proofs.Common.{rules, ℕ, ◌+◌, refl, sym, ap, arith, ◌∙◌}
use Rattle.sopl_io.specs.Calls.{no_call}
use Rattle.sopl_io.proofs.Calling.{calls_more, where_all, where_later}
use Rattle.sopl_io.proofs.Gathering.{on_err}
use Rattle.sopl_search.specs.Logged.{plan_of}
use Rattle.sopl_search.proofs.Running.{breaks_off_asked, named_by_turn, runs_on_asked, seat_there, still_search}
use Rattle.sopl_search.proofs.searching.run.Goals as goal

pub nodes-init : goal.nodes-init
nodes-init g c = record {
  running = λ asked before same is. is;
  asked = refl;
  fits = c.requires.fits;
  all = c.requires.all;
  following = c.requires.following;
  whole = c.requires.whole;
  seats = refl;
  order = refl;
  turn = c.requires.turn ∙ sym c.requires.begun;
  within = omega (arith, c.requires.begun);
  root = λ none. c.requires.root;
  calls = no_call;
  names = refl;
  later = omega arith;
}

pub step-requires-clause-search : goal.step-requires-clause-search
step-requires-clause-search g c =
    let given = c.requires.running in
    still_search (g.P.Propagator.problem c.args.program.now) (plan_of c.args.schedule given.0 c.args.budget) _ c.nodes.crew.frontier given.1 (g.K.Sink.taken c.nodes.sink)
    (c.nodes.invariant.asked ∙ given.2) (c.nodes.invariant.running given.0 given.1 given.2 given.3)

pub step-requires-clause-exists : goal.step-requires-clause-exists
step-requires-clause-exists g c =
    let given = c.requires.running in
    seat_there (g.P.Propagator.problem c.args.program.now) (plan_of c.args.schedule given.0 c.args.budget) c.nodes.crew.frontier given.1 (g.K.Sink.taken c.nodes.sink) c.next-seat.result
    c.nodes.turns.seats (c.nodes.invariant.running given.0 given.1 given.2 given.3) c.next-seat.ensures.exists c.nodes.invariant.seats

pub returns-in_err-step-clause-prefix : goal.returns-in_err-step-clause-prefix
returns-in_err-step-clause-prefix g c = λ asked before same is. on_err _
    (breaks_off_asked (g.P.Propagator.problem c.args.program.now) (plan_of c.args.schedule asked c.args.budget) _ c.nodes.crew.frontier before (g.K.Sink.taken c.nodes.sink)
    (g.K.Sink.taken c.step.new.sink) c.next-seat.result c.nodes.turns.turn (c.nodes.invariant.asked ∙ same) (c.nodes.invariant.running asked before same is)
    (named_by_turn (plan_of c.args.schedule asked c.args.budget) c.nodes.turns.seats c.nodes.turns.turn c.nodes.turns.order c.next-seat.result c.next-seat.ensures.named c.nodes.invariant.seats c.nodes.invariant.order)
    c.nodes.invariant.turn (search rules) c.in_err-step.ensures.refused)

pub nodes-preserved : goal.nodes-preserved
nodes-preserved g c = record {
  running = λ asked before same is.
      runs_on_asked (g.P.Propagator.problem c.args.program.now) (plan_of c.args.schedule asked c.args.budget) _ c.nodes.crew.frontier c.step.new.self.frontier before (g.K.Sink.taken c.nodes.sink)
      (g.K.Sink.taken c.step.new.sink) c.next-seat.result c.nodes.turns.turn (c.nodes.invariant.asked ∙ same) (c.nodes.invariant.running asked before same is)
      (named_by_turn (plan_of c.args.schedule asked c.args.budget) c.nodes.turns.seats c.nodes.turns.turn c.nodes.turns.order c.next-seat.result c.next-seat.ensures.named c.nodes.invariant.seats c.nodes.invariant.order)
      c.nodes.invariant.turn (search rules) c.in_ok-step.ensures.search c.in_ok-step.ensures.seats c.in_ok-step.ensures.stepped;
  asked = c.step.ensures.asked ∙ c.nodes.invariant.asked;
  fits = c.step.ensures.fits;
  all = c.step.ensures.all;
  following = c.step.ensures.following;
  whole = c.in_ok-step.ensures.whole;
  seats = c.next-seat.ensures.seats ∙ c.nodes.invariant.seats;
  order = c.next-seat.ensures.order ∙ c.nodes.invariant.order;
  turn = c.next-seat.ensures.turn ∙ (ap (λ (n : ℕ). n + 1) c.nodes.invariant.turn ∙ sym c.in_ok-step.ensures.finished);
  within = search rules;
  root = λ none. absurd (omega (arith, none, c.in_ok-step.ensures.finished));
  calls = calls_more _ _ _ c.nodes.invariant.calls (c.step.ensures.outcomes.all (search rules));
  names = c.step.ensures.names ∙ c.nodes.invariant.names;
  later = omega (arith, c.nodes.invariant.later, c.step.ensures.faults_grow);
}

pub returns-in_err-step-clause-outcomes : goal.returns-in_err-step-clause-outcomes
returns-in_err-step-clause-outcomes g c = where_later _ _ _ c.nodes.invariant.calls (search rules)

pub returns-clause-outcomes : goal.returns-clause-outcomes
returns-clause-outcomes g c = where_all _ _ (search rules) c.nodes.invariant.calls
