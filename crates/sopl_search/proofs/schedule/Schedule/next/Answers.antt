use Rattle.sopl_search.proofs.Drawing.{state_on, state_stays}
use Rattle.sopl_search.proofs.schedule.Schedule.next.Goals as goal

pub invariant_of-self : goal.invariant_of-self
invariant_of-self c = record {
  few = c.args.self.now.few;
  below = c.args.self.now.below;
  drawn = state_on c.args.self.now.order _ c.args.self.now.turn c.args.self.now.state c.next_state-state.result c.in-Some.is c.args.self.now.drawn c.next_state-state.ensures.next;
}

pub invariant_of-self-in-None : goal.invariant_of-self-in-None
invariant_of-self-in-None c = record {
  few = c.args.self.now.few;
  below = c.args.self.now.below;
  drawn = state_stays c.args.self.now.order c.args.self.now.turn c.args.self.now.state c.in-None.is c.args.self.now.drawn;
}
