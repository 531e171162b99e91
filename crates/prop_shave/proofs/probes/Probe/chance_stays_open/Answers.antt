use Rattle.std.proofs.Common.{◌≡◌, IfSome, rules, subst}
use Rattle.term_program.specs.Programs.{problem_in, root_in}
use Rattle.prop_shave.specs.ChanceSums.{left_over}
use Rattle.prop_shave.specs.Opened.{IsOpen}
use Rattle.prop_shave.specs.Turns.{AreEndTurns}
use Rattle.prop_shave.proofs.probes.Probe.chance_stays_open.Goals as goal

pub is_enough_at_ends-requires-clause-turns : goal.is_enough_at_ends-requires-clause-turns
is_enough_at_ends-requires-clause-turns c =
    let q = c.args.self.now in
    let w = c.args.weighed.now in
    subst (λ o. IfSome o (AreEndTurns (left_over (root_in q.program.now) (problem_in q.program.now) w.instance) q.store.now.box w.cell)) c.in-Some.is c.requires.known.known.turns

pub returns-in-Some : goal.returns-in-Some
returns-in-Some c = record {
  stays = λ is.
      let same : c.args.weighed.now.cell ≡ c.args.cell = search rules in
      subst (IsOpen c.args.self.now) same (c.is_enough_at_ends.ensures.stays is);
}

pub returns-in-None : goal.returns-in-None
returns-in-None c = record {
  stays = λ is.
      let same : c.args.weighed.now.cell ≡ c.args.cell = search rules in
      subst (IsOpen c.args.self.now) same (c.is_surely_enough.ensures.stays is);
}
