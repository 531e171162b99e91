use Rattle.std.proofs.Common.{◌≡◌, arith, length, rules, true}
use Rattle.prop_shave.proofs.ChanceMentioned.{below_all}
use Rattle.prop_goal.specs.KeptParts.{touches}
use Rattle.prop_goal.specs.KeptWorst.{IsBetterWith}
use Rattle.prop_goal.proofs.Objectives.{all_tried}
use Rattle.prop_goal.proofs.Scenarios.{more_with, scenarios_open}
use Rattle.prop_goal.proofs.kept_worst.KeptWorst.stays_open.Goals as goal

pub leaves_open-requires-clause-exists : goal.leaves_open-requires-clause-exists
leaves_open-requires-clause-exists c =
    let atoms = c.args.self.now.parts.atoms.items in
    below_all (touches c.args.probe.now.program.now atoms c.args.end.now.cell) (length atoms) c.args.numbers.now c.scenarios.number-index 0 c.requires.numbers c.scenarios-test.true

pub scenarios-preserved : goal.scenarios-preserved
scenarios-preserved c =
    let met : c.leaves_open.result ≡ true = search rules in
    more_with c.args.probe.now c.args.self.now.parts.atoms.items c.args.best.value c.args.end.now.cell c.args.numbers.now c.scenarios.number-index 0 c.scenarios.invariant c.scenarios-test.true
    (c.leaves_open.ensures.better met)

pub returns : goal.returns
returns c = record {
  stays = λ is.
      let q = c.args.probe.now in
      let atoms = c.args.self.now.parts.atoms.items in
      let cell = c.args.end.now.cell in
      scenarios_open q atoms c.args.best.value cell c.args.numbers.now c.requires.asked c.requires.reason c.requires.best c.requires.fits.are c.requires.whole c.requires.numbers
      (all_tried (IsBetterWith q.program.now atoms q.store.now.box c.args.best.value cell) c.args.numbers.now c.scenarios.number-index (omega (arith, c.scenarios-test.false)) c.scenarios.invariant);
}
