use Rattle.std.proofs.Common.{subst}
use Rattle.std.specs.List.{All}
use Rattle.prop_shave.specs.Opened.{IsOpen}
use Rattle.prop_alldiff.proofs.Resting.{none_leads, rests}
use Rattle.prop_alldiff.proofs.all_diff.AllDiff.step_of_shared.Goals as goal

pub returns-clause-none : goal.returns-clause-none
returns-clause-none c =
    none_leads c.step_among.result
    (λ opened. rests c.args.self.now c.args.probe.now c.requires.fits c.requires.own c.requires.asked c.requires.whole c.requires.looked c.requires.apart
    (subst (All (IsOpen c.args.probe.now)) c.as_slice.ensures.value opened)) c.step_among.ensures.none
