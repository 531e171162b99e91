use Rattle.std.proofs.Common.{◌∙◌, sym}
use Rattle.prop_shave.proofs.Finding.{found_cut, found_dead}
use Rattle.prop_alldiff.proofs.all_diff.AllDiff.found.Goals as goal

pub returns-then-closes_box-clause-finds : goal.returns-then-closes_box-clause-finds
returns-then-closes_box-clause-finds c = found_dead c.args.probe.now (sym c.closes_box.ensures.closed ∙ c.if-closes_box.true)

pub returns-in-Some-clause-finds : goal.returns-in-Some-clause-finds
returns-in-Some-clause-finds c =
    found_cut c.args.probe.now c.in-Some.step (sym c.closes_box.ensures.closed ∙ c.if-closes_box.false) c.in-Some.ensures.own_reason c.in-Some.ensures.right
