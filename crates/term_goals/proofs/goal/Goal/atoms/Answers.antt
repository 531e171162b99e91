use Rattle.std.proofs.Common.{Option, IfSome, subst}
use Rattle.term_math.specs.Shown.{box_in}
use Rattle.term_nodes.specs.Things.{things}
use Rattle.term_goals.specs.declared.sums.Summed.{Summed}
use Rattle.term_goals.specs.Goals.{IsSummed}
use Rattle.term_goals.proofs.Summing.{listed_sum}
use Rattle.term_goals.proofs.goal.Goal.atoms.Goals as goal

pub returns-in-Some-clause-sum : goal.returns-in-Some-clause-sum
returns-in-Some-clause-sum c = λ weights weighted expected b inside.
    let root = box_in c.args.here.now.root in
    let all = things c.args.here.now.items.now in
    let ids = c.args.self.now.terms.items in
    let is = subst (λ (s : Option Summed). IfSome s (IsSummed root all weights ids)) c.in-Some.is weighted.summed in
    listed_sum c.args.here.now weights ids c.args.self.now c.in-Some.summed b c.listed.result c.requires.ready inside c.in-Some.is is (c.listed.ensures.sum b inside)
