use Rattle.std.proofs.Common.{◌≡◌, ◌≤◌, [], ◌∷◌, ◌++◌, ap, arith, rules}
use Rattle.branch_tests.specs.declared.small_problem.RestingRise.{RestingRise}
use Rattle.branch_tests.specs.Rising.{LooksAtRise, RestsAtRise, reasons_for}
use Rattle.branch_tests.proofs.Rising.{all_more, reasons_more}
use Rattle.branch_tests.proofs.small_problem.pair_members.Goals as goal

pub pairs-preserved : goal.pairs-preserved
pairs-preserved c =
    let p = c.args.program.now in
    let one = c.in_ok-pair_member.field-0 in
    let pushed : c.push.new.self.items ≡ c.pairs.list.items ++ c.in_ok-pair_member.field-0 ∷ [] = first_of (search rules, grind arith) in
    record {
      fits = all_more (λ (made : RestingRise). LooksAtRise p.intervals.items p.pairs made.resting.member.pair made.resting.cells.items) c.pairs.list.items c.push.new.self.items one pushed
          c.pairs.invariant.fits c.in_ok-pair_member.ensures.fits;
      in_step = λ b. all_more (λ (made : RestingRise). RestsAtRise p.intervals.items p.pairs made.resting.member.pair made.resting.rested b) c.pairs.list.items c.push.new.self.items one pushed
          (c.pairs.invariant.in_step b) (c.in_ok-pair_member.ensures.in_step b);
      reasons = reasons_more (λ (made : RestingRise). reasons_for made.resting.member.pair) c.pairs.list.items c.push.new.self.items one c.pairs.first pushed
          (ap reasons_for c.in_ok-pair_member.ensures.pair) c.pairs.invariant.reasons;
    }

pub returns-clause-reasons : goal.returns-clause-reasons
returns-clause-reasons c = λ cell below.
    let past : c.args.program.now.pairs ≤ c.pairs.first = search rules in
    c.pairs.invariant.reasons cell (omega (arith, below, past))
