use Rattle.std.proofs.Common.{◌≡◌, [], ◌∷◌, ◌++◌, ap, arith, rules}
use Rattle.branch_tests.specs.declared.small_problem.RestingRise.{RestingRise}
use Rattle.branch_tests.specs.Rising.{LooksAtRise, RestsAtRise, reasons_for}
use Rattle.branch_tests.proofs.Rising.{all_more, reasons_all}
use Rattle.branch_tests.proofs.small_problem.members.Goals as goal

pub returns : goal.returns
returns c =
    let p = c.args.program.now in
    let list = c.in_ok-list.list.items in
    let one = c.in_ok-bound_member.field-0 in
    let pushed : c.push.new.self.items ≡ c.in_ok-list.list.items ++ c.in_ok-bound_member.field-0 ∷ [] = first_of (search rules, grind arith) in
    record {
      fits = all_more (λ (made : RestingRise). LooksAtRise p.intervals.items p.pairs made.resting.member.pair made.resting.cells.items) list c.push.new.self.items one pushed
          c.in_ok-list.ensures.fits c.in_ok-bound_member.ensures.fits;
      all = reasons_all (λ (made : RestingRise). reasons_for made.resting.member.pair) list c.push.new.self.items one p.intervals.items p.pairs pushed
          (ap reasons_for c.in_ok-bound_member.ensures.pair) c.in_ok-list.ensures.reasons;
      in_step = λ b. all_more (λ (made : RestingRise). RestsAtRise p.intervals.items p.pairs made.resting.member.pair made.resting.rested b) list c.push.new.self.items one pushed
          (c.in_ok-list.ensures.in_step b) (c.in_ok-bound_member.ensures.in_step b);
    }
