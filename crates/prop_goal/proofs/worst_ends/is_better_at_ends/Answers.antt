use Rattle.std.proofs.Common.{◌≡◌, ◌∙◌, ap, false, rules, sym, ℤ}
use Rattle.sopl_base.proofs.Booleans.{not_true}
use Rattle.sopl_base.specs.declared.direction.Direction.{Direction}
use Rattle.box_problem.specs.Box.{Box}
use Rattle.term_problem.specs.Problems.{direction_in}
use Rattle.term_program.specs.Programs.{no_better, problem_in, root_in, things_in}
use Rattle.prop_shave.specs.GoalSums.{part_over}
use Rattle.prop_shave.proofs.Opening.{upper_end}
use Rattle.prop_goal.proofs.Scenarios.{high_box, low_box}
use Rattle.prop_goal.proofs.worst_ends.is_better_at_ends.Goals as goal

pub end_at-high-requires-clause-end : goal.end_at-high-requires-clause-end
end_at-high-requires-clause-end c = upper_end c.args.probe.now c.args.end.now c.upper.result c.requires.end c.upper.ensures

pub returns : goal.returns
returns c =
    let q = c.args.probe.now in
    let b = q.store.now.box in
    let end = c.args.end.now in
    let mine = direction_in (problem_in q.program.now) in
    let v = c.args.best.value in
    let over : Box → ℤ = λ box. part_over mine (root_in q.program.now) (things_in q.program.now) box c.args.atom.now in
    record {
      to_low = λ is.
          let met : c.is_no_better.result ≡ false = search rules in
          ap (λ (z : ℤ). no_better mine z v) (sym (c.end_at-low.ensures ∙ ap over (low_box b end c.requires.side c.requires.end.low)))
          ∙ ap (λ (d : Direction). no_better d c.end_at-low.result.value v) (sym c.direction.ensures)
          ∙ sym c.is_no_better.ensures
          ∙ met;
      to_high = λ is.
          ap (λ (z : ℤ). no_better mine z v) (sym (c.end_at-high.ensures ∙ ap over (high_box b end c.upper.result c.upper.ensures c.requires.end.high)))
          ∙ ap (λ (d : Direction). no_better d c.end_at-high.result.value v) (sym c.direction-2.ensures)
          ∙ sym c.is_no_better-2.ensures
          ∙ not_true c.is_no_better-2.result is;
    }
