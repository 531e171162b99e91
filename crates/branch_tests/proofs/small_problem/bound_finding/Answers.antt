use Rattle.std.proofs.Common.{rules, ℤ, pos, ◌+ℤ◌, ◌<◌, true, false, w64, SFits, to_z, of_z, ap, length, ◌∙◌}
use Rattle.sopl_base.proofs.Sizes.{same_small}
use Rattle.box_problem.specs.Box.{box_of, high, low}
use Rattle.branch_tests.proofs.Rising.{bound_dead, bound_quiet, bound_up, cell_there, reached_at}
use Rattle.branch_tests.proofs.small_problem.bound_finding.Goals as goal

pub returns-then-is_reached : goal.returns-then-is_reached
returns-then-is_reached c =
    let b = c.args.store.now.box in
    let fits : SFits w64 c.hi.result = search rules in
    bound_dead (box_of c.args._program.now.intervals.items) b c.args._program.now.pairs c.args.best
    (reached_at _ (high b 0) c.args.best c.is_reached.result true (same_small c.hi.result fits ∙ c.hi.ensures) c.is_reached.ensures c.if-is_reached.true)

pub returns-then-is_reached-2 : goal.returns-then-is_reached-2
returns-then-is_reached-2 c =
    let b = c.args.store.now.box in
    let fits : SFits w64 c.hi.result = search rules in
    let low_fits : SFits w64 c.lo.result = search rules in
    let end_fits : SFits w64 c.lo-then-is_reached-2.result = search rules in
    let end : ℤ = to_z w64 (of_z w64 c.lo-then-is_reached-2.result) in
    let next_fits : SFits w64 (end +ℤ pos 1) = search rules in
    let exists : 0 < length b.lows = cell_there c.args._program.now.intervals.items b 0 c.requires.inside c.requires.exists in
    bound_up (box_of c.args._program.now.intervals.items) b c.args._program.now.pairs c.args.best (to_z w64 (of_z w64 (end +ℤ pos 1))) c.requires.inside.is_box exists
    (reached_at _ (high b 0) c.args.best c.is_reached.result false (same_small c.hi.result fits ∙ c.hi.ensures) c.is_reached.ensures c.if-is_reached.false)
    (reached_at _ (low b 0) c.args.best c.is_reached-2.result true (same_small c.lo.result low_fits ∙ c.lo.ensures) c.is_reached-2.ensures c.if-is_reached-2.true)
    (same_small (end +ℤ pos 1) next_fits ∙ ap (λ z. z +ℤ pos 1) (same_small c.lo-then-is_reached-2.result end_fits ∙ c.lo-then-is_reached-2.ensures))

pub returns : goal.returns
returns c =
    let b = c.args.store.now.box in
    let fits : SFits w64 c.lo.result = search rules in
    let exists : 0 < length b.lows = cell_there c.args._program.now.intervals.items b 0 c.requires.inside c.requires.exists in
    bound_quiet (box_of c.args._program.now.intervals.items) b c.args._program.now.pairs c.args.best c.requires.inside.is_box exists
    (reached_at _ (low b 0) c.args.best c.is_reached-2.result false (same_small c.lo.result fits ∙ c.lo.ensures) c.is_reached-2.ensures c.if-is_reached-2.false)
