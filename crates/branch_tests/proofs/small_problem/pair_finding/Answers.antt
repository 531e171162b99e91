use Rattle.std.proofs.Common.{◌<◌, ◌≤ℤ◌, ◌<ℤ◌, ◌∙◌, SFits, arith, length, of_z, rules, to_z, w64}
use Rattle.std.proofs.lemmas.Int.{to_z-of_z}
use Rattle.box_problem.specs.Box.{box_of, high, low}
use Rattle.branch_tests.proofs.Rising.{cell_there, pair_first, pair_quiet, pair_second}
use Rattle.branch_tests.proofs.small_problem.pair_finding.Goals as goal

pub returns-then-hi : goal.returns-then-hi
returns-then-hi c =
    let intervals = c.args._program.now.intervals.items in
    let b = c.args.store.now.box in
    let first = c.args.first in
    let second = c.next_cell-second.result in
    let fits : SFits w64 c.hi-then-hi.result = search rules in
    let within : low b first ≤ℤ high b second = search rules in
    let above : high b second <ℤ high b first = search rules in
    let exists : second < length b.lows = cell_there intervals b second c.requires.inside (omega (arith, c.next_cell-second.ensures, c.requires.pair.exists)) in
    pair_first (box_of intervals) b c.args._program.now.pairs first second c.args._best (to_z w64 (of_z w64 c.hi-then-hi.result))
    c.requires.pair.below exists c.next_cell-second.ensures within above (to_z-of_z w64 c.hi-then-hi.result fits ∙ c.hi-then-hi.ensures)

pub returns-then-lo : goal.returns-then-lo
returns-then-lo c =
    let intervals = c.args._program.now.intervals.items in
    let b = c.args.store.now.box in
    let first = c.args.first in
    let second = c.next_cell-second.result in
    let fits : SFits w64 c.lo-then-lo.result = search rules in
    let within : low b first ≤ℤ high b second = search rules in
    let under : low b second <ℤ low b first = search rules in
    let exists : second < length b.lows = cell_there intervals b second c.requires.inside (omega (arith, c.next_cell-second.ensures, c.requires.pair.exists)) in
    pair_second (box_of intervals) b c.args._program.now.pairs first second c.args._best (to_z w64 (of_z w64 c.lo-then-lo.result))
    c.requires.inside.is_box c.requires.pair.below exists c.next_cell-second.ensures within under (to_z-of_z w64 c.lo-then-lo.result fits ∙ c.lo-then-lo.ensures)

pub returns : goal.returns
returns c =
    let intervals = c.args._program.now.intervals.items in
    let b = c.args.store.now.box in
    let first = c.args.first in
    let second = c.next_cell-second.result in
    let highs : high b first ≤ℤ high b second = search rules in
    let lows : low b first ≤ℤ low b second = search rules in
    let exists : second < length b.lows = cell_there intervals b second c.requires.inside (omega (arith, c.next_cell-second.ensures, c.requires.pair.exists)) in
    pair_quiet (box_of intervals) b c.args._program.now.pairs first second c.args._best c.requires.inside.is_box exists c.next_cell-second.ensures highs lows
