use Rattle.std.proofs.Common.{pos, get_or}
use Rattle.std.proofs.lemmas.List.{get_or_default}
use Rattle.unfold_tables.specs.declared.changes.Change.{Change}
use Rattle.unfold_tables.proofs.Sweeping.{total_more, level_more}
use Rattle.unfold_tables.proofs.levels.levels_in.Goals as goal

pub changes-preserved : goal.changes-preserved
changes-preserved c =
    let none : Change = record { time = pos 0; by = record { value = pos 0 } } in
    let all = c.args.changes.now in
    let i = c.changes.change-index in
    let change : Change = get_or all i none in
    let at = get_or_default all i none change c.changes-test.true in
    record {
      total = total_more all i change c.in-Some.sum c.changes.total c.changes-test.true at c.changes.invariant.total c.in-Some.ensures.sum;
      levels = level_more all i change c.in-Some.sum c.changes.total c.changes-test.true at c.changes.invariant.total c.in-Some.ensures.sum c.requires.rise
          c.changes.levels c.keep.new.levels c.in_ok-keep.ensures c.changes.invariant.levels;
    }
