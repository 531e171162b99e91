use Rattle.std.proofs.Common.{sym}
use Rattle.term_math.specs.Kept.{table_of}
use Rattle.term_math.specs.Shown.{box_in}
use Rattle.term_math.specs.Within.{known_of, ranges_of}
use Rattle.term_math.proofs.Indexed.{wide_complete}
use Rattle.term_math.proofs.Lacking.{none_allowed}
use Rattle.term_math.proofs.tables.Table.allowed_hull.Goals as goal

pub reached-requires : goal.reached-requires
reached-requires c = record {
  complete = wide_complete c.args.self.now.sets.items c.as_slice.result.now c.args.self.now.elements.items c.as_slice-2.result.now c.as_slice.ensures.value
      c.as_slice-2.ensures.value c.requires.complete;
}

pub returns-then-is_barred : goal.returns-then-is_barred
returns-then-is_barred c =
    sym (none_allowed (box_in c.args.view.now) (table_of c.args.self.now) (known_of c.args.indices.now (ranges_of c.args.ranges.now)) c.requires.complete (c.is_barred.ensures c.if-is_barred.true))
