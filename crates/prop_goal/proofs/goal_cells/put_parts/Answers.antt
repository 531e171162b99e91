use Rattle.std.proofs.Common.{arith, inl}
use Rattle.prop_shave.proofs.GoalMentioned.{number_at}
use Rattle.term_program.specs.Programs.{IsListedTerm}
use Rattle.prop_chance.proofs.CellSets.{only_more}
use Rattle.prop_goal.specs.Cells.{parts_mention}
use Rattle.prop_goal.proofs.Objectives.{part_mentioned, part_within}
use Rattle.prop_goal.proofs.goal_cells.put_parts.Goals as goal

pub term_cells-requires-clause-listed : goal.term_cells-requires-clause-listed
term_cells-requires-clause-listed c =
    number_at (IsListedTerm c.args.program.now) c.args.atoms.now c.parts.number _ c.requires.listed c.parts-test.true

pub parts-init : goal.parts-init
parts-init c = record {
  kept = λ cell here. here;
  within = λ number a below. absurd (omega (arith, below));
  only = λ cell here. inl here;
}

pub parts-preserved : goal.parts-preserved
parts-preserved c = record {
  kept = λ cell here. c.in_ok-put_cells.ensures.kept cell (c.parts.invariant.kept cell here);
  within = part_within c.args.program.now c.args.atoms.now c.parts.number _ c.parts.cells.keys c.put_cells.new.set.keys c.term_cells.result.now c.parts-test.true c.term_cells.ensures.cells
      c.in_ok-put_cells.ensures.kept c.in_ok-put_cells.ensures.put c.parts.invariant.within;
  only = only_more c.args.cells.now.keys c.parts.cells.keys c.put_cells.new.set.keys c.term_cells.result.now (parts_mention c.args.program.now c.args.atoms.now) c.parts.invariant.only
      c.in_ok-put_cells.ensures.only (part_mentioned c.args.program.now c.args.atoms.now c.parts.number _ c.term_cells.result.now c.parts-test.true c.term_cells.ensures.cells);
}

pub returns : goal.returns
returns c = record {
  kept = c.parts.invariant.kept;
  within = λ k a below at. c.parts.invariant.within k a (omega (arith, below, c.parts-test.false)) at;
  only = c.parts.invariant.only;
}
