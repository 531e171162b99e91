use Rattle.std.proofs.Common.{◌≡◌, ℕ, length, take}
use Rattle.std.specs.List.{All}
use Rattle.prop_shave.specs.Opened.{IsOpen}
use Rattle.prop_operands.specs.Questions.{IsLookedAt}
use Rattle.prop_operands.proofs.questions.step_among.Given as goal

abbrev pub invariant-cells : goal.invariant-cells
invariant-cells g l = record {
  opened : All (IsOpen l.probe) (take l.cell-index l.cells);
  looked : IsLookedAt g.Q.Question.fails l.operands l.probe;
  list : l.operands.list ≡ l.fn.operands.list;
  room : (count : ℕ) → g.Q.Question.has_room l.fn.question count → g.Q.Question.has_room l.question count;
}
