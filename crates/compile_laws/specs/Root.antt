-- The box of all points of a problem.
use Rattle.std.specs.Prelude.{◌↔◌, ℤ, List, map}
use Rattle.sopl_ast.specs.Whole.{ModelTree}
use Rattle.sopl_ast.specs.Cells.{Cell, cells, IsPoint}
use Rattle.sopl_ast.specs.Unfolding.{problem_of, text_events}
use Rattle.unfold_laws.specs.Passing.{NothingFails}
use Rattle.box_problem.specs.Box.{Box, IsBox, InBox}

-- each cell has its domain
abbrev pub root_box : List Cell → Box
root_box all = record { lows = map (λ (c : Cell). c.lo) all; highs = map (λ (c : Cell). c.hi) all }

-- the points of this box are those of the cells
abbrev pub PointsOfBox : Type 0
PointsOfBox = (all : List Cell) (point : List ℤ) → InBox (root_box all) point ↔ IsPoint all point

-- in a text that is unfolded whole no domain is empty
abbrev pub RootIsBox : Type 0
RootIsBox = (model : ModelTree) → NothingFails (text_events model) → IsBox (root_box (cells (problem_of model)))
