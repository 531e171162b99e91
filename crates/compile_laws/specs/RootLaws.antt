-- What holds of the box of all points of a text that is accepted.
use Rattle.std.specs.Prelude.{◌≡◌, ℕ, ◌≤◌}
use Rattle.std.specs.List.{sum_by}
use Rattle.sopl_ast.specs.Accepted.{AcceptedModel}
use Rattle.sopl_ast.specs.Cells.{cells}
use Rattle.sopl_ast.specs.Instances.{Problem}
use Rattle.sopl_ast.specs.Limits.{Limits, bits_of}
use Rattle.sopl_ast.specs.Numbers.{binary_digits}
use Rattle.sopl_ast.specs.Unfolding.{problem_of, text_events}
use Rattle.sopl_ast.specs.Whole.{ModelTree}
use Rattle.unfold_laws.specs.Passing.{NothingFails}
use Rattle.box_problem.specs.Bits.{bits_in, digits}
use Rattle.box_problem.specs.Near.{IsNearBox}
use Rattle.compile_laws.specs.Root.{root_box}

-- the digits of a number are those that the limit on bits counts
abbrev pub DigitsAreTheSame : Type 0
DigitsAreTheSame = (n : ℕ) → digits n ≡ binary_digits n

-- the bits of the box are those that the limit counts: those of all decisions, one value for each history
abbrev pub BitsAreTheSame : Type 0
BitsAreTheSame = (problem : Problem) → bits_in (root_box (cells problem)) ≡ sum_by (bits_of problem.stochastics) problem.decisions

-- in a text that is unfolded whole all ends lie within 2 ^ 40
abbrev pub RootIsNear : Type 0
RootIsNear = (model : ModelTree) → NothingFails (text_events model) → IsNearBox (root_box (cells (problem_of model)))

-- what is accepted has as many bits as the limit allows, or fewer
abbrev pub RootHasFewBits : Type 0
RootHasFewBits =
    (limits : Limits) (model : ModelTree) (problem : Problem) → AcceptedModel limits model problem → bits_in (root_box (cells problem)) ≤ limits.bits
