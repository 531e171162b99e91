-- What holds of the rows of a search, and of logs that are accepted.
use Rattle.std.specs.Prelude.{◌≡◌, ◌↔◌, ℕ, ◌+◌, ◌<◌, ◌≤◌, ℤ, List, [], ◌∷◌, ◌++◌, length, Option, None, Some, AllPairs, Contains}
use Rattle.sopl_base.specs.declared.reason.Side.{Side}
use Rattle.sopl_base.specs.declared.reason.Side.TheVariants.{Le, Ge}
use Rattle.sopl_base.specs.declared.reason.Step.{Step}
use Rattle.log_rows.specs.declared.rows.Cut.{Cut}
use Rattle.log_rows.specs.declared.rows.Row.{Row}
use Rattle.log_rows.specs.declared.rows.EndLine.{EndLine}
use Rattle.log_rows.specs.declared.rows.EndLine.TheVariants.{Split}
use Rattle.log_rows.specs.declared.rows.Footer.{Footer}
use Rattle.box_problem.specs.Box.{Box, InBox, points}
use Rattle.box_problem.specs.Steps.{after_steps}
use Rattle.box_problem.specs.BoxProblem.{BoxProblem, Lawful}
use Rattle.box_problem.specs.Rightness.{AllRight}
use Rattle.box_problem.specs.Covers.{nodes_for}
use Rattle.log_rows.specs.Rows.{row_at, final_of, handed, leaves, depth_at, IsSplit}
use Rattle.log_rows.specs.Made.{MadeEnd, MadeSplit, best_after, Pending, Logs, AreFinished, AreShallow, with_open}
use Rattle.log_rows.specs.Accepted.{Accepted, AreRight, Holds, Closes, greatest_depth}

-- the row of an open node that is finished by these steps and this end
abbrev pub row_of : Pending → List Step → EndLine → Row
row_of x steps end = record { parent = x.parent; steps = steps; end = end }

-- a side of the split of node n, whose box was b
abbrev pub half : ℕ → Box → Cut → Side → Pending
half n b cut side = record { parent = Some (record { node = n; side = side }); at = handed b (Split cut) side }

-- at first there is no row, and the root is open
abbrev pub root_alone : Box → List Pending
root_alone root = record { parent = None; at = root } ∷ []

abbrev pub LogsAtFirst : Type 0
LogsAtFirst = (problem : BoxProblem) → Logs problem [] (root_alone problem.root) None

-- an open node is finished and not split
abbrev pub LogsAfterEnd : Type 0
LogsAfterEnd =
    (problem : BoxProblem) (rows : List Row) (x : Pending) (prefix back : List Pending) (best : Option ℤ) (steps : List Step) (end : EndLine)
    → Logs problem rows (prefix ++ x ∷ back) best → AllRight problem best x.at steps
    → MadeEnd problem best (after_steps x.at steps) end → ¬ IsSplit end
    → Logs problem (rows ++ row_of x steps end ∷ []) (prefix ++ back) (best_after problem best end (after_steps x.at steps))

-- an open node is split, and its two sides stand somewhere among the open nodes, the low side behind the high one
abbrev pub LogsAfterSplit : Type 0
LogsAfterSplit =
    (problem : BoxProblem) (rows : List Row) (x : Pending) (prefix back left right : List Pending) (best : Option ℤ) (steps : List Step) (cut : Cut)
    → Logs problem rows (prefix ++ x ∷ back) best → AllRight problem best x.at steps
    → MadeSplit problem best (after_steps x.at steps) cut → left ++ right ≡ prefix ++ back
    → Logs problem (rows ++ row_of x steps (Split cut) ∷ [])
    (left ++ half (length rows) (after_steps x.at steps) cut Ge ∷ half (length rows) (after_steps x.at steps) cut Le ∷ right) best

-- the order of the open nodes is free
abbrev pub LogsInAnyOrder : Type 0
LogsInAnyOrder =
    (problem : BoxProblem) (rows : List Row) (opens others : List Pending) (best : Option ℤ)
    → Logs problem rows opens best → ((x : Pending) → Contains opens x ↔ Contains others x) → AllPairs (λ x y. ¬ x ≡ y) others
    → Logs problem rows others best

-- with the rows of the open nodes behind them, the rows are still those of the search
abbrev pub LogsWithOpen : Type 0
LogsWithOpen =
    (problem : BoxProblem) (rows : List Row) (opens : List Pending) (best : Option ℤ)
    → Logs problem rows opens best → Logs problem (with_open rows opens) [] best

-- how deep the nodes lie
abbrev pub DepthsAtFirst : Type 0
DepthsAtFirst = (measure : Box → ℕ) (most : ℕ) (root : Box) → measure root ≤ most → AreShallow measure most [] (root_alone root)

abbrev pub DepthsAfterEnd : Type 0
DepthsAfterEnd =
    (problem : BoxProblem) (measure : Box → ℕ) (most : ℕ) (rows : List Row) (x : Pending) (prefix back : List Pending) (best : Option ℤ) (steps : List Step) (end : EndLine)
    → Logs problem rows (prefix ++ x ∷ back) best → AreShallow measure most rows (prefix ++ x ∷ back)
    → AreShallow measure most (rows ++ row_of x steps end ∷ []) (prefix ++ back)

-- so it is behind a split whose sides are so deep and have so much of the measure as there is room for
abbrev pub DepthsAfterSplit : Type 0
DepthsAfterSplit =
    (problem : BoxProblem) (measure : Box → ℕ) (most : ℕ) (rows : List Row) (x : Pending) (prefix back left right : List Pending) (best : Option ℤ) (steps : List Step) (cut : Cut)
    → Logs problem rows (prefix ++ x ∷ back) best → AreShallow measure most rows (prefix ++ x ∷ back)
    → depth_at rows x.parent + 1 + measure (handed (after_steps x.at steps) (Split cut) Le) ≤ most
    → depth_at rows x.parent + 1 + measure (handed (after_steps x.at steps) (Split cut) Ge) ≤ most
    → left ++ right ≡ prefix ++ back
    → AreShallow measure most (rows ++ row_of x steps (Split cut) ∷ [])
    (left ++ half (length rows) (after_steps x.at steps) cut Ge ∷ half (length rows) (after_steps x.at steps) cut Le ∷ right)

abbrev pub DepthsInAnyOrder : Type 0
DepthsInAnyOrder =
    (measure : Box → ℕ) (most : ℕ) (rows : List Row) (opens others : List Pending)
    → AreShallow measure most rows opens → ((x : Pending) → Contains others x → Contains opens x) → AreShallow measure most rows others

-- the rows of a search, with those of the nodes that it leaves open behind them, are an accepted log of each claim with
-- which the search may end
abbrev pub LogsAreAccepted : Type 0
LogsAreAccepted =
    (problem : BoxProblem) (measure : Box → ℕ) (rows : List Row) (opens : List Pending) (best : Option ℤ) (footer : Footer)
    → Lawful problem → Logs problem rows opens best → AreFinished rows → 0 < length rows
    → AreShallow measure greatest_depth rows opens → Closes problem opens best footer
    → Accepted problem (with_open rows opens) footer

-- what an accepted log claims is true
abbrev pub LogsAreTrue : Type 0
LogsAreTrue = (problem : BoxProblem) (rows : List Row) (footer : Footer) → Lawful problem → Accepted problem rows footer → Holds problem footer

-- the lines of an accepted log are a tree of right lines
abbrev pub AcceptedLogsAreRight : Type 0
AcceptedLogsAreRight = (problem : BoxProblem) (rows : List Row) (footer : Footer) → Accepted problem rows footer → AreRight problem rows footer

-- a tree of right lines has at most so many nodes as the points of the root allow
abbrev pub LogsAreSmall : Type 0
LogsAreSmall =
    (problem : BoxProblem) (rows : List Row) (footer : Footer) → Lawful problem → AreRight problem rows footer
    → length rows ≤ nodes_for (points problem.root)

-- and no more leaves than the root has points
abbrev pub LeavesAreFew : Type 0
LeavesAreFew =
    (problem : BoxProblem) (rows : List Row) (footer : Footer) → Lawful problem → AreRight problem rows footer
    → length (leaves rows) ≤ points problem.root

-- the boxes of two nodes that are not split have no point in common
abbrev pub LeavesAreApart : Type 0
LeavesAreApart =
    (problem : BoxProblem) (rows : List Row) (footer : Footer) (i j : ℕ) (point : List ℤ) → Lawful problem → AreRight problem rows footer
    → i < length rows → j < length rows → ¬ i ≡ j → ¬ IsSplit (row_at rows i).end → ¬ IsSplit (row_at rows j).end
    → InBox (final_of problem.root rows i) point → ¬ InBox (final_of problem.root rows j) point

-- and none of them is empty
abbrev pub LeavesHavePoints : Type 0
LeavesHavePoints =
    (problem : BoxProblem) (rows : List Row) (footer : Footer) (i : ℕ) → Lawful problem → AreRight problem rows footer
    → i < length rows → (0 < points (final_of problem.root rows i)) × ((point : List ℤ) × InBox (final_of problem.root rows i) point)
