-- What holds of the trees of searches.
use Rattle.std.specs.Prelude.{◌≡◌, ℕ, ◌<◌, pos, List, [], ◌∷◌, length, Option, None, Some}
use Rattle.sopl_base.specs.declared.reason.Side.{Side}
use Rattle.sopl_base.specs.declared.reason.Side.TheVariants.{Le, Ge}
use Rattle.box_problem.specs.BoxProblem.{BoxProblem}
use Rattle.log_rows.specs.declared.rows.EndLine.{EndLine}
use Rattle.log_rows.specs.declared.rows.EndLine.TheVariants.{Split, Point, Unfinished}
use Rattle.log_rows.specs.declared.rows.Parent.{Parent}
use Rattle.log_rows.specs.declared.rows.Row.{Row}
use Rattle.log_rows.specs.Rows.{row_at}
use Rattle.sopl_search.specs.declared.outcome.Outcome.{Outcome}
use Rattle.sopl_search.specs.Logged.{IsLowFirst, IsTree, SearchPlan}

-- the side of a row
abbrev pub side_below : ℕ → Side → Option Parent
side_below n side = Some (record { node = n; side = side })

-- of two rows that are the sides of one split the low one stands first, where there is one seat and the low half is searched first
abbrev pub SidesAreOrdered : Type 0
SidesAreOrdered =
    (problem : BoxProblem) (plan : SearchPlan) (outcome : Outcome) (rows : List Row) (n i j : ℕ) → plan.seats ≡ 1 → IsLowFirst plan.asked
    → IsTree problem plan outcome rows → i < length rows → j < length rows
    → (row_at rows i).parent ≡ side_below n Le → (row_at rows j).parent ≡ side_below n Ge → i < j

-- a row without steps
abbrev pub plain_row : Option Parent → EndLine → Row
plain_row parent end = record { parent = parent; steps = []; end = end }

-- one cell is cut at 1, then its high half at 2; the low half of the first cut is left open
abbrev pub high_half_alone : List Row
high_half_alone =
    plain_row None (Split (record { cell = 0; k = pos 1 }))
    ∷ plain_row (side_below 0 Ge) (Split (record { cell = 0; k = pos 2 }))
    ∷ plain_row (side_below 1 Le) Point
    ∷ plain_row (side_below 0 Le) Unfinished
    ∷ plain_row (side_below 1 Ge) Unfinished
    ∷ []

-- that is no tree of such a search
abbrev pub HighHalfNeverAlone : Type 0
HighHalfNeverAlone =
    (problem : BoxProblem) (plan : SearchPlan) (outcome : Outcome) → plan.seats ≡ 1 → IsLowFirst plan.asked → ¬ IsTree problem plan outcome high_half_alone
