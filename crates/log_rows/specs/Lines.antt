-- The lines of a log.
use Rattle.std.specs.Prelude.{ℕ, suc, ℤ, List, [], ◌∷◌, ◌++◌, map, codes, decimal, Option, None, Some, flat_map}
use Rattle.std.specs.Fmt.{signed_decimal}
use Rattle.sopl_base.specs.declared.reason.Side.{Side}
use Rattle.sopl_base.specs.declared.reason.Side.TheVariants.{Le, Ge}
use Rattle.sopl_base.specs.declared.reason.Reason.{Reason}
use Rattle.sopl_base.specs.declared.reason.Reason.TheVariants.{Hard, Chance, Undefined, Bound}
use Rattle.sopl_base.specs.declared.reason.Step.{Step}
use Rattle.log_rows.specs.declared.rows.Parent.{Parent}
use Rattle.log_rows.specs.declared.rows.Row.{Row}
use Rattle.log_rows.specs.declared.rows.EndLine.{EndLine}
use Rattle.log_rows.specs.declared.rows.EndLine.TheVariants.{Refuted, Split, Point, Unfinished}
use Rattle.log_rows.specs.declared.rows.Footer.{Footer}
use Rattle.log_rows.specs.declared.rows.Footer.TheVariants.{Optimal, Infeasible, Bounded}

-- the first line
abbrev pub head_line : List ℕ
head_line = codes "sopl-log 1"

-- a node's number and what it is: the root, or the low or the high side of a node
abbrev pub side_letter : Side → List ℕ
side_letter Le = codes " l"
side_letter Ge = codes " h"

abbrev pub parent_text : Option Parent → List ℕ
parent_text None = codes " r"
parent_text (Some parent) = codes " " ++ decimal parent.node ++ side_letter parent.side

abbrev pub node_line : ℕ → Option Parent → List ℕ
node_line number parent = codes "n " ++ decimal number ++ parent_text parent

-- a reason: a hard constraint in a scenario, a chance constraint, an undefined objective in a scenario, or the best value
abbrev pub reason_text : Reason → List ℕ
reason_text (Hard instance scenario) = codes "h " ++ decimal instance ++ codes " " ++ decimal scenario
reason_text (Chance instance) = codes "c " ++ decimal instance
reason_text (Undefined scenario) = codes "u " ++ decimal scenario
reason_text Bound = codes "b"

-- a step: its reason, the cell, which end moves, and where to
abbrev pub side_word : Side → List ℕ
side_word Le = codes " le "
side_word Ge = codes " ge "

abbrev pub step_line : Step → List ℕ
step_line step = codes "s " ++ reason_text step.reason ++ codes " " ++ decimal step.cell ++ side_word step.side ++ signed_decimal step.k

-- an end: what refutes the box, where it is split, a point, or not finished
abbrev pub end_line : EndLine → List ℕ
end_line (Refuted reason) = codes "f " ++ reason_text reason
end_line (Split cut) = codes "x " ++ decimal cut.cell ++ codes " " ++ signed_decimal cut.k
end_line Point = codes "v"
end_line Unfinished = codes "o"

-- the last line: what the log claims
abbrev pub found_text : Option ℤ → List ℕ
found_text None = codes "none"
found_text (Some v) = signed_decimal v

abbrev pub footer_line : Footer → List ℕ
footer_line (Optimal v) = codes "end optimal " ++ signed_decimal v
footer_line Infeasible = codes "end infeasible"
footer_line (Bounded found bound) = codes "end bounded " ++ found_text found ++ codes " " ++ signed_decimal bound

-- the lines of a node, and of the rows from a number on
abbrev pub row_lines : ℕ → Row → List (List ℕ)
row_lines number row = node_line number row.parent ∷ (map step_line row.steps ++ end_line row.end ∷ [])

abbrev pub rows_lines : ℕ → List Row → List (List ℕ)
rows_lines number [] = []
rows_lines number (row ∷ rows) = row_lines number row ++ rows_lines (suc number) rows

abbrev pub log_lines : List Row → Footer → List (List ℕ)
log_lines rows footer = head_line ∷ (rows_lines 0 rows ++ footer_line footer ∷ [])

-- a line with its end, as it is written
abbrev pub ended : List ℕ → List ℕ
ended line = line ++ codes "\n"

abbrev pub text_of : List (List ℕ) → List ℕ
text_of lines = flat_map ended lines
