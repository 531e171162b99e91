-- The room of a checker.
use Rattle.std.proofs.Common.{◌≡◌, ◌∙◌, ◌<◌, ◌≤◌, ◌+◌, ◌^◌, ℕ, List, [], ◌∷◌, length, drop, get_or, reverse, true, None, refl, sym, ap, subst, arith}
use Rattle.std.proofs.lemmas.List.{drop_all, drop_more}
use Rattle.std.proofs.Math.Seq.{take-length}
use Rattle.sopl_base.specs.declared.reason.Step.{Step}
use Rattle.box_problem.specs.Box.{Box, IsBox}
use Rattle.box_problem.specs.BoxProblem.{BoxProblem}
use Rattle.log_rows.specs.declared.rows.Footer.{Footer}
use Rattle.log_rows.specs.Rows.{AreOrdered}
use Rattle.term_program.specs.declared.program.Program.{Program}
use Rattle.term_program.specs.Programs.{IsMade}
use Rattle.term_program.specs.Stated.{box_problem_of}
use Rattle.term_program.proofs.Lawful.{lawful_of}
use Rattle.log_check.specs.declared.walk.WaitingSide.{WaitingSide}
use Rattle.log_check.specs.declared.walk.Walk.{Walk}
use Rattle.log_check.specs.Checkers.{HasRoomFor, SmallerLogsHaveRoom, steps_of}
use Rattle.log_check.specs.Judged.{no_tally}
use Rattle.log_check.specs.Verdicts.{first_line}
use Rattle.log_check.specs.Waiting.{before_it, rows_waiting, waiting_at}
use Rattle.log_check.proofs.Lines.{first_is}
use Rattle.log_check.proofs.Standing.{stands_first}
use Rattle.log_rows.specs.declared.rows.Row.{Row}
use Rattle.log_check.specs.Walks.{RowStart, WalkStands, lines_of, starts_at}

pub lines_more : (rows : List Row) (i : ℕ) (row : Row) (steps : List Step) (count first next total : ℕ) → i < length rows → row ≡ get_or rows i row → steps ≡ row.steps → count + lines_of (drop i rows) ≡ total
    → first ≡ count + length steps → next ≡ first + 2 → next + lines_of (drop (i + 1) rows) ≡ total
lines_more rows i row steps count first next total exists is are so first_is next_is =
    let here : lines_of (drop i rows) ≡ 2 + length row.steps + lines_of (drop (i + 1) rows) = ap lines_of (drop_more rows i row exists ∙ ap (λ (x : Row). x ∷ drop (i + 1) rows) (sym is)) in
    omega (arith, here, so, first_is, next_is, ap length are)

pub lines_all : (rows : List Row) (i count total : ℕ) → length rows ≤ i → count + lines_of (drop i rows) ≡ total → count ≡ total
lines_all rows i count total past so = omega (arith, so, ap lines_of (drop_all i rows past))

-- a walk at the root
pub begins_well : (problem : BoxProblem) (rows : List Row) (footer : Footer) (walk : Walk) → AreOrdered rows → 0 < length rows → IsBox problem.root → walk.at ≡ 0 → walk.store.box ≡ problem.root → walk.later.items ≡ []
    → walk.least ≡ None → walk.tally ≡ no_tally → WalkStands problem rows footer (before_it true walk) walk.least walk.tally
begins_well problem rows footer walk ordered some is_box at root none least tally =
    subst (λ t. WalkStands problem rows footer (before_it true walk) walk.least t) (sym tally)
    (subst (λ l. WalkStands problem rows footer (before_it true walk) l no_tally) (sym least)
    (subst (λ (list : List RowStart). WalkStands problem rows footer list None no_tally) (sym same) (stands_first problem rows footer ordered some is_box)))
  where
    same : before_it true walk ≡ starts_at 0 problem.root ∷ []
    same =
        ap (λ n. starts_at n walk.store.box ∷ rows_waiting walk) at
        ∙ ap (λ (b : Box). starts_at 0 b ∷ rows_waiting walk) root
        ∙ ap (λ (list : List WaitingSide). starts_at 0 problem.root ∷ waiting_at (reverse list) walk.store.marks) none

-- the numbers of all lines fit
pub lines_fit : (rows : List Row) (lines : ℕ) → 2 + lines_of rows ≤ lines → lines < 2 ^ 64 → first_line rows (length rows) < 2 ^ 64
lines_fit rows lines room fits = omega (arith, first_is rows (length rows), ap lines_of (take-length rows), room, fits)

pub root_is_box : (program : Program) → IsMade program → IsBox (box_problem_of program).root
root_is_box program made = (lawful_of program made).root

-- fewer steps and fewer nodes are fewer lines
lines_are : (rows : List Row) → lines_of rows ≡ steps_of rows + (length rows + length rows)
lines_are [] = refl
lines_are (row ∷ rows) = omega (arith, lines_are rows)

pub smaller_logs_have_room : SmallerLogsHaveRoom
smaller_logs_have_room checker rows smaller room steps nodes = record {
  marks = room.marks;
  none = room.none;
  lines = omega (arith, room.lines, steps, nodes, lines_are rows, lines_are smaller);
  nodes = omega (arith, room.nodes, nodes);
  spare = room.spare;
  later = room.later;
  sides = room.sides;
  cells = room.cells;
}
