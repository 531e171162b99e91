-- A wrong line has one node.
use Rattle.std.proofs.Common.{◌≡◌, inl, inr, ℕ, ◌+◌, ◌<◌, ◌≤◌, List, length, sym, subst, arith}
use Rattle.std.proofs.lemmas.Option.{slice_get_within}
use Rattle.box_problem.specs.BoxProblem.{BoxProblem}
use Rattle.log_rows.specs.declared.rows.Row.{Row}
use Rattle.log_rows.specs.declared.rows.Footer.{Footer}
use Rattle.log_rows.specs.Rows.{row_at}
use Rattle.log_check.specs.Verdicts.{IsWrongLine, first_line}
use Rattle.log_check.proofs.Lines.{first_grows, first_next}

-- a line from the one at which a node begins on, before the next node
record StandsIn (rows : List Row) (node line : ℕ) : Type 0 where
  from : first_line rows node ≤ line
  exists : node ≤ length rows
  before : node < length rows → line < first_line rows (node + 1)

line_of_node : (problem : BoxProblem) (rows : List Row) (footer : Footer) (node line : ℕ) → IsWrongLine problem rows footer node line → StandsIn rows node line
line_of_node problem rows footer node line (inl step) =
    let within : step.k < length (row_at rows node).steps = slice_get_within (row_at rows node).steps step.k step.step step.is in
    let next = first_next rows node step.exists in
    record {
      from = omega (arith, step.line_is);
      exists = omega (arith, step.exists);
      before = λ _. omega (arith, step.line_is, within, next);
    }
line_of_node problem rows footer node line (inr (inl end)) =
    let next = first_next rows node end.exists in
    record {
      from = omega (arith, end.line_is);
      exists = omega (arith, end.exists);
      before = λ _. omega (arith, end.line_is, next);
    }
line_of_node problem rows footer node line (inr (inr last)) =
    let same : node ≡ length rows = last.node_is in
    record {
      from = subst (λ n. first_line rows n ≤ line) (sym same) (omega (arith, last.line_is));
      exists = omega (arith, same);
      before = λ less. absurd (omega (arith, less, same));
    }

not_later : (rows : List Row) (n m line : ℕ) → StandsIn rows n line → StandsIn rows m line → n < m → ⊥
not_later rows n m line a b less =
    let past : line < first_line rows (n + 1) = a.before (omega (arith, less, b.exists)) in
    omega (arith, past, first_grows rows (n + 1) m (omega (arith, less)), b.from)

pub one_node : (problem : BoxProblem) (rows : List Row) (footer : Footer) (n m line : ℕ) → IsWrongLine problem rows footer n line → IsWrongLine problem rows footer m line
    → n ≡ m
one_node problem rows footer n m line a b =
    let at_n = line_of_node problem rows footer n line a in
    let at_m = line_of_node problem rows footer m line b in
    let early : ¬ n < m = not_later rows n m line at_n at_m in
    let late : ¬ m < n = not_later rows m n line at_m at_n in
    omega (arith, early, late)
