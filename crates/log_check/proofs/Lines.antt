-- The lines of rows, by their numbers.
use Rattle.std.proofs.Common.{◌≡◌, ◌∙◌, ◌<◌, ◌≤◌, ◌+◌, ℕ, zero, suc, List, [], ◌∷◌, ◌++◌, length, map, take, drop, refl, ap, arith}
use Rattle.std.proofs.lemmas.List.{length-append, length-map, take_more}
use Rattle.log_rows.specs.declared.rows.Row.{Row}
use Rattle.log_rows.specs.Lines.{rows_lines, row_lines, step_line, end_line}
use Rattle.log_rows.specs.Rows.{row_at, no_row}
use Rattle.log_check.specs.Verdicts.{first_line}
use Rattle.log_check.specs.Walks.{lines_of}

row_count : (n : ℕ) (row : Row) → length (row_lines n row) ≡ 2 + length row.steps
row_count n row =
    let steps : length (map step_line row.steps) ≡ length row.steps = length-map row.steps step_line in
    let both : length (map step_line row.steps ++ end_line row.end ∷ []) ≡ length (map step_line row.steps) + 1 = length-append (map step_line row.steps) (end_line row.end ∷ []) in
    omega (arith, steps, both)

pub lines_count : (n : ℕ) (rows : List Row) → length (rows_lines n rows) ≡ lines_of rows
lines_count n [] = refl
lines_count n (row ∷ rows) = omega (arith, length-append (row_lines n row) (rows_lines (suc n) rows), row_count n row, lines_count (suc n) rows)

lines_append : (xs ys : List Row) → lines_of (xs ++ ys) ≡ lines_of xs + lines_of ys
lines_append [] ys = omega arith
lines_append (x ∷ xs) ys = omega (arith, lines_append xs ys)

pub first_is : (rows : List Row) (i : ℕ) → first_line rows i ≡ 2 + lines_of (take i rows)
first_is rows i = ap (λ n. 2 + n) (lines_count 0 (take i rows))

pub first_next : (rows : List Row) (i : ℕ) → i < length rows → first_line rows (i + 1) ≡ first_line rows i + 2 + length (row_at rows i).steps
first_next rows i exists =
    let taken : lines_of (take (i + 1) rows) ≡ lines_of (take i rows) + lines_of (row_at rows i ∷ []) =
    ap lines_of (take_more rows i no_row exists) ∙ lines_append (take i rows) (row_at rows i ∷ []) in
    omega (arith, first_is rows (i + 1), first_is rows i, taken)

more_taken : (rows : List Row) (i j : ℕ) → i ≤ j → lines_of (take i rows) ≤ lines_of (take j rows)
more_taken rows zero j less = omega arith
more_taken [] (suc i) zero less = omega arith
more_taken (row ∷ rows) (suc i) zero less = absurd (omega (arith, less))
more_taken [] (suc i) (suc j) less = omega arith
more_taken (row ∷ rows) (suc i) (suc j) less = omega (arith, more_taken rows i j (omega (arith, less)))

pub first_grows : (rows : List Row) (i j : ℕ) → i ≤ j → first_line rows i ≤ first_line rows j
first_grows rows i j less = omega (arith, first_is rows i, first_is rows j, more_taken rows i j less)

pub left_falls : (rows : List Row) (i j : ℕ) → i ≤ j → lines_of (drop j rows) ≤ lines_of (drop i rows)
left_falls [] zero zero less = omega arith
left_falls [] zero (suc j) less = omega arith
left_falls [] (suc i) zero less = omega arith
left_falls [] (suc i) (suc j) less = omega arith
left_falls (row ∷ rows) zero zero less = omega arith
left_falls (row ∷ rows) zero (suc j) less = omega (arith, left_falls rows zero j (omega arith))
left_falls (row ∷ rows) (suc i) zero less = absurd (omega (arith, less))
left_falls (row ∷ rows) (suc i) (suc j) less = left_falls rows i j (omega (arith, less))
