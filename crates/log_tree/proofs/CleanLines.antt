-- The lines of a log are clean: they have no line feed and no carriage return, and are not empty.
use Rattle.std.proofs.Common.{◌≡◌, ◌<◌, ◌≤◌, ◌+◌, ◌^◌, ℕ, suc, ℤ, pos, negsuc, List, [], ◌∷◌, ◌++◌, length, map, true, Option, Some, None, arith, rules}
use Rattle.std.specs.Prelude.{decimal, FitsSigned, codes}
use Rattle.std.specs.Char.{is_ascii_digit}
use Rattle.std.specs.Fmt.{signed_decimal}
use Rattle.std.specs.Int.{w128}
use Rattle.std.specs.List.{list_all, AllByRecursion}
use Rattle.std.proofs.lemmas.Bool.{and_parts}
use Rattle.sopl_base.specs.declared.reason.Side.{Side}
use Rattle.sopl_base.specs.declared.reason.Side.TheVariants.{Le, Ge}
use Rattle.sopl_base.specs.declared.reason.Reason.{Reason}
use Rattle.sopl_base.specs.declared.reason.Reason.TheVariants.{Hard, Chance, Undefined, Bound}
use Rattle.sopl_base.specs.declared.reason.Step.{Step}
use Rattle.log_rows.specs.declared.rows.Parent.{Parent}
use Rattle.log_rows.specs.declared.rows.Row.{Row}
use Rattle.log_rows.specs.declared.rows.EndLine.{EndLine}
use Rattle.log_rows.specs.declared.rows.EndLine.TheVariants.{Refuted, Split, Point, Unfinished}
use Rattle.log_rows.specs.declared.rows.Footer.{Footer}
use Rattle.log_rows.specs.declared.rows.Footer.TheVariants.{Optimal, Infeasible, Bounded}
use Rattle.log_rows.specs.Lines as lines
use Rattle.log_rows.specs.Ranges.{ParentFits, ReasonFits, StepFits, EndFits, FoundFits, FooterFits}
use Rattle.log_tree.proofs.Solid.{all_digits}
use Rattle.log_tree.proofs.Cuts.{Clean, AllClean}

more : (a b : List ℕ) → Clean a → Clean b → Clean (a ++ b)
more [] b first second = second
more (x ∷ a) b first second = (first.0, more a b first.1 second)

digits : (ds : List ℕ) → list_all is_ascii_digit ds ≡ true → Clean ds
digits [] all = tt
digits (d ∷ ds) all = let parts = and_parts _ _ all in (printed d parts.0, digits ds parts.1)
  where
    printed : (b : ℕ) → is_ascii_digit b ≡ true → 32 ≤ b
    printed b is = grind (arith, is)

number : (n : ℕ) → n < 10 ^ 64 → Clean (decimal n)
number n small = digits (decimal n) (all_digits n small)

whole : (k : ℤ) → FitsSigned w128 k → Clean (signed_decimal k)
whole (pos n) fits = number n (omega (arith, fits))
whole (negsuc n) fits = (omega arith, number (suc n) (omega (arith, fits)))

reason : (r : Reason) → ReasonFits r → Clean (lines.reason_text r)
reason (Hard i s) fits = more (codes "h " ++ decimal i ++ codes " ") (decimal s) (more (codes "h " ++ decimal i) (codes " ") (more (codes "h ") (decimal i) (search (arith, rules)) (number i (omega (arith, fits.0)))) (search (arith, rules))) (number s (omega (arith, fits.1)))
reason (Chance i) fits = more (codes "c ") (decimal i) (search (arith, rules)) (number i (omega (arith, fits)))
reason (Undefined s) fits = more (codes "u ") (decimal s) (search (arith, rules)) (number s (omega (arith, fits)))
reason Bound fits = search (arith, rules)

side : (s : Side) → Clean (lines.side_word s)
side Le = search (arith, rules)
side Ge = search (arith, rules)

step : (s : Step) → StepFits s → Clean (lines.step_line s)
step s fits =
    more (codes "s " ++ lines.reason_text s.reason ++ codes " " ++ decimal s.cell ++ lines.side_word s.side) (signed_decimal s.k)
    (more (codes "s " ++ lines.reason_text s.reason ++ codes " " ++ decimal s.cell) (lines.side_word s.side)
    (more (codes "s " ++ lines.reason_text s.reason ++ codes " ") (decimal s.cell) (more (codes "s " ++ lines.reason_text s.reason) (codes " ") (more (codes "s ") (lines.reason_text s.reason) (search (arith, rules)) (reason s.reason fits.reason_fits)) (search (arith, rules)))
    (number s.cell (omega (arith, fits.cell_fits)))) (side s.side)) (whole s.k (omega (arith, fits.k_fits)))

end : (e : EndLine) → EndFits e → Clean (lines.end_line e)
end (Refuted r) fits = more (codes "f ") (lines.reason_text r) (search (arith, rules)) (reason r fits)
end (Split cut) fits =
    more (codes "x " ++ decimal cut.cell ++ codes " ") (signed_decimal cut.k) (more (codes "x " ++ decimal cut.cell) (codes " ") (more (codes "x ") (decimal cut.cell) (search (arith, rules)) (number cut.cell (omega (arith, fits.cell_fits)))) (search (arith, rules))) (whole cut.k (omega (arith, fits.k_fits)))
end Point fits = search (arith, rules)
end Unfinished fits = search (arith, rules)

end_some : (e : EndLine) → 0 < length (lines.end_line e)
end_some (Refuted r) = omega arith
end_some (Split cut) = omega arith
end_some Point = omega arith
end_some Unfinished = omega arith

letter : (s : Side) → Clean (lines.side_letter s)
letter Le = search (arith, rules)
letter Ge = search (arith, rules)

parent : (p : Option Parent) → ParentFits p → Clean (lines.parent_text p)
parent None fits = search (arith, rules)
parent (Some p) fits = more (codes " " ++ decimal p.node) (lines.side_letter p.side) (more (codes " ") (decimal p.node) (search (arith, rules)) (number p.node (omega (arith, fits)))) (letter p.side)

node : (n : ℕ) (p : Option Parent) → n < 2 ^ 64 → ParentFits p → Clean (lines.node_line n p)
node n p few fits = more (codes "n " ++ decimal n) (lines.parent_text p) (more (codes "n ") (decimal n) (search (arith, rules)) (number n (omega (arith, few)))) (parent p fits)

found : (f : Option ℤ) → FoundFits f → Clean (lines.found_text f)
found None fits = search (arith, rules)
found (Some v) fits = whole v fits

footer : (f : Footer) → FooterFits f → Clean (lines.footer_line f)
footer (Optimal v) fits = more (codes "end optimal ") (signed_decimal v) (search (arith, rules)) (whole v fits)
footer Infeasible fits = search (arith, rules)
footer (Bounded f b) fits = more (codes "end bounded " ++ lines.found_text f ++ codes " ") (signed_decimal b) (more (codes "end bounded " ++ lines.found_text f) (codes " ") (more (codes "end bounded ") (lines.found_text f) (search (arith, rules)) (found f fits.0)) (search (arith, rules))) (whole b fits.1)

footer_some : (f : Footer) → 0 < length (lines.footer_line f)
footer_some (Optimal v) = omega arith
footer_some Infeasible = omega arith
footer_some (Bounded f b) = omega arith

all_more : (xs ys : List (List ℕ)) → AllClean xs → AllClean ys → AllClean (xs ++ ys)
all_more [] ys first second = second
all_more (x ∷ xs) ys first second = (first.0, first.1, all_more xs ys first.2 second)

steps_clean : (steps : List Step) → AllByRecursion StepFits steps → AllClean (map lines.step_line steps)
steps_clean [] fits = tt
steps_clean (s ∷ steps) fits = (step s fits.0, omega arith, steps_clean steps fits.1)

pub record RowFitsToo (row : Row) : Type 0 where
  pub parent_fits : ParentFits row.parent
  pub steps_fit : AllByRecursion StepFits row.steps
  pub end_fits : EndFits row.end

pub rows_clean : (n : ℕ) (rows : List Row) → n + length rows ≤ 2 ^ 64 → AllByRecursion RowFitsToo rows → AllClean (lines.rows_lines n rows)
rows_clean n [] few fits = tt
rows_clean n (row ∷ rows) few fits =
    all_more (lines.row_lines n row) (lines.rows_lines (suc n) rows)
    (node n row.parent (omega (arith, few)) fits.0.parent_fits, omega arith, all_more (map lines.step_line row.steps) (lines.end_line row.end ∷ []) (steps_clean row.steps fits.0.steps_fit) (end row.end fits.0.end_fits, end_some row.end, tt))
    (rows_clean (suc n) rows (omega (arith, few)) fits.1)

pub log_clean : (rows : List Row) (f : Footer) → length rows ≤ 2 ^ 64 → AllByRecursion RowFitsToo rows → FooterFits f → AllClean (lines.log_lines rows f)
log_clean rows f few fits footer_fits =
    (search (arith, rules), omega arith, all_more (lines.rows_lines 0 rows) (lines.footer_line f ∷ []) (rows_clean 0 rows (omega (arith, few)) fits) (footer f footer_fits, footer_some f, tt))
