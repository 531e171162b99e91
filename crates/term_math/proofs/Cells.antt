-- Steps of the sum over the cells of a form, from the last cell to the first.
use Rattle.std.proofs.Common.{◌≡◌, ℕ, ◌+◌, ◌<◌, ◌≤◌, List, [], length, get_or, drop, ap, subst, sym, ◌∙◌}
use Rattle.std.proofs.lemmas.List.{at_drop_more, at_drop_all}
use Rattle.box_problem.specs.Box.{Box}
use Rattle.term_language.specs.Ends as rule
use Rattle.term_language.specs.Forms.{cells_ends}
use Rattle.term_math.specs.declared.forms.Coefficient.{Coefficient}
use Rattle.term_math.specs.Shown.{IsFit, CellsFit, cells_of, ends_at}

pub next_cells : (b : Box) (xs : List Coefficient) (i : ℕ) (x : Coefficient) → i < length xs → x ≡ get_or xs i x → cells_ends b (cells_of (drop i xs))
    ≡ rule.plus (rule.scaled x.k (rule.cell_ends b x.cell)) (cells_ends b (cells_of (drop (i + 1) xs)))
next_cells b xs i x below at =
    at_drop_more (λ ys. cells_ends b (cells_of ys)) xs i x below
    ∙ ap (λ (y : Coefficient). rule.plus (rule.scaled y.k (rule.cell_ends b y.cell)) (cells_ends b (cells_of (drop (i + 1) xs)))) (sym at)

pub no_cells : (b : Box) (xs : List Coefficient) (i : ℕ) → length xs ≤ i → cells_ends b (cells_of (drop i xs)) ≡ cells_ends b []
no_cells b xs i past = at_drop_all (λ ys. cells_ends b (cells_of ys)) xs i past

pub times_fit : (b : Box) (xs : List Coefficient) (i : ℕ) (x : Coefficient) → CellsFit b xs → i < length xs → x ≡ get_or xs i x → IsFit (ends_at x.k (rule.cell_ends b x.cell))
times_fit b xs i x fits below at = fits.each i x below at

pub sum_fits : (b : Box) (xs : List Coefficient) (i : ℕ) (x : Coefficient) → CellsFit b xs → i < length xs → x ≡ get_or xs i x
    → IsFit (rule.plus (rule.scaled x.k (rule.cell_ends b x.cell)) (cells_ends b (cells_of (drop (i + 1) xs))))
sum_fits b xs i x fits below at = subst IsFit (next_cells b xs i x below at) (fits.sums i)
