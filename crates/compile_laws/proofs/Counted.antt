-- The bits of the box of all points are those of the decisions.
use Rattle.std.proofs.Common.{◌≡◌, refl, arith, ℕ, ◌+◌, ◌*◌, ℤ, List, [], ◌∷◌, ◌++◌, length, map, flat_map}
use Rattle.std.proofs.lemmas.List.Sums.{sum_by-cons}
use Rattle.std.specs.Int.{int_gap}
use Rattle.std.specs.List.{enumerate_from, sum_by}
use Rattle.sopl_ast.specs.Cells.{Cell, cells_of}
use Rattle.sopl_ast.specs.Histories.{histories}
use Rattle.sopl_ast.specs.Instances.{Decision, Stochastic}
use Rattle.sopl_ast.specs.Limits.{bits_of}
use Rattle.sopl_ast.specs.Numbers.{binary_digits}
use Rattle.box_problem.specs.Bits.{bits_in, digits}
use Rattle.compile_laws.specs.Root.{root_box}
use Rattle.compile_laws.specs.RootLaws.{BitsAreTheSame, DigitsAreTheSame}

pub digits_are_the_same : DigitsAreTheSame
unfolding digits
digits_are_the_same n = refl

-- the bits of cells
abbrev bits_over : List Cell → ℕ
bits_over all = bits_in (root_box all)

bits_append : (before behind : List Cell) → bits_over (before ++ behind) ≡ bits_over before + bits_over behind
bits_append [] behind = omega arith
bits_append (c ∷ before) behind = omega (arith, bits_append before behind)

-- each history of a decision takes the same bits
bits_once : (number : ℕ) (d : Decision) (seen : List (List ℤ))
    → bits_over (map (λ one. record { key = (number, one); lo = d.lo; hi = d.hi }) seen) ≡ binary_digits (int_gap d.lo d.hi) * length seen
bits_once number d [] = omega arith
bits_once number d (one ∷ seen) =
    let later = bits_once number d seen in
    let first = digits_are_the_same (int_gap d.lo d.hi) in
    omega (arith, later, first)

bits_from : (stochastics : List Stochastic) (number : ℕ) (ds : List Decision)
    → bits_over (flat_map (cells_of stochastics) (enumerate_from number ds)) ≡ sum_by (bits_of stochastics) ds
bits_from stochastics number [] = refl
bits_from stochastics number (d ∷ ds) =
    let first = bits_once number d (histories d.stage stochastics) in
    let later = bits_from stochastics (number + 1) ds in
    let both = bits_append (cells_of stochastics (number, d)) (flat_map (cells_of stochastics) (enumerate_from (number + 1) ds)) in
    let sum = sum_by-cons (bits_of stochastics) d ds in
    omega (arith, first, later, both, sum)

pub bits_are_the_same : BitsAreTheSame
bits_are_the_same problem = bits_from problem.stochastics 0 problem.decisions
