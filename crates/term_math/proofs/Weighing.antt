-- Steps of the weight of a form's cells, from the last cell to the first, and numbers of 64 bits.
use Rattle.std.proofs.Common.{◌≡◌, ℕ, ◌+◌, ◌-◌, ◌*◌, ◌<◌, ◌≤◌, ◌^◌, zero, suc, ℤ, unsigned_abs, List, [], ◌∷◌, map, length, get_or, drop, SFits, FitsSigned, to_z, of_z, arith}
use Rattle.std.proofs.Common.{refl, ap, subst, sym, ◌∙◌}
use Rattle.std.specs.Int.{w64, w128}
use Rattle.std.proofs.lemmas.Int.{to_z-of_z, fits_signed_from_abs}
use Rattle.std.proofs.lemmas.List.{at_drop_more, at_drop_all, get_or_default}
use Rattle.box_problem.specs.Box.{Box}
use Rattle.term_language.specs.Ends.{cell_ends}
use Rattle.term_language.specs.Forms.{Coefficient}
use Rattle.term_language.specs.Sizes.{weight_of, cells_weight}
use Rattle.term_math.specs.declared.combinations.WideCoefficient.{WideCoefficient}
use Rattle.term_math.specs.Shown.{cells_of}
use Rattle.term_math.specs.declared.forms.Coefficient as own
use Rattle.term_math.specs.Sums.{mass, narrow, wide_cells, widen}

pub next_weight : (root : Box) (xs : List WideCoefficient) (i : ℕ) (x : WideCoefficient) → i < length xs → x ≡ get_or xs i x → cells_weight root (wide_cells (drop i xs))
    ≡ unsigned_abs x.k * weight_of (cell_ends root x.cell) + cells_weight root (wide_cells (drop (i + 1) xs))
next_weight root xs i x below at =
    at_drop_more (λ ys. cells_weight root (wide_cells ys)) xs i x below
    ∙ ap (λ (y : WideCoefficient). unsigned_abs y.k * weight_of (cell_ends root y.cell) + cells_weight root (wide_cells (drop (i + 1) xs))) (sym at)

pub no_weight : (root : Box) (xs : List WideCoefficient) (i : ℕ) → length xs ≤ i → cells_weight root (wide_cells (drop i xs)) ≡ 0
no_weight root xs i past = at_drop_all (λ ys. cells_weight root (wide_cells ys)) xs i past

pub drop_lighter : (root : Box) (i : ℕ) (xs : List WideCoefficient) → cells_weight root (wide_cells (drop i xs)) ≤ cells_weight root (wide_cells xs)
drop_lighter root zero xs = omega arith
drop_lighter root (suc i) [] = omega arith
drop_lighter root (suc i) (x ∷ xs) = omega (arith, drop_lighter root i xs)

pub times_room : (root : Box) (xs : List WideCoefficient) (i : ℕ) (x : WideCoefficient) → cells_weight root (wide_cells xs) < 2 ^ 127 → i < length xs → x ≡ get_or xs i x
    → unsigned_abs x.k * weight_of (cell_ends root x.cell) < 2 ^ 127
times_room root xs i x room below at = omega (arith, room, next_weight root xs i x below at, drop_lighter root i xs)

pub sum_room : (root : Box) (xs : List WideCoefficient) (i : ℕ) (x : WideCoefficient) → cells_weight root (wide_cells xs) < 2 ^ 127 → i < length xs → x ≡ get_or xs i x
    → cells_weight root (wide_cells (drop (i + 1) xs)) + unsigned_abs x.k * weight_of (cell_ends root x.cell) < 2 ^ 127
sum_room root xs i x room below at = omega (arith, room, next_weight root xs i x below at, drop_lighter root i xs)

-- there is room for one weight more, in a loop that counts down
pub times_back : (root : Box) (xs : List WideCoefficient) (i : ℕ) (d : WideCoefficient) → cells_weight root (wide_cells xs) < 2 ^ 127 → 0 < i → i ≤ length xs
    → unsigned_abs (get_or xs (i - 1) d).k * weight_of (cell_ends root (get_or xs (i - 1) d).cell) < 2 ^ 127
times_back root xs i d room positive most =
    let there : i - 1 < length xs = omega (arith, positive, most) in
    times_room root xs (i - 1) (get_or xs (i - 1) d) room there (get_or_default xs (i - 1) d (get_or xs (i - 1) d) there)

pub sum_back : (root : Box) (xs : List WideCoefficient) (i : ℕ) (d : WideCoefficient) (sum times : ℕ) → cells_weight root (wide_cells xs) < 2 ^ 127 → 0 < i → i ≤ length xs → sum
    ≡ cells_weight root (wide_cells (drop i xs)) → times ≡ unsigned_abs (get_or xs (i - 1) d).k * weight_of (cell_ends root (get_or xs (i - 1) d).cell) → sum + times < 2 ^ 127
sum_back root xs i d sum times room positive most is times_is =
    let there : i - 1 < length xs = omega (arith, positive, most) in
    let again : i - 1 + 1 ≡ i = omega (arith, positive) in
    let x : WideCoefficient = get_or xs (i - 1) d in
    let both : cells_weight root (wide_cells (drop (i - 1 + 1) xs)) + unsigned_abs x.k * weight_of (cell_ends root x.cell) < 2 ^ 127 =
    sum_room root xs (i - 1) x room there (get_or_default xs (i - 1) d x there) in
    let here : cells_weight root (wide_cells (drop i xs)) + unsigned_abs x.k * weight_of (cell_ends root x.cell) < 2 ^ 127 =
    subst (λ (j : ℕ). cells_weight root (wide_cells (drop j xs)) + unsigned_abs x.k * weight_of (cell_ends root x.cell) < 2 ^ 127) again both in
    omega (arith, here, is, times_is)

-- numbers that have room in 64 bits
pub cast_fits : (z : ℤ) → SFits w128 z → unsigned_abs z < 2 ^ 63 → FitsSigned w64 (to_z w128 (of_z w128 z))
cast_fits z fits small = rw (to_z-of_z w128 z fits) (fits_signed_from_abs w64 z small)

pub cast_same : (z : ℤ) → SFits w128 z → unsigned_abs z < 2 ^ 63 → to_z w64 (of_z w64 (to_z w128 (of_z w128 z))) ≡ z
cast_same z fits small = rw (to_z-of_z w128 z fits) (to_z-of_z w64 z (fits_signed_from_abs w64 z small))

pub small_at : (xs : List WideCoefficient) (i : ℕ) (x : WideCoefficient) → mass (wide_cells xs) < 2 ^ 63 → i < length xs → x ≡ get_or xs i x → unsigned_abs x.k < 2 ^ 63
small_at [] i x small there at = omega (arith, there)
small_at (y ∷ ys) zero x small there at = subst (λ (c : WideCoefficient). unsigned_abs c.k < 2 ^ 63) (sym at) (omega (arith, small))
small_at (y ∷ ys) (suc i) x small there at = small_at ys i x (omega (arith, small)) (omega (arith, there)) at

pub narrow_cells : (xs : List WideCoefficient) → cells_of (map narrow xs) ≡ wide_cells xs
narrow_cells [] = refl
narrow_cells (x ∷ xs) = ap (λ (cs : List Coefficient). record { cell = x.cell; k = x.k } ∷ cs) (narrow_cells xs)

pub widen_cells : (xs : List own.Coefficient) → wide_cells (map widen xs) ≡ cells_of xs
widen_cells [] = refl
widen_cells (x ∷ xs) = ap (λ cells. record { cell = x.cell; k = x.k } ∷ cells) (widen_cells xs)
