-- Steps of what is known of a sum, from the last part to the first.
use Rattle.std.proofs.Common.{◌≡◌, ℕ, ◌+◌, ◌-◌, ◌*◌, ◌<◌, ◌≤◌, ◌^◌, zero, suc, ℤ, ◌*ℤ◌, unsigned_abs, List, [], ◌∷◌, length, get_or, drop, arith, ap, sym, ◌∙◌}
use Rattle.std.proofs.lemmas.Int.{unsigned_abs-mul}
use Rattle.std.proofs.lemmas.List.{at_drop_more, at_drop_all}
use Rattle.sopl_base.proofs.Sizes.{plus_size}
use Rattle.sopl_base.proofs.Naturals.{spread_left}
use Rattle.box_problem.specs.Box.{Box}
use Rattle.term_language.specs.Ends as ends
use Rattle.term_language.specs.Forms as forms
use Rattle.term_language.specs.Marks.{both}
use Rattle.term_language.specs.Rules.{Near, form, sum_form, mark, sum_mark}
use Rattle.term_language.specs.Sizes.{weight_of, atoms_weight, sum_weight}
use Rattle.term_language.specs.Laws.{AreProperParts}
use Rattle.term_language.proofs.Bounds.{sign_size}
use Rattle.term_math.specs.Sums.{mass_of, weight_in, weighted}
use Rattle.term_math.proofs.Weights.{combined_weighted, cells_weighted, mass_weight}
use Rattle.term_nodes.specs.declared.nodes.Signed.{Signed}
use Rattle.term_nodes.specs.declared.items.Item.{Item}
use Rattle.term_nodes.specs.Things.{Thing, term_at, parts_at, things}
use Rattle.term_nodes.specs.Built.{IsBuilt}
use Rattle.term_nodes.proofs.Ready.{small_term}

-- marks
pub next_mark : (root : Box) (all : List Thing) (xs : List Signed) (i : ℕ) (x : Signed) → i < length xs → x ≡ get_or xs i x → sum_mark Near root root (parts_at all (drop i xs))
    ≡ both (mark Near root root (term_at all x.term)) (sum_mark Near root root (parts_at all (drop (i + 1) xs)))
next_mark root all xs i x below at =
    at_drop_more (λ ys. sum_mark Near root root (parts_at all ys)) xs i x below
    ∙ ap (λ (y : Signed). both (mark Near root root (term_at all y.term)) (sum_mark Near root root (parts_at all (drop (i + 1) xs)))) (sym at)

pub no_mark : (root : Box) (all : List Thing) (xs : List Signed) (i : ℕ) → length xs ≤ i → sum_mark Near root root (parts_at all (drop i xs)) ≡ sum_mark Near root root (parts_at all [])
no_mark root all xs i past = at_drop_all (λ ys. sum_mark Near root root (parts_at all ys)) xs i past

pub parts_proper : (root : Box) (items : List Item) (xs : List Signed) → IsBuilt root items → AreProperParts (parts_at (things items) xs)
parts_proper root items [] all = tt
parts_proper root items (x ∷ xs) all = ((small_term root items x.term all).proper, parts_proper root items xs all)

-- forms
pub next_sum : (root : Box) (all : List Thing) (xs : List Signed) (i : ℕ) (x : Signed) → i < length xs → x ≡ get_or xs i x → sum_form root (parts_at all (drop i xs))
    ≡ forms.plus_form (forms.sign x.subtracted) (sum_form root (parts_at all (drop (i + 1) xs))) (form root (term_at all x.term))
next_sum root all xs i x below at =
    at_drop_more (λ ys. sum_form root (parts_at all ys)) xs i x below
    ∙ ap (λ (y : Signed). forms.plus_form (forms.sign y.subtracted) (sum_form root (parts_at all (drop (i + 1) xs))) (form root (term_at all y.term))) (sym at)

-- with weights of all cells, a sum is no larger than its parts together
abbrev pub large : (ℕ → ℕ) → forms.Form → ℕ
large w f = unsigned_abs f.constant + weighted w f.cells

pub plus_large : (w : ℕ → ℕ) (factor : ℤ) (f g : forms.Form) → large w (forms.plus_form factor f g) ≤ large w f + unsigned_abs factor * large w g
plus_large w factor f g =
    omega (
      arith,
      plus_size f.constant (factor *ℤ g.constant),
      unsigned_abs-mul factor g.constant,
      combined_weighted w factor f.cells g.cells,
      spread_left (unsigned_abs factor) (unsigned_abs g.constant) (weighted w g.cells),
    )

pub weight_large : (root : Box) (f : forms.Form) → weight_in root f ≡ unsigned_abs f.constant + weighted (λ cell. weight_of (ends.cell_ends root cell)) f.cells
weight_large root f = omega (arith, cells_weighted root f.cells)

sum_large : (w : ℕ → ℕ) (root : Box) (items : List Item) (xs : List Signed) → ((id : ℕ) → large w (form root (term_at (things items) id)) ≤ 2 ^ 40)
    → large w (sum_form root (parts_at (things items) xs)) ≤ length xs * 2 ^ 40
sum_large w root items [] each = omega arith
sum_large w root items (x ∷ xs) each =
    let once : unsigned_abs (forms.sign x.subtracted) * large w (form root (term_at (things items) x.term))
    ≡ 1 * large w (form root (term_at (things items) x.term)) = ap (λ (n : ℕ). n * large w (form root (term_at (things items) x.term))) (sign_size x.subtracted) in
    omega (arith, plus_large w (forms.sign x.subtracted) (sum_form root (parts_at (things items) xs)) (form root (term_at (things items) x.term)), once, each x.term, sum_large w root items xs each)

pub form_light : (root : Box) (items : List Item) (id : ℕ) → IsBuilt root items → weight_in root (form root (term_at (things items) id)) ≤ 2 ^ 40
form_light root items id all = omega (arith, (small_term root items id all).small)

sum_light : (root : Box) (items : List Item) (xs : List Signed) → IsBuilt root items → weight_in root (sum_form root (parts_at (things items) xs)) ≤ length xs * 2 ^ 40
sum_light root items xs all =
    let w : ℕ → ℕ = λ cell. weight_of (ends.cell_ends root cell) in
    omega (
      arith,
      sum_large w root items xs (λ id. omega (arith, weight_large root (form root (term_at (things items) id)), form_light root items id all)),
      weight_large root (sum_form root (parts_at (things items) xs)),
    )

pub mass_light : (root : Box) (f : forms.Form) → mass_of f ≤ weight_in root f
mass_light root f = omega (arith, mass_weight root f.cells)

atoms_light : (root : Box) (items : List Item) (xs : List Signed) → IsBuilt root items → sum_weight root (parts_at (things items) xs) ≤ length xs * 2 ^ 40
atoms_light root items [] all = omega arith
atoms_light root items (x ∷ xs) all = omega (arith, (small_term root items x.term all).small, atoms_light root items xs all)

length_drop_le : (i : ℕ) (xs : List Signed) → length (drop i xs) ≤ length xs
length_drop_le zero xs = omega arith
length_drop_le (suc i) [] = omega arith
length_drop_le (suc i) (x ∷ xs) = omega (arith, length_drop_le i xs)

pub part_room : (root : Box) (items : List Item) (xs : List Signed) (i id : ℕ) (k : ℤ) (sum g : forms.Form) → IsBuilt root items → length xs < 2 ^ 64 → unsigned_abs k ≡ 1 → sum
    ≡ sum_form root (parts_at (things items) (drop i xs)) → g ≡ form root (term_at (things items) id) → mass_of sum + unsigned_abs k * mass_of g < 2 ^ 127
part_room root items xs i id k sum g all few one sum_is is =
    let once : unsigned_abs k * mass_of g ≡ 1 * mass_of g = ap (λ (n : ℕ). n * mass_of g) one in
    let light = sum_light root items (drop i xs) all in
    omega (
      arith,
      once,
      ap mass_of sum_is,
      ap mass_of is,
      mass_light root (sum_form root (parts_at (things items) (drop i xs))),
      light,
      length_drop_le i xs,
      mass_light root (form root (term_at (things items) id)),
      form_light root items id all,
      few,
    )

pub weight_room : (root : Box) (items : List Item) (xs : List Signed) (f : forms.Form) (weight : ℕ) → IsBuilt root items → length xs < 2 ^ 64 → f ≡ sum_form root (parts_at (things items) xs)
    → weight ≡ sum_weight root (parts_at (things items) xs) → weight_in root f + weight < 2 ^ 127
weight_room root items xs f weight all few is weight_is =
    omega (arith, ap (weight_in root) is, weight_is, sum_light root items xs all, atoms_light root items xs all, few)

pub form_small : (root : Box) (f : forms.Form) (weight : ℕ) → weight_in root f + weight ≤ 2 ^ 40 → mass_of f < 2 ^ 63
form_small root f weight small = omega (arith, mass_light root f, small)

pub sum_room_at : (root : Box) (items : List Item) (xs : List Signed) (i : ℕ) (id sum here : ℕ) → IsBuilt root items → length xs < 2 ^ 64 → sum ≡ sum_weight root (parts_at (things items) (drop i xs))
    → here ≡ atoms_weight root (term_at (things items) id) → sum + here < 2 ^ 127
sum_room_at root items xs i id sum here all few is here_is =
    omega (arith, is, here_is, atoms_light root items (drop i xs) all, length_drop_le i xs, (small_term root items id all).small, few)

pub next_weight : (root : Box) (all : List Thing) (xs : List Signed) (i : ℕ) (x : Signed) → i < length xs → x ≡ get_or xs i x → sum_weight root (parts_at all (drop i xs))
    ≡ atoms_weight root (term_at all x.term) + sum_weight root (parts_at all (drop (i + 1) xs))
next_weight root all xs i x below at =
    at_drop_more (λ ys. sum_weight root (parts_at all ys)) xs i x below
    ∙ ap (λ (y : Signed). atoms_weight root (term_at all y.term) + sum_weight root (parts_at all (drop (i + 1) xs))) (sym at)

pub no_sum_weight : (root : Box) (all : List Thing) (xs : List Signed) (i : ℕ) → length xs ≤ i → sum_weight root (parts_at all (drop i xs)) ≡ 0
no_sum_weight root all xs i past = at_drop_all (λ ys. sum_weight root (parts_at all ys)) xs i past

pub all_weight : (root : Box) (all : List Thing) (xs : List Signed) (i sum : ℕ) → i ≤ 0 → sum ≡ sum_weight root (parts_at all (drop i xs)) → sum ≡ sum_weight root (parts_at all xs)
all_weight root all xs i sum none is =
    let at_zero : i ≡ 0 = omega (arith, none) in
    is ∙ ap (λ (j : ℕ). sum_weight root (parts_at all (drop j xs))) at_zero
