-- The numbers of the objective's interval are no greater than its size.
use Rattle.std.proofs.Common.{◌≡◌, sym, ap, subst, ◌∙◌, arith, ℕ, ◌+◌, ◌*◌, ◌≤◌, max, nat_lt, nat_eq, ℤ, pos, negsuc, ◌+ℤ◌, ◌*ℤ◌, ◌≤ℤ◌, unsigned_abs, Bool, true, false}
use Rattle.std.proofs.Common.{if◌then◌else◌, List, [], ◌∷◌, Option, Some, None, IfSome}
use Rattle.std.proofs.lemmas.Int.{ints, clamps, unsigned_abs-mul}
use Rattle.std.proofs.Math.Nat.{mul-le-mul_right, mul-le-mul_left, mul_assoc}
use Rattle.std.specs.List.{AllByRecursion}
use Rattle.std.specs.Option.{option_map_or}
use Rattle.std.specs.Ordering.{int_eq}
use Rattle.sopl_base.specs.declared.direction.Direction.{Direction}
use Rattle.sopl_base.specs.declared.direction.Direction.TheVariants.{Minimize, Maximize, Nothing}
use Rattle.sopl_base.proofs.Sizes.{plus_size, sized}
use Rattle.sopl_base.proofs.Naturals.{spread, spread_left}
use Rattle.box_problem.specs.Box.{Box, IsBox, Inside}
use Rattle.term_language.specs.Ends.{Ends, exactly, plus, scaled, cell_ends}
use Rattle.term_language.specs.Forms.{Coefficient, unless_zero, put, combined, cells_ends}
use Rattle.term_language.specs.Globals.{total}
use Rattle.term_language.specs.Laws.{IsAtMost, IsProper}
use Rattle.term_language.specs.Rules.{Near, Wide, form, atoms, interval}
use Rattle.term_language.specs.Sizes.{weight_of, cells_weight, atoms_weight, size}
use Rattle.term_language.specs.Terms.{Term}
use Rattle.term_language.proofs.Bounds.{Bounds, small, bounds_zero, bounds_plus, bounds_scaled, bounded, bounded_cells, bounded_whole}
use Rattle.term_language.proofs.FormValues.{by_if, same_cell}
use Rattle.term_language.proofs.Narrowing.{within_cells}
use Rattle.term_language.proofs.Sharpening.{narrow, intervals_narrow}
use Rattle.term_language.proofs.Shared.{bounds_within}
use Rattle.term_problem.specs.Laws.{GoalsAreBounded}
use Rattle.term_problem.specs.Objective.{expected_form, expected_atoms, expected_ends, worse_ends, worst_ends, goal_ends_of, goal_ends, greatest_size, goal_size}
use Rattle.term_problem.specs.Points.{worse}
use Rattle.term_problem.specs.Problems.{GoalTerms}

-- Sums of forms.

module _ (root : Box) where
  abbrev cell_weight : ℕ → ℕ
  cell_weight cell = weight_of (cell_ends root cell)

  unless_zero_weight : (cell : ℕ) (k : ℤ) (later : List Coefficient) → cells_weight root (unless_zero cell k later) ≤ unsigned_abs k * cell_weight cell + cells_weight root later
  unless_zero_weight cell k later =
      by_if (λ cells. cells_weight root cells ≤ unsigned_abs k * cell_weight cell + cells_weight root later) (int_eq k (pos 0)) later (record { cell = cell; k = k } ∷ later)
      (λ zero. omega arith) (λ other. omega arith)

  put_weight : (cell : ℕ) (k : ℤ) (cells : List Coefficient) → cells_weight root (put cell k cells) ≤ unsigned_abs k * cell_weight cell + cells_weight root cells
  put_weight cell k [] = unless_zero_weight cell k []
  put_weight cell k (c ∷ later) =
      by_if (λ cells. cells_weight root cells ≤ unsigned_abs k * cell_weight cell + (unsigned_abs c.k * cell_weight c.cell + cells_weight root later)) (nat_lt c.cell cell)
      (c ∷ put cell k later) (if nat_eq c.cell cell then unless_zero cell (c.k +ℤ k) later else unless_zero cell k (c ∷ later))
      (λ before. omega (arith, put_weight cell k later))
      (λ behind.
      by_if (λ cells. cells_weight root cells ≤ unsigned_abs k * cell_weight cell + (unsigned_abs c.k * cell_weight c.cell + cells_weight root later)) (nat_eq c.cell cell)
      (unless_zero cell (c.k +ℤ k) later) (unless_zero cell k (c ∷ later))
      (λ same.
      let here : unsigned_abs c.k * cell_weight c.cell ≡ unsigned_abs c.k * cell_weight cell = ap (λ (n : ℕ). unsigned_abs c.k * cell_weight n) (same_cell c.cell cell same) in
      let sum : unsigned_abs (c.k +ℤ k) * cell_weight cell ≤ (unsigned_abs c.k + unsigned_abs k) * cell_weight cell = mul-le-mul_right (cell_weight cell) (plus_size c.k k) in
      omega (arith, unless_zero_weight cell (c.k +ℤ k) later, here, sum, spread (unsigned_abs c.k) (unsigned_abs k) (cell_weight cell)))
      (λ other. unless_zero_weight cell k (c ∷ later)))

  combined_weight : (factor : ℤ) (cells others : List Coefficient) → cells_weight root (combined factor cells others) ≤ cells_weight root cells + unsigned_abs factor * cells_weight root others
  combined_weight factor cells [] = omega arith
  combined_weight factor cells (c ∷ later) =
      let here : unsigned_abs (factor *ℤ c.k) * cell_weight c.cell ≡ unsigned_abs factor * (unsigned_abs c.k * cell_weight c.cell) =
      ap (λ (n : ℕ). n * cell_weight c.cell) (unsigned_abs-mul factor c.k) ∙ mul_assoc (unsigned_abs factor) (unsigned_abs c.k) (cell_weight c.cell) in
      omega (
        arith,
        put_weight c.cell (factor *ℤ c.k) (combined factor cells later),
        combined_weight factor cells later,
        here,
        spread_left (unsigned_abs factor) (unsigned_abs c.k * cell_weight c.cell) (cells_weight root later),
      )

  -- the sizes of the terms, each as often as its scenario weighs, and what of them is neither constant nor cell
  sizes_of : List ℤ → List Term → ℕ
  sizes_of [] terms = 0
  sizes_of (weight ∷ weights) [] = 0
  sizes_of (weight ∷ weights) (term ∷ later) = unsigned_abs weight * size root term + sizes_of weights later

  others_of : List ℤ → List Term → ℕ
  others_of [] terms = 0
  others_of (weight ∷ weights) [] = 0
  others_of (weight ∷ weights) (term ∷ later) = unsigned_abs weight * atoms_weight root term + others_of weights later

  expected_weighs : (weights : List ℤ) (terms : List Term)
      → unsigned_abs (expected_form root weights terms).constant + (cells_weight root (expected_form root weights terms).cells + others_of weights terms) ≤ sizes_of weights terms
  unfolding sizes_of others_of
  expected_weighs [] terms = omega arith
  expected_weighs (weight ∷ weights) [] = omega arith
  expected_weighs (weight ∷ weights) (term ∷ later) =
      let f = form root term in
      let all = expected_form root weights later in
      omega (
        arith,
        expected_weighs weights later,
        combined_weight weight all.cells f.cells,
        plus_size all.constant (weight *ℤ f.constant),
        unsigned_abs-mul weight f.constant,
        spread_left (unsigned_abs weight) (unsigned_abs f.constant + cells_weight root f.cells) (atoms_weight root term),
        spread_left (unsigned_abs weight) (unsigned_abs f.constant) (cells_weight root f.cells),
      )

  -- no size is greater than the greatest
  total_at_least : (weights : List ℤ) → AllByRecursion (λ weight. pos 1 ≤ℤ weight) weights → pos 0 ≤ℤ total weights
  total_at_least [] weigh = omega (arith, ints)
  total_at_least (weight ∷ weights) weigh = let first = weigh.0 in omega (arith, ints, first, total_at_least weights weigh.1)

  added_size : (x y : ℤ) → pos 0 ≤ℤ x → pos 0 ≤ℤ y → unsigned_abs (x +ℤ y) ≡ unsigned_abs x + unsigned_abs y
  added_size (pos a) (pos b) p q = omega (arith, ints)
  added_size (pos a) (negsuc b) p q = absurd (omega (arith, ints, q))
  added_size (negsuc a) y p q = absurd (omega (arith, ints, p))

  sizes_at_most : (weights : List ℤ) (terms : List Term) → AllByRecursion (λ weight. pos 1 ≤ℤ weight) weights → sizes_of weights terms ≤ unsigned_abs (total weights) * greatest_size root terms
  unfolding sizes_of
  sizes_at_most [] terms weigh = omega arith
  sizes_at_most (weight ∷ weights) [] weigh = omega arith
  sizes_at_most (weight ∷ weights) (term ∷ later) weigh =
      let first = weigh.0 in
      let greatest = max (size root term) (greatest_size root later) in
      let here : unsigned_abs weight * size root term ≤ unsigned_abs weight * greatest = mul-le-mul_left (unsigned_abs weight) (omega arith) in
      let more : unsigned_abs (total weights) * greatest_size root later ≤ unsigned_abs (total weights) * greatest = mul-le-mul_left (unsigned_abs (total weights)) (omega arith) in
      let sum : unsigned_abs (weight +ℤ total weights) * greatest ≡ unsigned_abs weight * greatest + unsigned_abs (total weights) * greatest =
      ap (λ (n : ℕ). n * greatest) (added_size weight (total weights) (omega (arith, ints, first)) (total_at_least weights weigh.1))
      ∙ spread (unsigned_abs weight) (unsigned_abs (total weights)) greatest in
      omega (arith, sizes_at_most weights later weigh.1, here, more, sum)

-- Over a box inside the root.

bounds_more : (a : Ends) (m n : ℕ) → m ≤ n → Bounds a m → Bounds a n
bounds_more a m n more bounds = record { low = omega (arith, bounds.low, more); high = omega (arith, bounds.high, more) }

at_most : (a : Ends) (n : ℕ) → Bounds a n → IsAtMost a n
at_most a n bounds = record { above = (small a.low n bounds.low).0; below = (small a.high n bounds.high).1 }

bounds_worse : (direction : Direction) (a c : Ends) (n : ℕ) → Bounds a n → Bounds c n → Bounds (worse_ends direction a c) n
bounds_worse direction a c n p q = record { low = either direction a.low c.low p.low q.low; high = either direction a.high c.high p.high q.high }
  where
    either : (d : Direction) (x y : ℤ) → unsigned_abs x ≤ n → unsigned_abs y ≤ n → unsigned_abs (worse d x y) ≤ n
    either Minimize x y p_x p_y =
        let x_small = small x n p_x in let y_small = small y n p_y in
        sized (worse Minimize x y) n (omega (arith, ints, clamps, x_small.0, y_small.0)) (omega (arith, ints, clamps, x_small.1, y_small.1))
    either Maximize x y p_x p_y =
        let x_small = small x n p_x in let y_small = small y n p_y in
        sized (worse Maximize x y) n (omega (arith, ints, clamps, x_small.0, y_small.0)) (omega (arith, ints, clamps, x_small.1, y_small.1))
    either Nothing x y p_x p_y = p_x

module _ (root b : Box) (is_root : IsBox root) (inside : Inside b root) where
  bounds_atoms : (weights : List ℤ) (terms : List Term) → AllByRecursion IsProper terms → Bounds (expected_atoms root b weights terms) (others_of root weights terms)
  unfolding others_of
  bounds_atoms [] terms proper = bounds_zero 0
  bounds_atoms (weight ∷ weights) [] proper = bounds_zero 0
  bounds_atoms (weight ∷ weights) (term ∷ later) proper =
      bounds_plus (scaled weight (atoms Near root b term)) (expected_atoms root b weights later) (unsigned_abs weight * atoms_weight root term) (others_of root weights later)
      (bounds_scaled weight (atoms Near root b term) (atoms_weight root term)
      (bounds_within (atoms Near root b term) (atoms Wide root root term) (atoms_weight root term) (narrow Near root b root term is_root inside proper.0).within (bounded root term proper.0)))
      (bounds_atoms weights later proper.1)

  bounds_expected : (weights : List ℤ) (terms : List Term) → AllByRecursion IsProper terms → Bounds (expected_ends root b weights terms) (sizes_of root weights terms)
  bounds_expected weights terms proper =
      let f = expected_form root weights terms in
      bounds_more (expected_ends root b weights terms) (unsigned_abs f.constant + (cells_weight root f.cells + others_of root weights terms)) (sizes_of root weights terms)
      (expected_weighs root weights terms)
      (bounds_plus (exactly f.constant) (plus (cells_ends b f.cells) (expected_atoms root b weights terms)) (unsigned_abs f.constant) (cells_weight root f.cells + others_of root weights terms)
      (record { low = omega arith; high = omega arith })
      (bounds_plus (cells_ends b f.cells) (expected_atoms root b weights terms) (cells_weight root f.cells) (others_of root weights terms)
      (bounds_within (cells_ends b f.cells) (cells_ends root f.cells) (cells_weight root f.cells) (within_cells b root f.cells is_root inside) (bounded_cells root f.cells))
      (bounds_atoms weights terms proper)))

  bounds_one : (term : Term) → IsProper term → Bounds (interval Near root b term) (size root term)
  bounds_one term proper =
      bounds_within (interval Near root b term) (interval Wide root root term) (size root term) (intervals_narrow Near root b root term is_root inside proper) (bounded_whole root term proper)

  bounds_worst : (direction : Direction) (terms : List Term) → AllByRecursion IsProper terms → Bounds (worst_ends direction root b terms) (greatest_size root terms)
  bounds_worst direction [] proper = bounds_zero 0
  bounds_worst direction (last ∷ []) proper =
      bounds_more (interval Near root b last) (size root last) (max (size root last) 0) (omega arith) (bounds_one last proper.0)
  bounds_worst direction (first ∷ second ∷ later) proper =
      bounds_worse direction (interval Near root b first) (worst_ends direction root b (second ∷ later)) (max (size root first) (greatest_size root (second ∷ later)))
      (bounds_more (interval Near root b first) (size root first) (max (size root first) (greatest_size root (second ∷ later))) (omega arith) (bounds_one first proper.0))
      (bounds_more (worst_ends direction root b (second ∷ later)) (greatest_size root (second ∷ later)) (max (size root first) (greatest_size root (second ∷ later))) (omega arith)
      (bounds_worst direction (second ∷ later) proper.1))

  bounds_goal : (weights : List ℤ) (all : ℤ) (goal : GoalTerms) → AllByRecursion (λ weight. pos 1 ≤ℤ weight) weights → all ≡ total weights → AllByRecursion IsProper goal.terms
      → Bounds (goal_ends_of root b weights goal) (unsigned_abs (if goal.worst then pos 1 else all) * greatest_size root goal.terms)
  bounds_goal weights all goal weigh is proper = by_worst goal.worst
    where
      by_worst : (w : Bool) → Bounds (if w then worst_ends goal.direction root b goal.terms else expected_ends root b weights goal.terms)
          (unsigned_abs (if w then pos 1 else all) * greatest_size root goal.terms)
      by_worst true =
          bounds_more (worst_ends goal.direction root b goal.terms) (greatest_size root goal.terms) (unsigned_abs (pos 1) * greatest_size root goal.terms) (omega arith)
          (bounds_worst goal.direction goal.terms proper)
      by_worst false =
          subst (λ (z : ℤ). Bounds (expected_ends root b weights goal.terms) (unsigned_abs z * greatest_size root goal.terms)) (sym is)
          (bounds_more (expected_ends root b weights goal.terms) (sizes_of root weights goal.terms) (unsigned_abs (total weights) * greatest_size root goal.terms)
          (sizes_at_most root weights goal.terms weigh) (bounds_expected weights goal.terms proper))

  bounds_any : (weights : List ℤ) (all : ℤ) (goal : Option GoalTerms) → AllByRecursion (λ weight. pos 1 ≤ℤ weight) weights → all ≡ total weights
      → IfSome goal (λ (g : GoalTerms). AllByRecursion IsProper g.terms)
      → Bounds (option_map_or (goal_ends_of root b weights) goal (exactly (pos 0)))
      (option_map_or (λ (g : GoalTerms). unsigned_abs (option_map_or (λ (h : GoalTerms). if h.worst then pos 1 else all) goal (pos 1)) * greatest_size root g.terms) goal 0)
  bounds_any weights all None weigh is proper = bounds_zero 0
  bounds_any weights all (Some goal) weigh is proper = bounds_goal weights all goal weigh is proper

pub goals_are_bounded : GoalsAreBounded
goals_are_bounded root part terms is_root inside is =
    at_most (goal_ends root part terms) (goal_size root terms) (bounds_any root part is_root inside terms.weights terms.whole terms.goal is.weighs is.whole is.proper.goal)
