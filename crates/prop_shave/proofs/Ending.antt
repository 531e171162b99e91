-- The better end over a box, and over a part in which one cell has another interval.
use Rattle.std.proofs.Common.{◌≡◌, ◌∙◌, ℕ, zero, suc, ◌+◌, ℤ, pos, ◌+ℤ◌, ◌-ℤ◌, ◌≤ℤ◌, false, List, [], ◌∷◌, Option, Some, None, IfSome, slice_get, length, arith, refl, ap, sym}
use Rattle.std.specs.List.{range_with_len}
use Rattle.std.specs.Option.{option_map_or}
use Rattle.std.proofs.lemmas.Int.{ints}
use Rattle.sopl_base.specs.declared.direction.Direction.{Direction}
use Rattle.sopl_base.specs.declared.direction.Direction.TheVariants.{Minimize, Maximize, Nothing}
use Rattle.box_problem.specs.Box.{Box, Inside, high, low}
use Rattle.term_language.specs.Ends.{Ends, exactly, plus, scaled}
use Rattle.term_language.specs.Rules.{Near, interval}
use Rattle.term_language.specs.Mentions.{mentions}
use Rattle.term_language.proofs.Agreement.{intervals_agree}
use Rattle.term_language.specs.Forms.{number_form}
use Rattle.term_problem.specs.Objective.{better_end, expected_form, goal_ends}
use Rattle.term_problem.specs.Problems.{GoalTerms, IsProblem, direction_in}
use Rattle.term_problem.specs.Search.{numbers_to}
use Rattle.term_goals.specs.Goals.{listed_ends}
use Rattle.term_goals.specs.declared.sums.Atom.{Atom}
use Rattle.term_nodes.specs.Things.{Thing, term_at}
use Rattle.term_program.specs.declared.program.Program.{Program}
use Rattle.term_program.specs.Programs.{problem_in, root_in, summed_form, things_in, with_interval}
use Rattle.term_math.proofs.Inner.{part_inside}
use Rattle.prop_shave.proofs.Adding.{differs_there}
use Rattle.prop_shave.proofs.Mentioned.{untouched, with_agrees}
use Rattle.prop_shave.specs.Sums.{sum_over, turn_of}
use Rattle.prop_shave.specs.GoalSums.{AreParts, is_touched, part_at, part_over, parts_over, touched_by, touches_at}

-- the better end of a sum is the sum of the better ends
plus_end : (direction : Direction) (a c : Ends) → better_end direction (plus a c) ≡ better_end direction a +ℤ better_end direction c
plus_end Minimize a c = refl
plus_end Maximize a c = refl
plus_end Nothing a c = omega (arith, ints)

listed_end : (direction : Direction) (root b : Box) (all : List Thing) (atoms : List Atom) → better_end direction (listed_ends root b all atoms) ≡ sum_over (part_over direction root all b) atoms
listed_end Minimize root b all [] = refl
listed_end Maximize root b all [] = refl
listed_end Nothing root b all [] = refl
listed_end direction root b all (a ∷ atoms) =
    plus_end direction (scaled a.k (interval Near root b (term_at all a.term))) (listed_ends root b all atoms)
    ∙ ap (λ (z : ℤ). part_over direction root all b a +ℤ z) (listed_end direction root b all atoms)

-- of an objective: its constant's, and that of its parts
goal_end : (program : Program) (atoms : List Atom) (b : Box) → AreParts program atoms → Inside b (root_in program)
    → better_end (direction_in (problem_in program)) (goal_ends (root_in program) b (problem_in program))
    ≡ better_end (direction_in (problem_in program)) (exactly (summed_form (root_in program) (problem_in program)).constant) +ℤ sum_over
    (part_over (direction_in (problem_in program)) (root_in program) (things_in program) b) atoms
goal_end program atoms b are inside =
    let direction = direction_in (problem_in program) in
    let constant = exactly (summed_form (root_in program) (problem_in program)).constant in
    sym (ap (better_end direction) (are.sum b inside))
    ∙ plus_end direction constant (listed_ends (root_in program) b (things_in program) atoms)
    ∙ ap (λ (z : ℤ). better_end direction constant +ℤ z) (listed_end direction (root_in program) b (things_in program) atoms)

-- a box with another interval for one cell
pub with_inside : (root b : Box) (cell : ℕ) (lo hi : ℤ) → Inside b root → low root cell ≤ℤ lo → lo ≤ℤ hi → hi ≤ℤ high root cell → Inside (with_interval b cell lo hi) root
with_inside root b cell lo hi inside from_low ordered to_high =
    part_inside root b (record { cell = cell; ends = record { low = lo; high = hi } }) inside
    (record { from_low = from_low; ordered = ordered; to_high = to_high })

-- the sum over all parts, by their numbers
sum_shifted : (f : Atom → ℤ) (h : ℕ → ℤ) (atoms : List Atom) (start : ℕ) → ((i : ℕ) → h (start + i) ≡ option_map_or f (slice_get atoms i) (pos 0))
    → sum_over h (range_with_len start (length atoms)) ≡ sum_over f atoms
sum_shifted f h [] start same = refl
sum_shifted f h (a ∷ atoms) start same =
    let rest = sum_shifted f h atoms (start + 1) (λ i. ap h (let shifted : (start + 1) + i ≡ start + suc i = omega arith in shifted) ∙ same (suc i)) in
    let first : h start ≡ f a = ap h (let at : start ≡ start + 0 = omega arith in at) ∙ same zero in
    omega (arith, ints, rest, first)

pub sum_numbered : (program : Program) (atoms : List Atom) (b : Box) → sum_over (part_at program atoms b) (numbers_to (length atoms))
    ≡ sum_over (part_over (direction_in (problem_in program)) (root_in program) (things_in program) b) atoms
sum_numbered program atoms b =
    sum_shifted (part_over (direction_in (problem_in program)) (root_in program) (things_in program) b) (part_at program atoms b) atoms 0
    (λ i. ap (part_at program atoms b) (let same : 0 + i ≡ i = omega arith in same))

-- only the parts count that mention the cell
same_part : (direction : Direction) (root b : Box) (all : List Thing) (cell : ℕ) (lo hi : ℤ) (a : Atom) → is_touched root all cell a ≡ false
    → part_over direction root all (with_interval b cell lo hi) a ≡ part_over direction root all b a
same_part direction root b all cell lo hi a apart =
    let term = term_at all a.term in
    ap (λ (e : Ends). better_end direction (scaled a.k e))
    (intervals_agree Near root (with_interval b cell lo hi) b term (with_agrees (mentions root term) b cell lo hi (untouched cell (mentions root term) apart)))

same_part_at : (program : Program) (atoms : List Atom) (b : Box) (cell : ℕ) (lo hi : ℤ) (number : ℕ) → touches_at (root_in program) (things_in program) atoms cell number ≡ false
    → part_at program atoms (with_interval b cell lo hi) number ≡ part_at program atoms b number
same_part_at program atoms b cell lo hi number apart = by_atom (slice_get atoms number) apart
  where
    by_atom : (o : Option Atom) → option_map_or (is_touched (root_in program) (things_in program) cell) o false ≡ false
        → option_map_or (part_over (direction_in (problem_in program)) (root_in program) (things_in program) (with_interval b cell lo hi)) o (pos 0)
        ≡ option_map_or (part_over (direction_in (problem_in program)) (root_in program) (things_in program) b) o (pos 0)
    by_atom None apart = refl
    by_atom (Some a) apart = same_part (direction_in (problem_in program)) (root_in program) b (things_in program) cell lo hi a apart

pub end_with : (program : Program) (b : Box) (cell : ℕ) (lo hi : ℤ) (atoms : List Atom) (list : List ℕ) (end now : ℤ) → AreParts program atoms → Inside b (root_in program)
    → low (root_in program) cell ≤ℤ lo → lo ≤ℤ hi → hi ≤ℤ high (root_in program) cell
    → end ≡ better_end (direction_in (problem_in program)) (goal_ends (root_in program) b (problem_in program)) → list
    ≡ touched_by (root_in program) (things_in program) atoms cell → now
    ≡ (end +ℤ sum_over (turn_of (part_at program atoms b) (part_at program atoms (with_interval b cell lo hi))) list) → now
    ≡ better_end (direction_in (problem_in program)) (goal_ends (root_in program) (with_interval b cell lo hi) (problem_in program))
end_with program b cell lo hi atoms list end now are inside from_low ordered to_high is touched turned =
    let root = root_in program in
    let all = things_in program in
    let c = with_interval b cell lo hi in
    let f = part_at program atoms b in
    let g = part_at program atoms c in
    let whole = differs_there f g (touches_at root all atoms cell) (numbers_to (length atoms)) (λ number apart. same_part_at program atoms b cell lo hi number apart) in
    let sums = ap (sum_over (turn_of f g)) touched in
    let box_sum = sum_numbered program atoms b in
    let part_sum = sum_numbered program atoms c in
    let over_box = goal_end program atoms b are inside in
    let over_part = goal_end program atoms c are (with_inside root b cell lo hi inside from_low ordered to_high) in
    omega (arith, ints, whole, sums, box_sum, part_sum, over_box, over_part, is, turned)

-- the better end turns as the parts do
abbrev end_over : Program → Box → ℤ
end_over program b = better_end (direction_in (problem_in program)) (goal_ends (root_in program) b (problem_in program))

pub parts_turned : (program : Program) (b : Box) (cell : ℕ) (lo hi : ℤ) (atoms : List Atom) (end now turn : ℤ) → AreParts program atoms → Inside b (root_in program)
    → low (root_in program) cell ≤ℤ lo → lo ≤ℤ hi → hi ≤ℤ high (root_in program) cell → end ≡ end_over program b → now ≡ end_over program (with_interval b cell lo hi) → turn ≡ now -ℤ end
    → (parts_over program atoms b +ℤ turn) ≡ parts_over program atoms (with_interval b cell lo hi)
parts_turned program b cell lo hi atoms end now turn are inside from_low ordered to_high is told put =
    let c = with_interval b cell lo hi in
    let box_sum = sum_numbered program atoms b in
    let part_sum = sum_numbered program atoms c in
    let over_box = goal_end program atoms b are inside in
    let over_part = goal_end program atoms c are (with_inside (root_in program) b cell lo hi inside from_low ordered to_high) in
    omega (arith, ints, box_sum, part_sum, over_box, over_part, is, told, put)

pub end_turned : (program : Program) (b : Box) (cell : ℕ) (lo hi : ℤ) (atoms : List Atom) (end turn : ℤ) → AreParts program atoms → Inside b (root_in program) → low (root_in program) cell ≤ℤ lo
    → lo ≤ℤ hi → hi ≤ℤ high (root_in program) cell → end ≡ end_over program b → (parts_over program atoms b +ℤ turn) ≡ parts_over program atoms (with_interval b cell lo hi)
    → (end +ℤ turn) ≡ end_over program (with_interval b cell lo hi)
end_turned program b cell lo hi atoms end turn are inside from_low ordered to_high is turned =
    let c = with_interval b cell lo hi in
    let box_sum = sum_numbered program atoms b in
    let part_sum = sum_numbered program atoms c in
    let over_box = goal_end program atoms b are inside in
    let over_part = goal_end program atoms c are (with_inside (root_in program) b cell lo hi inside from_low ordered to_high) in
    omega (arith, ints, box_sum, part_sum, over_box, over_part, is, turned)

-- the better end of the constant alone is the constant
constant_end : (root : Box) (weights : List ℤ) (goal : Option GoalTerms) (n : ℕ) → IfSome goal (λ (g : GoalTerms). (length g.terms ≡ n) × (¬ g.direction ≡ Nothing))
    → better_end (option_map_or (λ (g : GoalTerms). g.direction) goal Nothing) (exactly (option_map_or (λ (g : GoalTerms). expected_form root weights g.terms) goal (number_form (pos 0))).constant)
    ≡ (option_map_or (λ (g : GoalTerms). expected_form root weights g.terms) goal (number_form (pos 0))).constant
constant_end root weights None n asked = refl
constant_end root weights (Some g) n asked = by_direction g.direction asked.1 (expected_form root weights g.terms).constant
  where
    by_direction : (direction : Direction) → (¬ direction ≡ Nothing) → (z : ℤ) → better_end direction (exactly z) ≡ z
    by_direction Minimize some z = refl
    by_direction Maximize some z = refl
    by_direction Nothing some z = absurd (some refl)

pub all_parts : (program : Program) (atoms : List Atom) (b : Box) (constant now : ℤ) → IsProblem (problem_in program) → AreParts program atoms → Inside b (root_in program) → constant
    ≡ (summed_form (root_in program) (problem_in program)).constant → now ≡ (constant +ℤ sum_over (part_at program atoms b) (numbers_to (length atoms))) → now
    ≡ better_end (direction_in (problem_in program)) (goal_ends (root_in program) b (problem_in program))
all_parts program atoms b constant now problem are inside is summed =
    let terms = problem_in program in
    let same = constant_end (root_in program) terms.weights terms.goal (length terms.weights) problem.goal in
    let numbered = sum_numbered program atoms b in
    let whole = goal_end program atoms b are inside in
    omega (arith, ints, same, numbered, whole, is, summed)
