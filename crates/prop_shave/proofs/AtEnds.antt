-- By how much sums turn with a cell at its ends.
use Rattle.std.proofs.Common.{◌≡◌, ◌∙◌, inl, inr, ℕ, zero, suc, ◌+◌, ◌<◌, ◌≤ℤ◌, ℤ, pos, ◌+ℤ◌, Bool, true, false, List, [], ◌∷◌, Option, Some, None, if◌then◌else◌, length, length-set, get_or, set, slice_get, arith, refl, ap, ap₂, subst, sym}
use Rattle.std.specs.List.{Contains, filter, range_with_len}
use Rattle.std.specs.Option.{option_map_or}
use Rattle.std.proofs.lemmas.Bool.{cases_eq, cases_lt}
use Rattle.std.proofs.lemmas.Grind.{get_or-set_at}
use Rattle.std.proofs.lemmas.Int.{ints}
use Rattle.std.proofs.lemmas.List.{get_or-set_other, get_or_past}
use Rattle.sopl_base.specs.declared.reason.Reason.{Reason}
use Rattle.sopl_base.specs.declared.reason.Reason.TheVariants.{Bound, Chance}
use Rattle.box_problem.specs.Box.{Box, Inside, high, low}
use Rattle.term_language.specs.declared.answers.Truth.{Truth}
use Rattle.term_language.specs.Ends.{Ends, cell_ends, ends, scaled}
use Rattle.term_language.specs.Mentions.{cond_mentions, mentions}
use Rattle.term_language.specs.Rules.{Near, truth}
use Rattle.term_language.specs.Terms.{Cond}
use Rattle.term_language.proofs.Agreement.{intervals_agree, truths_agree}
use Rattle.term_language.proofs.FormValues.{by_bool}
use Rattle.term_goals.specs.declared.sums.Atom.{Atom}
use Rattle.term_nodes.specs.Things.{term_at}
use Rattle.term_problem.specs.Objective.{better_end, goal_ends}
use Rattle.term_problem.specs.Problems.{ProblemTerms, direction_in}
use Rattle.term_problem.specs.Refuted.{is_false, refutes}
use Rattle.term_problem.specs.Search.{numbers_to}
use Rattle.term_problem.proofs.Reasons.{all_of}
use Rattle.term_program.specs.declared.program.Program.{Program}
use Rattle.term_program.specs.Programs.{kept, no_better, problem_in, root_in, things_in, with_interval}
use Rattle.term_program.proofs.Ending.{closes_by}
use Rattle.prop_core.specs.Watches.{AreAsLong}
use Rattle.prop_shave.specs.declared.end_turns.EndTurns.{EndTurns}
use Rattle.prop_shave.specs.declared.goal_delta.GoalDelta.{GoalDelta}
use Rattle.prop_shave.specs.declared.probes.Probe.{Probe}
pub use Rattle.prop_shave.specs.ChanceSums.{condition_cells}
use Rattle.prop_shave.specs.ChanceSums.{condition_in, is_touched, left_over, weight_at, weight_over}
use Rattle.prop_shave.specs.GoalKnown.{IsCounted}
pub use Rattle.prop_shave.specs.GoalSums.{part_cells}
use Rattle.prop_shave.specs.GoalSums.{AreParts, part_at, part_over, parts_over, touches_at}
use Rattle.prop_shave.specs.Opened.{IsOpen}
use Rattle.prop_shave.specs.Probes.{IsAsked, closes}
use Rattle.prop_shave.specs.Sums.{has_cell, sum_over, turn_of}
use Rattle.prop_shave.specs.Turns.{AreEndTurns, at_high, at_low}
use Rattle.prop_shave.proofs.Adding.{differs_there}
use Rattle.prop_shave.proofs.Ending.{end_turned}
use Rattle.prop_shave.proofs.Mentioned.{found, untouched}
use Rattle.prop_shave.proofs.Parts.{part_high, part_low}

-- a number turns with a cell at what is its end
pub turned_at : (number : Box → ℤ) (b : Box) (cell : ℕ) (before turn lo hi k : ℤ) → before ≡ number b → lo ≡ k → hi ≡ k → (before +ℤ turn) ≡ number (with_interval b cell lo hi)
    → (number b +ℤ turn) ≡ number (with_interval b cell k k)
turned_at number b cell before turn lo hi k is low_same high_same told =
    ap (λ (z : ℤ). z +ℤ turn) (sym is) ∙ (told ∙ ap₂ (λ (x y : ℤ). number (with_interval b cell x y)) low_same high_same)

-- and so it turns where both are that end
pub turned_to : (number : Box → ℤ) (b : Box) (cell : ℕ) (before turn after lo hi k : ℤ) → before ≡ number b → (number b +ℤ turn) ≡ number (with_interval b cell k k) → after ≡ before +ℤ turn
    → lo ≡ k → hi ≡ k → after ≡ number (with_interval b cell lo hi)
turned_to number b cell before turn after lo hi k is told put low_same high_same =
    put ∙ (ap (λ (z : ℤ). z +ℤ turn) is ∙ (told ∙ sym (ap₂ (λ (x y : ℤ). number (with_interval b cell x y)) low_same high_same)))

pub end_turned_to : (program : Program) (b : Box) (c : GoalDelta) (turn after lo hi k : ℤ) → Inside b (root_in program) → IsCounted program b c → low (root_in program) c.cell ≤ℤ k
    → k ≤ℤ high (root_in program) c.cell → (parts_over program c.atoms.now b +ℤ turn) ≡ parts_over program c.atoms.now (with_interval b c.cell k k) → after ≡ c.end.value +ℤ turn → lo ≡ k → hi ≡ k
    → after ≡ better_end (direction_in (problem_in program)) (goal_ends (root_in program) (with_interval b c.cell lo hi) (problem_in program))
end_turned_to program b c turn after lo hi k inside known from to told put low_same high_same =
    let is = end_turned program b c.cell k k c.atoms.now c.end.value turn known.are inside from (omega (arith, ints)) to known.end told in
    put
    ∙ (is
    ∙ sym (ap₂ (λ (x y : ℤ). better_end (direction_in (problem_in program)) (goal_ends (root_in program) (with_interval b c.cell x y) (problem_in program))) low_same high_same))

-- a cell is open where the box is closed with it at neither end
pub open_at_ends : (q : Probe) (cell : ℕ) → (cell < length q.store.now.box.lows → closes q (at_low q.store.now.box cell) ≡ false)
    → (cell < length q.store.now.box.lows → closes q (at_high q.store.now.box cell) ≡ false) → IsOpen q cell
open_at_ends q cell low_open high_open =
    let b = q.store.now.box in
    record {
      at_low = λ exists. ap (closes q) (sym (part_low b cell (low b cell) (low b cell) (low b cell) refl refl)) ∙ low_open exists;
      at_high = λ exists. ap (closes q) (sym (part_high b cell (high b cell) (high b cell) (high b cell) refl refl)) ∙ high_open exists;
    }

-- where enough weight is left at both ends
pub enough_at_ends : (q : Probe) (instance cell : ℕ) → q.reason ≡ Chance instance
    → refutes (root_in q.program.now) (problem_in q.program.now) (Chance instance) (at_low q.store.now.box cell) None ≡ false
    → refutes (root_in q.program.now) (problem_in q.program.now) (Chance instance) (at_high q.store.now.box cell) None ≡ false → IsOpen q cell
enough_at_ends q instance cell reason low_open high_open =
    let root = root_in q.program.now in
    let terms = problem_in q.program.now in
    let each : (c : Box) → refutes root terms (Chance instance) c None ≡ false → closes q c ≡ false =
    λ c open_. ap (λ (r : Reason). refutes root terms r c q.best) reason ∙ open_
    in
    open_at_ends q cell (λ exists. each (at_low q.store.now.box cell) low_open) (λ exists. each (at_high q.store.now.box cell) high_open)

-- where the better end is better than the best value at both ends
pub better_at_ends : (q : Probe) (atoms : List Atom) (end : ℤ) (cell : ℕ) (v : ℤ) (turns : EndTurns) → IsAsked q → q.reason ≡ Bound → AreParts q.program.now atoms
    → end ≡ better_end (direction_in (problem_in q.program.now)) (goal_ends (root_in q.program.now) q.store.now.box (problem_in q.program.now)) → q.best ≡ Some v
    → AreEndTurns (parts_over q.program.now atoms) q.store.now.box cell turns → no_better (direction_in (problem_in q.program.now)) (end +ℤ turns.low.value) v ≡ false
    → no_better (direction_in (problem_in q.program.now)) (end +ℤ turns.high.value) v ≡ false → IsOpen q cell
better_at_ends q atoms end cell v turns asked reason parts over best are low_better high_better =
    let root = root_in q.program.now in
    let terms = problem_in q.program.now in
    let b = q.store.now.box in
    let each : (x turn : ℤ) → low root cell ≤ℤ x → x ≤ℤ high root cell
    → (parts_over q.program.now atoms b +ℤ turn) ≡ parts_over q.program.now atoms (with_interval b cell x x)
    → no_better (direction_in terms) (end +ℤ turn) v ≡ false → closes q (with_interval b cell x x) ≡ false =
    λ x turn from to told better.
    let part = with_interval b cell x x in
    let is = end_turned q.program.now b cell x x atoms end turn parts asked.inside from (omega (arith, ints)) to over told in
    ap (λ (r : Reason). refutes root terms r part q.best) reason
    ∙ ap (λ (o : Option ℤ). refutes root terms Bound part o) best
    ∙ sym (closes_by root part terms (end +ℤ turn) v (no_better (direction_in terms) (end +ℤ turn) v) is refl)
    ∙ better
    in
    open_at_ends q cell
    (λ exists.
    let bottom = asked.inside.from_low cell exists in
    let order = asked.inside.is_box.ordered cell exists in
    let top = asked.inside.to_high cell exists in
    each (low b cell) turns.low.value bottom (omega (arith, ints, order, top)) are.to_low low_better)
    (λ exists.
    let bottom = asked.inside.from_low cell exists in
    let order = asked.inside.is_box.ordered cell exists in
    let top = asked.inside.to_high cell exists in
    each (high b cell) turns.high.value (omega (arith, ints, bottom, order)) top are.to_high high_better)

-- boxes that agree on a cell agree on it, too, where one cell is at what is an end of it in both
set_agrees : (xs ys : List ℤ) (cell k : ℕ) (x y : ℤ) → length xs ≡ length ys → x ≡ y → get_or xs k (pos 0) ≡ get_or ys k (pos 0) → get_or (set xs cell x) k (pos 0)
    ≡ get_or (set ys cell y) k (pos 0)
set_agrees xs ys cell k x y as_long is before =
    elim (cases_eq k cell) [
      | inl same ↦ elim (cases_lt cell (length xs)) [
        | inl there ↦ get_or-set_at xs cell k x (pos 0) same there ∙ (is ∙ sym (get_or-set_at ys cell k y (pos 0) same (omega (arith, there, as_long))))
        | inr past ↦
            get_or_past (set xs cell x) k (pos 0) (let long = length-set xs cell x in omega (arith, past, same, long))
            ∙ sym (get_or_past (set ys cell y) k (pos 0) (let long = length-set ys cell y in omega (arith, past, same, long, as_long)))
      ]
      | inr other ↦ get_or-set_other xs cell k x (pos 0) other ∙ (before ∙ sym (get_or-set_other ys cell k y (pos 0) other))
    ]

with_agrees : (b c : Box) (cell n : ℕ) (x y : ℤ) → AreAsLong b c → x ≡ y → cell_ends b n ≡ cell_ends c n → cell_ends (with_interval b cell x x) n ≡ cell_ends (with_interval c cell y y) n
with_agrees b c cell n x y as_long is same =
    ap₂ ends (set_agrees b.lows c.lows cell n x y as_long.lows is (ap (λ (e : Ends). e.low) same)) (set_agrees b.highs c.highs cell n x y as_long.highs is (ap (λ (e : Ends). e.high) same))

-- sums over the numbers that a test keeps
sum_kept : (f g : ℕ → ℤ) (test : ℕ → Bool) (start n : ℕ) → ((k : ℕ) → k < start + n → test k ≡ true → f k ≡ g k) → sum_over f (filter test (range_with_len start n))
    ≡ sum_over g (filter test (range_with_len start n))
sum_kept f g test start zero same = refl
sum_kept f g test start (suc n) same =
    let later = filter test (range_with_len (start + 1) n) in
    let rest = sum_kept f g test (start + 1) n (λ k below. same k (omega (arith, below))) in
    by_bool (λ t. sum_over f (if t then start ∷ later else later) ≡ sum_over g (if t then start ∷ later else later)) (test start)
    (λ met. let first = same start (omega arith) met in omega (arith, ints, rest, first)) (λ unmet. rest)

-- what several things come to over a box, each by the cells that it mentions: the sum turns alike on boxes that agree on all cells that are mentioned
-- together with the cell
module _ (over : Box → ℕ → ℤ) (within : ℕ → List ℕ) (count : ℕ)
    (decided : (b c : Box) (k : ℕ) → ((n : ℕ) → Contains (within k) n → cell_ends b n ≡ cell_ends c n) → over b k ≡ over c k) where
  sum_with : (b : Box) (cell : ℕ) (x : ℤ) → sum_over (over (with_interval b cell x x)) (numbers_to count)
      ≡ (sum_over (over b) (numbers_to count) +ℤ sum_over (turn_of (over b) (over (with_interval b cell x x))) (filter (λ k. has_cell cell (within k)) (numbers_to count)))
  sum_with b cell x =
      differs_there (over b) (over (with_interval b cell x x)) (λ k. has_cell cell (within k)) (numbers_to count)
      (λ k apart. decided (with_interval b cell x x) b k
      (λ n here.
      let other : ¬ n ≡ cell = λ same. untouched cell (within k) apart (subst (Contains (within k)) same here) in
      ap₂ ends (get_or-set_other b.lows cell n x (pos 0) other) (get_or-set_other b.highs cell n x (pos 0) other)))

  end_alike : (b c : Box) (cell : ℕ) (x y turn : ℤ) → AreAsLong b c → (cell_ends b cell ≡ cell_ends c cell → x ≡ y)
      → ((k : ℕ) → k < count → has_cell cell (within k) ≡ true → (n : ℕ) → Contains (within k) n → cell_ends b n ≡ cell_ends c n)
      → (sum_over (over b) (numbers_to count) +ℤ turn) ≡ sum_over (over (with_interval b cell x x)) (numbers_to count)
      → (sum_over (over c) (numbers_to count) +ℤ turn) ≡ sum_over (over (with_interval c cell y y)) (numbers_to count)
  end_alike b c cell x y turn as_long same agree told =
      let before = sum_with b cell x in
      let after = sum_with c cell y in
      let turns =
      sum_kept (turn_of (over b) (over (with_interval b cell x x))) (turn_of (over c) (over (with_interval c cell y y))) (λ k. has_cell cell (within k)) 0 count
      (λ k below touched.
      let is = same (agree k (omega (arith, below)) touched cell (found cell (within k) touched)) in
      let here = decided b c k (agree k (omega (arith, below)) touched) in
      let there =
      decided (with_interval b cell x x) (with_interval c cell y y) k (λ n mentioned. with_agrees b c cell n x y as_long is (agree k (omega (arith, below)) touched n mentioned)) in
      omega (arith, ints, here, there))
      in
      omega (arith, ints, before, after, turns, told)

  turns_alike : (b c : Box) (cell : ℕ) (turns : EndTurns) → AreAsLong b c
      → ((k : ℕ) → k < count → has_cell cell (within k) ≡ true → (n : ℕ) → Contains (within k) n → cell_ends b n ≡ cell_ends c n)
      → AreEndTurns (λ box. sum_over (over box) (numbers_to count)) b cell turns → AreEndTurns (λ box. sum_over (over box) (numbers_to count)) c cell turns
  turns_alike b c cell turns as_long agree are = record {
    to_low = end_alike b c cell (low b cell) (low c cell) turns.low.value as_long (ap (λ (e : Ends). e.low)) agree are.to_low;
    to_high = end_alike b c cell (high b cell) (high c cell) turns.high.value as_long (ap (λ (e : Ends). e.high)) agree are.to_high;
  }

-- the weight that is left, scenario by scenario
weight_alike : (root b c : Box) (weight : ℤ) (cond : Option Cond) → ((n : ℕ) → Contains (option_map_or (cond_mentions root) cond []) n → cell_ends b n ≡ cell_ends c n)
    → option_map_or (λ x. kept (is_false (truth Near root b x)) weight) cond (pos 0) ≡ option_map_or (λ x. kept (is_false (truth Near root c x)) weight) cond (pos 0)
weight_alike root b c weight None same = refl
weight_alike root b c weight (Some cond) same =
    ap (λ (t : Truth). kept (is_false t) weight) (truths_agree Near root b c cond (all_of (λ n. cell_ends b n ≡ cell_ends c n) (cond_mentions root cond) same))

pub weight_turns_alike : (root b c : Box) (terms : ProblemTerms) (instance cell : ℕ) (turns : EndTurns) → AreAsLong b c
    → ((k : ℕ) → k < length terms.weights → is_touched root terms instance cell k ≡ true → (n : ℕ) → Contains (condition_cells root terms instance k) n → cell_ends b n ≡ cell_ends c n)
    → AreEndTurns (left_over root terms instance) b cell turns → AreEndTurns (left_over root terms instance) c cell turns
weight_turns_alike root b c terms instance cell turns =
    turns_alike (weight_over root terms instance) (condition_cells root terms instance) (length terms.weights)
    (λ x y k same. weight_alike root x y (weight_at terms k) (condition_in terms instance k) same) b c cell turns

-- the better end, part by part
part_alike : (program : Program) (b c : Box) (atom : Option Atom)
    → ((n : ℕ) → Contains (option_map_or (λ (a : Atom). mentions (root_in program) (term_at (things_in program) a.term)) atom []) n → cell_ends b n ≡ cell_ends c n)
    → option_map_or (part_over (direction_in (problem_in program)) (root_in program) (things_in program) b) atom (pos 0)
    ≡ option_map_or (part_over (direction_in (problem_in program)) (root_in program) (things_in program) c) atom (pos 0)
part_alike program b c None same = refl
part_alike program b c (Some a) same =
    let t = term_at (things_in program) a.term in
    ap (λ (e : Ends). better_end (direction_in (problem_in program)) (scaled a.k e))
    (intervals_agree Near (root_in program) b c t (all_of (λ n. cell_ends b n ≡ cell_ends c n) (mentions (root_in program) t) same))

pub touches_listed : (program : Program) (atoms : List Atom) (cell number : ℕ) → touches_at (root_in program) (things_in program) atoms cell number ≡ has_cell cell (part_cells program atoms number)
touches_listed program atoms cell number = by_atom (slice_get atoms number)
  where
    by_atom : (o : Option Atom) → option_map_or (λ (a : Atom). has_cell cell (mentions (root_in program) (term_at (things_in program) a.term))) o false
        ≡ has_cell cell (option_map_or (λ (a : Atom). mentions (root_in program) (term_at (things_in program) a.term)) o [])
    by_atom None = refl
    by_atom (Some a) = refl

pub goal_turns_alike : (program : Program) (b c : Box) (atoms : List Atom) (cell : ℕ) (turns : EndTurns) → AreAsLong b c
    → ((k : ℕ) → k < length atoms → touches_at (root_in program) (things_in program) atoms cell k ≡ true → (n : ℕ) → Contains (part_cells program atoms k) n → cell_ends b n ≡ cell_ends c n)
    → AreEndTurns (parts_over program atoms) b cell turns → AreEndTurns (parts_over program atoms) c cell turns
goal_turns_alike program b c atoms cell turns as_long agree =
    turns_alike (part_at program atoms) (part_cells program atoms) (length atoms) (λ x y k same. part_alike program x y (slice_get atoms k) same) b c cell turns as_long
    (λ k below touched. agree k below (touches_listed program atoms cell k ∙ touched))
