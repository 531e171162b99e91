-- What is found for one reason.
use Rattle.std.proofs.Common.{◌≡◌, inl, inr, ℕ, ◌<◌, ℤ, ◌+ℤ◌, ◌*ℤ◌, ◌≤ℤ◌, int_lt, List, [], ◌∷◌, length, slice_get, Option, Some, None, IfSome, Bool, not, true, false, ap, refl, sym, subst, ◌∙◌}
use Rattle.std.specs.Option.{option_map_or}
use Rattle.std.specs.List.{Contains}
use Rattle.std.proofs.lemmas.List.Elements.{All-contains}
use Rattle.sopl_base.proofs.Booleans.{not_true}
use Rattle.sopl_base.specs.declared.reason.Reason.{Reason}
use Rattle.sopl_base.specs.declared.reason.Reason.TheVariants.{Bound, Chance}
use Rattle.sopl_base.specs.declared.reason.Step.{Step}
use Rattle.box_problem.specs.Box.{Box, Inside, high, low, with_high, with_low}
use Rattle.box_problem.specs.Rightness.{IsRight, Quiets}
use Rattle.prop_shave.specs.declared.chance_delta.ChanceDelta.{ChanceDelta}
use Rattle.prop_shave.specs.declared.goal_delta.GoalDelta.{GoalDelta}
use Rattle.term_program.specs.Stated.{box_problem_of}
use Rattle.term_problem.specs.Problems.{ChanceTerms, direction_in}
use Rattle.term_problem.specs.Refuted.{refutes}
use Rattle.prop_core.specs.Findings.{Closes, Narrows}
use Rattle.term_problem.specs.Reasons.{reason_mentions}
use Rattle.term_problem.proofs.Reasons.{reasons_agree}
use Rattle.term_program.specs.Programs.{no_better, problem_in, root_in, with_interval}
use Rattle.term_program.proofs.Ending.{closes_by}
use Rattle.prop_core.proofs.Onward.{has_or_not}
use Rattle.prop_core.proofs.OneReason.{for_each, itself}
use Rattle.prop_shave.specs.declared.probes.Probe.{Probe}
use Rattle.prop_shave.specs.Opened.{AreOpen, IsOpen, IsWhole}
use Rattle.prop_shave.specs.Probes.{HasAll, IsAsked, IsCountedOf, IsWeighedOf, closes}
use Rattle.prop_shave.specs.ChanceSums.{sure_weight}
use Rattle.prop_shave.specs.GoalSums.{IsAsGood, part_at}
use Rattle.prop_shave.specs.Sums.{sum_over, turn_of}
use Rattle.prop_shave.proofs.Ending.{end_with}
use Rattle.prop_shave.proofs.Opening.{open_by}
use Rattle.prop_shave.proofs.Reaching.{still_better}
use Rattle.prop_shave.proofs.Surely.{sure_open}
use Rattle.prop_shave.proofs.Elsewhere.{agree_high, agree_low}

pub found_dead : (q : Probe) → closes q q.store.now.box ≡ true → Closes (box_problem_of q.program.now) (q.reason ∷ []) q.best q.store.now.box q.reason
unfolding box_problem_of
found_dead q closed = record { own = itself q.reason; closed = closed }

pub found_cut : (q : Probe) (step : Step) → IsWhole q → step.reason ≡ q.reason → IsRight (box_problem_of q.program.now) q.best q.store.now.box step
    → Narrows (box_problem_of q.program.now) (q.reason ∷ []) q.best q.store.now.box step
unfolding box_problem_of
found_cut q step whole same right = record {
  own = subst (Contains (q.reason ∷ [])) (sym same) (itself q.reason);
  right = right;
  whole = for_each q.reason (λ reason. refutes (root_in q.program.now) (problem_in q.program.now) reason q.store.now.box q.best ≡ false) whole;
}

-- what the weight at hand tells
pub told_is : (q : Probe) (w : ChanceDelta) (cell : ℕ) (lo hi : ℤ) (answer : Option Bool) → q.reason ≡ Chance w.instance → w.cell ≡ cell
    → IfSome answer (λ closed. closed ≡ refutes (root_in q.program.now) (problem_in q.program.now) (Chance w.instance) (with_interval q.store.now.box w.cell lo hi) None)
    → IfSome answer (λ closed. closed ≡ closes q (with_interval q.store.now.box cell lo hi))
told_is q w cell lo hi None reason same told = tt
told_is q w cell lo hi (Some closed) reason same told =
    told
    ∙ ap (λ (n : ℕ). refutes (root_in q.program.now) (problem_in q.program.now) (Chance w.instance) (with_interval q.store.now.box n lo hi) q.best) same
    ∙ sym (ap (λ (r : Reason). refutes (root_in q.program.now) (problem_in q.program.now) r (with_interval q.store.now.box cell lo hi) q.best) reason)

pub counted_is : (q : Probe) (c : GoalDelta) (cell : ℕ) (lo hi v : ℤ) (answer : Option Bool) → q.reason ≡ Bound → q.best ≡ Some v → c.cell ≡ cell
    → IfSome answer (λ closed. closed ≡ refutes (root_in q.program.now) (problem_in q.program.now) Bound (with_interval q.store.now.box c.cell lo hi) (Some v))
    → IfSome answer (λ closed. closed ≡ closes q (with_interval q.store.now.box cell lo hi))
counted_is q c cell lo hi v None reason best same told = tt
counted_is q c cell lo hi v (Some closed) reason best same told =
    told
    ∙ ap (λ (n : ℕ). refutes (root_in q.program.now) (problem_in q.program.now) Bound (with_interval q.store.now.box n lo hi) (Some v)) same
    ∙ sym (ap (λ (o : Option ℤ). refutes (root_in q.program.now) (problem_in q.program.now) Bound (with_interval q.store.now.box cell lo hi) o) best)
    ∙ sym (ap (λ (r : Reason). refutes (root_in q.program.now) (problem_in q.program.now) r (with_interval q.store.now.box cell lo hi) q.best) reason)

-- where what is left surely is enough, or the worst end is better than the best value, the cell is open
pub weighed_open : (q : Probe) (w : ChanceDelta) (cell : ℕ) (left : ℤ) (closed : Bool) → IsAsked q → IsWeighedOf q w → w.cell ≡ cell
    → left ≡ sure_weight (root_in q.program.now) (problem_in q.program.now) w.instance q.store.now.box w.cell → closed
    ≡ option_map_or (λ (chance : ChanceTerms). int_lt (chance.q *ℤ left) (chance.p *ℤ (problem_in q.program.now).whole)) (slice_get (problem_in q.program.now).chances w.instance) false
    → not closed ≡ true → IsOpen q cell
weighed_open q w cell left closed asked known same is told stays =
    let root = root_in q.program.now in
    let terms = problem_in q.program.now in
    let b = q.store.now.box in
    let answer : (lo hi : ℤ) → Inside (with_interval b w.cell lo hi) b → refutes root terms (Chance w.instance) (with_interval b w.cell lo hi) None ≡ false =
    λ lo hi inside. sure_open root b terms w.instance w.cell lo hi left closed asked.made.problem asked.inside.is_box known.known.exists inside is told (not_true closed stays)
    in
    subst (IsOpen q) same
    (open_by q w.cell asked (λ lo hi inside from ordered to.
    sym (told_is q w w.cell lo hi (Some false) known.reason refl (sym (answer lo hi inside)))))

pub counted_open : (q : Probe) (c : GoalDelta) (cell : ℕ) (v worst : ℤ) (closed : Bool) → IsAsked q → IsCountedOf q c → c.cell ≡ cell → q.best ≡ Some v
    → ((part : Box) → Inside part q.store.now.box → IsAsGood (direction_in (problem_in q.program.now))
    (c.end.value +ℤ sum_over (turn_of (part_at q.program.now c.atoms.now q.store.now.box) (part_at q.program.now c.atoms.now part)) c.numbers.now) worst) → closed
    ≡ no_better (direction_in (problem_in q.program.now)) worst v → not closed ≡ true → IsOpen q cell
counted_open q c cell v worst closed asked known same best good told stays =
    let root = root_in q.program.now in
    let terms = problem_in q.program.now in
    let b = q.store.now.box in
    let f = part_at q.program.now c.atoms.now b in
    let answer : (lo hi : ℤ) → Inside (with_interval b c.cell lo hi) b → low root c.cell ≤ℤ lo → lo ≤ℤ hi → hi ≤ℤ high root c.cell
    → refutes root terms Bound (with_interval b c.cell lo hi) (Some v) ≡ false =
    λ lo hi inside from ordered to.
    let part = with_interval b c.cell lo hi in
    let end = c.end.value +ℤ sum_over (turn_of f (part_at q.program.now c.atoms.now part)) c.numbers.now in
    let is = end_with q.program.now b c.cell lo hi c.atoms.now c.numbers.now c.end.value end known.known.are asked.inside from ordered to known.known.end known.known.numbers refl in
    sym (closes_by root part terms end v (no_better (direction_in terms) end v) is refl)
    ∙ still_better (direction_in terms) end worst v (good part inside) (sym told ∙ not_true closed stays)
    in
    subst (IsOpen q) same
    (open_by q c.cell asked (λ lo hi inside from ordered to.
    sym (counted_is q c c.cell lo hi v (Some false) known.reason best refl (sym (answer lo hi inside from ordered to)))))

-- a cell at its lower end, and at its upper end: it was tried, or it is not mentioned and changes nothing
open_low : (q : Probe) (cells : List ℕ) (cell : ℕ) → HasAll cells (reason_mentions (root_in q.program.now) (problem_in q.program.now) q.reason) → IsWhole q → AreOpen q cells
    → cell < length q.store.now.box.lows → closes q (with_high q.store.now.box cell (low q.store.now.box cell)) ≡ false
open_low q cells cell all whole opened exists =
    let b = q.store.now.box in
    let mentioned = reason_mentions (root_in q.program.now) (problem_in q.program.now) q.reason in
    elim (has_or_not cells cell) [
      | inl there ↦ (All-contains (IsOpen q) cells cell opened there).at_low exists
      | inr nowhere ↦
          reasons_agree (root_in q.program.now) (with_high b cell (low b cell)) b (problem_in q.program.now) q.reason q.best
          (agree_high mentioned b cell (low b cell) (λ here. nowhere (all cell here)))
          ∙ whole
    ]

open_high : (q : Probe) (cells : List ℕ) (cell : ℕ) → HasAll cells (reason_mentions (root_in q.program.now) (problem_in q.program.now) q.reason) → IsWhole q → AreOpen q cells
    → cell < length q.store.now.box.lows → closes q (with_low q.store.now.box cell (high q.store.now.box cell)) ≡ false
open_high q cells cell all whole opened exists =
    let b = q.store.now.box in
    let mentioned = reason_mentions (root_in q.program.now) (problem_in q.program.now) q.reason in
    elim (has_or_not cells cell) [
      | inl there ↦ (All-contains (IsOpen q) cells cell opened there).at_high exists
      | inr nowhere ↦
          reasons_agree (root_in q.program.now) (with_low b cell (high b cell)) b (problem_in q.program.now) q.reason q.best
          (agree_low mentioned b cell (high b cell) (λ here. nowhere (all cell here)))
          ∙ whole
    ]

pub found_quiet : (q : Probe) (cells : List ℕ) → HasAll cells (reason_mentions (root_in q.program.now) (problem_in q.program.now) q.reason) → IsWhole q → AreOpen q cells
    → Quiets (box_problem_of q.program.now) (q.reason ∷ []) q.best q.store.now.box
unfolding box_problem_of
found_quiet q cells all whole opened =
    let b = q.store.now.box in
    record {
      whole = for_each q.reason (λ reason. refutes (root_in q.program.now) (problem_in q.program.now) reason b q.best ≡ false) whole;
      at_low = λ reason cell own exists.
          for_each q.reason (λ other. refutes (root_in q.program.now) (problem_in q.program.now) other (with_high b cell (low b cell)) q.best ≡ false)
          (open_low q cells cell all whole opened exists) reason own;
      at_high = λ reason cell own exists.
          for_each q.reason (λ other. refutes (root_in q.program.now) (problem_in q.program.now) other (with_low b cell (high b cell)) q.best ≡ false)
          (open_high q cells cell all whole opened exists) reason own;
    }
