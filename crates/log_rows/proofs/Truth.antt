-- What an accepted log claims is true.
use Rattle.std.proofs.Common.{◌≡◌, inl, inr, ℕ, zero, suc, ◌+◌, ◌<◌, ◌≤◌, ℤ, true, List, length, Option, Some, None, IfSome, arith, refl, sym, subst}
use Rattle.sopl_base.specs.declared.reason.Side.{Side}
use Rattle.sopl_base.specs.declared.reason.Side.TheVariants.{Le, Ge}
use Rattle.sopl_base.specs.declared.reason.Reason.TheVariants.{Bound}
use Rattle.sopl_base.specs.Better.{IsBetter}
use Rattle.log_rows.specs.declared.rows.Row.{Row}
use Rattle.log_rows.specs.declared.rows.Parent.{Parent}
use Rattle.log_rows.specs.declared.rows.EndLine.{EndLine}
use Rattle.log_rows.specs.declared.rows.EndLine.TheVariants.{Refuted, Split, Point, Unfinished}
use Rattle.log_rows.specs.declared.rows.Footer.{Footer}
use Rattle.log_rows.specs.declared.rows.Footer.TheVariants.{Optimal, Infeasible, Bounded}
use Rattle.box_problem.specs.Box.{Box, Inside, InBox}
use Rattle.box_problem.specs.BoxProblem.{BoxProblem, Beats, Lawful}
use Rattle.box_problem.specs.Reached.{Reaches}
use Rattle.box_problem.proofs.Boxes.{points_of_parts, point_in_box, only_point}
use Rattle.box_problem.proofs.Cuts.{cuts_cover}
use Rattle.box_problem.proofs.Steps.{steps_keep}
use Rattle.box_problem.proofs.Opens.{still_not_better}
use Rattle.log_rows.specs.Rows.{row_at, handed, final_of, start_of, box_at, Hangs, AreOrdered}
use Rattle.log_rows.specs.Accepted.{claimed, HasSide, RightEnd, IsFound, BoundsOpen, Accepted, Holds}
use Rattle.log_rows.proofs.Values.{not_beaten}
use Rattle.log_rows.proofs.Places.{final_is}
use Rattle.log_rows.proofs.Insides.{is_inside, begins_inside, accepted_sound}

-- a row that is not finished has the point
pub record IsLeft (problem : BoxProblem) (rows : List Row) (point : List ℤ) : Type 0 where
  pub row : ℕ
  pub exists : row < length rows
  pub is_open : (row_at rows row).end ≡ Unfinished
  pub has : InBox (final_of problem.root rows row) point

-- a row on a side of a row comes later, and begins with that side's part
side_later : (rows : List Row) (i : ℕ) (side : Side) → AreOrdered rows → (has : HasSide rows i side) → i < has.row
side_later rows i side ordered has =
    let hangs : Hangs rows has.row (Some (record { node = i; side = side })) = subst (λ (p : Option Parent). Hangs rows has.row p) has.parent (ordered has.row has.exists) in
    hangs.earlier

side_begins : (root : Box) (rows : List Row) (i : ℕ) (side : Side) (end : EndLine) (point : List ℤ) → (has : HasSide rows i side) → (row_at rows i).end ≡ end
    → InBox (handed (final_of root rows i) end side) point → InBox (start_of root rows has.row) point
side_begins root rows i side end point has is q =
    subst (λ (p : Option Parent). InBox (box_at root rows p) point) (sym has.parent)
    (subst (λ (e : EndLine). InBox (handed (final_of root rows i) e side) point) (sym is) q)

-- what holds at the end of a row of a point that beats the value
by_end : (problem : BoxProblem) (rows : List Row) (footer : Footer) (i : ℕ) (end : EndLine) (point : List ℤ) → Lawful problem → AreOrdered rows → i < length rows
    → Inside (final_of problem.root rows i) problem.root → (row_at rows i).end ≡ end → RightEnd problem footer (final_of problem.root rows i) rows i end
    → InBox (final_of problem.root rows i) point → Beats problem (claimed footer) point
    → ((j : ℕ) → i < j → j < length rows → InBox (start_of problem.root rows j) point → IsLeft problem rows point)
    → IsLeft problem rows point
by_end problem rows footer i (Refuted reason) point lawful ordered exists inside is right q beats later =
    absurd (lawful.sound reason (final_of problem.root rows i) (claimed footer) point inside right q beats)
by_end problem rows footer i (Split cut) point lawful ordered exists inside is right q beats later =
    elim ((cuts_cover (final_of problem.root rows i) cut.cell Le cut.k point inside.is_box right.cut).0 q) [
      | inl low ↦ later right.low.row (side_later rows i Le ordered right.low) right.low.exists (side_begins problem.root rows i Le (Split cut) point right.low is low)
      | inr high ↦ later right.high.row (side_later rows i Ge ordered right.high) right.high.exists (side_begins problem.root rows i Ge (Split cut) point right.high is high)
    ]
by_end problem rows footer i Point point lawful ordered exists inside is right q beats later =
    absurd (not_beaten problem footer (problem.value (final_of problem.root rows i).lows) right.value
    (subst (λ (p : List ℤ). IfSome (claimed footer) (λ w. IsBetter problem.direction (problem.value p) w)) (only_point (final_of problem.root rows i) point right.one q) beats.better))
by_end problem rows footer i Unfinished point lawful ordered exists inside is right q beats later =
    record { row = i; exists = exists; is_open = is; has = q }

-- a point of a row's first box that beats the value is left open below it
left_below : (problem : BoxProblem) (rows : List Row) (footer : Footer) (n i : ℕ) (point : List ℤ) → Lawful problem → Accepted problem rows footer → length rows ≤ i + n → i < length rows
    → InBox (start_of problem.root rows i) point → Beats problem (claimed footer) point → IsLeft problem rows point
left_below problem rows footer zero i point lawful accepted enough exists q beats = absurd (omega arith)
left_below problem rows footer (suc n) i point lawful accepted enough exists q beats =
    let sound = accepted_sound problem rows footer lawful accepted in
    let hangs = accepted.ordered i exists in
    let begins = begins_inside problem (λ k. claimed footer) rows i (row_at rows i).parent sound hangs (omega arith) in
    let right = accepted.right i exists in
    let kept = steps_keep problem (claimed footer) (start_of problem.root rows i) (row_at rows i).steps point lawful begins right.steps q beats in
    by_end problem rows footer i (row_at rows i).end point lawful accepted.ordered exists (is_inside problem (λ k. claimed footer) rows i sound exists) refl right.end
    (subst (λ (b : Box). InBox b point) (sym (final_is problem.root rows i exists hangs)) kept) beats
    (λ j after there first. left_below problem rows footer n j point lawful accepted (omega arith) there first beats)

-- the first row is the root
hangs_first : (rows : List Row) (parent : Option Parent) → Hangs rows 0 parent → parent ≡ None
hangs_first rows None hangs = refl
hangs_first rows (Some parent) hangs = absurd (omega (arith, hangs.earlier))

left_open : (problem : BoxProblem) (rows : List Row) (footer : Footer) (point : List ℤ) → Lawful problem → Accepted problem rows footer → InBox problem.root point
    → Beats problem (claimed footer) point → IsLeft problem rows point
left_open problem rows footer point lawful accepted q beats =
    left_below problem rows footer (length rows) 0 point lawful accepted (omega arith) accepted.some
    (subst (λ (p : Option Parent). InBox (box_at problem.root rows p) point) (sym (hangs_first rows (row_at rows 0).parent (accepted.ordered 0 accepted.some))) q) beats

-- what the end of the row that is left open says
open_end : (problem : BoxProblem) (rows : List Row) (footer : Footer) (point : List ℤ) → Accepted problem rows footer → (left : IsLeft problem rows point)
    → RightEnd problem footer (final_of problem.root rows left.row) rows left.row Unfinished
open_end problem rows footer point accepted left =
    subst (λ (e : EndLine). RightEnd problem footer (final_of problem.root rows left.row) rows left.row e) left.is_open (accepted.right left.row left.exists).end

left_inside : (problem : BoxProblem) (rows : List Row) (footer : Footer) (point : List ℤ) → Lawful problem → Accepted problem rows footer → (left : IsLeft problem rows point)
    → Inside (final_of problem.root rows left.row) problem.root
left_inside problem rows footer point lawful accepted left =
    is_inside problem (λ k. claimed footer) rows left.row (accepted_sound problem rows footer lawful accepted) left.exists

-- the value of a row that is a point is reached
reaches : (problem : BoxProblem) (rows : List Row) (footer : Footer) (v : ℤ) → Lawful problem → Accepted problem rows footer → IsFound problem rows v → Reaches problem v
reaches problem rows footer v lawful accepted found =
    let b = final_of problem.root rows found.row in
    let inside = is_inside problem (λ k. claimed footer) rows found.row (accepted_sound problem rows footer lawful accepted) found.exists in
    let right : RightEnd problem footer b rows found.row Point = subst (λ (e : EndLine). RightEnd problem footer b rows found.row e) found.is_point (accepted.right found.row found.exists).end in (
      b.lows,
      record {
        inside = points_of_parts b problem.root b.lows inside (point_in_box b inside.is_box right.one);
        satisfies = right.satisfies;
        valued = sym found.value;
      },
    )

-- no point is better than a bound over what is left open, and over a value that is reached
not_better_than_open : (problem : BoxProblem) (rows : List Row) (footer : Footer) (bound : ℤ) (point : List ℤ) → Lawful problem → Accepted problem rows footer → BoundsOpen problem rows bound
    → problem.satisfies point ≡ true → IsLeft problem rows point → ¬ IsBetter problem.direction (problem.value point) bound
not_better_than_open problem rows footer bound point lawful accepted opens satisfies left =
    let b = final_of problem.root rows left.row in
    still_not_better problem.direction (problem.value point) (problem.end b) bound
    (lawful.end_bounds b point (left_inside problem rows footer point lawful accepted left) left.has satisfies)
    (opens left.row left.exists left.is_open)

pub logs_are_true : (problem : BoxProblem) (rows : List Row) (footer : Footer) → Lawful problem → Accepted problem rows footer → Holds problem footer
logs_are_true problem rows (Optimal v) lawful accepted = (
  reaches problem rows (Optimal v) v lawful accepted accepted.footer_right,
  λ point q satisfies better.
      let beats : Beats problem (Some v) point = record { satisfies = satisfies; better = better } in
      let left = left_open problem rows (Optimal v) point lawful accepted q beats in
      lawful.sound Bound (final_of problem.root rows left.row) (Some v) point (left_inside problem rows (Optimal v) point lawful accepted left) (open_end problem rows (Optimal v) point accepted left)
      left.has beats,
)
logs_are_true problem rows Infeasible lawful accepted =
    λ point q satisfies.
    open_end problem rows Infeasible point accepted (left_open problem rows Infeasible point lawful accepted q (record { satisfies = satisfies; better = tt }))
logs_are_true problem rows (Bounded None bound) lawful accepted =
    λ point q satisfies.
    not_better_than_open problem rows (Bounded None bound) bound point lawful accepted accepted.footer_right.opens satisfies
    (left_open problem rows (Bounded None bound) point lawful accepted q (record { satisfies = satisfies; better = tt }))
logs_are_true problem rows (Bounded (Some v) bound) lawful accepted = (
  reaches problem rows (Bounded (Some v) bound) v lawful accepted accepted.footer_right.found,
  λ point q satisfies better.
      still_not_better problem.direction (problem.value point) v bound
      (λ beaten. not_better_than_open problem rows (Bounded (Some v) bound) bound point lawful accepted accepted.footer_right.opens satisfies
      (left_open problem rows (Bounded (Some v) bound) point lawful accepted q (record { satisfies = satisfies; better = beaten })) better)
      accepted.footer_right.value better,
)
