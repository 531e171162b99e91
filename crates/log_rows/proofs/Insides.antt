-- The boxes of nodes lie inside the root.
use Rattle.std.proofs.Common.{ℕ, zero, suc, ◌<◌, ◌≤◌, ℤ, List, length, Option, Some, None, arith, sym, subst}
use Rattle.sopl_base.specs.declared.reason.Side.{Side}
use Rattle.sopl_base.specs.declared.reason.Side.TheVariants.{Le, Ge}
use Rattle.log_rows.specs.declared.rows.Row.{Row}
use Rattle.log_rows.specs.declared.rows.Parent.{Parent}
use Rattle.log_rows.specs.declared.rows.EndLine.{EndLine}
use Rattle.log_rows.specs.declared.rows.EndLine.TheVariants.{Refuted, Split, Point, Unfinished}
use Rattle.log_rows.specs.declared.rows.Footer.{Footer}
use Rattle.box_problem.specs.Box.{Box, IsBox, Inside}
use Rattle.box_problem.specs.Steps.{IsCut, after_steps}
use Rattle.box_problem.specs.BoxProblem.{BoxProblem, Lawful}
use Rattle.box_problem.specs.Rightness.{AllRight}
use Rattle.box_problem.proofs.Boxes.{part_of_itself, parts_of_parts}
use Rattle.box_problem.proofs.Cuts.{cuts_make_parts}
use Rattle.box_problem.proofs.Steps.{steps_lead_inside}
use Rattle.log_rows.specs.Rows.{row_at, handed, final_of, start_of, box_at, Hangs, AreOrdered}
use Rattle.log_rows.specs.Accepted.{claimed, RightEnd, Accepted, AreRight}
use Rattle.log_rows.proofs.Places.{IsWithin, hangs_within, final_is}

-- a split cuts its box
abbrev pub Cuts : Box → EndLine → Type 0
Cuts b (Refuted reason) = Unit {0}
Cuts b (Split cut) = IsCut b cut.cell Le cut.k
Cuts b Point = Unit {0}
Cuts b Unfinished = Unit {0}

pub handed_inside : (b : Box) (end : EndLine) (side : Side) → IsBox b → Cuts b end → Inside (handed b end side) b
handed_inside b (Refuted reason) side is_box cuts = part_of_itself b is_box
handed_inside b (Split cut) Le is_box cuts = (cuts_make_parts b cut.cell Le cut.k is_box cuts).0
handed_inside b (Split cut) Ge is_box cuts = (cuts_make_parts b cut.cell Le cut.k is_box cuts).1
handed_inside b Point side is_box cuts = part_of_itself b is_box
handed_inside b Unfinished side is_box cuts = part_of_itself b is_box

-- rows in order, each with right steps against some value, whose splits cut their boxes
pub record AreSound (problem : BoxProblem) (value_at : ℕ → Option ℤ) (rows : List Row) : Type 0 where
  pub root : IsBox problem.root
  pub ordered : AreOrdered rows
  pub steps : (i : ℕ) → i < length rows → AllRight problem (value_at i) (start_of problem.root rows i) (row_at rows i).steps
  pub cuts : (i : ℕ) → i < length rows → Cuts (final_of problem.root rows i) (row_at rows i).end

place_inside : (problem : BoxProblem) (value_at : ℕ → Option ℤ) (rows : List Row) (n : ℕ) (parent : Option Parent) → AreSound problem value_at rows → IsWithin n parent → n ≤ length rows
    → ((k : ℕ) → k < n → Inside (final_of problem.root rows k) problem.root) → Inside (box_at problem.root rows parent) problem.root
place_inside problem value_at rows n None sound within fits earlier = part_of_itself problem.root sound.root
place_inside problem value_at rows n (Some parent) sound within fits earlier =
    let inner = earlier parent.node within in
    let b = final_of problem.root rows parent.node in
    let end = (row_at rows parent.node).end in
    parts_of_parts (handed b end parent.side) b problem.root (handed_inside b end parent.side inner.is_box (sound.cuts parent.node (omega (arith, within)))) inner

final_inside : (problem : BoxProblem) (value_at : ℕ → Option ℤ) (rows : List Row) (i : ℕ) → AreSound problem value_at rows → i < length rows
    → Inside (start_of problem.root rows i) problem.root → Inside (final_of problem.root rows i) problem.root
final_inside problem value_at rows i sound exists inside =
    let start = start_of problem.root rows i in
    let steps = (row_at rows i).steps in
    subst (λ (b : Box). Inside b problem.root) (sym (final_is problem.root rows i exists (sound.ordered i exists)))
    (parts_of_parts (after_steps start steps) start problem.root (steps_lead_inside problem (value_at i) start steps inside.is_box (sound.steps i exists)) inside)

finals_inside : (problem : BoxProblem) (value_at : ℕ → Option ℤ) (rows : List Row) (n i : ℕ) → AreSound problem value_at rows → i < n → n ≤ length rows
    → Inside (final_of problem.root rows i) problem.root
finals_inside problem value_at rows zero i sound before fits = absurd (omega arith)
finals_inside problem value_at rows (suc n) i sound before fits =
    let exists : i < length rows = omega arith in
    let parent = (row_at rows i).parent in
    final_inside problem value_at rows i sound exists
    (place_inside problem value_at rows i parent sound (hangs_within rows i parent (sound.ordered i exists)) (omega arith)
    (λ k earlier. finals_inside problem value_at rows n k sound (omega arith) (omega arith)))

pub is_inside : (problem : BoxProblem) (value_at : ℕ → Option ℤ) (rows : List Row) (i : ℕ) → AreSound problem value_at rows → i < length rows → Inside (final_of problem.root rows i) problem.root
is_inside problem value_at rows i sound exists = finals_inside problem value_at rows (length rows) i sound exists (omega arith)

pub begins_inside : (problem : BoxProblem) (value_at : ℕ → Option ℤ) (rows : List Row) (n : ℕ) (parent : Option Parent) → AreSound problem value_at rows → Hangs rows n parent → n ≤ length rows
    → Inside (box_at problem.root rows parent) problem.root
begins_inside problem value_at rows n parent sound hangs fits =
    place_inside problem value_at rows n parent sound (hangs_within rows n parent hangs) fits (λ k before. is_inside problem value_at rows k sound (omega arith))

-- the rows of a tree of right lines, and of an accepted log
right_cuts : (problem : BoxProblem) (rows : List Row) (i : ℕ) (b : Box) (end : EndLine) (footer : Footer) → RightEnd problem footer b rows i end → Cuts b end
right_cuts problem rows i b (Refuted reason) footer right = tt
right_cuts problem rows i b (Split cut) footer right = right.cut
right_cuts problem rows i b Point footer right = tt
right_cuts problem rows i b Unfinished footer right = tt

pub right_sound : (problem : BoxProblem) (rows : List Row) (footer : Footer) → Lawful problem → AreRight problem rows footer → AreSound problem (λ i. claimed footer) rows
right_sound problem rows footer lawful are = record {
  root = lawful.root;
  ordered = are.ordered;
  steps = λ i exists. (are.right i exists).steps;
  cuts = λ i exists. right_cuts problem rows i (final_of problem.root rows i) (row_at rows i).end footer (are.right i exists).end;
}

pub accepted_right : (problem : BoxProblem) (rows : List Row) (footer : Footer) → Accepted problem rows footer → AreRight problem rows footer
accepted_right problem rows footer accepted = record { ordered = accepted.ordered; right = accepted.right }

pub accepted_sound : (problem : BoxProblem) (rows : List Row) (footer : Footer) → Lawful problem → Accepted problem rows footer → AreSound problem (λ i. claimed footer) rows
accepted_sound problem rows footer lawful accepted = right_sound problem rows footer lawful (accepted_right problem rows footer accepted)
