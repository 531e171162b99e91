-- The rows of a search, with those of its open nodes, are an accepted log.
use Rattle.std.proofs.Common.{◌≡◌, inl, inr, ℕ, zero, suc, ◌+◌, ◌-◌, ◌<◌, ◌≤◌, ℤ, pos, List, [], length, get_or, map, Option, Some, None, Contains, arith, refl, sym, ap, subst, ◌∙◌}
use Rattle.std.proofs.lemmas.List.{length-append, length-map, get_or-append-add, get_or-map, get_or_default}
use Rattle.std.proofs.lemmas.List.Elements.{Contains-get_or}
use Rattle.std.proofs.lemmas.Bool.{cases_eq}
use Rattle.sopl_base.specs.declared.reason.Side.{Side}
use Rattle.sopl_base.specs.declared.reason.Side.TheVariants.{Le, Ge}
use Rattle.sopl_base.specs.Better.{IsBetter}
use Rattle.sopl_base.proofs.Naturals.{by_place}
use Rattle.log_rows.specs.declared.rows.Row.{Row}
use Rattle.log_rows.specs.declared.rows.EndLine.{EndLine}
use Rattle.log_rows.specs.declared.rows.EndLine.TheVariants.{Refuted, Split, Point, Unfinished}
use Rattle.log_rows.specs.declared.rows.Footer.{Footer}
use Rattle.log_rows.specs.declared.rows.Footer.TheVariants.{Optimal, Infeasible, Bounded}
use Rattle.box_problem.specs.Box.{Box, Inside}
use Rattle.box_problem.specs.Steps.{after_steps}
use Rattle.box_problem.specs.BoxProblem.{BoxProblem, Follows, Lawful}
use Rattle.box_problem.proofs.Opens.{beats_follows}
use Rattle.log_rows.specs.Rows.{no_row, row_at, final_of, start_of, box_at, IsSplit}
use Rattle.log_rows.specs.Made.{MadeEnd, best_after, best_at, Pending, pending_at, Logs, IsFinished, AreFinished, AreShallow, open_row, with_open}
use Rattle.log_rows.specs.Accepted.{claimed, HasSide, RightEnd, RightRow, RightFooter, RightOpen, IsFound, IsOpenEnd, BoundsOpen, IsPendingEnd, BoundsPending, Closes, Accepted, greatest_depth}
use Rattle.log_rows.proofs.Values.{follows_itself, follows_more, right_later, claims}
use Rattle.log_rows.proofs.Places.{final_is, box_stays, hangs_within, row_stays}
use Rattle.log_rows.proofs.Lists.{none_has}
use Rattle.log_rows.proofs.Insides.{Cuts, AreSound, begins_inside}
use Rattle.log_rows.proofs.Growing.{side_of, taken_or_free}
use Rattle.log_rows.proofs.Logging.{logs_with_open, depths_with_open}

-- the best value only gets better
follows_end : (problem : BoxProblem) (v : Option ℤ) (final : Box) (end : EndLine) → MadeEnd problem v final end → Follows problem.direction (best_after problem v end final) v
follows_end problem v final (Refuted reason) made = follows_itself problem.direction v
follows_end problem v final (Split cut) made = follows_itself problem.direction v
follows_end problem v final Point made = beats_follows problem v final.lows made.beats
follows_end problem v final Unfinished made = follows_itself problem.direction v

follows_at : (problem : BoxProblem) (rows : List Row) (m i : ℕ) → ((k : ℕ) → k < length rows → MadeEnd problem (best_at problem rows k) (final_of problem.root rows k) (row_at rows k).end)
    → i ≤ m → m ≤ length rows → Follows problem.direction (best_at problem rows m) (best_at problem rows i)
follows_at problem rows zero i made before fits =
    let first : 0 ≡ i = omega arith in
    subst (λ (k : ℕ). Follows problem.direction (best_at problem rows zero) (best_at problem rows k)) first (follows_itself problem.direction (best_at problem rows zero))
follows_at problem rows (suc m) i made before fits =
    elim (cases_eq i (suc m)) [
      | inl last ↦ subst (λ (k : ℕ). Follows problem.direction (best_at problem rows (suc m)) (best_at problem rows k)) (sym last) (follows_itself problem.direction (best_at problem rows (suc m)))
      | inr other ↦ follows_more problem.direction (best_at problem rows (suc m)) (best_at problem rows m) (best_at problem rows i)
          (follows_end problem (best_at problem rows m) (final_of problem.root rows m) (row_at rows m).end (made m (omega arith)))
          (follows_at problem rows m i made (omega (arith, other)) (omega arith))
    ]

best_follows : (problem : BoxProblem) (rows : List Row) (best : Option ℤ) (i : ℕ) → Logs problem rows [] best → i ≤ length rows → Follows problem.direction best (best_at problem rows i)
best_follows problem rows best i logs fits =
    subst (λ (v : Option ℤ). Follows problem.direction v (best_at problem rows i)) (sym logs.best_is)
    (follows_at problem rows (length rows) i (λ k exists. (logs.made k exists).end) fits (omega arith))

-- a split has both its sides
both_sides : (problem : BoxProblem) (rows : List Row) (best : Option ℤ) (i : ℕ) (side : Side) → Logs problem rows [] best → i < length rows → IsSplit (row_at rows i).end → HasSide rows i side
both_sides problem rows best i side logs exists split =
    elim (taken_or_free rows (length rows) (side_of i side)) [
      | inl taken ↦ record { row = taken.row; exists = taken.before; parent = taken.is }
      | inr free ↦ absurd (none_has (pending_at problem.root rows (Some (side_of i side))) (logs.listed (Some (side_of i side)) (record { earlier = exists; split = split; untaken = free })))
    ]

-- what was made is right against the value that is claimed
right_end : (problem : BoxProblem) (rows : List Row) (footer : Footer) (i : ℕ) (v : Option ℤ) (final : Box) (end : EndLine) → Lawful problem → Follows problem.direction (claimed footer) v
    → Follows problem.direction (claimed footer) (best_after problem v end final) → MadeEnd problem v final end
    → (IsSplit end → (side : Side) → HasSide rows i side) → (end ≡ Unfinished → RightOpen problem footer final) → RightEnd problem footer final rows i end
right_end problem rows footer i v final (Refuted reason) lawful before behind made sides opens = lawful.later reason final (claimed footer) v before made
right_end problem rows footer i v final (Split cut) lawful before behind made sides opens = record { cut = made.cut; low = sides tt Le; high = sides tt Ge }
right_end problem rows footer i v final Point lawful before behind made sides opens = record {
  one = made.one;
  satisfies = made.beats.satisfies;
  value = claims problem footer (problem.value final.lows) behind;
}
right_end problem rows footer i v final Unfinished lawful before behind made sides opens = opens refl

right_row : (problem : BoxProblem) (rows : List Row) (best : Option ℤ) (footer : Footer) (i : ℕ) → Lawful problem → Logs problem rows [] best → claimed footer ≡ best → i < length rows
    → ((row_at rows i).end ≡ Unfinished → RightOpen problem footer (final_of problem.root rows i)) → RightRow problem footer rows i
right_row problem rows best footer i lawful logs same exists opens =
    let made = logs.made i exists in
    let before : Follows problem.direction (claimed footer) (best_at problem rows i) = subst (λ (v : Option ℤ). Follows problem.direction v (best_at problem rows i)) (sym same)
    (best_follows problem rows best i logs (omega arith)) in
    let behind : Follows problem.direction (claimed footer) (best_at problem rows (suc i)) = subst (λ (v : Option ℤ). Follows problem.direction v (best_at problem rows (suc i))) (sym same)
    (best_follows problem rows best (suc i) logs (omega arith)) in
    record {
      steps = right_later problem (claimed footer) (best_at problem rows i) (start_of problem.root rows i) (row_at rows i).steps lawful before made.steps;
      end = right_end problem rows footer i (best_at problem rows i) (final_of problem.root rows i) (row_at rows i).end lawful before behind made.end
          (λ split side. both_sides problem rows best i side logs exists split) opens;
    }

-- a best value was found at some row
abbrev some_of : Option ℤ → ℤ
some_of None = pos 0
some_of (Some v) = v

some_same : (v w : ℤ) → Some v ≡ Some w → v ≡ w
some_same v w same = ap some_of same

found_end : (problem : BoxProblem) (rows : List Row) (n : ℕ) (v : Option ℤ) (w : ℤ) (end : EndLine) → n < length rows → (row_at rows n).end ≡ end
    → best_after problem v end (final_of problem.root rows n) ≡ Some w → (v ≡ Some w → IsFound problem rows w) → IsFound problem rows w
found_end problem rows n v w (Refuted reason) exists is same earlier = earlier same
found_end problem rows n v w (Split cut) exists is same earlier = earlier same
found_end problem rows n v w Point exists is same earlier = record { row = n; exists = exists; is_point = is; value = some_same (problem.value (final_of problem.root rows n).lows) w same }
found_end problem rows n v w Unfinished exists is same earlier = earlier same

found_at : (problem : BoxProblem) (rows : List Row) (n : ℕ) (w : ℤ) → n ≤ length rows → best_at problem rows n ≡ Some w → IsFound problem rows w
found_at problem rows zero w fits same = absurd (cc)
found_at problem rows (suc n) w fits same =
    found_end problem rows n (best_at problem rows n) w (row_at rows n).end (omega arith) refl same (found_at problem rows n w (omega arith))

found : (problem : BoxProblem) (rows : List Row) (best : Option ℤ) (w : ℤ) → Logs problem rows [] best → best ≡ Some w → IsFound problem rows w
found problem rows best w logs same = found_at problem rows (length rows) w (omega arith) (sym logs.best_is ∙ same)

-- the rows of the open nodes
all_length : (rows : List Row) (opens : List Pending) → length (with_open rows opens) ≡ length rows + length opens
all_length rows opens = omega (arith, length-append rows (map open_row opens), length-map opens open_row)

abbrev no_pending : Box → Pending
no_pending root = record { parent = None; at = root }

open_row_at : (root : Box) (rows : List Row) (opens : List Pending) (k : ℕ) → k < length opens → row_at (with_open rows opens) (length rows + k) ≡ open_row (get_or opens k (no_pending root))
open_row_at root rows opens k exists =
    get_or-append-add rows (map open_row opens) k no_row ∙ get_or-map open_row opens k (no_pending root) no_row exists

open_final : (problem : BoxProblem) (rows : List Row) (opens : List Pending) (best : Option ℤ) (k : ℕ) → Logs problem rows opens best → k < length opens
    → final_of problem.root (with_open rows opens) (length rows + k) ≡ (get_or opens k (no_pending problem.root)).at
open_final problem rows opens best k logs exists =
    let all = with_open rows opens in
    let i = length rows + k in
    let x = get_or opens k (no_pending problem.root) in
    let there : i < length all = omega (arith, all_length rows opens) in
    let placed = logs.placed x (Contains-get_or opens k (no_pending problem.root) exists) in
    final_is problem.root all i there ((logs_with_open problem rows opens best logs).hangs i there)
    ∙ (ap (λ (r : Row). after_steps (box_at problem.root all r.parent) r.steps) (open_row_at problem.root rows opens k exists)
    ∙ (box_stays problem.root rows (map open_row opens) x.parent (hangs_within rows (length rows) x.parent placed.0)
    ∙ sym (ap (λ (y : Pending). y.at) placed.1)))

-- a row that is not finished is that of an open node
record IsOpenRow (problem : BoxProblem) (rows : List Row) (opens : List Pending) (i : ℕ) : Type 0 where
  node : Pending
  is_open : Contains opens node
  final : final_of problem.root (with_open rows opens) i ≡ node.at

unfinished_is_open : (problem : BoxProblem) (rows : List Row) (opens : List Pending) (best : Option ℤ) (i : ℕ) → Logs problem rows opens best → AreFinished rows → i < length (with_open rows opens)
    → (row_at (with_open rows opens) i).end ≡ Unfinished → IsOpenRow problem rows opens i
unfinished_is_open problem rows opens best i logs finished exists is =
    by_place (length rows) i
    (λ before. absurd (subst IsFinished (sym (ap (λ (r : Row). r.end) (row_stays rows (map open_row opens) i before)) ∙ is) (finished i before)))
    (λ behind.
    let k = i - length rows in
    let there : k < length opens = omega (arith, all_length rows opens) in
    record {
      node = get_or opens k (no_pending problem.root);
      is_open = Contains-get_or opens k (no_pending problem.root) there;
      final = subst (λ (j : ℕ). final_of problem.root (with_open rows opens) j ≡ (get_or opens k (no_pending problem.root)).at) (omega arith) (open_final problem rows opens best k logs there);
    })

-- bounds over the open nodes are bounds over their rows
bounds_rows : (problem : BoxProblem) (rows : List Row) (opens : List Pending) (best : Option ℤ) (bound : ℤ) → Logs problem rows opens best → AreFinished rows → BoundsPending problem opens bound
    → BoundsOpen problem (with_open rows opens) bound
bounds_rows problem rows opens best bound logs finished bounds =
    λ i exists is.
    let row = unfinished_is_open problem rows opens best i logs finished exists is in
    subst (λ (b : Box). ¬ IsBetter problem.direction (problem.end b) bound) (sym row.final) (bounds row.node row.is_open)

end_of_row : (problem : BoxProblem) (rows : List Row) (opens : List Pending) (best : Option ℤ) (bound : ℤ) → Logs problem rows opens best → IsPendingEnd problem opens bound
    → IsOpenEnd problem (with_open rows opens) bound
end_of_row problem rows opens best bound logs pending =
    let k = pending.is_open.0 in
    let there = pending.is_open.1 in
    let x = get_or opens k (no_pending problem.root) in
    let node : x ≡ pending.node = get_or_default opens k (no_pending problem.root) pending.node there ∙ pending.is_open.2 in
    record {
      row = length rows + k;
      exists = omega (arith, all_length rows opens, there);
      is_open = ap (λ (r : Row). r.end) (open_row_at problem.root rows opens k there);
      end = ap problem.end (open_final problem rows opens best k logs there ∙ ap (λ (y : Pending). y.at) node) ∙ pending.end;
    }

-- the value that is claimed is the best one
claimed_is : (problem : BoxProblem) (opens : List Pending) (best : Option ℤ) (footer : Footer) → Closes problem opens best footer → claimed footer ≡ best
claimed_is problem opens best (Optimal v) closes = sym closes.best_is
claimed_is problem opens best Infeasible closes = sym closes.best_is
claimed_is problem opens best (Bounded (Some v) bound) closes = sym closes.best_is
claimed_is problem opens best (Bounded None bound) closes = sym closes.best_is

-- what is open is right
open_is_right : (problem : BoxProblem) (rows : List Row) (opens : List Pending) (best : Option ℤ) (footer : Footer) (x : Pending) → Lawful problem → Closes problem opens best footer → Contains opens x
    → Inside x.at problem.root → RightOpen problem footer x.at
open_is_right problem rows opens best (Optimal v) x lawful closes has inside = lawful.bound x.at v inside (closes.opens_are x has)
open_is_right problem rows opens best Infeasible x lawful closes has inside = none_has x (subst (λ (ys : List Pending). Contains ys x) closes.none has)
open_is_right problem rows opens best (Bounded found bound) x lawful closes has inside = tt

footer_is_right : (problem : BoxProblem) (rows : List Row) (opens : List Pending) (best : Option ℤ) (footer : Footer) → Logs problem rows opens best → AreFinished rows
    → Closes problem opens best footer
    → RightFooter problem (with_open rows opens) footer
footer_is_right problem rows opens best (Optimal v) logs finished closes = found problem (with_open rows opens) best v (logs_with_open problem rows opens best logs) closes.best_is
footer_is_right problem rows opens best Infeasible logs finished closes = tt
footer_is_right problem rows opens best (Bounded (Some v) bound) logs finished closes = record {
  found = found problem (with_open rows opens) best v (logs_with_open problem rows opens best logs) closes.best_is;
  one = elim closes.one [
    | inl same ↦ inl same
    | inr pending ↦ inr (end_of_row problem rows opens best bound logs pending)
  ];
  value = closes.value;
  opens = bounds_rows problem rows opens best bound logs finished closes.opens_are;
}
footer_is_right problem rows opens best (Bounded None bound) logs finished closes = record {
  one = end_of_row problem rows opens best bound logs closes.one;
  opens = bounds_rows problem rows opens best bound logs finished closes.opens_are;
}

-- the rows of a search are sound
made_cuts : (problem : BoxProblem) (v : Option ℤ) (b : Box) (end : EndLine) → MadeEnd problem v b end → Cuts b end
made_cuts problem v b (Refuted reason) made = tt
made_cuts problem v b (Split cut) made = made.cut
made_cuts problem v b Point made = tt
made_cuts problem v b Unfinished made = tt

pub logs_sound : (problem : BoxProblem) (rows : List Row) (opens : List Pending) (best : Option ℤ) → Lawful problem → Logs problem rows opens best → AreSound problem (best_at problem rows) rows
logs_sound problem rows opens best lawful logs = record {
  root = lawful.root;
  ordered = logs.hangs;
  steps = λ i exists. (logs.made i exists).steps;
  cuts = λ i exists. made_cuts problem (best_at problem rows i) (final_of problem.root rows i) (row_at rows i).end (logs.made i exists).end;
}

pub opens_inside : (problem : BoxProblem) (rows : List Row) (opens : List Pending) (best : Option ℤ) (x : Pending) → Lawful problem → Logs problem rows opens best → Contains opens x
    → Inside x.at problem.root
opens_inside problem rows opens best x lawful logs has =
    let here = logs.placed x has in
    subst (λ (b : Box). Inside b problem.root) (sym (ap (λ (y : Pending). y.at) here.1))
    (begins_inside problem (best_at problem rows) rows (length rows) x.parent (logs_sound problem rows opens best lawful logs) here.0 (omega arith))

unfinished_right : (problem : BoxProblem) (rows : List Row) (opens : List Pending) (best : Option ℤ) (footer : Footer) (i : ℕ) → Lawful problem → Logs problem rows opens best → AreFinished rows
    → Closes problem opens best footer
    → i < length (with_open rows opens) → (row_at (with_open rows opens) i).end ≡ Unfinished → RightOpen problem footer (final_of problem.root (with_open rows opens) i)
unfinished_right problem rows opens best footer i lawful logs finished closes exists is =
    let row = unfinished_is_open problem rows opens best i logs finished exists is in
    subst (RightOpen problem footer) (sym row.final)
    (open_is_right problem rows opens best footer row.node lawful closes row.is_open (opens_inside problem rows opens best row.node lawful logs row.is_open))

pub logs_are_accepted : (problem : BoxProblem) (measure : Box → ℕ) (rows : List Row) (opens : List Pending) (best : Option ℤ) (footer : Footer)
    → Lawful problem → Logs problem rows opens best → AreFinished rows → 0 < length rows
    → AreShallow measure greatest_depth rows opens → Closes problem opens best footer → Accepted problem (with_open rows opens) footer
logs_are_accepted problem measure rows opens best footer lawful logs finished some shallow closes =
    let all = with_open rows opens in
    let over = logs_with_open problem rows opens best logs in
    record {
      ordered = over.hangs;
      some = omega (arith, some, all_length rows opens);
      shallow = (depths_with_open problem measure greatest_depth rows opens best logs shallow).rows_are;
      right = λ i exists. right_row problem all best footer i lawful over (claimed_is problem opens best footer closes) exists
          (unfinished_right problem rows opens best footer i lawful logs finished closes exists);
      footer_right = footer_is_right problem rows opens best footer logs finished closes;
    }
