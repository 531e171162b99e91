-- The rows of a search, one row more.
use Rattle.std.proofs.Common.{◌≡◌, ◌⊎◌, ◌↔◌, inl, inr, ℕ, zero, suc, ◌+◌, ◌<◌, ◌≤◌, ℤ, List, [], ◌∷◌, ◌++◌, length, map, Option, Some, None, AllPairs, Contains, arith, refl, sym}
use Rattle.std.proofs.Common.{ap, subst, ◌∙◌, append_assoc}
use Rattle.std.proofs.lemmas.List.{append-nil, length-append}
use Rattle.std.proofs.lemmas.Bool.{cases_eq}
use Rattle.sopl_base.specs.declared.reason.Side.{Side}
use Rattle.sopl_base.specs.declared.reason.Side.TheVariants.{Le, Ge}
use Rattle.sopl_base.specs.declared.reason.Step.{Step}
use Rattle.log_rows.specs.declared.rows.Row.{Row}
use Rattle.log_rows.specs.declared.rows.Cut.{Cut}
use Rattle.log_rows.specs.declared.rows.Parent.{Parent}
use Rattle.log_rows.specs.declared.rows.EndLine.{EndLine}
use Rattle.log_rows.specs.declared.rows.EndLine.TheVariants.{Split, Unfinished}
use Rattle.box_problem.specs.Box.{Box}
use Rattle.box_problem.specs.Steps.{after_steps}
use Rattle.box_problem.specs.BoxProblem.{BoxProblem}
use Rattle.box_problem.specs.Rightness.{AllRight}
use Rattle.log_rows.specs.Rows.{row_at, handed, final_of, box_at, depth_of, depth_at, IsSplit, Hangs, AreOrdered}
use Rattle.log_rows.specs.Made.{MadeEnd, MadeSplit, Made, best_after, best_at, Pending, pending_at, Logs, AreShallow, open_row, with_open}
use Rattle.log_rows.specs.LogLaws.{row_of, half, root_alone}
use Rattle.log_rows.proofs.Places.{IsWithin, hangs_within, row_stays, row_last, final_stays, box_stays, final_last, depth_stays, depth_at_stays, depth_last, hangs_stays, hangs_prefix}
use Rattle.log_rows.proofs.Lists.{AreApart, none_has, first_or_later, middle_is, others_have, middle_or_others, others_apart, middle_apart, put_apart}
use Rattle.log_rows.proofs.Growing.{some_side, IsNewSide, hung, still_hangs, side_hangs, side_in, not_both_sides}

-- at first
only_one : {X : Type 0} (x y : X) → Contains (x ∷ []) y → x ≡ y
only_one x y has =
    elim (first_or_later x [] y has) [
      | inl same ↦ same
      | inr none ↦ absurd (none_has y none)
    ]

root_listed : (root : Box) (parent : Option Parent) → Hangs [] 0 parent → Contains (root_alone root) (pending_at root [] parent)
root_listed root None hangs = (zero, omega arith, refl)
root_listed root (Some parent) hangs = absurd (omega (arith, hangs.earlier))

root_placed : (root : Box) (x : Pending) → Contains (root_alone root) x → Hangs [] 0 x.parent × (x ≡ pending_at root [] x.parent)
root_placed root x has =
    subst (λ (y : Pending). Hangs [] 0 y.parent × (y ≡ pending_at root [] y.parent)) (only_one (pending_at root [] None) x has) (refl, refl)

pub logs_at_first : (problem : BoxProblem) → Logs problem [] (root_alone problem.root) None
logs_at_first problem = record {
  hangs = λ i exists. absurd (omega arith);
  made = λ i exists. absurd (omega arith);
  best_is = refl;
  placed = root_placed problem.root;
  listed = root_listed problem.root;
  distinct = λ i j d before exists. absurd (omega arith);
}

-- what holds of each old row and of the new one holds of each row
longer : (rows : List Row) (row : Row) → length (rows ++ row ∷ []) ≡ suc (length rows)
longer rows row = omega (arith, length-append rows (row ∷ []))

pub each_row : (P : ℕ → Row → Type 0) (rows : List Row) (row : Row) → ((i : ℕ) → i < length rows → P i (row_at rows i)) → P (length rows) row
    → (i : ℕ) → i < length (rows ++ row ∷ []) → P i (row_at (rows ++ row ∷ []) i)
each_row P rows row old new i exists =
    elim (cases_eq i (length rows)) [
      | inl last ↦ subst (λ (k : ℕ). P k (row_at (rows ++ row ∷ []) k)) (sym last) (subst (P (length rows)) (sym (row_last rows row [])) new)
      | inr other ↦ subst (P i) (sym (row_stays rows (row ∷ []) i (omega (arith, longer rows row, other)))) (old i (omega (arith, longer rows row, other)))
    ]

-- the best value of a moment stays
best_stays : (problem : BoxProblem) (xs ys : List Row) (i : ℕ) → i ≤ length xs → best_at problem (xs ++ ys) i ≡ best_at problem xs i
best_stays problem xs ys zero fits = refl
best_stays problem xs ys (suc i) fits =
    ap (λ (v : Option ℤ). best_after problem v (row_at (xs ++ ys) i).end (final_of problem.root (xs ++ ys) i)) (best_stays problem xs ys i (omega arith))
    ∙ (ap (λ (row : Row). best_after problem (best_at problem xs i) row.end (final_of problem.root (xs ++ ys) i)) (row_stays xs ys i (omega arith))
    ∙ ap (λ (b : Box). best_after problem (best_at problem xs i) (row_at xs i).end b) (final_stays problem.root xs ys i (omega arith)))

within_more : (xs : List Row) (i : ℕ) (parent : Option Parent) → i < length xs → IsWithin i parent → IsWithin (length xs) parent
within_more xs i None exists within = tt
within_more xs i (Some parent) exists within = omega arith

-- a row as it was made
abbrev made_as : BoxProblem → List Row → ℕ → Row → Type 0
made_as problem rows i row = Made problem (best_at problem rows i) (box_at problem.root rows row.parent) row (final_of problem.root rows i)

made_stays : (problem : BoxProblem) (xs ys : List Row) (i : ℕ) (row : Row) → i < length xs → Hangs xs i row.parent → made_as problem xs i row → made_as problem (xs ++ ys) i row
made_stays problem xs ys i row exists hangs made =
    subst (λ (v : Option ℤ). Made problem v (box_at problem.root (xs ++ ys) row.parent) row (final_of problem.root (xs ++ ys) i)) (sym (best_stays problem xs ys i (omega arith)))
    (subst (λ (b : Box). Made problem (best_at problem xs i) b row (final_of problem.root (xs ++ ys) i))
    (sym (box_stays problem.root xs ys row.parent (within_more xs i row.parent exists (hangs_within xs i row.parent hangs))))
    (subst (λ (b : Box). Made problem (best_at problem xs i) (box_at problem.root xs row.parent) row b) (sym (final_stays problem.root xs ys i exists)) made))

-- one row more, for an open node x that hangs behind the rows
record IsNext (problem : BoxProblem) (rows : List Row) (best : Option ℤ) (x : Pending) (steps : List Step) (end : EndLine) : Type 0 where
  ordered : AreOrdered rows
  made : (i : ℕ) → i < length rows → made_as problem rows i (row_at rows i)
  best_is : best ≡ best_at problem rows (length rows)
  hangs : Hangs rows (length rows) x.parent
  placed : x.at ≡ box_at problem.root rows x.parent
  steps_are : AllRight problem best x.at steps
  end_is : MadeEnd problem best (after_steps x.at steps) end

abbrev rows_with : List Row → Pending → List Step → EndLine → List Row
rows_with rows x steps end = rows ++ row_of x steps end ∷ []

next_final : (problem : BoxProblem) (rows : List Row) (best : Option ℤ) (x : Pending) (steps : List Step) (end : EndLine) → IsNext problem rows best x steps end
    → final_of problem.root (rows_with rows x steps end) (length rows) ≡ after_steps x.at steps
next_final problem rows best x steps end next =
    final_last problem.root rows (row_of x steps end) ∙ ap (λ (b : Box). after_steps b steps) (sym next.placed)

next_ordered : (problem : BoxProblem) (rows : List Row) (best : Option ℤ) (x : Pending) (steps : List Step) (end : EndLine) → IsNext problem rows best x steps end
    → AreOrdered (rows_with rows x steps end)
next_ordered problem rows best x steps end next =
    each_row (λ i row. Hangs (rows_with rows x steps end) i row.parent) rows (row_of x steps end)
    (λ i exists. hangs_stays rows (row_of x steps end ∷ []) i (row_at rows i).parent (omega arith) (next.ordered i exists))
    (hangs_stays rows (row_of x steps end ∷ []) (length rows) x.parent (omega arith) next.hangs)

new_made : (problem : BoxProblem) (rows : List Row) (best : Option ℤ) (x : Pending) (steps : List Step) (end : EndLine) → IsNext problem rows best x steps end
    → made_as problem (rows_with rows x steps end) (length rows) (row_of x steps end)
new_made problem rows best x steps end next =
    let all = rows_with rows x steps end in
    let at_once : Made problem best x.at (row_of x steps end) (after_steps x.at steps) = record { steps = next.steps_are; end = next.end_is } in
    subst (λ (v : Option ℤ). Made problem v (box_at problem.root all x.parent) (row_of x steps end) (final_of problem.root all (length rows))) (next.best_is
    ∙ sym (best_stays problem rows (row_of x steps end ∷ []) (length rows) (omega arith)))
    (subst (λ (b : Box). Made problem best b (row_of x steps end) (final_of problem.root all (length rows))) (next.placed
    ∙ sym (box_stays problem.root rows (row_of x steps end ∷ []) x.parent (hangs_within rows (length rows) x.parent next.hangs)))
    (subst (λ (b : Box). Made problem best x.at (row_of x steps end) b) (sym (next_final problem rows best x steps end next)) at_once))

next_made : (problem : BoxProblem) (rows : List Row) (best : Option ℤ) (x : Pending) (steps : List Step) (end : EndLine) → IsNext problem rows best x steps end
    → (i : ℕ) → i < length (rows_with rows x steps end) → made_as problem (rows_with rows x steps end) i (row_at (rows_with rows x steps end) i)
next_made problem rows best x steps end next =
    each_row (λ i row. made_as problem (rows_with rows x steps end) i row) rows (row_of x steps end)
    (λ i exists. made_stays problem rows (row_of x steps end ∷ []) i (row_at rows i) exists (next.ordered i exists) (next.made i exists))
    (new_made problem rows best x steps end next)

next_best : (problem : BoxProblem) (rows : List Row) (best : Option ℤ) (x : Pending) (steps : List Step) (end : EndLine) → IsNext problem rows best x steps end
    → best_after problem best end (after_steps x.at steps) ≡ best_at problem (rows_with rows x steps end) (length (rows_with rows x steps end))
next_best problem rows best x steps end next =
    let row = row_of x steps end in
    let all = rows_with rows x steps end in
    ap (λ (v : Option ℤ). best_after problem v end (after_steps x.at steps)) (next.best_is ∙ sym (best_stays problem rows (row ∷ []) (length rows) (omega arith)))
    ∙ (ap (λ (b : Box). best_after problem (best_at problem all (length rows)) end b) (sym (next_final problem rows best x steps end next))
    ∙ (ap (λ (r : Row). best_after problem (best_at problem all (length rows)) r.end (final_of problem.root all (length rows))) (sym (row_last rows row []))
    ∙ ap (λ (n : ℕ). best_at problem all n) (sym (longer rows row))))

next_of : (problem : BoxProblem) (rows : List Row) (x : Pending) (prefix back : List Pending) (best : Option ℤ) (steps : List Step) (end : EndLine)
    → Logs problem rows (prefix ++ x ∷ back) best → AllRight problem best x.at steps → MadeEnd problem best (after_steps x.at steps) end → IsNext problem rows best x steps end
next_of problem rows x prefix back best steps end logs right made =
    let here = logs.placed x (middle_is prefix back x) in
    record {
      ordered = logs.hangs;
      made = logs.made;
      best_is = logs.best_is;
      hangs = here.0;
      placed = ap (λ (y : Pending). y.at) here.1;
      steps_are = right;
      end_is = made;
    }

-- what an open node's parent says of it
abbrev pending_with : Option Parent → Box → Pending
pending_with parent b = record { parent = parent; at = b }

pending_stays : (root : Box) (xs ys : List Row) (parent : Option Parent) → Hangs xs (length xs) parent → pending_at root (xs ++ ys) parent ≡ pending_at root xs parent
pending_stays root xs ys parent hangs =
    ap (λ (b : Box). pending_with parent b) (box_stays root xs ys parent (hangs_within xs (length xs) parent hangs))

-- the open nodes but x are open still
other_placed : (problem : BoxProblem) (rows : List Row) (x : Pending) (prefix back : List Pending) (best : Option ℤ) (steps : List Step) (end : EndLine)
    → Logs problem rows (prefix ++ x ∷ back) best → IsNext problem rows best x steps end → (y : Pending) → Contains (prefix ++ back) y
    → Hangs (rows_with rows x steps end) (length (rows_with rows x steps end)) y.parent × (y ≡ pending_at problem.root (rows_with rows x steps end) y.parent)
other_placed problem rows x prefix back best steps end logs next y has =
    let row = row_of x steps end in
    let all = rows_with rows x steps end in
    let here = logs.placed y (others_have prefix back x y has) in
    let x_is : x ≡ pending_at problem.root rows x.parent = (logs.placed x (middle_is prefix back x)).1 in
    let differs : ¬ x.parent ≡ y.parent = λ same. middle_apart prefix back x y logs.distinct has (x_is ∙ (ap (pending_at problem.root rows) same ∙ sym here.1)) in
    let last : (row_at all (length rows)).parent ≡ x.parent = ap (λ (r : Row). r.parent) (row_last rows row []) in (
      subst (λ (n : ℕ). Hangs all n y.parent) (sym (longer rows row))
          (still_hangs all (length rows) y.parent (next_ordered problem rows best x steps end next (length rows) (omega (arith, longer rows row)))
          (hangs_stays rows (row ∷ []) (length rows) y.parent (omega arith) here.0) (λ same. differs (sym last ∙ same))),
      here.1 ∙ sym (pending_stays problem.root rows (row ∷ []) y.parent here.0),
    )

among : (problem : BoxProblem) (rows : List Row) (x : Pending) (prefix back : List Pending) (best : Option ℤ) (row : Row) (parent : Option Parent)
    → Logs problem rows (prefix ++ x ∷ back) best → Hangs rows (length rows) parent → ¬ x.parent ≡ parent → Contains (prefix ++ back) (pending_at problem.root (rows ++ row ∷ []) parent)
among problem rows x prefix back best row parent logs hangs differs =
    subst (λ (y : Pending). Contains (prefix ++ back) y) (sym (pending_stays problem.root rows (row ∷ []) parent hangs))
    (elim (middle_or_others prefix back x (pending_at problem.root rows parent) (logs.listed parent hangs)) [
      | inl same ↦ absurd (differs (ap (λ (y : Pending). y.parent) same))
      | inr other ↦ other
    ])

-- what hangs behind the new row: an open node but x, or a side of the new row
still_listed : (problem : BoxProblem) (rows : List Row) (x : Pending) (prefix back : List Pending) (best : Option ℤ) (steps : List Step) (end : EndLine)
    → Logs problem rows (prefix ++ x ∷ back) best → (parent : Option Parent) → Hangs (rows_with rows x steps end) (length (rows_with rows x steps end)) parent
    → Contains (prefix ++ back) (pending_at problem.root (rows_with rows x steps end) parent) ⊎ IsNewSide (rows_with rows x steps end) (length rows) parent
still_listed problem rows x prefix back best steps end logs parent hangs =
    let row = row_of x steps end in
    let all = rows_with rows x steps end in
    let last : (row_at all (length rows)).parent ≡ x.parent = ap (λ (r : Row). r.parent) (row_last rows row []) in
    elim (hung all (length rows) parent (subst (λ (n : ℕ). Hangs all n parent) (longer rows row) hangs)) [
      | inl before ↦ inl (among problem rows x prefix back best row parent logs (hangs_prefix rows (row ∷ []) (length rows) parent (omega arith) before.0) (λ same. before.1 (last ∙ same)))
      | inr new ↦ inr new
    ]

pub logs_after_end : (problem : BoxProblem) (rows : List Row) (x : Pending) (prefix back : List Pending) (best : Option ℤ) (steps : List Step) (end : EndLine)
    → Logs problem rows (prefix ++ x ∷ back) best → AllRight problem best x.at steps
    → MadeEnd problem best (after_steps x.at steps) end → ¬ IsSplit end
    → Logs problem (rows ++ row_of x steps end ∷ []) (prefix ++ back) (best_after problem best end (after_steps x.at steps))
logs_after_end problem rows x prefix back best steps end logs right made isnt =
    let next = next_of problem rows x prefix back best steps end logs right made in
    let row = row_of x steps end in
    record {
      hangs = next_ordered problem rows best x steps end next;
      made = next_made problem rows best x steps end next;
      best_is = next_best problem rows best x steps end next;
      placed = other_placed problem rows x prefix back best steps end logs next;
      listed = λ parent hangs. elim (still_listed problem rows x prefix back best steps end logs parent hangs) [
        | inl other ↦ other
        | inr new ↦ absurd (isnt (subst (λ (r : Row). IsSplit r.end) (row_last rows row []) new.split))
      ];
      distinct = others_apart prefix back x logs.distinct;
    }

-- the two sides of a new row that is split
abbrev sides : ℕ → Box → Cut → List Pending → List Pending → List Pending
sides n b cut left right = left ++ half n b cut Ge ∷ half n b cut Le ∷ right

sides_have : (n : ℕ) (b : Box) (cut : Cut) (left right : List Pending) (y : Pending) → Contains (sides n b cut left right) y
    → (half n b cut Ge ≡ y) ⊎ ((half n b cut Le ≡ y) ⊎ Contains (left ++ right) y)
sides_have n b cut left right y has =
    elim (middle_or_others left (half n b cut Le ∷ right) (half n b cut Ge) y has) [
      | inl high ↦ inl high
      | inr others ↦ inr (middle_or_others left right (half n b cut Le) y others)
    ]

has_other : (n : ℕ) (b : Box) (cut : Cut) (left right : List Pending) (y : Pending) → Contains (left ++ right) y → Contains (sides n b cut left right) y
has_other n b cut left right y has = others_have left (half n b cut Le ∷ right) (half n b cut Ge) y (others_have left right (half n b cut Le) y has)

has_side : (n : ℕ) (b : Box) (cut : Cut) (left right : List Pending) (side : Side) → Contains (sides n b cut left right) (half n b cut side)
has_side n b cut left right Le = others_have left (half n b cut Le ∷ right) (half n b cut Ge) (half n b cut Le) (middle_is left right (half n b cut Le))
has_side n b cut left right Ge = middle_is left (half n b cut Le ∷ right) (half n b cut Ge)

-- a side differs from each open node, whose parent is an earlier row
not_earlier : (rows : List Row) (n : ℕ) (side : Side) (parent : Option Parent) → Hangs rows n parent → ¬ some_side n side ≡ parent
not_earlier rows n side parent hangs same =
    let there : Hangs rows n (some_side n side) = subst (λ (p : Option Parent). Hangs rows n p) (sym same) hangs in
    omega (arith, there.earlier)

sides_apart : (n : ℕ) (b : Box) (cut : Cut) (left right : List Pending) → AreApart (left ++ right) → ((side : Side) (y : Pending) → Contains (left ++ right) y → ¬ half n b cut side ≡ y)
    → AreApart (sides n b cut left right)
sides_apart n b cut left right apart differs =
    put_apart left (half n b cut Le ∷ right) (half n b cut Ge)
    (put_apart left right (half n b cut Le) apart (differs Le))
    (λ y has. elim (middle_or_others left right (half n b cut Le) y has) [
      | inl low ↦ λ same. not_both_sides (ap (λ (z : Pending). side_in z.parent) (same ∙ sym low))
      | inr other ↦ differs Ge y other
    ])

-- the new row gives its sides their boxes
new_half : (problem : BoxProblem) (rows : List Row) (best : Option ℤ) (x : Pending) (steps : List Step) (cut : Cut) (side : Side) → IsNext problem rows best x steps (Split cut)
    → half (length rows) (after_steps x.at steps) cut side ≡ pending_at problem.root (rows_with rows x steps (Split cut)) (some_side (length rows) side)
new_half problem rows best x steps cut side next =
    let all = rows_with rows x steps (Split cut) in
    ap (λ (b : Box). pending_with (some_side (length rows) side) (handed b (Split cut) side)) (sym (next_final problem rows best x steps (Split cut) next))
    ∙ ap (λ (r : Row). pending_with (some_side (length rows) side) (handed (final_of problem.root all (length rows)) r.end side)) (sym (row_last rows (row_of x steps (Split cut)) []))

half_placed : (problem : BoxProblem) (rows : List Row) (best : Option ℤ) (x : Pending) (steps : List Step) (cut : Cut) (side : Side) → IsNext problem rows best x steps (Split cut)
    → Hangs (rows_with rows x steps (Split cut)) (length (rows_with rows x steps (Split cut))) (some_side (length rows) side)
half_placed problem rows best x steps cut side next =
    let row = row_of x steps (Split cut) in
    let all = rows_with rows x steps (Split cut) in
    subst (λ (n : ℕ). Hangs all n (some_side (length rows) side)) (sym (longer rows row))
    (side_hangs all (length rows) side (λ k before. next_ordered problem rows best x steps (Split cut) next k (omega (arith, longer rows row)))
    (subst (λ (r : Row). IsSplit r.end) (sym (row_last rows row [])) tt))

abbrev IsPlaced : Box → List Row → Pending → Type 0
IsPlaced root rows y = Hangs rows (length rows) y.parent × (y ≡ pending_at root rows y.parent)

pub logs_after_split : (problem : BoxProblem) (rows : List Row) (x : Pending) (prefix back left right : List Pending) (best : Option ℤ) (steps : List Step) (cut : Cut)
    → Logs problem rows (prefix ++ x ∷ back) best → AllRight problem best x.at steps
    → MadeSplit problem best (after_steps x.at steps) cut → left ++ right ≡ prefix ++ back
    → Logs problem (rows ++ row_of x steps (Split cut) ∷ [])
    (left ++ half (length rows) (after_steps x.at steps) cut Ge ∷ half (length rows) (after_steps x.at steps) cut Le ∷ right) best
logs_after_split problem rows x prefix back left right best steps cut logs right_steps made same =
    let end = Split cut in
    let n = length rows in
    let b = after_steps x.at steps in
    let next = next_of problem rows x prefix back best steps end logs right_steps made in
    let all = rows_with rows x steps end in
    let moved : (y : Pending) → Contains (left ++ right) y → Contains (prefix ++ back) y = λ y has. subst (λ (ys : List Pending). Contains ys y) same has in
    record {
      hangs = next_ordered problem rows best x steps end next;
      made = next_made problem rows best x steps end next;
      best_is = next_best problem rows best x steps end next;
      placed = λ y has. elim (sides_have n b cut left right y has) [
        | inl high ↦ subst (IsPlaced problem.root all) high (half_placed problem rows best x steps cut Ge next, new_half problem rows best x steps cut Ge next)
        | inr others ↦ elim others [
          | inl low ↦ subst (IsPlaced problem.root all) low (half_placed problem rows best x steps cut Le next, new_half problem rows best x steps cut Le next)
          | inr other ↦ other_placed problem rows x prefix back best steps end logs next y (moved y other)
        ]
      ];
      listed = λ parent hangs. elim (still_listed problem rows x prefix back best steps end logs parent hangs) [
        | inl other ↦ has_other n b cut left right (pending_at problem.root all parent) (subst (λ (ys : List Pending). Contains ys (pending_at problem.root all parent)) (sym same) other)
        | inr new ↦ subst (λ (p : Option Parent). Contains (sides n b cut left right) (pending_at problem.root all p)) (sym new.is)
            (subst (Contains (sides n b cut left right)) (new_half problem rows best x steps cut new.side next) (has_side n b cut left right new.side))
      ];
      distinct = sides_apart n b cut left right (subst AreApart (sym same) (others_apart prefix back x logs.distinct))
          (λ side y has equal. not_earlier rows n side y.parent (logs.placed y (others_have prefix back x y (moved y has))).0 (ap (λ (z : Pending). z.parent) equal));
    }

pub logs_in_any_order : (problem : BoxProblem) (rows : List Row) (opens others : List Pending) (best : Option ℤ) → Logs problem rows opens best
    → ((x : Pending) → Contains opens x ↔ Contains others x) → AllPairs (λ x y. ¬ x ≡ y) others → Logs problem rows others best
logs_in_any_order problem rows opens others best logs same apart = record {
  hangs = logs.hangs;
  made = logs.made;
  best_is = logs.best_is;
  placed = λ x has. logs.placed x ((same x).1 has);
  listed = λ parent hangs. (same (pending_at problem.root rows parent)).0 (logs.listed parent hangs);
  distinct = apart;
}

pub logs_with_open : (problem : BoxProblem) (rows : List Row) (opens : List Pending) (best : Option ℤ) → Logs problem rows opens best → Logs problem (with_open rows opens) [] best
logs_with_open problem rows [] best logs = subst (λ (xs : List Row). Logs problem xs [] best) (sym (append-nil rows)) logs
logs_with_open problem rows (x ∷ opens) best logs =
    subst (λ (xs : List Row). Logs problem xs [] best) (append_assoc rows (open_row x ∷ []) (map open_row opens))
    (logs_with_open problem (rows ++ open_row x ∷ []) opens best (logs_after_end problem rows x [] opens best [] Unfinished logs tt tt (λ split. split)))

-- depths
pub depths_at_first : (measure : Box → ℕ) (most : ℕ) (root : Box) → measure root ≤ most → AreShallow measure most [] (root_alone root)
depths_at_first measure most root fits = record {
  rows_are = λ i exists. absurd (omega arith);
  opens_are = λ x has. subst (λ (y : Pending). depth_at [] y.parent + measure y.at ≤ most) (only_one (pending_at root [] None) x has) (omega (arith, fits));
}

row_depths : (measure : Box → ℕ) (most : ℕ) (rows : List Row) (x : Pending) (opens : List Pending) (row : Row) → row.parent ≡ x.parent → Contains opens x → AreShallow measure most rows opens
    → (i : ℕ) → i < length (rows ++ row ∷ []) → depth_of (rows ++ row ∷ []) i ≤ most
row_depths measure most rows x opens row same has shallow =
    each_row (λ i r. depth_of (rows ++ row ∷ []) i ≤ most) rows row
    (λ i exists. omega (arith, depth_stays rows (row ∷ []) i exists, shallow.rows_are i exists))
    (omega (arith, depth_last rows row, ap (depth_at rows) same, shallow.opens_are x has))

other_depth : (problem : BoxProblem) (measure : Box → ℕ) (most : ℕ) (rows : List Row) (opens : List Pending) (best : Option ℤ) (row : Row) (y : Pending)
    → Logs problem rows opens best → AreShallow measure most rows opens → Contains opens y → depth_at (rows ++ row ∷ []) y.parent + measure y.at ≤ most
other_depth problem measure most rows opens best row y logs shallow has =
    omega (arith, depth_at_stays rows (row ∷ []) y.parent (hangs_within rows (length rows) y.parent (logs.placed y has).0), shallow.opens_are y has)

pub depths_after_end : (problem : BoxProblem) (measure : Box → ℕ) (most : ℕ) (rows : List Row) (x : Pending) (prefix back : List Pending) (best : Option ℤ) (steps : List Step) (end : EndLine)
    → Logs problem rows (prefix ++ x ∷ back) best → AreShallow measure most rows (prefix ++ x ∷ back)
    → AreShallow measure most (rows ++ row_of x steps end ∷ []) (prefix ++ back)
depths_after_end problem measure most rows x prefix back best steps end logs shallow = record {
  rows_are = row_depths measure most rows x (prefix ++ x ∷ back) (row_of x steps end) refl (middle_is prefix back x) shallow;
  opens_are = λ y has. other_depth problem measure most rows (prefix ++ x ∷ back) best (row_of x steps end) y logs shallow (others_have prefix back x y has);
}

side_depth : (measure : Box → ℕ) (most : ℕ) (rows : List Row) (x : Pending) (opens : List Pending) (row : Row) (b : Box) (cut : Cut) (side : Side) → row.parent ≡ x.parent → Contains opens x
    → AreShallow measure most rows opens
    → depth_at rows x.parent + 1 + measure (handed b (Split cut) side) ≤ most → depth_at (rows ++ row ∷ []) (some_side (length rows) side) + measure (handed b (Split cut) side) ≤ most
side_depth measure most rows x opens row b cut side same has shallow less =
    omega (arith, depth_last rows row, ap (depth_at rows) same, shallow.opens_are x has, less)

pub depths_after_split : (problem : BoxProblem) (measure : Box → ℕ) (most : ℕ) (rows : List Row) (x : Pending) (prefix back left right : List Pending) (best : Option ℤ) (steps : List Step) (cut : Cut)
    → Logs problem rows (prefix ++ x ∷ back) best → AreShallow measure most rows (prefix ++ x ∷ back)
    → depth_at rows x.parent + 1 + measure (handed (after_steps x.at steps) (Split cut) Le) ≤ most
    → depth_at rows x.parent + 1 + measure (handed (after_steps x.at steps) (Split cut) Ge) ≤ most
    → left ++ right ≡ prefix ++ back
    → AreShallow measure most (rows ++ row_of x steps (Split cut) ∷ [])
    (left ++ half (length rows) (after_steps x.at steps) cut Ge ∷ half (length rows) (after_steps x.at steps) cut Le ∷ right)
depths_after_split problem measure most rows x prefix back left right best steps cut logs shallow low high same =
    let n = length rows in
    let b = after_steps x.at steps in
    let row = row_of x steps (Split cut) in
    let opens = prefix ++ x ∷ back in
    record {
      rows_are = row_depths measure most rows x opens row refl (middle_is prefix back x) shallow;
      opens_are = λ y has. elim (sides_have n b cut left right y has) [
        | inl is ↦ subst (λ (z : Pending). depth_at (rows ++ row ∷ []) z.parent + measure z.at ≤ most) is
            (side_depth measure most rows x opens row b cut Ge refl (middle_is prefix back x) shallow high)
        | inr others ↦ elim others [
          | inl is ↦ subst (λ (z : Pending). depth_at (rows ++ row ∷ []) z.parent + measure z.at ≤ most) is
              (side_depth measure most rows x opens row b cut Le refl (middle_is prefix back x) shallow low)
          | inr other ↦ other_depth problem measure most rows opens best row y logs shallow (others_have prefix back x y (subst (λ (ys : List Pending). Contains ys y) same other))
        ]
      ];
    }

pub depths_in_any_order : (measure : Box → ℕ) (most : ℕ) (rows : List Row) (opens others : List Pending) → AreShallow measure most rows opens
    → ((x : Pending) → Contains others x → Contains opens x) → AreShallow measure most rows others
depths_in_any_order measure most rows opens others shallow same = record {
  rows_are = shallow.rows_are;
  opens_are = λ x has. shallow.opens_are x (same x has);
}

pub depths_with_open : (problem : BoxProblem) (measure : Box → ℕ) (most : ℕ) (rows : List Row) (opens : List Pending) (best : Option ℤ) → Logs problem rows opens best
    → AreShallow measure most rows opens → AreShallow measure most (with_open rows opens) []
depths_with_open problem measure most rows [] best logs shallow = subst (λ (xs : List Row). AreShallow measure most xs []) (sym (append-nil rows)) shallow
depths_with_open problem measure most rows (x ∷ opens) best logs shallow =
    subst (λ (xs : List Row). AreShallow measure most xs []) (append_assoc rows (open_row x ∷ []) (map open_row opens))
    (depths_with_open problem measure most (rows ++ open_row x ∷ []) opens best
    (logs_after_end problem rows x [] opens best [] Unfinished logs tt tt (λ split. split))
    (depths_after_end problem measure most rows x [] opens best [] Unfinished logs shallow))
