-- What the rows before others say stays, and where a row begins and ends.
use Rattle.std.proofs.Common.{◌≡◌, ℕ, ◌+◌, ◌<◌, ◌≤◌, List, [], ◌∷◌, ◌++◌, length, take, drop, Option, Some, None, arith, refl, sym, ap, subst, ◌∙◌}
use Rattle.std.proofs.lemmas.List.{get_or_append_left, length-take-le, take-append-drop}
use Rattle.std.proofs.Math.Seq.{get_or-append_seam}
use Rattle.log_rows.specs.declared.rows.Row.{Row}
use Rattle.log_rows.specs.declared.rows.Parent.{Parent}
use Rattle.box_problem.specs.Box.{Box}
use Rattle.box_problem.specs.Steps.{after_steps}
use Rattle.log_rows.specs.Rows.{no_row, row_at, handed, last_box, finals, final_of, box_at, start_of, depth_below, depths, depth_of, depth_at, IsSplit, Hangs}
use Rattle.log_rows.proofs.Tables.{table_stays, table_last, table_at}

-- a parent among the first n rows
abbrev pub IsWithin : ℕ → Option Parent → Type 0
IsWithin n None = Unit {0}
IsWithin n (Some parent) = parent.node < n

pub hangs_within : (rows : List Row) (i : ℕ) (parent : Option Parent) → Hangs rows i parent → IsWithin i parent
hangs_within rows i None hangs = tt
hangs_within rows i (Some parent) hangs = hangs.earlier

pub row_stays : (xs ys : List Row) (k : ℕ) → k < length xs → row_at (xs ++ ys) k ≡ row_at xs k
row_stays xs ys k exists = get_or_append_left xs ys no_row k exists

pub row_last : (xs : List Row) (x : Row) (ys : List Row) → row_at (xs ++ x ∷ ys) (length xs) ≡ x
row_last xs x ys = get_or-append_seam xs x ys no_row

-- boxes
pub final_stays : (root : Box) (xs ys : List Row) (k : ℕ) → k < length xs → final_of root (xs ++ ys) k ≡ final_of root xs k
unfolding finals
final_stays root xs ys k exists = table_stays (last_box root) xs ys k root exists

pub box_stays : (root : Box) (xs ys : List Row) (parent : Option Parent) → IsWithin (length xs) parent → box_at root (xs ++ ys) parent ≡ box_at root xs parent
box_stays root xs ys None within = refl
box_stays root xs ys (Some parent) within =
    ap (λ (row : Row). handed (final_of root (xs ++ ys) parent.node) row.end parent.side) (row_stays xs ys parent.node within)
    ∙ ap (λ (b : Box). handed b (row_at xs parent.node).end parent.side) (final_stays root xs ys parent.node within)

pub final_last : (root : Box) (xs : List Row) (x : Row) → final_of root (xs ++ x ∷ []) (length xs) ≡ after_steps (box_at root xs x.parent) x.steps
unfolding finals
final_last root xs x = table_last (last_box root) xs x root

-- the first rows
pub prefix_length : (rows : List Row) (i : ℕ) → i < length rows → length (take i rows) ≡ i
prefix_length rows i exists = length-take-le i rows (omega arith)

box_of_prefix : (root : Box) (rows : List Row) (i : ℕ) (parent : Option Parent) → i < length rows → IsWithin (length (take i rows)) parent → box_at root (take i rows) parent ≡ box_at root rows parent
box_of_prefix root rows i parent exists within =
    sym (box_stays root (take i rows) (drop i rows) parent within)
    ∙ ap (λ (xs : List Row). box_at root xs parent) (take-append-drop i rows)

final_from_prefix : (root : Box) (rows : List Row) (i : ℕ) → i < length rows → final_of root rows i ≡ after_steps (box_at root (take i rows) (row_at rows i).parent) (row_at rows i).steps
unfolding finals
final_from_prefix root rows i exists = table_at (last_box root) rows i root exists

-- a row that hangs ends with the box that its steps leave of the one with which it begins
pub final_is : (root : Box) (rows : List Row) (i : ℕ) → i < length rows → Hangs rows i (row_at rows i).parent → final_of root rows i ≡ after_steps (start_of root rows i) (row_at rows i).steps
final_is root rows i exists hangs =
    let parent = (row_at rows i).parent in
    let within : IsWithin (length (take i rows)) parent = subst (λ (n : ℕ). IsWithin n parent) (sym (prefix_length rows i exists)) (hangs_within rows i parent hangs) in
    final_from_prefix root rows i exists
    ∙ ap (λ (b : Box). after_steps b (row_at rows i).steps) (box_of_prefix root rows i parent exists within)

-- depths
pub depth_stays : (xs ys : List Row) (k : ℕ) → k < length xs → depth_of (xs ++ ys) k ≡ depth_of xs k
unfolding depths
depth_stays xs ys k exists = table_stays (λ (before : List Row) (done : List ℕ) (row : Row). depth_below done row.parent) xs ys k 0 exists

pub depth_at_stays : (xs ys : List Row) (parent : Option Parent) → IsWithin (length xs) parent → depth_at (xs ++ ys) parent ≡ depth_at xs parent
depth_at_stays xs ys None within = refl
depth_at_stays xs ys (Some parent) within = ap (λ (n : ℕ). n + 1) (depth_stays xs ys parent.node within)

pub depth_last : (xs : List Row) (x : Row) → depth_of (xs ++ x ∷ []) (length xs) ≡ depth_at xs x.parent
unfolding depths
depth_last xs x = table_last (λ (before : List Row) (done : List ℕ) (row : Row). depth_below done row.parent) xs x 0

-- what hangs behind the first i rows hangs there whatever follows, and the reverse
pub hangs_stays : (xs ys : List Row) (i : ℕ) (parent : Option Parent) → i ≤ length xs → Hangs xs i parent → Hangs (xs ++ ys) i parent
hangs_stays xs ys i None fits hangs = hangs
hangs_stays xs ys i (Some parent) fits hangs = record {
  earlier = hangs.earlier;
  split = subst (λ (row : Row). IsSplit row.end) (sym (row_stays xs ys parent.node (omega (arith, hangs.earlier)))) hangs.split;
  untaken = λ k before same. hangs.untaken k before (sym (ap (λ (row : Row). row.parent) (row_stays xs ys k (omega arith))) ∙ same);
}

pub hangs_prefix : (xs ys : List Row) (i : ℕ) (parent : Option Parent) → i ≤ length xs → Hangs (xs ++ ys) i parent → Hangs xs i parent
hangs_prefix xs ys i None fits hangs = hangs
hangs_prefix xs ys i (Some parent) fits hangs = record {
  earlier = hangs.earlier;
  split = subst (λ (row : Row). IsSplit row.end) (row_stays xs ys parent.node (omega (arith, hangs.earlier))) hangs.split;
  untaken = λ k before same. hangs.untaken k before (ap (λ (row : Row). row.parent) (row_stays xs ys k (omega arith)) ∙ same);
}
