-- The log of a search is read as its rows, and is accepted.
use Rattle.std.proofs.Common.{◌≡◌, ◌∙◌, ℕ, suc, ◌+◌, ◌<◌, ◌≤◌, ◌^◌, ℤ, List, length, map, get_or, Option, None, Some, AllPairs, Contains, arith, refl, sym, ap, subst}
use Rattle.std.proofs.lemmas.Bool.Decides.{Decides-eqb}
use Rattle.std.proofs.lemmas.List.{get_or-map, length-append, length-map}
use Rattle.std.proofs.lemmas.List.Elements.{Contains-get_or}
use Rattle.std.proofs.lemmas.Map.Made.{IsDistinct-from_AllPairs}
use Rattle.std.proofs.lemmas.Map.Steps.{length-le_from_distinct_below}
use Rattle.std.proofs.lemmas.Map.Views.{Contains-from_any}
use Rattle.sopl_base.specs.declared.reason.Side.{Side}
use Rattle.sopl_base.specs.declared.reason.Side.TheVariants.{Le, Ge}
use Rattle.sopl_ast.specs.Instances.{Problem}
use Rattle.box_problem.specs.Box.{Box}
use Rattle.box_problem.specs.BoxProblem.{BoxProblem}
use Rattle.log_rows.specs.declared.rows.Footer.{Footer}
use Rattle.log_rows.specs.declared.rows.Parent.{Parent}
use Rattle.log_rows.specs.declared.rows.Row.{Row}
use Rattle.log_rows.specs.Accepted.{Accepted}
use Rattle.log_rows.specs.LogText.{IsLogText}
use Rattle.log_rows.specs.Made.{Logs, Pending, open_row, pending_at, with_open}
use Rattle.log_rows.specs.Rows.{Hangs}
use Rattle.log_tree.specs.Reads.{IsReading, read}
use Rattle.log_tree.specs.ReadingLaws.{ReadingsAreUnique, TextsAreRead}
use Rattle.sopl_search.specs.Logged.{IsTree, SearchPlan, footer_of}
use Rattle.sopl_search.specs.declared.outcome.Outcome.{Outcome}
use Rattle.answer_lines.specs.AnswerData.{Valued}
use Rattle.answer_texts.specs.Logs.{IsLogOf, searched_problem}
use Rattle.answer_texts.specs.Solved.{SolvedText}
use Rattle.answer_check.specs.CheckLaws.{IsAnsweredAccepted, WrittenLogsAreAccepted}
use Rattle.answer_check.proofs.Ending.{accepted_logs_are_answered}

-- A number for each place below n nodes at which an open node may hang: the low sides, the high sides, the root.

abbrev side_number : ℕ → Side → ℕ → ℕ
side_number n Le node = node
side_number n Ge node = n + node

abbrev place_number : ℕ → Option Parent → ℕ
place_number n None = n + n
place_number n (Some parent) = side_number n parent.side parent.node

side_below : (n node : ℕ) (side : Side) → node < n → side_number n side node < n + n
side_below n node Le below = omega (arith, below)
side_below n node Ge below = omega (arith, below)

place_below : (rows : List Row) (n : ℕ) (parent : Option Parent) → Hangs rows n parent → place_number n parent < suc (n + n)
place_below rows n None hangs = omega arith
place_below rows n (Some parent) hangs = omega (arith, side_below n parent.node parent.side hangs.earlier)

-- two places with one number are one
abbrev hung : ℕ → Side → Option Parent
hung node side = Some (record { node = node; side = side })

one_side : (n a b : ℕ) (s t : Side) → a < n → b < n → side_number n s a ≡ side_number n t b → hung a s ≡ hung b t
one_side n a b Le Le below under same = ap (λ k. hung k Le) same
one_side n a b Le Ge below under same = absurd (omega (arith, below, same))
one_side n a b Ge Le below under same = absurd (omega (arith, under, same))
one_side n a b Ge Ge below under same =
    let one : a ≡ b = omega (arith, same) in
    ap (λ k. hung k Ge) one

no_root : (n node : ℕ) (side : Side) → node < n → n + n ≡ side_number n side node → ⊥
no_root n node side below same = omega (arith, side_below n node side below, same)

one_place : (rows : List Row) (n : ℕ) (p q : Option Parent) → Hangs rows n p → Hangs rows n q → place_number n p ≡ place_number n q → p ≡ q
one_place rows n None None hangs hung_too same = refl
one_place rows n None (Some q) hangs hung_too same = absurd (no_root n q.node q.side hung_too.earlier same)
one_place rows n (Some p) None hangs hung_too same = absurd (no_root n p.node p.side hangs.earlier (sym same))
one_place rows n (Some p) (Some q) hangs hung_too same = one_side n p.node q.node p.side q.side hangs.earlier hung_too.earlier same

-- So there are few open nodes.

module _ (problem : BoxProblem) (rows : List Row) (opens : List Pending) (best : Option ℤ) (logs : Logs problem rows opens best) where
  abbrev number_of : Pending → ℕ
  number_of x = place_number (length rows) x.parent

  abbrev none : Pending
  none = pending_at problem.root rows None

  open_hangs : (i : ℕ) → i < length opens → Hangs rows (length rows) (get_or opens i none).parent
  open_hangs i exists = (logs.placed (get_or opens i none) (Contains-get_or opens i none exists)).0

  open_is : (i : ℕ) → i < length opens → get_or opens i none ≡ pending_at problem.root rows (get_or opens i none).parent
  open_is i exists = (logs.placed (get_or opens i none) (Contains-get_or opens i none exists)).1

  numbers_below : (q : ℕ) → Contains (map number_of opens) q → q < suc (length rows + length rows)
  numbers_below q (i, exists, is) =
      let there : i < length opens = subst (λ k. i < k) (length-map opens number_of) exists in
      subst (λ k. k < suc (length rows + length rows)) (sym (get_or-map number_of opens i none q there) ∙ is)
      (place_below rows (length rows) (get_or opens i none).parent (open_hangs i there))

  numbers_differ : AllPairs (λ (a b : ℕ). ¬ a ≡ b) (map number_of opens)
  numbers_differ = λ i j d before exists same.
      let there : j < length opens = subst (λ k. j < k) (length-map opens number_of) exists in
      let here : i < length opens = omega (arith, before, there) in
      let one : (get_or opens i none).parent ≡ (get_or opens j none).parent =
      one_place rows (length rows) (get_or opens i none).parent (get_or opens j none).parent (open_hangs i here) (open_hangs j there)
      (sym (get_or-map number_of opens i none d here) ∙ same ∙ get_or-map number_of opens j none d there) in
      logs.distinct i j none before there (open_is i here ∙ ap (pending_at problem.root rows) one ∙ sym (open_is j there))

  few_open : length opens ≤ suc (length rows + length rows)
  few_open =
      subst (λ k. k ≤ suc (length rows + length rows)) (length-map opens number_of)
      (length-le_from_distinct_below (map number_of opens) (suc (length rows + length rows)) (IsDistinct-from_AllPairs Decides-eqb (map number_of opens) numbers_differ)
      (λ q found. numbers_below q (Contains-from_any (λ x y same. (Decides-eqb x y).0 same) q (map number_of opens) found)))

  few_rows : (budget : ℕ) → length rows ≤ budget → budget < 2 ^ 32 → length (with_open rows opens) ≤ 2 ^ 64
  few_rows budget within small =
      subst (λ k. k ≤ 2 ^ 64) (sym (length-append rows (map open_row opens) ∙ ap (λ k. length rows + k) (length-map opens open_row)))
      (omega (arith, few_open, within, small))

module _ (readings_are_unique : ReadingsAreUnique) (texts_are_read : TextsAreRead) where
  log_read : (problem : BoxProblem) (plan : SearchPlan) (outcome : Outcome) (rows : List Row) (log : List ℕ) → IsTree problem plan outcome rows
      → IsLogText rows (footer_of outcome) log → plan.budget < 2 ^ 32 → IsReading log (read rows (footer_of outcome))
  log_read problem plan outcome rows log tree is_text small =
      texts_are_read rows (footer_of outcome) log is_text (λ i exists. omega (arith, tree.shallow i exists))
      (subst (λ all. length all ≤ 2 ^ 64) (sym tree.rows_are) (few_rows problem tree.state.rows tree.opens tree.state.best tree.logs plan.budget tree.planned.within small))

  pub written_logs_are_accepted : WrittenLogsAreAccepted
  written_logs_are_accepted text log problem plan claim found solved small is =
      subst (IsAnsweredAccepted text log problem) is.claimed
      (accepted_logs_are_answered readings_are_unique text log problem is.is_log.rows (footer_of is.outcome) solved
      (log_read (searched_problem problem) plan is.outcome is.is_log.rows log is.is_log.tree is.is_log.is_text small)
      is.is_log.tree.accepted)
