-- Steps of a crew, state by state.
use Rattle.std.proofs.Common.{◌≡◌, inl, inr, ℕ, zero, suc, ◌+◌, ◌<◌, ◌≤◌, ℤ, List, [], ◌∷◌, ◌++◌, length, set, Option, None, arith, refl, sym, ap, subst, ◌∙◌, append_assoc}
use Rattle.sopl_base.specs.declared.reason.Side.TheVariants.{Le, Ge}
use Rattle.sopl_base.specs.declared.reason.Step.{Step}
use Rattle.box_problem.specs.BoxProblem.{BoxProblem}
use Rattle.box_problem.specs.Steps.{after_steps}
use Rattle.log_rows.specs.declared.rows.Cut.{Cut}
use Rattle.log_rows.specs.declared.rows.EndLine.{EndLine}
use Rattle.log_rows.specs.declared.rows.EndLine.TheVariants.{Refuted, Split, Point, Unfinished}
use Rattle.log_rows.specs.declared.rows.Row.{Row}
use Rattle.log_rows.specs.LogLaws.{half, row_of}
use Rattle.log_rows.specs.Made.{IsFinished, Logs, Made, Pending, best_after}
use Rattle.log_rows.specs.Rows.{IsSplit}
use Rattle.log_rows.proofs.Logging.{logs_after_end, logs_after_split, logs_at_first}
use Rattle.open_nodes.specs.Takes.{Gives, Takes, all_nodes, seat_nodes}
use Rattle.sopl_search.specs.Crews.{CrewState, GivesSides, IsCrewRun, IsCrewStep, begun, one_more}
use Rattle.sopl_search.proofs.Begun.{joined_once}
use Rattle.sopl_search.proofs.Swapping.{logs_turned}

-- what the seats before one have, and those behind it
abbrev ahead : {A : Type 0} → List (List A) → ℕ → List A
ahead [] at = []
ahead (xs ∷ lists) zero = []
ahead (xs ∷ lists) (suc at) = xs ++ ahead lists at

abbrev behind : {A : Type 0} → List (List A) → ℕ → List A
behind [] at = []
behind (xs ∷ lists) zero = all_nodes lists
behind (xs ∷ lists) (suc at) = behind lists at

split_at : {A : Type 0} (lists : List (List A)) (at : ℕ) → at < length lists → all_nodes lists ≡ ahead lists at ++ (seat_nodes lists at ++ behind lists at)
split_at [] at exists = absurd (omega (arith, exists))
split_at (xs ∷ lists) zero exists = refl
split_at {A} (xs ∷ lists) (suc at) exists =
    ap (λ (ys : List A). xs ++ ys) (split_at lists at (omega (arith, exists))) ∙ sym (append_assoc xs (ahead lists at) (seat_nodes lists at ++ behind lists at))

split_set : {A : Type 0} (lists : List (List A)) (at : ℕ) (ys : List A) → at < length lists → all_nodes (set lists at ys) ≡ ahead lists at ++ (ys ++ behind lists at)
split_set [] at ys exists = absurd (omega (arith, exists))
split_set (xs ∷ lists) zero ys exists = refl
split_set {A} (xs ∷ lists) (suc at) ys exists =
    ap (λ (zs : List A). xs ++ zs) (split_set lists at ys (omega (arith, exists))) ∙ sym (append_assoc xs (ahead lists at) (ys ++ behind lists at))

-- of all of them one is gone
pub record IsGone {A : Type 0} (old new : List A) (x : A) : Type 0 where
  pub front : List A
  pub back : List A
  pub before : old ≡ front ++ x ∷ back
  pub after : new ≡ front ++ back

pub gone : {A : Type 0} (old new : List (List A)) (seat : ℕ) (x : A) → Takes old new seat x → IsGone (all_nodes old) (all_nodes new) x
gone {A} old new seat x takes = elim takes [
  | inl own ↦ record {
    front = ahead old seat ++ own.others;
    back = behind old seat;
    before = split_at old seat own.exists
        ∙ (ap (λ (ys : List A). ahead old seat ++ (ys ++ behind old seat)) own.before
        ∙ (ap (λ (ys : List A). ahead old seat ++ ys) (append_assoc own.others (x ∷ []) (behind old seat))
        ∙ sym (append_assoc (ahead old seat) own.others (x ∷ behind old seat))));
    after = ap all_nodes own.after ∙ (split_set old seat own.others own.exists ∙ sym (append_assoc (ahead old seat) own.others (behind old seat)));
  }
  | inr stolen ↦ record {
    front = ahead old stolen.1.from;
    back = stolen.1.others ++ behind old stolen.1.from;
    before = split_at old stolen.1.from stolen.1.exists ∙ ap (λ (ys : List A). ahead old stolen.1.from ++ (ys ++ behind old stolen.1.from)) stolen.1.before;
    after = ap all_nodes stolen.1.after ∙ split_set old stolen.1.from stolen.1.others stolen.1.exists;
  }
]

-- two have come in side by side
pub record HaveCome {A : Type 0} (old new : List A) (x y : A) : Type 0 where
  pub left : List A
  pub right : List A
  pub before : left ++ right ≡ old
  pub after : new ≡ left ++ x ∷ y ∷ right

pub come : {A : Type 0} (old new : List (List A)) (seat : ℕ) (x y : A) → Gives old new seat x y → HaveCome (all_nodes old) (all_nodes new) x y
come {A} old new seat x y gives = record {
  left = ahead old seat ++ seat_nodes old seat;
  right = behind old seat;
  before = append_assoc (ahead old seat) (seat_nodes old seat) (behind old seat) ∙ sym (split_at old seat gives.exists);
  after = ap all_nodes gives.after
      ∙ (split_set old seat (seat_nodes old seat ++ x ∷ y ∷ []) gives.exists
      ∙ (ap (λ (ys : List A). ahead old seat ++ ys) (append_assoc (seat_nodes old seat) (x ∷ y ∷ []) (behind old seat))
      ∙ sym (append_assoc (ahead old seat) (seat_nodes old seat) (x ∷ y ∷ behind old seat))));
}

-- one step, whatever the end
logs_split : (problem : BoxProblem) (seat : ℕ) (old : CrewState) (others new : List (List Pending)) (node : Pending) (steps : List Step) (cut : Cut) (front back : List Pending)
    → Logs problem old.rows (front ++ node ∷ back) old.best → all_nodes others ≡ front ++ back → Made problem old.best node.at (row_of node steps (Split cut)) (after_steps node.at steps)
    → GivesSides (length old.rows) (after_steps node.at steps) (Split cut) others new seat
    → Logs problem (old.rows ++ row_of node steps (Split cut) ∷ []) (all_nodes new) old.best
logs_split problem seat old others new node steps cut front back logs rest made gives =
    let low = half (length old.rows) (after_steps node.at steps) cut Le in
    let high = half (length old.rows) (after_steps node.at steps) cut Ge in
    let rows = old.rows ++ row_of node steps (Split cut) ∷ [] in
    elim gives [
      | inl low_last ↦
          let in_place = come others new seat high low low_last in
          subst (λ (nodes : List Pending). Logs problem rows nodes old.best) (sym in_place.after)
          (logs_after_split problem old.rows node front back in_place.left in_place.right old.best steps cut logs made.steps made.end (in_place.before ∙ rest))
      | inr high_last ↦
          let in_place = come others new seat low high high_last in
          subst (λ (nodes : List Pending). Logs problem rows nodes old.best) (sym in_place.after)
          (logs_turned problem rows old.best in_place.left in_place.right high low
          (logs_after_split problem old.rows node front back in_place.left in_place.right old.best steps cut logs made.steps made.end (in_place.before ∙ rest)))
    ]

logs_ended : (problem : BoxProblem) (old : CrewState) (others new : List (List Pending)) (node : Pending) (steps : List Step) (end : EndLine) (front back : List Pending)
    → Logs problem old.rows (front ++ node ∷ back) old.best → all_nodes others ≡ front ++ back → Made problem old.best node.at (row_of node steps end) (after_steps node.at steps)
    → new ≡ others → ¬ IsSplit end
    → Logs problem (old.rows ++ row_of node steps end ∷ []) (all_nodes new) (best_after problem old.best end (after_steps node.at steps))
logs_ended problem old others new node steps end front back logs rest made same ends =
    subst (λ (nodes : List Pending). Logs problem (old.rows ++ row_of node steps end ∷ []) nodes (best_after problem old.best end (after_steps node.at steps))) (sym (ap all_nodes same ∙ rest))
    (logs_after_end problem old.rows node front back old.best steps end logs made.steps made.end ends)

logs_by : (problem : BoxProblem) (seat : ℕ) (old : CrewState) (others new : List (List Pending)) (node : Pending) (steps : List Step) (end : EndLine) (front back : List Pending)
    → Logs problem old.rows (front ++ node ∷ back) old.best → all_nodes others ≡ front ++ back → Made problem old.best node.at (row_of node steps end) (after_steps node.at steps)
    → IsFinished end → GivesSides (length old.rows) (after_steps node.at steps) end others new seat
    → Logs problem (old.rows ++ row_of node steps end ∷ []) (all_nodes new) (best_after problem old.best end (after_steps node.at steps))
logs_by problem seat old others new node steps (Refuted reason) front back logs rest made finished gives =
    logs_ended problem old others new node steps (Refuted reason) front back logs rest made gives (λ split. split)
logs_by problem seat old others new node steps (Split cut) front back logs rest made finished gives =
    logs_split problem seat old others new node steps cut front back logs rest made gives
logs_by problem seat old others new node steps Point front back logs rest made finished gives =
    logs_ended problem old others new node steps Point front back logs rest made gives (λ split. split)
logs_by problem seat old others new node steps Unfinished front back logs rest made finished gives = absurd finished

logs_step : (problem : BoxProblem) (seat : ℕ) (old new : CrewState) → IsCrewStep problem seat old new → Logs problem old.rows (all_nodes old.seats) old.best
    → Logs problem new.rows (all_nodes new.seats) new.best
logs_step problem seat old new step logs =
    let out = gone old.seats step.others seat step.node step.takes in
    subst (λ (rows : List Row). Logs problem rows (all_nodes new.seats) new.best) (sym step.rows)
    (subst (λ (best : Option ℤ). Logs problem (old.rows ++ row_of step.node step.steps step.end ∷ []) (all_nodes new.seats) best) (sym step.best)
    (logs_by problem seat old step.others new.seats step.node step.steps step.end out.front out.back
    (subst (λ (nodes : List Pending). Logs problem old.rows nodes old.best) out.before logs) out.after step.made step.finished step.gives))

pub runs_are_logs : (problem : BoxProblem) (seats : ℕ) (named : List ℕ) (state : CrewState) → 1 ≤ seats → IsCrewRun problem seats named state
    → Logs problem state.rows (all_nodes state.seats) state.best
runs_are_logs problem seats _ _ some begun = subst (λ (nodes : List Pending). Logs problem [] nodes None) (sym (joined_once problem seats some)) (logs_at_first problem)
runs_are_logs problem seats _ _ some (one_more named seat before now run step) = logs_step problem seat before now step (runs_are_logs problem seats named before some run)
