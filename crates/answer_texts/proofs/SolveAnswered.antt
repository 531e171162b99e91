-- From an outcome that is true of a program, and its log, to the answer.
use Rattle.std.proofs.Common.{◌≡◌, ◌∙◌, ℕ, ◌≤◌, ◌<◌, ℤ, true, false, List, map, Option, Some, None, IfSome, option_map, string_bytes}
use Rattle.std.proofs.Common.{length, Any, refl, sym, ap, subst, arith}
use Rattle.std.proofs.lemmas.Int.{ints, by_lt_z}
use Rattle.std.proofs.lemmas.List.{take_all}
use Rattle.std.specs.Io.KnownBytes.{Appends}
use Rattle.sopl_io.specs.Transfer.{AppendsPrefix}
use Rattle.sopl_base.specs.Better.{IsBetter}
use Rattle.sopl_base.specs.declared.direction.Direction.{Direction}
use Rattle.sopl_base.specs.declared.direction.Direction.TheVariants.{Minimize, Maximize, Nothing}
use Rattle.sopl_ast.specs.Cells.{cells, IsPoint, policy_at}
use Rattle.sopl_ast.specs.Instances.{Problem}
use Rattle.sopl_ast.specs.Optimal.{direction_of}
use Rattle.box_problem.specs.Box.{Box, InBox, points}
use Rattle.box_problem.specs.BoxProblem.{BoxProblem}
use Rattle.box_problem.specs.Covers.{nodes_for}
use Rattle.box_problem.specs.Reached.{IsReached}
use Rattle.box_problem.specs.Opens.{IsUnsettled}
use Rattle.box_problem.proofs.Bounds.{unsettled_within}
use Rattle.log_rows.specs.declared.rows.Footer.TheVariants as claim
use Rattle.log_rows.specs.Lines.{log_lines, text_of}
use Rattle.log_rows.specs.LogText.{IsLogText}
use Rattle.log_rows.specs.Made.{open_row, with_open}
use Rattle.sopl_search.specs.Logged.{IsPrefixLogged, IsLogged, IsSearchLog, SearchPlan, at_end, footer_of}
use Rattle.sopl_search.specs.Outcomes.{HasCause, IsTrueOf, value_of}
use Rattle.sopl_search.specs.declared.outcome.Found.{Found}
use Rattle.sopl_search.specs.declared.outcome.Outcome.{Outcome}
use Rattle.sopl_search.specs.declared.outcome.Outcome.TheVariants as outcome
use Rattle.term_problem.specs.Search.{problem_over}
use Rattle.term_program.specs.Stated.{box_problem_of}
use Rattle.compile_laws.specs.Root.{root_box}
use Rattle.compile_laws.specs.WellMade.{IsUnfolded, searched}
use Rattle.compile_laws.proofs.Best.{values_are_same}
use Rattle.compile_laws.proofs.Root.{points_of_box}
use Rattle.term_program.specs.declared.program.Program.{Program}
use Rattle.compile_laws.specs.Bounds.{IsWorth}
use Rattle.compile_laws.proofs.Lifted.{bounds_hold, reached_is_worth, unbeaten_is_best, unreached_is_none}
use Rattle.answer_lines.specs.AnswerData.{Valued, line_of}
use Rattle.scen_accept.specs.Stated.{States, model_in, problem_in}
use Rattle.scen_accept.specs.declared.accepted.AcceptedProblem.{AcceptedProblem}
use Rattle.answer_texts.specs.Bounds.{IsBounded}
use Rattle.answer_texts.specs.Solving.{IsProgramOf}
use Rattle.answer_texts.specs.Logs.{IsLogOf, most_nodes, searched_problem, valued_at, TookPrefix, prefix}
use Rattle.answer_texts.specs.Answering.{FindsPoint, IsAnswerOf, IsAnsweredBy, IsBoundedBy, IsSettledBy, Searched, bounded, infeasible, is_settled, optimal, outcome_data}
use Rattle.answer_texts.specs.Telling.{found_value}
use Rattle.answer_texts.specs.declared.command.Detail.{Detail}
use Rattle.answer_texts.specs.declared.solve_answer.Answer.{Answer}
use Rattle.answer_texts.specs.declared.solve_answer.Answer.TheVariants.{Settled, Cut}
use Rattle.answer_texts.proofs.Points.{text_unfolded}

-- Which problem is searched.

-- the program's problem is that of the text's policies
searched_is : (problem : Problem) (program : Program) → IsProgramOf problem program → box_problem_of program ≡ searched_problem problem
unfolding box_problem_of searched_problem
searched_is problem program is = λ i. problem_over (is.root i) (is.terms i)

text_searched : (stated : AcceptedProblem) → searched_problem (problem_in stated) ≡ searched (model_in stated)
unfolding searched_problem
text_searched stated = refl

root_is : (problem : Problem) → (searched_problem problem).root ≡ root_box (cells problem)
unfolding searched_problem
root_is problem = refl

most_is : (problem : Problem) → nodes_for (points (searched_problem problem).root) ≡ most_nodes problem
unfolding searched_problem most_nodes
most_is problem = refl

direction_is : (problem : Problem) → (searched_problem problem).direction ≡ direction_of problem
unfolding searched_problem
direction_is problem = (values_are_same problem).direction

-- What an outcome found is a point.

is_point : (problem : Problem) (value : ℤ) (point : List ℤ) → IsReached (searched_problem problem) value point → IsPoint (cells problem) point
is_point problem value point reached =
    (points_of_box (cells problem) point).0 (subst (λ (b : Box). InBox b point) (root_is problem) reached.inside)

found_points : (problem : Problem) (found : Option Found) → IfSome found (λ (f : Found). IsReached (searched_problem problem) f.value f.cells)
    → IfSome found (λ (f : Found). IsPoint (cells problem) f.cells)
found_points problem None good = tt
found_points problem (Some f) good = is_point problem f.value f.cells good

finds_point : (problem : Problem) (o : Outcome) → IsTrueOf (searched_problem problem) o → FindsPoint problem o
finds_point problem (outcome.Optimal value point) true_of = is_point problem value point true_of.0
finds_point problem outcome.Infeasible true_of = tt
finds_point problem (outcome.Bounded found bound) true_of = found_points problem found true_of.0

pub program_finds_point : (problem : Problem) (program : Program) (o : Outcome) → IsProgramOf problem program → IsTrueOf (box_problem_of program) o → FindsPoint problem o
program_finds_point problem program o is true_of =
    finds_point problem o (subst (λ (p : BoxProblem). IsTrueOf p o) (searched_is problem program is) true_of)

-- What is told of a bound.

-- what is not worse than what is better than a value is better than that value
better_than : (direction : Direction) (end bound value : ℤ) → IsBetter direction end value → ¬ IsBetter direction end bound → IsBetter direction bound value
better_than Minimize end bound value better none = by_lt_z end bound (λ worse. absurd (none worse)) (λ good. omega (arith, ints))
better_than Maximize end bound value better none = by_lt_z bound end (λ worse. absurd (none worse)) (λ good. omega (arith, ints))
better_than Nothing end bound value better none = better

found_hopeful : (problem : Problem) (found : Option Found) (budget : ℕ) (bound : ℤ) → IsUnsettled (searched_problem problem) (value_of found) budget bound
    → IfSome (option_map (valued_at problem) found) (λ (f : Valued). IsBetter (direction_of problem) bound f.value)
found_hopeful problem None budget bound is = tt
found_hopeful problem (Some f) budget bound is =
    let p : BoxProblem = searched_problem problem in
    let some : Any (λ (b : Box). IsBetter p.direction (p.end b) f.value) is.opens = is.hopeful in
    let none : ¬ IsBetter p.direction (p.end some.1) bound =
    subst (λ (b : Box). ¬ IsBetter p.direction (p.end b) bound) some.3 (is.is_bound.ends some.0 some.1 some.2) in
    subst (λ (d : Direction). IsBetter d bound f.value) (direction_is problem) (better_than p.direction (p.end some.1) bound f.value some.4 none)

within_most : (problem : Problem) (v : Option ℤ) (budget : ℕ) (bound : ℤ) → IsUnsettled (searched_problem problem) v budget bound → budget < most_nodes problem
within_most problem v budget bound is = subst (λ n. budget < n) (most_is problem) (unsettled_within (searched_problem problem) v budget bound is)

same_claim : (problem : Problem) (found : Option Found) (bound : ℤ)
    → claim.Bounded (value_of found) bound ≡ claim.Bounded (found_value (option_map (valued_at problem) found)) bound
same_claim problem None bound = refl
same_claim problem (Some f) bound = refl

-- The log.

-- the whole log of a search is a prefix of one
whole_prefix : (problem : BoxProblem) (plan : SearchPlan) (o : Outcome) (old new : Option (List ℕ)) → IsLogged problem plan o old new → IsPrefixLogged problem plan old new
whole_prefix problem plan o old new log =
    let tree = log.is_log.tree in
    let text : List ℕ = text_of (log_lines (with_open tree.state.rows tree.opens) (footer_of o)) in
    let is : log.bytes ≡ text = log.is_log.text ∙ ap (λ rows. text_of (log_lines rows (footer_of o))) tree.rows_are in
    let took : AppendsPrefix old new text =
    subst (λ b. AppendsPrefix old new b) is (length log.bytes, subst (λ b. Appends old new b) (sym (take_all (length log.bytes) log.bytes (omega arith))) log.took) in
    record {
      state = tree.state;
      more = map open_row tree.opens;
      footer = footer_of o;
      planned = tree.planned;
      is_text = subst (IsLogText (with_open tree.state.rows tree.opens) (footer_of o)) is (subst (λ rows. IsLogText rows (footer_of o) log.bytes) tree.rows_are log.is_log.is_text);
      took = took;
      cut_short = at_end o tree.opens tree.end took;
    }

-- The answer.

module _ (detail : Detail) (text : List ℕ) (stated : AcceptedProblem) (states : States text stated) where
  abbrev own : Problem
  own = problem_in stated

  unfolded : IsUnfolded (model_in stated)
  unfolded = text_unfolded text stated states

  moved : (o : Outcome) → IsTrueOf (searched_problem own) o → IsTrueOf (searched (model_in stated)) o
  moved o true_of = subst (λ (p : BoxProblem). IsTrueOf p o) (text_searched stated) true_of

  found_worth : (found : Option Found) → IfSome found (λ (f : Found). IsReached (searched (model_in stated)) f.value f.cells)
      → IfSome (option_map (valued_at own) found) (λ (f : Valued). IsWorth own f.policy f.value)
  found_worth None good = tt
  found_worth (Some f) good = reached_is_worth (model_in stated) f.value f.cells unfolded good

  bound_is : (found : Option Found) (budget : ℕ) (bound : ℤ) → IsTrueOf (searched_problem own) (outcome.Bounded found bound)
      → IsUnsettled (searched_problem own) (value_of found) budget bound → IsBounded own (option_map (valued_at own) found) bound
  bound_is found budget bound true_of cause =
      let all = moved (outcome.Bounded found bound) true_of in
      record {
        found_is = found_worth found all.0;
        bound_is = bounds_hold (model_in stated) bound unfolded all.1;
        hopeful = found_hopeful own found budget bound cause;
      }

  settled : (plan : SearchPlan) (o : Outcome) (log line : List ℕ) → IsTrueOf (searched_problem own) o → IsSearchLog (searched_problem own) plan o log
      → is_settled o ≡ true → line ≡ line_of (outcome_data detail own o) → IsSettledBy detail own plan log line
  settled plan (outcome.Optimal value point) log line true_of is_log is_one is =
      let all = moved (outcome.Optimal value point) true_of in
      subst (IsSettledBy detail own plan log) (sym is)
      (optimal (policy_at (cells own) point) value (unbeaten_is_best (model_in stated) value point unfolded all.0 all.1)
      (record { outcome = outcome.Optimal value point; claimed = refl; found_is = refl; is_log = is_log }))
  settled plan outcome.Infeasible log line true_of is_log is_one is =
      subst (IsSettledBy detail own plan log) (sym is)
      (infeasible (unreached_is_none (model_in stated) unfolded (moved outcome.Infeasible true_of))
      (record { outcome = outcome.Infeasible; claimed = refl; found_is = refl; is_log = is_log }))
  settled plan (outcome.Bounded found bound) log line true_of is_log is_one is = cc

  cut : (plan : SearchPlan) (o : Outcome) (log line : List ℕ) → IsTrueOf (searched_problem own) o → HasCause (searched_problem own) plan.budget o
      → IsSearchLog (searched_problem own) plan o log → is_settled o ≡ false → line ≡ line_of (outcome_data detail own o) → IsBoundedBy detail own plan log line
  cut plan (outcome.Optimal value point) log line true_of cause is_log is_none is = cc
  cut plan outcome.Infeasible log line true_of cause is_log is_none is = cc
  cut plan (outcome.Bounded found bound) log line true_of cause is_log is_none is =
      subst (IsBoundedBy detail own plan log) (sym is)
      (bounded (option_map (valued_at own) found) bound (bound_is found plan.budget bound true_of cause) (within_most own (value_of found) plan.budget bound cause)
      (record { outcome = outcome.Bounded found bound; claimed = same_claim own found bound; found_is = refl; is_log = is_log }))

  answered : (plan : SearchPlan) (o : Outcome) (log : List ℕ) (answer : Answer) → IsTrueOf (searched_problem own) o → HasCause (searched_problem own) plan.budget o
      → IsSearchLog (searched_problem own) plan o log → IsAnswerOf detail own o answer → IsAnsweredBy detail own plan log answer
  answered plan o log (Settled line) true_of cause is_log is = settled plan o log (string_bytes line) true_of is_log is.0 is.1
  answered plan o log (Cut line) true_of cause is_log is = cut plan o log (string_bytes line) true_of cause is_log is.0 is.1

  module _ (program : Program) (is : IsProgramOf own program) (plan : SearchPlan) (old new : Option (List ℕ)) where
    -- the answer of an outcome that is true, and whose log was taken
    pub answer_made : (o : Outcome) (answer : Answer) → IsTrueOf (box_problem_of program) o → HasCause (box_problem_of program) plan.budget o
        → IsLogged (box_problem_of program) plan o old new → IsAnswerOf detail own o answer → Searched detail own plan old new answer
    answer_made o answer true_of cause logged made =
        let at = searched_is own program is in
        let log : IsLogged (searched_problem own) plan o old new = subst (λ (p : BoxProblem). IsLogged p plan o old new) at logged in
        record {
          log = log.bytes;
          answered = answered plan o log.bytes answer (subst (λ (p : BoxProblem). IsTrueOf p o) at true_of)
              (subst (λ (p : BoxProblem). HasCause p plan.budget o) at cause) log.is_log made;
          took = log.took;
        }

    -- where memory runs out behind the search, the whole log was taken
    pub log_taken : (o : Outcome) → IsLogged (box_problem_of program) plan o old new → TookPrefix own plan old new
    log_taken o logged =
        let log : IsLogged (searched_problem own) plan o old new = subst (λ (p : BoxProblem). IsLogged p plan o old new) (searched_is own program is) logged in
        prefix (whole_prefix (searched_problem own) plan o old new log)

    -- a search that stopped
    pub search_stopped : IsPrefixLogged (box_problem_of program) plan old new → TookPrefix own plan old new
    search_stopped logged = prefix (subst (λ (p : BoxProblem). IsPrefixLogged p plan old new) (searched_is own program is) logged)
