-- An evaluation ends in one way, and a policy that satisfies is told so.
use Rattle.std.proofs.Common.{◌≡◌, ◌∙◌, ◌⊎◌, inl, inr, ℕ, ℤ, pos, List, [], Option, Some, None, codes, map, refl, sym, ap, subst}
use Rattle.serde_json.specs.Data.{Data}
use Rattle.serde_json.specs.Find.{get}
use Rattle.sopl_base.specs.declared.fault.Excess.{Excess}
use Rattle.sopl_base.specs.declared.fault.Refusal.{Refusal}
use Rattle.sopl_ast.specs.Cells.{IsPoint, cells, policy_at}
use Rattle.sopl_ast.specs.Instances.{Problem}
use Rattle.sopl_ast.specs.Optimal.{denominator, weight_of}
use Rattle.sopl_ast.specs.Policies.{Policy}
use Rattle.sopl_ast.specs.Scenarios.{total_weight}
use Rattle.policy_tree.proofs.Bijection.{policies_are_points}
use Rattle.policy_json.specs.Nodes.{policy_data}
use Rattle.scen_accept.proofs.NamesFormed.{model_from_tokens}
use Rattle.policy_eval.specs.Reports as report
use Rattle.policy_eval.specs.Reports.{IsReport, Judgement, ReportsAreOne}
use Rattle.policy_read.specs.Listed.{data_in}
use Rattle.policy_read.specs.Policies.{Differs, NoJson, Outside, Point, PolicyReading, policy_in, policy_refusal}
use Rattle.policy_read.specs.Printed.{AcceptedAreRead}
use Rattle.answer_lines.specs.AnswerData.{limit_data, line_of, refused_data, unreadable_data}
use Rattle.answer_texts.specs.Solved.{SolvedText}
use Rattle.answer_texts.specs.declared.command.Command.TheVariants.{Solve}
use Rattle.answer_texts.specs.declared.command.Detail.TheVariants.{Full}
use Rattle.answer_texts.specs.declared.status.Status.{Status}
use Rattle.answer_texts.specs.declared.status.Status.TheVariants.{Done, Unreadable}
use Rattle.answer_texts.proofs.Ended.{accepted_end_once}
use Rattle.answer_texts.proofs.Ends.{one_limit_on, one_refusal_on}
use Rattle.answer_texts.proofs.Shared.{not_both_told, not_limited, not_refused}
use Rattle.answer_eval.specs.EvalData.{judgement_data, judgement_status, satisfied_data}
use Rattle.answer_eval.specs.EvalLaws.{EvalsEndOnce, SatisfyingAreAnswered}
use Rattle.answer_eval.specs.EvalReplies.{HoldsPolicy, IsPolicyReply, satisfied, hard_fails, chance_fails, objective_fails, unreadable, evaluated, text_refused, text_limited}

-- the values that are read
values_in : PolicyReading → List ℤ
values_in (Point values) = values
values_in NoJson = []
values_in (Differs node) = []
values_in (Outside cell) = []

same_values_read : (xs ys : List ℤ) → Point xs ≡ Point ys → xs ≡ ys
unfolding values_in
same_values_read xs ys is = ap values_in is

refusal_in : Option Refusal → Refusal → Refusal
refusal_in None other = other
refusal_in (Some refusal) other = refusal

same_refusal : (a b : Refusal) → Some a ≡ Some b → a ≡ b
unfolding refusal_in
same_refusal a b is = ap (λ o. refusal_in o a) is

none_some : (a : Refusal) → None ≡ Some a → ⊥
none_some a is = cc

module _ (reports_are_one : ReportsAreOne) (problem : Problem) (bytes : List ℕ) where
  abbrev pub reading : PolicyReading
  reading = policy_in problem.decisions problem.stochastics bytes

  -- a policy is read, and this is told of it
  record Told (status : Status) (line : List ℕ) : Type 0 where
    values : List ℤ
    judgement : Judgement
    reads : reading ≡ Point values
    is : IsReport problem (policy_at (cells problem) values) judgement
    ends : status ≡ judgement_status judgement
    written : line ≡ line_of (judgement_data (total_weight problem.stochastics) (denominator problem) judgement)

  -- or none is read, for this mistake
  record Unread (status : Status) (line : List ℕ) : Type 0 where
    mistake : Refusal
    refuses : policy_refusal reading ≡ Some mistake
    ends : status ≡ Unreadable
    written : line ≡ line_of (unreadable_data (pos mistake.at) (pos mistake.code))

  moved : (policy : Policy) (judgement : Judgement) (holds : HoldsPolicy problem bytes policy) → IsReport problem policy judgement → IsReport problem (policy_at (cells problem) holds.values) judgement
  moved policy judgement holds is = subst (λ (p : Policy). IsReport problem p judgement) holds.same is

  either : (status : Status) (line : List ℕ) → IsPolicyReply problem bytes status line → Told status line ⊎ Unread status line
  either _ _ (satisfied policy value sums holds is) =
      inl (record { values = holds.values; judgement = report.satisfied value sums; reads = holds.reads; is = moved policy (report.satisfied value sums) holds is; ends = refl; written = refl })
  either _ _ (hard_fails policy instance scenario holds is) =
      inl (record { values = holds.values; judgement = report.hard instance scenario; reads = holds.reads; is = moved policy (report.hard instance scenario) holds is; ends = refl; written = refl })
  either _ _ (chance_fails policy instance sum holds is) =
      inl (record { values = holds.values; judgement = report.chance instance sum; reads = holds.reads; is = moved policy (report.chance instance sum) holds is; ends = refl; written = refl })
  either _ _ (objective_fails policy scenario holds is) =
      inl (record { values = holds.values; judgement = report.objective scenario; reads = holds.reads; is = moved policy (report.objective scenario) holds is; ends = refl; written = refl })
  either _ _ (unreadable refusal is) = inr (record { mistake = refusal; refuses = is; ends = refl; written = refl })

  told_unread : (s t : Status) (l m : List ℕ) → Told s l → Unread t m → ⊥
  told_unread s t l m one other = none_some other.mistake (sym (ap policy_refusal one.reads) ∙ other.refuses)

  same_told : (s t : Status) (l m : List ℕ) → Told s l → Told t m → (s ≡ t) × (l ≡ m)
  same_told s t l m one other =
      let values : other.values ≡ one.values = same_values_read other.values one.values (sym other.reads ∙ one.reads) in
      let told : one.judgement ≡ other.judgement =
      reports_are_one problem (policy_at (cells problem) one.values) one.judgement other.judgement one.is
      (subst (λ vs. IsReport problem (policy_at (cells problem) vs) other.judgement) values other.is) in (
        one.ends ∙ ap judgement_status told ∙ sym other.ends,
        one.written ∙ ap (λ j. line_of (judgement_data (total_weight problem.stochastics) (denominator problem) j)) told ∙ sym other.written,
      )

  same_unread : (s t : Status) (l m : List ℕ) → Unread s l → Unread t m → (s ≡ t) × (l ≡ m)
  same_unread s t l m one other =
      let mistake : one.mistake ≡ other.mistake = same_refusal one.mistake other.mistake (sym one.refuses ∙ other.refuses) in (
        one.ends ∙ sym other.ends,
        one.written ∙ ap (λ (r : Refusal). line_of (unreadable_data (pos r.at) (pos r.code))) mistake ∙ sym other.written,
      )

  by_ways : (s t : Status) (l m : List ℕ) → Told s l ⊎ Unread s l → Told t m ⊎ Unread t m → (s ≡ t) × (l ≡ m)
  by_ways s t l m (inl one) (inl other) = same_told s t l m one other
  by_ways s t l m (inl one) (inr other) = absurd (told_unread s t l m one other)
  by_ways s t l m (inr one) (inl other) = absurd (told_unread t s m l other one)
  by_ways s t l m (inr one) (inr other) = same_unread s t l m one other

  pub policies_end_once : (s t : Status) (l m : List ℕ) → IsPolicyReply problem bytes s l → IsPolicyReply problem bytes t m → (s ≡ t) × (l ≡ m)
  policies_end_once s t l m one other = by_ways s t l m (either s l one) (either t m other)

module _ (reports_are_one : ReportsAreOne) where
  pub evals_end_once : EvalsEndOnce
  evals_end_once text bytes _ _ _ _ (evaluated p s l solved reply) (evaluated q t m solves replies) =
      policies_end_once reports_are_one p bytes s t l m reply
      (subst (λ (r : Problem). IsPolicyReply r bytes t m) (accepted_end_once.one_problem text q p solves solved) replies)
  evals_end_once text bytes _ _ _ _ (evaluated p s l solved reply) (text_refused refusal broken) = absurd (not_refused text p refusal solved broken)
  evals_end_once text bytes _ _ _ _ (evaluated p s l solved reply) (text_limited excess over) = absurd (not_limited text p excess solved over)
  evals_end_once text bytes _ _ _ _ (text_refused refusal broken) (evaluated p s l solved reply) = absurd (not_refused text p refusal solved broken)
  evals_end_once text bytes _ _ _ _ (text_refused refusal broken) (text_refused other broke) =
      (refl, ap (λ (r : Refusal). line_of (refused_data (pos r.at) (pos r.code))) (one_refusal_on text 0 refusal other (Solve Full) (Solve Full) broken broke))
  evals_end_once text bytes _ _ _ _ (text_refused refusal broken) (text_limited excess over) = absurd (not_both_told text refusal excess broken over)
  evals_end_once text bytes _ _ _ _ (text_limited excess over) (evaluated p s l solved reply) = absurd (not_limited text p excess solved over)
  evals_end_once text bytes _ _ _ _ (text_limited excess over) (text_refused refusal broken) = absurd (not_both_told text refusal excess broken over)
  evals_end_once text bytes _ _ _ _ (text_limited excess over) (text_limited other overly) =
      (refl, ap (λ (e : Excess). line_of (limit_data e)) (one_limit_on text 0 excess other (Solve Full) (Solve Full) over overly))

module _ (reports_are_one : ReportsAreOne) (accepted_are_read : AcceptedAreRead) where
  -- what is printed of a policy of a solved text is read as the policy
  read_back : (text bytes : List ℕ) (problem : Problem) (solved : SolvedText text problem) (values : List ℤ) → IsPoint (cells problem) values → (d : Data)
      → data_in bytes ≡ Some d → get (codes "policy") d ≡ Some (policy_data problem (policy_at (cells problem) values))
      → policy_in problem.decisions problem.stochastics bytes ≡ Point values
  read_back text bytes problem solved values =
      subst (λ (p : Problem). IsPoint (cells p) values → (d : Data) → data_in bytes ≡ Some d → get (codes "policy") d ≡ Some (policy_data p (policy_at (cells p) values))
      → policy_in p.decisions p.stochastics bytes ≡ Point values) solved.accepted.stated
      (λ point d. accepted_are_read solved.model (model_from_tokens text solved.model solved.spelled) solved.accepted.unfolded values point bytes d)

  pub satisfying_are_answered : SatisfyingAreAnswered
  satisfying_are_answered text bytes problem policy value holds worth status line reply =
      let point = policies_are_points problem policy holds.of_problem in
      let reads : policy_in problem.decisions problem.stochastics bytes ≡ Point point.0 =
      read_back text bytes problem holds.is_solved point.0 point.1 holds.given holds.reading
      (holds.printed ∙ ap (λ (p : Policy). Some (policy_data problem p)) point.2) in
      let sums : List ℤ = map (weight_of problem policy) problem.chances in
      let is : IsPolicyReply problem bytes Done (line_of (satisfied_data problem sums value)) =
      satisfied policy value sums (record { values = point.0; reads = reads; same = point.2; of_problem = holds.of_problem })
      (record { satisfies = holds.satisfies; worth = worth; weights = refl }) in
      evals_end_once reports_are_one text bytes status Done line (line_of (satisfied_data problem sums value)) reply
      (evaluated problem Done (line_of (satisfied_data problem sums value)) holds.is_solved is)
