-- From what is found out of a text and the bytes of a policy to the reply.
use Rattle.std.proofs.Common.{◌≡◌, inl, inr, ℕ, pos, List, Some, Result, Ok, Err, IfOk, IfErr, string_bytes, refl, sym, subst}
use Rattle.std.specs.declared.alloc.AllocError.{AllocError}
use Rattle.sopl_base.specs.declared.fault.Fault.{Fault}
use Rattle.sopl_base.specs.declared.fault.Refusal.{Refusal}
use Rattle.sopl_ast.specs.Instances.{Problem}
use Rattle.sopl_ast.specs.Optimal.{denominator}
use Rattle.sopl_ast.specs.Policies.{Policy}
use Rattle.sopl_ast.specs.Scenarios.{total_weight}
use Rattle.policy_tree.proofs.Bijection.{points_are_policies}
use Rattle.sopl_policy.specs.Kept.{IsPolicyFor, PolicyCells, policy_map}
use Rattle.scen_accept.specs.Stated.{IsLaid, States, model_in, problem_in}
use Rattle.scen_accept.specs.declared.accepted.AcceptedProblem.{AcceptedProblem}
use Rattle.policy_eval.specs.Reports as report
use Rattle.policy_eval.specs.Reports.{IsReport, Judgement}
use Rattle.policy_read.specs.Policies.{Point, policy_in, policy_refusal}
use Rattle.answer_lines.specs.AnswerData.{line_of, unreadable_data}
use Rattle.answer_texts.specs.Away.{IsTurnedAway}
use Rattle.answer_texts.specs.Models.{IsSolvable}
use Rattle.answer_texts.specs.Replies.{IsFaultOn}
use Rattle.answer_texts.specs.Solving.{IsSolveFault}
use Rattle.answer_texts.specs.declared.command.Command.TheVariants.{Solve}
use Rattle.answer_texts.specs.declared.command.Detail.TheVariants.{Full}
use Rattle.answer_texts.specs.declared.reply.Reply.{Reply}
use Rattle.answer_texts.specs.declared.status.Status.{Status}
use Rattle.answer_texts.specs.declared.status.Status.TheVariants.{Done, Failing, Unreadable}
use Rattle.answer_texts.proofs.Answered.{unsolved_so}
use Rattle.answer_eval.specs.EvalData.{judgement_data, judgement_status}
use Rattle.answer_eval.specs.EvalReplies.{HoldsPolicy, IsPolicyReply, satisfied, hard_fails, chance_fails, objective_fails, unreadable, IsEvalReply, evaluated}
use Rattle.answer_eval.specs.EvalReplies.{IsStatedFor}

module _ (problem : Problem) (bytes : List ℕ) (policy : Policy) (holds : HoldsPolicy problem bytes policy) where
  by_judgement : (judgement : Judgement) → IsReport problem policy judgement
      → IsPolicyReply problem bytes (judgement_status judgement) (line_of (judgement_data (total_weight problem.stochastics) (denominator problem) judgement))
  by_judgement (report.satisfied value sums) is = satisfied policy value sums holds is
  by_judgement (report.hard instance scenario) is = hard_fails policy instance scenario holds is
  by_judgement (report.chance instance sum) is = chance_fails policy instance sum holds is
  by_judgement (report.objective scenario) is = objective_fails policy scenario holds is

-- the reply of what is told of a policy that was read
pub report_replies : (problem : Problem) (bytes : List ℕ) (kept : PolicyCells) (judgement : Judgement) (result : Result Reply AllocError) → IsPolicyFor problem kept
    → policy_in problem.decisions problem.stochastics bytes ≡ Point kept.values → IsReport problem (policy_map problem kept) judgement
    → IfOk result (λ reply. reply.status ≡ judgement_status judgement)
    → IfOk result (λ reply. string_bytes reply.line ≡ line_of (judgement_data (total_weight problem.stochastics) (denominator problem) judgement))
    → IfOk result (λ reply. IsPolicyReply problem bytes reply.status (string_bytes reply.line))
report_replies problem bytes kept judgement (Ok reply) for reads is ends written =
    subst (λ s. IsPolicyReply problem bytes s (string_bytes reply.line)) (sym ends)
    (subst (λ l. IsPolicyReply problem bytes (judgement_status judgement) l) (sym written)
    (by_judgement problem bytes (policy_map problem kept)
    (record { values = kept.values; reads = reads; same = refl; of_problem = points_are_policies problem kept.values for.point }) judgement is))
report_replies problem bytes kept judgement (Err error) for reads is ends written = tt

-- bytes that hold no policy
pub unreadable_so : (problem : Problem) (bytes line : List ℕ) (mistake : Refusal) → policy_refusal (policy_in problem.decisions problem.stochastics bytes) ≡ Some mistake
    → line ≡ line_of (unreadable_data (pos mistake.at) (pos mistake.code)) → IsPolicyReply problem bytes Unreadable line
unreadable_so problem bytes line mistake reads is = subst (λ l. IsPolicyReply problem bytes Unreadable l) (sym is) (unreadable mistake reads)

-- what a text states, where it is solved
pub stated_for : (text : List ℕ) (stated : AcceptedProblem) (result : Result AcceptedProblem Fault) → States text stated → IsLaid stated
    → IfOk result (λ found. found ≡ stated) → IfOk result (λ found. IsSolvable (model_in stated)) → IfOk result (IsStatedFor text)
stated_for text stated (Ok found) states laid same is =
    subst (IsStatedFor text) (sym same) (record { states = states; laid_out = laid; solvable = is })
stated_for text stated (Err fault) states laid same is = tt

-- and where it is not
pub unsolved_told : (text : List ℕ) (stated : AcceptedProblem) (result : Result AcceptedProblem Fault) → States text stated
    → IfErr result (IsSolveFault (model_in stated)) → IfErr result (IsFaultOn text (Solve Full))
unsolved_told text stated (Ok found) states is = tt
unsolved_told text stated (Err fault) states is = unsolved_so (Solve Full) text stated fault states is

-- the reply to the policy of a text
pub policy_replies : (text bytes : List ℕ) (stated : AcceptedProblem) (result : Result Reply AllocError) → IsStatedFor text stated
    → IfOk result (λ reply. IsPolicyReply (problem_in stated) bytes reply.status (string_bytes reply.line))
    → IfOk result (λ reply. IsEvalReply text bytes reply.status (string_bytes reply.line))
policy_replies text bytes stated (Ok reply) for is =
    evaluated (problem_in stated) reply.status (string_bytes reply.line)
    (record { model = model_in stated; spelled = for.states.spelled; accepted = for.states.accepted; solvable = for.solvable }) is
policy_replies text bytes stated (Err error) for is = tt

-- no such reply tells of the text
done_apart : IsTurnedAway Done → ⊥
done_apart (inl is) = cc
done_apart (inr is) = cc

failing_apart : IsTurnedAway Failing → ⊥
failing_apart (inl is) = cc
failing_apart (inr is) = cc

unreadable_apart : IsTurnedAway Unreadable → ⊥
unreadable_apart (inl is) = cc
unreadable_apart (inr is) = cc

tells_of_policy : (problem : Problem) (bytes : List ℕ) (status : Status) (line : List ℕ) → IsPolicyReply problem bytes status line → ¬ IsTurnedAway status
tells_of_policy problem bytes _ _ (satisfied policy value sums holds is) = done_apart
tells_of_policy problem bytes _ _ (hard_fails policy instance scenario holds is) = failing_apart
tells_of_policy problem bytes _ _ (chance_fails policy instance sum holds is) = failing_apart
tells_of_policy problem bytes _ _ (objective_fails policy scenario holds is) = failing_apart
tells_of_policy problem bytes _ _ (unreadable refusal is) = unreadable_apart

pub policy_told : (problem : Problem) (bytes : List ℕ) (result : Result Reply AllocError)
    → IfOk result (λ reply. IsPolicyReply problem bytes reply.status (string_bytes reply.line)) → IfOk result (λ reply. ¬ IsTurnedAway reply.status)
policy_told problem bytes (Ok reply) is = tells_of_policy problem bytes reply.status (string_bytes reply.line) is
policy_told problem bytes (Err error) is = tt
