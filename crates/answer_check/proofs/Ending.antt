-- How a check ends, and that it ends in one way.
use Rattle.std.proofs.Common.{◌∙◌, ◌≤◌, ◌⊎◌, inl, inr, pos, arith, ◌≡◌, ℕ, List, refl, sym, ap, subst}
use Rattle.sopl_base.specs.declared.fault.Excess.{Excess}
use Rattle.sopl_base.specs.declared.fault.Refusal.{Refusal}
use Rattle.sopl_ast.specs.Instances.{Problem}
use Rattle.sopl_ast.specs.Optimal.{denominator}
use Rattle.log_rows.specs.declared.rows.Row.{Row}
use Rattle.log_rows.specs.declared.rows.Footer.{Footer}
use Rattle.log_rows.specs.Accepted.{Accepted}
use Rattle.log_tree.specs.Reads.{IsReading, LogOutcome, read, refused}
use Rattle.log_tree.specs.ReadingLaws.{ReadingsAreUnique}
use Rattle.log_check.proofs.Rejecting.{wrong_logs_are_rejected}
use Rattle.log_check.specs.Verdicts.{IsFirstWrong, IsWrongLine}
use Rattle.scen_accept.proofs.NamesFormed.{model_from_tokens}
use Rattle.compile_laws.specs.WellMade.{IsUnfolded}
use Rattle.answer_texts.specs.Logs.{searched_problem}
use Rattle.answer_texts.specs.Solved.{SolvedText}
use Rattle.answer_texts.specs.declared.status.Status.{Status}
use Rattle.answer_texts.specs.declared.status.Status.TheVariants.{Done, Failing, Unreadable}
use Rattle.answer_texts.specs.declared.command.Command.TheVariants.{Solve}
use Rattle.answer_texts.specs.declared.command.Detail.TheVariants.{Full}
use Rattle.answer_texts.proofs.Ended.{accepted_end_once}
use Rattle.answer_texts.proofs.Ends.{one_limit_on, one_refusal_on}
use Rattle.answer_lines.specs.AnswerData.{limit_data, line_of, refused_data}
use Rattle.answer_texts.proofs.Shared.{not_both_told, not_limited, not_refused}
use Rattle.answer_check.specs.CheckData.{accepted_data, rejected_data, unreadable_data}
use Rattle.answer_check.specs.Claims.{HoldsOfPolicies}
use Rattle.answer_check.specs.CheckLaws.{ChecksEndOnce, IsSameReply, AcceptedLogsAreAnswered}
use Rattle.answer_check.specs.CheckReplies.{IsLogReply, accepted, rejected, unreadable, checked, refused_text, limited_text}
use Rattle.answer_check.proofs.Claiming.{claims_are_true}
use Rattle.answer_check.proofs.Nodes.{one_node}

-- a solved text is unfolded whole
text_unfolded : (text : List ℕ) (problem : Problem) (solved : SolvedText text problem) → IsUnfolded solved.model
text_unfolded text problem solved =
    record { from = model_from_tokens text solved.model solved.spelled; typed = solved.accepted.typed; passes = solved.accepted.unfolded }

claim_of_text : (text : List ℕ) (problem : Problem) (rows : List Row) (claim : Footer) → SolvedText text problem → Accepted (searched_problem problem) rows claim
    → HoldsOfPolicies problem claim
claim_of_text text problem rows claim solved right =
    subst (λ (p : Problem). HoldsOfPolicies p claim) solved.accepted.stated
    (claims_are_true solved.model rows claim (text_unfolded text problem solved)
    (subst (λ (p : Problem). Accepted (searched_problem p) rows claim) (sym solved.accepted.stated) right))

module _ (problem : Problem) where
  abbrev FirstWrong : List Row → Footer → ℕ → ℕ → Type 0
  FirstWrong rows claim node line = IsFirstWrong (searched_problem problem) rows claim node line

  -- the first wrong line of a log is one, and so is the node of that
  same_first : (rows : List Row) (claim : Footer) (n m k l : ℕ) → FirstWrong rows claim n k → FirstWrong rows claim m l → k ≡ l
  same_first rows claim n m k l a b =
      let ahead : k ≤ l = a.first m l b.wrong in
      let behind : l ≤ k = b.first n k a.wrong in
      omega (arith, ahead, behind)

  same_node : (rows : List Row) (claim : Footer) (n m k l : ℕ) → FirstWrong rows claim n k → FirstWrong rows claim m l → n ≡ m
  same_node rows claim n m k l a b =
      one_node (searched_problem problem) rows claim n m k a.wrong
      (subst (λ at. IsWrongLine (searched_problem problem) rows claim m at) (sym (same_first rows claim n m k l a b)) b.wrong)

  abbrev rejection : ℕ → ℕ → List ℕ
  rejection node line = line_of (rejected_data (pos line) (pos node))

  -- how a log ends that is read so
  abbrev EndsAs : LogOutcome → Status → List ℕ → Type 0
  EndsAs (read rows claim) status text =
      (Accepted (searched_problem problem) rows claim × (status ≡ Done) × (text ≡ line_of (accepted_data claim (denominator problem))))
      ⊎ ((node : ℕ) × (line : ℕ) × FirstWrong rows claim node line × (status ≡ Failing) × (text ≡ rejection node line))
  EndsAs (refused code line) status text = (status ≡ Unreadable) × (text ≡ line_of (unreadable_data (pos line) (pos code)))

  read_so : (log : List ℕ) (s : Status) (l : List ℕ) → IsLogReply problem log s l → (out : LogOutcome) × IsReading log out × EndsAs out s l
  read_so log _ _ (accepted rows claim reads right true_of) = (read rows claim, reads, inl (right, refl, refl))
  read_so log _ _ (rejected rows claim node line reads wrong) = (read rows claim, reads, inr (node, line, wrong, refl, refl))
  read_so log _ _ (unreadable code line mistaken) = (refused code line, mistaken, (refl, refl))

  -- it ends so once: a log is not accepted and rejected
  ends_so_once : (out : LogOutcome) (s t : Status) (l m : List ℕ) → EndsAs out s l → EndsAs out t m → IsSameReply s t l m
  ends_so_once (read rows claim) s t l m (inl a) (inl b) = record { status = a.1 ∙ sym b.1; line = a.2 ∙ sym b.2 }
  ends_so_once (read rows claim) s t l m (inl a) (inr b) = absurd (wrong_logs_are_rejected (searched_problem problem) rows claim b.0 b.1 b.2.wrong a.0)
  ends_so_once (read rows claim) s t l m (inr a) (inl b) = absurd (wrong_logs_are_rejected (searched_problem problem) rows claim a.0 a.1 a.2.wrong b.0)
  ends_so_once (read rows claim) s t l m (inr a) (inr b) = record {
    status = a.3 ∙ sym b.3;
    line = a.4
        ∙ ap (λ at. rejection at a.1) (same_node rows claim a.0 b.0 a.1 b.1 a.2 b.2)
        ∙ ap (λ at. rejection b.0 at) (same_first rows claim a.0 b.0 a.1 b.1 a.2 b.2)
        ∙ sym b.4;
  }
  ends_so_once (refused code line) s t l m a b = record { status = a.0 ∙ sym b.0; line = a.1 ∙ sym b.1 }

module _ (readings_are_unique : ReadingsAreUnique) where
  log_ends_once : (problem : Problem) (log : List ℕ) (s t : Status) (l m : List ℕ) → IsLogReply problem log s l → IsLogReply problem log t m → IsSameReply s t l m
  log_ends_once problem log s t l m one other =
      let a = read_so problem log s l one in
      let b = read_so problem log t m other in
      ends_so_once problem a.0 s t l m a.2 (subst (λ out. EndsAs problem out t m) (readings_are_unique log b.0 a.0 b.1 a.1) b.2)

  pub checks_end_once : ChecksEndOnce
  checks_end_once text log _ _ _ _ (checked p s l solved reply) (checked q t m solves replies) =
      log_ends_once p log s t l m reply (subst (λ (r : Problem). IsLogReply r log t m) (accepted_end_once.one_problem text q p solves solved) replies)
  checks_end_once text log _ _ _ _ (checked p s l solved reply) (refused_text refusal broken) = absurd (not_refused text p refusal solved broken)
  checks_end_once text log _ _ _ _ (checked p s l solved reply) (limited_text excess over) = absurd (not_limited text p excess solved over)
  checks_end_once text log _ _ _ _ (refused_text refusal broken) (checked p s l solved reply) = absurd (not_refused text p refusal solved broken)
  checks_end_once text log _ _ _ _ (refused_text refusal broken) (refused_text other broke) =
      record { status = refl; line = ap (λ (r : Refusal). line_of (refused_data (pos r.at) (pos r.code))) (one_refusal_on text 0 refusal other (Solve Full) (Solve Full) broken broke) }
  checks_end_once text log _ _ _ _ (refused_text refusal broken) (limited_text excess over) = absurd (not_both_told text refusal excess broken over)
  checks_end_once text log _ _ _ _ (limited_text excess over) (checked p s l solved reply) = absurd (not_limited text p excess solved over)
  checks_end_once text log _ _ _ _ (limited_text excess over) (refused_text refusal broken) = absurd (not_both_told text refusal excess broken over)
  checks_end_once text log _ _ _ _ (limited_text excess over) (limited_text other overly) =
      record { status = refl; line = ap (λ (e : Excess). line_of (limit_data e)) (one_limit_on text 0 excess other (Solve Full) (Solve Full) over overly) }

  pub accepted_logs_are_answered : AcceptedLogsAreAnswered
  accepted_logs_are_answered text log problem rows claim solved reads right =
      let true_of = claim_of_text text problem rows claim solved right in
      record {
        true_of = true_of;
        replies = λ status line reply.
            checks_end_once text log status Done line _ reply (checked problem Done _ solved (accepted rows claim reads right true_of));
      }
