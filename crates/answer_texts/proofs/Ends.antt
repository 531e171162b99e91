-- A command ends on a text in one way, but that a search may end before it is done.
use Rattle.std.proofs.Common.{◌≡◌, ◌∙◌, ℕ, ◌<◌, ◌≤◌, List, Option, Some, Result, Err, IsOk, refl, sym, ap, subst, arith}
use Rattle.sopl_base.specs.declared.fault.Excess.{Excess}
use Rattle.sopl_base.specs.declared.fault.Refusal.{Refusal}
use Rattle.sopl_base.specs.declared.fault.Fault.{Fault}
use Rattle.sopl_base.specs.declared.fault.Fault.TheVariants.{Limit}
use Rattle.sopl_ast.specs.Accepted.{AcceptedText, IsLimitedFor, unfolding_passes, sizes_pass}
use Rattle.sopl_ast.specs.Instances.{Problem}
use Rattle.sopl_ast.specs.Limits.{size_excess, usual_limits}
use Rattle.sopl_ast.specs.UnfoldEvents.{first_failure}
use Rattle.sopl_ast.specs.Unfolding.{problem_of, text_events}
use Rattle.scen_accept.proofs.Rejected.{one_model, texts_end_once}
use Rattle.sopl_search.specs.Logged.{SearchPlan}
use Rattle.answer_texts.specs.Solved.{SolvedText, IsLimitedInTerms}
use Rattle.answer_texts.proofs.Ended.{accepted_end_once}
use Rattle.answer_texts.specs.Logs.{most_nodes}
use Rattle.answer_texts.specs.Replies.{IsRefusedOn, by_rule, IsLimitedOn, by_size, by_terms, Ends, settled, solved, bounded_text, shown, refused_text, limited_text}
use Rattle.answer_texts.specs.Replies.{IsTextReply, optimal, infeasible, bounded, scenes, refused, limited}
use Rattle.answer_texts.specs.declared.command.Command.{Command}
use Rattle.answer_texts.specs.declared.command.Command.TheVariants.{Solve, Tree}
use Rattle.answer_texts.specs.declared.status.Status.{Status}
use Rattle.answer_texts.specs.declared.status.Status.TheVariants.{Done, Usage, Refused, Bounded, ReadFault, WriteFault}
use Rattle.answer_texts.specs.declared.status.Status.TheVariants as status

-- Limits on sizes.

abbrev stopping : Excess → Result ℕ Fault
stopping e = Err (Limit e)

same_limit : (e f : Excess) → stopping e ≡ stopping f → e ≡ f
same_limit e f same = cc

no_ok : (e : Excess) → IsOk (stopping e) → ⊥
no_ok e ok = cc

abbrev passed : Excess → Option Excess
passed e = Some e

same_excess : (e f : Excess) → passed e ≡ passed f → e ≡ f
same_excess e f same = cc

-- a text passes one limit on its unfolding, its scenarios or its decisions
one_size : (text : List ℕ) (e f : Excess) → IsLimitedFor usual_limits text e → IsLimitedFor usual_limits text f → e ≡ f
one_size text e f (unfolding_passes a is typed stops) (unfolding_passes b other also stopped) =
    same_limit e f (sym stops ∙ ap (λ m. first_failure 0 (text_events m)) (one_model text a b is other) ∙ stopped)
one_size text e f (unfolding_passes a is typed stops) (sizes_pass b other also passes over) =
    absurd (no_ok e (subst (λ (r : Result ℕ Fault). IsOk r) (ap (λ m. first_failure 0 (text_events m)) (one_model text b a other is) ∙ stops) passes))
one_size text e f (sizes_pass a is typed passes over) (unfolding_passes b other also stopped) =
    absurd (no_ok f (subst (λ (r : Result ℕ Fault). IsOk r) (ap (λ m. first_failure 0 (text_events m)) (one_model text a b is other) ∙ stopped) passes))
one_size text e f (sizes_pass a is typed passes over) (sizes_pass b other also passed_too over_too) =
    same_excess e f (sym over ∙ ap (λ m. size_excess usual_limits (problem_of m)) (one_model text a b is other) ∙ over_too)

module _ (text : List ℕ) (budget : ℕ) where
  -- an accepted text is refused for nothing, and what it passes is a limit on its terms
  accepted_refused : (p : Problem) → AcceptedText usual_limits text p → (r : Refusal) (c : Command) → IsRefusedOn text r c → ⊥
  accepted_refused p a r _ (by_rule c reason) = texts_end_once.not_refused text p r a reason

  accepted_limited : (p : Problem) → AcceptedText usual_limits text p → (e : Excess) (c : Command) → IsLimitedOn text e c → IsLimitedInTerms text e
  accepted_limited p a e _ (by_size c over) = absurd (texts_end_once.not_limited text p e a over)
  accepted_limited p a e _ (by_terms c is) = is

  -- nothing is refused that is solved, and nothing that is solved passes a limit
  solved_refused : (p : Problem) → SolvedText text p → (r : Refusal) (c : Command) → IsRefusedOn text r c → ⊥
  solved_refused p a r c why = accepted_refused p (accepted_end_once.solved_accepted text p a) r c why

  solved_limited : (p : Problem) → SolvedText text p → (e : Excess) (c : Command) → IsLimitedOn text e c → ⊥
  solved_limited p a e c over =
      accepted_end_once.not_limited text p e a (accepted_limited p (accepted_end_once.solved_accepted text p a) e c over)

  -- nor is what passes a limit refused
  refused_limited : (r : Refusal) (e : Excess) (c d : Command) → IsRefusedOn text r c → IsLimitedOn text e d → ⊥
  refused_limited r e _ _ (by_rule c reason) (by_size d over) = texts_end_once.refused_alone text r e reason over
  refused_limited r e _ _ (by_rule c reason) (by_terms d is) =
      let a = accepted_end_once.limited_accepted text e is in texts_end_once.not_refused text a.0 r a.1 reason

  -- a text is refused by one code at one place
  pub one_refusal_on : (r s : Refusal) (c d : Command) → IsRefusedOn text r c → IsRefusedOn text s d → r ≡ s
  one_refusal_on r s _ _ (by_rule c reason) (by_rule d other) = texts_end_once.one_refusal text r s reason other

  -- and passes one limit
  pub one_limit_on : (e f : Excess) (c d : Command) → IsLimitedOn text e c → IsLimitedOn text f d → e ≡ f
  one_limit_on e f _ _ (by_size c over) (by_size d other) = one_size text e f over other
  one_limit_on e f _ _ (by_size c over) (by_terms d is) =
      let a = accepted_end_once.limited_accepted text f is in absurd (texts_end_once.not_limited text a.0 e a.1 over)
  one_limit_on e f _ _ (by_terms c is) (by_size d other) =
      let a = accepted_end_once.limited_accepted text e is in absurd (texts_end_once.not_limited text a.0 f a.1 other)
  one_limit_on e f _ _ (by_terms c is) (by_terms d other) = accepted_end_once.one_limit text e f is other

  after_solved : (p : Problem) → SolvedText text p → (c : Command) (s : Status) → Ends text budget c s → Done ≡ settled s
  after_solved p a _ _ (solved k q b) = refl
  after_solved p a _ _ (bounded_text k q b less) = refl
  after_solved p a _ _ (shown q b) = refl
  after_solved p a _ _ (refused_text c r why) = absurd (solved_refused p a r c why)
  after_solved p a _ _ (limited_text c e over) = absurd (solved_limited p a e c over)

  after_refused : (r : Refusal) (c : Command) → IsRefusedOn text r c → (d : Command) (s : Status) → Ends text budget d s → Refused ≡ settled s
  after_refused r c why _ _ (solved k q b) = absurd (solved_refused q b r c why)
  after_refused r c why _ _ (bounded_text k q b less) = absurd (solved_refused q b r c why)
  after_refused r c why _ _ (shown q b) = absurd (solved_refused q b r c why)
  after_refused r c why _ _ (refused_text d s other) = refl
  after_refused r c why _ _ (limited_text d e over) = absurd (refused_limited r e c d why over)

  after_limited : (e : Excess) (c : Command) → IsLimitedOn text e c → (d : Command) (s : Status) → Ends text budget d s → status.Limit ≡ settled s
  after_limited e c over _ _ (solved k q b) = absurd (solved_limited q b e c over)
  after_limited e c over _ _ (bounded_text k q b less) = absurd (solved_limited q b e c over)
  after_limited e c over _ _ (shown q b) = absurd (solved_limited q b e c over)
  after_limited e c over _ _ (refused_text d r why) = absurd (refused_limited r e d c why over)
  after_limited e c over _ _ (limited_text d f other) = refl

  -- two ends of a command on a text are the same, but that a search may be cut short
  pub ends_alike : (c : Command) (s e : Status) → Ends text budget c s → Ends text budget c e → settled s ≡ settled e
  ends_alike _ _ e (solved k p a) other = after_solved p a (Solve k) e other
  ends_alike _ _ e (bounded_text k p a less) other = after_solved p a (Solve k) e other
  ends_alike _ _ e (shown p a) other = after_solved p a Tree e other
  ends_alike _ _ e (refused_text c r why) other = after_refused r c why c e other
  ends_alike _ _ e (limited_text c x over) other = after_limited x c over c e other

  -- with a budget of as many nodes as there may be, no search is cut short
  pub ends_settled : (p : Problem) → SolvedText text p → most_nodes p ≤ budget → (c : Command) (s : Status) → Ends text budget c s → ¬ (s ≡ Bounded)
  ends_settled p a enough _ _ (solved k q b) is = cc
  ends_settled p a enough _ _ (bounded_text k q b less) is =
      let few : budget < most_nodes p = subst (λ r. budget < most_nodes r) (accepted_end_once.one_problem text q p b a) less in
      absurd (omega (arith, few, enough))
  ends_settled p a enough _ _ (shown q b) is = cc
  ends_settled p a enough _ _ (refused_text c r why) is = cc
  ends_settled p a enough _ _ (limited_text c x over) is = cc

-- a status with which a command ends is none of these
pub record IsEnd (s : Status) : Type 0 where
  pub no_usage : ¬ (s ≡ Usage)
  pub no_read : ¬ (s ≡ ReadFault)
  pub no_write : ¬ (s ≡ WriteFault)

pub end_status : (text : List ℕ) (budget : ℕ) (c : Command) (s : Status) → Ends text budget c s → IsEnd s
end_status text budget _ _ (solved k p a) = record { no_usage = λ e. cc; no_read = λ e. cc; no_write = λ e. cc }
end_status text budget _ _ (bounded_text k p a less) = record { no_usage = λ e. cc; no_read = λ e. cc; no_write = λ e. cc }
end_status text budget _ _ (shown p a) = record { no_usage = λ e. cc; no_read = λ e. cc; no_write = λ e. cc }
end_status text budget _ _ (refused_text c r why) = record { no_usage = λ e. cc; no_read = λ e. cc; no_write = λ e. cc }
end_status text budget _ _ (limited_text c e over) = record { no_usage = λ e. cc; no_read = λ e. cc; no_write = λ e. cc }

-- a reply has the status with which the command ends on the text
pub reply_ends : (text : List ℕ) (plan : SearchPlan) (c : Command) (log : Option (List ℕ)) (s : Status) (line : List ℕ) → IsTextReply text plan c log s line
    → Ends text plan.budget c s
reply_ends text plan _ _ _ _ (optimal k problem policy value log is best logged) = solved k problem is
reply_ends text plan _ _ _ _ (infeasible k problem log is none logged) = solved k problem is
reply_ends text plan _ _ _ _ (bounded k problem found bound log is known less logged) = bounded_text k problem is less
reply_ends text plan _ _ _ _ (scenes problem accepted) = shown problem accepted
reply_ends text plan _ _ _ _ (refused c refusal why) = refused_text c refusal why
reply_ends text plan _ _ _ _ (limited c excess over) = limited_text c excess over
