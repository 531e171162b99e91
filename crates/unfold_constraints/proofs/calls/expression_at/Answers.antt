use Rattle.unfold_constants.specs.Here.{known_in}
use Rattle.unfold_constants.proofs.TraversalAgreement.{meets_walk}
use Rattle.unfold_constraints.proofs.Answered.{answers_so, counted_so}
use Rattle.unfold_constraints.proofs.calls.expression_at.Goals as goal

pub returns : goal.returns
returns c =
    answers_so (λ u. u) _ _ c.expression.result (meets_walk c.args.e.now (known_in c.args.known.now)) c.expression.ensures.met (counted_so c.expression.result)
