use Rattle.unfold_constants.specs.Here.{known_in}
use Rattle.unfold_constants.proofs.TraversalAgreement.{meets_walk}
use Rattle.unfold_constants.proofs.Outcomes.{walks_so}
use Rattle.unfold_constants.proofs.constant_scope.ConstantScope.expression.Goals as goal

pub returns : goal.returns
returns c = record { met = walks_so (λ u. u) _ _ c.walk.result (meets_walk c.args.e.now (known_in c.args.self.now)) c.walk.ensures }
