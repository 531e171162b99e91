use Rattle.sopl_ast.specs.Tree.{place_of}
use Rattle.unfold_constants.specs.Here.{known_in}
use Rattle.unfold_constants.proofs.EvaluationAgreement.{agree_number}
use Rattle.unfold_constants.proofs.Outcomes.{walks_so, worth_so}
use Rattle.unfold_constants.proofs.constant_scope.ConstantScope.constant.Goals as goal

pub returns-clause-met : goal.returns-clause-met
returns-clause-met c =
    walks_so (λ x. x) _ _ c.own.result (agree_number c.args.e.now (known_in c.args.self.now) (place_of c.args.e.now)) c.own.ensures.value

pub returns-clause-value : goal.returns-clause-value
returns-clause-value c =
    worth_so (λ x. x) _ _ c.own.result (agree_number c.args.e.now (known_in c.args.self.now) (place_of c.args.e.now)) c.own.ensures.value
