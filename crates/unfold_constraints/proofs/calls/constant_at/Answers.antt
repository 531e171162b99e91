use Rattle.sopl_ast.specs.Tree.{place_of}
use Rattle.unfold_constants.specs.Here.{known_in}
use Rattle.unfold_constants.proofs.EvaluationAgreement.{agree_number}
use Rattle.unfold_constraints.proofs.Answered.{answers_so}
use Rattle.unfold_constraints.proofs.calls.constant_at.Goals as goal

pub returns : goal.returns
returns c =
    answers_so (λ x. x) _ _ c.constant.result (agree_number c.args.e.now (known_in c.args.known.now) (place_of c.args.e.now)) c.constant.ensures.met c.constant.ensures.value
