use Rattle.std.proofs.Common.{subst}
use Rattle.term_language.specs.declared.answers.Truth.{Truth}
use Rattle.term_program.specs.Programs.{problem_in, root_in}
use Rattle.prop_shave.proofs.Fractions.{truth_is}
use Rattle.prop_chance.specs.KeptWeights.{IfSo, IsTruthSet}
use Rattle.prop_chance.proofs.kept_weight.KeptWeight.renew.Goals as goal

pub returns-clause-set : goal.returns-clause-set
returns-clause-set c =
    subst (λ (t : Truth). IfSo c.set.result (IsTruthSet (problem_in c.args.program.now) c.args.self.now c.set.new.self c.args.scenario t))
    (truth_is (root_in c.args.program.now) c.args.store.now.box (problem_in c.args.program.now) c.args.instance c.args.scenario _ c.kleene-truth.result c.chance-cond.ensures.condition
    c.kleene-truth.ensures)
    c.set.ensures.set
