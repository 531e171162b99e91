-- What the reason of a propagator closes.
use Rattle.std.proofs.Common.{◌≡◌}
use Rattle.sopl_base.specs.declared.reason.Reason.TheVariants.{Hard}
use Rattle.box_problem.specs.Box.{Box}
use Rattle.term_language.specs.Rules.{Near, truth}
use Rattle.term_language.specs.Terms.{AllDifferent}
use Rattle.term_problem.specs.Refuted.{is_false}
use Rattle.term_program.specs.Programs.{problem_in, root_in}
use Rattle.prop_shave.specs.Probes.{closes}
use Rattle.prop_shave.specs.declared.probes.Probe.{Probe}
use Rattle.prop_operands.specs.Kept.{operand_terms}
use Rattle.prop_operands.proofs.Asking.{hard_closes}
use Rattle.prop_alldiff.specs.Kinds.{Fits}
use Rattle.prop_alldiff.specs.declared.all_diff.AllDiff.{AllDiff}

-- the condition is False over a box exactly where the reason closes it
pub closes_is : (p : AllDiff) (q : Probe) (b : Box) → Fits p q.program.now → q.reason ≡ Hard p.instance p.scenario
    → closes q b ≡ is_false (truth Near (root_in q.program.now) b (AllDifferent (operand_terms q.program.now p.operands.list.items)))
closes_is p q b fits own = hard_closes (root_in q.program.now) (problem_in q.program.now) p.instance p.scenario q.reason _ b q.best own fits.condition
