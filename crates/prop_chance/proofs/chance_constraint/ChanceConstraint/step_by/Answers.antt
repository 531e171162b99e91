use Rattle.std.proofs.Common.{◌∙◌, arith, length, rules, subst, sym, ◌<◌}
use Rattle.sopl_base.specs.declared.reason.Reason.{Reason}
use Rattle.prop_shave.specs.Probes.{HasAll}
use Rattle.prop_shave.proofs.Finding.{found_quiet}
use Rattle.prop_shave.proofs.Opening.{open_all, open_more}
use Rattle.term_problem.specs.Reasons.{reason_mentions}
use Rattle.term_program.specs.Programs.{problem_in, root_in}
use Rattle.prop_chance.proofs.chance_constraint.ChanceConstraint.step_by.Goals as goal

pub step_for-requires-clause-room : goal.step_for-requires-clause-room
step_for-requires-clause-room c = c.cells.invariant.room ∙ c.requires.room

pub cells-preserved : goal.cells-preserved
cells-preserved c =
    let below : c.cells.at < length c.args.self.now.cells.items = search rules in
    record {
      open_ = open_more c.args.probe.now c.args.self.now.cells.items c.cells.at 0 c.cells.invariant.open_ below c.in_default.ensures.none;
      turns = c.step_for.ensures.turns;
      room = c.step_for.ensures.room ∙ c.cells.invariant.room;
    }

pub returns-clause-none : goal.returns-clause-none
returns-clause-none c =
    let root = root_in c.args.probe.now.program.now in
    let terms = problem_in c.args.probe.now.program.now in
    found_quiet c.args.probe.now c.args.self.now.cells.items
    (subst (λ (r : Reason). HasAll c.args.self.now.cells.items (reason_mentions root terms r)) (sym c.requires.reason) c.requires.constraint.all)
    c.requires.whole
    (open_all c.args.probe.now c.args.self.now.cells.items c.cells.at (omega (arith, c.cells-test.false)) c.cells.invariant.open_)
