use Rattle.std.proofs.Common.{◌≤◌, arith, length, rules, subst, sym}
use Rattle.sopl_base.specs.declared.reason.Reason.TheVariants.{Chance}
use Rattle.prop_shave.specs.Probes.{HasAll}
use Rattle.term_problem.specs.Reasons.{reason_mentions}
use Rattle.term_program.specs.Programs.{problem_in, root_in}
use Rattle.prop_chance.proofs.CellSets.{within_more}
use Rattle.prop_chance.proofs.Conditions.{part_more, part_within, parts_all}
use Rattle.prop_chance.proofs.chance_constraint.chance_cells.Goals as goal

pub scenarios-init : goal.scenarios-init
scenarios-init c = record {
  all = λ k below. absurd (omega (arith, below));
  only = subst (HasAll (reason_mentions (root_in c.args.program.now) (problem_in c.args.program.now) (Chance c.args.instance))) (sym c.new-cells.ensures.empty)
      (λ cell here. absurd (omega (arith, here.1)));
}

pub scenarios-preserved : goal.scenarios-preserved
scenarios-preserved c =
    let root = root_in c.args.program.now in
    let terms = problem_in c.args.program.now in
    record {
      all = part_more root terms c.args.instance c.scenarios.scenario _ c.cells_of.result.now c.scenarios.cells.keys c.put_cells.new.set.keys
          c.chance.ensures.condition c.cells_of.ensures.cells c.scenarios.invariant.all c.in_ok-put_cells.ensures.kept c.in_ok-put_cells.ensures.put;
      only = within_more c.scenarios.cells.keys c.put_cells.new.set.keys c.cells_of.result.now (reason_mentions root terms (Chance c.args.instance)) c.scenarios.invariant.only
          c.in_ok-put_cells.ensures.only (part_within root terms c.args.instance c.scenarios.scenario _ c.cells_of.result.now c.chance.ensures.condition c.cells_of.ensures.cells);
    }

pub returns : goal.returns
returns c =
    let within : c.scenarios.scenario ≤ length (problem_in c.args.program.now).weights = search rules in
    record {
      all = parts_all (root_in c.args.program.now) (problem_in c.args.program.now) c.args.instance c.scenarios.scenario c.scenarios.cells.keys c.in_ok-list.list.items c.requires.made.problem
          (omega (arith, c.scenarios-test.false, c.scenarios-scenario-end.ensures)) within c.scenarios.invariant.all c.in_ok-list.ensures.keys;
      only = subst (HasAll (reason_mentions (root_in c.args.program.now) (problem_in c.args.program.now) (Chance c.args.instance))) (sym c.in_ok-list.ensures.keys)
          c.scenarios.invariant.only;
      ascend = c.in_ok-list.ensures.ascend;
    }
