use Rattle.std.proofs.Common.{None}
use Rattle.term_nodes.specs.Things.{cond_at}
use Rattle.term_program.specs.Programs.{problem_in, root_in, things_in}
use Rattle.prop_shave.specs.declared.probes.Probe.{Probe}
use Rattle.prop_term.proofs.Finding.{false_dead, found_so, hard_cells, true_rests, unknown_whole}
use Rattle.prop_term.proofs.any_term.AnyTerm.found.Goals as goal

pub finding_within-requires-clause-asked : goal.finding_within-requires-clause-asked
finding_within-requires-clause-asked c = record {
  made = c.requires.fits.made;
  inside = c.requires.inside;
  weighed = tt;
  counted = tt;
}

pub finding_within-requires-clause-whole : goal.finding_within-requires-clause-whole
finding_within-requires-clause-whole c =
    let q : Probe = record { program = c.args.program; store = c.args.store; reason = c.reason.result; best = c.args.best; weighed = None; counted = None } in
    unknown_whole q c.args.self.now.instance c.args.self.now.scenario (cond_at (things_in c.args.program.now) c.hard-cond.result.0) c.kleene.result c.reason.ensures
    c.hard-cond.ensures.condition c.kleene.ensures c.in-Unknown.is

pub finding_within-requires-clause-all : goal.finding_within-requires-clause-all
finding_within-requires-clause-all c =
    hard_cells (root_in c.args.program.now) (problem_in c.args.program.now) c.args.self.now.instance c.args.self.now.scenario c.reason.result
    (cond_at (things_in c.args.program.now) c.hard-cond.result.0) c.cells_of.result.now c.reason.ensures c.hard-cond.ensures.condition c.cells_of.ensures.cells

pub returns-in-False : goal.returns-in-False
returns-in-False c = record {
  finds = false_dead c.args.program.now c.args.store.now.box c.args.self.now.instance c.args.self.now.scenario c.args.best (cond_at (things_in c.args.program.now) c.hard-cond.result.0)
      c.reason.result c.kleene.result c.reason.ensures c.hard-cond.ensures.condition c.kleene.ensures c.in-False.is;
}

pub returns-in-True : goal.returns-in-True
returns-in-True c = record {
  finds = true_rests c.args.program.now c.args.store.now.box c.args.self.now.instance c.args.self.now.scenario c.args.best (cond_at (things_in c.args.program.now) c.hard-cond.result.0)
      c.kleene.result c.requires.fits.made c.requires.inside c.hard-cond.ensures.condition c.kleene.ensures c.in-True.is;
}

pub returns-in-Unknown : goal.returns-in-Unknown
returns-in-Unknown c = record {
  finds = found_so c.args.program.now _ c.reason.result c.args.best c.args.store.now.box c.finding_within.result c.reason.ensures c.finding_within.ensures.finds;
}
