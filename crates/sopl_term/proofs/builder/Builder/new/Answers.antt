use Rattle.std.proofs.Common.{◌∙◌, rules}
use Rattle.sopl_term.proofs.Nearness.{root_counted, root_near}
use Rattle.sopl_term.proofs.builder.Builder.new.Goals as goal

pub returns-clause-building : goal.returns-clause-building
returns-clause-building c =
    let is = c.in_ok-nodes.ensures.root ∙ c.in_ok-store.ensures.root in
    record {
      store = search rules;
      cells = root_counted c.args.roots.now _ is;
      near = root_near c.args.roots.now _ c.requires.near is;
      nodes = search rules;
      problem = search rules;
      light = search rules;
      few_scenarios = search rules;
      few_hards = search rules;
      few_chances = search rules;
      hards = search rules;
      chances = search rules;
      thresholds = search rules;
    }
