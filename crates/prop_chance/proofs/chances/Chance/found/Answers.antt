use Rattle.std.proofs.Common.{◌≡◌, refl, rules, subst, true}
use Rattle.term_program.specs.Programs.{problem_in, root_in}
use Rattle.prop_chance.specs.KeptWeights.{IfSo, KnowsWeight}
use Rattle.prop_chance.proofs.chances.Chance.found.Goals as goal

pub finding_by_all-requires-clause-asked : goal.finding_by_all-requires-clause-asked
finding_by_all-requires-clause-asked c = record {
  made = c.requires.fits.constraint.made;
  inside = c.requires.inside;
  weighed = tt;
  counted = tt;
}

pub finding_by-requires-clause-asked : goal.finding_by-requires-clause-asked
finding_by-requires-clause-asked c = record {
  made = c.requires.fits.constraint.made;
  inside = c.requires.inside;
  weighed = tt;
  counted = tt;
}

pub finding_by-requires-clause-known : goal.finding_by-requires-clause-known
finding_by-requires-clause-known c =
    let p = c.args.self.now in
    let met : c.args.known ≡ true = search rules in
    subst (λ t. IfSo t (KnowsWeight (root_in c.args.program.now) (problem_in c.args.program.now) p.constraint.instance c.args.store.now.box p.weight)) met c.requires.known

pub returns-clause-looked : goal.returns-clause-looked
returns-clause-looked c = record {
  weight = c.requires.looked.weight;
  turns = c.finding_by.ensures.turns;
  alike = record { constraint = refl; room = refl; waits = refl; turns = c.finding_by.ensures.room };
}
