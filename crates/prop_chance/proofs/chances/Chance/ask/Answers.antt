use Rattle.std.proofs.Common.{[], ◌∷◌, length, refl, subst, sym}
use Rattle.sopl_base.specs.declared.reason.Reason.TheVariants as reason
use Rattle.prop_core.specs.Findings.{Finds}
use Rattle.prop_core.specs.Watches.{HasRested}
use Rattle.prop_shave.specs.ChanceSums.{is_touched, left_over}
use Rattle.term_program.proofs.Lawful.{inside_root}
use Rattle.term_program.specs.Programs.{problem_in, root_in}
use Rattle.term_program.specs.Stated.{box_problem_of}
use Rattle.prop_chance.specs.Chances.{reasons_of}
use Rattle.prop_chance.proofs.Constraints.{made_on, still_fits}
use Rattle.prop_chance.proofs.Turned.{turns_kept}
use Rattle.prop_chance.proofs.chances.Chance.ask.Goals as goal

pub look-known-requires-clause-inside : goal.look-known-requires-clause-inside
look-known-requires-clause-inside c = inside_root c.args.program.now c.args.store.now.box c.requires.inside

pub found-finding-requires-clause-fits : goal.found-finding-requires-clause-fits
found-finding-requires-clause-fits c = still_fits c.args.self.now c.look-known.new.self c.args.program.now c.look-known.ensures.looked.alike c.requires.fits

pub found-finding-requires-clause-inside : goal.found-finding-requires-clause-inside
found-finding-requires-clause-inside c = inside_root c.args.program.now c.args.store.now.box c.requires.inside

pub found-finding-requires-clause-looked : goal.found-finding-requires-clause-looked
found-finding-requires-clause-looked c = record {
  weight = c.look-known.ensures.looked.weight;
  turns = c.look-known.ensures.looked.turns;
  alike = record { constraint = refl; room = refl; waits = refl; turns = refl };
}

pub returns : goal.returns
returns c =
    let root = root_in c.args.program.now in
    let terms = problem_in c.args.program.now in
    let problem = box_problem_of c.args.program.now in
    let b = c.args.store.now.box in
    let p = c.found-finding.new.self in
    let alike = made_on c.args.self.now c.look-known.new.self p c.look-known.ensures.looked.alike c.found-finding.ensures.looked.alike in
    let finds = c.found-finding.ensures.finds in
    record {
      finds = subst (λ k. Finds problem (reason.Chance k.instance ∷ []) c.args.best b c.found-finding.result) c.look-known.ensures.looked.alike.constraint finds;
      in_step = record {
        weight = c.found-finding.ensures.looked.weight;
        turns = turns_kept (left_over root terms p.constraint.instance) (is_touched root terms p.constraint.instance) (length terms.weights) b p.weight.outdated p.constraint.cells.items p.turns
            c.found-finding.ensures.looked.turns;
        rested = subst (λ k. HasRested problem (reason.Chance k.instance ∷ []) c.rested_by-self.result b) (sym c.found-finding.ensures.looked.alike.constraint)
            (c.rested_by-self.ensures problem (reasons_of c.look-known.new.self) b finds);
      };
      constraint = alike.constraint;
      still_fits = λ program fits.
          still_fits c.args.self.now _ program (record { constraint = alike.constraint; room = alike.room; waits = alike.waits; turns = alike.turns }) fits;
      fitted_before = λ program fits.
          still_fits _ c.args.self.now program (record { constraint = sym alike.constraint; room = sym alike.room; waits = sym alike.waits; turns = sym alike.turns }) fits;
    }
