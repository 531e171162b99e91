use Rattle.std.proofs.Common.{refl, rules, w64, SFits, to_z, of_z}
use Rattle.std.proofs.lemmas.Int.{to_z-of_z}
use Rattle.prop_linear.specs.declared.balances.Difference.{Difference}
use Rattle.prop_linear.proofs.Finding.{light_in, parts_kept, tells_of}
use Rattle.prop_linear.proofs.linear_constraint.LinearConstraint.difference.Goals as goal

pub returns-clause-light : goal.returns-clause-light
returns-clause-light c =
    let fits : SFits w64 c.args.self.now.constant = search rules in
    let d : Difference = record { op = c.args.self.now.op; constant = to_z w64 (of_z w64 c.args.self.now.constant); parts = c.as_slice.result; view = c.view_of.result } in
    light_in c.args.self.now c.args._program.now d c.args.store.now.box c.requires.fits c.view_of.ensures c.requires.inside (to_z-of_z w64 c.args.self.now.constant fits)
    (parts_kept c.args.self.now c.args._program.now c.as_slice.result.now c.requires.fits c.as_slice.ensures.value)

pub returns-clause-tells : goal.returns-clause-tells
returns-clause-tells c =
    let fits : SFits w64 c.args.self.now.constant = search rules in
    let d : Difference = record { op = c.args.self.now.op; constant = to_z w64 (of_z w64 c.args.self.now.constant); parts = c.as_slice.result; view = c.view_of.result } in
    tells_of c.args.self.now c.args._program.now d c.requires.fits refl (to_z-of_z w64 c.args.self.now.constant fits)
    (parts_kept c.args.self.now c.args._program.now c.as_slice.result.now c.requires.fits c.as_slice.ensures.value)

pub returns-clause-constant : goal.returns-clause-constant
returns-clause-constant c =
    let fits : SFits w64 c.args.self.now.constant = search rules in
    to_z-of_z w64 c.args.self.now.constant fits
