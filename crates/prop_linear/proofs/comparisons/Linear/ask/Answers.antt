use Rattle.std.proofs.Common.{◌∷◌, [], List, ap, length, refl, subst, sym, ◌∙◌}
use Rattle.box_problem.specs.Box.{Box}
use Rattle.term_math.specs.declared.forms.Coefficient.{Coefficient}
use Rattle.term_program.proofs.Lawful.{inside_root}
use Rattle.term_program.specs.Programs.{root_in}
use Rattle.term_program.specs.Stated.{box_problem_of}
use Rattle.prop_core.specs.Findings.{Finds}
use Rattle.box_problem.specs.Box.{Inside}
use Rattle.prop_linear.specs.declared.balances.Difference.{Difference}
use Rattle.prop_linear.specs.Balances.{box_of}
use Rattle.prop_linear.specs.Kinds.{TellsOf, reason_of, reasons_of}
use Rattle.prop_linear.specs.KeptSums.{AreWidths, HasPlaces}
use Rattle.prop_linear.proofs.Renewing.{sums_kept, sums_read}
use Rattle.prop_linear.proofs.comparisons.Linear.ask.Goals as goal

pub difference-difference-requires-clause-inside : goal.difference-difference-requires-clause-inside
difference-difference-requires-clause-inside c = inside_root c.args.program.now c.args.store.now.box c.requires.inside

pub renew-requires-clause-places : goal.renew-requires-clause-places
renew-requires-clause-places c =
    subst (λ (parts : List Coefficient). HasPlaces (length parts) c.args.self.now.sum) (sym c.difference-difference.ensures.parts) c.requires.fits.places

pub renew-requires-clause-sums : goal.renew-requires-clause-sums
renew-requires-clause-sums c =
    let p = c.args.self.now.constraint in
    let told = c.difference-difference.ensures in
    sums_read p.constant p.parts.items c.args.store.now.box c.difference-difference.result c.args.self.now.sum told.constant told.parts told.seen c.requires.sum

pub finding-finding-requires-clause-widths : goal.finding-finding-requires-clause-widths
finding-finding-requires-clause-widths c =
    subst (λ (d : Difference). AreWidths d c.renew.new.self.widths) (sym c.balance-balance.ensures.same) c.renew.ensures.known.widths

pub returns : goal.returns
returns c =
    let program = c.args.program.now in
    let problem = box_problem_of program in
    let p = c.args.self.now.constraint in
    let b = c.args.store.now.box in
    let told = c.difference-difference.ensures in
    let d = c.balance-balance.result.difference in
    let same = c.balance-balance.ensures.same in
    let seen = ap box_of same ∙ told.seen in
    let inside = subst (λ (x : Box). Inside x (root_in program)) (sym seen) (inside_root program b c.requires.inside) in
    let finds =
    subst (λ (x : Box). Finds problem (reason_of p ∷ []) c.args.best x c.finding-finding.result) seen
    (c.finding-finding.ensures program c.args.best (subst (TellsOf program (reason_of p)) (sym same) told.tells) inside)
    in
    record {
      finds = finds;
      in_step = record {
        sum = sums_kept p.constant p.parts.items b c.difference-difference.result c.renew.new.self told.constant told.parts told.seen c.renew.ensures.sums;
        rested = c.rested_by-self.ensures problem (reasons_of c.args.self.now) b finds;
      };
      constraint = refl;
      still_fits = λ other fits. record {
        constraint = fits.constraint;
        watched = fits.watched;
        listed = fits.listed;
        looks = fits.looks;
        places = subst (λ (parts : List Coefficient). HasPlaces (length parts) c.renew.new.self) told.parts c.renew.ensures.places;
      };
      fitted_before = λ other fits. record {
        constraint = fits.constraint;
        watched = fits.watched;
        listed = fits.listed;
        looks = fits.looks;
        places = c.requires.fits.places;
      };
    }
