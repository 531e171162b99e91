use Rattle.std.proofs.Common.{[]}
use Rattle.unfold_constants.specs.Here.{known_in}
use Rattle.unfold_constants.proofs.Outcomes.{walks_so, worth_so}
use Rattle.unfold_declarations.specs.Shown.{dimensions_in}
use Rattle.unfold_declarations.proofs.DeclaringAgreement.{agree_dimensions}
use Rattle.unfold_declarations.proofs.Values.{value_is}
use Rattle.unfold_declarations.proofs.arrays.dimensions.Goals as goal

pub returns-clause-met : goal.returns-clause-met
returns-clause-met c =
    walks_so (λ found. dimensions_in found.items) _ _ c.listed_dimensions.result (agree_dimensions c.args.dims.now (known_in c.args.known.now) []) c.listed_dimensions.ensures

pub returns-clause-found : goal.returns-clause-found
returns-clause-found c =
    value_is (λ found. dimensions_in found.items) _ c.listed_dimensions.result
    (worth_so (λ found. dimensions_in found.items) _ _ c.listed_dimensions.result (agree_dimensions c.args.dims.now (known_in c.args.known.now) []) c.listed_dimensions.ensures)
