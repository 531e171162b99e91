use Rattle.sopl_ast.specs.Arrays.{dimension_events, dimensions_of}
use Rattle.unfold_constants.specs.Here.{known_in}
use Rattle.unfold_declarations.specs.Shown.{dimensions_in}
use Rattle.unfold_declarations.proofs.Values.{reached_so}
use Rattle.unfold_variables.proofs.Results.{shown_so}
use Rattle.unfold_variables.proofs.calls.dimensions_at.Goals as goal

pub returns : goal.returns
returns c =
    reached_so (λ found. dimensions_in found.items) (dimensions_of (known_in c.args.known.now) c.args.dims.now) _ _
    (dimension_events (known_in c.args.known.now) c.args.dims.now) c.dimensions.result c.dimensions.ensures.met
    (shown_so (λ found. dimensions_in found.items) _ c.dimensions.result c.dimensions.ensures.found)
