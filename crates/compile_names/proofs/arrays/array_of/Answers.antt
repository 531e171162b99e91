use Rattle.std.proofs.Common.{ap, ◌∙◌, map}
use Rattle.sopl_ast.specs.References.{now_of}
use Rattle.compile_names.proofs.Planning.{planned_array}
use Rattle.compile_names.proofs.arrays.array_of.Goals as goal

pub returns-clause-table : goal.returns-clause-table
returns-clause-table c =
    planned_array c.args.sources.now c.as_slice.result.now (record { sets = c.in_ok-plan.plan.sets; origins = c.in_ok-origins.origins }) c.as_slice-2.result.now
    (ap (map now_of) c.as_slice.ensures.value ∙ c.in_ok-indices.ensures) c.in_ok-plan.ensures.sets (c.as_slice-2.ensures.value ∙ c.in_ok-plan.ensures.order) c.in_ok-origins.ensures.items
