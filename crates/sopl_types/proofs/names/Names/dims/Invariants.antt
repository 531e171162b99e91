-- The loop has found the first mistake and the names of the dimensions so far.
use Rattle.std.proofs.Common.{◌≡◌, drop}
use Rattle.sopl_ast.specs.Mistakes.{of_dims, bind_dims}
use Rattle.sopl_types.specs.Earliest.{earlier_of, earliest}
use Rattle.sopl_types.specs.Known.{known_in}
use Rattle.sopl_types.proofs.names.Names.dims.Given as goal

abbrev pub invariant-dims : goal.invariant-dims
invariant-dims l = record {
  names : bind_dims (drop l.dim-index l.dims) (known_in l.names) ≡ bind_dims l.dims (known_in l.self);
  mistakes : earlier_of l.first (earliest (of_dims (known_in l.self) (known_in l.names) (drop l.dim-index l.dims)))
      ≡ earliest (of_dims (known_in l.self) (known_in l.self) l.dims);
}
