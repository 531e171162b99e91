-- The names that are left are yet to be bound.
use Rattle.std.proofs.Common.{◌≡◌, drop}
use Rattle.unfold_constants.specs.Here.{known_in}
use Rattle.unfold_laws.specs.Conditions.{placed}
use Rattle.unfold_tables.specs.Tables.{table_known}
use Rattle.compile_counts.proofs.Copied.{bound_further}
use Rattle.compile_counts.proofs.instances.known_at.Given as goal

abbrev pub invariant-bound : goal.invariant-bound
invariant-bound l = bound_further (known_in l.known) (drop l.binding-index l.bound) ≡ placed (table_known l.table) l.env
