use Rattle.std.proofs.Common.{◌≡◌, ◌++◌, map, drop}
use Rattle.sopl_ast.specs.References.{now_of}
use Rattle.compile_names.specs.Variables.{decided_name}
use Rattle.compile_names.proofs.setting.decided_names.Given as goal

abbrev pub invariant-decisions : goal.invariant-decisions
invariant-decisions l = map now_of l.names.items ++ map decided_name (drop l.decision-index l.decisions) ≡ map decided_name l.decisions
