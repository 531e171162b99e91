use Rattle.std.proofs.Common.{◌≡◌, ◌++◌, map, drop}
use Rattle.sopl_ast.specs.References.{now_of}
use Rattle.compile_names.specs.Variables.{drawn_name}
use Rattle.compile_names.proofs.setting.drawn_names.Given as goal

abbrev pub invariant-stochs : goal.invariant-stochs
invariant-stochs l = map now_of l.names.items ++ map drawn_name (drop l.stoch-index l.stochs) ≡ map drawn_name l.stochs
