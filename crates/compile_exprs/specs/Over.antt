-- What is known at a place in a text of a setting.
use Rattle.std.specs.Prelude.{◌≡◌}
use Rattle.compile_names.specs.declared.setting.Scenarios.{Scenarios}
use Rattle.unfold_constants.specs.Here.{known_in}
use Rattle.unfold_constants.specs.declared.constant_scope.ConstantScope.{ConstantScope}
use Rattle.unfold_tables.specs.Tables.{table_known}

-- its constants are those of the setting
abbrev pub IsOver : Scenarios → ConstantScope → Type 0
IsOver setting known = (known_in known).constants ≡ (table_known setting.table.now).constants
