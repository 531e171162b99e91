-- The scenarios of a setting, and what stands in each of them for a name.
use Rattle.std.specs.Prelude.{◌<◌, ℕ, List, length}
use Rattle.box_problem.specs.Box.{Box}
use Rattle.term_language.specs.Terms.{Table}
use Rattle.compile_laws.specs.Instances.{Place, elements, table_of}
use Rattle.compile_laws.specs.Root.{root_box}
use Rattle.compile_names.specs.Places.{place_in}
use Rattle.compile_names.specs.declared.setting.Scenarios.{Scenarios}
use Rattle.sopl_scen.specs.Layout.{IsTreeOf, cells_for}
use Rattle.compile_scene.specs.declared.scene.NumberedScenario.{NumberedScenario}
use Rattle.sopl_ast.specs.Known.{Known}
use Rattle.term_math.specs.declared.elements.Element.{Element}
use Rattle.term_math.specs.declared.elements.Element.TheVariants.{Fixed, Free}
use Rattle.unfold_tables.specs.Tables.{table_known}

-- the tree of a setting is that of its stochastic variables and decisions
abbrev pub IsLaid : Scenarios → Type 0
IsLaid setting = IsTreeOf setting.decisions.now setting.stochs.now setting.tree.now

-- the box of all points
abbrev pub root_in : Scenarios → Box
root_in setting = root_box (cells_for setting.decisions.now setting.stochs.now)

-- where an expression is instantiated in a scenario
abbrev pub place_of : NumberedScenario → Known → Place
place_of scene known = place_in scene.setting.now.decisions.now scene.setting.now.stochs.now scene.setting.now.tree.now scene.scenario known

-- the array of a name in a scenario
abbrev pub array_in : Scenarios → List ℕ → ℕ → Table
array_in setting name i =
    table_of (elements (place_in setting.decisions.now setting.stochs.now setting.tree.now i (table_known setting.table.now)) name)

-- a number, or one of so many cells
abbrev pub HasCell : ℕ → Element → Type 0
HasCell count (Fixed z) = Unit {0}
HasCell count (Free cell) = cell < count
