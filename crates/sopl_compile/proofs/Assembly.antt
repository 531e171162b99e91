-- The setting of a problem, and its limits in order.
use Rattle.std.proofs.Common.{arith, ◌≡◌, ap, ◌≤◌, ◌^◌, List, length}
use Rattle.compile_laws.specs.Root.{root_box}
use Rattle.compile_names.specs.declared.setting.Scenarios.{Scenarios}
use Rattle.sopl_scen.specs.Layout.{cells_for}
use Rattle.compile_scene.specs.Scenes.{root_in}
use Rattle.sopl_ast.specs.Cells.{cells}
use Rattle.sopl_ast.specs.Instances.{Decision, Problem, Stochastic}
use Rattle.sopl_ast.specs.Unfolding.{problem_of, text_events}
use Rattle.sopl_ast.specs.Whole.{ModelTree}
use Rattle.sopl_compile.specs.Posed.{IsSettingOf}
use Rattle.unfold_laws.proofs.Counts.{instances_are_counted}
use Rattle.unfold_laws.specs.Passing.{NothingFails}

-- variables and decisions have numbers of 32 bits
pub few_drawn : (model : ModelTree) (ss : List Stochastic) → NothingFails (text_events model) → ss ≡ (problem_of model).stochastics → length ss ≤ 2 ^ 32
few_drawn model ss passes is = omega (arith, ap (length {A = Stochastic}) is, instances_are_counted model passes)

pub few_decided : (model : ModelTree) (ds : List Decision) → NothingFails (text_events model) → ds ≡ (problem_of model).decisions → length ds ≤ 2 ^ 32
few_decided model ds passes is = omega (arith, ap (length {A = Decision}) is, instances_are_counted model passes)

-- the box of all points
pub setting_root : (problem : Problem) (setting : Scenarios) → IsSettingOf problem setting → root_in setting ≡ root_box (cells problem)
setting_root problem setting of = λ i. root_box (cells_for (of.decisions i) (of.stochastics i))
