-- When an expression is in a scenario what it is in the one before it.
use Rattle.std.specs.Prelude.{◌≡◌, ◌≤◌, ◌<◌, ◌-◌, ℕ, List, Option, Some, None, length}
use Rattle.compile_laws.specs.Measured.{first_large}
use Rattle.compile_laws.specs.Repeating.{Follows}
use Rattle.compile_names.specs.declared.setting.Scenarios.{Scenarios}
use Rattle.compile_scene.specs.Scenes.{root_in}
use Rattle.compile_scene.specs.Works.{Stands, things_of}
use Rattle.compile_scene.specs.declared.work.Lowering.{Lowering}
use Rattle.sopl_ast.specs.Tree.{Tree}
use Rattle.sopl_scen.specs.Layout.{Layout, value_in}
use Rattle.term_language.specs.Terms.{Term}
use Rattle.term_nodes.specs.Things.{Thing}

-- all that stands in an expression follows from so many first variables, which there are
pub record FollowsFrom (setting : Scenarios) (e : Tree) (count : ℕ) : Type 0 where
  pub follows : Follows setting.decisions.now setting.stochs.now e count
  pub few : count ≤ length setting.stochs.now

-- so many first variables have the values that they have in the scenario before this one
pub record Repeats (tree : Layout) (count i : ℕ) : Type 0 where
  pub later : 1 ≤ i
  pub same : (j : ℕ) → j < count → value_in tree j (i - 1) ≡ value_in tree j i

-- so do those of an expression, if it is known how many these are
abbrev pub DoRepeat : Layout → Option ℕ → ℕ → Type 0
DoRepeat tree None i = ⊥
DoRepeat tree (Some count) i = Repeats tree count i

-- a thing stands already, and no term in it is too large
pub record IsAlready (setting : Scenarios) (work : Lowering) (id : ℕ) (thing : Thing) (sizes : List Term) : Type 0 where
  pub stands : Stands (things_of work) id thing
  pub small : first_large (root_in setting) sizes ≡ None

-- there is a scenario before this one, and what it has stands already
pub record IsLast (setting : Scenarios) (work : Lowering) (id : ℕ) (thing : ℕ → Thing) (sizes : ℕ → List Term) (i : ℕ) : Type 0 where
  pub later : 1 ≤ i
  pub already : IsAlready setting work id (thing (i - 1)) (sizes (i - 1))
