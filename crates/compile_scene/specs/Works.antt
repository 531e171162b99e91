-- What is built, and the arrays that are kept.
use Rattle.std.specs.Prelude.{◌≡◌, ◌<◌, ℕ, List, length, map, get_or}
use Rattle.std.specs.List.{AllByRecursion}
use Rattle.std.specs.declared.alloc.Global.{Global}
use Rattle.std.specs.declared.vec.Vec.{Vec}
use Rattle.term_language.specs.Terms.{Table}
use Rattle.compile_names.specs.declared.setting.Scenarios.{Scenarios}
use Rattle.sopl_scen.specs.Layout.{count_in}
use Rattle.compile_scene.specs.Scenes.{IsLaid, array_in, root_in}
use Rattle.compile_scene.specs.declared.work.Arrays.{Arrays}
use Rattle.compile_scene.specs.declared.work.Arrays.TheVariants.{Same, Each}
use Rattle.compile_scene.specs.declared.work.Lowering.{Lowering}
use Rattle.sopl_term.specs.Built.{Grows, IsBuilding, asked_direction, asked_worst, built, problem_built, root_built}
use Rattle.term_store.specs.declared.ids.TableId.{TableId}
use Rattle.term_nodes.specs.Things.{Thing, a_table}
pub use Rattle.term_store.specs.Additions.{Stands}

-- what stands at each number of a work
abbrev pub things_of : Lowering → List Thing
things_of work = built work.builder

-- the number of the array of a scenario, and that there is one
abbrev pub id_in : Arrays → ℕ → ℕ
id_in (Same id) i = id.0
id_in (Each ids) i = get_or (map (λ (id : TableId). id.0) ids.items) i 0

abbrev pub HasArray : Arrays → ℕ → Type 0
HasArray (Same id) i = Unit {0}
HasArray (Each ids) i = i < length ids.items

-- in each of so many scenarios there is an array, and it is this one
pub record AreArrays (things : List Thing) (count : ℕ) (tables : ℕ → Table) (arrays : Arrays) : Type 0 where
  pub there : (i : ℕ) → i < count → HasArray arrays i
  pub stand : (i : ℕ) → i < count → Stands things (id_in arrays i) (a_table (tables i))

-- the names whose arrays are kept, each with these
abbrev pub entries_in : Lowering → List (Vec ℕ Global × Arrays)
entries_in work = work.arrays.entries

-- all that are kept are the arrays of their names in a setting
abbrev pub AreKept : Scenarios → List Thing → List (Vec ℕ Global × Arrays) → Type 0
AreKept setting things entries =
    AllByRecursion (λ (entry : Vec ℕ Global × Arrays). AreArrays things (count_in setting.tree.now) (array_in setting entry.0.items) entry.1) entries

-- a work over the cells of a setting
pub record IsReady (setting : Scenarios) (work : Lowering) : Type 0 where
  pub laid : IsLaid setting
  pub building : IsBuilding work.builder
  pub root : root_built work.builder ≡ root_in setting
  pub arrays : AreKept setting (things_of work) (entries_in work)

-- nothing but terms, conditions and arrays was added
pub record Extends (setting : Scenarios) (before after : Lowering) : Type 0 where
  pub ready : IsReady setting after
  pub grows : Grows (things_of before) (things_of after)
  pub problem : problem_built after.builder ≡ problem_built before.builder
  pub direction : asked_direction after.builder ≡ asked_direction before.builder
  pub worst : asked_worst after.builder ≡ asked_worst before.builder
