-- The parts of expressions as lists.
use Rattle.std.proofs.Common.{◌≡◌, refl, arith, ℕ, ◌<◌, List, [], ◌∷◌, length}
use Rattle.std.specs.List.{AllByRecursion}
use Rattle.term_language.specs.Terms as c
use Rattle.compile_laws.specs.Instances.{Place, TaskTerms, elements, instance, instances, shape_instance, table_of}
use Rattle.compile_laws.proofs.Places.{Keeps, constants_kept}
use Rattle.compile_names.specs.declared.setting.Scenarios.{Scenarios}
use Rattle.sopl_ast.specs.Constants.{all_bindings}
use Rattle.sopl_ast.specs.Known.{Known}
use Rattle.sopl_ast.specs.Lists.{trees}
use Rattle.sopl_ast.specs.Tree as t
use Rattle.sopl_ast.specs.Tree.{Tree, Binders}
use Rattle.unfold_tables.specs.Tables.{table_known}

-- at each place that binders give, the constants are those of the setting
pub bodies_placed : (setting : Scenarios) (known : Known) (P : Known → Type 0) (bs : Binders) → known.constants ≡ (table_known setting.table.now).constants → AllByRecursion P (all_bindings known bs)
    → AllByRecursion (λ (here : Known). (here.constants ≡ (table_known setting.table.now).constants) × P here) (all_bindings known bs)
bodies_placed setting known P bs over are = both (all_bindings known bs) (constants_kept (table_known setting.table.now).constants bs known over) are
  where
    both : (all : List Known) → AllByRecursion (Keeps (table_known setting.table.now).constants) all → AllByRecursion P all
        → AllByRecursion (λ (here : Known). (here.constants ≡ (table_known setting.table.now).constants) × P here) all
    both [] kept held = tt
    both (here ∷ all) kept held = ((kept.0, held.0), both all kept.1 held.1)

abbrev pub task_instance : Tree → Tree → Tree → Place → TaskTerms
task_instance start duration demand place = record { start = (instance place start).term; duration = (instance place duration).term; demand = (instance place demand).term }

-- an element of an array has an index
pub index_is : (place : Place) (name : List ℕ) (es : List Tree) → 0 < length es
    → (shape_instance place (t.Index name (trees es))).term ≡ c.Element (table_of (elements place name)) (instances place (trees es))
index_is place name [] some = absurd (omega (arith, some))
index_is place name (e ∷ es) some = refl
