-- What stands in a work stays where more is added, and what is added stands.
use Rattle.std.proofs.Common.{◌≡◌, ◌∙◌, refl, sym, subst, arith, ℕ, List, [], ◌∷◌}
use Rattle.std.proofs.Common.{Result, Ok, Err, IfOk, OnOk}
use Rattle.std.specs.declared.alloc.Global.{Global}
use Rattle.std.specs.declared.vec.Vec.{Vec}
use Rattle.term_language.specs.Terms.{Table}
use Rattle.compile_names.specs.declared.setting.Scenarios.{Scenarios}
use Rattle.sopl_scen.specs.Layout.{count_in}
use Rattle.compile_scene.specs.Scenes.{IsLaid, array_in, root_in}
use Rattle.compile_scene.specs.Works.{AreArrays, AreKept, Extends, IsReady, Stands, entries_in, id_in, things_of}
use Rattle.compile_scene.specs.declared.work.Arrays.{Arrays}
use Rattle.compile_scene.specs.declared.work.Lowering.{Lowering}
use Rattle.sopl_term.specs.Built.{Grows, IsBuilding, IsKept, built, root_built}
use Rattle.sopl_term.specs.declared.builder.Builder.{Builder}
use Rattle.term_store.specs.declared.ids.TableId.{TableId}
use Rattle.term_nodes.specs.Things.{Thing, a_table}

-- Growth.

pub stands_grows : (before after : List Thing) (id : ℕ) (thing : Thing) → Grows before after → Stands before id thing → Stands after id thing
stands_grows before after id thing grows stands = record {
  exists = omega (arith, stands.exists, grows.more);
  is = grows.same id stands.exists ∙ stands.is;
}

pub grows_twice : (first second third : List Thing) → Grows first second → Grows second third → Grows first third
grows_twice first second third once twice = record {
  more = omega (arith, once.more, twice.more);
  same = λ id below. twice.same id (omega (arith, below, once.more)) ∙ once.same id below;
}

pub grows_not : (things : List Thing) → Grows things things
grows_not things = record { more = omega arith; same = λ id below. refl }

pub arrays_grow : (before after : List Thing) (count : ℕ) (tables : ℕ → Table) (arrays : Arrays) → Grows before after → AreArrays before count tables arrays → AreArrays after count tables arrays
arrays_grow before after count tables arrays grows are = record {
  there = are.there;
  stand = λ i below. stands_grows before after (id_in arrays i) (a_table (tables i)) grows (are.stand i below);
}

pub kept_grow : (setting : Scenarios) (before after : List Thing) (entries : List (Vec ℕ Global × Arrays)) → Grows before after → AreKept setting before entries → AreKept setting after entries
kept_grow setting before after [] grows kept = tt
kept_grow setting before after (e ∷ entries) grows kept =
    (arrays_grow before after (count_in setting.tree.now) (array_in setting e.0.items) e.1 grows kept.0, kept_grow setting before after entries grows kept.1)

-- a work in which nothing is kept yet
pub ready_new : (setting : Scenarios) (work : Lowering) → IsLaid setting → IsBuilding work.builder → root_built work.builder ≡ root_in setting → entries_in work ≡ [] → IsReady setting work
ready_new setting work laid building root none = record {
  laid = laid;
  building = building;
  root = root;
  arrays = subst (AreKept setting (things_of work)) (sym none) tt;
}

-- a work over a builder to which something was added
pub extended : (setting : Scenarios) (work : Lowering) (b : Builder) → IsKept work.builder b → IsReady setting work → Extends setting work (record work { builder = b })
extended setting work b kept ready = record {
  ready = record {
    laid = ready.laid;
    building = kept.building;
    root = kept.root ∙ ready.root;
    arrays = kept_grow setting (things_of work) (built b) (entries_in work) kept.grows ready.arrays;
  };
  grows = kept.grows;
  problem = kept.problem;
  direction = kept.direction;
  worst = kept.worst;
}

pub extends_twice : (setting : Scenarios) (first second third : Lowering) → Extends setting first second → Extends setting second third → Extends setting first third
extends_twice setting first second third once twice = record {
  ready = twice.ready;
  grows = grows_twice (things_of first) (things_of second) (things_of third) once.grows twice.grows;
  problem = twice.problem ∙ once.problem;
  direction = twice.direction ∙ once.direction;
  worst = twice.worst ∙ once.worst;
}

pub extends_not : (setting : Scenarios) (work : Lowering) → IsReady setting work → Extends setting work work
extends_not setting work ready = record { ready = ready; grows = grows_not (things_of work); problem = refl; direction = refl; worst = refl }

-- Whatever comes.

pub extends_either : {A B : Type 0} (result : Result A B) (setting : Scenarios) (before after : Lowering) → Extends setting before after → OnOk result (Extends setting before after)
extends_either (Ok x) setting before after extends = extends
extends_either (Err y) setting before after extends = tt

pub stands_either : {B : Type 0} (result : Result TableId B) (things : List Thing) (made told : Table) → made ≡ told → IfOk result (λ (id : TableId). Stands things id.0 (a_table made))
    → IfOk result (λ (id : TableId). Stands things id.0 (a_table told))
stands_either (Ok id) things made told is stands = subst (λ (t : Table). Stands things id.0 (a_table t)) is stands
stands_either (Err y) things made told is stands = tt
