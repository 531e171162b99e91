-- The arrays that are kept of a name.
use Rattle.std.proofs.Common.{◌≡◌, ◌∙◌, refl, ap, sym, subst, ℕ, Bool, true, false, cond, nat_eq, List, [], ◌∷◌, Some, None}
use Rattle.std.proofs.lemmas.Slice.Eq.{bytes_eq-Decides}
use Rattle.std.specs.Cmp.Lexicographic.{pointwise}
use Rattle.std.specs.Map.{lookup}
use Rattle.std.specs.Option.{unwrap_or}
use Rattle.std.specs.declared.alloc.Global.{Global}
use Rattle.std.specs.declared.vec.Vec.{Vec}
use Rattle.indexmap.specs.IndexMap.{insert_entry}
use Rattle.compile_names.specs.declared.setting.Scenarios.{Scenarios}
use Rattle.sopl_scen.specs.Layout.{count_in}
use Rattle.compile_names.proofs.Grouping.{same_name}
use Rattle.compile_scene.specs.Scenes.{array_in}
use Rattle.compile_scene.specs.Works.{AreArrays, AreKept, Extends, Stands, entries_in, things_of}
use Rattle.compile_scene.specs.declared.work.Arrays.{Arrays}
use Rattle.compile_scene.specs.declared.work.Lowering.{Lowering}
use Rattle.sopl_term.specs.Built.{Grows, IsBuilding, asked_direction, asked_worst, built, problem_built, root_built}
use Rattle.sopl_term.specs.declared.builder.Builder.{Builder}
use Rattle.term_nodes.specs.Things.{Thing}

abbrev Entry : Type 0
Entry = Vec ℕ Global × Arrays

-- the test of a key
abbrev pub is_key : List ℕ → Vec ℕ Global → Bool
is_key name key = pointwise nat_eq name key.items

none_there : (found : Arrays) → None ≡ Some found → ⊥
none_there found is = cc

module _ (setting : Scenarios) (things : List Thing) where
  -- the arrays of a name
  abbrev AreOf : List ℕ → Arrays → Type 0
  AreOf name arrays = AreArrays things (count_in setting.tree.now) (array_in setting name) arrays

  pub kept_found : (name : List ℕ) (entries : List Entry) (found : Arrays) → AreKept setting things entries → lookup (is_key name) entries ≡ Some found → AreOf name found
  kept_found name [] found kept is = absurd (none_there found is)
  kept_found name (e ∷ entries) found kept is = by (is_key name e.0) refl is (λ at. kept_found name entries found kept.1 at)
    where
      by : (b : Bool) → is_key name e.0 ≡ b → cond b (Some e.1) (lookup (is_key name) entries) ≡ Some found
          → (lookup (is_key name) entries ≡ Some found → AreOf name found) → AreOf name found
      by true same at later =
          subst (λ (arrays : Arrays). AreOf name arrays) (ap (λ o. unwrap_or o e.1) at) (subst (λ (n : List ℕ). AreOf n e.1) (sym (same_name name e.0.items same)) kept.0)
      by false apart at later = later at

  pub kept_inserted : (name : List ℕ) (entries : List Entry) (key : Vec ℕ Global) (arrays : Arrays) → key.items ≡ name → AreKept setting things entries → AreOf name arrays
      → AreKept setting things (insert_entry (λ (a : Vec ℕ Global) (b : Vec ℕ Global). pointwise nat_eq a.items b.items) entries key arrays)
  kept_inserted name [] key arrays is kept are = (subst (λ (n : List ℕ). AreOf n arrays) (sym is) are, tt)
  kept_inserted name (e ∷ entries) key arrays is kept are = by (is_key key.items e.0) refl (kept_inserted name entries key arrays is kept.1 are)
    where
      by : (b : Bool) → is_key key.items e.0 ≡ b
          → AreKept setting things (insert_entry (λ (a : Vec ℕ Global) (b : Vec ℕ Global). pointwise nat_eq a.items b.items) entries key arrays)
          → AreKept setting things (cond b ((e.0, arrays) ∷ entries) (e ∷ insert_entry (λ (a : Vec ℕ Global) (b : Vec ℕ Global). pointwise nat_eq a.items b.items) entries key arrays))
      by true same later = (subst (λ (n : List ℕ). AreOf n arrays) (sym is ∙ same_name key.items e.0.items same) are, kept.1)
      by false apart later = (kept.0, later)

-- the arrays that are looked up behind an entry
key_is : (name : List ℕ) (key : Vec ℕ Global) → key.items ≡ name → is_key name key ≡ true
key_is name key is = (bytes_eq-Decides name key.items).1 (sym is)

abbrev with_entry : List Entry → Vec ℕ Global → Arrays → List Entry
with_entry entries key arrays = insert_entry (λ (a : Vec ℕ Global) (b : Vec ℕ Global). pointwise nat_eq a.items b.items) entries key arrays

pub found_inserted : (name : List ℕ) (entries : List Entry) (key : Vec ℕ Global) (arrays : Arrays) → key.items ≡ name → lookup (is_key name) (with_entry entries key arrays) ≡ Some arrays
found_inserted name [] key arrays is = ap (λ b. cond b (Some arrays) None) (key_is name key is)
found_inserted name (e ∷ entries) key arrays is = by (is_key key.items e.0) refl (found_inserted name entries key arrays is)
  where
    by : (b : Bool) → is_key key.items e.0 ≡ b → lookup (is_key name) (with_entry entries key arrays) ≡ Some arrays
        → lookup (is_key name) (cond b ((e.0, arrays) ∷ entries) (e ∷ with_entry entries key arrays)) ≡ Some arrays
    by true same later = ap (λ b. cond b (Some arrays) (lookup (is_key name) entries)) (ap (λ n. is_key n e.0) (sym is) ∙ same)
    by false apart later = ap (λ b. cond b (Some e.1) (lookup (is_key name) (with_entry entries key arrays))) (ap (λ n. is_key n e.0) (sym is) ∙ apart) ∙ later

pub others_stay : (name : List ℕ) (entries : List Entry) (key : Vec ℕ Global) (arrays : Arrays) → key.items ≡ name → (other : List ℕ) → pointwise nat_eq other name ≡ false
    → lookup (is_key other) (with_entry entries key arrays) ≡ lookup (is_key other) entries
others_stay name [] key arrays is other differs = ap (λ b. cond b (Some arrays) None) (ap (pointwise nat_eq other) is ∙ differs)
others_stay name (e ∷ entries) key arrays is other differs = by (is_key key.items e.0) refl (others_stay name entries key arrays is other differs)
  where
    by : (b : Bool) → is_key key.items e.0 ≡ b → lookup (is_key other) (with_entry entries key arrays) ≡ lookup (is_key other) entries
        → lookup (is_key other) (cond b ((e.0, arrays) ∷ entries) (e ∷ with_entry entries key arrays)) ≡ lookup (is_key other) (e ∷ entries)
    by true same later =
        let apart : is_key other e.0 ≡ false = ap (pointwise nat_eq other) (sym (same_name key.items e.0.items same) ∙ is) ∙ differs in
        ap (λ b. cond b (Some arrays) (lookup (is_key other) entries)) apart ∙ sym (ap (λ b. cond b (Some e.1) (lookup (is_key other) entries)) apart)
    by false apart later = ap (cond (is_key other e.0) (Some e.1)) later

-- other arrays are kept over the same builder
pub kept_extends : (setting : Scenarios) (first second third : Lowering) → Extends setting first second → third.builder ≡ second.builder → AreKept setting (things_of second) (entries_in third)
    → Extends setting first third
kept_extends setting first second third extends same kept = record {
  ready = record {
    laid = extends.ready.laid;
    building = subst IsBuilding (sym same) extends.ready.building;
    root = ap root_built same ∙ extends.ready.root;
    arrays = subst (λ (b : Builder). AreKept setting (built b) (entries_in third)) (sym same) kept;
  };
  grows = subst (λ (b : Builder). Grows (things_of first) (built b)) (sym same) extends.grows;
  problem = ap problem_built same ∙ extends.problem;
  direction = ap asked_direction same ∙ extends.direction;
  worst = ap asked_worst same ∙ extends.worst;
}

pub stands_over : (second third : Lowering) (id other : ℕ) (thing : Thing) → third.builder ≡ second.builder → other ≡ id → Stands (things_of second) id thing → Stands (things_of third) other thing
stands_over second third id other thing same is stands =
    subst (λ (b : Builder). Stands (built b) other thing) (sym same) (subst (λ n. Stands (things_of second) n thing) (sym is) stands)
