-- The arrays of all scenarios.
use Rattle.std.proofs.Common.{arith, ◌≡◌, ◌∙◌, refl, ap, sym, subst, ℕ, zero, suc, ℤ, ◌+◌, ◌<◌, ◌≤◌, true, List, [], ◌∷◌, ◌++◌, length, length-append, map}
use Rattle.std.proofs.Common.{get_or, inl, inr, Result, Ok, Err, IfOk}
use Rattle.std.proofs.lemmas.Bool.{cases_lt, and_parts}
use Rattle.std.specs.List.{list_all}
use Rattle.std.specs.declared.alloc.Global.{Global}
use Rattle.std.specs.declared.vec.Vec.{Vec}
use Rattle.term_language.specs.Laws.{IsTable}
use Rattle.term_language.specs.Terms.{Table}
use Rattle.compile_laws.proofs.Tables.{tables_are_sound}
use Rattle.compile_names.specs.Tables.{table_in}
use Rattle.compile_names.specs.Variables.{item_from}
use Rattle.compile_names.specs.declared.arrays.Array.{Array}
use Rattle.compile_names.specs.declared.origins.Origin.{Origin}
use Rattle.compile_names.specs.declared.origins.Origin.TheVariants.{Fixed, Drawn, Decided}
use Rattle.compile_names.specs.declared.setting.Scenarios.{Scenarios}
use Rattle.sopl_scen.specs.Layout.{Layout, count_in}
use Rattle.compile_scene.specs.Fixed.{is_fixed}
use Rattle.compile_scene.specs.Scenes.{array_in}
use Rattle.compile_scene.specs.Works.{AreArrays, Extends, IsReady, Stands, id_in, things_of}
use Rattle.compile_scene.specs.declared.work.Arrays.{Arrays}
use Rattle.compile_scene.specs.declared.work.Arrays.TheVariants.{Same, Each}
use Rattle.compile_scene.specs.declared.work.Lowering.{Lowering}
use Rattle.compile_scene.proofs.Growing.{extends_not, extends_twice, stands_grows}
use Rattle.term_store.specs.declared.ids.TableId.{TableId}
use Rattle.term_nodes.specs.Things.{Thing, a_table}

-- Constants.

-- an array of constants is the same in all scenarios
fixed_item : (tree : Layout) (i j : ℕ) (origin : Origin) → is_fixed origin ≡ true → item_from tree i origin ≡ item_from tree j origin
fixed_item tree i j (Fixed z) fixed = refl
fixed_item tree i j (Drawn k) fixed = absurd (cc)
fixed_item tree i j (Decided k) fixed = absurd (cc)

fixed_items : (tree : Layout) (i j : ℕ) (origins : List Origin) → list_all is_fixed origins ≡ true → map (item_from tree i) origins ≡ map (item_from tree j) origins
fixed_items tree i j [] fixed = refl
fixed_items tree i j (origin ∷ origins) fixed =
    let parts = and_parts (is_fixed origin) (list_all is_fixed origins) fixed in
    λ k. fixed_item tree i j origin parts.0 k ∷ fixed_items tree i j origins parts.1 k

fixed_tables : (tree : Layout) (i j : ℕ) (array : Array) → list_all is_fixed array.origins.items ≡ true → table_in tree i array ≡ table_in tree j array
fixed_tables tree i j array fixed = λ k. record { sets = map (λ (set : Vec ℤ Global). set.items) array.sets.items; items = fixed_items tree i j array.origins.items fixed k }

pub same_array : (setting : Scenarios) (things : List Thing) (array : Array) (scenario : ℕ) (id : TableId) → list_all is_fixed array.origins.items ≡ true
    → Stands things id.0 (a_table (table_in setting.tree.now scenario array)) → AreArrays things (count_in setting.tree.now) (λ (i : ℕ). table_in setting.tree.now i array) (Same id)
same_array setting things array scenario id fixed stands = record {
  there = λ i below. tt;
  stand = λ i below. subst (λ (t : Table). Stands things id.0 (a_table t)) (fixed_tables setting.tree.now scenario i array fixed) stands;
}

-- One for each scenario.

abbrev pub table_ids : List TableId → List ℕ
table_ids ids = map (λ (id : TableId). id.0) ids

-- so many scenarios have their arrays
pub record IsMade (setting : Scenarios) (array : Array) (before after : Lowering) (ids : List TableId) (count : ℕ) : Type 0 where
  pub extends : Extends setting before after
  pub many : length ids ≡ count
  pub stand : (i : ℕ) → i < count → Stands (things_of after) (get_or (table_ids ids) i 0) (a_table (table_in setting.tree.now i array))

pub made_none : (setting : Scenarios) (array : Array) (work : Lowering) (ids : List TableId) → IsReady setting work → ids ≡ [] → IsMade setting array work work ids 0
made_none setting array work ids ready none = record {
  extends = extends_not setting work ready;
  many = ap length none;
  stand = λ i below. absurd (omega (arith, below));
}

last_id : (ids : List TableId) (id : TableId) → get_or (table_ids (ids ++ id ∷ [])) (length ids) 0 ≡ id.0
last_id [] id = refl
last_id (x ∷ ids) id = last_id ids id

earlier_id : (ids : List TableId) (id : TableId) (i : ℕ) → i < length ids → get_or (table_ids (ids ++ id ∷ [])) i 0 ≡ get_or (table_ids ids) i 0
earlier_id [] id i below = absurd (omega (arith, below))
earlier_id (x ∷ ids) id zero below = refl
earlier_id (x ∷ ids) id (suc i) below = earlier_id ids id i (omega (arith, below))

pub made_more : (setting : Scenarios) (array : Array) (before mid after : Lowering) (ids new : List TableId) (id : TableId) (count : ℕ) → IsMade setting array before mid ids count
    → Extends setting mid after → Stands (things_of after) id.0 (a_table (table_in setting.tree.now count array)) → new ≡ ids ++ id ∷ [] → IsMade setting array before after new (count + 1)
made_more setting array before mid after ids new id count made extends stands is = record {
  extends = extends_twice setting before mid after made.extends extends;
  many = ap length is ∙ omega (arith, length-append ids (id ∷ []), made.many);
  stand = λ i below. subst (λ (l : List TableId). Stands (things_of after) (get_or (table_ids l) i 0) (a_table (table_in setting.tree.now i array))) (sym is) (at i below);
}
  where
    at : (i : ℕ) → i < count + 1 → Stands (things_of after) (get_or (table_ids (ids ++ id ∷ [])) i 0) (a_table (table_in setting.tree.now i array))
    at i below =
        elim (cases_lt i count) [
          | inl earlier ↦
              subst (λ n. Stands (things_of after) n (a_table (table_in setting.tree.now i array))) (sym (earlier_id ids id i (omega (arith, earlier, made.many))))
              (stands_grows (things_of mid) (things_of after) (get_or (table_ids ids) i 0) (a_table (table_in setting.tree.now i array)) extends.grows (made.stand i earlier))
          | inr past ↦
              subst (λ n. Stands (things_of after) (get_or (table_ids (ids ++ id ∷ [])) n 0) (a_table (table_in setting.tree.now n array))) (omega (arith, past, below))
              (subst (λ n. Stands (things_of after) (get_or (table_ids (ids ++ id ∷ [])) n 0) (a_table (table_in setting.tree.now count array))) made.many
              (subst (λ n. Stands (things_of after) n (a_table (table_in setting.tree.now count array))) (sym (last_id ids id)) stands))
        ]

pub each_array : (setting : Scenarios) (array : Array) (before after : Lowering) (ids : Vec TableId Global) (count : ℕ) → IsMade setting array before after ids.items count
    → count_in setting.tree.now ≤ count → AreArrays (things_of after) (count_in setting.tree.now) (λ (i : ℕ). table_in setting.tree.now i array) (Each ids)
each_array setting array before after ids count made all = record {
  there = λ i below. omega (arith, below, all, made.many);
  stand = λ i below. made.stand i (omega (arith, below, all));
}

-- The array of a name.

pub sound_array : (setting : Scenarios) (name : List ℕ) (array : Array) → ((i : ℕ) → table_in setting.tree.now i array ≡ array_in setting name i) → (i : ℕ)
    → IsTable (table_in setting.tree.now i array)
sound_array setting name array is i = subst IsTable (sym (is i)) (tables_are_sound _).1

pub named_arrays : (setting : Scenarios) (name : List ℕ) (array : Array) (things : List Thing) (count : ℕ) (arrays : Arrays)
    → ((i : ℕ) → table_in setting.tree.now i array ≡ array_in setting name i) → AreArrays things count (λ (i : ℕ). table_in setting.tree.now i array) arrays
    → AreArrays things count (array_in setting name) arrays
named_arrays setting name array things count arrays is are = record {
  there = are.there;
  stand = λ i below. subst (λ (t : Table). Stands things (id_in arrays i) (a_table t)) (is i) (are.stand i below);
}

pub named_either : {B : Type 0} (result : Result Arrays B) (setting : Scenarios) (name : List ℕ) (array : Array) (things : List Thing) (count : ℕ)
    → ((i : ℕ) → table_in setting.tree.now i array ≡ array_in setting name i) → IfOk result (AreArrays things count (λ (i : ℕ). table_in setting.tree.now i array))
    → IfOk result (AreArrays things count (array_in setting name))
named_either (Ok arrays) setting name array things count is are = named_arrays setting name array things count arrays is are
named_either (Err y) setting name array things count is are = tt
