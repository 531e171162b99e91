-- What a name without an index stands for.
use Rattle.std.proofs.Common.{◌≡◌, sym, ap, ◌∙◌, refl, ℕ, ℤ, List, [], ◌∷◌, ◌++◌, length, option_map, Option, Some, None}
use Rattle.sopl_ast.specs.Known.{Known, bound_value, constant_value, known_value}
use Rattle.sopl_ast.specs.Numbers.{or_else}
use Rattle.term_language.specs.Terms.{Item, Fixed}
use Rattle.term_language.specs.Arrays.{Entry, item_in}
use Rattle.compile_laws.specs.Instances.{bound_elements, constant_elements, decided_elements, elements, seen_elements, table_of}
use Rattle.compile_laws.proofs.Lookups.{bound_is, constant_is, item_append}
use Rattle.compile_names.specs.Places.{cells_at, values_at}
use Rattle.compile_scene.specs.Scenes.{array_in, place_of}
use Rattle.compile_scene.specs.declared.scene.NumberedScenario.{NumberedScenario}
use Rattle.unfold_tables.specs.Tables.{table_known}

first_of_three : (a b : Option ℤ) (r : Option Item) → or_else (option_map Fixed a) (or_else (option_map Fixed b) r) ≡ or_else (option_map Fixed (or_else a b)) r
first_of_three None None r = refl
first_of_three None (Some y) r = refl
first_of_three (Some x) b r = refl

-- what a binder gives it or a constant has, else what the other elements have
known_item : (known : Known) (name : List ℕ) (rest : List Entry)
    → item_in (bound_elements name known.bound ++ (constant_elements name known.constants ++ rest)) [] ≡ or_else (option_map Fixed (known_value known name [])) (item_in rest [])
known_item known name rest =
    item_append (bound_elements name known.bound) (constant_elements name known.constants ++ rest) []
    ∙ ap (or_else (item_in (bound_elements name known.bound) [])) (item_append (constant_elements name known.constants) rest [])
    ∙ (λ i. or_else (bound_is name [] known.bound i) (or_else (constant_is name [] known.constants i) (item_in rest [])))
    ∙ first_of_three (bound_value name [] known.bound) (constant_value name [] known.constants) (item_in rest [])

pub known_there : (known : Known) (name : List ℕ) (rest : List Entry) (z : ℤ) → known_value known name [] ≡ Some z
    → Some (Fixed z) ≡ item_in (bound_elements name known.bound ++ (constant_elements name known.constants ++ rest)) []
known_there known name rest z is = sym (known_item known name rest ∙ ap (λ o. or_else (option_map Fixed o) (item_in rest [])) is)

pub known_not : (known : Known) (name : List ℕ) (rest : List Entry) (found : Option Item) → known_value known name [] ≡ None → found ≡ item_in rest []
    → found ≡ item_in (bound_elements name known.bound ++ (constant_elements name known.constants ++ rest)) []
known_not known name rest found is same = same ∙ sym (known_item known name rest ∙ ap (λ o. or_else (option_map Fixed o) (item_in rest [])) is)

-- wherever the constants are those of the setting, the array of a name is the same
pub array_there : (scene : NumberedScenario) (known : Known) (name : List ℕ) → known.constants ≡ (table_known scene.setting.now.table.now).constants
    → array_in scene.setting.now name scene.scenario ≡ table_of (elements (place_of scene known) name)
array_there scene known name same =
    let ss = scene.setting.now.stochs.now in
    let ds = scene.setting.now.decisions.now in
    let tree = scene.setting.now.tree.now in
    ap (λ ks. table_of (constant_elements name ks
    ++ (seen_elements name ss (values_at tree (length ss) scene.scenario) ++ decided_elements name ds (cells_at tree (length ds) scene.scenario)))) (sym same)
