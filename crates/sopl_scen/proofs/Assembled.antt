-- The tables of a tree hold its scenarios, its histories and its cells.
use Rattle.std.proofs.Common.{◌≡◌, ◌+◌, ◌-◌, ◌*◌, ◌≤◌, ◌<◌, ◌^◌, ℕ, zero, suc, ℤ, pos, ◌≤ℤ◌, List, [], ◌∷◌, length, map, get_or, take, slice_get}
use Rattle.std.proofs.Common.{unsigned_abs, Some, arith, refl, sym, ap, subst, ◌∙◌}
use Rattle.std.proofs.Math.Seq.{take-length}
use Rattle.std.proofs.lemmas.Int.{ints}
use Rattle.std.proofs.lemmas.Option.{get_or_from_slice_get, slice_get-get_or, slice_get_within}
use Rattle.std.proofs.lemmas.List.{get_or-map, length-map}
use Rattle.std.proofs.lemmas.List.Concat.{get_or-flat_map}
use Rattle.std.proofs.lemmas.List.Elements.{All-from_recursion}
use Rattle.std.proofs.lemmas.List.Folds.{length-flat_map-take}
use Rattle.std.proofs.lemmas.List.FromFn.{get_or-map-range_with_len, get_or-enumerate_from, length-enumerate_from, length-map-range_with_len}
use Rattle.std.proofs.lemmas.List.Sums.{sum_by-cons}
use Rattle.std.specs.List.{AllByRecursion, IsDistinct, flat_map, enumerate_from, sum_by}
use Rattle.std.proofs.Common.{length-append}
use Rattle.std.specs.Int.{int_gap}
use Rattle.sopl_ast.specs.Numbers.{binary_digits}
use Rattle.sopl_ast.specs.Known.{same_values}
use Rattle.sopl_ast.specs.Instances.{Decision, Stochastic}
use Rattle.sopl_ast.specs.Scenarios.{Scenario, scenarios, total_weight}
use Rattle.sopl_ast.specs.Histories.{history, histories, number_of}
use Rattle.sopl_ast.specs.Cells.{Cell, cells_of}
use Rattle.sopl_ast.specs.Limits.{bits_of, usual_limits}
use Rattle.unfold_laws.specs.Bounds.{IsBoundedDecision, IsBoundedStochastic, IsStage}
use Rattle.scen_laws.specs.Laws.{HasOutcome, IsByStage, seen_before, rows, values_of}
use Rattle.scen_laws.proofs.Counts.{prefixes_are_fewer, first_part}
use Rattle.scen_laws.proofs.Weights.{scenarios_are_light}
use Rattle.scen_laws.proofs.Rows.{rows_differ, rows_are_numbered}
use Rattle.scen_laws.proofs.Seen.{histories_are_prefixes, histories_are_rows}
use Rattle.scen_laws.proofs.Prefixes.{seen_within}
use Rattle.sopl_scen.specs.declared.nodes.Node.{Node}
use Rattle.sopl_scen.specs.declared.stages.Stage.{Stage}
use Rattle.sopl_scen.specs.declared.cells.Place.{Place}
use Rattle.sopl_scen.specs.Levels.{IsLight, AreSmall, weight_in, level_at, all_levels}
use Rattle.sopl_scen.specs.Tables.{all_rows, all_paths}
use Rattle.sopl_scen.specs.Stages.{stage_in, stage_numbers, all_stages, no_stage, count_at, cell_count, bit_count, places_from}
use Rattle.sopl_scen.specs.Layout.{cells_for, cell_at, no_place, prefix_at}
use Rattle.sopl_scen.proofs.Shown.{nothing, SameWeights, level_same, level_long}
use Rattle.sopl_scen.proofs.Reading.{IsPrefix, scenario_at, prefix_is, value_is, values_long, last_long}

-- Small levels.

few_in_size : (a b most : ℤ) → a ≡ b → pos 1 ≤ℤ b → b ≤ℤ most → most ≤ℤ pos (2 ^ 100) → unsigned_abs a ≤ 2 ^ 100
few_in_size a b most is least few all = omega (arith, ints, is, least, few, all)

light_nodes : (most : ℤ) → most ≤ℤ pos (2 ^ 100) → (ns : List Node) (ps : List Scenario) → SameWeights ns ps
    → AllByRecursion (λ (s : Scenario). (pos 1 ≤ℤ s.weight) × (s.weight ≤ℤ most)) ps → AllByRecursion IsLight ns
light_nodes most few [] ps same all = tt
light_nodes most few (n ∷ ns) [] same all = absurd same
light_nodes most few (n ∷ ns) (p ∷ ps) same all =
    (few_in_size n.weight p.weight most same.0 all.0.0 all.0.1 few, light_nodes most few ns ps same.1 all.1)

pub small_levels : (ss : List Stochastic) → AllByRecursion HasOutcome ss → AllByRecursion IsBoundedStochastic ss → total_weight ss ≤ℤ pos (2 ^ 100)
    → length (scenarios ss) ≤ usual_limits.scenarios → AreSmall ss
small_levels ss some all light few =
    record {
      light = λ j within. light_nodes (total_weight ss) light (level_at ss j) (scenarios (take j ss)) (level_same ss j within) (scenarios_are_light j ss some all);
      few = λ j within. omega (arith, level_long ss j within, (prefixes_are_fewer j ss some).1, few);
    }

-- The weights.

same_list : (ns : List Node) (ps : List Scenario) → SameWeights ns ps → map weight_in ns ≡ map (λ (s : Scenario). s.weight) ps
same_list [] [] same = refl
same_list [] (p ∷ ps) same = absurd same
same_list (n ∷ ns) [] same = absurd same
same_list (n ∷ ns) (p ∷ ps) same = λ i. same.0 i ∷ same_list ns ps same.1 i

pub weights_are : (ss : List Stochastic) → map weight_in (level_at ss (length ss)) ≡ map (λ (s : Scenario). s.weight) (scenarios ss)
weights_are ss =
    same_list (level_at ss (length ss)) (scenarios (take (length ss) ss)) (level_same ss (length ss) (omega arith))
    ∙ ap (λ list. map (λ (s : Scenario). s.weight) (scenarios list)) (take-length ss)

-- The stages.

pub stage_found : (ss : List Stochastic) (stage : ℕ) → IsStage stage → get_or (all_stages ss) (stage - 1) no_stage ≡ stage_in ss stage
unfolding stage_numbers
stage_found ss stage is = get_or-map-range_with_len (stage_in ss) 1 24 (stage - 1) stage no_stage (omega (arith, is.0, is.1)) (omega (arith, is.0))

pub stages_long : (ss : List Stochastic) → length (all_stages ss) ≡ 24
unfolding stage_numbers
stages_long ss = length-map-range_with_len (stage_in ss) 1 24

-- variables of which a text states the values
pub record AreSound (ss : List Stochastic) : Type 0 where
  pub outcomes : AllByRecursion HasOutcome ss
  pub bounded : AllByRecursion IsBoundedStochastic ss
  pub ordered : IsByStage ss

-- the histories of a stage
abbrev histories_in : (ss : List Stochastic) → AreSound ss → (stage : ℕ) → histories stage ss ≡ rows (take (seen_before stage ss) ss)
histories_in ss sound stage = histories_are_rows stage ss sound.ordered sound.outcomes sound.bounded

pub count_is : (ss : List Stochastic) → AreSound ss → (stage : ℕ) → IsStage stage → count_at (all_stages ss) stage ≡ length (histories stage ss)
count_is ss sound stage is =
    let n : ℕ = seen_before stage ss in
    ap (λ (s : Stage). s.histories) (stage_found ss stage is)
    ∙ (level_long ss n (seen_within stage ss)
    ∙ (sym (length-map (scenarios (take n ss)) values_of) ∙ ap length (sym (histories_in ss sound stage))))

pub count_few : (ss : List Stochastic) → AreSound ss → (stage : ℕ) → IsStage stage → count_at (all_stages ss) stage ≤ length (scenarios ss)
count_few ss sound stage is =
    let n : ℕ = seen_before stage ss in
    subst (λ k. k ≤ length (scenarios ss)) (sym (ap (λ (s : Stage). s.histories) (stage_found ss stage is) ∙ level_long ss n (seen_within stage ss)))
    (prefixes_are_fewer n ss sound.outcomes).1

pub prefix_few : (ss : List Stochastic) (stage : ℕ) → IsStage stage → prefix_at (all_stages ss) stage ≤ length ss
prefix_few ss stage is = subst (λ (s : Stage). s.prefix ≤ length ss) (sym (stage_found ss stage is)) (seen_within stage ss)

-- The history of a scenario.

-- a scenario, among all of them
abbrev is_scenario : List Stochastic → ℕ → Scenario → Type 0
is_scenario ss i s = slice_get (scenarios ss) i ≡ Some s

scenario_is : (ss : List Stochastic) (i : ℕ) (s : Scenario) → is_scenario ss i s → scenario_at ss (length ss) i ≡ s
scenario_is ss i s at = ap (λ list. get_or (scenarios list) i nothing) (take-length ss) ∙ get_or_from_slice_get (scenarios ss) i s nothing at

scenario_long : (ss : List Stochastic) (i : ℕ) (s : Scenario) → is_scenario ss i s → length s.values ≡ length ss
scenario_long ss i s at =
    ap (λ (p : Scenario). length p.values) (sym (scenario_is ss i s at))
    ∙ values_long ss (length ss) i (omega arith) (subst (λ k. i < k) (sym (last_long ss)) (slice_get_within (scenarios ss) i s at))

-- the number that the table has
abbrev pub node_of : List Stochastic → ℕ → ℕ → ℕ
node_of ss stage i =
    get_or (all_paths (all_levels ss) (length (scenarios ss))) (i * (length ss + 1) + (length ss - prefix_at (all_stages ss) stage)) 0

node_prefix : (ss : List Stochastic) (stage i : ℕ) (s : Scenario) → IsStage stage → is_scenario ss i s
    → IsPrefix ss (length ss) i (seen_before stage ss) (node_of ss stage i)
node_prefix ss stage i s is at =
    subst (λ n. IsPrefix ss (length ss) i (seen_before stage ss) (get_or (all_paths (all_levels ss) (length (scenarios ss))) (i * (length ss + 1) + (length ss - n)) 0))
    (sym (ap (λ (p : Stage). p.prefix) (stage_found ss stage is)))
    (prefix_is ss i (seen_before stage ss) (slice_get_within (scenarios ss) i s at) (seen_within stage ss))

pub history_found : (ss : List Stochastic) → AreSound ss → (stage i : ℕ) (s : Scenario) → IsStage stage → is_scenario ss i s
    → slice_get (histories stage ss) (node_of ss stage i) ≡ Some (history stage ss s.values)
history_found ss sound stage i s is at =
    let n : ℕ = seen_before stage ss in
    let prefix : IsPrefix ss (length ss) i n (node_of ss stage i) = node_prefix ss stage i s is at in
    let inside : node_of ss stage i < length (scenarios (take n ss)) =
    subst (λ k. node_of ss stage i < k) (level_long ss n (seen_within stage ss)) prefix.exists in
    let long : node_of ss stage i < length (rows (take n ss)) =
    subst (λ k. node_of ss stage i < k) (sym (length-map (scenarios (take n ss)) values_of)) inside in
    let row : get_or (rows (take n ss)) (node_of ss stage i) [] ≡ history stage ss s.values =
    get_or-map values_of (scenarios (take n ss)) (node_of ss stage i) nothing [] inside
    ∙ (prefix.values
    ∙ (ap (λ (p : Scenario). take n p.values) (scenario_is ss i s at)
    ∙ sym (histories_are_prefixes stage ss s.values sound.ordered (scenario_long ss i s at)))) in
    ap (λ list. slice_get list (node_of ss stage i)) (histories_in ss sound stage)
    ∙ (slice_get-get_or (rows (take n ss)) (node_of ss stage i) [] long ∙ ap Some row)

pub history_numbered : (ss : List Stochastic) → AreSound ss → (stage i : ℕ) (s : Scenario) → IsStage stage → is_scenario ss i s
    → number_of (history stage ss s.values) stage ss ≡ Some (node_of ss stage i)
history_numbered ss sound stage i s is at =
    rows_are_numbered (histories stage ss) (node_of ss stage i) (history stage ss s.values)
    (subst (IsDistinct same_values) (sym (histories_in ss sound stage))
    (rows_differ (take (seen_before stage ss) ss) (first_part IsBoundedStochastic (seen_before stage ss) ss sound.bounded)))
    (history_found ss sound stage i s is at)

-- The values.

pub value_found : (ss : List Stochastic) (j i : ℕ) (s : Scenario) → j < length ss → is_scenario ss i s
    → slice_get s.values j ≡ Some (get_or (all_rows (all_levels ss) (length (scenarios ss))) (i * length ss + (length ss - 1 - j)) (pos 0))
value_found ss j i s within at =
    slice_get-get_or s.values j (pos 0) (subst (λ k. j < k) (sym (scenario_long ss i s at)) within)
    ∙ ap Some (ap (λ (p : Scenario). get_or p.values j (pos 0)) (sym (get_or_from_slice_get (scenarios ss) i s nothing at))
    ∙ sym (value_is ss i j (slice_get_within (scenarios ss) i s at) within))

-- The cells.

cells_long : (ss : List Stochastic) → AreSound ss → (n : ℕ) (d : Decision) → IsBoundedDecision d → length (cells_of ss (n, d)) ≡ cell_count (all_stages ss) d
cells_long ss sound n d bounded =
    length-map (histories d.stage ss) (λ seen. cell_at n d seen) ∙ sym (count_is ss sound d.stage bounded.stage)

cells_before : (ss : List Stochastic) → AreSound ss → (n : ℕ) (ds : List Decision) → AllByRecursion IsBoundedDecision ds → (j : ℕ)
    → length (flat_map (cells_of ss) (take j (enumerate_from n ds))) ≡ sum_by (cell_count (all_stages ss)) (take j ds)
cells_before ss sound n [] all zero = refl
cells_before ss sound n [] all (suc j) = refl
cells_before ss sound n (d ∷ ds) all zero = refl
cells_before ss sound n (d ∷ ds) all (suc j) =
    length-append (cells_of ss (n, d)) (flat_map (cells_of ss) (take j (enumerate_from (n + 1) ds)))
    ∙ ((λ i. cells_long ss sound n d all.0 i + cells_before ss sound (n + 1) ds all.1 j i)
    ∙ sym (sum_by-cons (cell_count (all_stages ss)) d (take j ds)))

pub cells_total : (ss : List Stochastic) → AreSound ss → (n : ℕ) (ds : List Decision) → AllByRecursion IsBoundedDecision ds
    → length (flat_map (cells_of ss) (enumerate_from n ds)) ≡ sum_by (cell_count (all_stages ss)) ds
cells_total ss sound n [] all = refl
cells_total ss sound n (d ∷ ds) all =
    length-append (cells_of ss (n, d)) (flat_map (cells_of ss) (enumerate_from (n + 1) ds))
    ∙ ((λ i. cells_long ss sound n d all.0 i + cells_total ss sound (n + 1) ds all.1 i)
    ∙ sym (sum_by-cons (cell_count (all_stages ss)) d ds))

-- the place of a decision
pub place_is : (stages : List Stage) (first : ℕ) (ds : List Decision) (j : ℕ) (d : Decision) → j < length ds
    → get_or (places_from first stages ds) j no_place
    ≡ record { first = first + sum_by (cell_count stages) (take j ds); stage = (get_or ds j d).stage }
place_is stages first [] j d within = absurd (omega (arith, within))
place_is stages first (e ∷ ds) zero d within = λ i. record { first = nothing_more first i; stage = e.stage }
  where
    nothing_more : (n : ℕ) → n ≡ n + 0
    nothing_more n = omega arith
place_is stages first (e ∷ ds) (suc j) d within =
    place_is stages (first + cell_count stages e) ds j d (omega (arith, within))
    ∙ (λ i. record {
      first = (together first (cell_count stages e) (sum_by (cell_count stages) (take j ds))
          ∙ ap (λ n. first + n) (sym (sum_by-cons (cell_count stages) e (take j ds)))) i;
      stage = (get_or ds j d).stage;
    })
  where
    together : (a b c : ℕ) → (a + b) + c ≡ a + (b + c)
    together a b c = omega arith

pub places_long : (stages : List Stage) (first : ℕ) (ds : List Decision) → length (places_from first stages ds) ≡ length ds
places_long stages first [] = refl
places_long stages first (d ∷ ds) = ap suc (places_long stages (first + cell_count stages d) ds)

-- the number of a cell that the table has
abbrev pub cell_number : List Decision → List Stochastic → ℕ → ℕ → ℕ
cell_number ds ss j i =
    (get_or (places_from 0 (all_stages ss) ds) j no_place).first + node_of ss (get_or (places_from 0 (all_stages ss) ds) j no_place).stage i

number_is : (ds : List Decision) (ss : List Stochastic) → AreSound ss → AllByRecursion IsBoundedDecision ds → (j i : ℕ) (d : Decision) → j < length ds → get_or ds j d ≡ d
    → cell_number ds ss j i ≡ length (flat_map (cells_of ss) (take j (enumerate_from 0 ds))) + node_of ss d.stage i
number_is ds ss sound all j i d within is =
    ap (λ (p : Place). p.first + node_of ss p.stage i) (place_is (all_stages ss) 0 ds j d within)
    ∙ (ap (λ (e : Decision). (0 + sum_by (cell_count (all_stages ss)) (take j ds)) + node_of ss e.stage i) is
    ∙ ap (λ n. n + node_of ss d.stage i) (no_more (sum_by (cell_count (all_stages ss)) (take j ds)) ∙ sym (cells_before ss sound 0 ds all j)))
  where
    no_more : (n : ℕ) → 0 + n ≡ n
    no_more n = omega arith

pub cell_found : (ds : List Decision) (ss : List Stochastic) → AreSound ss → AllByRecursion IsBoundedDecision ds → (j i : ℕ) (d : Decision) (s : Scenario)
    → slice_get ds j ≡ Some d → is_scenario ss i s
    → slice_get (cells_for ds ss) (cell_number ds ss j i) ≡ Some (cell_at j d (history d.stage ss s.values))
cell_found ds ss sound all j i d s decided at =
    let within : j < length ds = slice_get_within ds j d decided in
    let is : get_or ds j d ≡ d = get_or_from_slice_get ds j d d decided in
    let bounded : IsBoundedDecision d = subst IsBoundedDecision is (All-from_recursion IsBoundedDecision ds all j d within) in
    let numbered : List (ℕ × Decision) = enumerate_from 0 ds in
    let before : ℕ = length (flat_map (cells_of ss) (take j numbered)) in
    let node : ℕ = node_of ss d.stage i in
    let seen : slice_get (histories d.stage ss) node ≡ Some (history d.stage ss s.values) = history_found ss sound d.stage i s bounded.stage at in
    let inside : node < length (histories d.stage ss) = slice_get_within (histories d.stage ss) node (history d.stage ss s.values) seen in
    let long : j < length numbered = subst (λ k. j < k) (sym (length-enumerate_from 0 ds)) within in
    let here : get_or numbered j (j, d) ≡ (j, d) =
    get_or-enumerate_from 0 ds j (j, d) within ∙ (λ k. (plain j k, is k)) in
    let many : length (cells_of ss (j, d)) ≡ length (histories d.stage ss) = length-map (histories d.stage ss) (λ h. cell_at j d h) in
    let inside_cells : node < length (cells_of ss (get_or numbered j (j, d))) =
    subst (λ (n : ℕ × Decision). node < length (cells_of ss n)) (sym here) (subst (λ k. node < k) (sym many) inside) in
    let none : Cell = cell_at j d [] in
    let found : get_or (cells_for ds ss) (before + node) none ≡ cell_at j d (history d.stage ss s.values) =
    get_or-flat_map (cells_of ss) numbered j node (j, d) none long inside_cells
    ∙ (ap (λ (n : ℕ × Decision). get_or (cells_of ss n) node none) here
    ∙ (get_or-map (λ h. cell_at j d h) (histories d.stage ss) node [] none inside
    ∙ ap (λ h. cell_at j d h) (get_or_from_slice_get (histories d.stage ss) node (history d.stage ss s.values) [] seen))) in
    let few : before + length (cells_of ss (get_or numbered j (j, d))) ≤ length (cells_for ds ss) = length-flat_map-take (cells_of ss) numbered j (j, d) long in
    let below : before + node < length (cells_for ds ss) = omega (arith, few, inside_cells) in
    ap (λ k. slice_get (cells_for ds ss) k) (number_is ds ss sound all j i d within is)
    ∙ (slice_get-get_or (cells_for ds ss) (before + node) none below ∙ ap Some found)
  where
    plain : (n : ℕ) → 0 + n ≡ n
    plain n = omega arith

-- The bits.

pub bits_sum : (ss : List Stochastic) → AreSound ss → (ds : List Decision) → AllByRecursion IsBoundedDecision ds
    → sum_by (bit_count (all_stages ss)) ds ≡ sum_by (bits_of ss) ds
unfolding bit_count
bits_sum ss sound [] all = refl
bits_sum ss sound (d ∷ ds) all =
    sum_by-cons (bit_count (all_stages ss)) d ds
    ∙ ((λ i. bits_one i + bits_sum ss sound ds all.1 i) ∙ sym (sum_by-cons (bits_of ss) d ds))
  where
    bits_one : bit_count (all_stages ss) d ≡ bits_of ss d
    bits_one = ap (λ n. binary_digits (int_gap d.lo d.hi) * n) (count_is ss sound d.stage all.0.stage)
