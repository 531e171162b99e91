-- What the tables of values and of nodes hold.
use Rattle.std.proofs.Common.{◌≡◌, ◌+◌, ◌-◌, ◌*◌, ◌≤◌, ◌<◌, ◌++◌, ℕ, zero, suc, ℤ, pos, List, [], ◌∷◌, length, get_or, take, reverse, arith, refl, sym, ap, subst, ◌∙◌, length-append, zero-add}
use Rattle.std.proofs.Math.Seq.{take-length}
use Rattle.std.proofs.lemmas.List.{get_or-map, reverse-append, get_or-reverse, length-take-le, take-append-le, take_all}
use Rattle.std.proofs.lemmas.List.Concat.{get_or-flat_map}
use Rattle.std.proofs.lemmas.List.FromFn.{get_or-map-range_with_len, get_or-range_with_len, length-range_with_len, length-map-range_with_len}
use Rattle.std.specs.List.{flat_map, range_with_len}
use Rattle.sopl_ast.specs.Instances.{Stochastic}
use Rattle.sopl_ast.specs.Scenarios.{Scenario, scenarios}
use Rattle.sopl_scen.specs.declared.nodes.Node.{Node}
use Rattle.sopl_scen.specs.Levels.{root, level_at, all_levels}
use Rattle.sopl_scen.specs.Tables.{node_at, row_up, path_up, IsLinked, last_level, all_rows, all_paths}
use Rattle.sopl_scen.proofs.Shown.{nothing, shown, level_shown, level_long, parent_below}

-- the scenario of a node
abbrev pub scenario_at : List Stochastic → ℕ → ℕ → Scenario
scenario_at ss j n = get_or (scenarios (take j ss)) n nothing

pub levels_are : (ss : List Stochastic) (j : ℕ) → j ≤ length ss → get_or (all_levels ss) j [] ≡ level_at ss j
levels_are ss j within = get_or-map-range_with_len (level_at ss) 0 (length ss + 1) j j [] (omega (arith, within)) (omega arith)

pub node_is : (ss : List Stochastic) (j n : ℕ) → j ≤ length ss → node_at (all_levels ss) j n ≡ get_or (level_at ss j) n root
node_is ss j n within = ap (λ list. get_or list n root) (levels_are ss j within)

pub levels_count : (ss : List Stochastic) → length (all_levels ss) ≡ length ss + 1
levels_count ss = length-map-range_with_len (level_at ss) 0 (length ss + 1)

-- the levels are linked
pub linked : (ss : List Stochastic) → IsLinked (all_levels ss)
linked ss level number below within =
    let few : suc level ≤ length ss = omega (arith, below, levels_count ss) in
    let one : number < length (level_at ss (suc level)) = subst (λ list. number < length list) (levels_are ss (suc level) few) within in
    subst (λ (node : Node). node.parent < length (get_or (all_levels ss) level [])) (sym (node_is ss (suc level) number few))
    (subst (λ list. (get_or (level_at ss (suc level)) number root).parent < length list) (sym (levels_are ss level (omega (arith, few))))
    (parent_below ss level number root one))

-- the values of a node: those of its parent and its own
pub values_up : (ss : List Stochastic) (j n : ℕ) → j < length ss → n < length (level_at ss (suc j))
    → (scenario_at ss (suc j) n).values
    ≡ (scenario_at ss j (node_at (all_levels ss) (suc j) n).parent).values ++ (node_at (all_levels ss) (suc j) n).value ∷ []
values_up ss j n within inside =
    ap (λ list. (get_or list n nothing).values) (sym (level_shown ss j within))
    ∙ (ap (λ (s : Scenario). s.values) (get_or-map (shown (scenarios (take j ss))) (level_at ss (suc j)) n root nothing inside)
    ∙ ap (λ (node : Node). (scenario_at ss j node.parent).values ++ node.value ∷ []) (sym (node_is ss (suc j) n within)))

pub parent_in : (ss : List Stochastic) (j n : ℕ) → j < length ss → n < length (level_at ss (suc j))
    → (node_at (all_levels ss) (suc j) n).parent < length (level_at ss j)
parent_in ss j n within inside =
    subst (λ (node : Node). node.parent < length (level_at ss j)) (sym (node_is ss (suc j) n within)) (parent_below ss j n root inside)

first_one : (n : ℕ) → n < 1 → n ≡ 0
first_one n is = omega (arith, is)

-- how many values a node has
pub values_long : (ss : List Stochastic) (j n : ℕ) → j ≤ length ss → n < length (level_at ss j) → length (scenario_at ss j n).values ≡ j
values_long ss zero n within inside = ap (λ k. length (scenario_at ss zero k).values) (first_one n inside)
values_long ss (suc j) n within inside =
    let parent : ℕ = (node_at (all_levels ss) (suc j) n).parent in
    ap length (values_up ss j n within inside)
    ∙ omega (
      arith,
      length-append (scenario_at ss j parent).values ((node_at (all_levels ss) (suc j) n).value ∷ []),
      values_long ss j parent (omega (arith, within)) (parent_in ss j n within inside),
    )

-- a row has the values of its scenario, from the last to the first
pub row_is : (ss : List Stochastic) (j n : ℕ) → j ≤ length ss → n < length (level_at ss j)
    → row_up (all_levels ss) j n ≡ reverse (scenario_at ss j n).values
row_is ss zero n within inside = ap (λ k. reverse (scenario_at ss zero k).values) (sym (first_one n inside))
row_is ss (suc j) n within inside =
    let parent : ℕ = (node_at (all_levels ss) (suc j) n).parent in
    ap (λ more. (node_at (all_levels ss) (suc j) n).value ∷ more) (row_is ss j parent (omega (arith, within)) (parent_in ss j n within inside))
    ∙ (sym (reverse-append (scenario_at ss j parent).values ((node_at (all_levels ss) (suc j) n).value ∷ []))
    ∙ ap reverse (sym (values_up ss j n within inside)))

-- a node of a path has the first values of its scenario
pub record IsPrefix (ss : List Stochastic) (j n k at : ℕ) : Type 0 where
  pub exists : at < length (level_at ss k)
  pub values : (scenario_at ss k at).values ≡ take k (scenario_at ss j n).values

prefix_same : (ss : List Stochastic) (j n : ℕ) → j ≤ length ss → n < length (level_at ss j) → IsPrefix ss j n j n
prefix_same ss j n within inside =
    record { exists = inside; values = sym (take_all j (scenario_at ss j n).values (subst (λ k. k ≤ j) (sym (values_long ss j n within inside)) (omega arith))) }

pub path_is : (ss : List Stochastic) (t j k n : ℕ) → t + k ≡ j → j ≤ length ss → n < length (level_at ss j)
    → IsPrefix ss j n k (get_or (path_up (all_levels ss) j n) t 0)
path_is ss zero zero k n sum within inside =
    subst (λ i. IsPrefix ss zero n i n) (first_is k sum) (prefix_same ss zero n within inside)
  where
    first_is : (i : ℕ) → 0 + i ≡ 0 → 0 ≡ i
    first_is i is = omega (arith, is)
path_is ss zero (suc j) k n sum within inside =
    subst (λ i. IsPrefix ss (suc j) n i n) (last_is k sum) (prefix_same ss (suc j) n within inside)
  where
    last_is : (i : ℕ) → 0 + i ≡ suc j → suc j ≡ i
    last_is i is = omega (arith, is)
path_is ss (suc t) zero k n sum within inside = absurd (omega (arith, sum))
path_is ss (suc t) (suc j) k n sum within inside =
    let parent : ℕ = (node_at (all_levels ss) (suc j) n).parent in
    let exists : parent < length (level_at ss j) = parent_in ss j n within inside in
    let below : k ≤ j = omega (arith, sum) in
    let long : length (scenario_at ss j parent).values ≡ j = values_long ss j parent (omega (arith, within)) exists in
    let up : IsPrefix ss j parent k (get_or (path_up (all_levels ss) j parent) t 0) =
    path_is ss t j k parent (omega (arith, sum)) (omega (arith, within)) exists in
    record {
      exists = up.exists;
      values =
          up.values
          ∙ (sym (take-append-le k (scenario_at ss j parent).values ((node_at (all_levels ss) (suc j) n).value ∷ []) (omega (arith, below, long)))
          ∙ ap (take k) (sym (values_up ss j n within inside)));
    }

-- Flat tables.

pub row_long : (levels : List (List Node)) (j n : ℕ) → length (row_up levels j n) ≡ j
row_long levels zero n = refl
row_long levels (suc j) n = ap suc (row_long levels j (node_at levels (suc j) n).parent)

pub path_long : (levels : List (List Node)) (j n : ℕ) → length (path_up levels j n) ≡ j + 1
path_long levels zero n = refl
path_long levels (suc j) n = omega (arith, path_long levels j (node_at levels (suc j) n).parent)

-- pieces of one length
pub pieces_long : {A : Type 0} (f : ℕ → List A) (w : ℕ) → ((n : ℕ) → length (f n) ≡ w) → (ns : List ℕ) → length (flat_map f ns) ≡ length ns * w
pieces_long f w each [] = omega arith
pieces_long f w each (n ∷ ns) = omega (arith, length-append (f n) (flat_map f ns), each n, pieces_long f w each ns)

pub piece_at : {A : Type 0} (f : ℕ → List A) (w : ℕ) → ((n : ℕ) → length (f n) ≡ w) → (count i t : ℕ) (d : A) → i < count → t < w
    → get_or (flat_map f (range_with_len 0 count)) (i * w + t) d ≡ get_or (f i) t d
piece_at f w each count i t d within inside =
    let all : List ℕ = range_with_len 0 count in
    let long : length all ≡ count = length-range_with_len 0 count in
    let is : get_or all i 0 ≡ i = get_or-range_with_len 0 count i 0 within ∙ zero-add i in
    let before : length (flat_map f (take i all)) ≡ i * w =
    pieces_long f w each (take i all) ∙ ap (λ k. k * w) (length-take-le i all (omega (arith, long, within))) in
    ap (λ k. get_or (flat_map f all) (k + t) d) (sym before)
    ∙ (get_or-flat_map f all i t 0 d (omega (arith, long, within)) (subst (λ k. t < k) (sym (each (get_or all i 0))) inside)
    ∙ ap (λ k. get_or (f k) t d) is)

-- the last level
pub last_is : (ss : List Stochastic) → last_level (all_levels ss) ≡ length ss
last_is ss = omega (arith, levels_count ss)

whole : (ss : List Stochastic) → take (length ss) ss ≡ ss
whole ss = take-length ss

pub last_long : (ss : List Stochastic) → length (level_at ss (length ss)) ≡ length (scenarios ss)
last_long ss = level_long ss (length ss) (omega arith) ∙ ap (λ list. length (scenarios list)) (whole ss)

-- a value in the table
pub value_is : (ss : List Stochastic) (i j : ℕ) → i < length (scenarios ss) → j < length ss
    → get_or (all_rows (all_levels ss) (length (scenarios ss))) (i * length ss + (length ss - 1 - j)) (pos 0) ≡ get_or (get_or (scenarios ss) i nothing).values j (pos 0)
value_is ss i j within inside =
    let m : ℕ = length ss in
    let n : i < length (level_at ss m) = subst (λ k. i < k) (sym (last_long ss)) within in
    let values : List ℤ = (scenario_at ss m i).values in
    let long : length values ≡ m = values_long ss m i (omega arith) n in
    ap (λ k. get_or (flat_map (row_up (all_levels ss) k) (range_with_len 0 (length (scenarios ss)))) (i * m + (m - 1 - j)) (pos 0)) (last_is ss)
    ∙ (piece_at (row_up (all_levels ss) m) m (row_long (all_levels ss) m) (length (scenarios ss)) i (m - 1 - j) (pos 0) within (omega (arith, inside))
    ∙ (ap (λ list. get_or list (m - 1 - j) (pos 0)) (row_is ss m i (omega arith) n)
    ∙ (get_or-reverse values (m - 1 - j) (pos 0) (omega (arith, long, inside))
    ∙ (ap (λ k. get_or values k (pos 0)) (omega (arith, long, inside))
    ∙ ap (λ list. get_or (get_or (scenarios list) i nothing).values j (pos 0)) (whole ss)))))

-- a node in the table
pub prefix_is : (ss : List Stochastic) (i k : ℕ) → i < length (scenarios ss) → k ≤ length ss
    → IsPrefix ss (length ss) i k (get_or (all_paths (all_levels ss) (length (scenarios ss))) (i * (length ss + 1) + (length ss - k)) 0)
prefix_is ss i k within inside =
    let m : ℕ = length ss in
    let n : i < length (level_at ss m) = subst (λ h. i < h) (sym (last_long ss)) within in
    let at : get_or (all_paths (all_levels ss) (length (scenarios ss))) (i * (m + 1) + (m - k)) 0 ≡ get_or (path_up (all_levels ss) m i) (m - k) 0 =
    ap (λ h. get_or (flat_map (path_up (all_levels ss) h) (range_with_len 0 (length (scenarios ss)))) (i * (m + 1) + (m - k)) 0) (last_is ss)
    ∙ piece_at (path_up (all_levels ss) m) (m + 1) (path_long (all_levels ss) m) (length (scenarios ss)) i (m - k) 0 within (omega (arith, inside)) in
    subst (IsPrefix ss m i k) (sym at) (path_is ss (m - k) m k i (omega (arith, inside)) (omega arith) n)

-- What the tables ask for, where these are the levels.

pub linked_levels : (ss : List Stochastic) (levels : List (List Node)) → levels ≡ all_levels ss → IsLinked levels
linked_levels ss levels is = subst IsLinked (sym is) (linked ss)

pub last_level_is : (ss : List Stochastic) (levels : List (List Node)) → levels ≡ all_levels ss → get_or levels (last_level levels) [] ≡ level_at ss (length ss)
last_level_is ss levels is =
    (λ i. get_or (is i) (last_level (is i)) [])
    ∙ (ap (λ n. get_or (all_levels ss) n []) (last_is ss) ∙ levels_are ss (length ss) (omega arith))

pub all_exist : (ss : List Stochastic) (levels : List (List Node)) (level : List Node) → levels ≡ all_levels ss → level ≡ level_at ss (length ss)
    → length level ≤ length (get_or levels (last_level levels) [])
all_exist ss levels level is at =
    let same : length level ≡ length (get_or levels (last_level levels) []) = ap length (at ∙ sym (last_level_is ss levels is)) in
    omega (arith, same)
