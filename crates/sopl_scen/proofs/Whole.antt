-- Trees as a whole.
use Rattle.std.proofs.Common.{◌≡◌, ◌+◌, ◌*◌, ◌≤◌, ◌<◌, ◌^◌, ℕ, ℤ, pos, List, [], ◌∷◌, length, map, get_or, slice_get, Option, Some, None, arith, refl, sym, ap, subst, ◌∙◌}
use Rattle.std.proofs.lemmas.Option.{get_or_from_slice_get, slice_get-get_or, slice_get_within}
use Rattle.std.proofs.lemmas.List.{get_or-map, length-map}
use Rattle.std.proofs.lemmas.List.Elements.{All-from_recursion}
use Rattle.std.proofs.lemmas.List.FromFn.{length-range_with_len}
use Rattle.std.proofs.lemmas.List.Sums.{sum_by-cons}
use Rattle.std.specs.List.{AllByRecursion, range_with_len, sum_by}
use Rattle.sopl_base.specs.declared.fault.Excess.{Excess}
use Rattle.sopl_ast.specs.Numbers.{or_else}
use Rattle.sopl_ast.specs.Instances.{Decision, Stochastic, Problem}
use Rattle.sopl_ast.specs.Scenarios.{Scenario, scenarios, total_weight}
use Rattle.std.proofs.Math.Nat.{mul-le-mul_right}
use Rattle.sopl_base.specs.declared.codes.TheConstants as codes
use Rattle.sopl_ast.specs.Histories.{history}
use Rattle.sopl_ast.specs.Limits.{first_above, prefixes, bits_of, size_excess, usual_limits}
use Rattle.unfold_laws.specs.Bounds.{IsBoundedDecision, IsStage}
use Rattle.sopl_scen.specs.declared.stages.Stage.{Stage}
use Rattle.sopl_scen.specs.declared.cells.Place.{Place}
use Rattle.sopl_scen.specs.Levels.{weight_in, level_at, all_levels}
use Rattle.sopl_scen.specs.Tables.{all_rows, all_paths, row_up, path_up, last_level}
use Rattle.sopl_scen.specs.Stages.{all_stages, count_at, cell_count, bit_count, places_from}
use Rattle.sopl_scen.specs.Sizes.{early_excess}
use Rattle.sopl_scen.specs.Layout.{Layout, IsFilled, IsTreeOf, AreStated, IsProblemOf, cells_for, cell_at}
use Rattle.sopl_scen.proofs.Reading.{row_long, path_long, pieces_long, last_is, last_long}
use Rattle.sopl_scen.proofs.Assembled.{AreSound, weights_are, stages_long, count_is, count_few, prefix_few, history_numbered, value_found, cells_total, place_is, places_long}
use Rattle.sopl_scen.proofs.Assembled.{cell_found, cell_number, bits_sum}

-- The first limit that is passed.

joined : (w s c b : Option Excess) → or_else w (or_else s (or_else c b)) ≡ or_else (or_else w (or_else s c)) b
joined (Some e) s c b = refl
joined None (Some e) c b = refl
joined None None (Some e) b = refl
joined None None None b = refl

-- the bits that are asked for
abbrev bits_asked : List Decision → List Stochastic → Option Excess
bits_asked ds ss = first_above codes.BITS usual_limits.bits (pos (sum_by (bits_of ss) ds) ∷ [])

size_is : (ds : List Decision) (ss : List Stochastic) (k : ℕ) (problem : Problem) → IsProblemOf ds ss k problem
    → size_excess usual_limits problem ≡ or_else (early_excess (length ds + (length ss + k)) ss) (bits_asked ds ss)
unfolding early_excess
size_is ds ss k problem is =
    (λ i.
    or_else (first_above codes.WEIGHT usual_limits.weight (map total_weight (prefixes (is.drawn i))))
    (or_else (first_above codes.SCENARIOS usual_limits.scenarios (map (λ prefix. pos (length (scenarios prefix))) (prefixes (is.drawn i))))
    (or_else (first_above codes.COPIES usual_limits.copies (pos ((length (is.decided i) + (length (is.drawn i) + is.beside i)) * length (scenarios (is.drawn i))) ∷ []))
    (bits_asked (is.decided i) (is.drawn i)))))
    ∙ joined (first_above codes.WEIGHT usual_limits.weight (map total_weight (prefixes ss))) (first_above codes.SCENARIOS usual_limits.scenarios (map (λ prefix. pos (length (scenarios prefix))) (prefixes ss)))
    (first_above codes.COPIES usual_limits.copies (pos ((length ds + (length ss + k)) * length (scenarios ss)) ∷ [])) (bits_asked ds ss)

pub limit_early : (ds : List Decision) (ss : List Stochastic) (k n : ℕ) (e : Excess) → n ≡ length ds + (length ss + k) → early_excess n ss ≡ Some e
    → (problem : Problem) → IsProblemOf ds ss k problem → size_excess usual_limits problem ≡ Some e
limit_early ds ss k n e many at problem is =
    size_is ds ss k problem is ∙ ap (λ o. or_else o (bits_asked ds ss)) (ap (λ m. early_excess m ss) (sym many) ∙ at)

sound : (ds : List Decision) (ss : List Stochastic) (k : ℕ) → AreStated ds ss k → AreSound ss
sound ds ss k stated = record { outcomes = stated.outcomes; bounded = stated.stochastics; ordered = stated.ordered }

pub limit_bits : (ds : List Decision) (ss : List Stochastic) (k n : ℕ) (o : Option Excess) (stages : List Stage) → AreStated ds ss k → n ≡ length ds + (length ss + k)
    → early_excess n ss ≡ None → stages ≡ all_stages ss → first_above codes.BITS usual_limits.bits (pos (sum_by (bit_count stages) ds) ∷ []) ≡ o
    → (problem : Problem) → IsProblemOf ds ss k problem → size_excess usual_limits problem ≡ o
limit_bits ds ss k n o stages stated many at staged bits problem is =
    size_is ds ss k problem is
    ∙ (ap (λ p. or_else p (bits_asked ds ss)) (ap (λ m. early_excess m ss) (sym many) ∙ at)
    ∙ (ap (λ b. first_above codes.BITS usual_limits.bits (pos b ∷ []))
    (sym (ap (λ list. sum_by (bit_count list) ds) staged ∙ bits_sum ss (sound ds ss k stated) ds stated.decisions)) ∙ bits))

-- The tree.

-- the tables that hold
abbrev pub canonical : List Decision → List Stochastic → Layout
canonical ds ss =
    record {
      total = total_weight ss;
      variables = length ss;
      weights = map (λ (s : Scenario). s.weight) (scenarios ss);
      values = all_rows (all_levels ss) (length (scenarios ss));
      nodes = all_paths (all_levels ss) (length (scenarios ss));
      stages = all_stages ss;
      places = places_from 0 (all_stages ss) ds;
      cells = sum_by (cell_count (all_stages ss)) ds;
    }

canonical_is : (ds : List Decision) (ss : List Stochastic) (k : ℕ) → AreStated ds ss k → IsTreeOf ds ss (canonical ds ss)
canonical_is ds ss k stated =
    record {
      whole = refl;
      count = length-map (scenarios ss) (λ (s : Scenario). s.weight);
      variables = refl;
      decisions = places_long (all_stages ss) 0 ds;
      weighed =
          λ i s at.
          get_or-map (λ (p : Scenario). p.weight) (scenarios ss) i s (pos 0) (slice_get_within (scenarios ss) i s at)
          ∙ ap (λ (p : Scenario). p.weight) (get_or_from_slice_get (scenarios ss) i s s at);
      drawn = λ j i s within at. value_found ss j i s within at;
      numbered = λ stage i s is at. history_numbered ss (sound ds ss k stated) stage i s is at;
      counted = λ stage is. count_is ss (sound ds ss k stated) stage is;
      celled = sym (cells_total ss (sound ds ss k stated) 0 ds stated.decisions);
      placed = λ j i d s decided at. cell_found ds ss (sound ds ss k stated) stated.decisions j i d s decided at;
    }

sum_few : (f : Decision → ℕ) (most : ℕ) (ds : List Decision) → AllByRecursion (λ (d : Decision). f d ≤ most) ds → sum_by f ds ≤ length ds * most
sum_few f most [] all = omega arith
sum_few f most (d ∷ ds) all = omega (arith, sum_by-cons f d ds, all.0, sum_few f most ds all.1)

cells_few : (ss : List Stochastic) → AreSound ss → (ds : List Decision) → AllByRecursion IsBoundedDecision ds
    → AllByRecursion (λ (d : Decision). cell_count (all_stages ss) d ≤ length (scenarios ss)) ds
cells_few ss s [] all = tt
cells_few ss s (d ∷ ds) all = (count_few ss s d.stage all.0.stage, cells_few ss s ds all.1)

-- no decision, in place of one that is not there
abbrev no_decision : Decision
no_decision = record { name = []; index = []; lo = pos 0; hi = pos 0; stage = 1 }

abbrev no_scenario : Scenario
no_scenario = record { values = []; weight = pos 0 }

bounded_at : (ds : List Decision) → AllByRecursion IsBoundedDecision ds → (j : ℕ) → j < length ds → IsBoundedDecision (get_or ds j no_decision)
bounded_at ds all j within = All-from_recursion IsBoundedDecision ds all j no_decision within

many : (ss : List Stochastic) → length (map (λ (s : Scenario). s.weight) (scenarios ss)) ≡ length (scenarios ss)
many ss = length-map (scenarios ss) (λ (s : Scenario). s.weight)

cell_small : (ds : List Decision) (ss : List Stochastic) (k : ℕ) → AreStated ds ss k → length ds * length (scenarios ss) ≤ usual_limits.copies
    → (j i : ℕ) → j < length ds → i < length (scenarios ss) → cell_number ds ss j i < 2 ^ 32
cell_small ds ss k stated copies j i within below =
    let s : AreSound ss = sound ds ss k stated in
    let d : Decision = get_or ds j no_decision in
    let p : Scenario = get_or (scenarios ss) i no_scenario in
    let found : slice_get (cells_for ds ss) (cell_number ds ss j i) ≡ Some (cell_at j d (history d.stage ss p.values)) =
    cell_found ds ss s stated.decisions j i d p (slice_get-get_or ds j no_decision within) (slice_get-get_or (scenarios ss) i no_scenario below) in
    let inside : cell_number ds ss j i < length (cells_for ds ss) =
    slice_get_within (cells_for ds ss) (cell_number ds ss j i) (cell_at j d (history d.stage ss p.values)) found in
    let total : length (cells_for ds ss) ≡ sum_by (cell_count (all_stages ss)) ds = cells_total ss s 0 ds stated.decisions in
    let few : sum_by (cell_count (all_stages ss)) ds ≤ length ds * length (scenarios ss) =
    sum_few (cell_count (all_stages ss)) (length (scenarios ss)) ds (cells_few ss s ds stated.decisions) in
    below_all (cell_number ds ss j i) (length (cells_for ds ss)) (sum_by (cell_count (all_stages ss)) ds) (length ds * length (scenarios ss)) inside total few copies
  where
    below_all : (a b c e : ℕ) → a < b → b ≡ c → c ≤ e → e ≤ usual_limits.copies → a < 2 ^ 32
    below_all a b c e one two three four = omega (arith, one, two, three, four)

canonical_filled : (ds : List Decision) (ss : List Stochastic) (k : ℕ) → AreStated ds ss k → length (scenarios ss) ≤ usual_limits.scenarios
    → length ds * length (scenarios ss) ≤ usual_limits.copies → IsFilled (canonical ds ss)
canonical_filled ds ss k stated few copies =
    record {
      few = omega (arith, many ss, few);
      drawn =
          pieces_long (row_up (all_levels ss) (last_level (all_levels ss))) (last_level (all_levels ss)) (row_long (all_levels ss) (last_level (all_levels ss)))
          (range_with_len 0 (length (scenarios ss)))
          ∙ ((λ i. length-range_with_len 0 (length (scenarios ss)) i * last_is ss i) ∙ ap (λ n. n * length ss) (sym (many ss)));
      numbered =
          pieces_long (path_up (all_levels ss) (last_level (all_levels ss))) (last_level (all_levels ss) + 1) (path_long (all_levels ss) (last_level (all_levels ss)))
          (range_with_len 0 (length (scenarios ss)))
          ∙ ((λ i. length-range_with_len 0 (length (scenarios ss)) i * (last_is ss i + 1)) ∙ ap (λ n. n * (length ss + 1)) (sym (many ss)));
      staged = stages_long ss;
      prefixes = λ stage is. prefix_few ss stage is;
      placed =
          λ j within.
          subst (λ (p : Place). IsStage p.stage)
          (sym (place_is (all_stages ss) 0 ds j no_decision (subst (λ n. j < n) (places_long (all_stages ss) 0 ds) within)))
          (bounded_at ds stated.decisions j (subst (λ n. j < n) (places_long (all_stages ss) 0 ds) within)).stage;
      small =
          λ j i within below.
          cell_small ds ss k stated copies j i (subst (λ n. j < n) (places_long (all_stages ss) 0 ds) within) (subst (λ n. i < n) (many ss) below);
    }

-- the tables that the code makes
pub record AreMade (ds : List Decision) (ss : List Stochastic) (tree : Layout) : Type 0 where
  pub whole : tree.total ≡ total_weight ss
  pub variables : tree.variables ≡ length ss
  pub weighed : tree.weights ≡ map weight_in (level_at ss (length ss))
  pub drawn : tree.values ≡ all_rows (all_levels ss) (length (level_at ss (length ss)))
  pub numbered : tree.nodes ≡ all_paths (all_levels ss) (length (level_at ss (length ss)))
  pub staged : tree.stages ≡ all_stages ss
  pub placed : tree.places ≡ places_from 0 tree.stages ds
  pub celled : tree.cells ≡ sum_by (cell_count tree.stages) ds

made_is : (ds : List Decision) (ss : List Stochastic) (tree : Layout) → AreMade ds ss tree → canonical ds ss ≡ tree
made_is ds ss tree made =
    sym (λ i.
    record {
      total = made.whole i;
      variables = made.variables i;
      weights = (made.weighed ∙ weights_are ss) i;
      values = (made.drawn ∙ ap (all_rows (all_levels ss)) (last_long ss)) i;
      nodes = (made.numbered ∙ ap (all_paths (all_levels ss)) (last_long ss)) i;
      stages = made.staged i;
      places = (made.placed ∙ ap (λ list. places_from 0 list ds) made.staged) i;
      cells = (made.celled ∙ ap (λ list. sum_by (cell_count list) ds) made.staged) i;
    })

pub tree_is : (ds : List Decision) (ss : List Stochastic) (k : ℕ) (tree : Layout) → AreStated ds ss k → AreMade ds ss tree → IsTreeOf ds ss tree
tree_is ds ss k tree stated made = subst (IsTreeOf ds ss) (made_is ds ss tree made) (canonical_is ds ss k stated)

fewer : (n m k count : ℕ) → k ≡ n + m → k * count ≤ usual_limits.copies → n * count ≤ usual_limits.copies
fewer n m k count is few =
    let below : n ≤ k = omega (arith, is) in
    let all : n * count ≤ k * count = mul-le-mul_right count below in
    omega (arith, all, few)

pub copies_of : (ds : List Decision) (ss : List Stochastic) (k n : ℕ) → n ≡ length ds + (length ss + k) → n * length (scenarios ss) ≤ usual_limits.copies
    → length ds * length (scenarios ss) ≤ usual_limits.copies
copies_of ds ss k n is few = fewer (length ds) (length ss + k) n (length (scenarios ss)) is few

pub tree_filled : (ds : List Decision) (ss : List Stochastic) (k n : ℕ) (tree : Layout) → AreStated ds ss k → length (scenarios ss) ≤ usual_limits.scenarios
    → n ≡ length ds + (length ss + k) → n * length (scenarios ss) ≤ usual_limits.copies → AreMade ds ss tree → IsFilled tree
tree_filled ds ss k n tree stated few is copies made =
    subst IsFilled (made_is ds ss tree made) (canonical_filled ds ss k stated few (copies_of ds ss k n is copies))

-- What the parts ask for.

pub stages_few : (ds : List Decision) (ss : List Stochastic) (k most : ℕ) (stages : List Stage) → AreStated ds ss k → stages ≡ all_stages ss
    → most ≡ length (scenarios ss) → (stage : ℕ) → IsStage stage → count_at stages stage ≤ most
stages_few ds ss k most stages stated is all stage at =
    subst (λ list. count_at list stage ≤ most) (sym is) (subst (λ n. count_at (all_stages ss) stage ≤ n) (sym all) (count_few ss (sound ds ss k stated) stage at))

pub stages_24 : (ss : List Stochastic) (stages : List Stage) → stages ≡ all_stages ss → length stages ≡ 24
stages_24 ss stages is = ap length is ∙ stages_long ss

pub weights_many : (ss : List Stochastic) (weights : List ℤ) → weights ≡ map weight_in (level_at ss (length ss)) → length weights ≡ length (scenarios ss)
weights_many ss weights is = ap length is ∙ (length-map (level_at ss (length ss)) weight_in ∙ last_long ss)

pub few_below : (n count : ℕ) → n ≤ count → count ≤ usual_limits.scenarios → n < 2 ^ 32
few_below n count one two = omega (arith, one, two)
