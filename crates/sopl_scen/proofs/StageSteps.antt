-- One stage more.
use Rattle.std.proofs.Common.{◌≡◌, ◌+◌, ◌-◌, ◌≤◌, ◌<◌, ◌^◌, ◌++◌, ℕ, List, [], ◌∷◌, length, map, get_or, arith, sym, ap, subst, ◌∙◌}
use Rattle.std.proofs.lemmas.List.FromFn.{map-range_with_len_more}
use Rattle.std.specs.List.{range_with_len}
use Rattle.sopl_ast.specs.Instances.{Stochastic}
use Rattle.scen_laws.specs.Laws.{seen_before}
use Rattle.sopl_scen.specs.declared.nodes.Node.{Node}
use Rattle.sopl_scen.specs.declared.stages.Stage.{Stage}
use Rattle.sopl_scen.specs.Levels.{AreSmall, all_levels, level_at}
use Rattle.sopl_scen.specs.Stages.{stage_in, stage_numbers, all_stages}
use Rattle.sopl_scen.proofs.LevelSteps.{level_is, levels_long}

pub prefix_within : (ss : List Stochastic) (levels : List (List Node)) (prefix : ℕ) → levels ≡ all_levels ss → prefix ≤ length ss → prefix < length levels
prefix_within ss levels prefix is within = omega (arith, levels_long ss (length ss + 1) levels is, within)

pub prefix_level : (ss : List Stochastic) (levels : List (List Node)) (prefix : ℕ) (level d : List Node) → levels ≡ all_levels ss → prefix ≤ length ss
    → level ≡ get_or levels prefix d → level ≡ level_at ss prefix
prefix_level ss levels prefix level d is within at = level_is ss (length ss + 1) prefix levels level d (omega (arith, within)) is at

pub prefix_few : (ss : List Stochastic) (prefix : ℕ) (level : List Node) → AreSmall ss → prefix ≤ length ss → level ≡ level_at ss prefix → length level < 2 ^ 32
prefix_few ss prefix level small within is = subst (λ list. length list < 2 ^ 32) (sym is) (small.few prefix within)

pub stage_is : (ss : List Stochastic) (stage prefix : ℕ) (level : List Node) → prefix ≡ seen_before stage ss → level ≡ level_at ss prefix
    → ◌≡◌ {A = Stage} (record { prefix = prefix; histories = length level }) (stage_in ss stage)
stage_is ss stage prefix level seen is =
    λ i. record { prefix = seen i; histories = (ap length is ∙ ap (λ k. length (level_at ss k)) seen) i }

-- one more stage
pub stage_more : (f : ℕ → Stage) (stage : ℕ) (old new : List Stage) (x : Stage) → 1 ≤ stage → old ≡ map f (range_with_len 1 (stage - 1)) → x ≡ f stage
    → new ≡ old ++ x ∷ [] → new ≡ map f (range_with_len 1 (stage + 1 - 1))
stage_more f stage old new x first so_far next made =
    made
    ∙ ((λ i. so_far i ++ next i ∷ [])
    ∙ (sym (map-range_with_len_more f 1 (stage - 1) stage (omega (arith, first))) ∙ ap (λ n. map f (range_with_len 1 n)) (omega (arith, first))))

pub stages_done : (ss : List Stochastic) (stage : ℕ) (found : List Stage) → found ≡ map (stage_in ss) (range_with_len 1 (stage - 1)) → stage ≡ 25 → found ≡ all_stages ss
unfolding stage_numbers
stages_done ss stage found is last = is ∙ ap (λ n. map (stage_in ss) (range_with_len 1 (n - 1))) last
