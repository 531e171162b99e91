-- One stage more, and one thing shown more.
use Rattle.std.proofs.Common.{◌≡◌, ◌+◌, ◌-◌, ◌≤◌, ◌++◌, ℕ, List, [], ◌∷◌, length, map, get_or, arith, sym, ap, ◌∙◌}
use Rattle.std.proofs.lemmas.List.{map-append}
use Rattle.std.proofs.lemmas.List.FromFn.{get_or-map-range_with_len, length-map-range_with_len, map-range_with_len_more}
use Rattle.std.specs.List.{range_with_len}
use Rattle.sopl_ast.specs.Instances.{Decision, Stochastic}
use Rattle.policy_json.specs.Stages.{StageParts, stage_in, stage_numbers, all_stages}

-- one more stage
pub stage_more : (f : ℕ → StageParts) (stage : ℕ) (old new : List StageParts) (x : StageParts) → 1 ≤ stage → old ≡ map f (range_with_len 1 (stage - 1)) → x ≡ f stage
    → new ≡ old ++ x ∷ [] → new ≡ map f (range_with_len 1 (stage + 1 - 1))
stage_more f stage old new x first so_far next made =
    made
    ∙ ((λ i. so_far i ++ next i ∷ [])
    ∙ (sym (map-range_with_len_more f 1 (stage - 1) stage (omega (arith, first))) ∙ ap (λ n. map f (range_with_len 1 n)) (omega (arith, first))))

pub stages_done : (ds : List Decision) (ss : List Stochastic) (stage : ℕ) (found : List StageParts) → found ≡ map (stage_in ds ss) (range_with_len 1 (stage - 1)) → stage ≡ 25
    → found ≡ all_stages ds ss
unfolding stage_numbers
stages_done ds ss stage found is last = is ∙ ap (λ n. map (stage_in ds ss) (range_with_len 1 (n - 1))) last

-- a stage among all
pub stage_found : (ds : List Decision) (ss : List Stochastic) (stages : List StageParts) (stage : ℕ) (x : StageParts) → 1 ≤ stage → stage ≤ 24 → stages ≡ all_stages ds ss
    → x ≡ get_or stages (stage - 1) x → x ≡ stage_in ds ss stage
unfolding stage_numbers
stage_found ds ss stages stage x from to all is =
    is
    ∙ (ap (λ list. get_or list (stage - 1) x) all
    ∙ get_or-map-range_with_len (stage_in ds ss) 1 24 (stage - 1) stage x (omega (arith, from, to)) (omega (arith, from)))

pub stages_long : (ds : List Decision) (ss : List Stochastic) (stages : List StageParts) → stages ≡ all_stages ds ss → length stages ≡ 24
unfolding stage_numbers
stages_long ds ss stages all = ap length all ∙ length-map-range_with_len (stage_in ds ss) 1 24

-- an element more, of which each is shown
pub shown_more : {X Y : Type 0} (v : X → Y) (f : ℕ → Y) (from n i : ℕ) (old new : List X) (x : X) → from + n ≡ i → map v old ≡ map f (range_with_len from n) → v x ≡ f i
    → new ≡ old ++ x ∷ [] → map v new ≡ map f (range_with_len from (n + 1))
shown_more v f from n i old new x at so_far next made =
    ap (map v) made
    ∙ (map-append v old (x ∷ []) ∙ ((λ j. so_far j ++ next j ∷ []) ∙ sym (map-range_with_len_more f from n i at)))

-- a run of values that are shown from a number on is longer by one
pub run_more : {X Y : Type 0} (v : X → Y) (f : ℕ → Y) (first n : ℕ) (old new : List X) (x : X) → first ≤ n → map v old ≡ map f (range_with_len first (n - first))
    → v x ≡ f n → new ≡ old ++ x ∷ [] → map v new ≡ map f (range_with_len first (n + 1 - first))
run_more v f first n old new x order so_far next made =
    let at : first + (n - first) ≡ n = omega (arith, order) in
    let more : (n - first) + 1 ≡ n + 1 - first = omega (arith, order) in
    shown_more v f first (n - first) n old new x at so_far next made ∙ ap (λ k. map f (range_with_len first k)) more
