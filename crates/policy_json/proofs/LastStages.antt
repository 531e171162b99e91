-- The greatest stage of decisions.
use Rattle.std.proofs.Common.{◌≡◌, ◌+◌, ◌<◌, ◌≤◌, ◌++◌, ℕ, List, [], ◌∷◌, length, max, get_or, take, arith, sym, ap, ◌∙◌}
use Rattle.std.proofs.lemmas.List.{take_more}
use Rattle.std.specs.List.{AllByRecursion}
use Rattle.sopl_ast.specs.Instances.{Decision}
use Rattle.unfold_laws.specs.Bounds.{IsBoundedDecision}
use Rattle.policy_json.specs.LastStage.{last_stage}

last_stage_more : (ds : List Decision) (d : Decision) → last_stage (ds ++ d ∷ []) ≡ max (last_stage ds) d.stage
last_stage_more [] d = omega arith
last_stage_more (e ∷ ds) d = omega (arith, last_stage_more ds d)

-- the greatest stage of one more decision
pub last_step : (ds : List Decision) (i : ℕ) (d : Decision) (last n : ℕ) → i < length ds → d ≡ get_or ds i d → n ≡ d.stage → last ≡ last_stage (take i ds)
    → max last n ≡ last_stage (take (i + 1) ds)
last_step ds i d last n within is at so_far =
    ap (λ m. max m n) so_far ∙ (ap (λ m. max (last_stage (take i ds)) m) at
    ∙ (sym (last_stage_more (take i ds) d) ∙ sym (ap last_stage (take_more ds i d within ∙ ap (λ x. take i ds ++ x ∷ []) (sym is)))))

-- a decision is of one of the 24 stages
pub last_stage_few : (ds : List Decision) → AllByRecursion IsBoundedDecision ds → last_stage ds ≤ 24
last_stage_few [] all = omega arith
last_stage_few (d ∷ ds) all = omega (arith, all.0.stage.1, last_stage_few ds all.1)
