-- The nodes of a form, one after the other.
use native.Mathlib.Omega.{arith}
use Rattle.std.proofs.Common.{◌≡◌, ◌∙◌, Result, Ok, Err, OnOk, ◌<◌, ◌-◌, ℕ, zero, suc, List, [], ◌∷◌, ◌++◌, ℤ, map, ap, ap₂}
use Rattle.std.proofs.lemmas.List.{append_assoc}
use Rattle.serde_json.specs.Data.{Data}
use Rattle.sopl_ast.specs.Instances.{Decision, Stochastic}
use Rattle.sopl_scen.specs.Domains.{cell_ends}
use Rattle.sopl_scen.specs.Layout.{cells_for}
use Rattle.policy_json.specs.LastStage.{last_stage}
use Rattle.policy_read.specs.Listed.{pairwise}
use Rattle.policy_read.specs.Policies.{form_for, node_read, policy_from}
use Rattle.policy_read.specs.Forms.{Facing, facing, next_branches, nodes_behind, nodes_of}

pub nodes_more : (later : ℕ) (old : List Facing) (h : Facing) → 0 < later
    → (old ++ h ∷ []) ++ pairwise (nodes_behind (nodes_of (later - 1))) (next_branches h.form) (next_branches h.given) ≡ old ++ nodes_of later h
nodes_more zero old h above = absurd (omega (arith, above))
nodes_more (suc later) old h above =
    let same : suc later - 1 ≡ later = omega arith in
    append_assoc old (h ∷ []) _ ∙ ap (λ n. old ++ h ∷ pairwise (nodes_behind (nodes_of n)) (next_branches h.form) (next_branches h.given)) same

pub nodes_added : {X E : Type 0} (result : Result X E) (later : ℕ) (old pushed new : List Facing) (form given : Data) (fs ds : List Data) → 0 < later
    → pushed ≡ old ++ facing form given ∷ [] → fs ≡ next_branches form → ds ≡ next_branches given
    → OnOk result (new ≡ pushed ++ pairwise (nodes_behind (nodes_of (later - 1))) fs ds) → OnOk result (new ≡ old ++ nodes_of later (facing form given))
nodes_added (Err e) later old pushed new form given fs ds above is is_f is_d so = so
nodes_added (Ok x) later old pushed new form given fs ds above is is_f is_d so =
    so ∙ ap₂ (λ xs ys. xs ++ ys) is (ap₂ (pairwise (nodes_behind (nodes_of (later - 1)))) is_f is_d) ∙ nodes_more later old (facing form given) above

-- the outermost node, held against the form for these decisions and stochastic variables
pub node_so : (ds : List Decision) (ss : List Stochastic) (stage : ℕ) (form given : Data) (domains : List (ℤ × ℤ)) → stage ≡ last_stage ds → form ≡ form_for ds ss
    → domains ≡ map cell_ends (cells_for ds ss) → policy_from (stage - 1) form given domains ≡ node_read ds ss given
node_so ds ss stage form given domains last is each = λ k. policy_from (last k - 1) (is k) given (each k)
