-- Scenarios that one decision cannot tell apart.
use Rattle.std.specs.Prelude.{◌≡◌, ℕ, ℤ, List, IfSome}
use Rattle.sopl_ast.specs.Instances.{Problem}
use Rattle.sopl_ast.specs.Scenarios.{Scenario}
use Rattle.sopl_ast.specs.Histories.{history}
use Rattle.sopl_ast.specs.Meanings.{decision_at}

-- the scenarios have the same history at the stage of the decision with this name and index, where there is one
abbrev pub IsSeenAlike : Problem → List ℕ → List ℤ → Scenario → Scenario → Type 0
IsSeenAlike problem name index s t =
    IfSome (decision_at name index 0 problem.decisions)
    (λ (found : ℕ × ℕ). history found.1 problem.stochastics s.values ≡ history found.1 problem.stochastics t.values)
