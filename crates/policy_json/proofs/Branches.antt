-- What is seen after a stage.
use Rattle.std.proofs.Common.{◌+◌, ◌++◌, ℕ, ℤ, List}
use Rattle.serde_json.specs.Data.{Data}
use Rattle.sopl_ast.specs.Instances.{Decision, Stochastic}
use Rattle.sopl_ast.specs.Policies.{Policy}
use Rattle.policy_json.specs.Nodes.{branch_at, node_at}

-- what is seen after a stage, where so many stages come after the next one
abbrev pub branch_after : List Decision → List Stochastic → Policy → ℕ → ℕ → List ℤ → List ℤ → Data
branch_after ds ss policy later stage seen values = branch_at stage ss values (node_at ds ss policy later (stage + 1) (seen ++ values))
