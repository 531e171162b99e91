use Rattle.std.proofs.Common.{refl}
use Rattle.policy_tree.proofs.worked.worked_values.Goals as goal
use Rattle.policy_tree.proofs.Examples.{mixed_worth, zeros_worth, ones_worth, guessing_none}

pub returns : goal.returns
returns c = record { keys = refl; mixed = mixed_worth; zeros = zeros_worth; ones = ones_worth; infeasible = guessing_none }
