-- What a text that passes states is what a tree asks for.
use Rattle.std.proofs.Common.{ℕ, ◌+◌, length}
use Rattle.sopl_ast.specs.Instances.{Problem}

-- how many constraints a problem has
abbrev pub constraints_in : Problem → ℕ
constraints_in problem = length problem.hards + length problem.chances
