-- The last stage of decisions.
use Rattle.std.specs.Prelude.{ℕ, List, [], ◌∷◌, max}
use Rattle.sopl_ast.specs.Instances.{Decision}

-- the greatest stage of a decision; 1 where there is none
abbrev pub last_stage : List Decision → ℕ
last_stage [] = 1
last_stage (d ∷ later) = max d.stage (last_stage later)
