-- Where the cells of each decision begin, by the numbers of histories that a tree tells. These steps are the code's own: no public clause
-- cites them.
use Rattle.std.specs.Prelude.{ℕ, ◌+◌, List, [], ◌∷◌}
use Rattle.sopl_ast.specs.Instances.{Decision}
use Rattle.sopl_scen.specs.Layout.{Layout, histories_in}

abbrev pub laid_firsts : Layout → ℕ → List Decision → List ℕ
laid_firsts tree first [] = first ∷ []
laid_firsts tree first (d ∷ later) = first ∷ laid_firsts tree (first + histories_in tree d.stage) later

-- where they end
abbrev pub cells_end : Layout → ℕ → List Decision → ℕ
cells_end tree first [] = first
cells_end tree first (d ∷ later) = cells_end tree (first + histories_in tree d.stage) later
