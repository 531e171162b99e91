-- What a ground problem states.
use Rattle.sopl_ast.specs.Instances.{Problem}
use Rattle.sopl_ast.specs.Unfolding.{problem_of}
use Rattle.sopl_ast.specs.WholeModel.{whole}
use Rattle.sopl_unfold.specs.declared.ground.Ground.{Ground}

-- the problem that its model states
abbrev pub ground_problem : Ground → Problem
ground_problem g = problem_of (whole g.typed.model)
