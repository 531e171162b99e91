-- What contracts see of an initial value.
use Rattle.sopl_ast.specs.Whole.{InitTree, One, Many, inits}
use Rattle.sopl_ast.specs.declared.inits.Init.{Init}
use Rattle.sopl_ast.specs.declared.inits.Init.TheVariants as text

-- one expression, or a list of initial values with its place
abbrev pub init_tree : Init → InitTree
init_tree (text.One e) = One e
init_tree (text.Many at parts) = Many at (inits parts)
