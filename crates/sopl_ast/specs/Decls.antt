-- What contracts see of a declaration.
use Rattle.sopl_ast.specs.Whole.{Declaration, IntDecl, RangeDecl, SetDecl, DvarDecl, StochDecl}
use Rattle.sopl_ast.specs.Lists.{trees}
use Rattle.sopl_ast.specs.Ranges.{range_of}
use Rattle.sopl_ast.specs.Inits.{init_tree}
use Rattle.sopl_ast.specs.declared.decls.Decl.{Decl}
use Rattle.sopl_ast.specs.declared.decls.Decl.TheVariants as text

-- a declaration as plain data
abbrev pub declaration : Decl → Declaration
declaration (text.Int name at dims init) = IntDecl name at dims (init_tree init)
declaration (text.Range name at lo hi) = RangeDecl name at lo hi
declaration (text.Set name at elements) = SetDecl name at (trees elements)
declaration (text.Dvar name at dims range stage) = DvarDecl name at dims (range_of range) stage
declaration (text.Stoch name at dims dist stage) = StochDecl name at dims dist stage
