-- Lists of the program, as the definitions have them.
use Rattle.std.specs.Prelude.{List, Vec}
use Rattle.std.specs.declared.alloc.Global.{Global}
use Rattle.sopl_ast.specs.declared.token.Token.{Token}

-- tokens in order
abbrev pub tokens_shown : Vec Token Global → List Token
tokens_shown tokens = tokens.items
