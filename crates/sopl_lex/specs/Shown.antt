-- How contracts see a piece of the code.
use Rattle.std.specs.Prelude.{ℕ}
use Rattle.sopl_ast.specs.Pieces.{Piece}
use Rattle.sopl_lex.specs.Front.{piece_of_kind}
use Rattle.sopl_lex.specs.declared.pieces.Piece as code

-- a piece and its length
abbrev pub shown : code.Piece → Piece × ℕ
shown piece = (piece_of_kind piece.kind, piece.len)
