use Rattle.std.proofs.Common.{◌≡◌, ◌+◌, drop}
use Rattle.sopl_ast.specs.Pieces.{before_close}
use Rattle.sopl_lex.proofs.runs.before_close.Given as goal

-- what is passed and what is left before the first `*/`
abbrev pub invariant-bytes : goal.invariant-bytes
invariant-bytes l = l.i + before_close (drop l.i l.text) ≡ before_close l.text
