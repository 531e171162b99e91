use Rattle.sopl_ast.specs.Tokens.{Lexes}
use Rattle.sopl_lex.proofs.Meet.{answers_only, lexes_one}
use Rattle.sopl_lex.proofs.lex.Goals as goal

-- the answer is an outcome, and the text has no other
pub returns-clause-only : goal.returns-clause-only
returns-clause-only c = λ outcome is. answers_only _ c.read.result (Lexes c.args.text.now) outcome (lexes_one c.args.text.now) c.read.ensures is
