use Rattle.std.proofs.Common.{◌≡◌, ◌+◌, drop}
use Rattle.std.specs.List.{prefix_len}
use Rattle.sopl_ast.specs.Pieces.{is_name_byte}
use Rattle.sopl_lex.proofs.runs.name_len.Given as goal

-- what is passed and the run that is left are the run of the text
abbrev pub invariant-bytes : goal.invariant-bytes
invariant-bytes l = l.i + prefix_len is_name_byte (drop l.i l.text) ≡ prefix_len is_name_byte l.text
