use Rattle.std.proofs.Common.{◌≡◌, ◌+◌, drop}
use Rattle.std.specs.List.{prefix_len}
use Rattle.sopl_lex.specs.Front.{is_line_byte}
use Rattle.sopl_lex.proofs.runs.line_len.Given as goal

-- what is passed and the run that is left are the run of the text
abbrev pub invariant-bytes : goal.invariant-bytes
invariant-bytes l = l.i + prefix_len is_line_byte (drop l.i l.text) ≡ prefix_len is_line_byte l.text
