use Rattle.std.proofs.Common.{◌≡◌, ◌+◌, ◌^◌, drop, take, min}
use Rattle.std.specs.Char.{is_ascii_digit}
use Rattle.std.specs.List.{prefix_len}
use Rattle.sopl_ast.specs.Pieces.{decimal}
use Rattle.sopl_lex.proofs.runs.digits.Given as goal

-- what is passed and the run that is left are the run of the text, and the value of what is passed
abbrev pub invariant-digits : goal.invariant-digits
invariant-digits l = record {
  len : l.i + prefix_len is_ascii_digit (drop l.i l.text) ≡ prefix_len is_ascii_digit l.text;
  value : l.value ≡ min (decimal (take l.i l.text)) (2 ^ 40 + 1);
}
