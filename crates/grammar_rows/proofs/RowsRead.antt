-- What is read of a row and what it spells.
use Rattle.std.proofs.Common.{refl, ap, ◌∙◌, true, false, [], Ok}
use Rattle.sopl_ast.specs.ModelRows.{row}
use Rattle.grammar_rows.specs.RowLaws.{ReadRowsAreSpelled, SpelledRowsAreRead, RowsMayBeMissing, RowsTakeTokens}
use Rattle.grammar_rows.specs.RowReading.{nested_read}
use Rattle.grammar_rows.proofs.Predictive.{row_is}
use Rattle.grammar_rows.proofs.ReadComplete.{over, clear}
use Rattle.grammar_rows.proofs.ReadNothing.{none_read}
use Rattle.grammar_rows.proofs.ReadSound.{read_sound}
use Rattle.grammar_rows.proofs.ToldApart.{row_apart, read_complete}
use Rattle.grammar_rows.proofs.TokensTaken.{takes_at}

pub read_rows_are_spelled : ReadRowsAreSpelled
read_rows_are_spelled cut n s ts x r e = read_sound cut n (row s) (row_is s) ts (x, r) e

pub spelled_rows_are_read : SpelledRowsAreRead
spelled_rows_are_read = record {
  whole = λ n s ts x r free is.
      let g = read_complete false n (row s) (row_is s) (row_apart s) ts x r (clear free) is in
      g.read ∙ ap (λ v. Ok (v, r)) (g.same refl);
  too_early = λ n s ts x is.
      let g = read_complete true n (row s) (row_is s) (row_apart s) ts x [] (over refl refl) is in
      record { value = g.value; read = g.read };
}

pub rows_may_be_missing : RowsMayBeMissing
rows_may_be_missing n s = none_read (nested_read true n) (row s) (row_is s)

pub rows_take_tokens : RowsTakeTokens
rows_take_tokens cut n s ts x r is = takes_at cut n (row s) (row_is s) ts x r is
