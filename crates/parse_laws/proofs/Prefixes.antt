-- Each prefix goes on to some model.
use Rattle.std.proofs.Common.{◌+◌}
use Rattle.sopl_ast.specs.Nonterminals.{Model}
use Rattle.grammar_rows.proofs.FillingOut.{row_prefixes_go_on}
use Rattle.parse_laws.specs.PrefixLaws.{PrefixesGoOn}

pub prefixes_go_on : PrefixesGoOn
prefixes_go_on n tokens prefix =
    let x = row_prefixes_go_on n Model tokens prefix.whole prefix.spelled in
    record { others = x.others; whole = x.value; spelled = record { nesting = n + 2; spelled = x.spelled } }
