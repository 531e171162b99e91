use Rattle.scen_accept.proofs.Texts.{tokens_refused}
use Rattle.scen_accept.proofs.read.tokens_of.Goals as goal

pub returns-clause-refused : goal.returns-clause-refused
returns-clause-refused c = tokens_refused c.args.text.now c.lex.result c.lex.ensures.found
