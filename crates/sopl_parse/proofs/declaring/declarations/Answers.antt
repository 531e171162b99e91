-- What follows is read as the chain of its items is.
use Rattle.std.proofs.Common.{false, arith, rules}
use Rattle.parse_grammar.specs.Phrases as phrase
use Rattle.parse_grammar.specs.Phrases.{way}
use Rattle.sopl_parse.proofs.declaring.declarations.Goals as goal

pub returns : goal.returns
unfolding phrase.declarations
returns c =
    let next = phrase.next_declaration (way false c.args.reader.now.depth) in
    let all = c.chain.ensures next (λ ts r p. search rules) in
    first_of (search rules, grind arith)
