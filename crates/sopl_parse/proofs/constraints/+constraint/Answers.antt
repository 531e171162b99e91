-- What follows is read as the chain of its items is.
use Rattle.std.proofs.Common.{false, arith, rules}
use Rattle.parse_grammar.specs.Phrases as phrase
use Rattle.parse_grammar.specs.Phrases.{way}
use Rattle.sopl_parse.proofs.constraints.+constraint.Goals as goal

pub constraints-returns : goal.constraints-returns
unfolding phrase.constraints
constraints-returns t c =
    let next = phrase.next_constraint (way false c.args.reader.now.depth) in
    let all = c.chain.ensures next (λ ts r p. search rules) in
    first_of (search rules, grind arith)
