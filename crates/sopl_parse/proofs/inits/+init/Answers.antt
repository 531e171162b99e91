-- What follows is read as the chain of its items is.
use Rattle.std.proofs.Common.{false, arith, rules}
use Rattle.parse_grammar.specs.Phrases as phrase
use Rattle.parse_grammar.specs.Phrases.{way}
use Rattle.sopl_parse.proofs.inits.+init.Goals as goal

pub more_inits-returns : goal.more_inits-returns
unfolding phrase.more_inits
more_inits-returns t c =
    let next = phrase.next_init (way false c.args.reader.now.depth) in
    let all = c.chain.ensures next (λ ts r p. search rules) in
    first_of (search rules, grind arith)
