-- What follows is read as the chain of its items is.
use Rattle.std.proofs.Common.{false, arith, rules}
use Rattle.parse_grammar.specs.Phrases as phrase
use Rattle.parse_grammar.specs.Phrases.{way}
use Rattle.parse_exprs.proofs.Plain.{plain}
use Rattle.sopl_parse.proofs.lists.more_outcomes.Goals as goal

pub returns : goal.returns
unfolding phrase.more_outcomes
returns c =
    let next = phrase.next_outcome (way false c.args.reader.now.depth) in
    let all = c.chain.ensures next (λ ts r p. plain r (next ts.now) (search rules)) in
    first_of (search rules, grind arith)
