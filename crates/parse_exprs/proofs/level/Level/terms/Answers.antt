-- What follows is read as the chain of its items is.
use Rattle.std.proofs.Common.{false, arith, rules}
use Rattle.parse_grammar.specs.Expressions as phrase
use Rattle.parse_grammar.specs.Phrases.{way}
use Rattle.parse_exprs.proofs.Plain.{plain}
use Rattle.parse_exprs.proofs.level.Level.terms.Goals as goal

pub returns : goal.returns
returns g c =
    let next = phrase.next_term (way false c.args.self.now.here.depth) in
    let all = c.chain.ensures next (λ ts r p. plain r (next ts.now) (search rules)) in
    first_of (search rules, grind arith)
