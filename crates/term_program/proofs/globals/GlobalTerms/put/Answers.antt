use Rattle.std.proofs.Common.{rules}
use Rattle.term_program.proofs.Listing.{next_empty}
use Rattle.term_program.proofs.globals.GlobalTerms.put.Goals as goal

pub returns-then-is_empty : goal.returns-then-is_empty
returns-then-is_empty c = λ all before listed. next_empty all c.args.id c.args.self.now c.args.terms.items before listed (search rules)
