use Rattle.compile_exprs.proofs.Steps.{term_made}
use Rattle.compile_exprs.proofs.adding.add_term.Goals as goal

pub returns : goal.returns
returns c = record { made = λ setting before t operands. term_made setting before c.args.work.now c.add_term.new.self c.args.new.now t c.add_term.result operands c.add_term.ensures.added }
