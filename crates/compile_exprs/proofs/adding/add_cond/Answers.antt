use Rattle.compile_exprs.proofs.Steps.{cond_made}
use Rattle.compile_exprs.proofs.adding.add_cond.Goals as goal

pub returns : goal.returns
returns c = record { made = λ setting before t operands. cond_made setting before c.args.work.now c.add_cond.new.self c.args.new.now t c.in_ok-id.id operands c.in_ok-id.ensures.added }
