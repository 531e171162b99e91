use Rattle.std.proofs.Common.{◌∙◌}
use Rattle.term_program.proofs.Lawful.{root_is}
use Rattle.log_check.proofs.checker.Checker.new.Goals as goal

pub returns-clause-root : goal.returns-clause-root
returns-clause-root c = root_is c.args.program.now c.reserve.new.self.box (c.in_ok-reserve.ensures.same_box ∙ c.in_ok-store.ensures.root)
