use Rattle.std.proofs.Common.{sym}
use Rattle.log_check.proofs.Keeping.{end_of}
use Rattle.log_check.proofs.sums.Sums.end.Goals as goal

pub returns-clause-end : goal.returns-clause-end
returns-clause-end c =
    end_of c.args.program.now c.args.store.now.box c.takes_atoms.new.self.atoms.items c.as_slice.result.now c.checked_plus.result c.constant_of.result.value c.in_ok-sum.sum.value
    c.requires.made c.requires.inside (c.takes_atoms.ensures.parts c.args.store.now.box c.requires.in_step c.if-not-takes_atoms.false) (sym c.as_slice.ensures.value) c.constant_of.ensures
    c.in_ok-sum.ensures.sum c.checked_plus.ensures.sum
