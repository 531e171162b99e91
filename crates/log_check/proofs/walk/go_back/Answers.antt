use Rattle.log_check.proofs.Judging.{undone_outside}
use Rattle.log_check.proofs.walk.go_back.Goals as goal

pub returns-clause-follow : goal.returns-clause-follow
returns-clause-follow c =
    c.tell_all.ensures.follow c.args.store.now.box c.undo.new.self.box
    (undone_outside c.args.store.now.marks c.args.store.now.box c.changed.result.now c.undo.new.self c.changed.ensures.held c.undo.ensures)
