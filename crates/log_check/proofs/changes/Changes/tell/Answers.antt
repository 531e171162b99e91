use Rattle.std.proofs.Common.{refl, rules}
use Rattle.log_check.proofs.Changing.{none_changed, one_changed}
use Rattle.log_check.proofs.changes.Changes.tell.Goals as goal

pub returns-then-at-len : goal.returns-then-at-len
returns-then-at-len c = record { changed = none_changed c.args.cell c.args.self.now (search rules) }

pub returns : goal.returns
returns c = record { changed = one_changed c.args.cell c.args.self.now _ (search rules) refl refl }
