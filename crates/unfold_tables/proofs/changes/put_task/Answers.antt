use Rattle.std.proofs.Common.{ap, ◌∙◌, ◌+ℤ◌}
use Rattle.std.proofs.Math.IntN.{+ℤ_assoc}
use Rattle.unfold_tables.specs.Changing.{changes_in, level, part}
use Rattle.unfold_tables.proofs.changes.put_task.Goals as goal

pub returns : goal.returns
returns c =
    λ room time.
    c.in_ok-room.ensures room time
    ∙ ap (λ z. z +ℤ part time c.in-Some.last) (c.in_ok-put.ensures c.if-not-branch.false time)
    ∙ +ℤ_assoc (level time (changes_in c.args.changes.now.entries)) (part time c.in-Some.first) (part time c.in-Some.last)
    ∙ ap (λ z. level time (changes_in c.args.changes.now.entries) +ℤ z) (c.in-Some.ensures time)
