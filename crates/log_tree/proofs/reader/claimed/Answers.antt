use Rattle.std.proofs.Common.{rules, sym, subst, ◌∷◌}
use Rattle.log_tree.specs.Cutting.{lines_in}
use Rattle.log_tree.specs.Progress.{RefusesRows}
use Rattle.log_tree.proofs.Claims.{claim_long}
use Rattle.log_tree.proofs.reader.claimed.Goals as goal

pub returns-then-not-is_empty-clause-err : goal.returns-then-not-is_empty-clause-err
returns-then-not-is_empty-clause-err c =
    subst (RefusesRows c.args.growing.rows.items c.args.number (c.args.line.now ∷ lines_in c.args.left.now)) (sym c.refused-then-not-is_empty.ensures)
    (claim_long c.args.growing.rows.items c.args.number c.args.line.now c.args.left.now c.in-Some.footer (search rules) c.in-Some.ensures (search rules))
