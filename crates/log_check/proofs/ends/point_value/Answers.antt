use Rattle.log_check.proofs.Points.{right_point}
use Rattle.log_check.proofs.ends.point_value.Goals as goal

pub returns-clause-right : goal.returns-clause-right
returns-clause-right c =
    right_point c.args.program.now c.args.footer.now c.args.store.now.box c.is_point.result c.direction.result c.claimed.result c.better_end-end.result.value c.is_claimed.result c.requires.made c.requires.inside
    c.is_point.ensures.point c.if-not-is_point.false c.in_default.ensures.open c.better_end-end.ensures.end c.direction.ensures c.claimed.ensures.claimed c.is_claimed.ensures.claimed c.if-not-is_claimed.false
