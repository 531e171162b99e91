use Rattle.std.proofs.Common.{refl, false}
use Rattle.prop_goal.proofs.Objectives.{closed_against, closed_alone}
use Rattle.prop_goal.proofs.kept_ends.KeptEnds.is_beaten.Goals as goal

pub returns-in-Some : goal.returns-in-Some
returns-in-Some c =
    closed_against c.args.probe.now c.args.self.now.end.value c.in-Some.best.value c.direction.result c.is_no_better.result c.requires.reason c.in-Some.ensures.some c.requires.end c.direction.ensures
    c.is_no_better.ensures

pub returns-in-None : goal.returns-in-None
returns-in-None c = closed_alone c.args.probe.now false c.requires.reason c.in-None.ensures.none refl
