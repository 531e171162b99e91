use Rattle.log_check.proofs.walk.Walk.next.Goals as goal

pub returns-clause-follow : goal.returns-clause-follow
returns-clause-follow c = λ program keeps. c.take_high.ensures.follow program (c.go_back.ensures.follow program keeps)
