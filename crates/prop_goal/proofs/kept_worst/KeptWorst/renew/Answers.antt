use Rattle.prop_goal.proofs.kept_worst.KeptWorst.renew.Goals as goal

pub returns-clause-renewed : goal.returns-clause-renewed
returns-clause-renewed c = record { told = c.in-Some.ends; put = c.put.ensures.put; seen = c.in-Some.ensures.seen }
