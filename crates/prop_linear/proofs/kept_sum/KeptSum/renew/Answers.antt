use Rattle.std.proofs.Common.{◌≡◌, rules, true}
use Rattle.prop_linear.proofs.Renewing.{sum_known}
use Rattle.prop_linear.proofs.kept_sum.KeptSum.renew.Goals as goal

pub returns-then-renew_told-clause-known : goal.returns-then-renew_told-clause-known
returns-then-renew_told-clause-known c =
    let met : c.renew_told.result ≡ true = search rules in
    sum_known c.args.difference.now c.renew_told.new.self c.renew_told.ensures.places (c.renew_told.ensures.sums met)

pub returns-clause-known : goal.returns-clause-known
returns-clause-known c = sum_known c.args.difference.now c.sum_up.new.self c.sum_up.ensures.places c.sum_up.ensures.sums
