use Rattle.std.proofs.Common.{rules, ◌≡◌, length}
use Rattle.unfold_declarations.proofs.Values.{few_found, few_fails}
use Rattle.unfold_declarations.proofs.calls.checked_numbers.Goals as goal

pub returns-in-Ok : goal.returns-in-Ok
returns-in-Ok c count =
    let n : c.len.result ≡ length c.args.numbers.items = search rules in
    few_found c.args.numbers.items c.len.result count n (c.in-Ok.ensures count)

pub returns-in-Err : goal.returns-in-Err
returns-in-Err c count =
    let n : c.len.result ≡ length c.args.numbers.items = search rules in
    few_fails c.args.numbers.items c.len.result count c.in-Err.fault n (c.in-Err.ensures count)
