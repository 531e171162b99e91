use Rattle.std.proofs.Common.{arith, ap, length}
use Rattle.log_check.proofs.Rowing.{bad_within, first_fits, line_fits, row_steps, wrong_end_here, wrong_step_here}
use Rattle.log_check.proofs.rows.judge_row.Goals as goal

pub overflow_add-line : goal.overflow_add-line
overflow_add-line c = first_fits c.args.view.now c.requires.ready c.args.at c.requires.exists

pub overflow_add-result : goal.overflow_add-result
overflow_add-result c =
    let are = row_steps c.args.view.now c.requires.ready c.args.at c.requires.exists c.index-view-at.result c.as_slice-steps.result.now c.as_slice-steps.ensures.items in
    let within = bad_within c.args.view.now c.requires.ready c.args.at c.requires.exists c.claimed.result c.args.store.now.box c.as_slice-steps.result.now c.in-Some.bad c.in-Some.ensures.wrong are in
    line_fits c.args.view.now c.requires.ready c.args.at c.requires.exists c.in-Some.bad (omega (arith, within))

pub returns-in-Some-clause-wrong : goal.returns-in-Some-clause-wrong
returns-in-Some-clause-wrong c =
    let are = row_steps c.args.view.now c.requires.ready c.args.at c.requires.exists c.index-view-at.result c.as_slice-steps.result.now c.as_slice-steps.ensures.items in
    wrong_step_here c.args.view.now c.requires.ready c.args.at c.requires.exists c.claimed.result c.args.store.now.box c.as_slice-steps.result.now c.in-Some.bad c.claimed.ensures.claimed c.in-Some.ensures.wrong are

pub overflow_add-result-in-None : goal.overflow_add-result-in-None
overflow_add-result-in-None c =
    let are = row_steps c.args.view.now c.requires.ready c.args.at c.requires.exists c.index-view-at.result c.as_slice-steps.result.now c.as_slice-steps.ensures.items in
    line_fits c.args.view.now c.requires.ready c.args.at c.requires.exists _ (omega (arith, ap length are))

pub returns-in-None-clause-wrong : goal.returns-in-None-clause-wrong
returns-in-None-clause-wrong c =
    let are = row_steps c.args.view.now c.requires.ready c.args.at c.requires.exists c.index-view-at.result c.as_slice-steps.result.now c.as_slice-steps.ensures.items in
    wrong_end_here c.args.view.now c.requires.ready c.args.at c.requires.exists c.claimed.result c.args.store.now.box _ c.as_slice-steps.result.now c.claimed.ensures.claimed c.in_default.ensures.right
    c.in_default.ensures.leads are c.in-None.ensures.judged
