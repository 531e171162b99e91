use Rattle.log_check.proofs.Rowing.{last_begins, last_fits, last_line}
use Rattle.log_check.proofs.footer.footer_line.Goals as goal

pub overflow_add-result : goal.overflow_add-result
overflow_add-result c = last_begins c.args.view.now c.requires.ready c.requires.at_least_one c.index-view-last.result c.as_slice-steps.result.now c.as_slice-steps.ensures.items

pub overflow_add-result-2 : goal.overflow_add-result-2
overflow_add-result-2 c = last_fits c.args.view.now c.requires.ready c.requires.at_least_one c.index-view-last.result c.as_slice-steps.result.now c.as_slice-steps.ensures.items

pub returns : goal.returns
returns c = record { line = last_line c.args.view.now c.requires.ready c.requires.at_least_one c.index-view-last.result c.as_slice-steps.result.now c.as_slice-steps.ensures.items }
