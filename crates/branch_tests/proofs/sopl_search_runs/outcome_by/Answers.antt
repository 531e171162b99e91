use Rattle.branch_tests.proofs.Rising.{few_bits, rising_lawful}
use Rattle.branch_tests.proofs.sopl_search_runs.outcome_by.Goals as goal

pub search-requires-clause-lawful : goal.search-requires-clause-lawful
search-requires-clause-lawful c = rising_lawful c.args.program.now.intervals.items c.args.program.now.pairs c.args.program.now.chain.many

pub search-requires-clause-near : goal.search-requires-clause-near
search-requires-clause-near c = c.args.program.now.chain.near

pub search-requires-clause-bits : goal.search-requires-clause-bits
search-requires-clause-bits c = few_bits c.args.program.now.intervals.items c.args.program.now.pairs c.args.program.now.chain
