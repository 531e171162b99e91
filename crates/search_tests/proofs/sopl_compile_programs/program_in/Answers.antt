use Rattle.search_tests.proofs.Posing.{few_bits}
use Rattle.search_tests.proofs.sopl_compile_programs.program_in.Goals as goal

pub returns-clause-few_bits : goal.returns-clause-few_bits
returns-clause-few_bits c = few_bits _ c.in_ok-stated.stated c.compile.result c.in_ok-stated.ensures.stated c.compile.ensures.root
