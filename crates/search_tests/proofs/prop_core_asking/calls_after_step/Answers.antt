use Rattle.search_tests.proofs.Posing.{posed_of}
use Rattle.search_tests.proofs.prop_core_asking.calls_after_step.Goals as goal

pub new-requires-clause-posed : goal.new-requires-clause-posed
new-requires-clause-posed c = posed_of c.args.program.now c.requires.made c.requires.few_bits

pub step-requires-clause-posed : goal.step-requires-clause-posed
step-requires-clause-posed c = posed_of c.args.program.now c.requires.made c.requires.few_bits
