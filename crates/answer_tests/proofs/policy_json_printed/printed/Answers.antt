use Rattle.policy_json.proofs.Samples.{sample_stated, sample_words}
use Rattle.answer_tests.proofs.policy_json_printed.printed.Goals as goal

pub of-requires : goal.of-requires
of-requires c = record { stated = sample_stated c.args.decisions.now c.args.stochs.now c.requires.decisions c.requires.stochs }

pub policy_value-requires-clause-stated : goal.policy_value-requires-clause-stated
policy_value-requires-clause-stated c = (0, sample_stated c.args.decisions.now c.args.stochs.now c.requires.decisions c.requires.stochs)

pub policy_value-requires-clause-names : goal.policy_value-requires-clause-names
policy_value-requires-clause-names c = sample_words c.args.decisions.now c.args.stochs.now c.requires.decisions c.requires.stochs
