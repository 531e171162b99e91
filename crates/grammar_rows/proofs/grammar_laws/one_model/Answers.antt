use Rattle.grammar_rows.proofs.ModelReading.{spells_one}
use Rattle.grammar_rows.proofs.grammar_laws.one_model.Goals as goal

pub returns : goal.returns
returns c = spells_one c.args.tokens.now
