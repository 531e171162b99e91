use Rattle.log_rows.proofs.LogTexts as lemmas
use Rattle.log_rows.proofs.text_laws.texts_are_logs.Goals as goal

pub returns : goal.returns
returns c = record { law = lemmas.texts_are_logs }
