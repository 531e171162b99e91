use Rattle.parse_laws.proofs.Prefixes.{prefixes_go_on}
use Rattle.parse_laws.proofs.prefix_laws.prefixes_go_on.Goals as goal

pub returns : goal.returns
returns c = record { law = prefixes_go_on }
