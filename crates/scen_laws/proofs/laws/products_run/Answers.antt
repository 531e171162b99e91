use Rattle.scen_laws.proofs.Products.{products_run}
use Rattle.scen_laws.proofs.laws.products_run.Goals as goal

pub returns : goal.returns
returns c = record { law = products_run }
