use Rattle.std.proofs.Common.{◌∙◌}
use Rattle.term_language.specs.Rules.{truth}
use Rattle.term_nodes.specs.Things.{cond_at, things}
use Rattle.term_store.specs.Stores.{root_of}
use Rattle.term_store.proofs.WideReading.{read_as}
use Rattle.term_store.proofs.store.TermStore.truth_known.Goals as goal

pub returns : goal.returns
returns c = c.truth.ensures ∙ read_as (λ r root b items. truth r root b (cond_at (things items) c.args.id)) c.wide.result (root_of c.args.self.now) c.args.self.now.items.items c.wide.ensures.reading c.wide.ensures.root c.wide.ensures.view c.wide.ensures.items
