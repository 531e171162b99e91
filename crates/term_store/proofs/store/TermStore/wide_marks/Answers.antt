use Rattle.std.proofs.Common.{◌∙◌, ℕ, arith, ap, length, subst, sym}
use Rattle.term_language.specs.Marks.{all_marks}
use Rattle.term_language.specs.Rules.{marks}
use Rattle.term_nodes.specs.Built.{AllBelow}
use Rattle.term_nodes.specs.Things.{terms_at, things}
use Rattle.term_store.specs.Stores.{root_of}
use Rattle.term_store.proofs.WideReading.{read_as}
use Rattle.term_store.proofs.store.TermStore.wide_marks.Goals as goal

pub marks-requires-clause-exists : goal.marks-requires-clause-exists
marks-requires-clause-exists c = omega (arith, c.nodes.ensures, ap length c.wide.ensures.items)

pub marks-requires-clause-below : goal.marks-requires-clause-below
marks-requires-clause-below c = subst (λ (n : ℕ). AllBelow n c.args.at.now) (sym c.nodes.ensures) c.requires.exist

pub returns : goal.returns
returns c = c.marks.ensures ∙ read_as (λ r root b items. all_marks (marks r root b (terms_at (things items) c.args.at.now))) c.wide.result (root_of c.args.self.now) c.args.self.now.items.items c.wide.ensures.reading c.wide.ensures.root c.wide.ensures.view c.wide.ensures.items
