use Rattle.std.proofs.Common.{ap, ◌∙◌}
use Rattle.term_language.specs.Ends.{made}
use Rattle.term_math.specs.Shown.{box_in, ends_of}
use Rattle.term_nodes.specs.Seen.{reading_of}
use Rattle.term_nodes.specs.Things.{term_at, things}
use Rattle.term_nodes.proofs.Ranges.{operation_small, operation_folded, operation_alone}
use Rattle.term_nodes.proofs.evaluation.Evaluator.operation.Goals as goal

pub made-requires-clause-small : goal.made-requires-clause-small
made-requires-clause-small c = operation_small c.args.self.now c.args.a (ends_of c.whole-range.result.ends) c.requires.ready c.whole-range.ensures.interval

pub returns-then-plain : goal.returns-then-plain
returns-then-plain c =
    operation_folded (reading_of c.args.self.now) (box_in c.args.self.now.root) (box_in c.args.self.now.view) c.args.operation.now (term_at (things c.args.self.now.items.now) c.args.a) c.args.plain (ends_of c.zero.result)
    c.whole-range.result.mark
    c.requires.plain c.if-plain.true c.zero.ensures c.whole-range.ensures.mark

pub returns : goal.returns
returns c =
    operation_alone (reading_of c.args.self.now) (box_in c.args.self.now.root) (box_in c.args.self.now.view) c.args.operation.now (term_at (things c.args.self.now.items.now) c.args.a) c.args.plain (ends_of c.made.result)
    c.whole-range.result.mark
    c.requires.plain c.if-plain.false (c.made.ensures ∙ ap (made c.args.operation.now) c.whole-range.ensures.interval) c.whole-range.ensures.mark
