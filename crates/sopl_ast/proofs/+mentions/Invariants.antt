-- Each loop has found the name in no element so far, so the rest decides; and each call goes down in weight.
use Rattle.std.proofs.Common.{◌≡◌, drop}
use Rattle.sopl_ast.specs.Lists.{trees, terms, factors, binders}
use Rattle.sopl_ast.specs.Ranges.{range_of}
use Rattle.sopl_ast.specs.Mentions.{some_mentions, some_term_mentions, some_factor_mentions, some_binder_mentions}
use Rattle.sopl_ast.specs.Weight.{weight, weight_of_trees, weight_of_terms, weight_factors, weight_of_binder, weight_of_binders, weight_range}
use Rattle.sopl_ast.proofs.+mentions.Given as goal

abbrev pub invariant-mentions::in_some-parts : goal.invariant-mentions::in_some-parts
invariant-mentions::in_some-parts l = some_mentions l.name (trees (drop l.part-index l.parts)) ≡ some_mentions l.name (trees l.parts)

abbrev pub invariant-mentions::in_some_binder-over : goal.invariant-mentions::in_some_binder-over
invariant-mentions::in_some_binder-over l = some_binder_mentions l.name (binders (drop l.binder-index l.over)) ≡ some_binder_mentions l.name (binders l.over)

abbrev pub invariant-mentions::in_some_factor-parts : goal.invariant-mentions::in_some_factor-parts
invariant-mentions::in_some_factor-parts l = some_factor_mentions l.name (factors (drop l.part-index l.parts)) ≡ some_factor_mentions l.name (factors l.parts)

abbrev pub invariant-mentions::in_some_term-parts : goal.invariant-mentions::in_some_term-parts
invariant-mentions::in_some_term-parts l = some_term_mentions l.name (terms (drop l.part-index l.parts)) ≡ some_term_mentions l.name (terms l.parts)

abbrev pub decreases-expr::Expr::mentions : goal.decreases-expr::Expr::mentions
decreases-expr::Expr::mentions l = weight l.self.now

abbrev pub decreases-mentions::in_some : goal.decreases-mentions::in_some
decreases-mentions::in_some l = weight_of_trees l.parts.now

abbrev pub decreases-mentions::in_some_term : goal.decreases-mentions::in_some_term
decreases-mentions::in_some_term l = weight_of_terms l.parts.now

abbrev pub decreases-mentions::in_some_factor : goal.decreases-mentions::in_some_factor
decreases-mentions::in_some_factor l = weight_factors (factors l.parts.now)

abbrev pub decreases-mentions::in_some_binder : goal.decreases-mentions::in_some_binder
decreases-mentions::in_some_binder l = weight_of_binders l.over.now

abbrev pub decreases-mentions::in_binder : goal.decreases-mentions::in_binder
decreases-mentions::in_binder l = weight_of_binder l.binder.now

abbrev pub decreases-mentions::in_range : goal.decreases-mentions::in_range
decreases-mentions::in_range l = weight_range (range_of l.range.now)
