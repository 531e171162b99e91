use Rattle.std.proofs.Common.{ap, subst, sym, true}
use Rattle.sopl_ast.specs.declared.operators.Function.TheVariants.{Negative, Size}
use Rattle.term_language.specs.Terms as rule
use Rattle.term_language.specs.declared.made.Operation.TheVariants as unary
use Rattle.compile_laws.specs.Instances.{function_of}
use Rattle.compile_laws.specs.Subterms.{subterms}
use Rattle.term_nodes.specs.Things.{a_term}
use Rattle.compile_exprs.specs.Made.{MakesTerm}
use Rattle.compile_exprs.proofs.Extremes.{called_sizes}
use Rattle.compile_exprs.proofs.Steps.{one_operand, term_is}
use Rattle.compile_exprs.proofs.chains.called.Goals as goal

pub add_term-requires : goal.add_term-requires
add_term-requires c = record { can = record { building = c.requires.there.building; may = (c.requires.there.exist.0, tt) } }

pub add_term-requires-in-Size : goal.add_term-requires-in-Size
add_term-requires-in-Size c = record { can = record { building = c.requires.there.building; may = (tt, c.requires.there.exist.0) } }

pub returns-in-Negative : goal.returns-in-Negative
returns-in-Negative c =
    record {
      made = λ setting before t made.
          subst (λ f. MakesTerm setting before c.add_term.new.work (function_of f t) c.add_term.result) (sym c.in-Negative.is)
          (c.add_term.ensures.made setting before (function_of Negative t)
          (one_operand setting before c.args.work.now c.args.id.0 (a_term t) (subterms t) _ (function_of Negative t) made
          (ap (λ x. rule.Sum (rule.part true x rule.no_part)) (term_is _ _ _ made.stands)) (called_sizes Negative t)));
    }

pub returns-in-Size : goal.returns-in-Size
returns-in-Size c =
    record {
      made = λ setting before t made.
          subst (λ f. MakesTerm setting before c.add_term-in-Size.new.work (function_of f t) c.add_term-in-Size.result) (sym c.in-Size.is)
          (c.add_term-in-Size.ensures.made setting before (function_of Size t)
          (one_operand setting before c.args.work.now c.args.id.0 (a_term t) (subterms t) _ (function_of Size t) made
          (ap (rule.Made unary.Size) (term_is _ _ _ made.stands)) (called_sizes Size t)));
    }
