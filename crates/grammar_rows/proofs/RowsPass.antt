-- Each row passes the test.
use Rattle.std.proofs.Common.{◌≡◌, refl, true}
use Rattle.sopl_ast.specs.ExpressionRows as expr
use Rattle.sopl_ast.specs.ModelRows as model
use Rattle.sopl_ast.specs.Nonterminals as s
use Rattle.sopl_ast.specs.Nonterminals.{Nonterminal}
use Rattle.grammar_rows.specs.RowTests.{row_passes}
use Rattle.grammar_rows.specs.WrongRows.{WrongRowsFail}

-- all rows, as they are written
unfoldable pub each_row : Unit {0}
unfolding expr.literal_row expr.element_row expr.parentheses_row expr.function_row expr.extreme_row expr.all_different_row expr.cumulative_row
    expr.primary_row expr.negative_row expr.total_row expr.operand_row expr.product_row expr.sum_row expr.comparison_row expr.negated_row
    expr.negation_row expr.conjunction_row expr.disjunction_row expr.conclusion_row expr.expression_row expr.arguments_row expr.ends_row
    expr.range_row expr.binder_row expr.bound_row expr.bindings_row expr.summed_row expr.compared_row expr.task_row expr.tasks_row model.dim_row
    model.dims_row model.stage_row model.init_list_row model.init_row model.inits_row model.elements_row model.outcome_row model.outcomes_row
    model.distribution_row model.integer_row model.range_declaration_row model.set_row model.decision_row model.stochastic_row model.declaration_row
    model.goal_row model.chance_row model.hard_row model.forall_row model.block_row model.constraint_row model.quantified_row model.constraints_row
    model.body_row model.model_row
each_row = tt

pub each_passes : (s : Nonterminal) → row_passes s ≡ true
unfolding each_row
each_passes s.Model = refl
each_passes s.Expression = refl
each_passes s.Negation = refl
each_passes s.Operand = refl
each_passes s.Summed = refl
each_passes s.Arguments = refl
each_passes s.Compared = refl
each_passes s.Task = refl
each_passes s.Tasks = refl
each_passes s.Bound = refl
each_passes s.Dim = refl
each_passes s.Inits = refl
each_passes s.IntType = refl
each_passes s.Elements = refl
each_passes s.Outcomes = refl
each_passes s.Constraints = refl
each_passes s.Quantified = refl

-- rows that are no good do not pass
pub wrong_rows_fail : WrongRowsFail
unfolding each_row
wrong_rows_fail = record { alike = refl; unmarked = refl; unbounded = refl }
