-- Each row of expressions, ranges and binders is read as the reader reads it.
use Rattle.std.proofs.Common.{◌≡◌, refl, sym, ap, ◌∙◌, ℕ, ℤ, Bool, true, false, List, [], ◌∷◌, length, Option, Some, None, Ok, ◌⊎◌, inr}
use Rattle.sopl_base.specs.declared.comparison.CmpOp.{CmpOp}
use Rattle.sopl_base.specs.declared.extreme.Extreme.{Extreme}
use Rattle.sopl_ast.specs.declared.operators.Function.{Function}
use Rattle.sopl_ast.specs.declared.token.Token.{Token}
use Rattle.sopl_ast.specs.declared.token.TokenKind.TheVariants as k
use Rattle.sopl_ast.specs.Lists.{trees, terms, factors}
use Rattle.sopl_ast.specs.Tree as t
use Rattle.sopl_ast.specs.Tree.{Tree, Node, place_of}
use Rattle.parse_grammar.specs.declared.marks.Mark.TheVariants as m
use Rattle.parse_grammar.specs.Expressions as code
use Rattle.parse_grammar.specs.Expressions.{no_tree, no_binders}
use Rattle.parse_grammar.specs.Heads as h
use Rattle.parse_grammar.specs.Heads.{head, rest, place, is_mark}
use Rattle.parse_grammar.specs.Phrases.{way}
use Rattle.parse_grammar.specs.Reading.{Read, Way, ◌>>=◌, past, enter, chain}
use Rattle.sopl_ast.specs.ExpressionRows.{factor_sign, term_sign, comparison_sign, function_sign, extreme_sign, comparison_tree, conjunction_tree, disjunction_tree, implication_tree, product_tree, sum_tree}
use Rattle.sopl_ast.specs.ExpressionRows.{range_closers, range_tree, literal_row, element_row, parentheses_row, function_row, extreme_row, all_different_row, cumulative_row, primary_row}
use Rattle.sopl_ast.specs.ExpressionRows.{negative_row, total_row, operand_row, product_row, sum_row, comparison_row, negated_row, negation_row, conjunction_row, disjunction_row}
use Rattle.sopl_ast.specs.ExpressionRows.{conclusion_row, expression_row, arguments_row, ends_row, range_row, binder_row, bound_row, bindings_row, summed_row, compared_row, task_row, tasks_row}
use Rattle.sopl_ast.specs.KindSets.{only, first_kind, has_kind}
use Rattle.sopl_ast.specs.Nonterminals as s
use Rattle.sopl_ast.specs.PhraseLanguage.{Phrase, mapped, not_before, ◌or◌, ◌before◌, enclosed, operator, option, any, one_or_more}
use Rattle.grammar_rows.specs.RowReading.{said, as_alone, as_other, by_second, pick, some_more, read_at}
use Rattle.grammar_rows.specs.RowTests.{is_predictive}
use Rattle.sopl_ast.specs.Terminals.{a_literal, a_name, kinds_of}
use Rattle.grammar_rows.proofs.ReadComplete.{AreToldApart}
use Rattle.grammar_rows.proofs.ReadLists.{more_parts, chain_cons, items_read, next_operator, next_after, list_read, chain_read}
use Rattle.grammar_rows.proofs.ReadMarks.{factor_said, term_said, comparison_said, function_said, extreme_said, is_there, range_ends, pick_said, pick_mark, as_function, missing_mark, known_mark, known_terminal}
use Rattle.grammar_rows.proofs.ReadMarks.{the_name, TiedBelow, known_nested, mark_before, a_bracket, known_bracket_at, known_bracket}
use Rattle.grammar_rows.proofs.ReadPlans.{with_value, value_twice, chained, then_same, two_parts, other_value, go_is, planned, known_then, known_value, go_at_is, planned_at}
use Rattle.grammar_rows.proofs.ReadSteps.{done}
use Rattle.grammar_rows.proofs.RowsPass.{each_row}
use Rattle.grammar_rows.proofs.ToldApart.{plain}

factors_are : (is_predictive (any (operator factor_sign operand_row)) ≡ true) × AreToldApart (operator factor_sign operand_row)
unfolding each_row
factors_are = (refl, plain (operator factor_sign operand_row) refl)

terms_are : (is_predictive (any (operator term_sign product_row)) ≡ true) × AreToldApart (operator term_sign product_row)
unfolding each_row
terms_are = (refl, plain (operator term_sign product_row) refl)

conjuncts_are : (is_predictive (any (k.AndAnd before negation_row)) ≡ true) × AreToldApart (k.AndAnd before negation_row)
unfolding each_row
conjuncts_are = (refl, plain (k.AndAnd before negation_row) refl)

disjuncts_are : (is_predictive (any (k.OrOr before conjunction_row)) ≡ true) × AreToldApart (k.OrOr before conjunction_row)
unfolding each_row
disjuncts_are = (refl, plain (k.OrOr before conjunction_row) refl)

-- all alternatives of a primary behind some of them
abbrev functions : Phrase Tree
functions = extreme_row or all_different_row or cumulative_row

abbrev calls : Phrase Tree
calls = parentheses_row or function_row or functions

abbrev index : Phrase Tree
index = enclosed k.BracketOpen s.Expression k.BracketClose

module _ (n : ℕ) (below : TiedBelow n) where
  abbrev w : Way
  w = way false n

  next_index_tied : (ts : List Token) → some_more (only k.BracketOpen) (read_at false n index) ts ≡ code.next_index w ts
  unfolding code.next_index
  next_index_tied ts =
      pick_mark m.BracketOpen ts (read_at false n index ts >>= (λ x. Ok (Some x.0, x.1))) (Ok (None, ts)) (code.index_behind w ts)
      (λ is. go_at_is (known_bracket n below m.BracketOpen s.Expression tt m.BracketClose ts is) (λ x. Ok (Some x.0, x.1)))
      (λ is. refl)

  indices_tied : (ts : List Token) → read_at false n (any index) ts ≡ code.indices w ts
  unfolding code.indices
  indices_tied ts = items_read n (only k.BracketOpen) index (code.next_index w) next_index_tied ts

  element_tied : (ts : List Token) (bytes : List ℕ) → said a_name ts ≡ Some bytes → read_at false n element_row ts ≡ code.element w bytes ts
  unfolding element_row code.element
  element_tied ts bytes is = planned_at {p = element_row} (known_value _ (known_then (known_terminal n a_name ts bytes is) (as_function n (any index) (code.indices w) indices_tied)))

  literal_tied : (ts : List Token) (value : ℤ) → said a_literal ts ≡ Some value → read_at false n literal_row ts ≡ Ok (Node (place ts) (t.Lit value), rest ts)
  unfolding literal_row
  literal_tied ts value is = planned_at {p = literal_row} (known_value _ (known_terminal n a_literal ts value is))

  parentheses_tied : (ts : List Token) → is_mark m.ParenOpen (head ts) ≡ true → read_at false n parentheses_row ts ≡ code.parentheses w ts
  unfolding parentheses_row code.parentheses
  parentheses_tied ts is = planned_at {p = parentheses_row} (known_value _ (known_bracket_at n below m.ParenOpen s.Expression tt m.ParenClose ts is))

  function_tied : (ts : List Token) (f : Function) → said function_sign ts ≡ Some f → read_at false n function_row ts ≡ code.function_call w f ts
  unfolding function_row code.function_call
  function_tied ts f is =
      planned_at {p = function_row} (known_value _ (known_then (known_terminal n function_sign ts f is) (a_bracket n below m.ParenOpen s.Expression tt no_tree m.ParenClose)))

  extreme_tied : (ts : List Token) (which : Extreme) → said extreme_sign ts ≡ Some which → read_at false n extreme_row ts ≡ code.extreme w which ts
  unfolding extreme_row code.extreme
  extreme_tied ts which is =
      planned_at {p = extreme_row} (known_value _ (known_then (known_terminal n extreme_sign ts which is) (a_bracket n below m.ParenOpen s.Arguments tt (no_tree ∷ no_tree ∷ []) m.ParenClose)))

  all_different_tied : (ts : List Token) → is_mark m.AllDifferent (head ts) ≡ true → read_at false n all_different_row ts ≡ code.all_different w ts
  unfolding all_different_row code.all_different
  all_different_tied ts is =
      planned_at {p = all_different_row} (known_value _ (known_then (known_mark n m.AllDifferent ts is) (a_bracket n below m.ParenOpen s.Compared tt (no_binders, no_tree) m.ParenClose)))

  cumulative_tied : (ts : List Token) (b : Bool) → is_mark m.Cumulative (head ts) ≡ b → read_at false n cumulative_row ts ≡ code.cumulative_or w ts b
  unfolding cumulative_row code.cumulative
  cumulative_tied ts true is =
      planned_at {p = cumulative_row}
      (known_value _ (known_then (known_mark n m.Cumulative ts is) (a_bracket n below m.ParenOpen s.Tasks tt (no_binders, ((no_tree, (no_tree, no_tree)), no_tree)) m.ParenClose)))
  cumulative_tied ts false is =
      planned_at {p = cumulative_row}
      (known_value _ (known_then (missing_mark n m.Cumulative ts is) (a_bracket n below m.ParenOpen s.Tasks tt (no_binders, ((no_tree, (no_tree, no_tree)), no_tree)) m.ParenClose)))

  functions_tied : (ts : List Token) → read_at false n functions ts ≡ code.extreme_or w ts (h.extreme_function (head ts))
  unfolding extreme_row all_different_row
  functions_tied ts =
      pick_said extreme_sign (kinds_of extreme_sign) ts (read_at false n extreme_row ts) (read_at false n (all_different_row or cumulative_row) ts) (code.extreme_or w ts) refl
      (λ which is. extreme_tied ts which is)
      (λ none. pick_mark m.AllDifferent ts (read_at false n all_different_row ts) (read_at false n cumulative_row ts) (code.different_or w ts) (λ is. all_different_tied ts is)
      (λ other. cumulative_tied ts (is_mark m.Cumulative (head ts)) refl))
      ∙ ap (code.extreme_or w ts) (extreme_said ts)

  one_number_tied : (ts : List Token) → read_at false n (function_row or functions) ts ≡ code.function_or w ts (h.number_function (head ts))
  unfolding function_row
  one_number_tied ts =
      pick_said function_sign (kinds_of function_sign) ts (read_at false n function_row ts) (read_at false n functions ts) (code.function_or w ts) refl
      (λ f is. function_tied ts f is) (λ none. functions_tied ts)
      ∙ ap (code.function_or w ts) (function_said ts)

  calls_tied : (ts : List Token) → read_at false n calls ts ≡ code.call w ts
  unfolding parentheses_row code.call
  calls_tied ts =
      pick_mark m.ParenOpen ts (read_at false n parentheses_row ts) (read_at false n (function_row or functions) ts) (code.parentheses_or w ts) (λ is. parentheses_tied ts is)
      (λ none. one_number_tied ts)

  primary_tied : (ts : List Token) → read_at false n primary_row ts ≡ code.primary w ts
  unfolding primary_row literal_row element_row code.primary h.literal h.named
  primary_tied ts =
      pick_said a_literal (kinds_of a_literal) ts (read_at false n literal_row ts) (read_at false n (element_row or calls) ts) (code.literal_or w ts) refl
      (λ value is. literal_tied ts value is)
      (λ none. pick_said a_name (kinds_of a_name) ts (read_at false n element_row ts) (read_at false n calls ts) (code.element_or w ts) refl
      (λ bytes is. element_tied ts bytes is) (λ other. calls_tied ts))

  negative_tied : (ts : List Token) → is_mark m.Minus (head ts) ≡ true → read_at false n negative_row ts ≡ code.negative w ts
  unfolding negative_row code.negative
  negative_tied ts is = planned_at {p = negative_row} (known_value _ (known_nested n below m.Minus s.Operand tt ts is))

  total_tied : (ts : List Token) → is_mark m.Sum (head ts) ≡ true → read_at false n total_row ts ≡ code.total w ts
  unfolding total_row code.total
  total_tied ts is = planned_at {p = total_row} (known_value _ (known_nested n below m.Sum s.Summed tt ts is))

  pub operand_tied : (ts : List Token) → read_at false n operand_row ts ≡ code.operand w ts
  unfolding operand_row negative_row total_row code.operand
  operand_tied ts =
      pick_mark m.Minus ts (read_at false n negative_row ts) (read_at false n (total_row or primary_row) ts) (code.negative_or w ts) (λ is. negative_tied ts is)
      (λ none. pick_mark m.Sum ts (read_at false n total_row ts) (read_at false n primary_row ts) (code.total_or w ts) (λ is. total_tied ts is) (λ other. primary_tied ts))

  next_factor_tied : (ts : List Token) → some_more (kinds_of factor_sign) (read_at false n (operator factor_sign operand_row)) ts ≡ code.next_factor w ts
  unfolding code.next_factor
  next_factor_tied ts =
      next_operator n factor_sign (kinds_of factor_sign) operand_row (code.operand w) ts (code.factor_behind w ts) refl operand_tied refl (λ op. refl) ∙ ap (code.factor_behind w ts) (factor_said ts)

  product_tied : (ts : List Token) → read_at false n product_row ts ≡ code.product w ts
  unfolding product_row code.product code.more_factors
  product_tied ts =
      chain_read n operand_row (kinds_of factor_sign) (operator factor_sign operand_row) product_tree (code.operand w) (code.next_factor w) (code.product_from w) factors_are.0 factors_are.1
      operand_tied next_factor_tied (λ a us. refl)
      (λ a b us. more_parts (code.next_factor w) (b ∷ []) (λ fs. Node (place_of a) (t.Mul a (factors fs))) (length us) us) ts

  next_term_tied : (ts : List Token) → some_more (kinds_of term_sign) (read_at false n (operator term_sign product_row)) ts ≡ code.next_term w ts
  unfolding code.next_term
  next_term_tied ts =
      next_operator n term_sign (kinds_of term_sign) product_row (code.product w) ts (code.term_behind w ts) refl product_tied refl (λ minus. refl) ∙ ap (code.term_behind w ts) (term_said ts)

  pub sum_tied : (ts : List Token) → read_at false n sum_row ts ≡ code.sum w ts
  unfolding sum_row code.sum code.more_terms
  sum_tied ts =
      chain_read n product_row (kinds_of term_sign) (operator term_sign product_row) sum_tree (code.product w) (code.next_term w) (code.sum_from w) terms_are.0 terms_are.1
      product_tied next_term_tied (λ a us. refl)
      (λ a b us. more_parts (code.next_term w) ((false, a) ∷ b ∷ []) (λ fs. Node (place_of a) (t.Add (terms fs))) (length us) us) ts

  -- a comparison's second side, or none
  abbrev other_side : List Token → Option CmpOp → Read (Option (CmpOp × Tree))
  other_side ts None = Ok (None, ts)
  other_side ts (Some op) = with_value (λ b. Some (op, b)) (code.sum w (rest ts))

  other_side_tied : (ts : List Token) → read_at false n (option (operator comparison_sign sum_row)) ts ≡ other_side ts (h.comparison_operator (head ts))
  other_side_tied ts =
      pick_said comparison_sign (kinds_of comparison_sign) ts (read_at false n (mapped Some (operator comparison_sign sum_row)) ts) (Ok (None, ts)) (other_side ts) refl
      (λ op is. planned_at {p = mapped Some (operator comparison_sign sum_row)}
      (known_value Some (known_value _ (known_then (known_terminal n comparison_sign ts op is) (as_function n sum_row (code.sum w) sum_tied)))))
      (λ none. refl) ∙ ap (other_side ts) (comparison_said ts)

  compared_with : (a : Tree) (ts : List Token) (o : Option CmpOp) → with_value (λ y. comparison_tree (a, y)) (other_side ts o) ≡ code.comparison_from w a ts o
  compared_with a ts None = refl
  compared_with a ts (Some op) = value_twice {B = Option (CmpOp × Tree)} (λ y. comparison_tree (a, y)) (λ b. Some (op, b)) (code.sum w (rest ts))

  comparison_tied : (ts : List Token) → read_at false n comparison_row ts ≡ code.comparison w ts
  unfolding comparison_row code.comparison
  comparison_tied ts =
      planned {p = comparison_row}
      (other_value _ (two_parts (as_function n sum_row (code.sum w) sum_tied)
      (as_function n (option (operator comparison_sign sum_row)) (λ us. other_side us (h.comparison_operator (head us))) other_side_tied))) ts
      ∙ then_same (code.sum w ts) (λ x. with_value (λ y. comparison_tree (x.0, y)) (other_side x.1 (h.comparison_operator (head x.1))))
      (λ x. code.comparison_from w x.0 x.1 (h.comparison_operator (head x.1))) (λ x. compared_with x.0 x.1 (h.comparison_operator (head x.1)))

  negated_tied : (ts : List Token) → is_mark m.Not (head ts) ≡ true → read_at false n negated_row ts ≡ code.negated w ts
  unfolding negated_row code.negated
  negated_tied ts is = planned_at {p = negated_row} (known_value _ (known_nested n below m.Not s.Negation tt ts is))

  pub negation_tied : (ts : List Token) → read_at false n negation_row ts ≡ code.negation w ts
  unfolding negation_row negated_row code.negation
  negation_tied ts =
      pick_mark m.Not ts (read_at false n negated_row ts) (read_at false n comparison_row ts) (code.negated_or w ts) (λ is. negated_tied ts is) (λ none. comparison_tied ts)

  next_conjunct_tied : (ts : List Token) → some_more (only k.AndAnd) (read_at false n (k.AndAnd before negation_row)) ts ≡ code.next_conjunct w ts
  unfolding code.next_conjunct
  next_conjunct_tied ts = next_after n m.AndAnd negation_row (code.negation w) ts (code.conjunct_behind w ts) negation_tied refl refl

  conjunction_tied : (ts : List Token) → read_at false n conjunction_row ts ≡ code.conjunction w ts
  unfolding conjunction_row code.conjunction code.more_conjuncts
  conjunction_tied ts =
      chain_read n negation_row (only k.AndAnd) (k.AndAnd before negation_row) conjunction_tree (code.negation w) (code.next_conjunct w) (code.conjunction_from w) conjuncts_are.0 conjuncts_are.1
      negation_tied next_conjunct_tied (λ a us. refl)
      (λ a b us. more_parts (code.next_conjunct w) (a ∷ b ∷ []) (λ es. Node (place_of a) (t.And (trees es))) (length us) us) ts

  next_disjunct_tied : (ts : List Token) → some_more (only k.OrOr) (read_at false n (k.OrOr before conjunction_row)) ts ≡ code.next_disjunct w ts
  unfolding code.next_disjunct
  next_disjunct_tied ts = next_after n m.OrOr conjunction_row (code.conjunction w) ts (code.disjunct_behind w ts) conjunction_tied refl refl

  disjunction_tied : (ts : List Token) → read_at false n disjunction_row ts ≡ code.disjunction w ts
  unfolding disjunction_row code.disjunction code.more_disjuncts
  disjunction_tied ts =
      chain_read n conjunction_row (only k.OrOr) (k.OrOr before conjunction_row) disjunction_tree (code.conjunction w) (code.next_disjunct w) (code.disjunction_from w) disjuncts_are.0 disjuncts_are.1
      conjunction_tied next_disjunct_tied (λ a us. refl)
      (λ a b us. more_parts (code.next_disjunct w) (a ∷ b ∷ []) (λ es. Node (place_of a) (t.Or (trees es))) (length us) us) ts

  -- the conclusion of an implication, or none
  abbrev conclusion : List Token → Bool → Read (Option Tree)
  conclusion ts false = Ok (None, ts)
  conclusion ts true = w.inside ts >>= (λ inner. with_value Some (inner.expression (rest ts)))

  conclusion_tied : (ts : List Token) → read_at false n (option conclusion_row) ts ≡ conclusion ts (is_mark m.Arrow (head ts))
  unfolding conclusion_row
  conclusion_tied ts =
      pick_mark m.Arrow ts (read_at false n (mapped Some conclusion_row) ts) (Ok (None, ts)) (conclusion ts)
      (λ is. planned_at {p = mapped Some conclusion_row} (known_value Some (known_value _ (known_nested n below m.Arrow s.Expression tt ts is))))
      (λ none. refl)

  implied_by : (a : Tree) (ts : List Token) (b : Bool) → with_value (λ y. implication_tree (a, y)) (conclusion ts b) ≡ code.implied w a ts b
  implied_by a ts false = refl
  implied_by a ts true =
      chained (w.inside ts) (λ inner. with_value Some (inner.expression (rest ts))) (λ y. done (implication_tree (a, y.0), y.1))
      ∙ then_same (w.inside ts) (λ inner. with_value (λ y. implication_tree (a, y)) (with_value Some (inner.expression (rest ts))))
      (λ inner. with_value (λ b. Node (place_of a) (t.Implies a b)) (inner.expression (rest ts)))
      (λ inner. value_twice (λ y. implication_tree (a, y)) Some (inner.expression (rest ts)))

  pub expression_tied : (ts : List Token) → read_at false n expression_row ts ≡ code.expression w ts
  unfolding expression_row code.expression
  expression_tied ts =
      planned {p = expression_row}
      (other_value _ (two_parts (as_function n disjunction_row (code.disjunction w) disjunction_tied)
      (as_function n (option conclusion_row) (λ us. conclusion us (is_mark m.Arrow (head us))) conclusion_tied))) ts
      ∙ then_same (code.disjunction w ts) (λ x. with_value (λ y. implication_tree (x.0, y)) (conclusion x.1 (is_mark m.Arrow (head x.1))))
      (λ x. code.implied w x.0 x.1 (is_mark m.Arrow (head x.1))) (λ x. implied_by x.0 x.1 (is_mark m.Arrow (head x.1)))

  next_argument_tied : (ts : List Token) → some_more (only k.Comma) (read_at false n (k.Comma before expression_row)) ts ≡ code.next_argument w ts
  unfolding code.next_argument
  next_argument_tied ts = next_after n m.Comma expression_row (code.expression w) ts (code.argument_behind w ts) expression_tied refl refl

  -- expressions behind the first argument
  abbrev others : List Token → Read (List Tree)
  others ts = code.expression w ts >>= (λ x. chain (code.next_argument w) (length x.1) (x.0 ∷ []) x.1)

  with_others : (a : Tree) (ts : List Token) → with_value (λ es. a ∷ es) (others ts) ≡ code.expression w ts >>= (λ y. code.more_arguments w a y.0 y.1)
  unfolding code.more_arguments
  with_others a ts =
      chained (code.expression w ts) (λ x. chain (code.next_argument w) (length x.1) (x.0 ∷ []) x.1) (λ z. done (a ∷ z.0, z.1))
      ∙ then_same (code.expression w ts) (λ x. with_value (λ es. a ∷ es) (chain (code.next_argument w) (length x.1) (x.0 ∷ []) x.1))
      (λ x. chain (code.next_argument w) (length x.1) (a ∷ x.0 ∷ []) x.1) (λ x. chain_cons (code.next_argument w) (length x.1) a (x.0 ∷ []) x.1)

  pub arguments_tied : (ts : List Token) → read_at false n arguments_row ts ≡ code.arguments w ts
  unfolding arguments_row code.arguments
  arguments_tied ts =
      planned {p = arguments_row}
      (other_value _ (two_parts (as_function n expression_row (code.expression w) expression_tied) (mark_before m.Comma
      (as_function n (one_or_more k.Comma expression_row) others (list_read n m.Comma expression_row (code.expression w) (code.next_argument w) expression_tied next_argument_tied))))) ts
      ∙ then_same (code.expression w ts) (λ x. past w m.Comma x.1 >>= (λ left. with_value (λ es. x.0 ∷ es) (others left)))
      (λ x. past w m.Comma x.1 >>= (λ left. code.expression w left >>= (λ y. code.more_arguments w x.0 y.0 y.1)))
      (λ x. then_same (past w m.Comma x.1) (λ left. with_value (λ es. x.0 ∷ es) (others left)) (λ left. code.expression w left >>= (λ y. code.more_arguments w x.0 y.0 y.1))
      (λ left. with_others x.0 left))

  ends_tied : {B : Type 0} (on : (Tree × Tree) × List Token → Read B) (ts : List Token)
      → read_at false n ends_row ts >>= on ≡ code.sum w ts >>= (λ x. past w m.DotDot x.1 >>= (λ left. code.sum w left >>= (λ y. on ((x.0, y.0), y.1))))
  unfolding ends_row
  ends_tied on ts = go_is {p = ends_row} (two_parts (as_function n sum_row (code.sum w) sum_tied) (mark_before m.DotDot (as_function n sum_row (code.sum w) sum_tied))) on ts

  by_ends : (ts : List Token) → with_value range_tree (as_other (ℕ × List ℕ) (Unit {0}) (read_at false n ends_row ts)) ≡ code.ends w ts
  unfolding code.ends
  by_ends ts =
      value_twice {B = ((ℕ × List ℕ) × Unit {0}) ⊎ (Tree × Tree)} range_tree inr (read_at false n ends_row ts) ∙ ends_tied (λ y. done (range_tree (inr y.0), y.1)) ts

  pub range_tied : (ts : List Token) → read_at false n range_row ts ≡ code.range w ts
  unfolding range_row code.range code.range_name h.named
  range_tied ts = by_two (said a_name ts) (h.range_end (head (rest ts))) (range_ends (rest ts))
    where
      by_two : (o : Option (List ℕ)) (c : Option Bool) → has_kind range_closers (first_kind (rest ts)) ≡ is_there c
          → with_value range_tree (by_second range_closers ts o (done {A = Unit {0} × List Token} (tt, rest ts)) (read_at false n ends_row ts)) ≡ code.range_by w ts (code.range_name_of o c)
      by_two None c e = by_ends ts
      by_two (Some bytes) (Some closes) e =
          ap (λ b. with_value range_tree (pick b (as_alone (Tree × Tree) (place ts, bytes) (done {A = Unit {0} × List Token} (tt, rest ts)))
          (as_other (ℕ × List ℕ) (Unit {0}) (read_at false n ends_row ts)))) e
      by_two (Some bytes) None e =
          ap (λ b. with_value range_tree (pick b (as_alone (Tree × Tree) (place ts, bytes) (done {A = Unit {0} × List Token} (tt, rest ts)))
          (as_other (ℕ × List ℕ) (Unit {0}) (read_at false n ends_row ts)))) e
          ∙ by_ends ts

  binder_tied : (ts : List Token) → read_at false n binder_row ts ≡ code.binder w ts
  unfolding binder_row code.binder
  binder_tied ts = planned {p = binder_row} (other_value _ (two_parts (the_name n) (mark_before m.Inside (as_function n range_row (code.range w) range_tied)))) ts

  next_binder_tied : (ts : List Token) → some_more (only k.Comma) (read_at false n (k.Comma before binder_row)) ts ≡ code.next_binder w ts
  unfolding code.next_binder
  next_binder_tied ts = next_after n m.Comma binder_row (code.binder w) ts (code.binder_behind w ts) binder_tied refl refl

  pub bound_tied : (ts : List Token) → read_at false n bound_row ts ≡ code.bound w ts
  unfolding bound_row code.bound code.more_binders
  bound_tied ts = list_read n m.Comma binder_row (code.binder w) (code.next_binder w) binder_tied next_binder_tied ts

  pub bindings_tied : (ts : List Token) → read_at false n bindings_row ts ≡ code.bindings w ts
  unfolding bindings_row code.bindings
  bindings_tied ts = planned {p = bindings_row} (a_bracket n below m.ParenOpen s.Bound tt no_binders m.ParenClose) ts

  pub summed_tied : (ts : List Token) → read_at false n summed_row ts ≡ code.summed w ts
  unfolding summed_row code.summed
  summed_tied ts =
      planned {p = summed_row} (two_parts (as_function n bindings_row (code.bindings w) bindings_tied) (as_function n (not_before (kinds_of factor_sign) product_row) (code.product w) product_tied)) ts

  pub compared_tied : (ts : List Token) → read_at false n compared_row ts ≡ code.compared w ts
  unfolding compared_row code.compared code.all
  compared_tied ts =
      planned {p = compared_row}
      (mark_before m.All (two_parts (as_function n bindings_row (code.bindings w) bindings_tied) (as_function n expression_row (code.expression w) expression_tied))) ts
      ∙ sym (chained (past w m.All ts) (λ left. code.bindings w left) (λ x. code.expression w x.1 >>= (λ y. Ok ((x.0, y.0), y.1))))

  pub task_tied : (ts : List Token) → read_at false n task_row ts ≡ code.task w ts
  unfolding task_row code.task
  task_tied ts =
      planned {p = task_row} (two_parts (as_function n expression_row (code.expression w) expression_tied) (mark_before m.Comma
      (two_parts (as_function n expression_row (code.expression w) expression_tied) (mark_before m.Comma (as_function n expression_row (code.expression w) expression_tied))))) ts

  pub tasks_tied : (ts : List Token) → read_at false n tasks_row ts ≡ code.tasks w ts
  unfolding tasks_row code.tasks code.all
  tasks_tied ts =
      planned {p = tasks_row}
      (mark_before m.All (two_parts (as_function n bindings_row (code.bindings w) bindings_tied)
      (two_parts (a_bracket n below m.ParenOpen s.Task tt (no_tree, (no_tree, no_tree)) m.ParenClose) (mark_before m.Comma (as_function n expression_row (code.expression w) expression_tied))))) ts
      ∙ sym (chained (past w m.All ts) (λ left. code.bindings w left)
      (λ x. enter w m.ParenOpen (no_tree, (no_tree, no_tree)) (λ inner. inner.task) x.1 >>= (λ y. past w m.ParenClose y.1 >>= (λ last. past w m.Comma last >>= (λ further.
      code.expression w further >>= (λ z. Ok ((x.0, (y.0, z.0)), z.1)))))))
