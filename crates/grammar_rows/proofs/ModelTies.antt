-- Each row of declarations, objectives, constraints and models is read as the reader reads it.
use Rattle.std.proofs.Common.{◌≡◌, refl, sym, ap, subst, ◌∙◌, ℕ, zero, suc, Bool, true, false, List, [], ◌∷◌, Option, Some, None, Ok, arith, ◌⊎◌, inl, inr}
use Rattle.sopl_base.specs.declared.direction.Direction.{Direction}
use Rattle.sopl_ast.specs.declared.token.Token.{Token}
use Rattle.sopl_ast.specs.declared.token.TokenKind.TheVariants as k
use Rattle.sopl_ast.specs.Lists.{trees}
use Rattle.sopl_ast.specs.Tree.{Tree, Range}
use Rattle.sopl_ast.specs.Whole.{DimTree, One, Declaration, SetDecl, DvarDecl, StochDecl}
use Rattle.parse_grammar.specs.declared.marks.Mark.TheVariants as m
use Rattle.parse_grammar.specs.Expressions as code
use Rattle.parse_grammar.specs.Expressions.{no_tree}
use Rattle.parse_grammar.specs.Heads as h
use Rattle.parse_grammar.specs.Heads.{head, rest, place, is_mark}
use Rattle.parse_grammar.specs.Phrases as decl
use Rattle.parse_grammar.specs.Phrases.{is_over, some_read, way}
use Rattle.parse_grammar.specs.Reading.{Read, Way, ◌>>=◌, past, name}
use Rattle.sopl_ast.specs.ExpressionRows.{bindings_row, expression_row, range_row, sum_row}
use Rattle.sopl_ast.specs.KindSets.{only, first_kind, has_kind, kinds_but}
use Rattle.sopl_ast.specs.ModelRows.{direction_sign, dim_tree, dim_row, dims_row, stage_row, init_list_row, init_row, inits_row, elements_row, outcome_row, outcomes_row, distribution_row}
use Rattle.sopl_ast.specs.ModelRows.{integer_row, range_declaration_row, set_row, decision_row, stochastic_row, declaration_row, goal_row, chance_row, hard_row, forall_row, block_row}
use Rattle.sopl_ast.specs.ModelRows.{constraint_row, quantified_row, constraints_row, body_row, model_row}
use Rattle.sopl_ast.specs.Nonterminals as s
use Rattle.sopl_ast.specs.PhraseLanguage.{Phrase, terminal, mapped, starts, ◌then◌, ◌makes◌, ◌before◌, ◌closed_by◌, ◌or◌, enclosed, option, any, one_or_more, place_of_mark}
use Rattle.grammar_rows.specs.ReadersOfRows.{int_mark}
use Rattle.grammar_rows.specs.RowReading.{said, as_alone, as_other, by_second, pick, some_more, read_at}
use Rattle.sopl_ast.specs.Terminals.{a_name, kinds_of}
use Rattle.grammar_rows.proofs.ExpressionTies as expr
use Rattle.grammar_rows.proofs.ReadLists.{items_read, next_after, list_read, some_is, next_choice, next_last}
use Rattle.grammar_rows.proofs.ReadMarks.{mark_first, direction_said, bracket_over, brace_over, pick_said, pick_mark, pick_not, as_function, a_mark, known_terminal, the_name, the_measure, past_same}
use Rattle.grammar_rows.proofs.ReadMarks.{TiedAt, TiedBelow, known_nested, mark_before, closed_by_mark, a_bracket, known_before, known_bracket_at, known_bracket}
use Rattle.grammar_rows.proofs.ReadSteps.{done}
use Rattle.grammar_rows.proofs.ReadPlans.{with_value, value_twice, chained, then_same, Plan, two_parts, other_value, go, planned, planned_then, known_then, known_value, go_at_is, planned_at}

module _ (n : ℕ) (below : TiedBelow n) where
  abbrev w : Way
  w = way false n

  -- the parts of expressions
  abbrev the_sum : {B : Type 0} → Plan B n Tree sum_row
  the_sum = as_function n sum_row (code.sum w) (expr.sum_tied n below)

  abbrev the_range : {B : Type 0} → Plan B n Range range_row
  the_range = as_function n range_row (code.range w) (expr.range_tied n below)

  abbrev the_expression : {B : Type 0} → Plan B n Tree expression_row
  the_expression = as_function n expression_row (code.expression w) (expr.expression_tied n below)

  stage_tied : (ts : List Token) → read_at false n stage_row ts ≡ decl.stage w ts
  unfolding stage_row decl.stage
  stage_tied ts =
      pick_mark m.Stage ts (read_at false n (mapped Some (k.Stage before sum_row)) ts) (Ok (None, ts)) (decl.stage_behind w ts)
      (λ is. planned_at {p = mapped Some (k.Stage before sum_row)} (known_value Some (known_before m.Stage ts is the_sum)))
      (λ none. refl)

  unnamed : (ts : List Token) → with_value dim_tree (as_other (ℕ × List ℕ) Range (read_at false n range_row ts)) ≡ decl.dim_by w ts None
  unnamed ts =
      value_twice {B = ((ℕ × List ℕ) × Range) ⊎ Range} dim_tree inr (read_at false n range_row ts) ∙ ap (with_value (λ y. dim_tree (inr y))) (expr.range_tied n below ts)

  with_name : (ts : List Token) (bytes : List ℕ) → is_mark m.Inside (head (rest ts)) ≡ true
      → with_value dim_tree (as_alone Range (place ts, bytes) (read_at false n (k.Inside before range_row) (rest ts))) ≡ decl.dim_by w ts (Some bytes)
  with_name ts bytes is =
      value_twice {B = ((ℕ × List ℕ) × Range) ⊎ Range} dim_tree (λ z. inl ((place ts, bytes), z)) (read_at false n (k.Inside before range_row) (rest ts))
      ∙ go_at_is (known_before m.Inside (rest ts) is the_range) (λ z. done (dim_tree (inl ((place ts, bytes), z.0)), z.1))

  pub dim_tied : (ts : List Token) → read_at false n dim_row ts ≡ decl.dim w ts
  unfolding dim_row decl.dim decl.dim_name h.named
  dim_tied ts = by_two (said a_name ts) (is_mark m.Inside (head (rest ts))) refl (mark_first m.Inside (rest ts))
    where
      by_two : (o : Option (List ℕ)) (c : Bool) → is_mark m.Inside (head (rest ts)) ≡ c → has_kind (only k.Inside) (first_kind (rest ts)) ≡ c
          → with_value dim_tree (by_second (only k.Inside) ts o (read_at false n (k.Inside before range_row) (rest ts)) (read_at false n range_row ts)) ≡ decl.dim_by w ts (decl.dim_name_of o c)
      by_two None c is e = unnamed ts
      by_two (Some bytes) true is e =
          ap (λ b. with_value dim_tree (pick b (as_alone Range (place ts, bytes) (read_at false n (k.Inside before range_row) (rest ts)))
          (as_other (ℕ × List ℕ) Range (read_at false n range_row ts)))) e
          ∙ with_name ts bytes is
      by_two (Some bytes) false is e =
          ap (λ b. with_value dim_tree (pick b (as_alone Range (place ts, bytes) (read_at false n (k.Inside before range_row) (rest ts)))
          (as_other (ℕ × List ℕ) Range (read_at false n range_row ts)))) e
          ∙ unnamed ts

  abbrev dimension : Phrase DimTree
  dimension = enclosed k.BracketOpen s.Dim k.BracketClose

  next_dim_tied : (ts : List Token) → some_more (only k.BracketOpen) (read_at false n dimension) ts ≡ decl.next_dim w ts
  unfolding decl.next_dim
  next_dim_tied ts =
      pick_mark m.BracketOpen ts (read_at false n dimension ts >>= (λ x. Ok (Some x.0, x.1))) (Ok (None, ts)) (decl.dim_behind w ts)
      (λ is. go_at_is (known_bracket n below m.BracketOpen s.Dim tt m.BracketClose ts is) (λ x. Ok (Some x.0, x.1)))
      (λ is. refl)

  dims_tied : (ts : List Token) → read_at false n dims_row ts ≡ decl.dims w ts
  unfolding dims_row decl.dims
  dims_tied ts = items_read n (only k.BracketOpen) dimension (decl.next_dim w) next_dim_tied ts

  init_list_tied : (ts : List Token) → is_mark m.BracketOpen (head ts) ≡ true → read_at false n init_list_row ts ≡ decl.many w ts
  unfolding init_list_row decl.many
  init_list_tied ts is = planned_at {p = init_list_row} (known_value _ (known_bracket_at n below m.BracketOpen s.Inits tt m.BracketClose ts is))

  one_tied : (ts : List Token) → read_at false n (expression_row makes One) ts ≡ decl.one w ts
  unfolding decl.one
  one_tied ts = planned {p = expression_row makes One} (other_value One the_expression) ts

  init_tied : (ts : List Token) → read_at false n init_row ts ≡ decl.init w ts
  unfolding init_row init_list_row decl.init
  init_tied ts =
      pick_mark m.BracketOpen ts (read_at false n init_list_row ts) (read_at false n (expression_row makes One) ts) (decl.init_by w ts) (λ is. init_list_tied ts is) (λ none. one_tied ts)

  next_init_tied : (ts : List Token) → some_more (only k.Comma) (read_at false n (k.Comma before init_row)) ts ≡ decl.next_init w ts
  unfolding decl.next_init
  next_init_tied ts = next_after n m.Comma init_row (decl.init w) ts (decl.init_behind w ts) init_tied refl refl

  pub inits_tied : (ts : List Token) → read_at false n inits_row ts ≡ decl.init_list w ts
  unfolding inits_row decl.init_list decl.more_inits
  inits_tied ts =
      pick_not (has_kind (kinds_but (only k.BracketClose)) (first_kind ts)) (read_at false n (one_or_more k.Comma init_row) ts) (Ok ([], ts)) (decl.inits_unless w ts)
      (is_over (is_mark m.BracketClose (head ts)) ts) (bracket_over ts) (list_read n m.Comma init_row (decl.init w) (decl.next_init w) init_tied next_init_tied ts) refl

  next_element_tied : (ts : List Token) → some_more (only k.Comma) (read_at false n (k.Comma before sum_row)) ts ≡ decl.next_element w ts
  unfolding decl.next_element
  next_element_tied ts = next_after n m.Comma sum_row (code.sum w) ts (decl.element_behind w ts) (expr.sum_tied n below) refl refl

  pub elements_tied : (ts : List Token) → read_at false n elements_row ts ≡ decl.elements w ts
  unfolding elements_row decl.elements decl.more_elements
  elements_tied ts =
      pick_not (has_kind (kinds_but (only k.BraceClose)) (first_kind ts)) (read_at false n (one_or_more k.Comma sum_row) ts) (Ok ([], ts)) (decl.elements_unless w ts)
      (is_over (is_mark m.BraceClose (head ts)) ts) (brace_over ts) (list_read n m.Comma sum_row (code.sum w) (decl.next_element w) (expr.sum_tied n below) next_element_tied ts) refl

  outcome_tied : (ts : List Token) → read_at false n outcome_row ts ≡ decl.outcome w ts
  unfolding outcome_row decl.outcome
  outcome_tied ts = planned {p = outcome_row} (two_parts the_sum (mark_before m.Colon the_sum)) ts

  next_outcome_tied : (ts : List Token) → some_more (only k.Comma) (read_at false n (k.Comma before outcome_row)) ts ≡ decl.next_outcome w ts
  unfolding decl.next_outcome
  next_outcome_tied ts = next_after n m.Comma outcome_row (decl.outcome w) ts (decl.outcome_behind w ts) outcome_tied refl refl

  pub outcomes_tied : (ts : List Token) → read_at false n outcomes_row ts ≡ decl.outcomes w ts
  unfolding outcomes_row decl.outcomes decl.more_outcomes
  outcomes_tied ts = list_read n m.Comma outcome_row (decl.outcome w) (decl.next_outcome w) outcome_tied next_outcome_tied ts

  distribution_tied : (ts : List Token) → read_at false n distribution_row ts ≡ decl.distribution w ts
  unfolding distribution_row decl.distribution
  distribution_tied ts = planned {p = distribution_row} (a_bracket n below m.BraceOpen s.Outcomes tt ((no_tree, no_tree) ∷ []) m.BraceClose) ts

  abbrev the_dims : {B : Type 0} → Plan B n (List DimTree) dims_row
  the_dims = as_function n dims_row (decl.dims w) dims_tied

  abbrev the_stage : {B : Type 0} → Plan B n (Option Tree) stage_row
  the_stage = as_function n stage_row (decl.stage w) stage_tied

  -- the name of a variable, with its dimensions
  abbrev the_variable : (B : Type 0) → Plan B n ((ℕ × List ℕ) × List DimTree) (k.Int before terminal a_name then dims_row closed_by k.Inside)
  the_variable B = mark_before m.Int (two_parts (the_name n) (closed_by_mark the_dims m.Inside))

  variable_then : {B : Type 0} (on : ((ℕ × List ℕ) × List DimTree) × List Token → Read B) (ts : List Token)
      → go (the_variable B) on ts ≡ decl.variable w ts >>= (λ x. on (((x.0.0.1, x.0.0.0), x.0.1), x.1))
  unfolding decl.variable
  variable_then {B} on ts =
      sym (planned_then (the_variable ((List ℕ × ℕ) × List DimTree)) (the_variable B) (λ z. Ok (((z.0.0.1, z.0.0.0), z.0.1), z.1)) (λ x. on (((x.0.0.1, x.0.0.0), x.0.1), x.1)) ts)

  integer_tied : (ts : List Token) → is_mark m.Int (head ts) ≡ true → read_at false n integer_row ts ≡ decl.integer w (rest ts)
  unfolding integer_row decl.integer
  integer_tied ts is =
      planned_at {p = integer_row}
      (known_value _ (known_before m.Int ts is (two_parts (the_name n) (two_parts the_dims (mark_before m.Assign (closed_by_mark (as_function n init_row (decl.init w) init_tied) m.Semi))))))

  range_declaration_tied : (ts : List Token) → is_mark m.Range (head ts) ≡ true → read_at false n range_declaration_row ts ≡ decl.range_declaration w (rest ts)
  unfolding range_declaration_row decl.range_declaration
  range_declaration_tied ts is =
      planned_at {p = range_declaration_row}
      (known_value _ (known_before m.Range ts is (two_parts (the_name n) (mark_before m.Assign (two_parts the_sum (mark_before m.DotDot (closed_by_mark the_sum m.Semi)))))))

  abbrev set_value : Phrase (List Tree)
  set_value = enclosed k.BraceOpen s.Elements k.BraceClose closed_by k.Semi

  set_value_tied : (ts : List Token) → read_at false n set_value ts ≡ decl.set_value w ts
  unfolding decl.set_value
  set_value_tied ts = planned {p = set_value} (closed_by_mark (a_bracket n below m.BraceOpen s.Elements tt [] m.BraceClose) m.Semi) ts

  int_passed : {B : Type 0} (on : ℕ × List Token → Read B) (ts : List Token) → int_mark (way false zero) ts >>= on ≡ past w m.Int ts >>= (λ left. on (place ts, left))
  int_passed on ts =
      ap (λ o. (o >>= (λ left. Ok (place ts, left))) >>= on) (past_same n m.Int ts) ∙ chained (past w m.Int ts) (λ left. Ok (place ts, left)) on

  -- what stands behind the keyword of a set's type
  abbrev set_behind : ℕ × List Token → Read Declaration
  set_behind x =
      past w m.BraceClose x.1 >>= (λ left. name w left >>= (λ y. past w m.Assign y.1 >>= (λ last. decl.set_value w last >>= (λ z. Ok (SetDecl y.0.0 y.0.1 (trees z.0), z.1)))))

  set_tied : (ts : List Token) → is_mark m.BraceOpen (head ts) ≡ true → read_at false n set_row ts ≡ decl.braced_set w ts
  unfolding set_row decl.braced_set decl.set
  set_tied ts is =
      planned_at {p = set_row}
      (known_value _ (known_then (known_bracket n below m.BraceOpen s.IntType tt m.BraceClose ts is)
      (two_parts (the_name n) (mark_before m.Assign (as_function n set_value (decl.set_value w) set_value_tied)))))
      ∙ then_same (w.inside ts) (λ inner. int_mark (way false zero) (rest ts) >>= set_behind) (λ inner. past w m.Int (rest ts) >>= (λ left. set_behind (place (rest ts), left)))
      (λ inner. int_passed set_behind (rest ts))

  decision_tied : (ts : List Token) → is_mark m.Dvar (head ts) ≡ true → read_at false n decision_row ts ≡ decl.decision w (rest ts)
  unfolding decision_row decl.decision
  decision_tied ts is =
      planned_at {p = decision_row}
      (known_value _ (known_before m.Dvar ts is (mark_before m.Int (two_parts (the_name n) (two_parts the_dims (mark_before m.Inside (two_parts the_range (closed_by_mark the_stage m.Semi))))))))
      ∙ variable_then (λ x. code.range w x.1 >>= (λ y. decl.stage w y.1 >>= (λ z. past w m.Semi z.1 >>= (λ left. Ok (DvarDecl x.0.0.1 x.0.0.0 x.0.1 y.0 z.0, left))))) (rest ts)

  stochastic_tied : (ts : List Token) → is_mark m.Stoch (head ts) ≡ true → read_at false n stochastic_row ts ≡ decl.stochastic w (rest ts)
  unfolding stochastic_row decl.stochastic
  stochastic_tied ts is =
      planned_at {p = stochastic_row}
      (known_value _ (known_before m.Stoch ts is (mark_before m.Int (two_parts (the_name n) (two_parts the_dims (mark_before m.Inside
      (two_parts (as_function n distribution_row (decl.distribution w) distribution_tied) (closed_by_mark the_stage m.Semi))))))))
      ∙ variable_then (λ x. decl.distribution w x.1 >>= (λ y. decl.stage w y.1 >>= (λ z. past w m.Semi z.1 >>= (λ left. Ok (StochDecl x.0.0.1 x.0.0.0 x.0.1 y.0 z.0, left))))) (rest ts)

  next_declaration_tied : (ts : List Token) → some_more (starts declaration_row) (read_at false n declaration_row) ts ≡ decl.next_declaration w ts
  unfolding declaration_row integer_row range_declaration_row set_row decision_row stochastic_row decl.next_declaration
  next_declaration_tied ts =
      next_choice n integer_row (range_declaration_row or set_row or decision_row or stochastic_row) ts
      ∙ pick_mark m.Int ts (some_read (read_at false n integer_row ts))
      (some_more (starts (range_declaration_row or set_row or decision_row or stochastic_row)) (read_at false n (range_declaration_row or set_row or decision_row or stochastic_row)) ts)
      (decl.integer_or w ts) (λ is. ap some_read (integer_tied ts is))
      (λ none. next_choice n range_declaration_row (set_row or decision_row or stochastic_row) ts
      ∙ pick_mark m.Range ts (some_read (read_at false n range_declaration_row ts))
      (some_more (starts (set_row or decision_row or stochastic_row)) (read_at false n (set_row or decision_row or stochastic_row)) ts)
      (decl.range_or w ts) (λ is. ap some_read (range_declaration_tied ts is))
      (λ none. next_choice n set_row (decision_row or stochastic_row) ts
      ∙ pick_mark m.BraceOpen ts (some_read (read_at false n set_row ts)) (some_more (starts (decision_row or stochastic_row)) (read_at false n (decision_row or stochastic_row)) ts)
      (decl.set_or w ts) (λ is. ap some_read (set_tied ts is))
      (λ none. next_choice n decision_row stochastic_row ts
      ∙ pick_mark m.Dvar ts (some_read (read_at false n decision_row ts)) (some_more (starts stochastic_row) (read_at false n stochastic_row) ts)
      (decl.decision_or w ts) (λ is. ap some_read (decision_tied ts is))
      (λ none. next_last n m.Stoch (starts stochastic_row) stochastic_row ts (decl.stochastic_or w ts) refl refl (λ is. ap some_read (stochastic_tied ts is))))))

  declarations_tied : (ts : List Token) → read_at false n (any declaration_row) ts ≡ decl.declarations w ts
  unfolding decl.declarations
  declarations_tied ts = items_read n (starts declaration_row) declaration_row (decl.next_declaration w) next_declaration_tied ts

  goal_tied : (ts : List Token) (direction : Direction) → said direction_sign ts ≡ Some direction → read_at false n goal_row ts ≡ decl.goal w direction (rest ts)
  unfolding goal_row decl.goal
  goal_tied ts direction is =
      planned_at {p = goal_row}
      (known_value _ (known_then (known_terminal n direction_sign ts direction is)
      (two_parts (the_measure n) (closed_by_mark (a_bracket n below m.ParenOpen s.Expression tt no_tree m.ParenClose) m.Semi))))

  maybe_goal_tied : (ts : List Token) → read_at false n (option goal_row) ts ≡ decl.maybe_goal w ts
  unfolding goal_row decl.maybe_goal
  maybe_goal_tied ts =
      pick_said direction_sign (kinds_of direction_sign) ts (read_at false n (mapped Some goal_row) ts) (Ok (None, ts)) (decl.goal_from w ts) refl
      (λ direction is. ap (λ o. o >>= (λ x. Ok (Some x.0, x.1))) (goal_tied ts direction is)) (λ none. refl)
      ∙ ap (decl.goal_from w ts) (direction_said ts)

  chance_tied : (ts : List Token) → is_mark m.Prob (head ts) ≡ true → read_at false n chance_row ts ≡ decl.chance w (rest ts)
  unfolding chance_row decl.chance
  chance_tied ts is =
      planned_at {p = chance_row}
      (known_value _ (known_before m.Prob ts is (two_parts (a_bracket n below m.ParenOpen s.Expression tt no_tree m.ParenClose)
      (mark_before m.GreaterEq (two_parts the_sum (mark_before m.Slash (closed_by_mark the_sum m.Semi)))))))

  hard_tied : (ts : List Token) → read_at false n hard_row ts ≡ decl.hard w ts
  unfolding hard_row decl.hard
  hard_tied ts = planned {p = hard_row} (other_value _ (closed_by_mark the_expression m.Semi)) ts

  forall_tied : (ts : List Token) → is_mark m.Forall (head ts) ≡ true → read_at false n forall_row ts ≡ decl.forall_values w ts
  unfolding forall_row decl.forall_values
  forall_tied ts is = planned_at {p = forall_row} (known_value _ (known_nested n below m.Forall s.Quantified tt ts is))

  block_tied : (ts : List Token) → is_mark m.BraceOpen (head ts) ≡ true → read_at false n block_row ts ≡ decl.block w ts
  unfolding block_row decl.block
  block_tied ts is = planned_at {p = block_row} (known_value _ (known_bracket n below m.BraceOpen s.Constraints tt m.BraceClose ts is))

  constraint_tied : (ts : List Token) → read_at false n constraint_row ts ≡ decl.constraint w ts
  unfolding constraint_row forall_row block_row chance_row decl.constraint
  constraint_tied ts =
      pick_mark m.Forall ts (read_at false n forall_row ts) (read_at false n (block_row or chance_row or hard_row) ts) (decl.forall_or w ts) (λ is. forall_tied ts is)
      (λ none. pick_mark m.BraceOpen ts (read_at false n block_row ts) (read_at false n (chance_row or hard_row) ts) (decl.block_or w ts) (λ is. block_tied ts is)
      (λ none. pick_mark m.Prob ts (read_at false n chance_row ts) (read_at false n hard_row ts) (decl.chance_or w ts) (λ is. chance_tied ts is) (λ none. hard_tied ts)))

  pub quantified_tied : (ts : List Token) → read_at false n quantified_row ts ≡ decl.quantified w ts
  unfolding quantified_row decl.quantified
  quantified_tied ts =
      planned {p = quantified_row} (two_parts (as_function n bindings_row (code.bindings w) (expr.bindings_tied n below)) (as_function n constraint_row (decl.constraint w) constraint_tied)) ts

  next_constraint_tied : (ts : List Token) → some_more (kinds_but (only k.BraceClose)) (read_at false n constraint_row) ts ≡ decl.next_constraint w ts
  unfolding decl.next_constraint
  next_constraint_tied ts =
      pick_not (has_kind (kinds_but (only k.BraceClose)) (first_kind ts)) (read_at false n constraint_row ts >>= (λ x. Ok (Some x.0, x.1))) (Ok (None, ts)) (decl.constraint_unless w ts)
      (is_over (is_mark m.BraceClose (head ts)) ts) (brace_over ts) (some_is (read_at false n constraint_row ts) ∙ ap some_read (constraint_tied ts)) refl

  pub constraints_tied : (ts : List Token) → read_at false n constraints_row ts ≡ decl.constraints w ts
  unfolding constraints_row decl.constraints
  constraints_tied ts = items_read n (kinds_but (only k.BraceClose)) constraint_row (decl.next_constraint w) next_constraint_tied ts

  body_tied : (ts : List Token) → read_at false n body_row ts ≡ decl.body w ts
  unfolding body_row decl.body
  body_tied ts = planned {p = body_row} (mark_before m.Subject (mark_before m.To (a_bracket n below m.BraceOpen s.Constraints tt [] m.BraceClose))) ts

  pub model_tied : (ts : List Token) → read_at false n model_row ts ≡ decl.whole w ts
  unfolding model_row decl.whole
  model_tied ts =
      planned {p = model_row}
      (other_value _ (two_parts (as_function n (any declaration_row) (decl.declarations w) declarations_tied)
      (two_parts (as_function n (option goal_row) (decl.maybe_goal w) maybe_goal_tied) (as_function n body_row (decl.body w) body_tied)))) ts

  -- each row
  pub row_tied : TiedAt n
  row_tied s.Model ts = model_tied ts
  row_tied s.Expression ts = expr.expression_tied n below ts
  row_tied s.Negation ts = expr.negation_tied n below ts
  row_tied s.Operand ts = expr.operand_tied n below ts
  row_tied s.Summed ts = expr.summed_tied n below ts
  row_tied s.Arguments ts = expr.arguments_tied n below ts
  row_tied s.Compared ts = expr.compared_tied n below ts
  row_tied s.Task ts = expr.task_tied n below ts
  row_tied s.Tasks ts = expr.tasks_tied n below ts
  row_tied s.Bound ts = expr.bound_tied n below ts
  row_tied s.Dim ts = dim_tied ts
  row_tied s.Inits ts = inits_tied ts
  row_tied s.IntType ts = planned {p = place_of_mark k.Int} (a_mark n m.Int) ts
  row_tied s.Elements ts = elements_tied ts
  row_tied s.Outcomes ts = outcomes_tied ts
  row_tied s.Constraints ts = constraints_tied ts
  row_tied s.Quantified ts = quantified_tied ts

-- at each level
pub rows_tied : (n : ℕ) → TiedAt n
rows_tied zero = row_tied zero (λ m e. absurd (omega (arith, e)))
rows_tied (suc n) = row_tied (suc n) (λ m e. subst TiedAt (omega (arith, e)) (rows_tied n))
