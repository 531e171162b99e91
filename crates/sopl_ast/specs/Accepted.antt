-- The texts that are accepted, with the problem that each states, and why another text is not. The limits on term nodes (206) and on the sizes of terms
-- (207) are told behind these, by `solve` alone; and which forms of expressions the program has yet is said apart, since it is no matter of what a text means.
use Rattle.std.specs.Prelude.{◌≡◌, ℕ, List, length, Some, None, Ok, Err, IsOk}
use Rattle.sopl_base.specs.declared.fault.Refusal.{Refusal}
use Rattle.sopl_base.specs.declared.fault.Excess.{Excess}
use Rattle.sopl_base.specs.declared.fault.Fault.TheVariants.{Text, Limit}
use Rattle.sopl_ast.specs.declared.token.Token.{Token}
use Rattle.sopl_ast.specs.Tokens.{Lexes}
use Rattle.sopl_ast.specs.Whole.{ModelTree}
use Rattle.sopl_ast.specs.Grammar.{SpellsWithin}
use Rattle.sopl_ast.specs.Misspelled.{IsMisspelled}
use Rattle.sopl_ast.specs.Mistakes.{IsWellTyped, IsFirstMistake}
use Rattle.sopl_ast.specs.UnfoldEvents.{first_failure}
use Rattle.sopl_ast.specs.Instances.{Problem}
use Rattle.sopl_ast.specs.Unfolding.{problem_of, text_events}
use Rattle.sopl_ast.specs.Limits.{Limits, size_excess}

-- the model has no mistake, nothing stops its unfolding, it states this problem, and neither its scenarios nor its decisions pass a limit
pub record AcceptedModel (limits : Limits) (model : ModelTree) (problem : Problem) : Type 0 where
  pub typed : IsWellTyped model
  pub unfolded : IsOk (first_failure 0 (text_events model))
  pub stated : problem_of model ≡ problem
  pub allowed : size_excess limits problem ≡ None

-- the tokens of the text spell this model
pub record IsTextOf (text : List ℕ) (model : ModelTree) : Type 0 where
  pub tokens : List Token
  pub read : Lexes text (Ok tokens)
  pub spelled : SpellsWithin tokens model

-- the text spells a model, which is accepted
pub record AcceptedText (limits : Limits) (text : List ℕ) (problem : Problem) : Type 0 where
  pub model : ModelTree
  pub spelled : IsTextOf text model
  pub accepted : AcceptedModel limits model problem

-- the text is refused by this code at this place
pub data IsRefusedFor (text : List ℕ) (refusal : Refusal) : Type 0 where
  -- it has no tokens
  no_tokens : Lexes text (Err refusal) → IsRefusedFor text refusal
  -- its tokens spell no model
  misspelled : (tokens : List Token) → Lexes text (Ok tokens) → IsMisspelled (length text) tokens refusal → IsRefusedFor text refusal
  -- its model has a mistake of names or kinds
  mistaken : (model : ModelTree) → IsTextOf text model → IsFirstMistake model refusal → IsRefusedFor text refusal
  -- its model has none, and its unfolding is stopped by a refusal
  stopped : (model : ModelTree) → IsTextOf text model → IsWellTyped model → first_failure 0 (text_events model) ≡ Err (Text refusal) → IsRefusedFor text refusal

-- the text is not taken since it passes this limit
pub data IsLimitedFor (limits : Limits) (text : List ℕ) (excess : Excess) : Type 0 where
  -- its unfolding passes it
  unfolding_passes : (model : ModelTree) → IsTextOf text model → IsWellTyped model → first_failure 0 (text_events model) ≡ Err (Limit excess)
      → IsLimitedFor limits text excess
  -- nothing stops its unfolding, and its scenarios or its decisions pass it
  sizes_pass : (model : ModelTree) → IsTextOf text model → IsWellTyped model → IsOk (first_failure 0 (text_events model))
      → size_excess limits (problem_of model) ≡ Some excess → IsLimitedFor limits text excess
