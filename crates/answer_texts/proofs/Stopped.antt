-- What a sink took, and was begun with, where it was begun for a search.
use Rattle.std.proofs.Common.{◌≡◌, ◌∙◌, ℕ, List, Result, Ok, Err, IfErr, OnErr, Option, subst}
use Rattle.sopl_io.specs.Stock.{with_name}
use Rattle.sopl_ast.specs.Instances.{Problem}
use Rattle.sopl_base.specs.declared.stop.SearchStop.{SearchStop}
use Rattle.sopl_search.specs.Logged.{SearchPlan}
use Rattle.answer_texts.specs.Logs.{emptied, TookPrefix, told, WrotePrefix}
use Rattle.answer_texts.specs.declared.solve_answer.Answer.{Answer}

module _ (problem : Problem) (plan : SearchPlan) (name : List ℕ) (old begun new : Option (List ℕ)) (names at later : Option (List (List ℕ)))
    (empty : begun ≡ emptied old) (with : at ≡ with_name names name) (kept : later ≡ at) where
  -- and a prefix of the log
  pub begun_prefix : (result : Result Answer SearchStop) → IfErr result (λ stop. TookPrefix problem plan begun new)
      → IfErr result (λ stop. WrotePrefix problem plan name (told old names) (told new later))
  begun_prefix (Ok answer) prefix = tt
  begun_prefix (Err stop) prefix = record { names = kept ∙ with; took = subst (λ o. TookPrefix problem plan o new) empty prefix }

-- what is so wherever there is no answer
pub on_err : {T E X : Type 0} (result : Result T E) → X → IfErr result (λ _. X)
on_err (Ok value) holds = tt
on_err (Err error) holds = holds

-- and what is so there is so
pub at_err : {T E X : Type 0} (result : Result T E) (error : E) → result ≡ Err error → OnErr result X → X
at_err {X = X} result error is holds = subst (λ r. OnErr r X) is holds
