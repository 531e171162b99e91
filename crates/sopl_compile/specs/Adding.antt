-- Constraints are added to what is being built.
use Rattle.std.specs.Prelude.{◌≡◌, List, ◌++◌, length}
use Rattle.term_language.specs.Terms.{Cond}
use Rattle.compile_names.specs.declared.setting.Scenarios.{Scenarios}
use Rattle.term_problem.specs.Problems.{ChanceTerms, ProblemTerms}
use Rattle.sopl_scen.specs.Layout.{count_in}
use Rattle.compile_scene.specs.Works.{IsReady}
use Rattle.compile_scene.specs.declared.work.Lowering.{Lowering}
use Rattle.sopl_term.specs.Built.{asked_direction, asked_worst, problem_built}

-- a problem with more hard constraints, and with more chance constraints
abbrev pub with_hards : ProblemTerms → List (List Cond) → ProblemTerms
with_hards terms more = record terms { hards = terms.hards ++ more }

abbrev pub with_chances : ProblemTerms → List ChanceTerms → ProblemTerms
with_chances terms more = record terms { chances = terms.chances ++ more }

-- there is a weight for each scenario
abbrev pub HasWeights : Scenarios → Lowering → Type 0
HasWeights setting work = length (problem_built work.builder).weights ≡ count_in setting.tree.now

-- what is built is this problem now, and what the objective is to be stays
pub record Adds (setting : Scenarios) (before after : Lowering) (terms : ProblemTerms) : Type 0 where
  pub ready : IsReady setting after
  pub problem : problem_built after.builder ≡ terms
  pub direction : asked_direction after.builder ≡ asked_direction before.builder
  pub worst : asked_worst after.builder ≡ asked_worst before.builder
