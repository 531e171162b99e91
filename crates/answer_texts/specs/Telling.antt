-- What is told of a search: in full, or as a summary.
use Rattle.std.specs.Prelude.{ℤ, codes, Option, Some, None, option_map}
use Rattle.serde_json.specs.Data.{Data}
use Rattle.sopl_ast.specs.Instances.{Problem}
use Rattle.sopl_ast.specs.Policies.{Policy}
use Rattle.answer_lines.specs.AnswerData.{Valued, bounded_data, optimal_data, summary_data, word_data}
use Rattle.answer_texts.specs.declared.command.Detail.{Detail}
use Rattle.answer_texts.specs.declared.command.Detail.TheVariants.{Full, Summary}

-- of an optimal policy with its value
abbrev pub optimal_told : Detail → Problem → Policy → ℤ → Data
optimal_told Full problem policy value = optimal_data problem policy value
optimal_told Summary problem policy value = summary_data problem (codes "optimal") (Some value)

-- that no policy satisfies
abbrev pub infeasible_told : Detail → Problem → Data
infeasible_told Full problem = word_data (codes "infeasible")
infeasible_told Summary problem = summary_data problem (codes "infeasible") None

-- the value of what was found, if anything was
abbrev pub found_value : Option Valued → Option ℤ
found_value found = option_map (λ (f : Valued). f.value) found

-- of a bound, and of what was found
abbrev pub bounded_told : Detail → Problem → Option Valued → ℤ → Data
bounded_told Full problem found bound = bounded_data problem found bound
bounded_told Summary problem found bound = summary_data problem (codes "bounded") (found_value found)
