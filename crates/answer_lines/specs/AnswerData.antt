-- The answers, as JSON data and as the bytes of one line.
use Rattle.std.specs.Prelude.{ℕ, ℤ, codes, List, [], ◌∷◌, ◌++◌, length, pos, Option, Some, None}
use Rattle.std.specs.Fmt.{signed_decimal}
use Rattle.serde_json.specs.Data.{Data, string, object, no_members, member}
use Rattle.serde_json.specs.Written.{compact_text}
use Rattle.sopl_base.specs.declared.fault.Excess.{Excess}
use Rattle.sopl_ast.specs.Instances.{Problem}
use Rattle.sopl_ast.specs.Cells.{cells}
use Rattle.sopl_ast.specs.Policies.{Policy}
use Rattle.sopl_ast.specs.Scenarios.{scenarios}
use Rattle.sopl_ast.specs.Optimal.{denominator}
use Rattle.policy_json.specs.Entries.{whole_number}
use Rattle.policy_json.specs.Nodes.{policy_data}

-- a numerator over a denominator, never reduced
abbrev pub fraction : ℤ → ℤ → List ℕ
fraction numerator denominator = signed_decimal numerator ++ 47 ∷ signed_decimal denominator

-- an answer that is one word
abbrev pub word_data : List ℕ → Data
word_data word = object (member (codes "answer") (string word) no_members)

-- a refusal: the place in the text, and the code of the rule
abbrev pub refused_data : ℤ → ℤ → Data
refused_data at code =
    object (member (codes "answer") (string (codes "refused")) (member (codes "at") (whole_number at) (member (codes "code") (whole_number code) no_members)))

-- bytes are not read as a log, or as a policy: the place of the first mistake, and its code
abbrev pub unreadable_data : ℤ → ℤ → Data
unreadable_data at code =
    object (member (codes "answer") (string (codes "unreadable")) (member (codes "at") (whole_number at) (member (codes "code") (whole_number code) no_members)))

-- a limit, by its code and the texts of the number that was counted and of the one that is allowed
abbrev pub limit_object : ℤ → List ℕ → List ℕ → Data
limit_object code counted limit =
    object (member (codes "answer") (string (codes "limit")) (member (codes "code") (whole_number code)
    (member (codes "counted") (string counted) (member (codes "limit") (string limit) no_members))))

-- a limit that is passed: its code, the number that was counted, and the one that is allowed
abbrev pub limit_data : Excess → Data
limit_data excess = limit_object (pos excess.code) (signed_decimal excess.counted) (signed_decimal excess.limit)

-- an optimal policy and its value, as their texts have them
abbrev pub optimal_object : Data → List ℕ → Data
optimal_object policy value =
    object (member (codes "answer") (string (codes "optimal")) (member (codes "policy") policy (member (codes "value") (string value) no_members)))

-- an optimal policy and its value
abbrev pub optimal_data : Problem → Policy → ℤ → Data
optimal_data problem policy value = optimal_object (policy_data problem policy) (fraction value (denominator problem))

-- a policy, and its value
pub record Valued : Type 0 where
  pub policy : Policy
  pub value : ℤ

-- a bound, where nothing was found
abbrev pub bound_object : List ℕ → Data
bound_object bound = object (member (codes "answer") (string (codes "bounded")) (member (codes "bound") (string bound) no_members))

-- a bound, and a policy that was found with its value, as their texts have them
abbrev pub found_object : List ℕ → Data → List ℕ → Data
found_object bound policy value =
    object (member (codes "answer") (string (codes "bounded")) (member (codes "bound") (string bound)
    (member (codes "policy") policy (member (codes "value") (string value) no_members))))

-- a bound, and a policy with its value where one was found
abbrev pub bounded_data : Problem → Option Valued → ℤ → Data
bounded_data problem None bound = bound_object (fraction bound (denominator problem))
bounded_data problem (Some found) bound =
    found_object (fraction bound (denominator problem)) (policy_data problem found.policy) (fraction found.value (denominator problem))

-- a summary of a search that found nothing: how many cells and scenarios there are, and what came of it
abbrev pub summary_object : ℤ → List ℕ → ℤ → Data
summary_object cells outcome scenarios =
    object (member (codes "answer") (string (codes "summary")) (member (codes "cells") (whole_number cells)
    (member (codes "result") (string outcome) (member (codes "scenarios") (whole_number scenarios) no_members))))

-- and of one that found a policy, with the text of its value
abbrev pub valued_summary_object : ℤ → List ℕ → ℤ → List ℕ → Data
valued_summary_object cells outcome scenarios value =
    object (member (codes "answer") (string (codes "summary")) (member (codes "cells") (whole_number cells)
    (member (codes "result") (string outcome) (member (codes "scenarios") (whole_number scenarios) (member (codes "value") (string value) no_members)))))

-- the cells of the problem are those of its decisions and histories; its scenarios are all
abbrev pub summary_data : Problem → List ℕ → Option ℤ → Data
summary_data problem outcome None = summary_object (pos (length (cells problem))) outcome (pos (length (scenarios problem.stochastics)))
summary_data problem outcome (Some value) =
    valued_summary_object (pos (length (cells problem))) outcome (pos (length (scenarios problem.stochastics))) (fraction value (denominator problem))

-- the line of an answer: its compact text and a line feed
abbrev pub line_of : Data → List ℕ
line_of answer = compact_text answer ++ 10 ∷ []
