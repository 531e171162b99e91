-- The answers of a check of a log, as JSON data.
use Rattle.std.specs.Prelude.{ℤ, ℕ, List, codes, Some, None}
use Rattle.serde_json.specs.Data.{Data, string, object, no_members, member}
use Rattle.log_rows.specs.declared.rows.Footer.{Footer}
use Rattle.log_rows.specs.declared.rows.Footer.TheVariants.{Optimal, Infeasible, Bounded}
use Rattle.policy_json.specs.Entries.{whole_number}
use Rattle.answer_lines.specs.AnswerData.{fraction}
pub use Rattle.answer_lines.specs.AnswerData.{unreadable_data}

-- a log is accepted that claims that no policy satisfies
abbrev pub claims_none : Data
claims_none = object (member (codes "answer") (string (codes "accepted")) (member (codes "claim") (string (codes "infeasible")) no_members))

-- or a best value
abbrev pub claims_best : List ℕ → Data
claims_best value =
    object (member (codes "answer") (string (codes "accepted")) (member (codes "claim") (string (codes "optimal"))
    (member (codes "value") (string value) no_members)))

-- or a bound
abbrev pub claims_bound : List ℕ → Data
claims_bound bound =
    object (member (codes "answer") (string (codes "accepted")) (member (codes "bound") (string bound)
    (member (codes "claim") (string (codes "bounded")) no_members)))

-- or a bound, and a value that was found
abbrev pub claims_found : List ℕ → List ℕ → Data
claims_found bound value =
    object (member (codes "answer") (string (codes "accepted")) (member (codes "bound") (string bound)
    (member (codes "claim") (string (codes "bounded")) (member (codes "value") (string value) no_members))))

-- a log is accepted with this claim, its values over a denominator
abbrev pub accepted_data : Footer → ℤ → Data
accepted_data (Optimal value) denominator = claims_best (fraction value denominator)
accepted_data Infeasible denominator = claims_none
accepted_data (Bounded None bound) denominator = claims_bound (fraction bound denominator)
accepted_data (Bounded (Some value) bound) denominator = claims_found (fraction bound denominator) (fraction value denominator)

-- a log is rejected: its first wrong line, and the node of it
abbrev pub rejected_data : ℤ → ℤ → Data
rejected_data line node =
    object (member (codes "answer") (string (codes "rejected")) (member (codes "line") (whole_number line) (member (codes "node") (whole_number node) no_members)))
