-- What the cells that a reason mentions decide.
use Rattle.std.specs.Prelude.{◌≡◌, ℤ, Option}
use Rattle.sopl_base.specs.declared.reason.Reason.{Reason}
use Rattle.box_problem.specs.Box.{Box}
use Rattle.term_language.specs.MentionLaws.{BoxesAgree}
use Rattle.term_problem.specs.Problems.{ProblemTerms}
use Rattle.term_problem.specs.Refuted.{refutes}
use Rattle.term_problem.specs.Reasons.{reason_mentions}

-- boxes that agree on the cells that a reason mentions are closed by it alike
abbrev pub ReasonsAgree : Type 0
ReasonsAgree =
    (root b c : Box) (terms : ProblemTerms) (reason : Reason) (v : Option ℤ) → BoxesAgree (reason_mentions root terms reason) b c
    → refutes root terms reason b v ≡ refutes root terms reason c v
