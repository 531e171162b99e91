-- The answers of an evaluation of a policy, as JSON data.
use Rattle.std.specs.Prelude.{ℕ, ℤ, pos, List, codes, map}
use Rattle.serde_json.specs.Data.{Data, string, object, no_members, member}
use Rattle.sopl_ast.specs.Instances.{Problem}
use Rattle.sopl_ast.specs.Optimal.{denominator}
use Rattle.sopl_ast.specs.Scenarios.{total_weight}
use Rattle.policy_eval.specs.Reports as report
use Rattle.policy_eval.specs.Reports.{Judgement}
use Rattle.policy_json.specs.Entries.{list_of, whole_number}
use Rattle.answer_lines.specs.AnswerData.{fraction}
use Rattle.answer_texts.specs.declared.status.Status.{Status}
use Rattle.answer_texts.specs.declared.status.Status.TheVariants.{Done, Failing}

-- a sum of weights over the weight of all scenarios
abbrev pub sum_data : ℤ → ℤ → Data
sum_data total sum = string (fraction sum total)

-- a policy satisfies: the sums of the chance constraints, and its value
abbrev pub satisfied_object : Data → List ℕ → Data
satisfied_object chances value =
    object (member (codes "answer") (string (codes "satisfied")) (member (codes "chances") chances (member (codes "value") (string value) no_members)))

-- a hard constraint is false: its instance, and the scenario
abbrev pub hard_data : ℤ → ℤ → Data
hard_data instance scenario =
    object (member (codes "answer") (string (codes "failing")) (member (codes "instance") (whole_number instance)
    (member (codes "scenario") (whole_number scenario) (member (codes "what") (string (codes "hard")) no_members))))

-- a chance constraint is not reached: its instance, and the sum of it
abbrev pub chance_object : ℤ → List ℕ → Data
chance_object instance sum =
    object (member (codes "answer") (string (codes "failing")) (member (codes "instance") (whole_number instance)
    (member (codes "sum") (string sum) (member (codes "what") (string (codes "chance")) no_members))))

-- the objective is undefined: the scenario
abbrev pub objective_data : ℤ → Data
objective_data scenario =
    object (member (codes "answer") (string (codes "failing")) (member (codes "scenario") (whole_number scenario)
    (member (codes "what") (string (codes "objective")) no_members)))

-- what is told of a policy, where the scenarios weigh so much together and values have this denominator
abbrev pub judgement_data : ℤ → ℤ → Judgement → Data
judgement_data total denominator (report.satisfied value sums) = satisfied_object (list_of (map (sum_data total) sums)) (fraction value denominator)
judgement_data total denominator (report.hard instance scenario) = hard_data (pos instance) (pos scenario)
judgement_data total denominator (report.chance instance sum) = chance_object (pos instance) (fraction sum total)
judgement_data total denominator (report.objective scenario) = objective_data (pos scenario)

-- and how the run ends
abbrev pub judgement_status : Judgement → Status
judgement_status (report.satisfied value sums) = Done
judgement_status (report.hard instance scenario) = Failing
judgement_status (report.chance instance sum) = Failing
judgement_status (report.objective scenario) = Failing

-- that a policy of a problem satisfies, with these sums and this value
abbrev pub satisfied_data : Problem → List ℤ → ℤ → Data
satisfied_data problem sums value =
    satisfied_object (list_of (map (sum_data (total_weight problem.stochastics)) sums)) (fraction value (denominator problem))

-- that it does not reach a chance constraint of the problem, with this sum
abbrev pub chance_data : Problem → ℤ → ℤ → Data
chance_data problem instance sum = chance_object instance (fraction sum (total_weight problem.stochastics))
