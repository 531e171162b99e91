-- The body of a row, line by line.
use Rattle.std.proofs.Common.{◌≡◌, ◌+◌, ℕ, List, [], ◌∷◌, ◌++◌, length, Some, refl, sym, subst, arith}
use Rattle.sopl_base.specs.declared.fault.Fault.{Fault}
use Rattle.sopl_base.specs.declared.fault.Fault.TheVariants.{Text, Limit, NoMemory}
use Rattle.sopl_base.specs.declared.reason.Step.{Step}
use Rattle.sopl_base.specs.declared.codes.TheConstants as codes
use Rattle.log_rows.specs.declared.rows.EndLine.{EndLine}
use Rattle.log_rows.specs.Lines.{step_line, end_line}
use Rattle.log_rows.specs.Ranges.{StepFits, EndFits}
use Rattle.log_tree.specs.LineOf.{IsLineOf}
use Rattle.log_tree.specs.Cutting.{lines_in}
use Rattle.log_tree.specs.Reads.{refused, ReadsFrom, missing, step, ended, no_line, IsNoStep, IsNoEnd, row_with_steps}
use Rattle.log_tree.specs.Progress.{IsRowBody, RefusesBody}

abbrev pub bad : ℕ → ℕ → Fault
bad code n = Text (record { code = code; at = n })

pub body_ended : (steps : List Step) (n : ℕ) (line : List ℕ) (lines : List (List ℕ)) (end : EndLine) → IsLineOf EndFits end_line line (Some end)
    → IsRowBody steps n (line ∷ lines) steps end (n + 1) lines
body_ended steps n line lines end is = record { leads = λ rows parent out reads. ended rows (row_with_steps parent steps) n line lines end out is.0 is.1 reads }

pub body_stuck : (steps : List Step) (n : ℕ) (line : List ℕ) (lines : List (List ℕ)) → IsNoStep line → IsNoEnd line → RefusesBody steps n (line ∷ lines) (bad codes.LOG_LINE n)
body_stuck steps n line lines stepless endless = record { refuses = λ rows parent. no_line rows (row_with_steps parent steps) n line lines stepless endless }

pub body_missing : (steps : List Step) (n : ℕ) (lines : List (List ℕ)) → lines ≡ [] → RefusesBody steps n lines (bad codes.LOG_LINE n)
body_missing steps n lines is = record { refuses = λ rows parent. subst (λ ls. ReadsFrom rows (Some (row_with_steps parent steps)) n ls (refused codes.LOG_LINE n)) (sym is) (missing rows (Some (row_with_steps parent steps)) n) }

-- a step more
pub body_step : (before : List Step) (n : ℕ) (line : List ℕ) (lines : List (List ℕ)) (new : Step) (steps : List Step) (end : EndLine) (m : ℕ) (left : List (List ℕ))
    → IsLineOf StepFits step_line line (Some new) → IsRowBody (before ++ new ∷ []) (n + 1) lines steps end m left → IsRowBody before n (line ∷ lines) steps end m left
body_step before n line lines new steps end m left is more = record { leads = λ rows parent out reads. step rows (row_with_steps parent before) n line lines new out is.0 is.1 (more.leads rows parent out reads) }

pub stuck_step : (before : List Step) (n : ℕ) (line : List ℕ) (lines : List (List ℕ)) (new : Step) (fault : Fault)
    → IsLineOf StepFits step_line line (Some new) → RefusesBody (before ++ new ∷ []) (n + 1) lines fault → RefusesBody before n (line ∷ lines) fault
stuck_step before n line lines new (Text refusal) is more =
    record { refuses = λ rows parent. step rows (row_with_steps parent before) n line lines new (refused refusal.code refusal.at) is.0 is.1 (more.refuses rows parent) }
stuck_step before n line lines new (Limit excess) is more = record { refuses = λ rows parent. more.refuses rows parent }
stuck_step before n line lines new NoMemory is more = record { refuses = λ rows parent. tt }

-- what is left of a body leads to all of it
pub record Leads (before : List Step) (n : ℕ) (lines : List (List ℕ)) (start : List Step) (first : ℕ) (all : List (List ℕ)) : Type 0 where
  pub body : (steps : List Step) (end : EndLine) (m : ℕ) (left : List (List ℕ)) → IsRowBody before n lines steps end m left → IsRowBody start first all steps end m left
  pub fault : (fault : Fault) → RefusesBody before n lines fault → RefusesBody start first all fault

pub leads_more : (before : List Step) (n : ℕ) (lines : List (List ℕ)) (start : List Step) (first : ℕ) (all : List (List ℕ)) (line : List ℕ) (rest : List (List ℕ)) (new : Step)
    → Leads before n lines start first all → lines ≡ line ∷ rest → IsLineOf StepFits step_line line (Some new) → Leads (before ++ new ∷ []) (n + 1) rest start first all
leads_more before n lines start first all line rest new leads cut is = record {
  body = λ steps end m left more. leads.body steps end m left (subst (λ ls. IsRowBody before n ls steps end m left) (sym cut) (body_step before n line rest new steps end m left is more));
  fault = λ fault more. leads.fault fault (subst (λ ls. RefusesBody before n ls fault) (sym cut) (stuck_step before n line rest new fault is more));
}

pub leads_pushed : (before pushed : List Step) (n : ℕ) (lines : List (List ℕ)) (start : List Step) (first : ℕ) (all : List (List ℕ)) (line : List ℕ) (rest : List (List ℕ)) (new : Step)
    → Leads before n lines start first all → lines ≡ line ∷ rest → IsLineOf StepFits step_line line (Some new) → pushed ≡ before ++ new ∷ [] → Leads pushed (n + 1) rest start first all
leads_pushed before pushed n lines start first all line rest new leads cut is added = subst (λ steps. Leads steps (n + 1) rest start first all) (sym added) (leads_more before n lines start first all line rest new leads cut is)

pub no_lines : (bytes : List ℕ) → length bytes ≡ 0 → lines_in bytes ≡ []
no_lines [] none = refl
no_lines (b ∷ bs) none = absurd (omega (arith, none))
