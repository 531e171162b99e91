-- The rows of a log, one by one.
use Rattle.std.proofs.Common.{◌≡◌, ◌∙◌, ◌≤◌, ◌+◌, ℕ, List, [], ◌∷◌, ◌++◌, length, Some, None, Result, Ok, Err, IfOk, IfErr, Bool, true, false, not, refl, sym, ap, subst}
use Rattle.sopl_base.specs.declared.fault.Fault.{Fault}
use Rattle.sopl_base.specs.declared.fault.Fault.TheVariants.{Text, Limit, NoMemory}
use Rattle.sopl_base.specs.declared.reason.Step.{Step}
use Rattle.log_rows.specs.declared.rows.Row.{Row}
use Rattle.log_rows.specs.declared.rows.EndLine.{EndLine}
use Rattle.log_rows.specs.declared.rows.Footer.{Footer}
use Rattle.log_rows.specs.Accepted.{greatest_depth}
use Rattle.log_rows.specs.Lines.{head_line}
use Rattle.log_tree.specs.LineOf.{IsLineOf, HeadingFits, heading_line}
use Rattle.log_tree.specs.Cutting.{lines_in}
use Rattle.log_tree.specs.declared.reading.Heading.{Heading}
use Rattle.log_tree.specs.declared.reader.Log.{Log}
use Rattle.std.specs.Str.{bytes_eq}
use Rattle.std.proofs.lemmas.Slice.Eq.{bytes_eq-Decides}
use Rattle.sopl_base.specs.declared.codes.TheConstants as codes
use Rattle.log_tree.specs.Reads.{LogOutcome, read, refused, ReadsFrom, missing, node, RefusedAs, row_with_steps, ended_row, ReadsLines, empty, no_head, headed, IsReading}
use Rattle.log_tree.specs.Progress.{RefusesRows, RefusesNode, IsRowBody, RefusesBody, IsPlacedNode}
use Rattle.log_tree.proofs.Bodies.{bad, no_lines}

-- what is read behind these rows is what is read of the text
pub record LeadsRows (rows : List Row) (n : ℕ) (lines all : List (List ℕ)) : Type 0 where
  pub leads : (out : LogOutcome) → ReadsFrom rows None n lines out → ReadsFrom [] None 2 all out

pub faults : (rows : List Row) (n : ℕ) (lines all : List (List ℕ)) (fault : Fault) → LeadsRows rows n lines all → RefusesRows rows n lines fault → RefusesRows [] 2 all fault
faults rows n lines all (Text refusal) leads is = record { refuses = leads.leads (refused refusal.code refusal.at) is.refuses }
faults rows n lines all (Limit excess) leads is = record { refuses = is.refuses }
faults rows n lines all NoMemory leads is = record { refuses = tt }

pub node_faults : (rows : List Row) (n : ℕ) (lines all : List (List ℕ)) (line : List ℕ) (rest : List (List ℕ)) (heading : Heading) (fault : Fault)
    → LeadsRows rows n lines all → lines ≡ line ∷ rest → IsLineOf HeadingFits heading_line line (Some heading) → RefusesNode rows n heading fault → RefusesRows [] 2 all fault
node_faults rows n lines all line rest heading fault leads cut is wrong =
    faults rows n lines all fault leads (subst (λ ls. RefusesRows rows n ls fault) (sym cut) (record { refuses = wrong.refuses line rest is.0 is.1 }))

pub body_faults : (rows : List Row) (n : ℕ) (lines all : List (List ℕ)) (line : List ℕ) (rest : List (List ℕ)) (heading : Heading) (depth : ℕ) (fault : Fault)
    → LeadsRows rows n lines all → lines ≡ line ∷ rest → IsLineOf HeadingFits heading_line line (Some heading) → IsPlacedNode rows heading depth → RefusesBody [] (n + 1) rest fault → RefusesRows [] 2 all fault
body_faults rows n lines all line rest heading depth fault leads cut is placed wrong =
    faults rows n lines all fault leads (subst (λ ls. RefusesRows rows n ls fault) (sym cut) (by_fault fault wrong))
  where
    by_fault : (fault : Fault) → RefusesBody [] (n + 1) rest fault → RefusesRows rows n (line ∷ rest) fault
    by_fault (Text refusal) wrong = record {
      refuses = node rows n line rest heading (refused refusal.code refusal.at) is.0 is.1 placed.next (subst (λ d. d ≤ greatest_depth) placed.depth_is placed.shallow) (wrong.refuses rows heading.parent);
    }
    by_fault (Limit excess) wrong = absurd (wrong.refuses rows heading.parent)
    by_fault NoMemory wrong = record { refuses = tt }

pub rows_more : (rows after : List Row) (n m : ℕ) (lines left all : List (List ℕ)) (line : List ℕ) (rest : List (List ℕ)) (heading : Heading) (depth : ℕ) (steps : List Step) (end : EndLine)
    → LeadsRows rows n lines all → lines ≡ line ∷ rest → IsLineOf HeadingFits heading_line line (Some heading) → IsPlacedNode rows heading depth → IsRowBody [] (n + 1) rest steps end m left
    → after ≡ rows ++ ended_row (row_with_steps heading.parent steps) end ∷ [] → LeadsRows after m left all
rows_more rows after n m lines left all line rest heading depth steps end leads cut is placed body added = record {
  leads = λ out reads. leads.leads out (subst (λ ls. ReadsFrom rows None n ls out) (sym cut)
      (node rows n line rest heading out is.0 is.1 placed.next (subst (λ d. d ≤ greatest_depth) placed.depth_is placed.shallow)
      (body.leads rows heading.parent out (subst (λ rs. ReadsFrom rs None m left out) added reads))));
}

pub rows_missing : (rows : List Row) (n : ℕ) (left : List ℕ) (all : List (List ℕ)) → LeadsRows rows n (lines_in left) all → length left ≡ 0 → RefusesRows [] 2 all (bad codes.LOG_LINE n)
rows_missing rows n left all leads none = record { refuses = leads.leads (refused codes.LOG_LINE n) (subst (λ ls. ReadsFrom rows None n ls (refused codes.LOG_LINE n)) (sym (no_lines left none)) (missing rows None n)) }

-- a whole text
pub text_read : (text line behind : List ℕ) (rows : List Row) (footer : Footer) → lines_in text ≡ line ∷ lines_in behind → line ≡ head_line → ReadsFrom [] None 2 (lines_in behind) (read rows footer) → IsReading text (read rows footer)
text_read text line behind rows footer cut is reads = subst (λ ls. ReadsLines ls (read rows footer)) (sym (cut ∙ ap (λ l. l ∷ lines_in behind) is)) (headed (lines_in behind) (read rows footer) reads)

pub text_refused : (text line behind : List ℕ) (fault : Fault) → lines_in text ≡ line ∷ lines_in behind → line ≡ head_line → RefusesRows [] 2 (lines_in behind) fault → RefusedAs (IsReading text) fault
text_refused text line behind (Text refusal) cut is wrong =
    subst (λ ls. ReadsLines ls (refused refusal.code refusal.at)) (sym (cut ∙ ap (λ l. l ∷ lines_in behind) is)) (headed (lines_in behind) (refused refusal.code refusal.at) wrong.refuses)
text_refused text line behind (Limit excess) cut is wrong = wrong.refuses
text_refused text line behind NoMemory cut is wrong = tt

pub text_empty : (text : List ℕ) → length text ≡ 0 → IsReading text (refused codes.LOG_LINE 1)
text_empty text none = subst (λ ls. ReadsLines ls (refused codes.LOG_LINE 1)) (sym (no_lines text none)) empty

pub text_headless : (text line behind : List ℕ) → lines_in text ≡ line ∷ lines_in behind → ¬ (line ≡ head_line) → IsReading text (refused codes.LOG_LINE 1)
text_headless text line behind cut isnt = subst (λ ls. ReadsLines ls (refused codes.LOG_LINE 1)) (sym cut) (no_head line (lines_in behind) isnt)

-- whether the first line is the one of a log
pub differs : (line : List ℕ) (r : Bool) → r ≡ not (bytes_eq line head_line) → r ≡ true → ¬ (line ≡ head_line)
differs line r is yes_it same = let equal : bytes_eq line head_line ≡ true = (bytes_eq-Decides line head_line).1 same in let clash : true ≡ false = sym yes_it ∙ is ∙ ap not equal in absurd (cc)

pub equals : (line : List ℕ) (r : Bool) → r ≡ not (bytes_eq line head_line) → r ≡ false → line ≡ head_line
equals line r is isnt = (bytes_eq-Decides line head_line).0 (by_test (bytes_eq line head_line) (sym is ∙ isnt))
  where
    by_test : (b : Bool) → not b ≡ false → b ≡ true
    by_test true is = refl
    by_test false is = absurd (cc)

pub whole_read : (text line behind : List ℕ) (r : Result Log Fault) → lines_in text ≡ line ∷ lines_in behind → line ≡ head_line
    → IfOk r (λ log. ReadsFrom [] None 2 (lines_in behind) (read log.rows.items log.footer)) → IfOk r (λ log. IsReading text (read log.rows.items log.footer))
whole_read text line behind (Ok log) cut is reads = text_read text line behind log.rows.items log.footer cut is reads
whole_read text line behind (Err fault) cut is reads = reads

pub whole_refused : (text line behind : List ℕ) (r : Result Log Fault) → lines_in text ≡ line ∷ lines_in behind → line ≡ head_line
    → IfErr r (RefusesRows [] 2 (lines_in behind)) → IfErr r (RefusedAs (IsReading text))
whole_refused text line behind (Ok log) cut is wrong = wrong
whole_refused text line behind (Err fault) cut is wrong = text_refused text line behind fault cut is wrong
