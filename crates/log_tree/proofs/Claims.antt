-- The last line.
use Rattle.std.proofs.Common.{◌≡◌, ◌<◌, ◌+◌, ℕ, List, [], ◌∷◌, length, Some, None, sym, subst, arith}
use Rattle.sopl_base.specs.declared.codes.TheConstants as codes
use Rattle.log_rows.specs.declared.rows.Row.{Row}
use Rattle.log_rows.specs.declared.rows.Footer.{Footer}
use Rattle.log_rows.specs.Lines.{footer_line}
use Rattle.log_rows.specs.Ranges.{FooterFits}
use Rattle.log_tree.specs.LineOf.{IsLineOf}
use Rattle.log_tree.specs.Cutting.{lines_in}
use Rattle.log_tree.specs.Reads.{read, refused, ReadsFrom, no_node, claim, too_long, IsNoNode}
use Rattle.log_tree.specs.Progress.{RefusesRows}
use Rattle.log_rows.specs.LogText.{AreLines, none, last, one_more}
use Rattle.log_tree.proofs.Cuts.{are_lines}
use Rattle.log_tree.proofs.Bodies.{bad, no_lines}

-- lines of bytes that are not empty
some_lines : (bytes : List ℕ) → 0 < length bytes → (P : List (List ℕ) → Type 0) → ((line : List ℕ) (lines : List (List ℕ)) → P (line ∷ lines)) → P (lines_in bytes)
some_lines bytes some P all = by_lines bytes (lines_in bytes) some (are_lines bytes)
  where
    by_lines : (bs : List ℕ) (ls : List (List ℕ)) → 0 < length bs → AreLines ls bs → P ls
    by_lines _ _ some none = absurd (omega (arith, some))
    by_lines _ _ some (last line) = all line []
    by_lines _ _ some (one_more line ending lines rest is more) = all line lines

pub claim_early : (rows : List Row) (n : ℕ) (line : List ℕ) (lines : List (List ℕ)) → IsNoNode line → length rows ≡ 0 → RefusesRows rows n (line ∷ lines) (bad codes.LOG_LINE n)
claim_early rows n line lines isnt empty = record { refuses = no_node rows n line lines isnt (λ some. absurd (omega (arith, some, empty))) }

pub claim_none : (rows : List Row) (n : ℕ) (line : List ℕ) (lines : List (List ℕ)) → IsNoNode line → IsLineOf FooterFits footer_line line None → RefusesRows rows n (line ∷ lines) (bad codes.LOG_LINE n)
claim_none rows n line lines isnt other = record { refuses = no_node rows n line lines isnt (λ some. other) }

pub claim_long : (rows : List Row) (n : ℕ) (line : List ℕ) (left : List ℕ) (footer : Footer) → ¬ (length rows ≡ 0) → IsLineOf FooterFits footer_line line (Some footer) → ¬ (length left ≡ 0)
    → RefusesRows rows n (line ∷ lines_in left) (bad codes.LOG_LINE (n + 1))
claim_long rows n line left footer some is more =
    record {
      refuses = some_lines left (omega (arith, more)) (λ lines. ReadsFrom rows None n (line ∷ lines) (refused codes.LOG_LINE (n + 1))) (λ next lines. too_long rows n line next lines footer (omega (arith, some)) is.0 is.1);
    }

pub claim_read : (rows : List Row) (n : ℕ) (line : List ℕ) (left : List ℕ) (footer : Footer) → ¬ (length rows ≡ 0) → IsLineOf FooterFits footer_line line (Some footer) → length left ≡ 0
    → ReadsFrom rows None n (line ∷ lines_in left) (read rows footer)
claim_read rows n line left footer some is empty =
    subst (λ lines. ReadsFrom rows None n (line ∷ lines) (read rows footer)) (sym (no_lines left empty)) (claim rows n line footer (omega (arith, some)) is.0 is.1)
