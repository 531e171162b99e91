-- The row that is found in the table of commands.
use Rattle.std.proofs.Common.{◌≡◌, ◌∙◌, ap, refl, ℕ, List, [], ◌∷◌, Option, Some, None, option_map, map, Bool, true, false, find, if◌then◌else◌}
use Rattle.std.specs.Str.{bytes_eq}
use Rattle.answer_run.specs.Words as spec
use Rattle.answer_run.specs.Shown.{row_shown}
use Rattle.answer_run.specs.declared.commands.CommandRow.{CommandRow}

by_first : (row : CommandRow) (rest : Option CommandRow) (others : Option spec.CommandRow) (b : Bool) → option_map row_shown rest ≡ others
    → option_map row_shown (if b then Some row else rest) ≡ (if b then Some (row_shown row) else others)
by_first row rest others true same = refl
by_first row rest others false same = same

by_rows : (word : List ℕ) (rows : List CommandRow)
    → option_map row_shown (find (λ (r : CommandRow). bytes_eq r.name.now word) rows) ≡ find (λ (r : spec.CommandRow). bytes_eq r.name word) (map row_shown rows)
by_rows word [] = refl
by_rows word (row ∷ rows) = by_first row _ _ (bytes_eq row.name.now word) (by_rows word rows)

same_option : (o : Option CommandRow) → o ≡ option_map (λ x. x) o
same_option None = refl
same_option (Some row) = refl

-- what the program finds in its table is what is found in the table of the definition
pub found_shown : (word : List ℕ) (rows : List CommandRow) (table : List spec.CommandRow) (o : Option CommandRow) → map row_shown rows ≡ table
    → option_map (λ x. x) o ≡ find (λ (r : CommandRow). bytes_eq r.name.now word) rows → option_map row_shown o ≡ find (λ (r : spec.CommandRow). bytes_eq r.name word) table
found_shown word rows table o is found =
    ap (option_map row_shown) (same_option o ∙ found) ∙ by_rows word rows ∙ ap (λ rows. find (λ (r : spec.CommandRow). bytes_eq r.name word) rows) is
