-- Cells that a list does not have.
use Rattle.std.proofs.Common.{◌≡◌, ℕ, ℤ, pos, List, ap, subst}
use Rattle.std.specs.List.{Contains}
use Rattle.std.proofs.lemmas.List.{get_or-set_other}
use Rattle.box_problem.specs.Box.{Box, high, low, with_high, with_low}
use Rattle.term_language.specs.Ends.{cell_ends, ends}
use Rattle.term_language.specs.MentionLaws.{BoxesAgree}
use Rattle.term_problem.proofs.Reasons.{all_of}

-- another end of a cell that is not there
other_cell : (cells : List ℕ) (cell n : ℕ) → ¬ Contains cells cell → Contains cells n → ¬ n ≡ cell
other_cell cells cell n nowhere there same = nowhere (subst (Contains cells) same there)

pub agree_low : (cells : List ℕ) (b : Box) (cell : ℕ) (k : ℤ) → ¬ Contains cells cell → BoxesAgree cells (with_low b cell k) b
agree_low cells b cell k nowhere =
    all_of (λ n. cell_ends (with_low b cell k) n ≡ cell_ends b n) cells
    (λ n there. ap (λ (z : ℤ). ends z (high b n)) (get_or-set_other b.lows cell n k (pos 0) (other_cell cells cell n nowhere there)))

pub agree_high : (cells : List ℕ) (b : Box) (cell : ℕ) (k : ℤ) → ¬ Contains cells cell → BoxesAgree cells (with_high b cell k) b
agree_high cells b cell k nowhere =
    all_of (λ n. cell_ends (with_high b cell k) n ≡ cell_ends b n) cells
    (λ n there. ap (λ (z : ℤ). ends (low b n) z) (get_or-set_other b.highs cell n k (pos 0) (other_cell cells cell n nowhere there)))
