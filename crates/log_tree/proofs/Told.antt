-- A line is that of what was read of it, or of nothing.
use Rattle.std.proofs.Common.{◌≡◌, ◌∙◌, ℕ, List, true, false, Option, Some, None, sym, ap}
use Rattle.std.specs.Str.{bytes_eq}
use Rattle.std.proofs.lemmas.Slice.Eq.{bytes_eq-Decides}
use Rattle.sopl_base.specs.declared.reason.Step.{Step}
use Rattle.log_rows.specs.declared.rows.EndLine.{EndLine}
use Rattle.log_rows.specs.declared.rows.Footer.{Footer}
use Rattle.log_rows.specs.Lines.{step_line, end_line, footer_line}
use Rattle.log_rows.specs.Ranges.{StepFits, EndFits, FooterFits}
use Rattle.log_tree.specs.declared.reading.Heading.{Heading}
use Rattle.log_tree.specs.Reading.{step_read, end_read, heading_read, footer_read}
use Rattle.log_tree.specs.LineOf.{IsLineOf, HeadingFits, heading_line}
use Rattle.log_tree.proofs.Rereading.{step_is, end_is, footer_is}
use Rattle.log_tree.proofs.OnlyReading.{heading_back}

-- for any kind of line whose reader gives back what is written
module _ {A : Type 0} (Fits : A → Type 0) (text : A → List ℕ) (read : List ℕ → Option A) (back : (x : A) → Fits x → read (text x) ≡ Some x) where
  unread : (line : List ℕ) → read line ≡ None → IsLineOf Fits text line None
  unread line nothing x fits is = let clash : Some x ≡ None = sym (back x fits) ∙ ap read is ∙ nothing in absurd (cc)

  same : (line : List ℕ) (x : A) → Fits x → bytes_eq (text x) line ≡ true → IsLineOf Fits text line (Some x)
  same line x fits equal = (fits, (bytes_eq-Decides (text x) line).0 equal)

  other : (line : List ℕ) (x : A) → read line ≡ Some x → bytes_eq (text x) line ≡ false → IsLineOf Fits text line None
  other line x found differ y fits is =
      let one : Some y ≡ Some x = sym (back y fits) ∙ ap read is ∙ found in
      let equal : bytes_eq (text x) line ≡ true = (bytes_eq-Decides (text x) line).1 (ap text (sym (inside one)) ∙ is) in
      let clash : true ≡ false = sym equal ∙ differ in absurd (cc)
    where
      inside : {a b : A} → Some a ≡ Some b → a ≡ b
      inside e = cc

pub step_none : (line : List ℕ) → None ≡ step_read line → IsLineOf StepFits step_line line None
step_none line nothing = unread StepFits step_line step_read step_is line (sym nothing)

pub step_told : (line : List ℕ) (x : Step) → StepFits x → true ≡ bytes_eq (step_line x) line → IsLineOf StepFits step_line line (Some x)
step_told line x fits equal = same StepFits step_line step_read step_is line x fits (sym equal)

pub step_other : (line : List ℕ) (x : Step) → Some x ≡ step_read line → false ≡ bytes_eq (step_line x) line → IsLineOf StepFits step_line line None
step_other line x found differ = other StepFits step_line step_read step_is line x (sym found) (sym differ)

pub end_none : (line : List ℕ) → None ≡ end_read line → IsLineOf EndFits end_line line None
end_none line nothing = unread EndFits end_line end_read end_is line (sym nothing)

pub end_told : (line : List ℕ) (x : EndLine) → EndFits x → true ≡ bytes_eq (end_line x) line → IsLineOf EndFits end_line line (Some x)
end_told line x fits equal = same EndFits end_line end_read end_is line x fits (sym equal)

pub end_other : (line : List ℕ) (x : EndLine) → Some x ≡ end_read line → false ≡ bytes_eq (end_line x) line → IsLineOf EndFits end_line line None
end_other line x found differ = other EndFits end_line end_read end_is line x (sym found) (sym differ)

pub footer_none : (line : List ℕ) → None ≡ footer_read line → IsLineOf FooterFits footer_line line None
footer_none line nothing = unread FooterFits footer_line footer_read footer_is line (sym nothing)

pub footer_told : (line : List ℕ) (x : Footer) → FooterFits x → true ≡ bytes_eq (footer_line x) line → IsLineOf FooterFits footer_line line (Some x)
footer_told line x fits equal = same FooterFits footer_line footer_read footer_is line x fits (sym equal)

pub footer_other : (line : List ℕ) (x : Footer) → Some x ≡ footer_read line → false ≡ bytes_eq (footer_line x) line → IsLineOf FooterFits footer_line line None
footer_other line x found differ = other FooterFits footer_line footer_read footer_is line x (sym found) (sym differ)

pub heading_none : (line : List ℕ) → None ≡ heading_read line → IsLineOf HeadingFits heading_line line None
heading_none line nothing = unread HeadingFits heading_line heading_read heading_back line (sym nothing)

pub heading_told : (line : List ℕ) (x : Heading) → HeadingFits x → true ≡ bytes_eq (heading_line x) line → IsLineOf HeadingFits heading_line line (Some x)
heading_told line x fits equal = same HeadingFits heading_line heading_read heading_back line x fits (sym equal)

pub heading_other : (line : List ℕ) (x : Heading) → Some x ≡ heading_read line → false ≡ bytes_eq (heading_line x) line → IsLineOf HeadingFits heading_line line None
heading_other line x found differ = other HeadingFits heading_line heading_read heading_back line x (sym found) (sym differ)
