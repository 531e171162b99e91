-- What is printed of a search in short.
use Rattle.std.proofs.Common.{◌≡◌, ◌∙◌, ℕ, ℤ, pos, List, Some, None}
use Rattle.sopl_ast.specs.Instances.{Problem}
use Rattle.sopl_scen.specs.Layout.{Layout, IsTreeOf, count_in}
use Rattle.term_problem.specs.Problems.{denominator_in}
use Rattle.term_program.specs.Programs.{problem_in as terms_in}
use Rattle.term_program.specs.declared.program.Program.{Program}
use Rattle.answer_lines.specs.AnswerData.{fraction, line_of, summary_data, summary_object, valued_summary_object}
use Rattle.answer_texts.specs.Solving.{IsProgramOf}
use Rattle.answer_texts.proofs.Printing.{same_denominator}

module _ (problem : Problem) (tree : Layout) (laid : IsTreeOf problem.decisions problem.stochastics tree) (cells count : ℕ) (celled : cells ≡ tree.cells)
    (counted : count ≡ count_in tree) (outcome line : List ℕ) where
  -- of one that found nothing
  pub summary_printed : line ≡ line_of (summary_object (pos cells) outcome (pos count)) → line ≡ line_of (summary_data problem outcome None)
  summary_printed written = written ∙ (λ i. line_of (summary_object (pos ((celled ∙ laid.celled) i)) outcome (pos ((counted ∙ laid.count) i))))

  -- and of one that found a policy of this value
  pub valued_printed : (program : Program) → IsProgramOf problem program → (over value : ℤ) → over ≡ denominator_in (terms_in program)
      → line ≡ line_of (valued_summary_object (pos cells) outcome (pos count) (fraction value over)) → line ≡ line_of (summary_data problem outcome (Some value))
  valued_printed program is over value told written =
      written ∙ (λ i. line_of (valued_summary_object (pos ((celled ∙ laid.celled) i)) outcome (pos ((counted ∙ laid.count) i))
      (fraction value ((told ∙ same_denominator problem program is) i))))
