-- The program of an accepted text, or why there is none.
use Rattle.std.proofs.Common.{◌≡◌, ◌⊎◌, inl, inr, Some, None, Result, Ok, Err, IfOk, IfErr, sym, subst}
use Rattle.sopl_base.specs.declared.fault.Excess.{Excess}
use Rattle.sopl_base.specs.declared.fault.Fault.{Fault}
use Rattle.sopl_base.specs.declared.fault.Fault.TheVariants as fault
use Rattle.sopl_ast.specs.Cells.{cells}
use Rattle.sopl_ast.specs.Instances.{Problem}
use Rattle.sopl_ast.specs.Unfolding.{problem_of}
use Rattle.sopl_ast.specs.Whole.{ModelTree}
use Rattle.compile_laws.specs.Root.{root_box}
use Rattle.compile_laws.specs.Whole.{problem_terms}
use Rattle.term_program.specs.Programs.{IsMade, problem_in, root_in}
use Rattle.term_program.specs.declared.program.Program.{Program}
use Rattle.compile_laws.specs.Texts.{program_excess}
use Rattle.answer_texts.specs.Models.{IsSolvable}
use Rattle.answer_texts.specs.Solving.{IsProgramOf, IsSolveFault}

-- what is compiled is the program of the problem
pub program_made : (problem : Problem) (result : Result Program Fault) → IfOk result IsMade → IfOk result (λ program. root_in program ≡ root_box (cells problem))
    → IfOk result (λ program. problem_in program ≡ problem_terms problem) → IfOk result (IsProgramOf problem)
program_made problem (Ok program) made root terms = record { made = made; root = root; terms = terms }
program_made problem (Err f) made root terms = tt

-- its text is solved
pub text_solvable : (model : ModelTree) (result : Result Program Fault) → IfOk result (λ program. program_excess (problem_of model) ≡ None) → IfOk result (λ program. IsSolvable model)
text_solvable model (Ok program) allowed = record { allowed = allowed }
text_solvable model (Err f) allowed = tt

-- or its terms pass a limit
pub terms_refused : (model : ModelTree) (result : Result Program Fault)
    → IfErr result (λ f. (f ≡ fault.NoMemory) ⊎ ((e : Excess) × (f ≡ fault.Limit e) × (program_excess (problem_of model) ≡ Some e)))
    → IfErr result (IsSolveFault model)
terms_refused model (Ok program) over = tt
terms_refused model (Err f) (inl memory) = subst (IsSolveFault model) (sym memory) tt
terms_refused model (Err f) (inr over) = subst (IsSolveFault model) (sym over.1) (record { passes = over.2 })
