-- The root box of an accepted text's program: it has as many bits as the limit allows.
use Rattle.std.proofs.Common.{◌≡◌, sym, subst, ℕ, ◌≤◌, List}
use Rattle.sopl_ast.specs.Cells.{cells}
use Rattle.sopl_ast.specs.Limits.{usual_limits}
use Rattle.box_problem.specs.Box.{Box}
use Rattle.box_problem.specs.Bits.{bits_in}
use Rattle.compile_laws.specs.Root.{root_box}
use Rattle.term_program.specs.Stated.{box_problem_of}
use Rattle.term_program.specs.declared.program.Program.{Program}
use Rattle.scen_accept.specs.Stated.{States, model_in, problem_in}
use Rattle.scen_accept.specs.declared.accepted.AcceptedProblem.{AcceptedProblem}
use Rattle.compile_laws.proofs.Allowed.{root_has_few_bits}
use Rattle.answer_texts.specs.Solving.{IsProgramOf}

-- the box of the program's problem is that of the cells
root_is : (stated : AcceptedProblem) (program : Program) → IsProgramOf (problem_in stated) program → (box_problem_of program).root ≡ root_box (cells (problem_in stated))
unfolding box_problem_of
root_is stated program is = is.root

-- it has 1024 bits at most
pub root_few_bits : (text : List ℕ) (stated : AcceptedProblem) (program : Program) → States text stated → IsProgramOf (problem_in stated) program → bits_in (box_problem_of program).root ≤ usual_limits.bits
root_few_bits text stated program states is =
    subst (λ (b : Box). bits_in b ≤ usual_limits.bits) (sym (root_is stated program is)) (root_has_few_bits usual_limits (model_in stated) (problem_in stated) states.accepted)
