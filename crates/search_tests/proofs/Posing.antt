-- A text's program may be searched: its root box has few bits.
use Rattle.std.proofs.Common.{◌≡◌, ◌≤◌, ℕ, List, Result, Ok, Err, IfOk, subst, sym}
use Rattle.sopl_base.specs.declared.fault.Fault.{Fault}
use Rattle.sopl_ast.specs.Cells.{cells}
use Rattle.sopl_ast.specs.Limits.{usual_limits}
use Rattle.box_problem.specs.Bits.{bits_in}
use Rattle.box_problem.specs.Box.{Box}
use Rattle.compile_laws.specs.Root.{root_box}
use Rattle.compile_laws.proofs.Allowed.{root_has_few_bits}
use Rattle.scen_accept.specs.Stated.{States, model_in, problem_in}
use Rattle.scen_accept.specs.declared.accepted.AcceptedProblem.{AcceptedProblem}
use Rattle.sopl_search.specs.Ends.{IsPosed}
use Rattle.term_program.proofs.Lawful.{lawful_of, root_near}
use Rattle.term_program.specs.Programs.{IsMade, root_in}
use Rattle.term_program.specs.Stated.{box_problem_of}
use Rattle.term_program.specs.declared.program.Program.{Program}

root_is : (program : Program) (b : Box) → root_in program ≡ b → (box_problem_of program).root ≡ b
unfolding box_problem_of
root_is program b is = is

pub few_bits : (text : List ℕ) (stated : AcceptedProblem) (compiled : Result Program Fault) → States text stated → IfOk compiled (λ program. root_in program ≡ root_box (cells (problem_in stated)))
    → IfOk compiled (λ program. bits_in (box_problem_of program).root ≤ 1024)
few_bits text stated (Ok program) states is =
    subst (λ (b : Box). bits_in b ≤ 1024) (sym (root_is program (root_box (cells (problem_in stated))) is)) (root_has_few_bits usual_limits (model_in stated) (problem_in stated) states.accepted)
few_bits text stated (Err fault) states is = tt

pub posed_of : (program : Program) → IsMade program → bits_in (box_problem_of program).root ≤ 1024 → IsPosed (box_problem_of program)
posed_of program made bits = record { lawful = lawful_of program made; near = root_near program made; few_bits = bits }
