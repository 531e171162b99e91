-- The cells that decide whether a hard constraint closes a box.
use Rattle.std.proofs.Common.{◌≡◌, ℕ, List, [], ◌∷◌, Option, Some, slice_get, subst, sym}
use Rattle.std.specs.Option.{option_and_then, option_map_or}
use Rattle.sopl_base.specs.declared.reason.Reason.TheVariants.{Hard}
use Rattle.term_language.specs.Mentions.{cond_mentions}
use Rattle.term_language.specs.Terms.{Cond}
use Rattle.term_program.specs.declared.program.Program.{Program}
use Rattle.term_program.specs.Mentions.{IsListOf}
use Rattle.term_program.specs.Programs.{problem_in, root_in}
use Rattle.term_program.specs.Stated.{box_problem_of}
use Rattle.prop_chance.specs.Deciding.{one_decided}
use Rattle.prop_core.specs.Watches.{LooksAt}
use Rattle.prop_shave.specs.Probes.{HasAll}

pub hard_decided : (program : Program) (instance scenario : ℕ) (cond : Cond) (cells list : List ℕ)
    → option_and_then (λ conditions. slice_get conditions scenario) (slice_get (problem_in program).hards instance) ≡ Some cond → IsListOf (cond_mentions (root_in program) cond) cells
    → list ≡ cells → LooksAt (box_problem_of program) (Hard instance scenario ∷ []) list
hard_decided program instance scenario cond cells list at listed is =
    subst (LooksAt (box_problem_of program) (Hard instance scenario ∷ [])) (sym is)
    (one_decided program (Hard instance scenario) cells
    (subst (λ (found : Option Cond). HasAll cells (option_map_or (cond_mentions (root_in program)) found [])) (sym at) (λ cell here. (listed.mentions cell).1 here)))
