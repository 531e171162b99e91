-- What a function that walks through a part of a text counts and answers.
use Rattle.std.specs.Prelude.{◌≡◌, ◌⊎◌, ℕ, List, Result, Ok, Err}
use Rattle.sopl_base.specs.declared.fault.Fault.{Fault}
use Rattle.sopl_base.specs.declared.fault.Fault.TheVariants.{NoMemory}
use Rattle.sopl_ast.specs.UnfoldEvents.{UnfoldEvent, first_failure}

-- so many things were counted before and so many behind these; or the way ends as it does there, or where memory runs out
abbrev pub Walks : {T : Type 0} → ℕ → ℕ → List UnfoldEvent → Result T Fault → Type 0
Walks before behind events (Ok x) = first_failure before events ≡ Ok behind
Walks before behind events (Err fault) = (fault ≡ NoMemory) ⊎ (first_failure before events ≡ Err fault)
