-- What a refusal of a model says.
use Rattle.sopl_base.specs.declared.fault.Fault.{Fault}
use Rattle.sopl_base.specs.declared.fault.Fault.TheVariants.{Text, Limit, NoMemory}
use Rattle.sopl_ast.specs.Whole.{ModelTree}
use Rattle.sopl_ast.specs.Mistakes.{IsFirstMistake}

-- a refusal of the text is the model's first mistake, no limit is broken, and out of memory says nothing of the model
abbrev pub IsFirstFault : ModelTree → Fault → Type 0
IsFirstFault model (Text refusal) = IsFirstMistake model refusal
IsFirstFault model (Limit excess) = ⊥
IsFirstFault model NoMemory = Unit {0}
