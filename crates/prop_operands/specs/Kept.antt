-- Operands as they are kept, and what is known of them over a box.
use Rattle.std.specs.Prelude.{◌≡◌, ℕ, ◌+◌, ◌<◌, ◌≤◌, List, length, map, get_or, All, Contains}
use Rattle.box_problem.specs.Box.{Box}
use Rattle.term_language.specs.Marks.{all_marks}
use Rattle.term_language.specs.Mentions.{mentions}
use Rattle.term_language.specs.Rules.{Near, intervals, mark, marks}
use Rattle.term_language.specs.Terms.{Term, Terms}
use Rattle.term_language.specs.declared.answers.Defined.{Defined}
use Rattle.term_language.specs.declared.answers.Defined.TheVariants.{Never}
use Rattle.term_math.specs.declared.ends.Ends.{Ends}
use Rattle.term_nodes.specs.Things.{term_at, terms_at}
use Rattle.term_program.specs.Mentions.{IsListOf}
use Rattle.term_program.specs.Programs.{root_in, things_in}
use Rattle.term_program.specs.declared.program.Program.{Program}
use Rattle.term_windows.specs.Windows.{spans}
use Rattle.prop_operands.specs.declared.operands.Operand.{Operand}
use Rattle.prop_operands.specs.declared.operands.Operands.{Operands}

-- the terms of several operands, by their numbers and as they are
abbrev pub operand_ids : List Operand → List ℕ
operand_ids list = map (λ (x : Operand). x.term.0) list

abbrev pub operand_terms : Program → List Operand → Terms
operand_terms program list = terms_at (things_in program) (operand_ids list)

abbrev pub operand_term : Program → Operand → Term
operand_term program x = term_at (things_in program) x.term.0

-- the term exists, and just the cells that it mentions are kept
pub record IsOperand (program : Program) (x : Operand) : Type 0 where
  pub exists : x.term.0 < length (things_in program)
  pub cells : IsListOf (mentions (root_in program) (operand_term program x)) x.cells.items

-- all are so, and there is room for an interval of each, twice
pub record AreOperands (program : Program) (o : Operands) : Type 0 where
  pub each : All (IsOperand program) o.list.items
  pub known : length o.known.items ≡ length o.list.items
  pub tried : length o.tried.items ≡ length o.list.items

-- the mark of all of them over a box
abbrev pub operands_mark : Program → List Operand → Box → Defined
operands_mark program list b = all_marks (marks Near (root_in program) b (operand_terms program list))

-- their intervals over a box, in which none of them is Never defined
pub record AreSeen (program : Program) (b : Box) (list : List Operand) (es : List Ends) : Type 0 where
  pub defined : ¬ operands_mark program list b ≡ Never
  pub spans : spans es ≡ intervals Near (root_in program) b (operand_terms program list)

-- an operand mentions a cell
abbrev pub MentionsCell : Program → ℕ → Operand → Type 0
MentionsCell program cell x = Contains (mentions (root_in program) (operand_term program x)) cell

abbrev pub MentionsThere : Program → List Operand → ℕ → ℕ → Type 0
MentionsThere program list cell place = (x : Operand) → MentionsCell program cell (get_or list place x)

-- no operand from one place on and before another one does
pub record NoneMentions (program : Program) (list : List Operand) (cell from to : ℕ) : Type 0 where
  pub each : (place : ℕ) (x : Operand) → from ≤ place → place < to → place < length list → ¬ MentionsCell program cell (get_or list place x)

-- the operand at a place does, and no other one
pub record IsOnly (program : Program) (list : List Operand) (cell place : ℕ) : Type 0 where
  pub exists : place < length list
  pub here : MentionsThere program list cell place
  pub before : NoneMentions program list cell 0 place
  pub after : NoneMentions program list cell (place + 1) (length list)
