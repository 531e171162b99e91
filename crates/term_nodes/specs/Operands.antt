-- Left operands: the first factor of a product, and the number that something is made of. A chain of these is as long as its text.
use Rattle.std.specs.Prelude.{ℕ, zero, suc, Option, Some, None}
use Rattle.term_language.specs.Terms.{Term, Product, Made}
use Rattle.term_nodes.specs.declared.nodes.Node.{Node}
use Rattle.term_nodes.specs.declared.nodes.Node.TheVariants as node

-- the number of a node's left operand
abbrev pub left_in : Node → Option ℕ
left_in (node.Product a b) = Some a
left_in (node.Operation op a) = Some a
left_in other = None

-- a term's left operand; a term that has none stands for itself
abbrev pub left_operand : Term → Term
left_operand (Product a b) = a
left_operand (Made op a) = a
left_operand t = t

-- what is reached by so many steps, each to the left operand
abbrev pub steps_down : ℕ → Term → Term
steps_down zero t = t
steps_down (suc n) t = left_operand (steps_down n t)
