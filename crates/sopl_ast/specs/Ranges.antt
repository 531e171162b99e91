-- What contracts see of a range.
use Rattle.sopl_ast.specs.Tree.{Range, Named, Ends}
use Rattle.sopl_ast.specs.declared.binders.RangeText.{RangeText}
use Rattle.sopl_ast.specs.declared.binders.RangeText.TheVariants as text

-- a range by its name, or by its two ends
abbrev pub range_of : RangeText → Range
range_of (text.Named name at) = Named name at
range_of (text.Ends lo hi) = Ends lo hi
