-- What is known of a term that folds to a number where its operands are numbers, and is an atom else.
use Rattle.std.specs.Prelude.{ℕ, pos, unsigned_abs, Bool, map, Some, if◌then◌else◌}
use Rattle.term_language.specs.Ends.{Ends, exactly, hull_of, cell_ends}
use Rattle.box_problem.specs.Box.{Box}
use Rattle.term_language.specs.Terms.{Item, Fixed, Free, Table, Term, Terms, Constant, Cell, Element}
use Rattle.term_language.specs.Rules.{Wide, folded, unless_folded, item_form, item_ends, mark}
use Rattle.term_language.specs.Sizes.{alone_weight, weight_of}
use Rattle.term_language.specs.declared.answers.Defined.{Defined}
use Rattle.term_language.specs.declared.answers.Truth.TheVariants.{True}
use Rattle.term_nodes.specs.Built.{Facts}
use Rattle.term_nodes.specs.Seen.{Sight}

-- where it folds, its interval has that number alone
abbrev pub of_folded : Bool → Defined → Sight → Facts
of_folded folds near seen = record {
  form = folded folds seen.ends.high;
  mark = near;
  wide_mark = seen.mark;
  wide = unless_folded folds seen.ends;
  weight = alone_weight (folded folds seen.ends.high) (unless_folded folds seen.ends);
  truth = True;
}

abbrev pub size_of_folded : Bool → Ends → ℕ
size_of_folded folds a = if folds then unsigned_abs a.high else weight_of a

-- what is known of the element at an index of an array, and how large it is
abbrev pub of_item : Item → Defined → Defined → Facts
of_item item near far = record {
  form = item_form (Some item);
  mark = near;
  wide_mark = far;
  wide = exactly (pos 0);
  weight = 0;
  truth = True;
}

abbrev pub size_of_item : Box → Item → ℕ
size_of_item root (Fixed z) = unsigned_abs z
size_of_item root (Free cell) = weight_of (cell_ends root cell)

-- a number or a cell as a term
abbrev pub leaf_of : Item → Term
leaf_of (Fixed z) = Constant z
leaf_of (Free cell) = Cell cell

-- an element over the root box by the wide reading, whichever it is
abbrev pub any_element : Box → Table → Terms → Sight
any_element root table indices = record {
  ends = hull_of (map (item_ends root) table.items);
  mark = mark Wide root root (Element table indices);
}
