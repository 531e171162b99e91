-- Marks of definedness, and truths.
use Rattle.std.specs.Prelude.{pos, int_lt, int_le, Bool, true, false, ◌&&◌, ◌||◌, List, [], ◌∷◌, if◌then◌else◌}
use Rattle.std.specs.Ordering.{int_eq}
use Rattle.sopl_base.specs.declared.comparison.CmpOp.{CmpOp}
use Rattle.sopl_base.specs.declared.comparison.CmpOp.TheVariants.{Eq, Ne, Lt, Le, Gt, Ge}
use Rattle.term_language.specs.declared.answers.Defined.{Defined}
use Rattle.term_language.specs.declared.answers.Defined.TheVariants.{Never, Maybe, Always}
use Rattle.term_language.specs.declared.answers.Truth.{Truth}
use Rattle.term_language.specs.declared.answers.Truth.TheVariants.{False, Unknown, True}
use Rattle.term_language.specs.Ends.{Ends, ends}

-- Never where one of two is, Always where both are, else Maybe
abbrev pub both : Defined → Defined → Defined
both Never other = Never
both Maybe Never = Never
both Maybe Maybe = Maybe
both Maybe Always = Maybe
both Always other = other

abbrev pub all_marks : List Defined → Defined
all_marks [] = Always
all_marks (mark ∷ later) = both mark (all_marks later)

abbrev pub is_always : Defined → Bool
is_always Always = true
is_always mark = false

-- `!`, `&&` and `||` of three values
abbrev pub opposite : Truth → Truth
opposite False = True
opposite Unknown = Unknown
opposite True = False

abbrev pub and_truth : Truth → Truth → Truth
and_truth False other = False
and_truth Unknown False = False
and_truth Unknown Unknown = Unknown
and_truth Unknown True = Unknown
and_truth True other = other

abbrev pub or_truth : Truth → Truth → Truth
or_truth True other = True
or_truth Unknown True = True
or_truth Unknown Unknown = Unknown
or_truth Unknown False = Unknown
or_truth False other = other

-- a truth as a number
abbrev pub truth_ends : Truth → Ends
truth_ends False = ends (pos 0) (pos 0)
truth_ends Unknown = ends (pos 0) (pos 1)
truth_ends True = ends (pos 1) (pos 1)

-- False where an operand is Never defined or the condition fails at every point; True where all operands are Always defined and it
-- holds at every point; else Unknown
abbrev pub judged : Defined → Bool → Bool → Truth
judged Never fails holds = False
judged Maybe fails holds = if fails then False else Unknown
judged Always fails holds = if fails then False else if holds then True else Unknown

-- no number of an interval, and each number of it, compares so with 0
abbrev pub none_compares : CmpOp → Ends → Bool
none_compares Eq a = int_lt (pos 0) a.low || int_lt a.high (pos 0)
none_compares Ne a = int_eq a.low (pos 0) && int_eq a.high (pos 0)
none_compares Lt a = int_le (pos 0) a.low
none_compares Le a = int_lt (pos 0) a.low
none_compares Gt a = int_le a.high (pos 0)
none_compares Ge a = int_lt a.high (pos 0)

abbrev pub all_compare : CmpOp → Ends → Bool
all_compare Eq a = none_compares Ne a
all_compare Ne a = none_compares Eq a
all_compare Lt a = none_compares Ge a
all_compare Le a = none_compares Gt a
all_compare Gt a = none_compares Le a
all_compare Ge a = none_compares Lt a

-- a comparison of an interval with 0
abbrev pub compared : CmpOp → Ends → Defined → Truth
compared op a mark = judged mark (none_compares op a) (all_compare op a)
