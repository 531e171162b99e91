-- Elements and index sets as they are kept, and sets whose numbers ascend.
use Rattle.std.specs.Prelude.{ℕ, ℤ, ◌<ℤ◌, int_lt, Bool, true, ◌&&◌, List, [], ◌∷◌, map, Vec}
use Rattle.std.specs.List.{list_all}
use Rattle.std.specs.List.Sorted.{IsPartitionPoint}
use Rattle.std.specs.declared.alloc.Global.{Global}
use Rattle.term_language.specs.Terms as rule
use Rattle.term_math.specs.declared.elements.Element.{Element}
use Rattle.term_math.specs.declared.elements.Element.TheVariants.{Fixed, Free}

abbrev pub item_of : Element → rule.Item
item_of (Fixed z) = rule.Fixed z
item_of (Free cell) = rule.Free cell

abbrev pub items_of : List Element → List rule.Item
items_of elements = map item_of elements

abbrev pub sets_of : List (Vec ℤ Global) → List (List ℤ)
sets_of sets = map (λ (set : Vec ℤ Global). set.items) sets

-- a number is less than the first one of a set, if it has one; each number of a set is less than the next
abbrev pub precedes : ℤ → List ℤ → Bool
precedes number [] = true
precedes number (next ∷ set) = int_lt number next

abbrev pub ascends : List ℤ → Bool
ascends [] = true
ascends (number ∷ set) = precedes number set && ascends set

abbrev pub all_ascend : List (Vec ℤ Global) → Bool
all_ascend sets = list_all (λ (set : Vec ℤ Global). ascends set.items) sets

-- up to a place each number of a set is less than this one, and from there on greater
abbrev pub IsGap : ℤ → List ℤ → ℕ → Type 0
IsGap number set place = IsPartitionPoint (λ here. here <ℤ number) (λ here. number <ℤ here) set place
