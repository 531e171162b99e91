-- Levels, one node after the other.
use Rattle.std.proofs.Common.{◌≡◌, ◌+◌, ◌<◌, ◌++◌, ℕ, ℤ, List, [], ◌∷◌, length, map, drop, get_or, append_assoc, sym, ap, subst, ◌∙◌}
use Rattle.std.proofs.lemmas.List.{at_drop_more}
use Rattle.std.specs.List.{AllByRecursion}
use Rattle.sopl_ast.specs.Instances.{Outcome}
use Rattle.unfold_variables.specs.Pairs.{outcome_in}
use Rattle.sopl_scen.specs.declared.nodes.Node.{Node}
use Rattle.sopl_scen.specs.Levels.{IsLight, child_of, children}

-- parts of a list
all_left : (P : Node → Type 0) (xs ys : List Node) → AllByRecursion P (xs ++ ys) → AllByRecursion P xs
all_left P [] ys all = tt
all_left P (x ∷ xs) ys all = (all.0, all_left P xs ys all.1)

all_right : (P : Node → Type 0) (xs ys : List Node) → AllByRecursion P (xs ++ ys) → AllByRecursion P ys
all_right P [] ys all = all
all_right P (x ∷ xs) ys all = all_right P xs ys all.1

-- what is made and what is left to be made
pub record IsMade (whole made left : List Node) : Type 0 where
  pub so_far : made ++ left ≡ whole
  pub light : AllByRecursion IsLight left

made_part : (whole made part left : List Node) → IsMade whole made (part ++ left) → IsMade whole (made ++ part) left
made_part whole made part left m =
    record { so_far = append_assoc made part left ∙ m.so_far; light = all_right IsLight part left m.light }

-- The children of one node.

-- what is left to be made of the children of a node
abbrev pub children_left : ℕ → Node → List (ℤ × ℤ) → List Node
children_left parent above pairs = map (child_of parent above) (map outcome_in pairs)

-- The children of a level.

level_next : (above : List Node) (outcomes : List Outcome) (i : ℕ) (node : Node) → i < length above → node ≡ get_or above i node
    → children i (drop i above) outcomes ≡ map (child_of i node) outcomes ++ children (i + 1) (drop (i + 1) above) outcomes
level_next above outcomes i node within is =
    at_drop_more (λ list. children i list outcomes) above i node within
    ∙ ap (λ n. map (child_of i n) outcomes ++ children (i + 1) (drop (i + 1) above) outcomes) (sym is)

pub part_light : (whole made above : List Node) (outcomes : List Outcome) (i : ℕ) (node : Node) → i < length above → node ≡ get_or above i node
    → IsMade whole made (children i (drop i above) outcomes) → AllByRecursion IsLight (map (child_of i node) outcomes)
part_light whole made above outcomes i node within is m =
    all_left IsLight (map (child_of i node) outcomes) (children (i + 1) (drop (i + 1) above) outcomes)
    (subst (AllByRecursion IsLight) (level_next above outcomes i node within is) m.light)

pub part_made : (whole made now above : List Node) (outcomes : List Outcome) (i : ℕ) (node : Node) → i < length above → node ≡ get_or above i node
    → now ≡ made ++ map (child_of i node) outcomes
    → IsMade whole made (children i (drop i above) outcomes) → IsMade whole now (children (i + 1) (drop (i + 1) above) outcomes)
part_made whole made now above outcomes i node within is next m =
    subst (λ list. IsMade whole list (children (i + 1) (drop (i + 1) above) outcomes)) (sym next)
    (made_part whole made (map (child_of i node) outcomes) (children (i + 1) (drop (i + 1) above) outcomes)
    (subst (IsMade whole made) (level_next above outcomes i node within is) m))
