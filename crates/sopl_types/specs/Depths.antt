-- Initial values whose expressions stand in a wrong number of brackets, told by how many brackets may follow.
use Rattle.std.specs.Prelude.{ℕ, zero, suc, Bool, false, nat_eq, nat_lt, List, [], ◌++◌, Option, None, Some}
use Rattle.sopl_base.specs.declared.fault.Refusal.{Refusal}
use Rattle.sopl_base.specs.declared.codes.TheConstants as codes
use Rattle.sopl_ast.specs.Tree.{place_of}
use Rattle.sopl_ast.specs.Whole.{InitTree, InitTrees, One, Many, no_init, init}
use Rattle.sopl_ast.specs.Mistakes.{mistake_unless}

-- no bracket may follow, and none is too many
abbrev pub is_full : Option ℕ → Bool
is_full None = false
is_full (Some left) = nat_eq left 0

-- a bracket may follow
abbrev pub has_room : Option ℕ → Bool
has_room None = false
has_room (Some left) = nat_lt 0 left

-- how many brackets may follow in one more bracket; none where there are too many
abbrev pub one_less : Option ℕ → Option ℕ
one_less None = None
one_less (Some zero) = None
one_less (Some (suc left)) = Some left

abbrev mutual
  -- what stands in a wrong number of brackets
  pub wrong_left : Option ℕ → InitTree → List Refusal
  wrong_left left (One e) = mistake_unless (is_full left) codes.DIMENSIONS (place_of e)
  wrong_left left (Many at no_init) = mistake_unless (has_room left) codes.DIMENSIONS at
  wrong_left left (Many at (init x xs)) = wrong_left (one_less left) x ++ wrong_left_parts (one_less left) xs

  pub wrong_left_parts : Option ℕ → InitTrees → List Refusal
  wrong_left_parts left no_init = []
  wrong_left_parts left (init x xs) = wrong_left left x ++ wrong_left_parts left xs
