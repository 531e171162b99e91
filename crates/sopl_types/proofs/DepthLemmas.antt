-- What stands in a wrong number of brackets, told by how many brackets there are and by how many may follow.
use Rattle.std.proofs.Common.{◌≡◌, refl, sym, ap, ◌∙◌, false, true≢false, ◌||◌, ℕ, zero, suc, ◌+◌, ◌-◌, ◌<◌, ◌≤◌, nat_eq, nat_le, List, [], ◌∷◌, ◌++◌, map, length, get_or, drop}
use Rattle.std.proofs.Common.{Option, None, Some, rules, arith}
use Rattle.std.proofs.lemmas.Grind.{common_steps}
use Rattle.std.proofs.lemmas.List.{at_drop_more, at_drop_all}
use Rattle.sopl_base.specs.declared.fault.Refusal.{Refusal}
use Rattle.sopl_base.specs.declared.codes.TheConstants as codes
use Rattle.sopl_ast.specs.declared.inits.Init.{Init}
use Rattle.sopl_ast.specs.Inits.{init_tree}
use Rattle.sopl_ast.specs.Tree.{place_of}
use Rattle.sopl_ast.specs.Mistakes.{mistake_unless, first_of, wrong_depths, wrong_parts}
use Rattle.sopl_ast.specs.Whole.{InitTree, InitTrees, One, Many, no_init, init, inits}
use Rattle.sopl_types.specs.Depths.{is_full, has_room, one_less, wrong_left, wrong_left_parts}
use Rattle.sopl_types.specs.Earliest.{earliest}

-- in so many brackets so many more may follow
abbrev IsLeft : ℕ → ℕ → Option ℕ → Type 0
IsLeft dims depth None = dims < depth
IsLeft dims depth (Some left) = left + depth ≡ dims

full_right : (dims depth : ℕ) (left : Option ℕ) → 0 < depth → IsLeft dims depth left → is_full left ≡ (nat_eq depth 0 || nat_eq depth dims)
full_right dims depth None inside h = grind (arith, common_steps)
full_right dims depth (Some left) inside h = grind (arith, common_steps)

room_right : (dims depth : ℕ) (left : Option ℕ) → IsLeft dims depth left → has_room left ≡ nat_le (depth + 1) dims
room_right dims depth None h = grind (arith, common_steps)
room_right dims depth (Some left) h = grind (arith, common_steps)

less_right : (dims depth : ℕ) (left : Option ℕ) → IsLeft dims depth left → IsLeft dims (depth + 1) (one_less left)
less_right dims depth None h = omega arith
less_right dims depth (Some zero) h = omega arith
less_right dims depth (Some (suc left)) h = omega arith

mutual
  left_right : (dims depth : ℕ) (left : Option ℕ) → 0 < depth → IsLeft dims depth left → (x : InitTree) → wrong_left left x ≡ wrong_depths dims depth x
  left_right dims depth left inside h (One e) = ap (λ b. mistake_unless b codes.DIMENSIONS (place_of e)) (full_right dims depth left inside h)
  left_right dims depth left inside h (Many at xs) = many_right dims depth left h at xs

  many_right : (dims depth : ℕ) (left : Option ℕ) → IsLeft dims depth left → (at : ℕ) (xs : InitTrees) → wrong_left left (Many at xs) ≡ wrong_depths dims depth (Many at xs)
  many_right dims depth left h at no_init = ap (λ b. mistake_unless b codes.DIMENSIONS at) (room_right dims depth left h)
  many_right dims depth left h at (init x xs) =
      let less = less_right dims depth left h in
      (λ i. left_right dims (depth + 1) (one_less left) (omega arith) less x i ++ parts_right dims (depth + 1) (one_less left) (omega arith) less xs i)

  parts_right : (dims depth : ℕ) (left : Option ℕ) → 0 < depth → IsLeft dims depth left → (xs : InitTrees) → wrong_left_parts left xs ≡ wrong_parts dims depth xs
  parts_right dims depth left inside h no_init = refl
  parts_right dims depth left inside h (init x xs) = λ i. left_right dims depth left inside h x i ++ parts_right dims depth left inside h xs i

-- a bracket that stands in no other
pub depth_at_top : (dims at : ℕ) (xs : InitTrees) → wrong_left (Some dims) (Many at xs) ≡ wrong_depths dims 0 (Many at xs)
depth_at_top dims at xs = many_right dims 0 (Some dims) (omega arith) at xs

-- one bracket less
pub less_one : (left : ℕ) → 0 < left → one_less (Some left) ≡ Some (left - 1)
less_one zero h = absurd (omega arith)
less_one (suc left) h = ap Some (omega arith)

-- a bracket with nothing in it
pub empty_many : (left : Option ℕ) (at : ℕ) (xs : List InitTree) → length xs ≡ 0 → wrong_left left (Many at (inits xs)) ≡ mistake_unless (has_room left) codes.DIMENSIONS at
empty_many left at [] h = refl
empty_many left at (x ∷ xs) h = absurd (omega arith)

-- a bracket with something in it
pub full_many : (left : Option ℕ) (at : ℕ) (xs : List InitTree) → 0 < length xs → wrong_left left (Many at (inits xs)) ≡ wrong_left_parts (one_less left) (inits xs)
full_many left at [] h = absurd (omega arith)
full_many left at (x ∷ xs) h = refl

pub some_there : (xs : List Init) → nat_eq (length xs) 0 ≡ false → 0 < length (map init_tree xs)
some_there [] h = absurd (true≢false h)
some_there (x ∷ xs) h = omega arith

found_first : (ms ns : List Refusal) (r : Refusal) → earliest (first_of ms) ≡ Some r → earliest (first_of (ms ++ ns)) ≡ Some r
found_first [] ns r h = absurd (search rules)
found_first (m ∷ ms) ns r h = h

found_later : (ms ns : List Refusal) → earliest (first_of ms) ≡ None → earliest (first_of (ms ++ ns)) ≡ earliest (first_of ns)
found_later [] ns h = refl
found_later (m ∷ ms) ns h = absurd (search rules)

module _ (left : Option ℕ) (xs : List Init) (i : ℕ) where
  -- the next part is the first
  pub depth_found : (x : Init) (r : Refusal) → i < length xs → x ≡ get_or xs i x → earliest (first_of (wrong_left left (init_tree x))) ≡ Some r →
      earliest (first_of (wrong_left_parts left (inits (map init_tree (drop i xs))))) ≡ Some r
  depth_found x r below at h =
      let F : List Init → Option Refusal = λ ys. earliest (first_of (wrong_left_parts left (inits (map init_tree ys)))) in
      at_drop_more F xs i x below ∙ ap (λ y. F (y ∷ drop (i + 1) xs)) (sym at)
      ∙ found_first (wrong_left left (init_tree x)) (wrong_left_parts left (inits (map init_tree (drop (i + 1) xs)))) r h

  -- the next part is right
  pub depth_later : (x : Init) → i < length xs → x ≡ get_or xs i x → earliest (first_of (wrong_left left (init_tree x))) ≡ None →
      earliest (first_of (wrong_left_parts left (inits (map init_tree (drop (i + 1) xs)))))
      ≡ earliest (first_of (wrong_left_parts left (inits (map init_tree (drop i xs)))))
  depth_later x below at h =
      let F : List Init → Option Refusal = λ ys. earliest (first_of (wrong_left_parts left (inits (map init_tree ys)))) in
      sym (at_drop_more F xs i x below ∙ ap (λ y. F (y ∷ drop (i + 1) xs)) (sym at)
      ∙ found_later (wrong_left left (init_tree x)) (wrong_left_parts left (inits (map init_tree (drop (i + 1) xs)))) h)

  pub depth_end : length xs ≤ i → earliest (first_of (wrong_left_parts left (inits (map init_tree (drop i xs))))) ≡ None
  depth_end past = at_drop_all (λ ys. earliest (first_of (wrong_left_parts left (inits (map init_tree ys))))) xs i past

pub ruleset depths = (empty_many, full_many, depth_found, depth_later, depth_end)
