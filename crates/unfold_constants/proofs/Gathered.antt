-- Values that are gathered one behind the other, where each of them may be nothing.
use Rattle.std.proofs.Common.{◌≡◌, refl, sym, ap, subst, ◌∙◌, ℤ, pos, ◌+ℤ◌, T, is_some, List, [], ◌∷◌, ◌++◌, Option, Some, None, option_map, option_and_then}
use Rattle.std.proofs.Math.IntN.{+ℤ_assoc, +ℤ_idl, +ℤ_comm}
use Rattle.std.proofs.lemmas.List.{append_assoc}
use Rattle.sopl_ast.specs.Numbers.{both_of, all_of, joined, task_of}
use Rattle.unfold_tables.specs.Tables.{tasks_of}

-- two lists, one behind the other, where both are there
abbrev pub chained : {A : Type 0} → Option (List A) → Option (List A) → Option (List A)
chained v w = both_of (λ xs ys. xs ++ ys) v w

-- what is found for each of some places
abbrev pub gathered : {A B : Type 0} → (A → Option (List B)) → Option (List A) → Option (List B)
gathered result v = option_and_then (λ heres. option_map joined (all_of result heres)) v

-- three numbers, where each is there
abbrev pub three : Option ℤ → Option ℤ → Option ℤ → Option (List ℤ)
three x y z = option_and_then (λ s. both_of (λ l d. s ∷ l ∷ d ∷ []) y z) x

pub nothing_before : {A : Type 0} (v : Option (List A)) → option_map (λ xs. [] ++ xs) v ≡ v
nothing_before None = refl
nothing_before (Some xs) = refl

pub nothing_behind : (z : ℤ) → Some (z +ℤ pos 0) ≡ Some z
nothing_behind z = ap Some (+ℤ_comm z (pos 0) ∙ +ℤ_idl z)

-- one number more behind what was found
pub more_found : (found : List ℤ) (x : ℤ) (v : Option (List ℤ))
    → option_map (λ xs. (found ++ x ∷ []) ++ xs) v ≡ option_map (λ xs. found ++ xs) (option_map (λ xs. x ∷ xs) v)
more_found found x None = refl
more_found found x (Some xs) = ap Some (append_assoc found (x ∷ []) xs)

-- one part more of a sum
pub more_added : (before x : ℤ) (v : Option ℤ) → option_map (λ s. (before +ℤ x) +ℤ s) v ≡ option_map (λ s. before +ℤ s) (option_map (λ s. x +ℤ s) v)
more_added before x None = refl
more_added before x (Some s) = ap Some (+ℤ_assoc before x s)

no_second : {A B C : Type 0} (f : A → B → C) (v : Option A) → both_of f v None ≡ None
no_second f None = refl
no_second f (Some x) = refl

-- lists of lists
joined_both : {A : Type 0} (v : Option (List A)) (vs : Option (List (List A)))
    → option_map joined (both_of (λ x xs. x ∷ xs) v vs) ≡ chained v (option_map joined vs)
joined_both None vs = refl
joined_both (Some x) None = refl
joined_both (Some x) (Some xs) = refl

chained_assoc : {A : Type 0} (u v w : Option (List A)) → chained (chained u v) w ≡ chained u (chained v w)
chained_assoc None v w = refl
chained_assoc (Some x) None w = refl
chained_assoc (Some x) (Some y) None = refl
chained_assoc (Some x) (Some y) (Some z) = ap Some (append_assoc x y z)

gathered_two : {A B : Type 0} (result : A → Option (List B)) (xs ys : List A)
    → chained (option_map joined (all_of result xs)) (option_map joined (all_of result ys)) ≡ option_map joined (all_of result (xs ++ ys))
gathered_two result [] ys = nothing_before (option_map joined (all_of result ys))
gathered_two result (x ∷ xs) ys =
    ap (λ v. chained v (option_map joined (all_of result ys))) (joined_both (result x) (all_of result xs))
    ∙ chained_assoc (result x) (option_map joined (all_of result xs)) (option_map joined (all_of result ys))
    ∙ ap (chained (result x)) (gathered_two result xs ys)
    ∙ sym (joined_both (result x) (all_of result (xs ++ ys)))

gathered_both : {A B : Type 0} (result : A → Option (List B)) (v w : Option (List A)) → chained (gathered result v) (gathered result w) ≡ gathered result (chained v w)
gathered_both result None w = refl
gathered_both result (Some xs) None = no_second (λ a b. a ++ b) (option_map joined (all_of result xs))
gathered_both result (Some xs) (Some ys) = gathered_two result xs ys

-- what is found for the places that each number gives
pub gathered_all : {A B C : Type 0} (result : A → Option (List B)) (f : C → Option (List A)) (ns : List C)
    → option_map joined (all_of (λ n. gathered result (f n)) ns) ≡ gathered result (option_map joined (all_of f ns))
gathered_all result f [] = refl
gathered_all result f (n ∷ ns) =
    joined_both (gathered result (f n)) (all_of (λ m. gathered result (f m)) ns)
    ∙ ap (chained (gathered result (f n))) (gathered_all result f ns)
    ∙ gathered_both result (f n) (option_map joined (all_of f ns))
    ∙ ap (gathered result) (sym (joined_both (f n) (all_of f ns)))

-- what is found for one number more
pub more_gathered : (found xs : List ℤ) (v : Option (List ℤ)) (vs : Option (List (List ℤ))) → option_map (λ ys. found ++ ys) v ≡ Some xs
    → option_map (λ ys. xs ++ ys) (option_map joined vs) ≡ option_map (λ ys. found ++ ys) (option_map joined (both_of (λ y ys. y ∷ ys) v vs))
more_gathered found xs None vs is = absurd (subst (λ o. T (is_some o)) (sym is) tt)
more_gathered found xs (Some ys) None is = refl
more_gathered found xs (Some ys) (Some yss) is =
    ap (option_map (λ zs. zs ++ joined yss)) (sym is) ∙ ap Some (append_assoc found ys (joined yss))

one_more : {A : Type 0} (v : Option A) (vs : Option (List A)) → chained (option_map (λ x. x ∷ []) v) vs ≡ both_of (λ x xs. x ∷ xs) v vs
one_more None vs = refl
one_more (Some x) None = refl
one_more (Some x) (Some xs) = refl

-- one number at each place
pub one_each : {A : Type 0} (f : A → Option ℤ) (v : Option (List A)) → gathered (λ here. option_map (λ x. x ∷ []) (f here)) v ≡ option_and_then (all_of f) v
one_each f None = refl
one_each {A} f (Some heres) = each heres
  where
    each : (hs : List A) → option_map joined (all_of (λ here. option_map (λ x. x ∷ []) (f here)) hs) ≡ all_of f hs
    each [] = refl
    each (h ∷ hs) =
        joined_both (option_map (λ x. x ∷ []) (f h)) (all_of (λ here. option_map (λ x. x ∷ []) (f here)) hs)
        ∙ ap (chained (option_map (λ x. x ∷ []) (f h))) (each hs)
        ∙ one_more (f h) (all_of f hs)

task_more : (x y z : Option ℤ) (v : Option (List ℤ)) → option_map tasks_of (chained (three x y z) v) ≡ both_of (λ task tasks. task ∷ tasks) (task_of x y z) (option_map tasks_of v)
task_more None y z v = refl
task_more (Some x) None z v = refl
task_more (Some x) (Some y) None v = refl
task_more (Some x) (Some y) (Some z) None = refl
task_more (Some x) (Some y) (Some z) (Some ns) = refl

-- a task at each place
pub task_each : {A : Type 0} (a b c : A → Option ℤ) (v : Option (List A))
    → option_map tasks_of (gathered (λ here. three (a here) (b here) (c here)) v) ≡ option_and_then (all_of (λ here. task_of (a here) (b here) (c here))) v
task_each a b c None = refl
task_each {A} a b c (Some heres) = each heres
  where
    each : (hs : List A)
        → option_map tasks_of (option_map joined (all_of (λ here. three (a here) (b here) (c here)) hs)) ≡ all_of (λ here. task_of (a here) (b here) (c here)) hs
    each [] = refl
    each (h ∷ hs) =
        ap (option_map tasks_of) (joined_both (three (a h) (b h) (c h)) (all_of (λ here. three (a here) (b here) (c here)) hs))
        ∙ task_more (a h) (b h) (c h) (option_map joined (all_of (λ here. three (a here) (b here) (c here)) hs))
        ∙ ap (both_of (λ task tasks. task ∷ tasks) (task_of (a h) (b h) (c h))) (each hs)

-- three numbers more, one by one
pub three_more : (found : List ℤ) (x y z : ℤ) → found ++ x ∷ y ∷ z ∷ [] ≡ ((found ++ x ∷ []) ++ y ∷ []) ++ z ∷ []
three_more found x y z =
    sym (append_assoc found (x ∷ []) (y ∷ z ∷ [])) ∙ sym (append_assoc (found ++ x ∷ []) (y ∷ []) (z ∷ []))
