-- A box that goes back along its marks.
use Rattle.std.proofs.Common.{◌≡◌, ℕ, ◌+◌, List, [], ◌∷◌, ◌++◌, length, map, reverse, ap, ◌∙◌, arith}
use Rattle.std.proofs.lemmas.List.{reverse-append, length-append}
use Rattle.box_problem.specs.Box.{Box}
use Rattle.box_store.specs.Store.{IsUndone, Mark, Store}
use Rattle.open_nodes.specs.Walks.{marked}

abbrev behind : List Box → List Box
behind [] = []
behind (b ∷ boxes) = boxes

pub reverse_last : {X : Type 0} (xs : List X) (x : X) → reverse (xs ++ x ∷ []) ≡ x ∷ reverse xs
reverse_last xs x = reverse-append xs (x ∷ [])

-- the newest mark is taken away
pub popped : (root : Box) (f : ℕ → Box) (here : List ℕ) (last : ℕ) (marks : List Mark) (after : Store) → IsUndone marks after
    → marked marks ≡ map f (reverse (here ++ last ∷ [])) ++ root ∷ [] → marked after.marks ≡ map f (reverse here) ++ root ∷ []
popped root f here last [] after undone is = absurd undone
popped root f here last (mark ∷ marks) after undone is =
    ap marked undone.marks
    ∙ ap behind (is ∙ ap (λ (ns : List ℕ). map f ns ++ root ∷ []) (reverse_last here last))

pub fewer : (here : List ℕ) (last : ℕ) (marks : List Mark) (after : Store) → IsUndone marks after → length marks ≡ length (here ++ last ∷ []) + 1
    → length after.marks ≡ length here + 1
fewer here last [] after undone is = absurd undone
fewer here last (mark ∷ marks) after undone is =
    ap length undone.marks ∙ omega (arith, is, length-append here (last ∷ []))
