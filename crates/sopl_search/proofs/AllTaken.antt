-- Nodes that are taken one after another.
use Rattle.std.proofs.Common.{◌≡◌, inl, inr, ℕ, ◌+◌, ◌<◌, List, [], ◌∷◌, ◌++◌, length, IsPermutation, sym, ap, subst, ◌∙◌, append_assoc, arith}
use Rattle.std.proofs.lemmas.List.{append-nil, length-append, length-map, length-set}
use Rattle.std.proofs.lemmas.List.Sorted.{IsPermutation-append_right, IsPermutation-middle, IsPermutation-trans}
use Rattle.open_nodes.specs.declared.seats.OpenNode.{OpenNode}
use Rattle.open_nodes.specs.declared.seats.Seat.{Seat}
use Rattle.open_nodes.specs.declared.seats.Seats.{Seats}
use Rattle.open_nodes.specs.SeatLaws.{IsOut}
use Rattle.open_nodes.specs.Takes.{Takes, all_nodes, lists_of}
use Rattle.open_nodes.proofs.Joining.{takes_even}

-- one more
moved : (nodes front back : List OpenNode) (x : OpenNode) → IsPermutation (nodes ++ (front ++ x ∷ back)) ((nodes ++ x ∷ []) ++ (front ++ back))
moved nodes front back x =
    subst (IsPermutation (nodes ++ (front ++ x ∷ back))) (sym (append_assoc nodes (x ∷ []) (front ++ back)))
    (IsPermutation-append_right nodes (front ++ x ∷ back) (x ∷ (front ++ back)) (IsPermutation-middle front x back))

pub one_taken : (whole nodes after : List OpenNode) (old new : Seats) (seat : ℕ) (x : OpenNode) → IsPermutation whole (nodes ++ all_nodes (lists_of old)) → Takes (lists_of old) (lists_of new) seat x
    → after ≡ nodes ++ x ∷ [] → IsPermutation whole (after ++ all_nodes (lists_of new))
one_taken whole nodes after old new seat x so_far takes is =
    let out = takes_even (lists_of old) (lists_of new) seat x takes in
    subst (λ (l : List OpenNode). IsPermutation whole (l ++ all_nodes (lists_of new))) (sym is)
    (subst (λ (l : List OpenNode). IsPermutation whole ((nodes ++ x ∷ []) ++ l)) (sym out.after)
    (IsPermutation-trans whole (nodes ++ (out.front ++ x ∷ out.back)) ((nodes ++ x ∷ []) ++ (out.front ++ out.back))
    (subst (λ (l : List OpenNode). IsPermutation whole (nodes ++ l)) out.before so_far) (moved nodes out.front out.back x)))

pub one_fewer : (old new : Seats) (seat : ℕ) (x : OpenNode) → Takes (lists_of old) (lists_of new) seat x → length (all_nodes (lists_of new)) < length (all_nodes (lists_of old))
one_fewer old new seat x takes =
    let out = takes_even (lists_of old) (lists_of new) seat x takes in
    omega (arith, ap length out.before, ap length out.after, length-append out.front (x ∷ out.back), length-append out.front out.back)

-- as many seats
lists_long : (old new : List (List OpenNode)) (seat : ℕ) (x : OpenNode) → Takes old new seat x → length new ≡ length old
lists_long old new seat x takes = elim takes [
  | inl own ↦ ap length own.after ∙ length-set old seat own.others
  | inr stolen ↦ ap length stolen.1.after ∙ length-set old stolen.1.from stolen.1.others
]

pub takes_long : (old new : Seats) (seat : ℕ) (x : OpenNode) → Takes (lists_of old) (lists_of new) seat x → length new.seats.items ≡ length old.seats.items
takes_long old new seat x takes =
    sym (length-map new.seats.items (λ (s : Seat). s.nodes.items))
    ∙ (lists_long (lists_of old) (lists_of new) seat x takes ∙ length-map old.seats.items (λ (s : Seat). s.nodes.items))

-- none is left
pub none_left : (whole nodes left : List OpenNode) → IsPermutation whole (nodes ++ left) → left ≡ [] → IsPermutation whole nodes
none_left whole nodes left so_far none =
    subst (IsPermutation whole) (ap (λ (l : List OpenNode). nodes ++ l) none ∙ append-nil nodes) so_far
