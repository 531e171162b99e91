-- The open nodes of all seats as one list.
use Rattle.std.proofs.Common.{◌≡◌, inl, inr, ℕ, zero, suc, ◌+◌, ◌<◌, ◌≤◌, map, List, [], ◌∷◌, ◌++◌, length, get_or, set, refl, sym, ap, subst, ◌∙◌, append_assoc, arith, Option, None, Some, IfSome, IfNone}
use Rattle.std.proofs.lemmas.List.{get_or-map, get_or-set_same, length-map, length-set}
use Rattle.std.proofs.lemmas.Bool.{cases_eq}
use Rattle.open_nodes.specs.declared.seats.OpenNode.{OpenNode}
use Rattle.open_nodes.specs.declared.seats.Seat.{Seat}
use Rattle.open_nodes.specs.Takes.{Gives, Steals, Takes, TakesOwn, all_nodes, seat_nodes}
use Rattle.open_nodes.specs.SeatLaws.{AreIn, IsOut}

abbrev pub list_of : Seat → List OpenNode
list_of seat = seat.nodes.items

-- the nodes of the seats before one, and of those behind it
abbrev ahead : List (List OpenNode) → ℕ → List OpenNode
ahead [] at = []
ahead (xs ∷ lists) zero = []
ahead (xs ∷ lists) (suc at) = xs ++ ahead lists at

abbrev behind : List (List OpenNode) → ℕ → List OpenNode
behind [] at = []
behind (xs ∷ lists) zero = all_nodes lists
behind (xs ∷ lists) (suc at) = behind lists at

split_at : (lists : List (List OpenNode)) (at : ℕ) → at < length lists → all_nodes lists ≡ ahead lists at ++ (seat_nodes lists at ++ behind lists at)
split_at [] at exists = absurd (omega (arith, exists))
split_at (xs ∷ lists) zero exists = refl
split_at (xs ∷ lists) (suc at) exists =
    ap (λ (ys : List OpenNode). xs ++ ys) (split_at lists at (omega (arith, exists))) ∙ sym (append_assoc xs (ahead lists at) (seat_nodes lists at ++ behind lists at))

split_set : (lists : List (List OpenNode)) (at : ℕ) (ys : List OpenNode) → at < length lists → all_nodes (set lists at ys) ≡ ahead lists at ++ (ys ++ behind lists at)
split_set [] at ys exists = absurd (omega (arith, exists))
split_set (xs ∷ lists) zero ys exists = refl
split_set (xs ∷ lists) (suc at) ys exists =
    ap (λ (zs : List OpenNode). xs ++ zs) (split_set lists at ys (omega (arith, exists))) ∙ sym (append_assoc xs (ahead lists at) (ys ++ behind lists at))

pub takes_even : (old new : List (List OpenNode)) (seat : ℕ) (x : OpenNode) → Takes old new seat x → IsOut (all_nodes old) (all_nodes new) x
takes_even old new seat x takes = elim takes [
  | inl own ↦ record {
    front = ahead old seat ++ own.others;
    back = behind old seat;
    before = split_at old seat own.exists
        ∙ (ap (λ (ys : List OpenNode). ahead old seat ++ (ys ++ behind old seat)) own.before
        ∙ (ap (λ (ys : List OpenNode). ahead old seat ++ ys) (append_assoc own.others (x ∷ []) (behind old seat))
        ∙ sym (append_assoc (ahead old seat) own.others (x ∷ behind old seat))));
    after = ap all_nodes own.after ∙ (split_set old seat own.others own.exists ∙ sym (append_assoc (ahead old seat) own.others (behind old seat)));
  }
  | inr stolen ↦ record {
    front = ahead old stolen.1.from;
    back = stolen.1.others ++ behind old stolen.1.from;
    before = split_at old stolen.1.from stolen.1.exists ∙ ap (λ (ys : List OpenNode). ahead old stolen.1.from ++ (ys ++ behind old stolen.1.from)) stolen.1.before;
    after = ap all_nodes stolen.1.after ∙ split_set old stolen.1.from stolen.1.others stolen.1.exists;
  }
]

pub gives_even : (old new : List (List OpenNode)) (seat : ℕ) (x y : OpenNode) → Gives old new seat x y → AreIn (all_nodes old) (all_nodes new) x y
gives_even old new seat x y gives = record {
  left = ahead old seat ++ seat_nodes old seat;
  right = behind old seat;
  before = split_at old seat gives.exists ∙ sym (append_assoc (ahead old seat) (seat_nodes old seat) (behind old seat));
  after = ap all_nodes gives.after
      ∙ (split_set old seat (seat_nodes old seat ++ x ∷ y ∷ []) gives.exists
      ∙ (ap (λ (ys : List OpenNode). ahead old seat ++ ys) (append_assoc (seat_nodes old seat) (x ∷ y ∷ []) (behind old seat))
      ∙ sym (append_assoc (ahead old seat) (seat_nodes old seat) (x ∷ y ∷ behind old seat))));
}

-- the seats, as one of them changes
pub same_lists : (seats : List Seat) (at : ℕ) (d : Seat) (after : Seat) → after.nodes.items ≡ (get_or seats at d).nodes.items → map list_of (set seats at after) ≡ map list_of seats
same_lists [] at d after is = refl
same_lists (x ∷ seats) zero d after is = ap (λ (xs : List OpenNode). xs ∷ map list_of seats) is
same_lists (x ∷ seats) (suc at) d after is = ap (λ (lists : List (List OpenNode)). list_of x ∷ lists) (same_lists seats at d after is)

pub set_list : (seats : List Seat) (at : ℕ) (after : Seat) → map list_of (set seats at after) ≡ set (map list_of seats) at after.nodes.items
set_list [] at after = refl
set_list (x ∷ seats) zero after = refl
set_list (x ∷ seats) (suc at) after = ap (λ (lists : List (List OpenNode)). list_of x ∷ lists) (set_list seats at after)

pub list_there : (seats : List Seat) (at : ℕ) (d : Seat) → at < length seats → seat_nodes (map list_of seats) at ≡ (get_or seats at d).nodes.items
list_there seats at d exists = get_or-map list_of seats at d [] exists

pub none_joined : (lists : List (List OpenNode)) (n : ℕ) → length lists ≤ n → ((seat : ℕ) → seat < n → seat_nodes lists seat ≡ []) → all_nodes lists ≡ []
none_joined [] n all none = refl
none_joined (xs ∷ lists) zero all none = absurd (omega (arith, all))
none_joined (xs ∷ lists) (suc n) all none =
    ap (λ (ys : List OpenNode). ys ++ all_nodes lists) (none 0 (omega arith)) ∙ none_joined lists n (omega (arith, all)) (λ seat below. none (suc seat) (omega (arith, below)))

pub stolen : (old now : List Seat) (at : ℕ) (d after : Seat) (x : OpenNode) → map list_of now ≡ map list_of old → at < length now → ((seat : ℕ) → seat < at → seat_nodes (map list_of now) seat ≡ [])
    → (get_or now at d).nodes.items ≡ x ∷ after.nodes.items → Steals (map list_of old) (map list_of (set now at after)) x
stolen old now at d after x same exists first is =
    subst (λ (lists : List (List OpenNode)). Steals lists (map list_of (set now at after)) x) same (record {
      from = at;
      others = after.nodes.items;
      exists = omega (arith, exists, length-map now list_of);
      first = first;
      before = list_there now at d exists ∙ is;
      after = set_list now at after;
    })

pub taken_own : (old : List Seat) (at : ℕ) (d after : Seat) (x : OpenNode) → at < length old → (get_or old at d).nodes.items ≡ after.nodes.items ++ x ∷ []
    → TakesOwn (map list_of old) (map list_of (set old at after)) at x
taken_own old at d after x exists is = record {
  others = after.nodes.items;
  exists = omega (arith, exists, length-map old list_of);
  before = list_there old at d exists ∙ is;
  after = set_list old at after;
}

pub first_more : (seats : List Seat) (at : ℕ) (d after : Seat) → at < length seats → after.nodes.items ≡ (get_or seats at d).nodes.items → after.nodes.items ≡ []
    → ((seat : ℕ) → seat < at → seat_nodes (map list_of seats) seat ≡ []) → (seat : ℕ) → seat < at + 1 → seat_nodes (map list_of (set seats at after)) seat ≡ []
first_more seats at d after exists same none first seat below =
    ap (λ (lists : List (List OpenNode)). seat_nodes lists seat) (same_lists seats at d after same)
    ∙ elim (cases_eq seat at) [
      | inl is ↦ ap (seat_nodes (map list_of seats)) is ∙ (list_there seats at d exists ∙ (sym same ∙ none))
      | inr other ↦ first seat (omega (arith, below, other))
    ]

pub given : (old : List Seat) (seat : ℕ) (d d2 between after : Seat) (x y : OpenNode) → seat < length old → between.nodes.items ≡ (get_or old seat d).nodes.items ++ x ∷ []
    → after.nodes.items ≡ (get_or (set old seat between) seat d2).nodes.items ++ y ∷ [] → Gives (map list_of old) (map list_of (set (set old seat between) seat after)) seat x y
given old seat d d2 between after x y exists first second =
    let there : seat < length (set old seat between) = omega (arith, exists, length-set old seat between) in
    record {
      exists = omega (arith, exists, length-map old list_of);
      after = set_list (set old seat between) seat after
          ∙ (ap (λ (lists : List (List OpenNode)). set lists seat (list_of after)) (set_list old seat between)
          ∙ (set_twice (map list_of old) seat (list_of between) (list_of after)
          ∙ ap (set (map list_of old) seat) (second ∙ (ap (λ (s : Seat). s.nodes.items ++ y ∷ []) (get_or-set_same old seat between d2 exists)
          ∙ (ap (λ (xs : List OpenNode). xs ++ y ∷ []) (first ∙ ap (λ (xs : List OpenNode). xs ++ x ∷ []) (sym (list_there old seat d exists))) ∙ append_assoc (seat_nodes (map list_of old) seat) (x ∷ []) (y ∷ []))))));
    }
  where
    set_twice : (lists : List (List OpenNode)) (at : ℕ) (xs ys : List OpenNode) → set (set lists at xs) at ys ≡ set lists at ys
    set_twice [] at xs ys = refl
    set_twice (l ∷ lists) zero xs ys = refl
    set_twice (l ∷ lists) (suc at) xs ys = ap (λ (zs : List (List OpenNode)). l ∷ zs) (set_twice lists at xs ys)

pub one_given : (old : List Seat) (seat : ℕ) (d after : Seat) (x : OpenNode) → seat < length old → after.nodes.items ≡ (get_or old seat d).nodes.items ++ x ∷ []
    → map list_of (set old seat after) ≡ set (map list_of old) seat (seat_nodes (map list_of old) seat ++ x ∷ [])
one_given old seat d after x exists is =
    set_list old seat after
    ∙ ap (set (map list_of old) seat) (is ∙ ap (λ (xs : List OpenNode). xs ++ x ∷ []) (sym (list_there old seat d exists)))

pub none_left : (old now : List Seat) (n count : ℕ) → map list_of now ≡ map list_of old → count ≡ length old → count ≤ n
    → ((seat : ℕ) → seat < n → seat_nodes (map list_of now) seat ≡ []) → all_nodes (map list_of old) ≡ []
none_left old now n count same is all none =
    subst (λ (lists : List (List OpenNode)). all_nodes lists ≡ []) same
    (none_joined (map list_of now) n (omega (arith, ap length same, length-map old list_of, is, all)) none)

pub own_none : (old : List Seat) (at : ℕ) (d after : Seat) → at < length old → after.nodes.items ≡ (get_or old at d).nodes.items → after.nodes.items ≡ []
    → seat_nodes (map list_of old) at ≡ []
own_none old at d after exists same none = list_there old at d exists ∙ (sym same ∙ none)

pub steal_takes : (result : Option OpenNode) (old mid new : List (List OpenNode)) (seat : ℕ) → mid ≡ old → seat_nodes old seat ≡ [] → IfSome result (Steals mid new) → IfSome result (Takes old new seat)
steal_takes None old mid new seat same none steals = tt
steal_takes (Some x) old mid new seat same none steals = inr (none, subst (λ (lists : List (List OpenNode)). Steals lists new x) same steals)

pub steal_none : (result : Option OpenNode) (old mid : List (List OpenNode)) → mid ≡ old → IfNone result (all_nodes mid ≡ []) → IfNone result (all_nodes old ≡ [])
steal_none None old mid same none = subst (λ (lists : List (List OpenNode)). all_nodes lists ≡ []) same none
steal_none (Some x) old mid same none = tt

pub steal_same : (result : Option OpenNode) (old mid new : List (List OpenNode)) → mid ≡ old → IfNone result (new ≡ mid) → IfNone result (new ≡ old)
steal_same None old mid new same kept = kept ∙ same
steal_same (Some x) old mid new same kept = tt
