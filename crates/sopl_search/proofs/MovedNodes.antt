-- Lists of seats, and what is seen of them.
use Rattle.std.proofs.Common.{◌≡◌, inl, inr, ℕ, zero, suc, ◌<◌, map, List, [], ◌∷◌, ◌++◌, length, set, refl, sym, ap, ◌∙◌, arith}
use Rattle.std.proofs.lemmas.List.{get_or-map, length-map, map-append}
use Rattle.open_nodes.specs.Takes.{Gives, Steals, Takes, TakesOwn, all_nodes, seat_nodes}

abbrev seen : {A B : Type 0} → (A → B) → List (List A) → List (List B)
seen f lists = map (map f) lists

seen_at : {A B : Type 0} (f : A → B) (lists : List (List A)) (seat : ℕ) → seat_nodes (seen f lists) seat ≡ map f (seat_nodes lists seat)
seen_at f [] seat = refl
seen_at f (xs ∷ lists) zero = refl
seen_at f (xs ∷ lists) (suc seat) = seen_at f lists seat

pub seen_set : {A B : Type 0} (f : A → B) (lists : List (List A)) (seat : ℕ) (ys : List A) → seen f (set lists seat ys) ≡ set (seen f lists) seat (map f ys)
seen_set f [] seat ys = refl
seen_set f (xs ∷ lists) zero ys = refl
seen_set f (xs ∷ lists) (suc seat) ys = ap (λ zs. map f xs ∷ zs) (seen_set f lists seat ys)

-- what is taken and what is given is so by what is seen
pub takes_seen : {A B : Type 0} (f : A → B) (old new : List (List A)) (seat : ℕ) (x : A) → Takes old new seat x → Takes (seen f old) (seen f new) seat (f x)
takes_seen f old new seat x takes = elim takes [
  | inl own ↦ inl (record {
    others = map f own.others;
    exists = omega (arith, own.exists, length-map old (map f));
    before = seen_at f old seat ∙ (ap (map f) own.before ∙ map-append f own.others (x ∷ []));
    after = ap (seen f) own.after ∙ seen_set f old seat own.others;
  })
  | inr stolen ↦ inr (
    seen_at f old seat ∙ ap (map f) stolen.0,
    record {
      from = stolen.1.from;
      others = map f stolen.1.others;
      exists = omega (arith, stolen.1.exists, length-map old (map f));
      first = λ before_it less. seen_at f old before_it ∙ ap (map f) (stolen.1.first before_it less);
      before = seen_at f old stolen.1.from ∙ ap (map f) stolen.1.before;
      after = ap (seen f) stolen.1.after ∙ seen_set f old stolen.1.from stolen.1.others;
    },
  )
]

pub gives_seen : {A B : Type 0} (f : A → B) (old new : List (List A)) (seat : ℕ) (x y : A) → Gives old new seat x y → Gives (seen f old) (seen f new) seat (f x) (f y)
gives_seen f old new seat x y gives = record {
  exists = omega (arith, gives.exists, length-map old (map f));
  after = ap (seen f) gives.after
      ∙ (seen_set f old seat (seat_nodes old seat ++ x ∷ y ∷ [])
      ∙ ap (set (seen f old) seat) (map-append f (seat_nodes old seat) (x ∷ y ∷ []) ∙ ap (λ zs. zs ++ f x ∷ f y ∷ []) (sym (seen_at f old seat))));
}

-- and so are all of them
pub all_seen : {A B : Type 0} (f : A → B) (lists : List (List A)) → all_nodes (seen f lists) ≡ map f (all_nodes lists)
all_seen f [] = refl
all_seen f (xs ∷ lists) = ap (λ zs. map f xs ++ zs) (all_seen f lists) ∙ sym (map-append f xs (all_nodes lists))
