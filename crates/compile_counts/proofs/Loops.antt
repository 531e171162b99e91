-- The first of what is left in a loop, as it is and as it is seen.
use Rattle.std.proofs.Common.{◌≡◌, ap, ℕ, ◌≤◌, List, [], length, drop, map}
use Rattle.std.proofs.lemmas.List.{at_drop_all}

-- nothing is left
pub none_is : {A : Type 0} (xs : List A) (i : ℕ) → length xs ≤ i → drop i xs ≡ []
none_is xs i past = at_drop_all (λ l. l) xs i past

pub none_seen : {A B : Type 0} (see : A → B) (xs : List A) (i : ℕ) → length xs ≤ i → map see (drop i xs) ≡ []
none_seen see xs i past = ap (map see) (none_is xs i past)
