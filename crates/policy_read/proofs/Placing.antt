-- Values that are put at the numbers of their cells.
use Rattle.std.proofs.Common.{◌≡◌, ◌∙◌, ◌<◌, ◌≤◌, ◌+◌, ℕ, ℤ, pos, List, [], ◌∷◌, ◌++◌, length, map, drop, get_or, zero-add, refl, sym, ap}
use Rattle.std.proofs.lemmas.List.{append-nil, append_assoc, drop_more, drop_all}
use Rattle.std.proofs.lemmas.List.FromFn.{length-map-range_with_len, map-range_with_len_more}
use Rattle.sopl_base.specs.declared.interval.Interval.{Interval}
use Rattle.sopl_scen.specs.Domains.{ends_of}
use Rattle.policy_read.specs.declared.entry.Told.{Told}
use Rattle.policy_read.specs.Domains.{low_in}
use Rattle.policy_read.specs.Policies.{numbers_below, put_all_at, put_at}

pub numbers_more : (n : ℕ) → numbers_below n ++ pos n ∷ [] ≡ numbers_below (n + 1)
unfolding numbers_below
numbers_more n = sym (map-range_with_len_more pos 0 n n (zero-add n))

pub numbers_none : [] ≡ numbers_below 0
unfolding numbers_below
numbers_none = refl

pub numbers_long : (n : ℕ) → length (numbers_below n) ≡ n
unfolding numbers_below
numbers_long n = length-map-range_with_len pos 0 n

module _ (told : List Told) (i : ℕ) (start old : List ℤ) where
  pub placed_more : (d : Told) (new : List ℤ) → i < length told → new ≡ put_at (get_or told i d) old → put_all_at (drop i told) old ≡ put_all_at told start
      → put_all_at (drop (i + 1) told) new ≡ put_all_at told start
  placed_more d new below put so =
      ap (put_all_at (drop (i + 1) told)) put ∙ ap (λ ts. put_all_at ts old) (sym (drop_more told i d below)) ∙ so

  pub placed_all : length told ≤ i → put_all_at (drop i told) old ≡ put_all_at told start → old ≡ put_all_at told start
  placed_all all so = sym (ap (λ ts. put_all_at ts old) (drop_all i told all)) ∙ so

module _ (domains : List Interval) (i : ℕ) (old : List ℤ) where
  pub lows_more : (d : Interval) (new : List ℤ) → i < length domains → d ≡ get_or domains i d → new ≡ old ++ d.lo ∷ [] → old ++ map low_in (map ends_of (drop i domains)) ≡ map low_in (map ends_of domains)
      → new ++ map low_in (map ends_of (drop (i + 1) domains)) ≡ map low_in (map ends_of domains)
  lows_more d new below at pushed so =
      ap (λ xs. xs ++ map low_in (map ends_of (drop (i + 1) domains))) pushed ∙ append_assoc old (d.lo ∷ []) (map low_in (map ends_of (drop (i + 1) domains)))
      ∙ ap (λ (e : Interval). old ++ e.lo ∷ map low_in (map ends_of (drop (i + 1) domains))) at
      ∙ ap (λ ds. old ++ map low_in (map ends_of ds)) (sym (drop_more domains i d below)) ∙ so

  pub lows_all : length domains ≤ i → old ++ map low_in (map ends_of (drop i domains)) ≡ map low_in (map ends_of domains) → old ≡ map low_in (map ends_of domains)
  lows_all all so = sym (append-nil old) ∙ sym (ap (λ ds. old ++ map low_in (map ends_of ds)) (drop_all i domains all)) ∙ so
