-- The first value that lies outside the domain of its cell.
use Rattle.std.proofs.Common.{◌≡◌, ◌∙◌, ◌<◌, ◌≤◌, ◌+◌, ◌||◌, ℕ, ℤ, Bool, List, length, map, drop, get_or, int_lt, slice_get, true, false, Option, Some, None, if◌then◌else◌, sym, ap}
use Rattle.std.proofs.lemmas.List.{drop_more, drop_all}
use Rattle.std.proofs.lemmas.Option.{slice_get-map}
use Rattle.std.specs.Option.{option_map, option_map_or}
use Rattle.sopl_base.specs.declared.interval.Interval.{Interval}
use Rattle.sopl_scen.specs.Domains.{ends_of}
use Rattle.policy_read.specs.declared.entry.Told.{Told}
use Rattle.policy_read.specs.Domains.{first_outside, is_outside}

-- the domain of a cell, which may not be there
module _ (domains : List Interval) (told : Told) where
  outside_by : (found : Option Interval) → slice_get domains told.cell ≡ found
      → is_outside (map ends_of domains) told ≡ option_map_or (λ (d : ℤ × ℤ). int_lt told.value d.0 || int_lt d.1 told.value) (option_map ends_of found) false
  outside_by found at =
      ap (λ (o : Option (ℤ × ℤ)). option_map_or (λ (d : ℤ × ℤ). int_lt told.value d.0 || int_lt d.1 told.value) o false)
      (slice_get-map ends_of domains told.cell ∙ ap (option_map ends_of) at)

  pub outside_nowhere : slice_get domains told.cell ≡ None → false ≡ is_outside (map ends_of domains) told
  outside_nowhere at = sym (outside_by None at)

  pub outside_there : (domain : Interval) (outside : Bool) → slice_get domains told.cell ≡ Some domain → outside ≡ (int_lt told.value domain.lo || int_lt domain.hi told.value)
      → outside ≡ is_outside (map ends_of domains) told
  outside_there domain outside at is = is ∙ sym (outside_by (Some domain) at)

module _ (domains : List (ℤ × ℤ)) (told : List Told) (i : ℕ) where
  module _ (d : Told) (below : i < length told) where
    abbrev pub here : Told
    here = get_or told i d

    step : first_outside domains (drop i told) ≡ (if is_outside domains here then Some here.cell else first_outside domains (drop (i + 1) told))
    step = ap (first_outside domains) (drop_more told i d below)

    pub outside_found : is_outside domains here ≡ true → first_outside domains (drop i told) ≡ first_outside domains told → Some here.cell ≡ first_outside domains told
    outside_found so before = sym (step ∙ ap (λ b. if b then Some here.cell else first_outside domains (drop (i + 1) told)) so) ∙ before

    pub outside_more : is_outside domains here ≡ false → first_outside domains (drop i told) ≡ first_outside domains told
        → first_outside domains (drop (i + 1) told) ≡ first_outside domains told
    outside_more so before = sym (step ∙ ap (λ b. if b then Some here.cell else first_outside domains (drop (i + 1) told)) so) ∙ before

  pub outside_none : length told ≤ i → first_outside domains (drop i told) ≡ first_outside domains told → None ≡ first_outside domains told
  outside_none all before = sym (ap (first_outside domains) (drop_all i told all)) ∙ before
