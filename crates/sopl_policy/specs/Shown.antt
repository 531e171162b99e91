-- How a policy of the program is seen, and what each keeps.
use Rattle.std.specs.Prelude.{ℕ, ◌≤◌, length, get_or}
use Rattle.sopl_policy.specs.Kept.{PolicyCells}
use Rattle.sopl_policy.specs.declared.policy.Policy.TheInside.{Inside}

abbrev pub cells_kept : Inside → PolicyCells
cells_kept p = record { firsts = p.firsts.items; values = p.values.items }

-- the cells of each decision are among all
abbrev pub AreWithin : Inside → Type 0
AreWithin p = (k : ℕ) → get_or p.firsts.items k 0 ≤ length p.values.items
