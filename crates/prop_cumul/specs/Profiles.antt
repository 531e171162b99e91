-- Tasks and a capacity, as one list of intervals.
use Rattle.std.specs.Prelude.{◌≡◌, ℕ, ◌+◌, ◌*◌, pos, Bool, List, [], ◌∷◌, length}
use Rattle.term_language.specs.Ends.{Ends, exactly}
use Rattle.term_language.specs.Globals.{TaskEnds, never_fit}
use Rattle.prop_cumul.specs.declared.profile.Profile.{Profile}

-- the start, the length and the demand of each task
abbrev pub tasks_in : List Ends → List TaskEnds
tasks_in [] = []
tasks_in (start ∷ []) = []
tasks_in (start ∷ duration ∷ []) = []
tasks_in (start ∷ duration ∷ demand ∷ later) =
    record { start = start; duration = duration; demand = demand } ∷ tasks_in later

-- and what stands behind them
abbrev pub capacity_in : List Ends → Ends
capacity_in [] = exactly (pos 0)
capacity_in (capacity ∷ []) = capacity
capacity_in (capacity ∷ other ∷ []) = capacity
capacity_in (start ∷ duration ∷ demand ∷ later) = capacity_in later

-- the tasks never fit
abbrev pub is_overfull_list : List Ends → Bool
is_overfull_list es = never_fit (tasks_in es) (capacity_in es)

-- three intervals for each task that there is room for, and one for the capacity
abbrev pub HasTasks : Profile → ℕ → Type 0
HasTasks p count = 3 * length p.tasks.items + 1 ≡ count
