-- The entries of a policy's text, `[name,[indices],value]`, each held against one of a form.
use Rattle.std.specs.Prelude.{ℕ, ℤ, ◌&&◌, Bool, false, List, [], ◌∷◌, Option, None, option_map, if◌then◌else◌, is_some}
use Rattle.std.specs.Option.{option_and_then, option_map_or}
use Rattle.serde_json.specs.Data.{Data}
use Rattle.serde_json.specs.Find.{as_number, as_u64}
use Rattle.policy_read.specs.declared.entry.Told.{Told}
use Rattle.policy_read.specs.Listed.{list_in, lists_alike, same_text, same_whole, whole_in}

-- a value, with the number of its cell
abbrev pub told_at : ℕ → ℤ → Told
told_at cell value = record { cell = cell; value = value }

-- two names and two indices are the same
abbrev pub same_place : Data → Data → Data → Data → Bool
same_place name index d e = same_text name d && lists_alike same_whole (list_in index) (list_in e)

-- the value of an entry, with the number that the form has in its place: there is none where name or indices differ, or where no whole number stands
abbrev pub told_parts : List Data → List Data → Option Told
told_parts (name ∷ index ∷ cell ∷ []) (d ∷ e ∷ value ∷ []) =
    if same_place name index d e
    then option_and_then (λ n. option_map (told_at n) (whole_in value)) (option_and_then as_u64 (as_number cell))
    else None
told_parts fs ds = None

abbrev pub told_in : Data → Data → Option Told
told_in form given = option_and_then (λ fs. option_and_then (told_parts fs) (list_in given)) (list_in form)

-- an entry tells a value
abbrev pub is_told : Data → Data → Bool
is_told form given = is_some (told_in form given)

-- two entries have the same name, indices and value
abbrev pub seen_parts : List Data → List Data → Bool
seen_parts (name ∷ index ∷ value ∷ []) (d ∷ e ∷ other ∷ []) = same_place name index d e && same_whole value other
seen_parts fs ds = false

abbrev pub same_seen : Data → Data → Bool
same_seen form given = option_map_or (λ fs. option_map_or (seen_parts fs) (list_in given) false) (list_in form) false
