-- What a brancher was told.
use Rattle.std.specs.Prelude.{List, [], ◌∷◌, ◌++◌, Option, option_map}
use Rattle.brancher.specs.declared.choice.Event.{Event}

-- one event more, where a brancher keeps what it heard
abbrev pub with_event : Option (List Event) → Event → Option (List Event)
with_event heard event = option_map (λ events. events ++ event ∷ []) heard

-- where a brancher is asked, it hears an event
abbrev pub with_event_told : Option (Option (List Event)) → Event → Option (Option (List Event))
with_event_told asked event = option_map (λ heard. with_event heard event) asked
