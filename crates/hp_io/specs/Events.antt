-- What happens at a console, oldest first.
use Rattle.std.specs.Prelude.{ℕ, ◌==◌, Option, None, Some, List, [], ◌∷◌, map, filter_map, take, if◌then◌else◌}
use Rattle.hp_io.specs.declared.console.Event.{Event}
use Rattle.hp_io.specs.declared.console.Event.TheVariants.{Asked, Heard, Ended, Said}

-- a take that put its first n bytes into the buffer, or came to the end
abbrev pub take_events : ℕ → List ℕ → List Event
take_events n buffer = if n == 0 then Asked ∷ Ended ∷ [] else Asked ∷ map Heard (take n buffer)

-- a put of these bytes
abbrev pub put_events : List ℕ → List Event
put_events bytes = map Said bytes

-- the byte of an event that said one
abbrev pub said_byte : Event → Option ℕ
said_byte Asked = None
said_byte (Heard byte) = None
said_byte Ended = None
said_byte (Said byte) = Some byte

-- the bytes that were said
abbrev pub said_bytes : List Event → List ℕ
said_bytes events = filter_map said_byte events
