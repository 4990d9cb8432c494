-- What happened in a call on the console and on the diagnostics.
-- Source: own
use Rattle.std.specs.Prelude.{ℕ, List, Option}
use Rattle.hp_io.specs.Told.{Grows}
use Rattle.hp_io.specs.declared.console.Event.{Event}
use Rattle.hp_driver.specs.Log.{HeardFrom}

-- There are new events, of which what was heard came from the input, and new bytes of diagnostics, and P of them.
abbrev pub Happened : Option (List Event) → Option (List Event) → Option (List ℕ) → Option (List ℕ) → Option (List ℕ) → Option (List ℕ) →
    (List Event → List ℕ → Type 0) → Type 0
Happened events events_after left left_after took took_after P =
    (log : List Event) × (line : List ℕ) × Grows events events_after log × HeardFrom left left_after log × Grows took took_after line × P log line
