-- What was heard and said, in a list of events.
use Rattle.std.specs.Prelude.{◌≡◌, ℕ, Bool, true, false, List, [], ◌∷◌, Option}
use Rattle.hp_io.specs.Told.{Loses, Told}
use Rattle.hp_io.specs.declared.console.Event.{Event}
use Rattle.hp_io.specs.declared.console.Event.TheVariants.{Asked, Heard, Ended, Said}

abbrev pub heard : List Event → List ℕ
heard [] = []
heard (Asked ∷ log) = heard log
heard (Heard b ∷ log) = b ∷ heard log
heard (Ended ∷ log) = heard log
heard (Said b ∷ log) = heard log

abbrev pub said : List Event → List ℕ
said [] = []
said (Asked ∷ log) = said log
said (Heard b ∷ log) = said log
said (Ended ∷ log) = said log
said (Said b ∷ log) = b ∷ said log

-- the input came to its end
abbrev pub has_ended : List Event → Bool
has_ended [] = false
has_ended (Asked ∷ log) = has_ended log
has_ended (Heard b ∷ log) = has_ended log
has_ended (Ended ∷ log) = true
has_ended (Said b ∷ log) = has_ended log

-- What was heard was taken from the front of the input, and where the input has ended nothing of it is left.
abbrev pub HeardFrom : Option (List ℕ) → Option (List ℕ) → List Event → Type 0
HeardFrom before after log = Loses before after (heard log) × (has_ended log ≡ true → Told after (λ rest. rest ≡ []))
