-- What a write of a text leaves in the files.
use Rattle.std.specs.Prelude.{◌≡◌, ◌⊎◌, ℕ, List, Option, option_map}
use Rattle.std.specs.FinMap as map
use Rattle.hp_io.specs.Files.{Files, SameElsewhere, SameOrPrefix}
use Rattle.hp_io.specs.Told.{BothTold}

-- a text was written, or in part
pub data WritesText (text out : List ℕ) (before after : Option Files) : ℕ → Type 0 where
  whole : after ≡ option_map (λ held. map.insert held out text) before → WritesText text out before after 0
  part : {status : ℕ} → (status ≡ 5) ⊎ (status ≡ 6) →
      BothTold before after (λ b a. SameElsewhere b a out) → BothTold before after (λ b a. SameOrPrefix b a out text) → WritesText text out before after status
