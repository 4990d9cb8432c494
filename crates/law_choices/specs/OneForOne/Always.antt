-- What is given to a program can be given to the program without its automata.
use Rattle.std.specs.Prelude.{ℕ, List}
use Rattle.hp_base.specs.declared.value.Value.{Value}
use Rattle.hp_tree.specs.declared.program.Item.{Item}
use Rattle.hp_tree.specs.Instant.{Instant}
use Rattle.law_automata.specs.Lowered.Standing.{Along}
use Rattle.law_automata.specs.Lowered.Giving.{SameGiven}

-- Whatever is given to a program at some instants, the same can be given to the program without its automata, to each part where it stands then.
abbrev pub AlwaysLaw : Type 0
AlwaysLaw = (u : Value → Value) (program : List Item) (f : List ℕ) (frees : List Instant) → (frees' : List Instant) × Along (SameGiven u program f) frees frees'
