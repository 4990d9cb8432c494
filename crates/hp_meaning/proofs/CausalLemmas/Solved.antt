-- Nodes whose instances do not look at the instant.
use Rattle.std.specs.Prelude.{ℕ, List}
use Rattle.hp_base.specs.declared.value.Value.{Value}
use Rattle.hp_tree.specs.Instant.{Instant, Given}
use Rattle.hp_tree.specs.Meaning.{Nodes}

abbrev pub Solved : Type 0
Solved = List ℕ → List Value → Given → Instant

abbrev pub by : (List ℕ → List (List ℕ)) → Solved → Nodes
by outputs S = record { outputs = outputs; instant = λ f inputs g now. S f inputs g }
