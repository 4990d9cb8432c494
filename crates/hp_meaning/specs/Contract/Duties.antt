-- What a contract supposes of an instant, and what it owes.
-- Source: Delaval, Marchand and Rutten, "Contracts for modular discrete controller synthesis" (LCTES 2010).
use Rattle.std.specs.Prelude.{Bool, true, false, ◌&&◌, ◌||◌, not, [], ◌∷◌}
use Rattle.std.specs.List.{list_all}
use Rattle.hp_base.specs.declared.value.Value.{Value}
use Rattle.hp_base.specs.declared.value.Value.TheVariants.{Absent, B}
use Rattle.hp_tree.specs.Programs.{Node}
use Rattle.hp_tree.specs.Instant.{Assume, Enforce, Instant}
use Rattle.hp_meaning.specs.Contract.FreePlaces.{calls_of, instance_at}

-- What is assumed or enforced is true, or missing: no contract, no such part of it, or a call that is not there.
abbrev pub holds_or_missing : Value → Bool
holds_or_missing Absent = true
holds_or_missing (B b) = b
holds_or_missing v = false

abbrev pub assumes : Instant → Bool
assumes i = holds_or_missing (i (Assume ∷ []))

abbrev pub enforces : Instant → Bool
enforces i = holds_or_missing (i (Enforce ∷ []))

-- The node's assumption holds, and each callee keeps its contract: it enforces what it has to where its own assumption holds.
abbrev pub hypothesis : Node → Instant → Bool
hypothesis n i = assumes i && list_all (λ c. not (assumes (instance_at c i)) || enforces (instance_at c i)) (calls_of n)

-- The node enforces what it has to, and the assumption of each callee holds.
abbrev pub duty : Node → Instant → Bool
duty n i = enforces i && list_all (λ c. assumes (instance_at c i)) (calls_of n)
