-- What the comparisons and calls that a walk finds hold in the filled form of the program without automata.
-- Source: own.
use Rattle.std.specs.Prelude.{ℕ, ◌≡◌, IsTrue, List, reverse, Some}
use Rattle.hp_base.specs.declared.value.Value.{Value}
use Rattle.hp_base.specs.declared.value.Value.TheVariants.{Nil}
use Rattle.hp_tree.specs.declared.program.Item.{Item}
use Rattle.hp_tree.specs.Programs.{Node}
use Rattle.hp_tree.specs.Operators.{is_there}
use Rattle.hp_tree.specs.Instant.{Place, Instant}
use Rattle.hp_tree.specs.Meaning.{node_among}
use Rattle.hp_tree.specs.Reaction.{Each}
use Rattle.law_automata.specs.Lowered.Standing.{Along}
use Rattle.law_choices.specs.Choosing.Choices.{Choices}
use Rattle.law_choices.specs.Filled.Ready.{FilledForOne}
use Rattle.law_choices.specs.Places.Found.{found_in_node}
use Rattle.law_choices.specs.Places.Laws.{places_of}
use Rattle.law_choices.specs.Places.Spots.{Spot}

-- What is there at a place, and not Nil, is there at the other.
abbrev pub KnownAlike : Instant → Instant → Place → Place → Type 0
KnownAlike now filled p q = IsTrue (is_there (now p)) → (now p ≡ Nil → ⊥) → filled q ≡ now p

-- so it is of all that a walk over a node finds
abbrev pub FoundAlike : (List ℕ → List (List ℕ)) → Node → Instant → Instant → Type 0
FoundAlike outputs n now filled = Each (λ (s : Spot × Spot). Along (KnownAlike now filled) (places_of s.0) (places_of s.1)) (found_in_node outputs n)

-- So it is, instant by instant, of the one reaction of a node with chosen values and that of the filled form without automata.
abbrev pub FilledFoundLaw : Type 0
FilledFoundLaw =
    (outputs : List ℕ → List (List ℕ)) (choices : Choices) (program : List Item) (f : List ℕ) (n : Node) (inputs : List (List Value)) (frees : List Instant) → node_among (reverse program) f ≡ Some n
    → (it : FilledForOne choices program f inputs frees) → Along (FoundAlike outputs n) it.one.before.past it.filled.past
