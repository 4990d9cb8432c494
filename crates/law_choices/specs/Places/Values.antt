-- What the comparisons and calls that a walk finds hold in the program without automata.
-- Source: own.
use Rattle.std.specs.Prelude.{ℕ, ◌≡◌, IsTrue, List, Some, reverse}
use Rattle.hp_base.specs.declared.value.Value.{Value}
use Rattle.hp_tree.specs.declared.program.Item.{Item}
use Rattle.hp_tree.specs.Programs.{Node}
use Rattle.hp_tree.specs.Operators.{real, is_there}
use Rattle.hp_tree.specs.Instant.{Place, Instant, Given}
use Rattle.hp_tree.specs.Meaning.{node_among}
use Rattle.hp_tree.specs.Reaction.{Meets, Each}
use Rattle.law_automata.specs.Lowered.Standing.{Along, Stands}
use Rattle.law_choices.specs.Places.Spots.{Spot}
use Rattle.law_choices.specs.Places.Found.{found_in_node}
use Rattle.law_choices.specs.Places.Laws.{places_of}

-- What is there at a place is there at the other.
abbrev pub SameWhereThere : Instant → Instant → Place → Place → Type 0
SameWhereThere now low p q = IsTrue (is_there (now p)) → low q ≡ now p

-- Where an instant without automata stands for one of the program, the comparisons and calls that a walk finds have the same values in both, wherever they are there.
abbrev pub ValuesLaw : Type 0
ValuesLaw =
    (outputs : List ℕ → List (List ℕ)) (program : List Item) (f : List ℕ) (n : Node) (inputs : List Value) (g : Given) (now low : Instant)
    → node_among (reverse program) f ≡ Some n → Meets real program f inputs g now → Stands program f now low
    → Each (λ (s : Spot × Spot). Along (SameWhereThere now low) (places_of s.0) (places_of s.1)) (found_in_node outputs n)
