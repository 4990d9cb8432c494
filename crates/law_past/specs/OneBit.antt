-- What it costs that a contract remembers a formula: one register of one bit in the Boolean abstraction of its node.
-- Source: Havelund and Roşu, "Synthesizing monitors for safety properties" (TACAS 2002): one bit for each formula.
use Rattle.std.specs.Prelude.{◌≡◌, ℕ, List, [], ◌∷◌, reverse, Some}
use Rattle.std.specs.List.{filter}
use Rattle.hp_lexer.specs.declared.token.Token.{Token}
use Rattle.hp_tree.specs.declared.program.Item.{Item}
use Rattle.hp_tree.specs.Instant.{Place, Observer, Named}
use Rattle.hp_tree.specs.Meaning.{node_among}
use Rattle.hp_tree.specs.Programs.{Contract, Node}
use Rattle.hp_meaning.specs.Causal.RanksOfPoints.{same_place}
use Rattle.hp_meaning.specs.Contract.Slots.{Register, registers, truth}
use Rattle.hp_past.specs.Remembered.{Remembered, variable_of, Keeps}
use Rattle.hp_past.specs.Remembering.{HasContract}
use Rattle.law_past.specs.Remembered.{IsChecked}

-- the place of a variable of a contract's own block
abbrev pub place_of : List ℕ → Place
place_of v = Observer ∷ Named v ∷ []

-- the registers at a place
abbrev pub at_place : Place → List Register → List Register
at_place p rs = filter (λ r. same_place r.0 p) rs

-- In the abstraction of the node a variable of its contract has exactly one register, which holds a truth value: one bit.
pub record IsOneBit (program : List Item) (f v : List ℕ) : Type 0 where
  pub node : Node
  pub is_node : node_among (reverse program) f ≡ Some node
  pub register : at_place (place_of v) (registers program node) ≡ (place_of v, truth) ∷ []

-- So it is of each variable that remembers a formula in a contract of an accepted program.
abbrev pub OneBitLaw : Type 0
OneBitLaw =
    (text : List ℕ) (tokens : List Token) (program after : List Item) (ranks : List (List ℕ)) → IsChecked text tokens program after ranks
    → (f : List ℕ) (c : Contract) → HasContract program f c → (m : Remembered) → Keeps c.body m → IsOneBit after f (variable_of m)
