-- The machine of a contract mirrors the node.
-- Source: own. So what is said of this machine, as that it has a certificate or why one is refused, is said of the node; of the circuit that is drawn nothing else is asked.
use Rattle.std.specs.Prelude.{◌≡◌, ℕ, List, Some}
use Rattle.hp_lexer.specs.declared.token.Token.{Token}
use Rattle.hp_tree.specs.declared.program.Item.{Item}
use Rattle.hp_tree.specs.Meaning.{node_among}
use Rattle.hp_tree.specs.Programs.{Node}
use Rattle.hp_boolx.specs.Machine.{Machine}
use Rattle.hp_abstract.specs.Machines.{IsMachineOf}
use Rattle.law_games.specs.Mirror.Mirrored.{Mirrors}
use Rattle.law_games.specs.ReadyGames.Laws.{Stands}
use Rattle.law_decided.specs.Laws.{IsAcceptedText}

-- Its registers are the bits of what the node remembers, and its other variables those of inputs, free places and choices; a valuation is valid where it is made of codes of values; and its gates say the next memory, the hypothesis and the duty of the node.
pub record MirrorsNode (program : List Item) (n : Node) (m : Machine) : Type 0 where
  pub earlier : List Item
  pub stands : Stands program earlier n
  pub mirrors : Mirrors program earlier n m

-- So it is in the program of each accepted text.
abbrev pub MachinesLaw : Type 0
MachinesLaw =
    (text : List ℕ) (tokens : List Token) (program after : List Item) (ranks : List (List ℕ)) → IsAcceptedText text tokens program after ranks
    → (f : List ℕ) (n : Node) → node_among after f ≡ Some n → (m : Machine) → IsMachineOf after n m → MirrorsNode after n m
