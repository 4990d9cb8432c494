-- What a name of a node's body depends on at an instant, of what the node is given: its inputs and its controllable variables.
-- Source: own. The reads are those of each place, in which an input is a place too.
use Rattle.std.specs.Prelude.{ℕ, ◌≡◌, ◌||◌, IsTrue, List, [], ◌∷◌}
use Rattle.hp_tree.specs.Blocks.{Decl, Block, block}
use Rattle.hp_tree.specs.Programs.{Node}
use Rattle.hp_tree.specs.Instant.{Controls, Body, Named, Place}
use Rattle.hp_tree.specs.Meaning.{declares, controls_of}
use Rattle.hp_meaning.specs.Causal.Sources.{only, NameSources, below}
use Rattle.hp_meaning.specs.Causal.InputDependence.{row_in, input_in, ChainWithInputs}

-- the place of what is given under a name, as the body reads it: a controllable variable, or an input
abbrev pub given_in : Node → NameSources
given_in n x = row_in (controls_of n.contract) (below Controls only) (input_in n only) x

-- A name of the body depends on what is given under another by a chain of reads.
abbrev pub DependsOnGiven : Node → List ℕ → List ℕ → Type 0
DependsOnGiven n y x = (q : Place) × (given_in n x ≡ only q) × (between : List Place) × ChainWithInputs n (Body ∷ Named y ∷ []) between q

-- It depends on nothing that is given under the names of some declarations.
abbrev pub DependsOnNoneGiven : Node → List ℕ → List Decl → Type 0
DependsOnNoneGiven n y [] = Unit {0}
DependsOnNoneGiven n y (d ∷ ds) = (DependsOnGiven n y d.name → ⊥) × DependsOnNoneGiven n y ds

abbrev pub locals : Block → List Decl
locals (block ds es) = ds

-- an output or a local of the body
abbrev pub IsOwn : Node → List ℕ → Type 0
IsOwn n y = IsTrue (declares n.outputs y || declares (locals n.body) y)

-- what is given under a name: an input or a controllable variable
abbrev pub IsGiven : Node → List ℕ → Type 0
IsGiven n x = IsTrue (declares n.inputs x || declares (controls_of n.contract) x)
