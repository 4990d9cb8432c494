-- Nodes of which nothing is free but the inputs: no integers are compared in them, and they call nothing. Of these the controller knows all that the game knows.
-- Source: own; contracts are such in Delaval, Marchand and Rutten (LCTES 2010).
use Rattle.std.specs.Prelude.{◌≡◌, ⊤, List, [], ◌∷◌, ◌++◌}
use Rattle.hp_base.specs.declared.ty.Ty.{Ty}
use Rattle.hp_base.specs.declared.ty.Ty.TheVariants as ty
use Rattle.hp_base.specs.declared.value.Value.{Value}
use Rattle.hp_boolx.specs.Machine.{Machine}
use Rattle.hp_boolx.specs.Search.{Bits}
use Rattle.hp_tree.specs.declared.program.Item.{Item}
use Rattle.hp_tree.specs.Blocks.{Decl}
use Rattle.hp_tree.specs.Programs.{Node, TypeDecl}
use Rattle.hp_tree.specs.Instant.{Head, Tail, Inputs, Place, Instant, Past}
use Rattle.hp_tree.specs.Meaning.{types_of}
use Rattle.hp_tree.specs.Reaction.{controls_at}
use Rattle.hp_meaning.specs.Causal.Sources.{below}
use Rattle.hp_meaning.specs.Contract.Codes.{code}
use Rattle.hp_meaning.specs.Contract.Forgetting.{erased, erase}
use Rattle.hp_meaning.specs.Contract.FreePlaces.{InputsFit}
use Rattle.hp_meaning.specs.Contract.Game.{IsChoiceOf, IsNext}
use Rattle.hp_meaning.specs.Contract.Slots.{FreePlace, free_places}
use Rattle.law_equations.specs.Meaning.Instants as flat
use Rattle.law_games.specs.Mirror.Choices.{choice_bits}
use Rattle.hp_controller.specs.Steps.{Placing, bits_of, control_places}

-- a place with its type; an integer is no free place
abbrev pub placed : Place → Ty → List FreePlace
placed p ty.Int = []
placed p t = (p, t) ∷ []

-- the places of declared inputs, in a row
abbrev pub places_in_row : List Decl → (Place → Place) → List FreePlace
places_in_row [] w = []
places_in_row (d ∷ ds) w = placed (w (Head ∷ [])) d.ty ++ places_in_row ds (below Tail w)

-- the inputs are all free places of the node
abbrev pub HasInputsAlone : List Item → Node → Type 0
HasInputsAlone program n = free_places program n ≡ places_in_row n.inputs (below Inputs (λ p. p))

-- the codes of inputs, in order
abbrev pub codes_of_inputs : List TypeDecl → List Decl → List Value → Bits
codes_of_inputs types [] vs = []
codes_of_inputs types (d ∷ ds) [] = []
codes_of_inputs types (d ∷ ds) (v ∷ vs) = code types d.ty v ++ codes_of_inputs types ds vs

-- An instant of the node is one of the game over inputs of its types, and the variables of the machine hold the codes of these and the bits of the values that the controllable variables have.
pub record GivesInputs (program : List Item) (n : Node) (m : Machine) (p : Placing) (older : Past) (i : flat.Instant) (now : Instant) : Type 0 where
  pub inputs : List Value
  pub fit : InputsFit (types_of program) n.inputs inputs
  pub is_choice : IsChoiceOf program n (controls_at n now)
  pub next : IsNext program n (erase older) inputs now (controls_at n now) (erased now)
  pub early_bits : bits_of i p.early ≡ codes_of_inputs (types_of program) n.inputs inputs
  pub chosen_bits : bits_of i (control_places m p) ≡ choice_bits program n (controls_at n now)

-- so it is of all instants, one by one
abbrev pub GiveInputs : List Item → Node → Machine → Placing → List flat.Instant → Past → Type 0
GiveInputs program n m p [] [] = ⊤
GiveInputs program n m p (i ∷ instants) (now ∷ past) = GiveInputs program n m p instants past × GivesInputs program n m p past i now
GiveInputs program n m p instants past = ⊥
