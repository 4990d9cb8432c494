-- What the watched equations of a node hold for its free places, beside an instant of the node.
-- Source: own; codes as in the machine of a contract.
use Rattle.std.specs.Prelude.{◌≡◌, ◌⊎◌, ⊤, Bool, List, [], ◌∷◌, length, map}
use Rattle.hp_base.specs.declared.value.Value.{Value}
use Rattle.hp_obc.specs.Machines.{ObcType}
use Rattle.hp_flat.specs.Nodes.{FlatNode}
use Rattle.hp_tree.specs.declared.program.Item.{Item}
use Rattle.hp_tree.specs.declared.program.Item.TheVariants.{TypeItem, NodeItem}
use Rattle.hp_tree.specs.Programs.{Node, TypeDecl}
use Rattle.hp_tree.specs.Operators.{marked}
use Rattle.hp_tree.specs.Instant.{Place, Instant, Past}
use Rattle.hp_tree.specs.Meaning.{types_of}
use Rattle.hp_tree.specs.Reaction.{controls_at}
use Rattle.hp_meaning.specs.Contract.Codes.{code}
use Rattle.hp_meaning.specs.Contract.Slots.{Slot, register, free, input, control, slots_of_node}
use Rattle.law_equations.specs.Meaning.Instants as flat
use Rattle.law_equations.specs.Meaning.Reactions.{Answers, Reaction}
use Rattle.law_games.specs.Mirror.Memories.{SlotsFit}
use Rattle.law_games.specs.ReadyGames.Laws.{Stands}
use Rattle.law_games.specs.Mirror.Mirrored.{codes_at, early_among, given_with, late_among}
use Rattle.hp_watch.specs.declared.watching.Free.{Free}
use Rattle.hp_watch.specs.Watching.{Observing, Surveyed, surveyed, walked}
use Rattle.law_choices.specs.Coded.Codes.{all_bits_at, bits_at, early_places, late_places}
use Rattle.law_choices.specs.InTurn.Nodes.{Contracted, IsContracted, Made, contracted}
use Rattle.law_choices.specs.Playing.Mirrored.{IsMirrored, early_flags}
use Rattle.law_choices.specs.Runs.Chosen.{inputs_at}
use Rattle.law_choices.specs.Seeing.Values.{AreOwn}

-- The free places of the equations have, one by one, the codes of what is given at the inputs and free places among slots.
abbrev pub AreHeld : List ObcType → List TypeDecl → FlatNode → flat.Instant → Instant → List Slot → List Free → Type 0
AreHeld types decls n i given [] [] = ⊤
AreHeld types decls n i given (register p k ∷ ss) fs = AreHeld types decls n i given ss fs
AreHeld types decls n i given (control p t ∷ ss) fs = AreHeld types decls n i given ss fs
AreHeld types decls n i given (input p t ∷ ss) (f ∷ fs) = (bits_at types n i f ≡ code decls t (given p)) × AreHeld types decls n i given ss fs
AreHeld types decls n i given (free p t ∷ ss) (f ∷ fs) = (bits_at types n i f ≡ code decls t (given p)) × AreHeld types decls n i given ss fs
AreHeld types decls n i given ss fs = ⊥

-- So the bits of early and of late ones are the codes of what is given at early and at late places.
abbrev pub HeldCodesLaw : Type 0
HeldCodesLaw =
    (types : List ObcType) (decls : List TypeDecl) (n : FlatNode) (i : flat.Instant) (given : Instant) (early : Place → Bool) (ss : List Slot) (fs : List Free) → AreHeld types decls n i given ss fs
    → (all_bits_at types n i (early_places fs (early_flags early ss)) ≡ codes_at decls (early_among early ss) given) × (all_bits_at types n i (late_places fs (early_flags early ss)) ≡ codes_at decls (late_among early ss) given)

-- At an instant they hold values of their types, which are the instant's own wherever it looks.
pub record HoldsValues (types : List ObcType) (program : List Item) (n : Node) (s : Surveyed) (i : flat.Instant) (now : Instant) : Type 0 where
  pub values : Instant
  pub typed : SlotsFit (types_of program) (slots_of_node program n) (given_with (map marked (inputs_at n now)) values (controls_at n now))
  pub own : AreOwn program n now values
  pub held : AreHeld types (types_of program) s.node i (given_with (map marked (inputs_at n now)) values (controls_at n now)) (slots_of_node program n) s.free

-- so it is of all instants, one by one
abbrev pub HoldThroughout : List ObcType → List Item → Node → Surveyed → List flat.Instant → Past → Type 0
HoldThroughout types program n s [] [] = ⊤
HoldThroughout types program n s (i ∷ instants) (now ∷ past) = HoldThroughout types program n s instants past × HoldsValues types program n s i now
HoldThroughout types program n s instants past = ⊥

-- what is made of a node with a contract, among what is made of some items, in order
abbrev pub IsMadeOf : List Item → List Made → Node → Contracted → Type 0
IsMadeOf [] ms n c = ⊥
IsMadeOf (TypeItem t ∷ items) ms n c = IsMadeOf items ms n c
IsMadeOf (NodeItem k ∷ items) [] n c = ⊥
IsMadeOf (NodeItem k ∷ items) (m ∷ ms) n c = ((k ≡ n) × (m ≡ contracted c)) ⊎ IsMadeOf items ms n c

-- The equations that are made of a node with a contract, with its observers.
abbrev pub survey_of : (types : List ObcType) (observers : Observing) (n : Node) (c : Contracted) → IsContracted types observers n c → Surveyed
survey_of types observers n c is = let fits = (is.is_watched).fits in surveyed observers fits.own (length n.inputs) (walked n c.plant) c.plant

-- In each reaction of the equations that choose, over some inputs, they hold so the values of a reaction of the node.
abbrev pub SeesOwn : List ObcType → Observing → List Item → List Made → Node → Answers → List (List Value) → Past → Type 0
SeesOwn types observers program ms n answers rows past =
    (earlier : List Item) → Stands program earlier n → (c : Contracted) (x : IsMirrored types observers program earlier n c) → IsMadeOf program ms n c → (instants : List flat.Instant) → Reaction answers c.chosen.node rows instants
    → HoldThroughout types program n (survey_of types observers n c x.is) instants past
