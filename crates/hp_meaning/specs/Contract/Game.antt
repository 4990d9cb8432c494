-- The game of a contract: the inputs and what is forgotten play against the controllable variables.
-- Source: Delaval, Marchand and Rutten (LCTES 2010), with late values besides: at each instant the early values come first, then the controllable variables, then the late values.
use Rattle.std.specs.Prelude.{ℕ, zero, suc, ◌≡◌, Bool, true, false, IsTrue, IsFalse, ◌⊎◌, List, [], ◌∷◌, map, ⊤}
use Rattle.hp_base.specs.declared.value.Value.{Value}
use Rattle.hp_base.specs.declared.value.Value.TheVariants.{Absent, B}
use Rattle.hp_base.specs.declared.ty.Ty.{Ty}
use Rattle.hp_base.specs.declared.ty.Ty.TheVariants as ty
use Rattle.hp_tree.specs.declared.program.Item.{Item}
use Rattle.hp_tree.specs.Blocks.{Decl}
use Rattle.hp_tree.specs.Programs.{TypeDecl, Node}
use Rattle.hp_tree.specs.Operators.{constructor_from}
use Rattle.hp_tree.specs.Instant.{Place, Instant, Past, alone, in_row}
use Rattle.hp_tree.specs.Meaning.{types_of, controls_of}
use Rattle.hp_meaning.specs.Causal.Abstract.{abstract_meaning}
use Rattle.hp_meaning.specs.Causal.Steering.{steered_by}
use Rattle.hp_meaning.specs.Contract.FreePlaces.{IsEarly, Fits, InputsFit}
use Rattle.hp_meaning.specs.Contract.Duties.{hypothesis, duty}
use Rattle.hp_tree.specs.Values.{constructors_of, AreOf}

-- values of the controllable variables of a node, in declared order
abbrev pub Choice : Type 0
Choice = List Value

-- The values that a controllable variable may have, the preferred one first: true before false, and a constructor before those declared after it. None is an integer.
abbrev pub choices_of : List TypeDecl → Ty → List Value
choices_of types ty.Bool = B true ∷ B false ∷ []
choices_of types ty.Int = []
choices_of types (ty.Enum t) = map (constructor_from 0 types) (constructors_of types t)

abbrev pub IsAmong : List Value → Value → Type 0
IsAmong [] v = ⊥
IsAmong (w ∷ ws) v = (v ≡ w) ⊎ IsAmong ws v

-- one value for each variable, of its type
abbrev pub AreChoices : List TypeDecl → List Decl → Choice → Type 0
AreChoices types [] [] = ⊤
AreChoices types (d ∷ ds) (v ∷ c) = IsAmong (choices_of types d.ty) v × AreChoices types ds c
AreChoices types ds c = ⊥

abbrev pub IsChoiceOf : List Item → Node → Choice → Type 0
IsChoiceOf program n c = AreChoices (types_of program) (controls_of n.contract) c

-- these values at their places
abbrev pub at_controls : Choice → Instant
at_controls c = in_row (map alone c)

-- an abstract instant of a node after a history, with these inputs, early values and controllable variables, and some late values
pub record IsNext (program : List Item) (n : Node) (history : Past) (inputs : List Value) (early : Instant) (c : Choice) (now : Instant) : Type 0 where
  pub free : Instant
  pub fits : Fits program n now free
  pub agrees : (p : Place) → IsEarly program n p → free p ≡ early p
  pub meets : (p : Place) → now p ≡ abstract_meaning program n.name inputs (record { past = history; free = steered_by free (at_controls c) }) now p

-- ---- what the inputs can force

-- A violation is forced within this many instants: for some early values, whatever is chosen, some late values give an instant at which the hypothesis holds and the duty fails, or from which a violation is forced within one instant less.
abbrev pub Forced : List Item → Node → ℕ → Past → Type 0
Forced program n zero history = ⊥
Forced program n (suc k) history =
    (inputs : List Value) × (early : Instant) × InputsFit (types_of program) n.inputs inputs
    × ((c : Choice) → IsChoiceOf program n c → (now : Instant) × IsNext program n history inputs early c now × IsTrue (hypothesis n now) × (IsFalse (duty n now) ⊎ Forced program n k (now ∷ history)))

abbrev pub Safe : List Item → Node → Past → Type 0
Safe program n history = (k : ℕ) → Forced program n k history → ⊥

-- ---- what may be chosen

-- Whatever the late values are, where the hypothesis holds the duty holds too, and nothing is forced afterwards.
abbrev pub Permitted : List Item → Node → Past → List Value → Instant → Choice → Type 0
Permitted program n history inputs early c =
    (now : Instant) → IsNext program n history inputs early c now → IsTrue (hypothesis n now) → IsTrue (duty n now) × Safe program n (now ∷ history)

-- Of two values the one that stands first in a list is preferred.
abbrev pub IsPreferred : List Value → Value → Value → Type 0
IsPreferred [] v w = ⊥
IsPreferred (u ∷ us) v w = (w ≡ u → ⊥) × ((v ≡ u) ⊎ IsPreferred us v w)

-- Of two choices the one is above that has the preferred value at the first variable at which they differ; the variables stand in declared order.
abbrev pub AtMost : List TypeDecl → List Decl → Choice → Choice → Type 0
AtMost types [] [] [] = ⊤
AtMost types (x ∷ xs) (v ∷ c) (w ∷ d) = IsPreferred (choices_of types x.ty) w v ⊎ ((v ≡ w) × AtMost types xs c d)
AtMost types xs c d = ⊥

-- the preferred value of each variable
abbrev pub first_of : List Value → Value
first_of [] = Absent
first_of (v ∷ vs) = v

abbrev pub preferred : List Item → Node → Choice
preferred program n = map (λ x. first_of (choices_of (types_of program) x.ty)) (controls_of n.contract)

-- the greatest permitted choice; where none is permitted, the preferred value of each variable
pub record IsChosen (program : List Item) (n : Node) (history : Past) (inputs : List Value) (early : Instant) (c : Choice) : Type 0 where
  pub fits : IsChoiceOf program n c
  pub greatest : (d : Choice) → IsChoiceOf program n d → Permitted program n history inputs early d → Permitted program n history inputs early c × AtMost (types_of program) (controls_of n.contract) d c
  pub else_preferred : ((d : Choice) → IsChoiceOf program n d → Permitted program n history inputs early d → ⊥) → c ≡ preferred program n

-- a choice that is permitted where some choice is
pub record IsAllowed (program : List Item) (n : Node) (history : Past) (inputs : List Value) (early : Instant) (c : Choice) : Type 0 where
  pub fits : IsChoiceOf program n c
  pub where_some : (d : Choice) → IsChoiceOf program n d → Permitted program n history inputs early d → Permitted program n history inputs early c

-- ---- the laws

-- A choice gives each controllable variable a value of its type.
abbrev pub ChoiceTypesLaw : Type 0
ChoiceTypesLaw = (program : List Item) (n : Node) (c : Choice) → IsChoiceOf program n c → AreOf (types_of program) (controls_of n.contract) c

-- What is forced within some instants is forced within one more.
abbrev pub ForcedLaw : Type 0
ForcedLaw = (program : List Item) (n : Node) (k : ℕ) (history : Past) → Forced program n k history → Forced program n (suc k) history

-- Histories of a kind that some choice always keeps, together with the duty, are safe.
abbrev pub KeptLaw : Type 0
KeptLaw =
    (program : List Item) (n : Node) (kind : Past → Bool)
    → ((history : Past) (inputs : List Value) (early : Instant) → IsTrue (kind history) → InputsFit (types_of program) n.inputs inputs
    → (c : Choice) × IsChoiceOf program n c × ((now : Instant) → IsNext program n history inputs early c now → IsTrue (hypothesis n now) → IsTrue (duty n now) × IsTrue (kind (now ∷ history))))
    → (history : Past) → IsTrue (kind history) → Safe program n history

-- After a safe history it cannot be that nothing is permitted, whatever the early values are.
abbrev pub PermittedLaw : Type 0
PermittedLaw = (program : List Item) (n : Node) (history : Past) (inputs : List Value) (early : Instant) → Safe program n history → InputsFit (types_of program) n.inputs inputs → ((c : Choice) → IsChoiceOf program n c → Permitted program n history inputs early c → ⊥) → ⊥

-- So what is permitted where some choice is, is permitted there.
abbrev pub ChosenLaw : Type 0
ChosenLaw = (program : List Item) (n : Node) (history : Past) (inputs : List Value) (early : Instant) (c : Choice) → Safe program n history → InputsFit (types_of program) n.inputs inputs → IsAllowed program n history inputs early c → Permitted program n history inputs early c

-- The choice that is taken is such a one.
abbrev pub AllowedLaw : Type 0
AllowedLaw = (program : List Item) (n : Node) (history : Past) (inputs : List Value) (early : Instant) (c : Choice) → IsChosen program n history inputs early c → IsAllowed program n history inputs early c

-- There is at most one choice.
abbrev pub OneChoiceLaw : Type 0
OneChoiceLaw = (program : List Item) (n : Node) (history : Past) (inputs : List Value) (early : Instant) (c d : Choice) → IsChosen program n history inputs early c → IsChosen program n history inputs early d → c ≡ d

-- a history of instants whose choices are permitted where some are, at each of which the hypothesis holds
abbrev pub Played : List Item → Node → Past → Type 0
Played program n [] = ⊤
Played program n (now ∷ history) =
    Played program n history
    × ((inputs : List Value) × (early : Instant) × (c : Choice) × InputsFit (types_of program) n.inputs inputs × IsAllowed program n history inputs early c × IsNext program n history inputs early c now × IsTrue (hypothesis n now))

-- the duty holds at each instant
abbrev pub AllOwed : Node → Past → Type 0
AllOwed n [] = ⊤
AllOwed n (now ∷ history) = AllOwed n history × IsTrue (duty n now)

-- Where nothing is forced at first, such choices keep the duty as long as the hypothesis holds.
abbrev pub GuaranteeLaw : Type 0
GuaranteeLaw = (program : List Item) (n : Node) (history : Past) → Safe program n [] → Played program n history → AllOwed n history
