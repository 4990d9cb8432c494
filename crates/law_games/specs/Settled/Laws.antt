-- The laws of the one wiring: it is typed. Items stand with the last one first: each node may call those behind it.
use Rattle.std.specs.Prelude.{◌≡◌, ⊤, ℕ, List, ◌∷◌, Contains}
use Rattle.hp_base.specs.declared.ty.Ty.{Ty}
use Rattle.hp_base.specs.declared.ty.Ty.TheVariants as ty
use Rattle.hp_base.specs.declared.value.Value.{Value}
use Rattle.hp_tree.specs.declared.program.Item.{Item}
use Rattle.hp_tree.specs.declared.program.Item.TheVariants.{NodeItem}
use Rattle.hp_tree.specs.Programs.{TypeDecl, Node}
use Rattle.hp_tree.specs.Values.{constructors_of}
use Rattle.hp_tree.specs.ExpressionTypes.{type_with}
use Rattle.hp_meaning.specs.Contract.Slots.{shape_of, zero_of}
use Rattle.hp_tree.specs.Instant.{Instant, Past}
use Rattle.hp_meaning.specs.Causal.Causality.{Ranked, IsRanked}
use Rattle.hp_meaning.specs.Contract.Forgetting.{ContractsCallNothing}
use Rattle.law_judged.specs.Named.Scoped.{EachNode}
use Rattle.law_values.specs.Valued.Values.{Classing, AreAccepted}
use Rattle.law_values.specs.Filled.Firsts.{HasFirst, NodeHasFirsts}
use Rattle.law_games.specs.Wires.Wired.{Held}
use Rattle.law_games.specs.Wires.WiredNodes.{remembers_in, wired_node, FillsNode}
use Rattle.law_games.specs.Wires.WiredCallees.{callee_wires}
use Rattle.law_games.specs.Wires.Laws.{IsWiring, held_after, instant_of}
use Rattle.law_games.specs.Wiretyped.Typed.{IsWire}
use Rattle.law_games.specs.Wiretyped.Laws.{IsRead, WiresTyped, InShape}

-- Wires of a ranked node settle: where any wires are typed, those that solve the circuits are typed too.
abbrev pub SettledLaw : Type 0
SettledLaw =
    (types : List TypeDecl) (class : Classing) (earlier : List Item) (n : Node) (inputs : List Value) (m : Held) (from now : Instant)
    → IsRead types class earlier n inputs m → Ranked n → IsRanked earlier → WiresTyped types earlier n from
    → now ≡ wired_node types (callee_wires types earlier) n inputs m now
    → WiresTyped types earlier n now

-- What is asked of a node and of those that it may call: each declaration is of a type with a first value, and the contracts of called nodes call nothing.
pub record HasZeros (types : List TypeDecl) (class : Classing) (earlier : List Item) (n : Node) : Type 0 where
  pub accepted : AreAccepted types class (NodeItem n ∷ earlier)
  pub firsts : EachNode (NodeHasFirsts types) (NodeItem n ∷ earlier)
  pub called : ContractsCallNothing earlier

-- Some wires are typed: those with a first value at each place.
abbrev pub ZerosLaw : Type 0
ZerosLaw = (types : List TypeDecl) (class : Classing) (earlier : List Item) (n : Node) → HasZeros types class earlier n → (zeros : Instant) × WiresTyped types earlier n zeros

-- So the wires of a ranked node are typed.
abbrev pub TypedLaw : Type 0
TypedLaw =
    (types : List TypeDecl) (class : Classing) (earlier : List Item) (n : Node) (inputs : List Value) (m : Held) (now : Instant)
    → HasZeros types class earlier n → IsRead types class earlier n inputs m → Ranked n → IsRanked earlier
    → now ≡ wired_node types (callee_wires types earlier) n inputs m now
    → WiresTyped types earlier n now

-- the wires of a node after a history: typed, and the memory behind them is in shape
pub record TypedWiring (types : List TypeDecl) (earlier : List Item) (n : Node) (inputs : List Value) (start free : Instant) (history : Past) (now : Instant) : Type 0 where
  pub wiring : IsWiring types earlier n inputs start free history now
  pub values : WiresTyped types earlier n now
  pub shape : InShape types earlier n start (remembers_in types (callee_wires types earlier) n start (instant_of types earlier n inputs (held_after types earlier n start free history) now ∷ history))

-- After each history that left registers in shape a ranked node has such wires.
abbrev pub WiringLaw : Type 0
WiringLaw =
    (types : List TypeDecl) (class : Classing) (earlier : List Item) (n : Node) (inputs : List Value) (start free : Instant) (history : Past)
    → HasZeros types class earlier n → IsRead types class earlier n inputs (held_after types earlier n start free history)
    → FillsNode types (callee_wires types earlier) n start free → Ranked n → IsRanked earlier
    → (now : Instant) × TypedWiring types earlier n inputs start free history now

-- The constructors of a type are of no type that is declared before it.
abbrev pub OwnsConstructors : List TypeDecl → Ty → Type 0
OwnsConstructors types (ty.Enum t) = (c : List ℕ) → Contains (constructors_of types t) c → type_with types c ≡ ty.Enum t
OwnsConstructors types t = ⊤

-- What a register of a type holds before the first instant in the memory of contracts is a value of the type.
abbrev pub ZeroValueLaw : Type 0
ZeroValueLaw = (types : List TypeDecl) (t : Ty) → HasFirst types t → OwnsConstructors types t → IsWire types t (zero_of (shape_of types t))
