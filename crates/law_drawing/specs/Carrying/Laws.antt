-- The law of drawn expressions: their wires carry the values of wires.
use Rattle.std.specs.Prelude.{ℕ, ◌≡◌, Bool, true, List, [], Some, length}
use Rattle.hp_base.specs.declared.ty.Ty.{Ty}
use Rattle.hp_base.specs.declared.value.Value.{Value}
use Rattle.hp_tree.specs.declared.program.Item.{Item}
use Rattle.hp_tree.specs.Blocks.{Decl}
use Rattle.hp_tree.specs.Expressions.{Expr}
use Rattle.hp_tree.specs.ExpressionTypes.{Scope as ScopeOfTypes}
use Rattle.hp_tree.specs.Instant.{Instant, Clock, top, Place as TreePlace}
use Rattle.hp_tree.specs.Meaning.{Names, node_among}
use Rattle.hp_tree.specs.Programs.{TypeDecl}
use Rattle.hp_meaning.specs.Causal.Clocked.{Standing, IsOn}
use Rattle.hp_meaning.specs.Causal.Points.{Placed, calls}
use Rattle.hp_typing.specs.Types.{type_of}
use Rattle.law_judged.specs.Typed.Scopes.{Scope as TypeScope}
use Rattle.hp_base.specs.Known.Known.{lookup}
use Rattle.law_values.specs.Valued.Judged.{Lasts, ExprSound}
use Rattle.hp_meaning.specs.Contract.Memory.{number_in, remembers}
use Rattle.hp_meaning.specs.Contract.Slots as slots
use Rattle.hp_meaning.specs.Contract.Slots.{is_int}
use Rattle.law_games.specs.Wires.Wired.{Held, wired, shown, next as next_of}
use Rattle.law_games.specs.Wires.WiredCallees.{callee_wires}
use Rattle.law_games.specs.Wiretyped.Typed.{IsWire, ExprTyped}
use Rattle.law_games.specs.Wiretyped.Kept.{ExprKept, ExprGiven}
use Rattle.law_games.specs.Wiretyped.Callees.{CalleeTyped, CalleeKept, CalleeGiven}
use Rattle.hp_drawing.specs.declared.parts.Place.{Place}
use Rattle.hp_drawing.specs.declared.parts.Value.{Value as Carried}
use Rattle.hp_drawing.specs.Kept.{is_mark}
use Rattle.hp_drawing.specs.Told.{Told}
use Rattle.hp_drawing.specs.DrawnExpressions.{Brings, drawn}
use Rattle.hp_drawing.specs.Scopes.{Scope}
use Rattle.hp_drawing.specs.Sketch.{Sketch}
use Rattle.law_drawing.specs.Carrying.Solving.{Has}
use Rattle.law_drawing.specs.Carrying.Drawing.{AreHeld, IsDrawn, IsStored, IsReady, IsAt, AreShaped}
use Rattle.law_drawing.specs.Carrying.Typing.{AreNumbered}
use Rattle.law_drawing.specs.Carrying.Calls.{supposes_on, owes_on, CallsAre}

-- What a drawing is held against: a program, the numbers of slots, and of a node the memory that slots hold, its next one, what is given, its wires, and what is shown of it.
pub record Frame : Type 0 where
  pub types : List TypeDecl
  pub earlier : List Item
  pub told : Told
  pub brings : Brings
  pub outs : List ℕ → List Decl
  pub callee : List ℕ → (TreePlace → TreePlace) → List slots.Slot
  pub slot : ℕ → ℕ
  pub raw : Instant
  pub next : Instant
  pub given : Instant
  pub wires : Instant
  pub showing : Instant

-- the calls of the nodes behind some items, the last one first
abbrev pub FrameCalls : Frame → Type 0
FrameCalls F =
    CallsAre F.types (callee_wires F.types F.earlier) (node_among F.earlier) (CalleeTyped F.types F.earlier) (CalleeKept F.types F.earlier) (CalleeGiven F.types F.earlier) F.told F.brings F.outs F.callee
    F.slot F.raw F.next F.given F.wires F.showing

-- What an expression sees: names with their types, their clocks and their last values, the values of these, and their wires.
pub record Sight : Type 0 where
  pub scope : TypeScope
  pub standing : Standing
  pub has_last : Lasts
  pub names : Names
  pub last : Names
  pub types : ScopeOfTypes
  pub drawn_scope : Scope

pub record IsSight (F : Frame) (V : Sight) : Type 0 where
  pub numbered : AreNumbered F.types F.told V.scope
  pub named : (x : List ℕ) (clock : Clock) (t : Ty) → V.standing x ≡ Some clock → lookup V.scope.variables x ≡ Some t → IsWire F.types t (V.names x)
  pub shaped : AreShaped V.scope V.has_last V.types V.drawn_scope

-- An expression with a type on a clock, and its typed wires, which solve its circuits; its registers are in shape, and given values fit. It stands at a place of its node.
pub record IsWiredAt (F : Frame) (V : Sight) (e : Expr) (clock : Clock) (t : Ty) (m : Held) (now stay : Instant) (w : TreePlace → TreePlace) (here cut kept : Bool) : Type 0 where
  pub on : IsOn V.standing e clock
  pub sound : ExprSound F.types (node_among F.earlier) V.scope V.has_last e
  pub type_is : type_of V.scope e ≡ Some t
  pub shape : ExprKept F.types (CalleeKept F.types F.earlier) V.scope e m.start m.memory
  pub fits : ExprGiven F.types (CalleeGiven F.types F.earlier) V.scope e m.free
  pub typed : ExprTyped F.types (CalleeTyped F.types F.earlier) V.scope e now
  pub solves : now ≡ wired F.types (callee_wires F.types F.earlier) e V.names V.last m now
  pub zeros : (p : TreePlace) → number_in (m.start p) ≡ 0
  pub given : (p : TreePlace) → m.free p ≡ F.given (w p)
  pub stored : IsStored here cut kept (remembers F.types (callee_wires F.types F.earlier).remembers e m.start []) m.memory stay (next_of F.types (callee_wires F.types F.earlier) e clock V.names m now) (λ p. F.raw (w p)) (λ p. F.next (w p))
  pub placed : IsAt F.wires F.showing here w now (shown F.types (callee_wires F.types F.earlier) e clock V.names m now)
  pub same : here ≡ true → kept ≡ cut

abbrev pub slots_of : Frame → Sight → Expr → (TreePlace → TreePlace) → List slots.Slot
slots_of F V e w = slots.slots F.types F.outs F.callee e V.types w

-- What is drawn of it: numbers go on that solve its wires; its value is carried, a register takes what the next memory holds at its place, and its calls suppose and owe what those of its wires do.
pub record IsCarried (F : Frame) (s : Sketch) (ns : List ℕ) (ss : List slots.Slot) (cs : List Placed) (v : Value) (t : Ty) (r : Carried × Sketch) : Type 0 where
  pub numbers : List ℕ
  pub drawn_is : IsDrawn F.slot F.next (supposes_on F.showing F.wires) (owes_on F.showing F.wires) s ns ss cs r.1 numbers
  pub carried : Has numbers r.0.wire (number_in v)
  pub mark : is_mark r.0.shape ≡ is_int t

-- Wherever an expression is drawn, its wire has the number of its value.
abbrev pub ExpressionLaw : Type 0
ExpressionLaw =
    (F : Frame) (V : Sight) (e : Expr) (clock : Clock) (t : Ty) (m : Held) (now stay : Instant) (w : TreePlace → TreePlace) (place : Place) (here cut kept : Bool) (s : Sketch) (ns : List ℕ)
    → FrameCalls F → IsSight F V → IsWiredAt F V e clock t m now stay w here cut kept
    → IsReady F.slot F.types V.names V.last V.drawn_scope place clock here cut kept s ns
    → AreHeld F.slot F.raw F.given (slots_of F V e w) (length s.slots)
    → IsCarried F s ns (slots_of F V e w) (calls e w) (top now) t (drawn F.told F.brings V.drawn_scope place e s)

-- Where no node is known that could be called, nothing is asked of calls.
abbrev pub NoCallsLaw : Type 0
NoCallsLaw = (F : Frame) → F.earlier ≡ [] → FrameCalls F
