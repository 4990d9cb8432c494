-- The law of drawn blocks: whatever stands in a block, what is drawn of it carries its wires.
use Rattle.std.specs.Prelude.{ℕ, ◌≡◌, Bool, true, IsTrue, IsFalse, List, [], Some, length, filter}
use Rattle.hp_base.specs.declared.ty.Ty.{Ty}
use Rattle.hp_base.specs.Known.Known.{lookup}
use Rattle.hp_tree.specs.Blocks.{Block}
use Rattle.hp_tree.specs.ExpressionTypes.{scope_of}
use Rattle.hp_tree.specs.Instant.{Instant, Place as TreePlace}
use Rattle.hp_tree.specs.Meaning.{node_among, block_defines}
use Rattle.hp_typing.specs.Scopes.{inside}
use Rattle.hp_meaning.specs.Causal.Clocked.{BlockRight}
use Rattle.hp_meaning.specs.Causal.Points.{points_of}
use Rattle.law_values.specs.Valued.Judged.{BlockSound, lasts_of as known_of}
use Rattle.law_values.specs.Valued.Values.{Classing, AreAccepted}
use Rattle.hp_meaning.specs.Contract.FreePlaces.{is_call}
use Rattle.hp_meaning.specs.Contract.Memory.{number_in, remembers_block}
use Rattle.hp_meaning.specs.Contract.Slots.{slots_of_block}
use Rattle.law_games.specs.Wires.Wired.{Held}
use Rattle.law_games.specs.Wires.WiredBlocks.{read_of, lasts_of, wired_block, shown_block, next_block}
use Rattle.law_games.specs.Wires.WiredCallees.{callee_wires}
use Rattle.law_games.specs.Wiretyped.Typed.{IsWire, BlockTyped}
use Rattle.law_games.specs.Wiretyped.Kept.{BlockKept, BlockGiven}
use Rattle.law_games.specs.Wiretyped.Callees.{CalleeTyped, CalleeKept, CalleeGiven}
use Rattle.hp_drawing.specs.declared.parts.Place.{Place}
use Rattle.hp_drawing.specs.DrawnBlocks.{drawn_block}
use Rattle.hp_drawing.specs.Scopes.{Scope}
use Rattle.hp_drawing.specs.Sketch.{Sketch}
use Rattle.law_drawing.specs.Carrying.Drawing.{AreHeld, IsDrawn, IsStored, IsReady, IsAt, AreShaped}
use Rattle.law_drawing.specs.Carrying.Typing.{AreNumbered}
use Rattle.law_drawing.specs.Carrying.Calls.{supposes_on, owes_on}
use Rattle.law_drawing.specs.Carrying.Drawable.{BlockDrawable}
use Rattle.law_drawing.specs.Carrying.Laws.{Frame, FrameCalls, Sight}

-- A part of a node at its place: its wires are what solves its circuits, its registers hold zeros at the start, and what is given, stored and shown of it is what the node has there.
pub record IsPart (F : Frame) (m : Held) (now stay : Instant) (w : TreePlace → TreePlace) (here cut kept : Bool) (begins after shown solved : Instant) : Type 0 where
  pub solves : now ≡ solved
  pub zeros : (p : TreePlace) → number_in (m.start p) ≡ 0
  pub given : (p : TreePlace) → m.free p ≡ F.given (w p)
  pub stored : IsStored here cut kept begins m.memory stay after (λ p. F.raw (w p)) (λ p. F.next (w p))
  pub placed : IsAt F.wires F.showing here w now shown
  pub same : here ≡ true → kept ≡ cut

-- A block whose clocks are right and whose names are typed, with its typed wires, registers in shape and given values that fit. What it reads from further out has values of their types.
pub record IsBlockIn (F : Frame) (V : Sight) (b : Block) (fresh : Bool) (m : Held) (now stay : Instant) (w : TreePlace → TreePlace) (here cut kept : Bool) : Type 0 where
  pub numbered : AreNumbered F.types F.told V.scope
  pub shaped : AreShaped V.scope V.has_last V.types V.drawn_scope
  pub outer : (x : List ℕ) (t : Ty) → IsFalse (block_defines b x) → V.standing x ≡ Some [] → lookup V.scope.variables x ≡ Some t → IsWire F.types t (V.names x)
  pub outer_lasts : (x : List ℕ) → IsTrue (V.has_last x) → (t : Ty) × ((lookup V.scope.variables x ≡ Some t) × IsWire F.types t (V.last x))
  pub clocks : BlockRight V.standing b
  pub sound : BlockSound F.types (node_among F.earlier) V.scope V.has_last b
  pub drawable : BlockDrawable V.scope b
  pub shape : BlockKept F.types (CalleeKept F.types F.earlier) V.scope b m.start m.memory
  pub fits : BlockGiven F.types (CalleeGiven F.types F.earlier) V.scope b m.free
  pub typed : BlockTyped F.types (CalleeTyped F.types F.earlier) V.scope b now
  pub part :
      IsPart F m now stay w here cut kept (remembers_block F.types (callee_wires F.types F.earlier).remembers b m.start []) (next_block F.types (callee_wires F.types F.earlier) b V.names V.last m now)
      (shown_block F.types (callee_wires F.types F.earlier) b V.names V.last m now) (wired_block F.types (callee_wires F.types F.earlier) b fresh V.names V.last m now)

-- What is drawn of it: numbers of its wires, its slots in order, whose registers take what the next memory holds at their places, and what its calls suppose and owe; the names of the block have wires with their numbers.
pub record IsBlockDrawn (F : Frame) (V : Sight) (b : Block) (m : Held) (now : Instant) (w : TreePlace → TreePlace) (place : Place) (here cut kept : Bool) (declared : List (List ℕ)) (s : Sketch) (ns : List ℕ) (r : Scope × Sketch) : Type 0 where
  pub numbers : List ℕ
  pub drawn_is :
      IsDrawn F.slot F.next (supposes_on F.showing F.wires) (owes_on F.showing F.wires) s ns (slots_of_block F.types F.outs F.callee b V.types w) (filter (λ c. is_call c.point.kind) (points_of declared b w)) r.1 numbers
  pub ready : IsReady F.slot F.types (λ x. read_of b V.names now x) (λ x. lasts_of b m.memory V.last x) r.0 place [] here cut kept r.1 numbers
  pub shaped : AreShaped (inside V.scope b) (known_of b V.has_last) (scope_of b V.types) r.0

-- Wherever a block is drawn, with all that stands in it. The nodes that may be called are accepted.
abbrev pub BlockLaw : Type 0
BlockLaw =
    (F : Frame) (V : Sight) (b : Block) (fresh : Bool) (m : Held) (now stay : Instant) (w : TreePlace → TreePlace) (place : Place) (here cut kept : Bool) (declared : List (List ℕ)) (class : Classing) (s : Sketch) (ns : List ℕ)
    → FrameCalls F → AreAccepted F.types class F.earlier → IsBlockIn F V b fresh m now stay w here cut kept
    → IsReady F.slot F.types V.names V.last V.drawn_scope place [] here cut kept s ns
    → AreHeld F.slot F.raw F.given (slots_of_block F.types F.outs F.callee b V.types w) (length s.slots)
    → IsBlockDrawn F V b m now w place here cut kept declared s ns (drawn_block F.told F.brings V.drawn_scope place b s)
