-- The laws of drawn blocks so far: entering a block, the clocks of its definitions, and its definitions.
use Rattle.std.specs.Prelude.{ℕ, ◌≡◌, Bool, true, IsTrue, List, [], Some, length, reverse, ⊤, ◌∷◌}
use Rattle.hp_base.specs.declared.span.Span.{Span}
use Rattle.hp_base.specs.declared.ty.Ty.{Ty}
use Rattle.hp_tree.specs.Blocks.{Decl, block, Eqns}
use Rattle.hp_tree.specs.Expressions.{Expr, call, Exprs}
use Rattle.hp_tree.specs.ExpressionTypes.{typed_in}
use Rattle.hp_tree.specs.Instant.{Named, Instance, part, top, Instant, Clock, Place as TreePlace}
use Rattle.hp_tree.specs.Meaning as meaning
use Rattle.hp_tree.specs.Programs.{Node}
use Rattle.hp_tree.specs.Meaning.{Names, node_among, inside as inside_names, clock_in}
use Rattle.hp_meaning.specs.Causal.Points.{Placed, calls}
use Rattle.hp_meaning.specs.Contract.Slots as slots
use Rattle.hp_base.specs.declared.value.Value.{Value}
use Rattle.hp_meaning.specs.Causal.Clocked.{IsOn, ClockRight}
use Rattle.hp_typing.specs.Scopes.{with_variables}
use Rattle.hp_typing.specs.Types.{type_of, types_in, args_fit}
use Rattle.hp_base.specs.Known.Known.{lookup}
use Rattle.law_values.specs.Valued.Judged.{lasts_in as known_lasts, DeclsSound, OthersKnown, ExprSound}
use Rattle.hp_meaning.specs.Contract.Memory.{number_in, remembers, remembers_block}
use Rattle.law_games.specs.Mirror.Memories.{AreApart}
use Rattle.law_games.specs.Wires.Wired.{Held, lasts_in, wired, shown, next as next_of}
use Rattle.law_games.specs.Wires.WiredBlocks.{next_block}
use Rattle.law_games.specs.Wires.WiredCallees.{callee_wires}
use Rattle.law_games.specs.Wiretyped.Typed.{IsWire, NamesTyped, ExprTyped}
use Rattle.law_games.specs.Wiretyped.Kept.{LastsKept, ExprKept, ExprGiven}
use Rattle.law_games.specs.Wiretyped.Callees.{CalleeTyped, CalleeKept, CalleeGiven}
use Rattle.hp_drawing.specs.declared.parts.Place.{Place}
use Rattle.hp_drawing.specs.Scopes.{Scope, enter, value_in}
use Rattle.hp_drawing.specs.Sketch.{Sketch}
use Rattle.hp_drawing.specs.DrawnBlocks as drawing
use Rattle.hp_drawing.specs.DrawnBlocks.{path_of}
use Rattle.law_drawing.specs.Carrying.Solving.{Has}
use Rattle.law_drawing.specs.Carrying.Drawing.{AreHeld, IsSolved, IsDrawn, IsClock, IsStored, IsReady, IsAt, AreShaped}
use Rattle.law_drawing.specs.Carrying.Typing.{AreNumbered, PathFits}
use Rattle.law_drawing.specs.Carrying.Calls.{lasts_slots, supposes_on, owes_on}
use Rattle.law_drawing.specs.Carrying.Laws.{Frame, FrameCalls, Sight, IsSight, IsWiredAt, slots_of}

-- A block whose names are defined and typed, each declared once, and whose `last` variables are in shape; what is stored of it.
pub record IsBlockAt (F : Frame) (V : Sight) (ds : List Decl) (es : Eqns) (m : Held) (now stay : Instant) (w : TreePlace → TreePlace) (here cut kept : Bool) : Type 0 where
  pub numbered : AreNumbered F.types F.told (with_variables V.scope ds)
  pub shaped : AreShaped V.scope V.has_last V.types V.drawn_scope
  pub sound : DeclsSound F.types (node_among F.earlier) (with_variables V.scope ds) es ds
  pub known : OthersKnown F.types (node_among F.earlier) (block ds es) V.scope
  pub typed : NamesTyped F.types (CalleeTyped F.types F.earlier) (with_variables V.scope ds) es now
  pub apart : AreApart ds
  pub lasts : LastsKept F.types (with_variables V.scope ds) ds m.memory
  pub outer_lasts : (x : List ℕ) → IsTrue (V.has_last x) → (t : Ty) × ((lookup V.scope.variables x ≡ Some t) × IsWire F.types t (V.last x))
  pub stored :
      IsStored here cut kept (remembers_block F.types (callee_wires F.types F.earlier).remembers (block ds es) m.start []) m.memory stay (next_block F.types (callee_wires F.types F.earlier) (block ds es) V.names V.last m now)
      (λ p. F.raw (w p)) (λ p. F.next (w p))
  pub same : here ≡ true → kept ≡ cut

-- In the block its names, and their last values, have wires with their numbers; the registers of `last` variables take what memory holds next.
pub record IsEntered (F : Frame) (V : Sight) (ds : List Decl) (es : Eqns) (m : Held) (now : Instant) (w : TreePlace → TreePlace) (place : Place) (here cut kept : Bool) (s : Sketch) (ns : List ℕ) (r : Scope × Sketch) : Type 0 where
  pub numbers : List ℕ
  pub drawn_is : IsDrawn F.slot F.next (supposes_on F.showing F.wires) (owes_on F.showing F.wires) s ns (lasts_slots F.types ds w) [] r.1 numbers
  pub ready : IsReady F.slot F.types (λ x. inside_names es V.names now x) (λ x. lasts_in ds m.memory V.last x) r.0 place [] here cut kept r.1 numbers
  pub shaped : AreShaped (with_variables V.scope ds) (known_lasts ds V.has_last) (typed_in ds V.types) r.0
  -- the scope knows the paths of clocks as they are declared
  pub paths : (x : List ℕ) → reverse (path_of r.0 ds x) ≡ clock_in ds x

abbrev pub EnterLaw : Type 0
EnterLaw =
    (F : Frame) (V : Sight) (ds : List Decl) (es : Eqns) (m : Held) (now stay : Instant) (w : TreePlace → TreePlace) (place : Place) (here cut kept : Bool) (s : Sketch) (ns : List ℕ)
    → IsBlockAt F V ds es m now stay w here cut kept → IsReady F.slot F.types V.names V.last V.drawn_scope place [] here cut kept s ns
    → AreHeld F.slot F.raw F.given (lasts_slots F.types ds w) (length s.slots)
    → IsEntered F V ds es m now w place here cut kept s ns (enter F.told V.drawn_scope place ds es s)

-- A definition of a typed right side, whose clock is right, in a block of which the scope knows the paths of clocks.
pub record IsClockedIn (F : Frame) (V : Sight) (ds : List Decl) (ys : List (List ℕ × Span)) (e : Expr) (t : Ty) (s : Sketch) (ns : List ℕ) : Type 0 where
  pub numbered : AreNumbered F.types F.told V.scope
  pub named : (x : List ℕ) (clock : Clock) (t : Ty) → V.standing x ≡ Some clock → lookup V.scope.variables x ≡ Some t → IsWire F.types t (V.names x)
  pub solved : IsSolved F.slot s ns
  pub values : (x : List ℕ) → Has ns (value_in V.drawn_scope x).wire (number_in (V.names x))
  pub paths : (x : List ℕ) → (reverse (path_of V.drawn_scope ds x) ≡ clock_in ds x) × PathFits V.scope (path_of V.drawn_scope ds x)
  pub type_is : type_of V.scope e ≡ Some t
  pub right : ClockRight V.standing (meaning.clock_of ds ys e)

-- The wire of its clock says whether the clock holds, and so do those of the clocks around it.
pub record HasClock (F : Frame) (V : Sight) (s : Sketch) (ns : List ℕ) (clock : Clock) (r : ℕ × Sketch) : Type 0 where
  pub numbers : List ℕ
  pub drawn_is : IsDrawn F.slot F.next (supposes_on F.showing F.wires) (owes_on F.showing F.wires) s ns [] [] r.1 numbers
  pub clock_is : IsClock F.types V.names r.1.clocks numbers r.0 clock

abbrev pub ClockLaw : Type 0
ClockLaw =
    (F : Frame) (V : Sight) (ds : List Decl) (ys : List (List ℕ × Span)) (e : Expr) (t : Ty) (s : Sketch) (ns : List ℕ)
    → IsClockedIn F V ds ys e t s ns → HasClock F V s ns (meaning.clock_of ds ys e) (drawing.clock_of F.told V.drawn_scope ds ys e s)

-- an expression that is no call
abbrev pub IsSingle : Expr → Type 0
IsSingle (call at f inlined es) = ⊥
IsSingle e = ⊤

-- the names on a left side have the number of one value
abbrev pub AllHave : Names → List (List ℕ × Span) → Value → Type 0
AllHave names [] v = ⊤
AllHave names (y ∷ ys) v = (number_in (names y.0) ≡ number_in v) × AllHave names ys v

-- What is drawn of a definition: numbers go on that solve it, its slots are laid down, and its calls are told.
pub record IsDefined (F : Frame) (s : Sketch) (ns : List ℕ) (ss : List slots.Slot) (cs : List Placed) (behind : Sketch) : Type 0 where
  pub numbers : List ℕ
  pub drawn_is : IsDrawn F.slot F.next (supposes_on F.showing F.wires) (owes_on F.showing F.wires) s ns ss cs behind numbers

-- Names that have the value of a right side may be given its wire.
abbrev pub DefinitionLaw : Type 0
DefinitionLaw =
    (F : Frame) (V : Sight) (ds : List Decl) (ys : List (List ℕ × Span)) (e : Expr) (t : Ty) (m : Held) (now stay : Instant) (w : TreePlace → TreePlace) (place : Place) (here cut kept : Bool) (s : Sketch) (ns : List ℕ)
    → FrameCalls F → IsSight F V → IsSingle e → IsClockedIn F V ds ys e t s ns → IsWiredAt F V e (meaning.clock_of ds ys e) t m now stay w here cut kept → AllHave V.names ys (top now)
    → IsReady F.slot F.types V.names V.last V.drawn_scope place [] here cut kept s ns
    → AreHeld F.slot F.raw F.given (slots_of F V e w) (length s.slots)
    → IsDefined F s ns (slots_of F V e w) (calls e w) (drawing.drawn_definition F.told F.brings V.drawn_scope place ds ys e s)

-- ---- definitions whose right side is a call

-- A call of a known node, with typed arguments, and its typed wires, as of an expression.
pub record IsCalledAt (F : Frame) (V : Sight) (at : Span) (f : List ℕ) (inlined : Bool) (es : Exprs) (n : Node) (clock : Clock) (m : Held) (now stay : Instant) (w : TreePlace → TreePlace) (here cut kept : Bool) : Type 0 where
  pub on : IsOn V.standing (call at f inlined es) clock
  pub sound : ExprSound F.types (node_among F.earlier) V.scope V.has_last (call at f inlined es)
  pub found : node_among F.earlier f ≡ Some n
  pub args : IsTrue (args_fit n.inputs (types_in V.scope es))
  pub shape : ExprKept F.types (CalleeKept F.types F.earlier) V.scope (call at f inlined es) m.start m.memory
  pub fits : ExprGiven F.types (CalleeGiven F.types F.earlier) V.scope (call at f inlined es) m.free
  pub typed : ExprTyped F.types (CalleeTyped F.types F.earlier) V.scope (call at f inlined es) now
  pub solves : now ≡ wired F.types (callee_wires F.types F.earlier) (call at f inlined es) V.names V.last m now
  pub zeros : (p : TreePlace) → number_in (m.start p) ≡ 0
  pub given : (p : TreePlace) → m.free p ≡ F.given (w p)
  pub stored :
      IsStored here cut kept (remembers F.types (callee_wires F.types F.earlier).remembers (call at f inlined es) m.start []) m.memory stay (next_of F.types (callee_wires F.types F.earlier) (call at f inlined es) clock V.names m now)
      (λ p. F.raw (w p)) (λ p. F.next (w p))
  pub placed : IsAt F.wires F.showing here w now (shown F.types (callee_wires F.types F.earlier) (call at f inlined es) clock V.names m now)
  pub same : here ≡ true → kept ≡ cut

-- the names on a left side have the numbers of the outputs of an instance, by their places
abbrev pub EachHas : Names → List (List ℕ × Span) → List Decl → Instant → Type 0
EachHas names [] ds now = ⊤
EachHas names (y ∷ ys) [] now = ⊥
EachHas names (y ∷ ys) (d ∷ ds) now = (number_in (names y.0) ≡ number_in (now (Named d.name ∷ []))) × EachHas names ys ds now

-- Names that have the outputs of a call may be given their wires.
abbrev pub CallDefinitionLaw : Type 0
CallDefinitionLaw =
    (F : Frame) (V : Sight) (ds : List Decl) (ys : List (List ℕ × Span)) (at : Span) (f : List ℕ) (inlined : Bool) (es : Exprs) (n : Node) (m : Held) (now stay : Instant) (w : TreePlace → TreePlace) (place : Place) (here cut kept : Bool) (s : Sketch) (ns : List ℕ)
    → FrameCalls F → IsSight F V
    → ((x : List ℕ) → (reverse (path_of V.drawn_scope ds x) ≡ clock_in ds x) × PathFits V.scope (path_of V.drawn_scope ds x)) → ClockRight V.standing (meaning.clock_of ds ys (call at f inlined es))
    → IsCalledAt F V at f inlined es n (meaning.clock_of ds ys (call at f inlined es)) m now stay w here cut kept → EachHas V.names ys n.outputs (part Instance now)
    → IsReady F.slot F.types V.names V.last V.drawn_scope place [] here cut kept s ns
    → AreHeld F.slot F.raw F.given (slots_of F V (call at f inlined es) w) (length s.slots)
    → IsDefined F s ns (slots_of F V (call at f inlined es) w) (calls (call at f inlined es) w) (drawing.drawn_definition F.told F.brings V.drawn_scope place ds ys (call at f inlined es) s)
