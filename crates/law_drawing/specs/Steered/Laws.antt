-- What drawn wires read: a controllable variable only where the place that they are drawn of does.
-- Source: own. It is one half of what makes the early places of a circuit those of its node; the other half is that a wire reads one where its place does.
use Rattle.std.specs.Prelude.{ℕ, ◌≡◌, ◌<◌, Bool, false, IsTrue, List, length}
use Rattle.hp_base.specs.declared.span.Span.{Span}
use Rattle.hp_tree.specs.Blocks.{Decl, Block, Eqns}
use Rattle.hp_tree.specs.Expressions.{Expr}
use Rattle.hp_tree.specs.Instant.{Place, Clock}
use Rattle.hp_tree.specs.Meaning.{some_defines}
use Rattle.hp_tree.specs.Programs.{Node}
use Rattle.hp_meaning.specs.Causal.Sources.{Sources, both, NameSources, PlaceSources}
use Rattle.hp_meaning.specs.Causal.WhatIsRead.{of_expr, at_expr, names_in_block, in_block}
use Rattle.hp_circuit.specs.Reading.{edges_of, IsSteered}
use Rattle.hp_circuit.specs.declared.circuit.Role.TheVariants as role
use Rattle.hp_circuit.specs.Forms.{slot_at}
use Rattle.hp_drawing.specs.declared.parts.Callee.{Callee}
use Rattle.hp_drawing.specs.declared.parts.Place.{Place as Spot}
use Rattle.hp_drawing.specs.DrawnExpressions.{Brings, drawn}
use Rattle.hp_drawing.specs.DrawnBlocks.{drawn_definition, drawn_block}
use Rattle.hp_drawing.specs.Scopes.{Scope, enter}
use Rattle.hp_drawing.specs.Sketch.{Sketch}
use Rattle.hp_drawing.specs.Told.{Told}
use Rattle.law_drawing.specs.Steered.Marks.{Marks, Steering, Grows, Has, Leads, Low, AreMarked, IsPlaced}
use Rattle.law_drawing.specs.Steered.Placed.{Held, Placed, DefinitionPlaced, BlockPlaced}
use Rattle.law_drawing.specs.Steered.Asked.{CallsFit, RightFits, Owes, AreSeen, BringsMarked, OwnEach, IsOwned, BlockFits}

-- the places that a function tells of, and what slots stand for
abbrev pub told_by : (Place → Bool) → (ℕ → Sources) → Steering
told_by f free = record { places = λ p. IsTrue (f p); slots = free }

abbrev pub held_by : (Spot → Node → Callee → Sketch → PlaceSources → Bool) → Held
held_by held spot n c s k = IsTrue (held spot n c s k)

-- Where wires have marks, one that reads a controllable variable by some chain has a mark that leads to one.
abbrev pub MarksLaw : Type 0
MarksLaw =
    (f : Place → Bool) (free : ℕ → Sources) (s : Sketch) (ms : Marks) → AreMarked (told_by f free) s ms
    → (w : ℕ) → IsSteered s.slots (edges_of s.wires s.reads) w → (m : Sources) → Has ms w m → Leads (told_by f free) m

-- So a free slot whose wire does stands for what leads to one.
abbrev pub FreeMarksLaw : Type 0
FreeMarksLaw =
    (f : Place → Bool) (free : ℕ → Sources) (s : Sketch) (ms : Marks) → AreMarked (told_by f free) s ms
    → (i : ℕ) → i < length s.slots → (early : Bool) → (slot_at s.slots i).role ≡ role.Free early → IsSteered s.slots (edges_of s.wires s.reads) (slot_at s.slots i).wire → Leads (told_by f free) (free i)

-- What is drawn of an expression goes on with marks, and its wire leads to a controllable variable only where the expression reads one, or what stands around.
abbrev pub ExpressionMarksLaw : Type 0
ExpressionMarksLaw =
    (f : Place → Bool) (free : ℕ → Sources) (t : Told) (brings : Brings) (held : Spot → Node → Callee → Sketch → PlaceSources → Bool) (z : Scope) (context : Sources) (names : NameSources) → BringsMarked (told_by f free) t brings (held_by held) context
    → (e : Expr) (clock : Clock) (k : PlaceSources) (spot : Spot) (s : Sketch) (ms : Marks) → CallsFit t e → Owes (told_by f free) context (at_expr e clock names k) k → Placed (told_by f free) t brings (held_by held) z spot e k s
    → AreMarked (told_by f free) s ms → IsPlaced (told_by f free) ms spot context → AreSeen (told_by f free) ms z context names
    → (after : Marks) × Grows ms after × AreMarked (told_by f free) (drawn t brings z spot e s).1 after × Low (told_by f free) after (drawn t brings z spot e s).0.wire (both context (of_expr e names k))

-- And of a definition, where the names that it defines have marks that lead where the right side reads.
abbrev pub DefinitionMarksLaw : Type 0
DefinitionMarksLaw =
    (f : Place → Bool) (free : ℕ → Sources) (t : Told) (brings : Brings) (held : Spot → Node → Callee → Sketch → PlaceSources → Bool) (z : Scope) (context : Sources) (names : NameSources) → BringsMarked (told_by f free) t brings (held_by held) context
    → (ds : List Decl) (xs : List (List ℕ × Span)) (e : Expr) (clock : Clock) (k : PlaceSources) (spot : Spot) (s : Sketch) (ms : Marks) → RightFits t e xs → Owes (told_by f free) context (at_expr e clock names k) k → DefinitionPlaced (told_by f free) t brings (held_by held) z spot ds xs e k s
    → AreMarked (told_by f free) s ms → IsPlaced (told_by f free) ms spot context → AreSeen (told_by f free) ms z context names → OwnEach (told_by f free) ms z xs (both context (of_expr e names k))
    → (after : Marks) × Grows ms after × AreMarked (told_by f free) (drawn_definition t brings z spot ds xs e s) after

-- Where a block is entered, names are seen as they are inside, and each that the block defines has a wire with its mark; `inner` are the names inside, which are those outside where the block does not define them.
abbrev pub EnterMarksLaw : Type 0
EnterMarksLaw =
    (f : Place → Bool) (free : ℕ → Sources) (t : Told) (z : Scope) (context : Sources) (names inner : NameSources) (ds : List Decl) (es : Eqns) (spot : Spot) (s : Sketch) (ms : Marks) → ((x : List ℕ) → some_defines es x ≡ false → inner x ≡ names x)
    → AreMarked (told_by f free) s ms → IsPlaced (told_by f free) ms spot context → AreSeen (told_by f free) ms z context names
    → (after : Marks) × Grows ms after × AreMarked (told_by f free) (enter t z spot ds es s).1 after × AreSeen (told_by f free) after (enter t z spot ds es s).0 context inner × IsOwned after (enter t z spot ds es s).0 context inner (some_defines es)

-- What is drawn of a block goes on with marks, and its names are seen in it as they are inside: each wire leads to a controllable variable only where the places lead that it is drawn of. Calls fit the nodes that they name, and each name is defined once.
abbrev pub BlockMarksLaw : Type 0
BlockMarksLaw =
    (f : Place → Bool) (free : ℕ → Sources) (t : Told) (brings : Brings) (held : Spot → Node → Callee → Sketch → PlaceSources → Bool) → ((context : Sources) → BringsMarked (told_by f free) t brings (held_by held) context)
    → (b : Block) (z : Scope) (context : Sources) (names : NameSources) (k : PlaceSources) (spot : Spot) (s : Sketch) (ms : Marks) → BlockFits t b → Owes (told_by f free) context (in_block b names k) k → BlockPlaced (told_by f free) t brings (held_by held) z spot b k s
    → AreMarked (told_by f free) s ms → IsPlaced (told_by f free) ms spot context → AreSeen (told_by f free) ms z context names
    → (after : Marks) × Grows ms after × AreMarked (told_by f free) (drawn_block t brings z spot b s).1 after × AreSeen (told_by f free) after (drawn_block t brings z spot b s).0 context (names_in_block b names k)
