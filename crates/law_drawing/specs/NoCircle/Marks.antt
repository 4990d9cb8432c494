-- Marks of wires: each wire of a circuit has one, and reads only wires whose marks are less, so wires read each other in no circle.
-- Source: own. Marks grow as a circuit is drawn, one for each wire; that of a hole, which is said later, is above all that it will read.
use Rattle.std.specs.Prelude.{ℕ, suc, ◌+◌, ◌<◌, ◌≤◌, ◌≡◌, ◌⊎◌, ⊤, max, List, [], ◌∷◌, ◌++◌, length, Some}
use Rattle.std.specs.List.{slice_get}
use Rattle.hp_tree.specs.Instant.{Place}
use Rattle.hp_meaning.specs.Causal.Sources.{Sources, none, only, both, also}
use Rattle.hp_circuit.specs.declared.circuit.Shape.{Shape}
use Rattle.hp_circuit.specs.declared.circuit.Wire.{Wire}
use Rattle.hp_circuit.specs.declared.circuit.Wire.TheVariants as wire
use Rattle.hp_drawing.specs.declared.parts.Clock.{Clock}
use Rattle.hp_drawing.specs.declared.parts.Place.{Place as Spot}
use Rattle.hp_drawing.specs.Sketch.{Sketch, low, high}
use Rattle.law_drawing.specs.Steered.Marks.{Each}

-- A mark: how high the places stand that are read, and how many steps of drawing are taken from there.
abbrev pub Mark : Type 0
Mark = ℕ × ℕ

abbrev pub Marks : Type 0
Marks = List Mark

abbrev pub ground : Mark
ground = (0, 0)

-- the mark is less, or no more: what is read counts first
abbrev pub Less : Mark → Mark → Type 0
Less a b = (a.0 < b.0) ⊎ ((a.0 ≤ b.0) × (a.1 < b.1))

abbrev pub Most : Mark → Mark → Type 0
Most a b = (a.0 < b.0) ⊎ ((a.0 ≤ b.0) × (a.1 ≤ b.1))

-- so many steps more
abbrev pub up : ℕ → Mark → Mark
up n m = (m.0, n + m.1)

-- there is such a wire, and it has this mark
abbrev pub Has : Marks → ℕ → Mark → Type 0
Has ms w m = slice_get ms w ≡ Some m

-- so many wires from one on have a mark
abbrev pub AreRow : Marks → ℕ → ℕ → Mark → Type 0
AreRow ms first count m = (i : ℕ) → i < count → Has ms (first + i) m

-- marks that are more
abbrev pub Grows : Marks → Marks → Type 0
Grows ms ms' = (more : Marks) × (ms' ≡ ms ++ more)

-- there is such a wire, and its mark is no more, or less
pub record Low (ms : Marks) (w : ℕ) (m : Mark) : Type 0 where
  pub mark : Mark
  pub has : Has ms w mark
  pub most : Most mark m

pub record Under (ms : Marks) (w : ℕ) (m : Mark) : Type 0 where
  pub mark : Mark
  pub has : Has ms w mark
  pub less : Less mark m

-- A wire of this number and mark may read another one, whose mark is less; of one mark a wire reads later ones.
abbrev pub MayRead : Marks → ℕ → Mark → ℕ → Type 0
MayRead ms i m a = Under ms a m ⊎ (Has ms a m × (i < a))

-- each wire that gives a wire its value has a property
abbrev pub Operands : (ℕ → Type 0) → Wire → Type 0
Operands P (wire.Slot i) = ⊤
Operands P (wire.Constant k) = ⊤
Operands P (wire.Copy a) = P a
Operands P (wire.Not a) = P a
Operands P (wire.And a b) = P a × P b
Operands P (wire.Or a b) = P a × P b
Operands P (wire.Xor a b) = P a × P b
Operands P (wire.Equal a b) = P a × P b
Operands P (wire.Is a k) = P a
Operands P (wire.If t a b) = P t × P a × P b

-- a wire whose value is not said yet
abbrev pub IsOpen : ℕ → Wire → Type 0
IsOpen i w = w ≡ wire.Copy i

-- What is known besides while a circuit is drawn: which wires may yet be open, and what its first wires carry.
pub record Frame : Type 1 where
  pub late : ℕ → Type 0
  pub shapes : List Shape

-- where these wires may be open, and where some more may be
abbrev pub with_late : Frame → (ℕ → Type 0) → Frame
with_late F late = record { late = late; shapes = F.shapes }

abbrev pub later : Frame → (ℕ → Type 0) → Frame
later F Q = with_late F (λ i. F.late i ⊎ Q i)

module _ (late : ℕ → Type 0) where
  -- What gives a wire its value may be read by it, or its value is not said yet.
  abbrev pub Bound : Marks → ℕ → Mark → Wire → Type 0
  Bound ms i m w = (IsOpen i w × late i) ⊎ Operands (MayRead ms i m) w

  -- wires that are numbered from one on, with their marks
  abbrev pub AllBound : Marks → ℕ → List Wire → Marks → Type 0
  AllBound ms i [] [] = ⊤
  AllBound ms i (w ∷ ws) (m ∷ rest) = Bound ms i m w × AllBound ms (suc i) ws rest
  AllBound ms i ws rest = ⊥

-- and so may what is read besides
pub record IsReadBound (ms : Marks) (r : ℕ × ℕ) : Type 0 where
  pub mark : Mark
  pub has : Has ms r.0 mark
  pub reads : MayRead ms r.0 mark r.1

-- there is such a wire
pub record There (ms : Marks) (w : ℕ) : Type 0 where
  pub mark : Mark
  pub has : Has ms w mark

abbrev pub IsClockMarked : Marks → Clock → Type 0
IsClockMarked ms c = There ms c.holds

-- the wires of a sketch have these marks
pub record AreMarked (F : Frame) (s : Sketch) (ms : Marks) : Type 0 where
  pub wires : AllBound F.late ms 0 s.wires ms
  pub first_shapes : (more : List Shape) × (s.shapes ≡ F.shapes ++ more)
  pub as_many : length s.shapes ≡ length s.wires
  pub reads : Each (IsReadBound ms) s.reads
  pub clocks : Each (IsClockMarked ms) s.clocks
  pub low_is : Low ms low ground
  pub high_is : Low ms high ground
  pub hyp_is : There ms s.hyp
  pub duty_is : There ms s.duty

-- A place, whose memory is cut by a wire of a lesser mark; where it is there, and what it keeps, may have any.
pub record IsPlaced (ms : Marks) (p : Spot) (context : Mark) : Type 0 where
  pub cut : Under ms p.cut context
  pub here : There ms p.here
  pub kept : There ms p.kept

-- ---- how high what is read stands

-- how high the places stand that something reads, by their ranks
abbrev pub top : (Place → ℕ) → Sources → ℕ
top rank none = 0
top rank (only p) = suc (rank p)
top rank (both s t) = max (top rank s) (top rank t)
top rank (also s) = top rank s

-- the mark of what is read, with what stands around
abbrev pub around : (Place → ℕ) → Mark → Sources → Mark
around rank context s = (max context.0 (top rank s), context.1)
