-- Marks of wires: what each wire of a circuit may read at most, as sources of a node. A wire reads a controllable variable only where its mark does.
-- Source: own. Marks grow as a circuit is drawn, one for each wire; what a hole will read is said when it is made.
use Rattle.std.specs.Prelude.{ℕ, suc, ◌+◌, ◌<◌, ◌≡◌, ◌⊎◌, ⊤, List, [], ◌∷◌, ◌++◌, Some}
use Rattle.std.specs.List.{slice_get}
use Rattle.hp_tree.specs.Instant.{Place}
use Rattle.hp_meaning.specs.Causal.Sources.{Sources, none, only, both, also}
use Rattle.hp_circuit.specs.declared.circuit.Role.{Role}
use Rattle.hp_circuit.specs.declared.circuit.Role.TheVariants as role
use Rattle.hp_circuit.specs.declared.circuit.Slot.{Slot}
use Rattle.hp_circuit.specs.declared.circuit.Wire.{Wire}
use Rattle.hp_circuit.specs.declared.circuit.Wire.TheVariants as wire
use Rattle.hp_drawing.specs.declared.parts.Clock.{Clock}
use Rattle.hp_drawing.specs.declared.parts.Place.{Place as Spot}
use Rattle.hp_drawing.specs.Sketch.{Sketch, low, high}

abbrev pub Marks : Type 0
Marks = List Sources

-- each of them has a property
module _ {A : Type 0} where
  abbrev pub Each : (A → Type 0) → List A → Type 0
  Each P [] = ⊤
  Each P (x ∷ xs) = P x × Each P xs

-- there is such a wire, and it has this mark
abbrev pub Has : Marks → ℕ → Sources → Type 0
Has ms w m = slice_get ms w ≡ Some m

-- so many wires from one on have a mark
abbrev pub AreRow : Marks → ℕ → ℕ → Sources → Type 0
AreRow ms first count m = (i : ℕ) → i < count → Has ms (first + i) m

-- marks that are more
abbrev pub Grows : Marks → Marks → Type 0
Grows ms ms' = (more : Marks) × (ms' ≡ ms ++ more)

-- What is told of a node: which places depend on a controllable variable, and, by its number, what a free slot stands for.
pub record Steering : Type 1 where
  pub places : Place → Type 0
  pub slots : ℕ → Sources

module _ (steers : Steering) where
  -- one of those that are read depends on one
  abbrev pub Leads : Sources → Type 0
  Leads none = ⊥
  Leads (only p) = steers.places p
  Leads (both s t) = Leads s ⊎ Leads t
  Leads (also s) = ⊥

  -- there is such a wire, and its mark leads to a controllable variable only where these sources do
  pub record Low (ms : Marks) (w : ℕ) (s : Sources) : Type 0 where
    pub mark : Sources
    pub has : Has ms w mark
    pub leads : Leads mark → Leads s

  -- what gives a wire its value leads nowhere else
  abbrev pub Bound : Marks → Sources → Wire → Type 0
  Bound ms m (wire.Slot i) = ⊤
  Bound ms m (wire.Constant k) = ⊤
  Bound ms m (wire.Copy a) = Low ms a m
  Bound ms m (wire.Not a) = Low ms a m
  Bound ms m (wire.And a b) = Low ms a m × Low ms b m
  Bound ms m (wire.Or a b) = Low ms a m × Low ms b m
  Bound ms m (wire.Xor a b) = Low ms a m × Low ms b m
  Bound ms m (wire.Equal a b) = Low ms a m × Low ms b m
  Bound ms m (wire.Is a k) = Low ms a m
  Bound ms m (wire.If t a b) = Low ms t m × Low ms a m × Low ms b m

  abbrev pub AllBound : Marks → List Wire → Marks → Type 0
  AllBound ms [] [] = ⊤
  AllBound ms (w ∷ ws) (m ∷ rest) = Bound ms m w × AllBound ms ws rest
  AllBound ms ws rest = ⊥

  -- nor does what is read besides
  pub record IsReadBound (ms : Marks) (r : ℕ × ℕ) : Type 0 where
    pub mark : Sources
    pub has : Has ms r.0 mark
    pub reads : Low ms r.1 mark

  -- a controllable variable has a mark that leads
  pub record Leading (ms : Marks) (w : ℕ) : Type 0 where
    pub mark : Sources
    pub has : Has ms w mark
    pub leads : Leads mark

  -- and a free slot has one that leads only where the slot does of this number
  abbrev pub IsRoleMarked : Marks → ℕ → ℕ → Role → Type 0
  IsRoleMarked ms w i (role.Register first next) = ⊤
  IsRoleMarked ms w i role.Input = ⊤
  IsRoleMarked ms w i role.Control = Leading ms w
  IsRoleMarked ms w i (role.Free early) = Low ms w (steers.slots i)

  abbrev pub IsSlotMarked : Marks → ℕ → Slot → Type 0
  IsSlotMarked ms i slot = IsRoleMarked ms slot.wire i slot.role

  -- slots that are numbered from one on
  abbrev pub AreSlotsMarked : Marks → ℕ → List Slot → Type 0
  AreSlotsMarked ms i [] = ⊤
  AreSlotsMarked ms i (c ∷ cs) = IsSlotMarked ms i c × AreSlotsMarked ms (suc i) cs

  -- there is such a wire
  pub record There (ms : Marks) (w : ℕ) : Type 0 where
    pub mark : Sources
    pub has : Has ms w mark

  abbrev pub IsClockMarked : Marks → Clock → Type 0
  IsClockMarked ms c = There ms c.holds

  -- the wires of a sketch have these marks
  pub record AreMarked (s : Sketch) (ms : Marks) : Type 0 where
    pub wires : AllBound ms s.wires ms
    pub reads : Each (IsReadBound ms) s.reads
    pub slots : AreSlotsMarked ms 0 s.slots
    pub clocks : Each (IsClockMarked ms) s.clocks
    pub low_is : Low ms low none
    pub high_is : Low ms high none
    pub hyp_is : There ms s.hyp
    pub duty_is : There ms s.duty

  -- A place, whose memory is cut by what these sources read; where it is there, and what it keeps, may read anything.
  pub record IsPlaced (ms : Marks) (p : Spot) (context : Sources) : Type 0 where
    pub cut : Low ms p.cut context
    pub here : There ms p.here
    pub kept : There ms p.kept
