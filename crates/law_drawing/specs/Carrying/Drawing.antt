-- What is drawn of a part of a node: numbers of the wires, the slots that are laid down for its registers and for what is given there, and what its calls suppose and owe.
use Rattle.std.specs.Prelude.{ℕ, suc, ◌+◌, ◌≡◌, ⊤, ◌&&◌, Bool, true, if◌then◌else◌, IsTrue, List, [], ◌∷◌, ◌++◌, length, Some, slice_get}
use Rattle.std.specs.List.{list_all}
use Rattle.hp_base.specs.declared.ty.Ty.{Ty}
use Rattle.hp_base.specs.declared.value.Value.{Value}
use Rattle.hp_base.specs.declared.value.Value.TheVariants.{Absent}
use Rattle.hp_tree.specs.Instant.{Instant, Named, Clock, holds, Place as TreePlace}
use Rattle.hp_tree.specs.ExpressionTypes.{Scope as ScopeOfTypes}
use Rattle.hp_base.specs.Known.Known.{lookup}
use Rattle.law_judged.specs.Typed.Scopes.{Scope as TypeScope}
use Rattle.law_values.specs.Valued.Judged.{Lasts}
use Rattle.hp_tree.specs.Blocks.{Decl}
use Rattle.hp_tree.specs.Meaning.{Names}
use Rattle.hp_tree.specs.Programs.{TypeDecl}
use Rattle.hp_meaning.specs.Causal.Points.{Placed}
use Rattle.hp_meaning.specs.Contract.Memory.{number_in}
use Rattle.hp_meaning.specs.Contract.Slots as slots
use Rattle.hp_meaning.specs.Contract.Slots.{register, free, input, control, is_int}
use Rattle.hp_circuit.specs.declared.circuit.Role.{Role}
use Rattle.hp_circuit.specs.declared.circuit.Role.TheVariants as role
use Rattle.hp_circuit.specs.declared.circuit.Shape.{Shape}
use Rattle.hp_circuit.specs.declared.circuit.Slot.{Slot}
use Rattle.hp_circuit.specs.Meaning.{truth}
use Rattle.hp_drawing.specs.declared.parts.Callee.{Callee}
use Rattle.hp_drawing.specs.declared.parts.Clock.{Clock as ClockLine}
use Rattle.hp_drawing.specs.declared.parts.Place.{Place}
use Rattle.hp_drawing.specs.Sketch.{Sketch, low, high, base}
use Rattle.hp_drawing.specs.Kept.{is_mark}
use Rattle.hp_drawing.specs.Scopes.{Scope, value_in, last_in, shapes_in}
use Rattle.law_drawing.specs.Carrying.Solving.{Has, Solved}

-- ---- slots by their places: an integer has none

-- the number of the slot behind some
abbrev pub past : List slots.Slot → ℕ → ℕ
past [] n = n
past (register p slots.truth ∷ ss) n = past ss (suc n)
past (register p slots.mark ∷ ss) n = past ss n
past (register p (slots.cons t m) ∷ ss) n = past ss (suc n)
past (free p t ∷ ss) n = past ss (suc n)
past (input p t ∷ ss) n = past ss (suc n)
past (control p t ∷ ss) n = past ss (suc n)

-- Slots from a number on have the numbers of a memory and of what is given.
abbrev pub AreHeld : (ℕ → ℕ) → Instant → Instant → List slots.Slot → ℕ → Type 0
AreHeld slot memory given [] n = ⊤
AreHeld slot memory given (register p slots.truth ∷ ss) n = (slot n ≡ number_in (memory p)) × AreHeld slot memory given ss (suc n)
AreHeld slot memory given (register p slots.mark ∷ ss) n = AreHeld slot memory given ss n
AreHeld slot memory given (register p (slots.cons t m) ∷ ss) n = (slot n ≡ number_in (memory p)) × AreHeld slot memory given ss (suc n)
AreHeld slot memory given (free p t ∷ ss) n = (slot n ≡ number_in (given p)) × AreHeld slot memory given ss (suc n)
AreHeld slot memory given (input p t ∷ ss) n = (slot n ≡ number_in (given p)) × AreHeld slot memory given ss (suc n)
AreHeld slot memory given (control p t ∷ ss) n = (slot n ≡ number_in (given p)) × AreHeld slot memory given ss (suc n)

-- a register takes this number next
abbrev pub Takes : List ℕ → ℕ → Role → Type 0
Takes ns k (role.Register first next) = Has ns next k
Takes ns k r = ⊥

-- the first slot, and the others
abbrev pub First : (Role → Type 0) → (List Slot → Type 0) → List Slot → Type 0
First this others [] = ⊥
First this others (slot ∷ laid) = this slot.role × others laid

abbrev pub any_role : Role → Type 0
any_role r = ⊤

-- The registers among the slots that are laid down take next what a memory holds.
abbrev pub AreLaid : List ℕ → Instant → List slots.Slot → List Slot → Type 0
AreLaid ns next [] laid = laid ≡ []
AreLaid ns next (register p slots.truth ∷ ss) laid = First (Takes ns (number_in (next p))) (AreLaid ns next ss) laid
AreLaid ns next (register p slots.mark ∷ ss) laid = AreLaid ns next ss laid
AreLaid ns next (register p (slots.cons t m) ∷ ss) laid = First (Takes ns (number_in (next p))) (AreLaid ns next ss) laid
AreLaid ns next (free p t ∷ ss) laid = First any_role (AreLaid ns next ss) laid
AreLaid ns next (input p t ∷ ss) laid = First any_role (AreLaid ns next ss) laid
AreLaid ns next (control p t ∷ ss) laid = First any_role (AreLaid ns next ss) laid

-- ---- a sketch, and what comes behind it

-- its wires have these numbers, its first wires and its first clock are as they are at first, and what is supposed and owed so far are truth values
pub record IsSolved (slot : ℕ → ℕ) (s : Sketch) (ns : List ℕ) : Type 0 where
  pub solved : Solved slot ns s.wires ns
  pub low_is : Has ns low 0
  pub high_is : Has ns high 1
  pub base_is : slice_get s.clocks base ≡ Some (record { holds = high; outer = base })
  pub shaped : length s.shapes ≡ length s.wires
  pub hyp_is : (b : Bool) × Has ns s.hyp (truth b)
  pub duty_is : (b : Bool) × Has ns s.duty (truth b)

-- what is supposed and owed so far
pub record IsTold (s : Sketch) (ns : List ℕ) (supposed owed : Bool) : Type 0 where
  pub hyp : Has ns s.hyp (truth supposed)
  pub duty : Has ns s.duty (truth owed)

-- Behind a part its slots are laid down, and what its calls suppose and owe is told; all that was there stays.
pub record IsDrawn (slot : ℕ → ℕ) (next : Instant) (supposes owes : Placed → Bool) (s : Sketch) (ns : List ℕ) (ss : List slots.Slot) (calls : List Placed) (behind : Sketch) (numbers : List ℕ) : Type 0 where
  pub more : List ℕ
  pub grown : numbers ≡ ns ++ more
  pub solved : IsSolved slot behind numbers
  pub more_clocks : List ClockLine
  pub clocks : behind.clocks ≡ s.clocks ++ more_clocks
  pub more_shapes : List Shape
  pub shapes : behind.shapes ≡ s.shapes ++ more_shapes
  pub laid : List Slot
  pub slots : behind.slots ≡ s.slots ++ laid
  pub are_laid : AreLaid numbers next ss laid
  pub told : (supposed owed : Bool) → IsTold s ns supposed owed → IsTold behind numbers (supposed && list_all supposes calls) (owed && list_all owes calls)

-- ---- where something stands

-- a clock has the wires of its steps
abbrev pub IsClock : List TypeDecl → Names → List ClockLine → List ℕ → ℕ → Clock → Type 0
IsClock types names clocks ns n [] = n ≡ base
IsClock types names clocks ns n (step ∷ clock) =
    (line : ClockLine) × (slice_get clocks n ≡ Some line) × Has ns line.holds (truth (holds types (step ∷ clock) names)) × IsClock types names clocks ns line.outer clock

-- Whether a block is there, whether its memory is read as at the start, and whether it keeps what it holds at the start where it is not there; this matters where it is there.
pub record IsPlace (ns : List ℕ) (p : Place) (here cut kept : Bool) : Type 0 where
  pub here_is : Has ns p.here (truth here)
  pub cut_is : Has ns p.cut (truth cut)
  pub kept_is : Has ns p.kept (truth kept)
  pub same : here ≡ true → kept ≡ cut

-- What a part of a node stores: read now, kept where the part is not there, and next; where it begins anew it is read, or kept, as at the start. `raw` and `next` are what slots hold and what they take.
pub record IsStored (here cut kept : Bool) (begins memory stays after raw next : Instant) : Type 0 where
  pub reads : (p : TreePlace) → number_in (memory p) ≡ (if cut then number_in (begins p) else number_in (raw p))
  pub keeps : (p : TreePlace) → number_in (stays p) ≡ (if kept then number_in (begins p) else number_in (raw p))
  pub nexts : (p : TreePlace) → number_in (next p) ≡ (if here then number_in (after p) else number_in (stays p))

-- What is known where something is drawn: the numbers of the wires so far, of its place, of its clock, of names and of their last values.
pub record IsReady (slot : ℕ → ℕ) (types : List TypeDecl) (names last : Names) (z : Scope) (place : Place) (clock : Clock) (here cut kept : Bool) (s : Sketch) (ns : List ℕ) : Type 0 where
  pub solved : IsSolved slot s ns
  pub place_is : IsPlace ns place here cut kept
  pub clock_is : IsClock types names s.clocks ns place.clock clock
  pub values : (x : List ℕ) → Has ns (value_in z x).wire (number_in (names x))
  pub lasts : (x : List ℕ) → Has ns (last_in z x).wire (number_in (last x))

-- Exactly integers are carried as marks.
pub record AreShaped (s : TypeScope) (has_last : Lasts) (scope : ScopeOfTypes) (z : Scope) : Type 0 where
  pub values : (x : List ℕ) (t : Ty) → lookup s.variables x ≡ Some t → is_mark (value_in z x).shape ≡ is_int t
  pub shapes : (x : List ℕ) (t : Ty) → lookup s.variables x ≡ Some t → is_mark (shapes_in z x) ≡ is_int t
  pub lasts : (x : List ℕ) (t : Ty) → IsTrue (has_last x) → lookup s.variables x ≡ Some t → is_mark (last_in z x).shape ≡ is_int t
  pub types : (x : List ℕ) (t : Ty) → lookup s.variables x ≡ Some t → is_int (scope x) ≡ is_int t

-- The place of a part in its node: the wires of the part are those of the node there, and so is what is shown of them, where the block of the part is there.
pub record IsAt (wires shown_all : Instant) (here : Bool) (w : TreePlace → TreePlace) (now shown : Instant) : Type 0 where
  pub inside : (p : TreePlace) → w [] ++ p ≡ w p
  pub wires_are : (p : TreePlace) → wires (w p) ≡ now p
  pub shown_is : (p : TreePlace) → shown_all (w p) ≡ (if here then shown p else Absent)

-- ---- calls

-- the outputs of a call, from number k on, with what their wires carry
abbrev pub AreOutputs : Sketch → List ℕ → Callee → Instant → List Decl → ℕ → Type 0
AreOutputs s ns c now [] k = ⊤
AreOutputs s ns c now (d ∷ ds) k =
    Has ns (c.outputs + k) (number_in (now (Named d.name ∷ [])))
    × ((p : Shape) × (slice_get s.shapes (c.outputs + k) ≡ Some p) × (is_mark p ≡ is_int d.ty)) × AreOutputs s ns c now ds (k + 1)

-- and its inputs
abbrev pub AreInputs : List ℕ → Callee → List Value → ℕ → Type 0
AreInputs ns c [] k = ⊤
AreInputs ns c (v ∷ vs) k = Has ns (c.inputs + k) (number_in v) × AreInputs ns c vs (k + 1)
