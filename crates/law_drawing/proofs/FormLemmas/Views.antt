-- Sketches in which each wire fits what it reads: what is known of wires and slots, and that it stays as a sketch grows.
use Rattle.std.proofs.Common.{◌≡◌, ◌⊎◌, ℕ, zero, suc, List, [], ◌∷◌, ◌++◌, length, map, Option, None, Some, refl, ap, subst, inl, inr}
use Rattle.std.specs.Prelude.{⊤}
use Rattle.std.specs.List.{slice_get}
use Rattle.std.proofs.lemmas.Option.{same_Some, none-some}
use Rattle.hp_circuit.specs.declared.circuit.Role.{Role}
use Rattle.hp_circuit.specs.declared.circuit.Role.TheVariants as role
use Rattle.hp_circuit.specs.declared.circuit.Shape.{Shape}
use Rattle.hp_circuit.specs.declared.circuit.Shape.TheVariants.{Truth}
use Rattle.hp_circuit.specs.declared.circuit.Slot.{Slot}
use Rattle.hp_circuit.specs.declared.circuit.Wire.{Wire}
use Rattle.hp_circuit.specs.declared.circuit.Wire.TheVariants as wire
use Rattle.hp_circuit.specs.Forms.{IsShape, IsValue}
use Rattle.hp_drawing.specs.declared.parts.Clock.{Clock}
use Rattle.hp_drawing.specs.Sketch.{Sketch, low, high}
use Rattle.law_drawing.specs.Steered.Marks.{Each}

module _ {A : Type 0} where
  -- there is an element of this number, and it is this one
  abbrev pub Has : List A → ℕ → A → Type 0
  Has xs i x = slice_get xs i ≡ Some x

  pub get-front : (xs more : List A) (i : ℕ) (x : A) → Has xs i x → Has (xs ++ more) i x
  get-front [] more i x h = absurd (none-some x h)
  get-front (y ∷ xs) more zero x h = h
  get-front (y ∷ xs) more (suc i) x h = get-front xs more i x h

  pub get-next : (xs : List A) (x : A) → Has (xs ++ x ∷ []) (length xs) x
  get-next [] x = refl
  get-next (y ∷ xs) x = get-next xs x

  pub each-into : (P Q : A → Type 0) → ((x : A) → P x → Q x) → (xs : List A) → Each P xs → Each Q xs
  each-into P Q f [] h = tt
  each-into P Q f (x ∷ xs) h = (f x h.0, each-into P Q f xs h.1)

  pub each-at : (P : A → Type 0) (xs : List A) (i : ℕ) (x : A) → Each P xs → Has xs i x → P x
  each-at P [] i x h e = absurd (none-some x e)
  each-at P (y ∷ ys) zero x h e = subst P (same_Some y x e) h.0
  each-at P (y ∷ ys) (suc i) x h e = each-at P ys i x h.1 e

module _ {A B : Type 0} (f : A → B) where
  pub map-next : (xs : List A) (x : A) → map f (xs ++ x ∷ []) ≡ map f xs ++ f x ∷ []
  map-next [] x = refl
  map-next (y ∷ xs) x = ap (λ l. f y ∷ l) (map-next xs x)

  pub map-last : (xs : List A) (x : A) → Has (map f (xs ++ x ∷ [])) (length xs) (f x)
  map-last [] x = refl
  map-last (y ∷ xs) x = map-last xs x

-- ---- wires and slots

-- the slot that a wire carries
abbrev pub slot_by : Wire → Option ℕ
slot_by (wire.Slot i) = Some i
slot_by (wire.Constant k) = None
slot_by (wire.Copy a) = None
slot_by (wire.Not a) = None
slot_by (wire.And a b) = None
slot_by (wire.Or a b) = None
slot_by (wire.Xor a b) = None
slot_by (wire.Equal a b) = None
slot_by (wire.Is a k) = None
slot_by (wire.If t a b) = None

abbrev pub shape_of : Slot → Shape
shape_of c = c.shape

-- what each wire carries, which slot it carries, and what each slot holds
pub record View : Type 0 where
  pub shapes : List Shape
  pub owners : List (Option ℕ)
  pub slots : List Shape

abbrev pub view_of : Sketch → View
view_of s = record { shapes = s.shapes; owners = map slot_by s.wires; slots = map shape_of s.slots }

-- all that is known stays
pub record Grows (a b : View) : Type 0 where
  pub shapes : (i : ℕ) (p : Shape) → Has a.shapes i p → Has b.shapes i p
  pub owners : (i : ℕ) (o : Option ℕ) → Has a.owners i o → Has b.owners i o
  pub slots : (i : ℕ) (p : Shape) → Has a.slots i p → Has b.slots i p

pub grows-none : (v : View) → Grows v v
grows-none v = record { shapes = λ i p h. h; owners = λ i o h. h; slots = λ i p h. h }

pub grows-both : (a b c : View) → Grows a b → Grows b c → Grows a c
grows-both a b c g h = record {
  shapes = λ i p q. h.shapes i p (g.shapes i p q);
  owners = λ i o q. h.owners i o (g.owners i o q);
  slots = λ i p q. h.slots i p (g.slots i p q);
}

-- a wire of this shape fits what it reads
abbrev pub Fits : View → Shape → Wire → Type 0
Fits v p (wire.Slot i) = Has v.slots i p
Fits v p (wire.Constant k) = IsValue p k
Fits v p (wire.Copy a) = Has v.shapes a p
Fits v p (wire.Not a) = (p ≡ Truth) × Has v.shapes a Truth
Fits v p (wire.And a b) = (p ≡ Truth) × Has v.shapes a Truth × Has v.shapes b Truth
Fits v p (wire.Or a b) = (p ≡ Truth) × Has v.shapes a Truth × Has v.shapes b Truth
Fits v p (wire.Xor a b) = (p ≡ Truth) × Has v.shapes a Truth × Has v.shapes b Truth
Fits v p (wire.Equal a b) = (p ≡ Truth) × (q : Shape) × Has v.shapes a q × Has v.shapes b q
Fits v p (wire.Is a k) = (p ≡ Truth) × (q : Shape) × Has v.shapes a q × IsValue q k
Fits v p (wire.If t a b) = Has v.shapes t Truth × Has v.shapes a p × Has v.shapes b p

abbrev pub AllFit : View → List Wire → List Shape → Type 0
AllFit v [] [] = ⊤
AllFit v (w ∷ ws) (p ∷ ps) = Fits v p w × AllFit v ws ps
AllFit v ws ps = ⊥

abbrev pub Among : List ℕ → ℕ → Type 0
Among [] i = ⊥
Among (j ∷ js) i = (j ≡ i) ⊎ Among js i

-- A register begins with a value, and takes a wire of its shape next, where this is not pending.
abbrev pub RoleIs : View → List ℕ → ℕ → Shape → Role → Type 0
RoleIs v pending i p (role.Register first next) = IsValue p first × (Has v.shapes next p ⊎ Among pending i)
RoleIs v pending i p role.Input = ⊤
RoleIs v pending i p role.Control = ⊤
RoleIs v pending i p (role.Free early) = ⊤

-- the slot of this number
abbrev pub SlotIs : View → List ℕ → ℕ → Slot → Type 0
SlotIs v pending i c = Has v.shapes c.wire c.shape × Has v.owners c.wire (Some i) × RoleIs v pending i c.shape c.role

-- slots that are numbered from one on
abbrev pub AreSlots : View → List ℕ → ℕ → List Slot → Type 0
AreSlots v pending i [] = ⊤
AreSlots v pending i (c ∷ cs) = SlotIs v pending i c × AreSlots v pending (suc i) cs

-- there is such a wire
abbrev pub IsThere : View → ℕ → Type 0
IsThere v w = (p : Shape) × Has v.shapes w p

abbrev pub IsReadThere : View → ℕ × ℕ → Type 0
IsReadThere v r = IsThere v r.0 × IsThere v r.1

abbrev pub IsTruthClock : View → Clock → Type 0
IsTruthClock v c = Has v.shapes c.holds Truth

-- A sketch in which each wire and each slot fits; of pending registers it is not said what they take next.
pub record AreFormed (v : View) (pending : List ℕ) (s : Sketch) : Type 0 where
  pub wires : AllFit v s.wires s.shapes
  pub shaped : Each IsShape s.shapes
  pub slots : AreSlots v pending 0 s.slots
  pub reads : Each (IsReadThere v) s.reads
  pub clocks : Each (IsTruthClock v) s.clocks
  pub low_is : Has v.shapes low Truth
  pub high_is : Has v.shapes high Truth
  pub assume_is : Has v.shapes s.assume Truth
  pub hyp_is : Has v.shapes s.hyp Truth
  pub duty_is : Has v.shapes s.duty Truth

abbrev pub IsFormed : List ℕ → Sketch → Type 0
IsFormed pending s = AreFormed (view_of s) pending s

-- a wire that carries no slot, so its value may be said later
abbrev pub IsHole : Sketch → ℕ → Shape → Type 0
IsHole s w p = Has s.shapes w p × Has (map slot_by s.wires) w None

-- ---- what stays

pub fits-grows : (a b : View) → Grows a b → (p : Shape) (w : Wire) → Fits a p w → Fits b p w
fits-grows a b g p (wire.Slot i) h = g.slots i p h
fits-grows a b g p (wire.Constant k) h = h
fits-grows a b g p (wire.Copy x) h = g.shapes x p h
fits-grows a b g p (wire.Not x) h = (h.0, g.shapes x Truth h.1)
fits-grows a b g p (wire.And x y) h = (h.0, g.shapes x Truth h.1, g.shapes y Truth h.2)
fits-grows a b g p (wire.Or x y) h = (h.0, g.shapes x Truth h.1, g.shapes y Truth h.2)
fits-grows a b g p (wire.Xor x y) h = (h.0, g.shapes x Truth h.1, g.shapes y Truth h.2)
fits-grows a b g p (wire.Equal x y) h = (h.0, h.1, g.shapes x h.1 h.2, g.shapes y h.1 h.3)
fits-grows a b g p (wire.Is x k) h = (h.0, h.1, g.shapes x h.1 h.2, h.3)
fits-grows a b g p (wire.If t x y) h = (g.shapes t Truth h.0, g.shapes x p h.1, g.shapes y p h.2)

pub all-fit-grows : (a b : View) → Grows a b → (ws : List Wire) (ps : List Shape) → AllFit a ws ps → AllFit b ws ps
all-fit-grows a b g [] [] h = tt
all-fit-grows a b g [] (p ∷ ps) h = absurd h
all-fit-grows a b g (w ∷ ws) [] h = absurd h
all-fit-grows a b g (w ∷ ws) (p ∷ ps) h = (fits-grows a b g p w h.0, all-fit-grows a b g ws ps h.1)

role-grows : (a b : View) → Grows a b → (pending : List ℕ) (i : ℕ) (p : Shape) (r : Role) → RoleIs a pending i p r → RoleIs b pending i p r
role-grows a b g pending i p (role.Register first next) h = (h.0, elim h.1 [ inl k ↦ inl (g.shapes next p k) | inr k ↦ inr k ])
role-grows a b g pending i p role.Input h = tt
role-grows a b g pending i p role.Control h = tt
role-grows a b g pending i p (role.Free early) h = tt

pub slots-grow : (a b : View) → Grows a b → (pending : List ℕ) (i : ℕ) (cs : List Slot) → AreSlots a pending i cs → AreSlots b pending i cs
slots-grow a b g pending i [] h = tt
slots-grow a b g pending i (c ∷ cs) h =
    ((g.shapes c.wire c.shape h.0.0, g.owners c.wire (Some i) h.0.1, role-grows a b g pending i c.shape c.role h.0.2), slots-grow a b g pending (suc i) cs h.1)

pub reads-grow : (a b : View) → Grows a b → (r : ℕ × ℕ) → IsReadThere a r → IsReadThere b r
reads-grow a b g r h = ((h.0.0, g.shapes r.0 h.0.0 h.0.1), (h.1.0, g.shapes r.1 h.1.0 h.1.1))

pub clock-grows : (a b : View) → Grows a b → (c : Clock) → IsTruthClock a c → IsTruthClock b c
clock-grows a b g c h = g.shapes c.holds Truth h

-- ---- steps

-- what a step keeps, behind which all fits
pub record Step (pending : List ℕ) (s s' : Sketch) : Type 0 where
  pub grows : Grows (view_of s) (view_of s')
  pub formed : IsFormed pending s'

-- a wire that a step makes, of this shape
abbrev pub Made : List ℕ → Sketch → Shape → ℕ × Sketch → Type 0
Made pending s p d = Step pending s d.1 × Has d.1.shapes d.0 p

abbrev pub Holed : List ℕ → Sketch → Shape → ℕ × Sketch → Type 0
Holed pending s p d = Step pending s d.1 × IsHole d.1 d.0 p

pub holed-made : (pending : List ℕ) (s : Sketch) (p : Shape) (d : ℕ × Sketch) → Holed pending s p d → Made pending s p d
holed-made pending s p d h = (h.0, h.1.0)

pub still : (pending : List ℕ) (s : Sketch) → IsFormed pending s → Step pending s s
still pending s a = record { grows = grows-none (view_of s); formed = a }

pub onward : (P Q : List ℕ) (s s1 s2 : Sketch) → Step P s s1 → Step Q s1 s2 → Step Q s s2
onward P Q s s1 s2 h k = record { grows = grows-both (view_of s) (view_of s1) (view_of s2) h.grows k.grows; formed = k.formed }

pub has-on : (P : List ℕ) (s s' : Sketch) (w : ℕ) (p : Shape) → Step P s s' → Has s.shapes w p → Has s'.shapes w p
has-on P s s' w p h k = h.grows.shapes w p k

pub hole-on : (P : List ℕ) (s s' : Sketch) (w : ℕ) (p : Shape) → Step P s s' → IsHole s w p → IsHole s' w p
hole-on P s s' w p h k = (h.grows.shapes w p k.0, h.grows.owners w None k.1)

-- a wire carries a shape that has values
pub shape-is : (P : List ℕ) (s : Sketch) (w : ℕ) (p : Shape) → IsFormed P s → Has s.shapes w p → IsShape p
shape-is P s w p a h = each-at IsShape s.shapes w p a.shaped h

pub fit-length : (v : View) (ws : List Wire) (ps : List Shape) → AllFit v ws ps → length ws ≡ length ps
fit-length v [] [] h = refl
fit-length v [] (p ∷ ps) h = absurd h
fit-length v (w ∷ ws) [] h = absurd h
fit-length v (w ∷ ws) (p ∷ ps) h = ap suc (fit-length v ws ps h.1)
