-- Jumps of automata, with marks.
use Rattle.std.proofs.Common.{◌≡◌, ◌⊎◌, refl, ℕ, ◌<◌, Bool, true, false, if◌then◌else◌, inl, inr}
use Rattle.hp_tree.specs.declared.block.Trans.{Trans}
use Rattle.hp_circuit.specs.declared.circuit.Shape.{Shape}
use Rattle.hp_circuit.specs.declared.circuit.Shape.TheVariants.{Truth, Cons}
use Rattle.hp_circuit.specs.declared.circuit.Wire.TheVariants as wire
use Rattle.hp_drawing.specs.declared.parts.Jump.{Jump}
use Rattle.hp_drawing.specs.declared.parts.Lines.{Lines}
use Rattle.hp_drawing.specs.declared.parts.Place.{Place}
use Rattle.hp_drawing.specs.declared.parts.Rests.{Rests}
use Rattle.hp_drawing.specs.Told.{or_none}
use Rattle.hp_drawing.specs.Sketch.{Sketch, low, high, push, set, hole}
use Rattle.hp_drawing.specs.Places.{new_register, takes, jump_hole, jump_to, jump_set, jump_add, jump_end, new_lines, lines_take, lines_end, Numbers, transition, restarts}
use Rattle.law_drawing.specs.NoCircle.Marks.{Mark, Marks, ground, Less, Grows, Has, Low, Under, There, Frame, later, AreMarked, IsPlaced}
use Rattle.law_drawing.proofs.NoCircleLemmas.Orders.{ground-most, most-less}
use Rattle.law_drawing.proofs.NoCircleLemmas.Steps.{grows-both, has-grows, low-grows, under-grows, there-grows, low-own, low-under, Step, hole-marked, hole-behind, gate, weaken, set-said, set-may}
use Rattle.law_drawing.proofs.NoCircleLemmas.Parts.{placed-grows, IsRegistered, registered-grows, new_register-marked, takes-marked}

-- both wires of a jump have a mark, or stand no higher, or below it
abbrev pub JumpHas : Marks → Jump → Mark → Type 0
JumpHas ms j m = Has ms j.state m × Has ms j.restart m

abbrev pub JumpLow : Marks → Jump → Mark → Type 0
JumpLow ms j m = Low ms j.state m × Low ms j.restart m

abbrev pub JumpUnder : Marks → Jump → Mark → Type 0
JumpUnder ms j m = Under ms j.state m × Under ms j.restart m

pub jump-has-grows : (ms ms' : Marks) → Grows ms ms' → (j : Jump) (m : Mark) → JumpHas ms j m → JumpHas ms' j m
jump-has-grows ms ms' g j m h = (has-grows ms ms' g j.state m h.0, has-grows ms ms' g j.restart m h.1)

pub jump-low-grows : (ms ms' : Marks) → Grows ms ms' → (j : Jump) (m : Mark) → JumpLow ms j m → JumpLow ms' j m
jump-low-grows ms ms' g j m h = (low-grows ms ms' g j.state m h.0, low-grows ms ms' g j.restart m h.1)

pub jump-under-grows : (ms ms' : Marks) → Grows ms ms' → (j : Jump) (m : Mark) → JumpUnder ms j m → JumpUnder ms' j m
jump-under-grows ms ms' g j m h = (under-grows ms ms' g j.state m h.0, under-grows ms ms' g j.restart m h.1)

pub jump-own : (ms : Marks) (j : Jump) (m : Mark) → JumpHas ms j m → JumpLow ms j m
jump-own ms j m h = (low-own ms j.state m h.0, low-own ms j.restart m h.1)

pub jump-below : (ms : Marks) (j : Jump) (m n : Mark) → Less m n → JumpLow ms j m → JumpUnder ms j n
jump-below ms j m n f h = (low-under ms j.state m n f h.0, low-under ms j.restart m n f h.1)

-- what is above something is above the constants
pub above-ground : (ms : Marks) (c : ℕ) (m : Mark) → Under ms c m → Less ground m
above-ground ms c m l = most-less ground l.mark m (ground-most l.mark) l.less

abbrev pub Jumped : Frame → Marks → Mark → Jump × Sketch → Type 0
Jumped F ms m d = (ms' : Marks) × Grows ms ms' × AreMarked F d.1 ms' × JumpHas ms' d.0 m

-- the two wires of a jump, which may be open
abbrev pub JumpLate : Jump → ℕ → Type 0
JumpLate j k = (k ≡ j.state) ⊎ (k ≡ j.restart)

pub jump-hole-marked : {F : Frame} (p : Shape) (s : Sketch) (ms : Marks) (m : Mark) → ((k : ℕ) → JumpLate (jump_hole p s).0 k → F.late k) → AreMarked F s ms → Jumped F ms m (jump_hole p s)
unfolding jump_hole
jump-hole-marked p s ms m f a =
    let state = hole p s in
    let u = hole-marked p s ms m (λ e. f state.0 (inl refl)) a in
    let v = hole-marked Truth state.1 u.0 m (λ e. f (hole Truth state.1).0 (inr refl)) u.2 in
    (v.0, grows-both ms u.0 v.0 u.1 v.1, v.2, (has-grows u.0 v.0 v.1 state.0 m u.3, v.3))

-- and it stands behind all others
jump-behind : {F : Frame} (p : Shape) (s : Sketch) (ms : Marks) (m : Mark) (j : Jump) → AreMarked F s ms → JumpHas ms j m → (j.state < (jump_hole p s).0.state) × (j.restart < (jump_hole p s).0.restart)
unfolding jump_hole
jump-behind {F} p s ms m j a h =
    let state = hole p s in
    let H = later F (λ k. k ≡ state.0) in
    let u = hole-marked p s ms m (λ e. inr refl) (weaken H.late s ms (λ k q. inl q) a) in
    (hole-behind p s ms j.state m a h.0, hole-behind Truth state.1 u.0 j.restart m u.2 (has-grows ms u.0 u.1 j.restart m h.1))

-- the state of a number, whose restart is a constant
pub jump-to-marked : {F : Frame} (p : Shape) (number restart : ℕ) (s : Sketch) (ms : Marks) → AreMarked F s ms → Low ms restart ground → (ms' : Marks) × Grows ms ms' × AreMarked F (jump_to p number restart s).1 ms' × JumpLow ms' (jump_to p number restart s).0 ground
unfolding jump_to
jump-to-marked p number restart s ms a l =
    let u = gate (wire.Constant number) p s ms ground a tt in
    (u.0, u.1, u.2, (low-own u.0 (push (wire.Constant number) p s).0 ground u.3, low-grows ms u.0 u.1 restart ground l))

jump-set-marked : (F : Frame) (j : Jump) (c : ℕ) (source rest : Jump) (s : Sketch) (ms : Marks) (m : Mark) → AreMarked (later (later F (JumpLate j)) (JumpLate rest)) s ms → JumpHas ms j m → Under ms c m → JumpUnder ms source m → JumpHas ms rest m → (j.state < rest.state) × (j.restart < rest.restart)
    → AreMarked (later F (JumpLate rest)) (jump_set j c source rest s) ms
jump-set-marked F j c source rest s ms m a h l k r n =
    set-may (later F (JumpLate rest)).late j.restart (wire.If c source.restart rest.restart) (set j.state (wire.If c source.state rest.state) s) ms m second
    (set-may half j.state (wire.If c source.state rest.state) s ms m first a h.0 (inl l, inl k.0, inr (r.0, n.0))) h.1 (inl l, inl k.1, inr (r.1, n.1))
  where
    half : ℕ → Type 0
    half i = (F.late i ⊎ (i ≡ j.restart)) ⊎ JumpLate rest i

    first : (i : ℕ) → (later (later F (JumpLate j)) (JumpLate rest)).late i → (i ≡ j.state) ⊎ half i
    first i (inl (inl q)) = inr (inl (inl q))
    first i (inl (inr (inl q))) = inl q
    first i (inl (inr (inr q))) = inr (inl (inr q))
    first i (inr q) = inr (inr q)

    second : (i : ℕ) → half i → (i ≡ j.restart) ⊎ (later F (JumpLate rest)).late i
    second i (inl (inl q)) = inr (inl q)
    second i (inl (inr q)) = inl q
    second i (inr q) = inr (inr q)

pub jump-add-marked : (F : Frame) (j : Jump) (p : Shape) (c : ℕ) (source : Jump) (s : Sketch) (ms : Marks) (m : Mark) → AreMarked (later F (JumpLate j)) s ms → JumpHas ms j m → Under ms c m → JumpUnder ms source m → Jumped (later F (JumpLate (jump_add j p c source s).0)) ms m (jump_add j p c source s)
unfolding jump_add
jump-add-marked F j p c source s ms m a h l k =
    let rest = jump_hole p s in
    let H = later (later F (JumpLate j)) (JumpLate rest.0) in
    let u = jump-hole-marked p s ms m (λ i q. inr q) (weaken H.late s ms (λ i q. inl q) a) in (
      u.0,
      u.1,
      jump-set-marked F j c source rest.0 rest.1 u.0 m u.2 (jump-has-grows ms u.0 u.1 j m h) (under-grows ms u.0 u.1 c m l) (jump-under-grows ms u.0 u.1 source m k) u.3 (jump-behind p s ms m j a h),
      u.3,
    )

pub jump-end-marked : (F : Frame) (j source : Jump) (s : Sketch) (ms : Marks) (m : Mark) → AreMarked (later F (JumpLate j)) s ms → JumpHas ms j m → JumpUnder ms source m → AreMarked F (jump_end j source s) ms
unfolding jump_end
jump-end-marked F j source s ms m a h k =
    set-said F.late j.restart (wire.Copy source.restart) (set j.state (wire.Copy source.state) s) ms m (λ i q. elim q [ inl o ↦ inr o | inr o ↦ inl o ])
    (set-said (λ i. F.late i ⊎ (i ≡ j.restart)) j.state (wire.Copy source.state) s ms m (λ i q. elim q [ inl o ↦ inr (inl o) | inr o ↦ elim o [ inl y ↦ inl y | inr y ↦ inr (inr y) ] ]) a h.0 k.0) h.1 k.1

-- a constant that says whether a body begins anew
restarts-low : {F : Frame} (q : Trans) (s : Sketch) (ms : Marks) → AreMarked F s ms → Low ms (restarts q) ground
restarts-low q s ms a = by q.restart
  where
    by : (b : Bool) → Low ms (if b then high else low) ground
    by true = a.high_is
    by false = a.low_is

pub transition-marked : (F : Frame) (numbers : Numbers) (p : Shape) (rest : Jump) (c : ℕ) (q : Trans) (s : Sketch) (ms : Marks) (m : Mark) → AreMarked (later F (JumpLate rest)) s ms → JumpHas ms rest m → Under ms c m
    → Jumped (later F (JumpLate (transition numbers p rest c q s).0)) ms m (transition numbers p rest c q s)
unfolding transition
transition-marked F numbers p rest c q s ms m a h l =
    let target = jump_to p (or_none (numbers q.target)) (restarts q) s in
    let u = jump-to-marked p (or_none (numbers q.target)) (restarts q) s ms a (restarts-low q s ms a) in
    let v = jump-add-marked F rest p c target.0 target.1 u.0 m u.2 (jump-has-grows ms u.0 u.1 rest m h) (under-grows ms u.0 u.1 c m l) (jump-below u.0 target.0 ground m (above-ground ms c m l) u.3) in
    (v.0, grows-both ms u.0 v.0 u.1 v.1, v.2, v.3)

-- ---- the words of an automaton

-- what memory selects reads what cuts the place; the active word has its mark
pub record AreLines (ms : Marks) (l : Lines) (context active : Mark) : Type 0 where
  pub next_is : IsRegistered ms l.next context
  pub pending_is : IsRegistered ms l.pending context
  pub selected_is : JumpLow ms l.selected context
  pub active_is : JumpHas ms l.active active

pub lines-grow : (ms ms' : Marks) → Grows ms ms' → (l : Lines) (context active : Mark) → AreLines ms l context active → AreLines ms' l context active
lines-grow ms ms' g l context active h = record {
  next_is = registered-grows ms ms' g l.next context h.next_is;
  pending_is = registered-grows ms ms' g l.pending context h.pending_is;
  selected_is = jump-low-grows ms ms' g l.selected context h.selected_is;
  active_is = jump-has-grows ms ms' g l.active active h.active_is;
}

pub new-lines-marked : (F : Frame) (count : ℕ) (spot : Place) (s : Sketch) (ms : Marks) (context active : Mark) → AreMarked F s ms → IsPlaced ms spot context
    → (ms' : Marks) × Grows ms ms' × AreMarked (later F (JumpLate (new_lines count spot s).0.active)) (new_lines count spot s).1 ms' × AreLines ms' (new_lines count spot s).0 context active
unfolding new_lines
new-lines-marked F count spot s ms context active a h =
    let next = new_register spot 0 (Cons count) s in
    let u = new_register-marked spot 0 (Cons count) s ms context a h in
    let pending = new_register spot 0 Truth next.1 in
    let v = new_register-marked spot 0 Truth next.1 u.0 context u.2 (placed-grows ms u.0 u.1 spot context h) in
    let active_hole = (jump_hole (Cons count) pending.1).0 in
    let w = jump-hole-marked (Cons count) pending.1 v.0 active (λ k q. inr q) (weaken (later F (JumpLate active_hole)).late pending.1 v.0 (λ k q. inl q) v.2) in
    let next' = registered-grows u.0 w.0 (grows-both u.0 v.0 w.0 v.1 w.1) next.0 context u.3 in
    let pending' = registered-grows v.0 w.0 w.1 pending.0 context v.3 in (
      w.0,
      grows-both ms v.0 w.0 (grows-both ms u.0 v.0 u.1 v.1) w.1,
      w.2,
      record { next_is = next'; pending_is = pending'; selected_is = (next'.reads, pending'.reads); active_is = w.3 },
    )

pub lines-take-marked : {F : Frame} (l : Lines) (spot : Place) (next : Jump) (s : Sketch) (ms : Marks) (context active : Mark) → AreMarked F s ms → IsPlaced ms spot context → AreLines ms l context active → There ms next.state → There ms next.restart
    → Step F ms (lines_take l spot next s)
unfolding lines_take
lines-take-marked l spot next s ms context active a h k t r =
    let u = takes-marked l.next spot next.state s ms context a h k.next_is t in
    let s1 = takes l.next spot next.state s in
    let v = takes-marked l.pending spot next.restart s1 u.0 context u.2 (placed-grows ms u.0 u.1 spot context h) (registered-grows ms u.0 u.1 l.pending context k.pending_is) (there-grows ms u.0 u.1 next.restart r) in
    (v.0, grows-both ms u.0 v.0 u.1 v.1, v.2)

pub lines-end-marked : (F : Frame) (l : Lines) (rests : Rests) (s : Sketch) (ms : Marks) (context active weak : Mark) → AreMarked (later (later F (JumpLate rests.weak)) (JumpLate rests.strong)) s ms → AreLines ms l context active → Less context active → Less active weak → JumpHas ms rests.strong active
    → JumpHas ms rests.weak weak → Step F ms (lines_end l rests s)
unfolding lines_end
lines-end-marked F l rests s ms context active weak a k from more h j =
    let s1 = jump_end rests.strong l.selected s in
    let b = jump-end-marked (later F (JumpLate rests.weak)) rests.strong l.selected s ms active a h (jump-below ms l.selected context active from k.selected_is) in
    let u = jump-to-marked l.shape 0 low s1 ms b b.low_is in
    let first = jump_to l.shape 0 low s1 in
    (u.0, u.1, jump-end-marked F rests.weak first.0 first.1 u.0 weak u.2 (jump-has-grows ms u.0 u.1 rests.weak weak j) (jump-below u.0 first.0 ground weak (most-less ground active weak (ground-most active) more) u.3))
