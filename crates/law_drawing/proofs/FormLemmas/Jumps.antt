-- Jumps and words of automata carry states by their numbers.
use Rattle.std.proofs.Common.{◌≡◌, ℕ, ◌+◌, ◌<◌, ◌≤◌, Bool, true, false, if◌then◌else◌, List, ◌∷◌, Some, refl, sym, subst, inl, inr, arith}
use Rattle.std.specs.Str.{bytes_eq}
use Rattle.hp_tree.specs.declared.block.Trans.{Trans}
use Rattle.hp_tree.specs.Blocks.{States, no_state, more_states}
use Rattle.law_values.specs.Valued.Judged.{HasState}
use Rattle.hp_circuit.specs.declared.circuit.Shape.{Shape}
use Rattle.hp_circuit.specs.declared.circuit.Shape.TheVariants.{Truth, Cons}
use Rattle.hp_circuit.specs.declared.circuit.Wire.TheVariants as wire
use Rattle.hp_circuit.specs.Forms.{IsShape, IsValue}
use Rattle.hp_drawing.specs.declared.parts.Jump.{Jump}
use Rattle.hp_drawing.specs.declared.parts.Lines.{Lines}
use Rattle.hp_drawing.specs.declared.parts.Place.{Place}
use Rattle.hp_drawing.specs.declared.parts.Rests.{Rests}
use Rattle.hp_drawing.specs.Told.{or_none, none_of, put_at}
use Rattle.hp_drawing.specs.Planned.{count_states}
use Rattle.hp_drawing.specs.Sketch.{Sketch, low, high, push, set, hole}
use Rattle.hp_drawing.specs.Places.{new_register, takes, jump_hole, jump_to, jump_set, jump_add, jump_end, new_lines, lines_take, lines_end, Numbers, put_numbers, numbers_of, transition, restarts}
use Rattle.law_drawing.proofs.FormLemmas.Views.{Has, IsFormed, IsHole, Step, onward, has-on, hole-on, shape-is}
use Rattle.law_drawing.proofs.FormLemmas.Steps.{gate, set-step, hole-step}
use Rattle.law_drawing.proofs.FormLemmas.Parts.{weaken, IsPlaced, placed-on, IsRegister, register-on, register-step, takes-step}

-- a state of this shape, and a truth value
abbrev pub JumpHas : Sketch → Jump → Shape → Type 0
JumpHas s j p = Has s.shapes j.state p × Has s.shapes j.restart Truth

abbrev pub JumpHole : Sketch → Jump → Shape → Type 0
JumpHole s j p = IsHole s j.state p × IsHole s j.restart Truth

pub jump-on : (P : List ℕ) (s s' : Sketch) (j : Jump) (p : Shape) → Step P s s' → JumpHas s j p → JumpHas s' j p
jump-on P s s' j p st h = (has-on P s s' j.state p st h.0, has-on P s s' j.restart Truth st h.1)

pub jump-hole-on : (P : List ℕ) (s s' : Sketch) (j : Jump) (p : Shape) → Step P s s' → JumpHole s j p → JumpHole s' j p
jump-hole-on P s s' j p st h = (hole-on P s s' j.state p st h.0, hole-on P s s' j.restart Truth st h.1)

pub jump-has : (s : Sketch) (j : Jump) (p : Shape) → JumpHole s j p → JumpHas s j p
jump-has s j p h = (h.0.0, h.1.0)

abbrev pub Jumped : List ℕ → Sketch → Shape → Jump × Sketch → Type 0
Jumped P s p d = Step P s d.1 × JumpHole d.1 d.0 p

pub jump-hole-step : (P : List ℕ) (p : Shape) (s : Sketch) → IsFormed P s → IsShape p → Jumped P s p (jump_hole p s)
unfolding jump_hole
jump-hole-step P p s a i =
    let state = hole p s in
    let u = hole-step P p s a i in
    let restart = hole Truth state.1 in
    let v = hole-step P Truth state.1 u.0.formed tt in
    (onward P P s state.1 restart.1 u.0 v.0, (hole-on P state.1 restart.1 state.0 p v.0 u.1, v.1))

-- the state of a number
pub jump-to-step : (P : List ℕ) (p : Shape) (number restart : ℕ) (s : Sketch) → IsFormed P s → IsShape p → IsValue p number → Has s.shapes restart Truth → Step P s (jump_to p number restart s).1 × JumpHas (jump_to p number restart s).1 (jump_to p number restart s).0 p
unfolding jump_to
jump-to-step P p number restart s a i k l =
    let d = push (wire.Constant number) p s in
    let u = gate P (wire.Constant number) p s a i k in
    (u.0, (u.1, has-on P s d.1 restart Truth u.0 l))

jump-set-step : (P : List ℕ) (j : Jump) (c : ℕ) (source rest : Jump) (p : Shape) (s : Sketch) → IsFormed P s → JumpHole s j p → Has s.shapes c Truth → JumpHas s source p → JumpHas s rest p → Step P s (jump_set j c source rest s)
jump-set-step P j c source rest p s a h l k r =
    let s1 = set j.state (wire.If c source.state rest.state) s in
    let u = set-step P j.state (wire.If c source.state rest.state) p s a h.0 refl (l, k.0, r.0) in
    let v = set-step P j.restart (wire.If c source.restart rest.restart) Truth s1 u.formed (hole-on P s s1 j.restart Truth u h.1) refl (has-on P s s1 c Truth u l, has-on P s s1 source.restart Truth u k.1, has-on P s s1 rest.restart Truth u r.1) in
    onward P P s s1 (set j.restart (wire.If c source.restart rest.restart) s1) u v

pub jump-add-step : (P : List ℕ) (j : Jump) (p : Shape) (c : ℕ) (source : Jump) (s : Sketch) → IsFormed P s → JumpHole s j p → Has s.shapes c Truth → JumpHas s source p → Jumped P s p (jump_add j p c source s)
unfolding jump_add
jump-add-step P j p c source s a h l k =
    let rest = jump_hole p s in
    let u = jump-hole-step P p s a (shape-is P s j.state p a h.0.0) in
    let s' = jump_set j c source rest.0 rest.1 in
    let v = jump-set-step P j c source rest.0 p rest.1 u.0.formed (jump-hole-on P s rest.1 j p u.0 h) (has-on P s rest.1 c Truth u.0 l) (jump-on P s rest.1 source p u.0 k) (jump-has rest.1 rest.0 p u.1) in
    (onward P P s rest.1 s' u.0 v, jump-hole-on P rest.1 s' rest.0 p v u.1)

pub jump-end-step : (P : List ℕ) (j source : Jump) (p : Shape) (s : Sketch) → IsFormed P s → JumpHole s j p → JumpHas s source p → Step P s (jump_end j source s)
unfolding jump_end
jump-end-step P j source p s a h k =
    let s1 = set j.state (wire.Copy source.state) s in
    let u = set-step P j.state (wire.Copy source.state) p s a h.0 refl k.0 in
    let v = set-step P j.restart (wire.Copy source.restart) Truth s1 u.formed (hole-on P s s1 j.restart Truth u h.1) refl (has-on P s s1 source.restart Truth u k.1) in
    onward P P s s1 (set j.restart (wire.Copy source.restart) s1) u v

-- ---- the numbers of states

abbrev pub AreBelow : ℕ → Numbers → Type 0
AreBelow n numbers = (x : List ℕ) → or_none (numbers x) < n

put-below : (n k : ℕ) (before : Numbers) (f : List ℕ) → k < n → AreBelow n before → AreBelow n (put_at before f k)
put-below n k before f l h x = by (bytes_eq f x)
  where
    by : (b : Bool) → or_none (if b then Some k else before x) < n
    by true = l
    by false = h x

all-below : (n k : ℕ) (ss : States) (before : Numbers) → k + count_states ss ≤ n → AreBelow n before → AreBelow n (put_numbers k ss before)
all-below n k no_state before l h = h
all-below n k (more_states f b until unless q ss) before l h = all-below n (k + 1) ss (put_at before f k) (omega (arith, l)) (put-below n k before f (omega (arith, l)) h)

pub some-state : (ss : States) → HasState ss → 1 ≤ count_states ss
some-state no_state h = absurd h
some-state (more_states f b until unless q ss) h = omega arith

pub numbers-below : (ss : States) → HasState ss → AreBelow (count_states ss) (numbers_of ss)
numbers-below ss h = all-below (count_states ss) 0 ss none_of (omega arith) (λ x. let l = some-state ss h in omega (arith, l))

restarts-truth : (P : List ℕ) (q : Trans) (s : Sketch) → IsFormed P s → Has s.shapes (restarts q) Truth
restarts-truth P q s a = by q.restart
  where
    by : (b : Bool) → Has s.shapes (if b then high else low) Truth
    by true = a.high_is
    by false = a.low_is

pub transition-step : (P : List ℕ) (numbers : Numbers) (n : ℕ) (rest : Jump) (c : ℕ) (q : Trans) (s : Sketch) → IsFormed P s → AreBelow n numbers → JumpHole s rest (Cons n) → Has s.shapes c Truth → Jumped P s (Cons n) (transition numbers (Cons n) rest c q s)
unfolding transition
transition-step P numbers n rest c q s a below h l =
    let p = Cons n in
    let target = jump_to p (or_none (numbers q.target)) (restarts q) s in
    let u = jump-to-step P p (or_none (numbers q.target)) (restarts q) s a (shape-is P s rest.state p a h.0.0) (below q.target) (restarts-truth P q s a) in
    let d = jump_add rest p c target.0 target.1 in
    let v = jump-add-step P rest p c target.0 target.1 u.0.formed (jump-hole-on P s target.1 rest p u.0 h) (has-on P s target.1 c Truth u.0 l) u.1 in
    (onward P P s target.1 d.1 u.0 v.0, v.1)

-- ---- the words of an automaton of so many states

pub record AreLines (s : Sketch) (n : ℕ) (l : Lines) : Type 0 where
  pub shape : l.shape ≡ Cons n
  pub next : IsRegister s l.next (Cons n)
  pub pending : IsRegister s l.pending Truth
  pub selected : JumpHas s l.selected (Cons n)
  pub active : JumpHole s l.active (Cons n)

pub lines-on : (P : List ℕ) (s s' : Sketch) (n : ℕ) (l : Lines) → Step P s s' → AreLines s n l → AreLines s' n l
lines-on P s s' n l st h = record {
  shape = h.shape;
  next = register-on P s s' l.next (Cons n) st h.next;
  pending = register-on P s s' l.pending Truth st h.pending;
  selected = jump-on P s s' l.selected (Cons n) st h.selected;
  active = jump-hole-on P s s' l.active (Cons n) st h.active;
}

-- its registers are pending until all states are drawn
abbrev pub with_lines : Lines → List ℕ → List ℕ
with_lines l P = l.pending.slot ∷ l.next.slot ∷ P

pub new-lines-step : (P : List ℕ) (n : ℕ) (place : Place) (s : Sketch) → IsFormed P s → IsPlaced s place → 1 ≤ n → Step (with_lines (new_lines n place s).0 P) s (new_lines n place s).1 × AreLines (new_lines n place s).1 n (new_lines n place s).0
unfolding new_lines
new-lines-step P n place s a h i =
    let p = Cons n in
    let next = new_register place 0 p s in
    let u = register-step P place 0 p s a h i i in
    let Q = next.0.slot ∷ P in
    let pending = new_register place 0 Truth next.1 in
    let v = register-step Q place 0 Truth next.1 u.0.formed (placed-on Q s next.1 place u.0 h) tt (omega arith) in
    let R = pending.0.slot ∷ Q in
    let active = jump_hole p pending.1 in
    let w = jump-hole-step R p pending.1 v.0.formed i in
    let from_next = onward R R next.1 pending.1 active.1 v.0 w.0 in
    let next_is = register-on R next.1 active.1 next.0 p from_next u.1 in
    let pending_is = register-on R pending.1 active.1 pending.0 Truth w.0 v.1 in
    (onward Q R s next.1 active.1 u.0 from_next, record { shape = refl; next = next_is; pending = pending_is; selected = (next_is.read, pending_is.read); active = w.1 })

pub lines-take-step : (P : List ℕ) (n : ℕ) (l : Lines) (place : Place) (next : Jump) (s : Sketch) → IsFormed (with_lines l P) s → IsPlaced s place → AreLines s n l → JumpHas s next (Cons n) → Step P s (lines_take l place next s)
unfolding lines_take
lines-take-step P n l place next s a h k j =
    let Q = l.pending.slot ∷ P in
    let turned = weaken (with_lines l P) (l.next.slot ∷ Q) s (λ i m. elim m [ inl e ↦ inr (inl e) | inr m ↦ elim m [ inl e ↦ inl e | inr o ↦ inr (inr o) ] ]) a in
    let s1 = takes l.next place next.state s in
    let u = takes-step Q l.next place next.state (Cons n) s turned h k.next j.0 in
    let v = takes-step P l.pending place next.restart Truth s1 u.formed (placed-on Q s s1 place u h) (register-on Q s s1 l.pending Truth u k.pending) (has-on Q s s1 next.restart Truth u j.1) in
    onward Q P s s1 (takes l.pending place next.restart s1) u v

pub lines-end-step : (P : List ℕ) (n : ℕ) (l : Lines) (rests : Rests) (s : Sketch) → IsFormed P s → AreLines s n l → JumpHole s rests.strong (Cons n) → JumpHole s rests.weak (Cons n) → Step P s (lines_end l rests s)
unfolding lines_end
lines-end-step P n l rests s a k h j =
    let p = Cons n in
    let s1 = jump_end rests.strong l.selected s in
    let u = jump-end-step P rests.strong l.selected p s a h k.selected in
    let i = shape-is P s rests.strong.state p a h.0.0 in
    subst (λ q. Step P s (let first = jump_to q 0 low s1 in jump_end rests.weak first.0 first.1)) (sym k.shape)
    (let first = jump_to p 0 low s1 in
    let v = jump-to-step P p 0 low s1 u.formed i i u.formed.low_is in
    let to_first = onward P P s s1 first.1 u v.0 in
    onward P P s first.1 (jump_end rests.weak first.0 first.1) to_first (jump-end-step P rests.weak first.0 p first.1 v.0.formed (jump-hole-on P s first.1 rests.weak p to_first j) v.1))
