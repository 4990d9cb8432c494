-- The slots of a sketch, but for their wires: which steps of drawing leave them as they are.
use Rattle.std.proofs.Common.{◌≡◌, ℕ, zero, suc, Bool, true, false, if◌then◌else◌, nat_eq, List, [], ◌∷◌, refl, ap}
use Rattle.std.proofs.lemmas.List.{map-append}
use Rattle.hp_circuit.specs.declared.circuit.Role.{Role}
use Rattle.hp_circuit.specs.declared.circuit.Role.TheVariants as role
use Rattle.hp_circuit.specs.declared.circuit.Shape.{Shape}
use Rattle.hp_circuit.specs.declared.circuit.Shape.TheVariants.{Truth, Cons, Mark}
use Rattle.hp_circuit.specs.declared.circuit.Slot.{Slot}
use Rattle.hp_circuit.specs.declared.circuit.Wire.{Wire}
use Rattle.hp_circuit.specs.declared.circuit.Wire.TheVariants as wire
use Rattle.hp_tree.specs.declared.block.Trans.{Trans}
use Rattle.hp_drawing.specs.declared.parts.Jump.{Jump}
use Rattle.hp_drawing.specs.declared.parts.Lines.{Lines}
use Rattle.hp_drawing.specs.declared.parts.Place.{Place}
use Rattle.hp_drawing.specs.declared.parts.Register.{Register}
use Rattle.hp_drawing.specs.declared.parts.Rests.{Rests}
use Rattle.hp_drawing.specs.declared.parts.Value.{Value}
use Rattle.hp_drawing.specs.Kept.{Kept, register, kept_as, kept_of, kept_slots, with_kept, with_shaped}
use Rattle.hp_drawing.specs.Planned.{with_words}
use Rattle.hp_drawing.specs.Sketch.{Sketch, low, high, push, set, read, mark, mark_of, hole, define_as, define, copy, not_gate, and_gate, or_gate, choose_gate, is_gate, next_slot, slot, given, next_as, set_next_at, set_next, add_clock, inner_clock, with_hyp, with_duty, with_assume, add_told, add_call, finish, empty, begun, nothing}
use Rattle.hp_drawing.proofs.SetLaws.{set-is}
use Rattle.hp_drawing.specs.Places.{Numbers, there, within, reset_by, called_at, new_register, takes, chain_add_as, chain_add, chain_end, jump_hole, jump_to, jump_add, jump_end, new_lines, lines_take, lines_end, transition}

unfoldable pub kept_at : Sketch → List Kept
kept_at s = kept_slots s.slots

pub push-kept : (w : Wire) (p : Shape) (s : Sketch) → kept_at (push w p s).1 ≡ kept_at s
unfolding kept_at push
push-kept w p s = refl

pub read-kept : (w v : ℕ) (s : Sketch) → kept_at (read w v s) ≡ kept_at s
unfolding kept_at read
read-kept w v s = refl

pub set-kept : (w : ℕ) (g : Wire) (s : Sketch) → kept_at (set w g s) ≡ kept_at s
unfolding kept_at
set-kept w g s = ap kept_at (set-is w g s)

pub clock-kept : (h o : ℕ) (s : Sketch) → kept_at (add_clock h o s).1 ≡ kept_at s
unfolding kept_at add_clock
clock-kept h o s = refl

pub hyp-kept : (w : ℕ) (s : Sketch) → kept_at (with_hyp w s) ≡ kept_at s
unfolding kept_at with_hyp
hyp-kept w s = refl

pub duty-kept : (w : ℕ) (s : Sketch) → kept_at (with_duty w s) ≡ kept_at s
unfolding kept_at with_duty
duty-kept w s = refl

pub assume-kept : (w : ℕ) (s : Sketch) → kept_at (with_assume w s) ≡ kept_at s
unfolding kept_at with_assume
assume-kept w s = refl

pub slot-kept : (r : Role) (p : Shape) (s : Sketch) → kept_at (slot r p s).1 ≡ with_kept (kept_at s) (kept_as r p)
unfolding kept_at slot push with_kept
slot-kept r p s = map-append kept_of s.slots (record { role = r; shape = p; wire = (push (wire.Slot (next_slot s)) p s).0 } ∷ [])

role-kept : (r : Role) (p : Shape) (next : ℕ) → kept_as (next_as r next) p ≡ kept_as r p
role-kept (role.Register first old) p next = refl
role-kept role.Input p next = refl
role-kept role.Control p next = refl
role-kept (role.Free early) p next = refl

nexts-kept : (xs : List Slot) (i next : ℕ) → kept_slots (set_next_at xs i next) ≡ kept_slots xs
nexts-kept [] i next = refl
nexts-kept (x ∷ xs) zero next = ap (λ k. k ∷ kept_slots xs) (role-kept x.role x.shape next)
nexts-kept (x ∷ xs) (suc i) next = ap (λ ks. kept_of x ∷ ks) (nexts-kept xs i next)

pub next-kept : (i next : ℕ) (s : Sketch) → kept_at (set_next i next s) ≡ kept_at s
unfolding kept_at set_next
next-kept i next s = nexts-kept s.slots i next

-- ---- wires

pub mark-kept : (s : Sketch) → kept_at (mark s).1 ≡ kept_at s
unfolding mark
mark-kept s = simp push-kept refl

pub mark_of-kept : (w : ℕ) (s : Sketch) → kept_at (mark_of w s).1 ≡ kept_at s
unfolding mark_of
mark_of-kept w s = simp (read-kept, mark-kept) refl

pub hole-kept : (p : Shape) (s : Sketch) → kept_at (hole p s).1 ≡ kept_at s
unfolding hole
hole-kept Truth s = simp push-kept refl
hole-kept (Cons n) s = simp push-kept refl
hole-kept Mark s = simp mark-kept refl

as-kept : (p : Shape) (w v : ℕ) (s : Sketch) → kept_at (define_as p w v s) ≡ kept_at s
as-kept Truth w v s = simp set-kept refl
as-kept (Cons n) w v s = simp set-kept refl
as-kept Mark w v s = simp read-kept refl

pub define-kept : (w : ℕ) (v : Value) (s : Sketch) → kept_at (define w v s) ≡ kept_at s
unfolding define
define-kept w v s = as-kept v.shape w v.wire s

pub copy-kept : (v : Value) (s : Sketch) → kept_at (copy v s).1 ≡ kept_at s
unfolding copy
copy-kept v s = simp (define-kept, hole-kept) refl

-- ---- gates

pub if-kept : {A : Type 0} (b : Bool) (x y : A × Sketch) (k : List Kept) → kept_at x.1 ≡ k → kept_at y.1 ≡ k → kept_at (if b then x else y).1 ≡ k
if-kept true x y k h g = h
if-kept false x y k h g = g

pub not-kept : (a : ℕ) (s : Sketch) → kept_at (not_gate a s).1 ≡ kept_at s
unfolding not_gate
not-kept a s = if-kept (nat_eq a low) (high, s) _ (kept_at s) refl (if-kept (nat_eq a high) (low, s) _ (kept_at s) refl (simp push-kept refl))

pub and-kept : (a b : ℕ) (s : Sketch) → kept_at (and_gate a b s).1 ≡ kept_at s
unfolding and_gate
and-kept a b s =
    if-kept (nat_eq a low) (low, s) _ (kept_at s) refl
    (if-kept (nat_eq b low) (low, s) _ (kept_at s) refl (if-kept (nat_eq a high) (b, s) _ (kept_at s) refl (if-kept (nat_eq b high) (a, s) _ (kept_at s) refl (simp push-kept refl))))

pub or-kept : (a b : ℕ) (s : Sketch) → kept_at (or_gate a b s).1 ≡ kept_at s
unfolding or_gate
or-kept a b s =
    if-kept (nat_eq a high) (high, s) _ (kept_at s) refl
    (if-kept (nat_eq b high) (high, s) _ (kept_at s) refl (if-kept (nat_eq a low) (b, s) _ (kept_at s) refl (if-kept (nat_eq b low) (a, s) _ (kept_at s) refl (simp push-kept refl))))

pub choose-kept : (c a b : ℕ) (p : Shape) (s : Sketch) → kept_at (choose_gate c a b p s).1 ≡ kept_at s
unfolding choose_gate
choose-kept c a b p s = if-kept (nat_eq c low) (b, s) _ (kept_at s) refl (if-kept (nat_eq c high) (a, s) _ (kept_at s) refl (simp push-kept refl))

pub is-kept : (w n : ℕ) (s : Sketch) → kept_at (is_gate w n s).1 ≡ kept_at s
unfolding is_gate
is-kept w n s = simp push-kept refl

pub given-kept : (r : Role) (p : Shape) (s : Sketch) → kept_at (given r p s).1 ≡ with_shaped (kept_as r) p (kept_at s)
unfolding given
given-kept r Truth s = simp slot-kept refl
given-kept r (Cons n) s = simp slot-kept refl
given-kept r Mark s = simp mark-kept refl

pub ruleset gates = (push-kept, set-kept, read-kept, clock-kept, hyp-kept, duty-kept, assume-kept, next-kept, mark-kept, mark_of-kept, hole-kept, define-kept, copy-kept, not-kept, and-kept, or-kept, choose-kept, is-kept)

pub inner-kept : (c w : ℕ) (s : Sketch) → kept_at (inner_clock c w s).1 ≡ kept_at s
unfolding inner_clock
inner-kept c w s = simp gates refl

pub told-kept : (a b : ℕ) (s : Sketch) → kept_at (add_told a b s) ≡ kept_at s
unfolding add_told
told-kept a b s = simp gates refl

pub call-kept : (h a e : ℕ) (s : Sketch) → kept_at (add_call h a e s) ≡ kept_at s
unfolding add_call
call-kept h a e s = simp (gates, told-kept) refl

pub finish-kept : (a e : ℕ) (s : Sketch) → kept_at (finish a e s) ≡ kept_at s
unfolding finish
finish-kept a e s = simp gates refl

nothing-kept : kept_at nothing ≡ []
unfolding kept_at nothing
nothing-kept = refl

pub empty-kept : kept_at empty ≡ []
unfolding empty begun
empty-kept = simp gates nothing-kept

-- ---- places and registers

pub there-kept : (p : Place) (s : Sketch) → kept_at (there p s).1 ≡ kept_at s
unfolding there
there-kept p s = simp gates refl

pub within-kept : (p : Place) (c : ℕ) (s : Sketch) → kept_at (within p c s).1 ≡ kept_at s
unfolding within
within-kept p c s = simp gates refl

pub reset-kept : (p : Place) (c : ℕ) (s : Sketch) → kept_at (reset_by p c s).1 ≡ kept_at s
unfolding reset_by
reset-kept p c s = simp gates refl

pub called-kept : (p : Place) (s : Sketch) → kept_at (called_at p s).1 ≡ kept_at s
unfolding called_at
called-kept p s = simp there-kept refl

pub register-kept : (place : Place) (first : ℕ) (p : Shape) (s : Sketch) → kept_at (new_register place first p s).1 ≡ with_kept (kept_at s) (register first p)
unfolding new_register
register-kept place first p s = simp (gates, slot-kept) refl

pub takes-kept : (r : Register) (place : Place) (w : ℕ) (s : Sketch) → kept_at (takes r place w s) ≡ kept_at s
unfolding takes
takes-kept r place w s = simp (gates, there-kept) refl

-- ---- chains and jumps

chain_as-kept : (p : Shape) (h c w : ℕ) (s : Sketch) → kept_at (chain_add_as p h c w s).1 ≡ kept_at s
chain_as-kept Truth h c w s = simp gates refl
chain_as-kept (Cons n) h c w s = simp gates refl
chain_as-kept Mark h c w s = simp gates refl

pub chain-kept : (h c : ℕ) (v : Value) (s : Sketch) → kept_at (chain_add h c v s).1 ≡ kept_at s
unfolding chain_add
chain-kept h c v s = chain_as-kept v.shape h c v.wire s

pub chain_end-kept : (h : ℕ) (s : Sketch) → kept_at (chain_end h s) ≡ kept_at s
unfolding chain_end
chain_end-kept h s = simp gates refl

pub jump_hole-kept : (p : Shape) (s : Sketch) → kept_at (jump_hole p s).1 ≡ kept_at s
unfolding jump_hole
jump_hole-kept p s = simp gates refl

pub jump_to-kept : (p : Shape) (n r : ℕ) (s : Sketch) → kept_at (jump_to p n r s).1 ≡ kept_at s
unfolding jump_to
jump_to-kept p n r s = simp gates refl

pub jump_add-kept : (j : Jump) (p : Shape) (c : ℕ) (source : Jump) (s : Sketch) → kept_at (jump_add j p c source s).1 ≡ kept_at s
unfolding jump_add
jump_add-kept j p c source s = simp (gates, jump_hole-kept) refl

pub jump_end-kept : (j source : Jump) (s : Sketch) → kept_at (jump_end j source s) ≡ kept_at s
unfolding jump_end
jump_end-kept j source s = simp gates refl

pub lines-kept : (count : ℕ) (place : Place) (s : Sketch) → kept_at (new_lines count place s).1 ≡ with_words count (kept_at s)
unfolding new_lines
lines-kept count place s = simp (register-kept, jump_hole-kept) refl

pub take-kept : (l : Lines) (place : Place) (next : Jump) (s : Sketch) → kept_at (lines_take l place next s) ≡ kept_at s
unfolding lines_take
take-kept l place next s = simp takes-kept refl

pub end-kept : (l : Lines) (rests : Rests) (s : Sketch) → kept_at (lines_end l rests s) ≡ kept_at s
unfolding lines_end
end-kept l rests s = simp (jump_to-kept, jump_end-kept) refl

pub transition-kept : (numbers : Numbers) (p : Shape) (rest : Jump) (c : ℕ) (q : Trans) (s : Sketch) → kept_at (transition numbers p rest c q s).1 ≡ kept_at s
unfolding transition
transition-kept numbers p rest c q s = simp (jump_to-kept, jump_add-kept) refl

pub ruleset steps = (gates, inner-kept, told-kept, call-kept, finish-kept, there-kept, within-kept, reset-kept, called-kept, register-kept, takes-kept, chain-kept, chain_end-kept, jump_hole-kept, jump_to-kept, jump_add-kept, jump_end-kept, lines-kept, take-kept, end-kept, transition-kept, slot-kept, given-kept)
