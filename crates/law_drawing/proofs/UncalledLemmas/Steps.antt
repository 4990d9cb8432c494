-- Single steps of drawing leave what is supposed and owed as it is; what is told last.
use Rattle.std.proofs.Common.{◌≡◌, ℕ, Bool, true, false, if◌then◌else◌, nat_eq, refl, sym, ap, subst, ◌∙◌}
use Rattle.std.proofs.lemmas.Bool.{eqb-true}
use Rattle.hp_circuit.specs.declared.circuit.Role.{Role}
use Rattle.hp_circuit.specs.declared.circuit.Shape.{Shape}
use Rattle.hp_circuit.specs.declared.circuit.Shape.TheVariants.{Truth}
use Rattle.hp_circuit.specs.declared.circuit.Wire.{Wire}
use Rattle.hp_circuit.specs.declared.circuit.Wire.TheVariants as wire
use Rattle.hp_drawing.specs.Sketch.{Sketch, low, high, push, set, read, slot, set_next, next_slot, add_clock, and_gate, with_hyp, with_duty, with_assume, with_hyp_drawn, with_duty_drawn, hyp_of, duty_of, finish}
use Rattle.hp_drawing.proofs.SetLaws.{set-is}
use Rattle.law_drawing.proofs.EarlyLemmas.Running.{Running}

-- what is supposed and owed stays
pub record Leaves (s s' : Sketch) : Type 0 where
  pub hyp : s'.hyp ≡ s.hyp
  pub duty : s'.duty ≡ s.duty

pub none-leaves : (s : Sketch) → Leaves s s
none-leaves s = record { hyp = refl; duty = refl }

pub both-leave : (a b c : Sketch) → Leaves a b → Leaves b c → Leaves a c
both-leave a b c g h = record { hyp = h.hyp ∙ g.hyp; duty = h.duty ∙ g.duty }

push-leaves : (w : Wire) (p : Shape) (s : Sketch) → Leaves s (push w p s).1
unfolding push
push-leaves w p s = record { hyp = refl; duty = refl }

set-leaves : (w : ℕ) (g : Wire) (s : Sketch) → Leaves s (set w g s)
set-leaves w g s = subst (λ b. Leaves s b) (sym (set-is w g s)) (record { hyp = refl; duty = refl })

read-leaves : (w v : ℕ) (s : Sketch) → Leaves s (read w v s)
unfolding read
read-leaves w v s = record { hyp = refl; duty = refl }

clock-leaves : (h o : ℕ) (s : Sketch) → Leaves s (add_clock h o s).1
unfolding add_clock
clock-leaves h o s = record { hyp = refl; duty = refl }

next-leaves : (i next : ℕ) (s : Sketch) → Leaves s (set_next i next s)
unfolding set_next
next-leaves i next s = record { hyp = refl; duty = refl }

pub slot-leaves : (r : Role) (p : Shape) (s : Sketch) → Leaves s (slot r p s).1
unfolding slot push next_slot
slot-leaves r p s = record { hyp = refl; duty = refl }

pub leaving : Running Leaves
leaving = record {
  none_runs = none-leaves;
  both_run = both-leave;
  push_runs = push-leaves;
  set_runs = set-leaves;
  read_runs = read-leaves;
  clock_runs = clock-leaves;
  next_runs = next-leaves;
  slot_runs = λ r p s h. slot-leaves r p s;
}

-- ---- what is told last

and-high : (a : ℕ) (s : Sketch) → and_gate a high s ≡ (a, s)
unfolding and_gate
and-high a s = by (nat_eq a low) (nat_eq a high) refl refl
  where
    by : (b c : Bool) → nat_eq a low ≡ b → nat_eq a high ≡ c → (if b then (low, s) else if nat_eq high low then (low, s) else if c then (high, s) else if nat_eq high high then (a, s) else push (wire.And a high) Truth s) ≡ (a, s)
    by true c e f = ap (λ w. (w, s)) (sym (eqb-true a low e))
    by false true e f = ap (λ w. (w, s)) (sym (eqb-true a high f))
    by false false e f = refl

-- where nothing is supposed and owed besides
pub finish-alone : (assume enforce : ℕ) (s : Sketch) → s.hyp ≡ high → s.duty ≡ high → finish assume enforce s ≡ record s { assume = assume; hyp = assume; duty = enforce }
unfolding finish with_hyp with_duty with_assume hyp_of duty_of
finish-alone assume enforce s h d =
    let one : Sketch = record s { assume = assume } in
    let two : Sketch = record s { assume = assume; hyp = assume } in
    let first : and_gate assume s.hyp one ≡ (assume, one) = ap (λ w. and_gate assume w one) h ∙ and-high assume one in
    let second : and_gate enforce s.duty two ≡ (enforce, two) = ap (λ w. and_gate enforce w two) d ∙ and-high enforce two in
    ap (λ (x : ℕ × Sketch). let behind = with_hyp_drawn x in with_duty_drawn (and_gate enforce behind.duty behind)) first ∙ ap (λ (x : ℕ × Sketch). with_duty_drawn x) second
