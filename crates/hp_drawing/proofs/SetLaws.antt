-- A wire that is written over: all but what is read besides is as if it were written alone.
use Rattle.std.proofs.Common.{◌≡◌, ℕ, zero, suc, Bool, true, false, if◌then◌else◌, List, [], ◌∷◌, Option, None, Some, refl, sym, ap, ◌∙◌}
use Rattle.std.specs.Prelude.{slice_set}
use Rattle.std.specs.List.{slice_get}
use Rattle.hp_circuit.specs.declared.circuit.Wire.{Wire}
use Rattle.hp_circuit.specs.declared.circuit.Wire.TheVariants as wire
use Rattle.hp_drawing.specs.Sketch.{Sketch, write, set, set_over, is_open, read, read_all}

set-none : {A : Type 0} (xs : List A) (i : ℕ) (v : A) → slice_get xs i ≡ None → slice_set xs i v ≡ xs
set-none [] i v h = refl
set-none (x ∷ xs) zero v h = absurd cc
set-none (x ∷ xs) (suc i) v h = ap (λ l. x ∷ l) (set-none xs i v h)

reads-are : (i : ℕ) (g : Wire) (s : Sketch) → read_all i g s ≡ record s { reads = (read_all i g s).reads }
unfolding read_all read
reads-are i (wire.Slot k) s = refl
reads-are i (wire.Constant k) s = refl
reads-are i (wire.Copy a) s = refl
reads-are i (wire.Not a) s = refl
reads-are i (wire.And a b) s = refl
reads-are i (wire.Or a b) s = refl
reads-are i (wire.Xor a b) s = refl
reads-are i (wire.Equal a b) s = refl
reads-are i (wire.Is a k) s = refl
reads-are i (wire.If t a b) s = refl

over-is : (i : ℕ) (g : Wire) (o : Option Wire) (s : Sketch) → slice_get s.wires i ≡ o → set_over i g o s ≡ record s { wires = slice_set s.wires i g; reads = (set_over i g o s).reads }
unfolding write
over-is i g None s e = reads-are i g s ∙ ap (λ ws. record s { wires = ws; reads = (read_all i g s).reads }) (sym (set-none s.wires i g e))
over-is i g (Some old) s e = by (is_open i old)
  where
    by : (b : Bool) → write i g (if b then s else read_all i old s) ≡ record s { wires = slice_set s.wires i g; reads = (write i g (if b then s else read_all i old s)).reads }
    by true = refl
    by false = ap (write i g) (reads-are i old s)

pub set-is : (i : ℕ) (g : Wire) (s : Sketch) → set i g s ≡ record s { wires = slice_set s.wires i g; reads = (set i g s).reads }
unfolding set
set-is i g s = over-is i g (slice_get s.wires i) s refl
