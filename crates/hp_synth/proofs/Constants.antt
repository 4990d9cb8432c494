-- The diagrams of constants.
use Rattle.std.proofs.Common.{◌≡◌, ℕ, Bool, true, false, List, refl, sym, ap, subst, ◌∙◌, arith}
use Rattle.hp_diagram.specs.declared.reference.Ref.{Ref}
use Rattle.hp_diagram.specs.Diagrams.{Diagrams, path_end, function, Means, zero_ref, one_ref}
use Rattle.hp_boolx.specs.declared.gate.Gate.{Gate}
use Rattle.hp_boolx.specs.declared.gate.Gate.TheVariants.{Const}
use Rattle.hp_synth.specs.Building.{gate_function}
use Rattle.hp_synth.specs.Valued.{Valued}

one-true : (t : Diagrams) (v : Valued) → function t one_ref v ≡ true
unfolding path_end
one-true t v = refl

zero-false : (t : Diagrams) (v : Valued) → function t zero_ref v ≡ false
unfolding path_end
zero-false t v = refl

pub one-means : (place : ℕ → ℕ) (t : Diagrams) (refs : List Ref) (gate : Gate) (b : Bool) (r : Ref) → gate ≡ Const b → b ≡ true → r ≡ one_ref → Means t (λ v. gate_function place t refs v gate) r
one-means place t refs gate b r e at is =
    subst (λ (q : Ref). Means t (λ v. gate_function place t refs v gate) q) (sym is)
    (record { has = omega arith; value = λ v. one-true t v ∙ sym at ∙ ap (gate_function place t refs v) (sym e) })

pub zero-means : (place : ℕ → ℕ) (t : Diagrams) (refs : List Ref) (gate : Gate) (b : Bool) (r : Ref) → gate ≡ Const b → b ≡ false → r ≡ zero_ref → Means t (λ v. gate_function place t refs v gate) r
zero-means place t refs gate b r e at is =
    subst (λ (q : Ref). Means t (λ v. gate_function place t refs v gate) q) (sym is)
    (record { has = omega arith; value = λ v. zero-false t v ∙ sym at ∙ ap (gate_function place t refs v) (sym e) })
