-- The equations of a machine's steps, as they are added.
use Rattle.std.proofs.Common.{◌≡◌, ℕ, List, [], ◌∷◌, ◌++◌, length, ap, ap₂, ◌∙◌}
use Rattle.std.proofs.lemmas.List.{append_assoc}
use Rattle.hp_boolx.specs.Machine.{Machine}
use Rattle.hp_flat.specs.Equations.{FlatEqn}
use Rattle.hp_controller.specs.Gates.{gate_eqns}
use Rattle.hp_controller.specs.Steps.{register_eqns, asking_eqn, Placing, register_places, control_places, places, step_eqns}

pub steps-added : (m : Machine) (p : Placing) (name : List ℕ) (old registered asked all : List FlatEqn) (start front controls more whole : List ℕ) (asking : FlatEqn) → start ≡ register_places m p → front ≡ start ++ p.early → asking ≡ asking_eqn name front p.control m.control
    → controls ≡ control_places m p → more ≡ front ++ controls → whole ≡ more ++ p.late → registered ≡ old ++ register_eqns p.registers p.gates (length m.gates) m.init m.next → asked ≡ registered ++ asking ∷ []
    → all ≡ asked ++ gate_eqns whole p.gates 0 m.gates → all ≡ old ++ step_eqns m p name
steps-added m p name old registered asked all start front controls more whole asking is_start is_front is_asking is_controls is_more is_whole is_registered is_asked is_all =
    let regs = register_eqns p.registers p.gates (length m.gates) m.init m.next in
    let ask = asking_eqn name (register_places m p ++ p.early) p.control m.control in
    let gates = gate_eqns (places m p) p.gates 0 m.gates in
    let front_is : front ≡ register_places m p ++ p.early = is_front ∙ ap (λ xs. xs ++ p.early) is_start in
    let whole_is : whole ≡ places m p =
    is_whole ∙ ap (λ xs. xs ++ p.late) (is_more ∙ ap₂ (λ xs ys. xs ++ ys) front_is is_controls) ∙ append_assoc (register_places m p ++ p.early) (control_places m p) p.late
    ∙ append_assoc (register_places m p) p.early (control_places m p ++ p.late) in
    let asking_is : asking ≡ ask = is_asking ∙ ap (λ xs. asking_eqn name xs p.control m.control) front_is in
    is_all
    ∙ ap₂ (λ es xs. es ++ gate_eqns xs p.gates 0 m.gates) (is_asked ∙ ap₂ (λ es a. es ++ a ∷ []) is_registered asking_is) whole_is
    ∙ append_assoc (old ++ regs) (ask ∷ []) gates ∙ append_assoc old regs (ask ∷ gates)
