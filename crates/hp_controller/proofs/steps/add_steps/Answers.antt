use Rattle.std.proofs.Common.{◌≡◌, ◌++◌, length, ap, ap₂, subst, ◌∙◌}
use Rattle.std.specs.List.{range_with_len}
use Rattle.hp_boolx.specs.Machine.{Machine}
use Rattle.hp_boolx.specs.MachineView.{machine_seen}
use Rattle.hp_controller.specs.Gates.{gate_eqns}
use Rattle.hp_controller.specs.Steps.{register_eqns, asking_eqn, placing_seen, step_eqns}
use Rattle.hp_controller.proofs.AddLaws.{steps-added}
use Rattle.hp_controller.proofs.steps.add_steps.Goals as goal

pub returns : goal.returns
returns c =
    let m : Machine = machine_seen c.m.inside in
    let p = placing_seen c.args.p in
    let name = c.args.name.now in
    let old = c.args.eqns.now.items in
    let front = c.extend_from_slice.new.self.items in
    let asking = c.in_ok-asking.ensures ∙ ap₂ (λ xs n. asking_eqn name xs p.control n) c.deref.ensures.value c.from-control.ensures in
    let start = c.in_ok-places.ensures ∙ ap (range_with_len p.registers) c.from.ensures in
    let controls = c.in_ok-controls.ensures ∙ ap (range_with_len p.control) c.from-control.ensures in
    let more = c.in_ok-extend_from_slice-2.ensures.items ∙ ap (λ xs. front ++ xs) c.deref-2.ensures.value in
    let registered =
    c.in_ok-add_registers.ensures
    ∙ ap (λ n. old ++ register_eqns p.registers p.gates n c.deref-3.result.now c.deref-4.result.now) (ap length c.deref-gates.ensures.value)
    ∙ ap₂ (λ bs ns. old ++ register_eqns p.registers p.gates (length m.gates) bs ns) c.deref-3.ensures.value c.deref-4.ensures.value in
    let all = c.in_ok-add_gates.ensures ∙ ap₂ (λ xs gs. c.push.new.self.items ++ gate_eqns xs p.gates 0 gs) c.deref-5.ensures.value c.deref-gates.ensures.value in
    subst (λ x. c.add_gates.new.eqns.items ≡ old ++ step_eqns x p name) c.m.view_is
    (steps-added m p name old c.add_registers.new.eqns.items c.push.new.self.items c.add_gates.new.eqns.items c.in_ok-places.places.items front c.in_ok-controls.controls.items c.extend_from_slice-2.new.self.items
    c.extend_from_slice-3.new.self.items _ start c.in_ok-extend_from_slice.ensures.items asking controls more c.in_ok-extend_from_slice-3.ensures.items registered c.in_ok-push.ensures.items all)
