use Rattle.std.proofs.Common.{◌≡◌, ◌++◌, drop}
use Rattle.hp_controller.specs.Decoding.{controls_eqns}
use Rattle.hp_controller.proofs.decoding.add_controls.Given as goal

abbrev pub invariant-loop-i : goal.invariant-loop-i
invariant-loop-i l =
    (l.added.eqns.items ++ (controls_eqns l.at l.from l.added.next (drop l.i l.controls)).eqns ≡ l.initial.added.eqns.items ++ (controls_eqns l.initial.at l.initial.from l.initial.added.next l.controls).eqns)
    × (l.added.variables.items ++ (controls_eqns l.at l.from l.added.next (drop l.i l.controls)).variables ≡ l.initial.added.variables.items ++ (controls_eqns l.initial.at l.initial.from l.initial.added.next l.controls).variables)
    × ((controls_eqns l.at l.from l.added.next (drop l.i l.controls)).next ≡ (controls_eqns l.initial.at l.initial.from l.initial.added.next l.controls).next)
