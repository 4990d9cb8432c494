use Rattle.std.proofs.Common.{◌≡◌, length, replicate}
use Rattle.hp_exec.specs.Executors.{Runs, kept}
use Rattle.hp_obc.specs.Steps.{Behaviour}
use Rattle.hp_driver.specs.Sweeping.{memory_behind, counts_behind}
use Rattle.hp_driver.proofs.sweep.run_instants.Given as goal

-- there is room for a step, and so many steps are done
abbrev pub invariant-loop-i : goal.invariant-loop-i
invariant-loop-i l =
    (length l.room.inputs.items ≡ length l.exec.signature.inputs) × (length l.room.outputs.items ≡ length l.exec.signature.outputs) × (length l.room.counts.items ≡ length l.room.outputs.items)
    × (length l.room.inputs.items ≡ length l.fn.room.inputs.items) × (length l.room.outputs.items ≡ length l.fn.room.outputs.items)
    × ((b : Behaviour) → Runs l.fn.exec b → kept l.fn.exec ≡ b.reset → l.fn.room.counts.items ≡ replicate (length l.fn.room.outputs.items) 0
    → Runs l.exec b × (kept l.exec ≡ memory_behind b (length l.fn.room.inputs.items) l.i) × (l.room.counts.items ≡ counts_behind b (length l.fn.room.inputs.items) (length l.fn.room.outputs.items) l.i))
