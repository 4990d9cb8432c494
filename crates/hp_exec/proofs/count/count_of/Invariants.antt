use Rattle.std.proofs.Common.{◌≡◌, ℕ, suc, ◌+◌, ◌≤◌, max, drop}
use Rattle.hp_obc.specs.Steps.{Names}
use Rattle.hp_exec.specs.Bounds.{most_of, sum_of}
use Rattle.hp_exec.specs.Counting.{capped_calls, capped_instances, HoldCalls, HoldInstances}
use Rattle.hp_exec.specs.Naming.{names_in}
use Rattle.hp_exec.proofs.count.count_of.Given as goal

abbrev pub invariant-loop-machine : goal.invariant-loop-machine
invariant-loop-machine l = record {
  least : 1 ≤ l.calls;
  calls : (chains : Names ℕ) → HoldCalls (names_in l.names) l.counts chains → capped_calls (max l.calls (suc (most_of chains (drop l.machine-index l.insts)))) ≡ capped_calls (suc (most_of chains l.insts));
  instances : (numbers : Names ℕ) → HoldInstances (names_in l.names) l.counts numbers → capped_instances (l.instances + sum_of numbers (drop l.machine-index l.insts)) ≡ capped_instances (suc (sum_of numbers l.insts));
}
