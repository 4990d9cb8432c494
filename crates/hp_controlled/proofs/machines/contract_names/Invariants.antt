use Rattle.std.proofs.Common.{◌≡◌, ◌++◌, drop, map}
use Rattle.hp_controlled.specs.Compiled.{names_with_contracts}
use Rattle.hp_controlled.proofs.machines.contract_names.Given as goal

abbrev pub invariant-loop-item : goal.invariant-loop-item
invariant-loop-item l = map (λ x. x.now) l.names.items ++ names_with_contracts (drop l.item-index l.items) ≡ names_with_contracts l.items
