use Rattle.std.proofs.Common.{◌≡◌, map, take}
use Rattle.hp_complete.specs.Signatures.{type_names}
use Rattle.hp_complete.proofs.declared.type_names.Given as goal

abbrev pub invariant-loop-item : goal.invariant-loop-item
invariant-loop-item l = map (λ x. x.now) l.names.items ≡ type_names (take l.item-index l.items)
