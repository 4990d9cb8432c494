use Rattle.std.proofs.Common.{◌≡◌, [], drop}
use Rattle.hp_automata.specs.Lowering.{enumerations}
use Rattle.hp_automata.proofs.programs.find_enumerations.Given as goal

abbrev pub invariant-loop-item : goal.invariant-loop-item
invariant-loop-item l = enumerations l.enums (drop l.item-index l.items) ≡ enumerations [] l.items
