use Rattle.std.proofs.Common.{◌≡◌, ◌++◌, List, take, drop, Some}
use Rattle.hp_base.specs.declared.value.Value.{Value}
use Rattle.hp_base.specs.SignatureView.{kinds_seen}
use Rattle.hp_lines.specs.Words.{words}
use Rattle.hp_lines.specs.Values.{values_of, HaveFewConstructors}
use Rattle.hp_lines.proofs.read.fill.Given as goal

abbrev pub invariant-loop-i : goal.invariant-loop-i
invariant-loop-i l =
    (values : List Value)
    × (values_of (kinds_seen (drop l.i l.inputs)) (words l.rest) ≡ Some values)
    × (values_of (kinds_seen l.inputs) (words l.line) ≡ Some (take l.i l.into ++ values))
    × HaveFewConstructors (kinds_seen (drop l.i l.inputs))
