use Rattle.std.proofs.Common.{◌≡◌, map, take}
use Rattle.hp_synth.specs.Layouts.{variable}
use Rattle.hp_controller.specs.Controllers.{moved}
use Rattle.hp_controller.proofs.controlling.named_lines.Given as goal

abbrev pub invariant-loop-line : goal.invariant-loop-line
invariant-loop-line l = l.named.items ≡ map (moved (variable l.layout)) (take l.line-index l.lines)
