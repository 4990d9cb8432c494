use Rattle.std.proofs.Common.{◌≡◌, drop}
use Rattle.hp_typing.specs.Breaches.{found_after}
use Rattle.hp_typing.specs.Claims.{in_path}
use Rattle.hp_typing.proofs.declarations.check_path.Given as goal

abbrev pub invariant-loop-cons : goal.invariant-loop-cons
invariant-loop-cons l = found_after l.found (in_path l.scope l.at (drop l.cons-index l.path)) ≡ found_after l.initial.found (in_path l.scope l.at l.path)
