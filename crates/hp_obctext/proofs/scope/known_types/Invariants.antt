use Rattle.std.proofs.Common.{◌≡◌, ℕ, List, ◌++◌, drop}
use Rattle.hp_obctext.specs.Found.{type_entries}
use Rattle.hp_base.specs.Known.Known.{lookup}
use Rattle.hp_obctext.proofs.scope.known_types.Given as goal

abbrev pub invariant-loop-ty : goal.invariant-loop-ty
invariant-loop-ty l = (x : List ℕ) → lookup (l.known ++ type_entries (drop l.ty-index l.types)) x ≡ lookup (type_entries l.types) x
