use Rattle.std.proofs.Common.{◌≡◌, ◌++◌, drop}
use Rattle.hp_tree.specs.Expressions.{parts_of}
use Rattle.hp_typing.specs.Definedness.{conses_of_parts}
use Rattle.hp_typing.specs.Seen.{conses_told}
use Rattle.hp_typing.proofs.constructors.conses_of_parts.Given as goal

abbrev pub invariant-loop-cons : goal.invariant-loop-cons
invariant-loop-cons l = conses_told l.conses.items ++ conses_of_parts (parts_of (drop l.cons-index l.parts)) ≡ conses_of_parts (parts_of l.parts)
