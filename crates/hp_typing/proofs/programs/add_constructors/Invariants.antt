use Rattle.std.proofs.Common.{◌≡◌, drop}
use Rattle.hp_typing.specs.Scopes.{with_constructors}
use Rattle.hp_typing.proofs.programs.add_constructors.Given as goal

abbrev pub invariant-loop-constructor : goal.invariant-loop-constructor
invariant-loop-constructor l = with_constructors l.known l.ty (drop l.constructor-index l.constructors) ≡ with_constructors l.initial.known l.ty l.constructors
