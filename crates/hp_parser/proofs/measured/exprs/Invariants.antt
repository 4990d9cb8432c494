use Rattle.std.proofs.Common.{◌≡◌, map}
use Rattle.hp_parser.proofs.measured.exprs.Given as goal

abbrev pub invariant-loop-operand : goal.invariant-loop-operand
invariant-loop-operand l = l.exprs.items ≡ map (λ m. m.expr) l.yielded
