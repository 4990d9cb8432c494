use Rattle.std.proofs.Common.{◌≡◌, map}
use Rattle.hp_parser.proofs.measured.cons_and_exprs.Given as goal

abbrev pub invariant-loop-part : goal.invariant-loop-part
invariant-loop-part l = l.pairs.items ≡ map (λ p. (p.cons, p.value.expr)) l.yielded
