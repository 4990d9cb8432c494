use Rattle.hp_quant.proofs.Imported.{Imported}
use Rattle.hp_quant.proofs.line.import.Given as goal

abbrev pub invariant-loop-line : goal.invariant-loop-line
invariant-loop-line l = Imported l.fn.t l.t l.lines l.refs.items l.line-index
