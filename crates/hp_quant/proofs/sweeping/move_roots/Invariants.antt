use Rattle.hp_quant.specs.Sweeps.{AreMoved, AllCopied}
use Rattle.hp_quant.proofs.sweeping.move_roots.Given as goal

abbrev pub invariant-loop-key : goal.invariant-loop-key
invariant-loop-key l = AreMoved l.t l.table l.roots l.moved.items l.key × AllCopied l.t l.table l.memo
