use Rattle.std.proofs.Common.{◌≡◌, ◌<◌, ℕ, slice_get, Some}
use Rattle.hp_quant.specs.declared.line.Line.{Line}
use Rattle.hp_cert.specs.Marks.{Marked}
use Rattle.hp_cert.proofs.marks.are_below.Given as goal

abbrev pub invariant-loop-i : goal.invariant-loop-i
invariant-loop-i l = (j : ℕ) (x : Line) → j < l.i → slice_get l.lines j ≡ Some x → Marked l.marks j → x.var < l.bound
