use Rattle.std.proofs.Common.{◌<◌, ℕ, slice_index_or}
use Rattle.hp_quant.specs.declared.line.Line.{Line}
use Rattle.hp_cert.proofs.fits.are_vars.Given as goal

abbrev pub invariant-loop-i : goal.invariant-loop-i
invariant-loop-i l = (j : ℕ) (d : Line) → j < l.i → (slice_index_or l.lines j d).var < l.vars
