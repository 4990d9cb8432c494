use Rattle.std.proofs.Common.{◌≡◌, codes, length}
use Rattle.hp_obctext.specs.Reading.{many, is_this, behind, listed, var}
use Rattle.hp_obctext.proofs.reader.Reader.vars.Given as goal

abbrev pub invariant-loop-vars : goal.invariant-loop-vars
invariant-loop-vars l = many (is_this (codes ",")) (behind (codes ",") var) l.vars.items l.self ≡ listed var l.fn.self

abbrev pub decreases-loop-vars : goal.decreases-loop-vars
decreases-loop-vars l = length l.self
