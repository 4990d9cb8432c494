use Rattle.std.proofs.Common.{◌≡◌, codes, length}
use Rattle.hp_obctext.specs.Reading.{many, is_this, behind, listed, inst}
use Rattle.hp_obctext.proofs.reader.Reader.insts.Given as goal

abbrev pub invariant-loop-insts : goal.invariant-loop-insts
invariant-loop-insts l = many (is_this (codes ",")) (behind (codes ",") inst) l.insts.items l.self ≡ listed inst l.fn.self

abbrev pub decreases-loop-insts : goal.decreases-loop-insts
decreases-loop-insts l = length l.self
