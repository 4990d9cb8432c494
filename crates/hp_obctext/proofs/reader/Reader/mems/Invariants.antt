use Rattle.std.proofs.Common.{◌≡◌, codes, length}
use Rattle.hp_obctext.specs.Reading.{many, is_this, behind, listed, mem}
use Rattle.hp_obctext.proofs.reader.Reader.mems.Given as goal

abbrev pub invariant-loop-mems : goal.invariant-loop-mems
invariant-loop-mems l = many (is_this (codes ",")) (behind (codes ",") mem) l.mems.items l.self ≡ listed mem l.fn.self

abbrev pub decreases-loop-mems : goal.decreases-loop-mems
decreases-loop-mems l = length l.self
