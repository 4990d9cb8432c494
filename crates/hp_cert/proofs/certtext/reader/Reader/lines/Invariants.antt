use Rattle.std.proofs.Common.{◌≡◌, [], length, codes}
use Rattle.hp_cert.specs.Certtext.Reading.{until, line}
use Rattle.hp_cert.proofs.certtext.reader.Reader.lines.Given as goal

abbrev pub invariant-loop-lines : goal.invariant-loop-lines
invariant-loop-lines l = until (codes "d") l.stop line l.lines.items l.self ≡ until (codes "d") l.stop line [] l.initial.self

abbrev pub decreases-loop-lines : goal.decreases-loop-lines
decreases-loop-lines l = length l.self
