use Rattle.std.proofs.Common.{◌≡◌, ◌-◌, []}
use Rattle.hp_cert.specs.Certtext.Reading.{times, rank}
use Rattle.hp_cert.proofs.certtext.reader.Reader.ranks.Given as goal

abbrev pub invariant-loop-i : goal.invariant-loop-i
invariant-loop-i l = times (rank l.end) (l.count - l._i) l.ranks.items l.self ≡ times (rank l.end) l.count [] l.initial.self
