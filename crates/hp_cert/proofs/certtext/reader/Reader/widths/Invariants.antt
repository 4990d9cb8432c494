use Rattle.std.proofs.Common.{◌≡◌, [], length}
use Rattle.hp_cert.specs.Certtext.Reading.{until, width}
use Rattle.hp_cert.specs.Certtext.Texts.{space, newline}
use Rattle.hp_cert.proofs.certtext.reader.Reader.widths.Given as goal

abbrev pub invariant-loop-widths : goal.invariant-loop-widths
invariant-loop-widths l = until space newline width l.widths.items l.self ≡ until space newline width [] l.initial.self

abbrev pub decreases-loop-widths : goal.decreases-loop-widths
decreases-loop-widths l = length l.self
