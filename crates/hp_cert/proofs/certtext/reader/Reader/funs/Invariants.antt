use Rattle.std.proofs.Common.{◌≡◌, [], length, codes}
use Rattle.hp_cert.specs.Certtext.Reading.{until, fun}
use Rattle.hp_cert.proofs.certtext.reader.Reader.funs.Given as goal

abbrev pub invariant-loop-funs : goal.invariant-loop-funs
invariant-loop-funs l = until (codes "fun") (codes "end") (fun l.end) l.funs.items l.self ≡ until (codes "fun") (codes "end") (fun l.end) [] l.initial.self

abbrev pub decreases-loop-funs : goal.decreases-loop-funs
decreases-loop-funs l = length l.self
