use Rattle.std.proofs.Common.{◌≡◌, ◌+◌, drop}
use Rattle.hp_cert.specs.Certtext.Texts.{lines}
use Rattle.hp_cert.specs.Certtext.Written.{written}
use Rattle.hp_cert.proofs.certtext.page.Page.lines.Given as goal

abbrev pub invariant-loop-i : goal.invariant-loop-i
invariant-loop-i l = written l.self (lines (l.i + 2) (drop l.i l.lines)) ≡ written l.initial.self (lines 2 l.lines)
