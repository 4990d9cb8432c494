use Rattle.std.proofs.Common.{◌≡◌, ◌+◌, drop}
use Rattle.hp_cert.specs.Certtext.Texts.{ranks}
use Rattle.hp_cert.specs.Certtext.Written.{written}
use Rattle.hp_cert.proofs.certtext.page.Page.ranks.Given as goal

abbrev pub invariant-loop-i : goal.invariant-loop-i
invariant-loop-i l = written l.self (ranks (l.i + 1) (drop l.i l.ranks)) ≡ written l.initial.self (ranks 1 l.ranks)
