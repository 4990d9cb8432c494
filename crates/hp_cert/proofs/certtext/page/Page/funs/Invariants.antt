use Rattle.std.proofs.Common.{◌≡◌, drop}
use Rattle.hp_cert.specs.Certtext.Texts.{funs}
use Rattle.hp_cert.specs.Certtext.Written.{written}
use Rattle.hp_cert.proofs.certtext.page.Page.funs.Given as goal

abbrev pub invariant-loop-r : goal.invariant-loop-r
invariant-loop-r l = written l.self (funs (drop l.r-index l.funs)) ≡ written l.initial.self (funs l.funs)
