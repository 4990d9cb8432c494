use Rattle.std.proofs.Common.{◌≡◌, drop}
use Rattle.hp_cert.specs.Certtext.Texts.{spaced, decimals}
use Rattle.hp_cert.specs.Certtext.Written.{written}
use Rattle.hp_cert.proofs.certtext.page.Page.numbers.Given as goal

abbrev pub invariant-loop-number : goal.invariant-loop-number
invariant-loop-number l = written l.self (spaced (decimals (drop l.number-index l.numbers))) ≡ written l.initial.self (spaced (decimals l.numbers))
