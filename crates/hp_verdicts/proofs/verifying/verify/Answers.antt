use Rattle.std.proofs.lemmas.Result.{IfErr-weaker}
use Rattle.hp_verdicts.specs.Verified.{RefusesBy}
use Rattle.hp_verdicts.proofs.VerifyLaws.{checked_of, checker_refuses, read_accepts, read_exact, stopped_accepts, stopped_exact, text_refuses}
use Rattle.hp_verdicts.proofs.verifying.verify.Goals as goal

pub returns-in-Err-clause-refused : goal.returns-in-Err-clause-refused
returns-in-Err-clause-refused c = text_refuses c.args.m.now c.args.text.now c.in-Err.e c.in-Err.ensures.refused

pub returns-in-Err-clause-accepted : goal.returns-in-Err-clause-accepted
returns-in-Err-clause-accepted c = stopped_accepts c.args.m.now c.args.text.now c.read_cert.result c.in-Err.e c.in-Err.is c.read_cert.ensures.read c.read_cert.ensures.syntax c.read_cert.ensures.too_long

pub returns-in-Err-clause-exact : goal.returns-in-Err-clause-exact
returns-in-Err-clause-exact c = stopped_exact c.args.m.now c.args.text.now c.read_cert.result c.in-Err.e c.in-Err.is c.read_cert.ensures.read c.read_cert.ensures.syntax c.read_cert.ensures.too_long

pub returns-in-Ok-clause-checked : goal.returns-in-Ok-clause-checked
returns-in-Ok-clause-checked c =
    checked_of c.args.m.now c.args.text.now c.in-Ok.cert c.in-Ok.ensures.within c.in-Ok.ensures.cert c.check.result c.check.ensures.proved c.check.ensures.win c.check.ensures.lose

pub returns-in-Ok-clause-refused : goal.returns-in-Ok-clause-refused
returns-in-Ok-clause-refused c =
    IfErr-weaker c.check.result _ (RefusesBy c.args.m.now c.args.text.now)
    (checker_refuses c.args.m.now c.args.text.now c.in-Ok.cert c.in-Ok.ensures.within c.in-Ok.ensures.cert)
    c.check.ensures.refused

pub returns-in-Ok-clause-accepted : goal.returns-in-Ok-clause-accepted
returns-in-Ok-clause-accepted c =
    read_accepts c.args.m.now c.args.text.now c.in-Ok.cert c.in-Ok.ensures.within c.in-Ok.ensures.cert c.read_cert.result c.in-Ok.is c.read_cert.ensures.read c.read_cert.ensures.syntax c.read_cert.ensures.too_long
    c.check.result c.check.ensures.accepted

pub returns-in-Ok-clause-exact : goal.returns-in-Ok-clause-exact
returns-in-Ok-clause-exact c =
    read_exact c.args.m.now c.args.text.now c.in-Ok.cert c.in-Ok.ensures.within c.in-Ok.ensures.cert c.read_cert.result c.in-Ok.is c.read_cert.ensures.read c.read_cert.ensures.syntax c.read_cert.ensures.too_long
    c.check.result c.check.ensures.exact
