use Rattle.std.proofs.Common.{subst}
use Rattle.hp_boolx.specs.Machine.{IsMachine}
use Rattle.hp_verdicts.proofs.MadeLaws.{won_answer}
use Rattle.hp_verdicts.proofs.certificate.won_cert.Goals as goal

pub returns-clause-is_of : goal.returns-clause-is_of
returns-clause-is_of c =
    let is = subst IsMachine c.m.view_is c.m.invariant in
    won_answer c.args.m.now c.m.inside c.m.view_is c.args.wide _ c.widths.ensures is c.args.solved.now.table c.functions.new.s.table c.requires.fits c.in_ok-funs.ensures.keeps
    c.args.inv c.requires.inv c.in_ok-funs.funs.items c.in_ok-funs.ensures.has c.in_ok-funs.ensures.ok c.deref.result.now c.deref.ensures.value
    c.win_cert.result c.win_cert.ensures.heading c.win_cert.ensures.claim c.win_cert.ensures.roots
