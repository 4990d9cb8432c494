use Rattle.std.proofs.Common.{subst}
use Rattle.hp_boolx.specs.Machine.{IsMachine}
use Rattle.hp_verdicts.proofs.LoseLaws.{ranks_has}
use Rattle.hp_verdicts.proofs.MadeLaws.{lost_answer}
use Rattle.hp_verdicts.proofs.certificate.lost_cert.Goals as goal

pub lose_cert-requires : goal.lose_cert-requires
lose_cert-requires c = ranks_has c.args.m.now c.args.t.now c.args.ranks.now c.requires.ranks

pub returns-clause-is_of : goal.returns-clause-is_of
returns-clause-is_of c =
    let is = subst IsMachine c.m.view_is c.m.invariant in
    lost_answer c.args.m.now c.m.inside c.m.view_is c.args.wide _ c.widths.ensures is c.args.t.now c.requires.vars c.vars-vars.ensures.reduced c.args.ranks.now c.requires.ranks
    c.lose_cert.result c.lose_cert.ensures.heading c.lose_cert.ensures.claim c.lose_cert.ensures.roots
