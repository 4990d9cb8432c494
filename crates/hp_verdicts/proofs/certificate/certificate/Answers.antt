use Rattle.std.proofs.Common.{length}
use Rattle.hp_cert.specs.declared.checking.Proved.TheVariants as proved
use Rattle.hp_verdicts.proofs.MadeLaws.{each_found}
use Rattle.hp_verdicts.proofs.certificate.certificate.Goals as goal

pub returns-in-Win-clause-found : goal.returns-in-Win-clause-found
returns-in-Win-clause-found c = each_found c.args.m.now c.args.wide proved.Win c.won_cert.result c.won_cert.ensures.is_of

pub returns-in-Lose-clause-found : goal.returns-in-Lose-clause-found
returns-in-Lose-clause-found c = each_found c.args.m.now c.args.wide (proved.Lose (length c.deref.result.now)) c.lost_cert.result c.lost_cert.ensures.is_of
