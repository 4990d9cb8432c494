use Rattle.hp_verdicts.proofs.CanonicalLaws.{lines_one}
use Rattle.hp_verdicts.proofs.OneCertificate.{certificate_one, none_too_long, text_one}
use Rattle.hp_verdicts.proofs.OneMachine.{node_long, node_loss, node_text}
use Rattle.hp_verdicts.proofs.ShownLaws.{node_shown}
use Rattle.hp_verdicts.proofs.WrittenLaws.{node_written}
use Rattle.hp_verdicts.proofs.laws.certificates_are_one.Goals as goal

pub returns-clause-lines : goal.returns-clause-lines
returns-clause-lines c = lines_one

pub returns-clause-certificate : goal.returns-clause-certificate
returns-clause-certificate c = certificate_one

pub returns-clause-text : goal.returns-clause-text
returns-clause-text c = text_one

pub returns-clause-long : goal.returns-clause-long
returns-clause-long c = none_too_long

pub returns-clause-node_text : goal.returns-clause-node_text
returns-clause-node_text c = node_text

pub returns-clause-node_long : goal.returns-clause-node_long
returns-clause-node_long c = node_long

pub returns-clause-node_loss : goal.returns-clause-node_loss
returns-clause-node_loss c = node_loss

pub returns-clause-node_shown : goal.returns-clause-node_shown
returns-clause-node_shown c = node_shown

pub returns-clause-node_written : goal.returns-clause-node_written
returns-clause-node_written c = node_written
