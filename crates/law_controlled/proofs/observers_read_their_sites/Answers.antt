use Rattle.law_controlled.proofs.OwnLaws.{embedded_law, own_embedded_law}
use Rattle.law_controlled.proofs.observers_read_their_sites.Goals as goal

pub returns-clause-site : goal.returns-clause-site
returns-clause-site c = embedded_law

pub returns-clause-own : goal.returns-clause-own
returns-clause-own c = own_embedded_law embedded_law
