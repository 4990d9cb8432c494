use Rattle.hp_cert.proofs.CertmadeLemmas.PlaceLaws.{place_end}
use Rattle.hp_cert.proofs.certmade.lines.place_of.Goals as goal

pub returns-in-None-clause-place : goal.returns-in-None-clause-place
returns-in-None-clause-place c = place_end c.args.nodes.now.keys c.args.index c.len-count.ensures.len c.in-None.ensures.index
