use Rattle.std.proofs.Common.{sym, ◌∙◌}
use Rattle.hp_cert.specs.Certmade.Walks.{leaf}
use Rattle.hp_cert.proofs.CertmadeLemmas.TaskLaws.{nothing_to_do}
use Rattle.hp_cert.proofs.certmade.walk.enter.Goals as goal

pub returns-in_None-t-clause-does : goal.returns-in_None-t-clause-does
returns-in_None-t-clause-does c = λ after does.
    nothing_to_do c.args.t.now c.args.stack.now.items c.args.r c.args.nodes.now.keys after (leaf (sym c.branch-t.ensures.node ∙ c.in_None-t.is)) does
