use Rattle.hp_cert.proofs.CertmadeLemmas.WalkLaws.{placed_nodes}
use Rattle.hp_cert.proofs.CertmadeLemmas.FunctionLaws.{visited, page_functions, page_back}
use Rattle.hp_cert.proofs.certmade.making.page_of.Goals as goal

pub lines_of-requires : goal.lines_of-requires
lines_of-requires c = placed_nodes c.args.t.now c.args.nodes.now.keys (visited c.args.t.now c.requires.reduced c.args.roots.now c.args.nodes.now.keys c.requires.has c.requires.walk).placed

pub returns-clause-functions : goal.returns-clause-functions
returns-clause-functions c =
    page_functions c.args.t.now c.requires.reduced c.args.roots.now c.args.nodes.now.keys c.requires.has c.requires.walk c.in_ok-lines.lines.items c.in_ok-numbers.numbers.items c.in_ok-lines.ensures c.in_ok-numbers.ensures

pub returns-clause-back : goal.returns-clause-back
returns-clause-back c =
    page_back c.args.t.now c.requires.reduced c.args.roots.now c.args.nodes.now.keys c.requires.has c.requires.walk c.in_ok-lines.lines.items c.in_ok-numbers.numbers.items c.in_ok-lines.ensures c.in_ok-numbers.ensures
