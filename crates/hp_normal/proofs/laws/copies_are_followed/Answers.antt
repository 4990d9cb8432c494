use Rattle.hp_normal.proofs.EndsLaws.{ends_law}
use Rattle.hp_normal.proofs.MeaningsLaws.{meanings_law}
use Rattle.hp_normal.proofs.laws.copies_are_followed.Goals as goal

pub returns : goal.returns
returns c = record { ends = ends_law c.args.node.now; meanings = meanings_law c.args.node.now }
