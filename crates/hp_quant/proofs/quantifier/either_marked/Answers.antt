use Rattle.hp_quant.proofs.Marked.{IfOk-either}
use Rattle.hp_quant.proofs.quantifier.either_marked.Goals as goal

pub returns-clause-ok : goal.returns-clause-ok
returns-clause-ok c = IfOk-either c.args.t.now c.seek_anew.new.t c.seek_anew.ensures.keeps c.args.of.now c.args.f c.args.g c.requires.f c.requires.g c.seek_anew.result c.seek_anew.ensures.ok
