use Rattle.std.proofs.Common.{Bool, List, sym, subst}
use Rattle.hp_synth.specs.Layouts.{MarksPlaces}
use Rattle.hp_synth.proofs.QuantLaws.{IfOk-all}
use Rattle.hp_synth.proofs.quantifying.all_in.Goals as goal

pub returns-clause-ok : goal.returns-clause-ok
returns-clause-ok c =
    IfOk-all c.args.t.now.vars c.args.layout.now c.requires.layout c.deref.result.now c.args.from c.args.to
    (subst (λ (of : List Bool). MarksPlaces c.args.layout.now of c.args.from c.args.to) (sym c.deref.ensures.value) c.in_ok-of.ensures.marks)
    c.args.t.now c.all_marked.new.t c.args.r c.all_marked.result c.all_marked.ensures.ok
