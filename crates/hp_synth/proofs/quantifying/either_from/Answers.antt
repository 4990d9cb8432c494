use Rattle.std.proofs.Common.{Bool, List, sym, subst}
use Rattle.hp_synth.specs.Layouts.{MarksPlaces}
use Rattle.hp_synth.proofs.QuantLaws.{IfOk-either}
use Rattle.hp_synth.proofs.quantifying.either_from.Goals as goal

pub returns-clause-ok : goal.returns-clause-ok
returns-clause-ok c =
    IfOk-either c.args.t.now.vars c.args.layout.now c.requires.layout c.deref.result.now c.args.from c.args.t.now.vars
    (subst (λ n. MarksPlaces c.args.layout.now c.deref.result.now c.args.from n) c.vars-vars.ensures.vars
    (subst (λ (of : List Bool). MarksPlaces c.args.layout.now of c.args.from c.vars-vars.result) (sym c.deref.ensures.value) c.in_ok-of.ensures.marks))
    c.args.t.now c.either_marked.new.t c.args.f c.args.g c.either_marked.result c.either_marked.ensures.ok
