use Rattle.std.proofs.Common.{List, map, sym, subst}
use Rattle.hp_diagram.specs.declared.reference.Ref.{Ref}
use Rattle.hp_synth.specs.Kept.{AllMean}
use Rattle.hp_synth.specs.Layouts.{place}
use Rattle.hp_synth.specs.Valued.{Fun, over, OfState}
use Rattle.hp_synth.proofs.SearchSteps.{map-map}
use Rattle.hp_synth.proofs.solving.lose.Goals as goal

pub returns-clause-solved : goal.returns-clause-solved
returns-clause-solved c = λ g Xs all lost.
    let sets = map (OfState g) Xs in
    let before = subst (λ (fs : List Fun). AllMean c.args.t.now fs c.args.ranks.now) (map-map (over (place c.args.layout.now)) (OfState g) Xs) all in
    let own : AllMean c.renamed.new.t sets c.deref.result.now = subst (λ (rs : List Ref). AllMean c.renamed.new.t sets rs) (sym c.deref.ensures.value) (c.in_ok-own.ensures.ok sets before) in
    (Xs, c.in_ok-ranks.ensures.functions sets own, lost)
